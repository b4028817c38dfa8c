use Rattle.std.proofs.Common.{Ok}
use Rattle.basis.specs.declared.memory.NoMemory.{NoMemory}
use Rattle.dump_match.proofs.ComparedLemmas.{takes_one, takes_repeated, takes_width}
use Rattle.dump_match.proofs.comparison.Comparison.take.Goals as goal

pub returns-in-Compared-clause-takes : goal.returns-in-Compared-clause-takes
returns-in-Compared-clause-takes c wrapped variables like met = takes_width wrapped variables c.push_name-in-Compared.result c.args.told.now
    c.args.likeness c.in-OtherWidth.number c.args.met.now c.meet.new.met c.meet.result c.args.self.now.pairs.items c.in-OtherWidth.is
    c.meet.ensures met

pub returns-in-OtherWidth-meet-clause-takes : goal.returns-in-OtherWidth-meet-clause-takes
returns-in-OtherWidth-meet-clause-takes c wrapped variables like met = takes_width wrapped variables {T = Unit {0}} {E = NoMemory} (Ok tt) c.args.told.now
    c.args.likeness c.in-OtherWidth.number c.args.met.now c.meet.new.met c.meet.result c.args.self.now.pairs.items c.in-OtherWidth.is
    c.meet.ensures met

pub returns-in-Unmet-clause-takes : goal.returns-in-Unmet-clause-takes
returns-in-Unmet-clause-takes c wrapped variables like met = takes_width wrapped variables {T = Unit {0}} {E = NoMemory} (Ok tt) c.args.told.now
    c.args.likeness c.in-OtherWidth.number c.args.met.now c.meet.new.met c.meet.result c.args.self.now.pairs.items c.in-OtherWidth.is
    c.meet.ensures met

pub returns-in-Compared-meet-clause-takes : goal.returns-in-Compared-meet-clause-takes
returns-in-Compared-meet-clause-takes c wrapped variables like met = takes_repeated wrapped variables c.push_name-in-Compared-meet.result
    c.args.told.now c.args.likeness c.in-Same.number c.args.met.now c.meet-in-Same.new.met c.meet-in-Same.result c.args.self.now.pairs.items
    c.in-Same.is c.meet-in-Same.ensures c.in-Compared-meet.is met

pub returns-in-OtherWidth-meet-2-clause-takes : goal.returns-in-OtherWidth-meet-2-clause-takes
returns-in-OtherWidth-meet-2-clause-takes c wrapped variables like met = takes_one wrapped variables c.follow.result c.args.told.now c.args.likeness
    c.in-Same.number c.args.met.now c.meet-in-Same.new.met c.meet-in-Same.result c.args.self.now.pairs.items c.follow.new.self.pairs.items
    c.in-Same.is like c.follow.ensures.keeps c.follow.ensures.compared c.meet-in-Same.ensures met

pub returns-in-Unmet-meet-clause-takes : goal.returns-in-Unmet-meet-clause-takes
returns-in-Unmet-meet-clause-takes c wrapped variables like met = takes_one wrapped variables c.follow-in-Unmet-meet.result c.args.told.now
    c.args.likeness c.in-Same.number c.args.met.now c.meet-in-Same.new.met c.meet-in-Same.result c.args.self.now.pairs.items
    c.follow-in-Unmet-meet.new.self.pairs.items c.in-Same.is like c.follow-in-Unmet-meet.ensures.keeps c.follow-in-Unmet-meet.ensures.compared
    c.meet-in-Same.ensures met
