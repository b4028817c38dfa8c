use Rattle.std.proofs.Common.{refl}
use Rattle.racebook.proofs.RaceLemmas.{lines_more, lines_same_in}
use Rattle.racebook.proofs.slot.put_line_race.Goals as goal

pub returns-in_ok-push : goal.returns-in_ok-push
returns-in_ok-push c = λ slot_states of up. lines_more slot_states c.args.slot.now c.args.races.now.items c.push.new.self.items c.args.time c.in_ok-race.field-0 c.in-Some.race
    c.in_ok-push.ensures.items c.in-Some.is of c.requires up c.in_ok-race.ensures

pub returns-in_default : goal.returns-in_default
returns-in_default c = λ slot_states of up. lines_same_in slot_states c.args.slot.now c.args.races.now.items c.args.races.now.items c.args.time c.in_ok-race.field-0
    refl c.in_default.is of up c.in_ok-race.ensures
