use Rattle.std.proofs.Common.{◌+◌, length, arith}
use Rattle.explore.specs.declared.ways.TheConstants.{ROOM}
use Rattle.explore.proofs.WaysLemmas.{remembers_less, remembers_more}
use Rattle.explore.proofs.ways.remember.Goals as goal

pub loop-state-preserved-in_ok-insert : goal.loop-state-preserved-in_ok-insert
loop-state-preserved-in_ok-insert g c = record {
  remembers = remembers_more g.S.PartialEq.eq g.met.S.Eq.laws.refl (length c.args.search.now.book.entries + ROOM) c.args.search.now.ways.entries c.args.checkpoints.items c.loop-state.checkpoints.items c.pop.new.self.items c.in-Some.field-0 c.args.end c.args.station c.loop-state.search.ways.entries c.insert.new.self.entries
      c.loop-state.invariant.remembers c.in-Some.ensures.items
      (omega (arith, c.if-len-most.true, c.saturating_add-most.ensures, c.len.ensures.count, c.len-in-Some.ensures.len))
      c.in_ok-insert.ensures.entries;
  book = c.loop-state.invariant.book;
}

pub loop-state-preserved : goal.loop-state-preserved
loop-state-preserved g c = record {
  remembers = remembers_less g.S.PartialEq.eq (length c.args.search.now.book.entries + ROOM) c.args.search.now.ways.entries c.args.checkpoints.items c.loop-state.checkpoints.items c.pop.new.self.items c.in-Some.field-0 c.args.end c.args.station c.loop-state.search.ways.entries
      c.loop-state.invariant.remembers c.in-Some.ensures.items
      (omega (arith, c.if-len-most.false, c.saturating_add-most.ensures, c.len.ensures.count, c.len-in-Some.ensures.len, c.len-in-Some.ensures.small));
  book = c.loop-state.invariant.book;
}
