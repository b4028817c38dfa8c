use Rattle.std.proofs.Common.{sym, ◌∙◌}
use Rattle.explore.proofs.TakenMarks.{none_taken, mark_skipped, mark_noted, all_taken}
use Rattle.explore.proofs.marks.into_marks.Goals as goal

pub loop-entry-init : goal.loop-entry-init
loop-entry-init g c = record {
  read = none_taken (g.P.Space.rules c.args.space.now) c.args.limits.now c.args.book.entries c.into_iter-entry-iterator.result c.clear.new.self.entries
      (c.into_iter-entry-iterator.ensures.into_iter_gives.0 ∙ c.into_entries-entry-items.ensures.entries) c.clear.ensures.empty;
  distinct = c.clear.ensures.unique;
}

pub loop-entry-preserved-in-Continue-1 : goal.loop-entry-preserved-in-Continue-1
loop-entry-preserved-in-Continue-1 g c =
    let r = g.P.Space.rules c.args.space.now in
    let law = g.met.P.Space.lawful c.args.space.now in
    record {
      read = mark_noted r law c.args.limits.now g.P.State.PartialEq.eq (g.met.P.Space.same_is_eq c.args.space.now) c.args.book.entries
          c.into_entries-entry-items.ensures.undominated c.requires
          c.loop-entry.entry-iterator c.next.new.self c.loop-entry.marks.entries c.note.new.marks.entries c.in-Some.entry c.loop-entry.invariant.read c.in-Some.ensures.steps
          (sym c.is_mark.ensures ∙ c.if-is_mark.true) c.in_ok-note.ensures.distinct c.in_ok-note.ensures.put;
      distinct = c.in_ok-note.ensures.distinct;
    }

pub loop-entry-preserved : goal.loop-entry-preserved
loop-entry-preserved g c =
    let r = g.P.Space.rules c.args.space.now in
    let law = g.met.P.Space.lawful c.args.space.now in
    record {
      read = mark_skipped r law c.args.limits.now c.args.book.entries c.loop-entry.entry-iterator c.next.new.self c.loop-entry.marks.entries c.in-Some.entry
          c.loop-entry.invariant.read c.in-Some.ensures.steps (sym c.is_mark.ensures ∙ c.if-is_mark.false);
      distinct = c.loop-entry.invariant.distinct;
    }

pub returns-clause-read : goal.returns-clause-read
returns-clause-read g c =
    all_taken (g.P.Space.rules c.args.space.now) c.args.limits.now c.args.book c.loop-entry.entry-iterator c.loop-entry.marks.entries c.loop-entry.invariant.read c.in-None.ensures.steps.0
