use Rattle.std.proofs.Common.{sym, arith, ◌∙◌}
use Rattle.std.proofs.lemmas.Option.{slice_get_within}
use Rattle.explore.proofs.MarkLemmas.{marks_more, marks_skip, marks_read}
use Rattle.explore.proofs.marks.list_marks.Goals as goal
use Rattle.explore.proofs.marks.list_marks.Goals.{then-is_mark+in_ok-copy+in_ok-copy-2+in_ok-note, else-is_mark}

pub loop-place-preserved : goal.loop-place-preserved
loop-place-preserved g c =
    let r = g.P.Space.rules c.args.space.now in
    let law = g.met.P.Space.lawful c.args.space.now in
    let limits = c.args.limits.now in
    elim c.if-is_mark.branch [
      | then-is_mark+in_ok-copy+in_ok-copy-2+in_ok-note w ↦ rw w.marks-is (record {
        marks = marks_more r law limits g.P.State.PartialEq.eq (g.met.P.Space.same_is_eq c.args.space.now) c.args.book.now.entries c.len-place-end.ensures.undominated c.requires
            c.loop-place.place c.loop-place.marks.entries w.note.new.marks.entries c.read-entry.result.now w.in_ok-copy.field-0 w.in_ok-copy-2.field-0 c.loop-place.invariant.marks c.read-entry.ensures
            (sym c.is_mark.ensures ∙ w.if-is_mark.true) w.in_ok-copy.ensures w.in_ok-copy-2.ensures.equal w.in_ok-note.ensures.distinct w.in_ok-note.ensures.put;
        distinct = w.in_ok-note.ensures.distinct;
      })
      | else-is_mark w ↦ rw w.marks-is (record {
        marks = marks_skip r law limits c.args.book.now.entries c.loop-place.place c.loop-place.marks.entries c.read-entry.result.now c.loop-place.invariant.marks c.read-entry.ensures (sym c.is_mark.ensures ∙ w.if-is_mark.false);
        distinct = c.loop-place.invariant.distinct;
      })
    ]

pub returns-clause-read : goal.returns-clause-read
returns-clause-read g c =
    marks_read (g.P.Space.rules c.args.space.now) c.args.limits.now c.args.book.now c.loop-place.place c.loop-place.marks.entries c.loop-place.invariant.marks (λ i e at.
    (let lt = slice_get_within c.args.book.now.entries i e at in
    omega (arith, lt, c.len-place-end.ensures.count, c.loop-place-test.false)))
