use Rattle.std.proofs.Common.{◌≡◌, ℕ, List, ap, subst, ◌∙◌}
use Rattle.std.specs.Prelude.{slice_get}
use Rattle.vmodel.specs.Queue.{Later, slot_with_update}
use Rattle.vmodel.specs.Inner.{place_of_time, SomeIs, NoneIs}
use Rattle.plain_steps.proofs.PlacedLemmas.{found_by, absent_by}
use Rattle.plain_steps.proofs.future.post_at.Goals as goal

pub returns-then-stands_at-clause-ok : goal.returns-then-stands_at-clause-ok
returns-then-stands_at-clause-ok c =
    let k = c.place_among-place.result in
    found_by c.args.time (slot_with_update c.args.parts) c.args.future.now.items k c.index_mut.result.now c.update_with.new.entry
    (c.place_among-place.ensures.exact ∙ ap (place_of_time c.args.time) c.deref.ensures.value)
    (subst (λ (xs : List (ℕ × Later)). SomeIs (λ e. e.0 ≡ c.args.time) (slice_get xs k)) c.deref-2.ensures.value
    (c.stands_at.ensures.yes c.if-stands_at.true))
    c.index_mut.ensures.value c.in_ok-update_with.ensures.ok

pub returns-clause-ok : goal.returns-clause-ok
returns-clause-ok c =
    let k = c.place_among-place.result in
    c.in_ok-insert.ensures.items
    ∙ absent_by c.args.time (slot_with_update c.args.parts) c.args.future.now.items k c.in_ok-entry.entry
    (c.place_among-place.ensures.exact ∙ ap (place_of_time c.args.time) c.deref.ensures.value)
    (subst (λ (xs : List (ℕ × Later)). NoneIs (λ e. e.0 ≡ c.args.time) (slice_get xs k)) c.deref-2.ensures.value
    (c.stands_at.ensures.no c.if-stands_at.false))
    c.in_ok-entry.ensures
