use Rattle.std.proofs.Common.{ℕ, ◌+◌, ◌-◌, List, ◌++◌, length, drop, slice_get, true, sym, ap, ◌∙◌, arith, add-one}
use Rattle.footprints.specs.declared.thing.Thing.{Thing}
use Rattle.footprints.specs.Footprints.{reads_at}
use Rattle.cause.specs.Behind.{places_in, read_from}
use Rattle.cause.proofs.BlockLemmas.{none_more, one_read}
use Rattle.cause.proofs.block.read_from.Goals as goal

pub returns-in_default : goal.returns-in_default
returns-in_default c =
    let actions = c.args.actions.now in
    let so = c.loop-k in
    none_more actions so.places.items so.k (length actions - so.k) so.things (read_from actions (length actions) c.args.body.now)
    (ap (λ (list : List ℕ). slice_get list so.k) (sym c.deref.ensures.value) ∙ sym c.place_at.ensures ∙ c.in_default.is) so.invariant

pub loop-k-preserved : goal.loop-k-preserved
loop-k-preserved c =
    let actions = c.args.actions.now in
    let so = c.loop-k in
    let place : ℕ = c.in-Some.place in
    let left : ℕ = length actions - (so.k + 1) in
    let places : List ℕ = so.places.items in
    let reads : List Thing = reads_at (slice_get actions place) true in
    let within : List ℕ = places_in (slice_get actions place) in
    ap (λ (list : List Thing). list ++ read_from actions left (drop (so.k + 1) c.put_within.new.places.items))
    (c.in_ok-put_all.ensures ∙ ap (λ (more : List Thing). so.things ++ more) (c.as_slice.ensures ∙ c.in_ok-reads_at.ensures))
    ∙ ap (λ (list : List ℕ). (so.things ++ reads) ++ read_from actions left (drop (so.k + 1) list)) c.in_ok-put_within.ensures
    ∙ ap (λ (j : ℕ). (so.things ++ reads) ++ read_from actions left (drop j (places ++ within))) (add-one so.k)
    ∙ one_read actions places so.k (length actions - so.k) left place so.things (read_from actions (length actions) c.args.body.now)
    (ap (λ (list : List ℕ). slice_get list so.k) (sym c.deref.ensures.value) ∙ sym c.place_at.ensures ∙ c.in-Some.is)
    (omega (arith, c.loop-k-test.true)) so.invariant
