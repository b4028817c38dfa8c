-- What a choice is: a process below 256, or no process.
use Rattle.std.proofs.Common.{◌≡◌, ℕ, zero, suc, ◌<◌, List, [], ◌∷◌, ◌++◌, length, map, Option, Some, None, refl, sym, arith}
use Rattle.std.specs.Prelude.{slice_get}
use Rattle.std.specs.Option.{ForSome}
use Rattle.sched_core.specs.declared.setting.Grain.{Grain}
use Rattle.sched_core.specs.declared.setting.Grain.TheVariants.{Process, Statement}
use Rattle.vmodel.specs.declared.part.Part.{Part}
use Rattle.vmodel.specs.declared.choice.Choice.{Choice}
use Rattle.vmodel.specs.declared.choice.Choice.TheVariants.{Run, Update, Advance}
use Rattle.vmodel.specs.Choices.{IsWithin, first_update, in_order, offered_choices}
use Rattle.vmodel.specs.Queue.{Queue}
use Rattle.vstrata.specs.Inner.{process_in}
use Rattle.vstrata.specs.Strata.{slot_choices}

-- a process that is chosen is below 256
pub few_chosen : (choice : Option Choice) (p : ℕ) → ForSome choice IsWithin → Some p ≡ process_in choice → p < 256
few_chosen None p within is = cc
few_chosen (Some (Run q)) p within is = let same : p ≡ q = cc in omega (arith, same, within (Run q) refl)
few_chosen (Some Update) p within is = cc
few_chosen (Some Advance) p within is = cc

-- a choice that is no process is the first update
update_among : (ps : List ℕ) (us : List (List Part)) (i : ℕ) → i < length (map Run ps ++ first_update us) →
    process_in (slice_get (map Run ps ++ first_update us) i) ≡ None →
    (slice_get (map Run ps ++ first_update us) i ≡ Some Update) × (0 < length us)
update_among [] [] i lt isnt = absurd (omega (arith, lt))
update_among [] (u ∷ us) zero lt isnt = (refl, omega arith)
update_among [] (u ∷ us) (suc i) lt isnt = absurd (omega (arith, lt))
update_among (p ∷ ps) us zero lt isnt = cc
update_among (p ∷ ps) us (suc i) lt isnt = update_among ps us i (omega (arith, lt)) isnt

update_offered : (q : Queue) (grain : Grain) (last : Option ℕ) (i : ℕ) → i < length (offered_choices q grain last) →
    process_in (slice_get (offered_choices q grain last) i) ≡ None →
    (slice_get (offered_choices q grain last) i ≡ Some Update) × (0 < length q.activated)
update_offered q Process (Some p) zero lt isnt = cc
update_offered q Process (Some p) (suc i) lt isnt = absurd (omega (arith, lt))
update_offered q Process None i lt isnt = update_among (in_order q.last q.active) q.activated i lt isnt
update_offered q Statement last i lt isnt = update_among (in_order q.last q.active) q.activated i lt isnt

pub update_next : (q : Queue) (i : ℕ) → i < length (slot_choices q) → None ≡ process_in (slice_get (slot_choices q) i) →
    (slice_get (slot_choices q) i ≡ Some Update) × (0 < length q.activated)
update_next q i lt isnt = update_offered q q.grain q.last i lt (sym isnt)

pub some_first : (us : List (List Part)) → 0 < length us → None ≡ slice_get us 0 → ⊥
some_first [] lt is = omega (arith, lt)
some_first (u ∷ us) lt is = cc
