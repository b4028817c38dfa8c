-- The first of the choices, where departures only take and nobody made the last step.
use Rattle.std.proofs.Common.{◌≡◌, ℕ, ◌==◌, true, false, List, [], ◌∷◌, ◌++◌, length, map, None, Some, refl, ap, ◌∙◌, option_map, arith}
use Rattle.std.specs.Prelude.{slice_get}
use Rattle.sched_core.specs.declared.setting.Grain.{Grain}
use Rattle.sched_core.specs.declared.setting.Grain.TheVariants.{Process, Statement}
use Rattle.vmodel.specs.declared.choice.Choice.{Choice}
use Rattle.vmodel.specs.declared.choice.Choice.TheVariants.{Run, Update, Advance}
use Rattle.vmodel.specs.declared.part.Part.{Part}
use Rattle.vmodel.specs.Queue.{Later, Queue}
use Rattle.vmodel.specs.Choices.{in_order, first_update, or_advance, active_choices, offered_choices, queue_choices}

offered_alike : (q : Queue) (grain : Grain) → offered_choices q grain None ≡ active_choices q
offered_alike q Process = refl
offered_alike q Statement = refl

offers : (q : Queue) → q.last ≡ None → queue_choices q ≡ or_advance (map Run q.active ++ first_update q.activated) q.future
offers q none =
    ap (λ last. or_advance (offered_choices q q.grain last) q.future) none
    ∙ ap (λ xs. or_advance xs q.future) (offered_alike q q.grain)
    ∙ ap (λ last. or_advance (map Run (in_order last q.active) ++ first_update q.activated) q.future) none

active_first : (active : List ℕ) (updates : List Choice) (future : List (ℕ × Later)) (p : ℕ) → slice_get active 0 ≡ Some p →
    slice_get (or_advance (map Run active ++ updates) future) 0 ≡ Some (Run p)
active_first [] updates future p is = cc
active_first (q ∷ qs) updates future p is = ap (option_map Run) is

update_first : (active : List ℕ) (us : List (List Part)) (future : List (ℕ × Later)) → slice_get active 0 ≡ None → (length us == 0) ≡ false →
    slice_get (or_advance (map Run active ++ first_update us) future) 0 ≡ Some Update
update_first [] [] future none is = cc
update_first [] (u ∷ us) future none is = refl
update_first (p ∷ ps) us future none is = cc

advance_first : (active : List ℕ) (us : List (List Part)) (future : List (ℕ × Later)) → slice_get active 0 ≡ None → (length us == 0) ≡ true →
    (length future == 0) ≡ false → slice_get (or_advance (map Run active ++ first_update us) future) 0 ≡ Some Advance
advance_first [] [] [] none no_update is = cc
advance_first [] [] (e ∷ es) none no_update is = refl
advance_first [] (u ∷ us) future none no_update is = absurd (grind arith)
advance_first (p ∷ ps) us future none no_update is = cc

nothing_first : (active : List ℕ) (us : List (List Part)) (future : List (ℕ × Later)) → slice_get active 0 ≡ None → (length us == 0) ≡ true →
    (length future == 0) ≡ true → slice_get (or_advance (map Run active ++ first_update us) future) 0 ≡ None
nothing_first [] [] [] none no_update is = refl
nothing_first [] [] (e ∷ es) none no_update is = absurd (grind arith)
nothing_first [] (u ∷ us) future none no_update is = absurd (grind arith)
nothing_first (p ∷ ps) us future none no_update is = cc

-- an active process goes on first
pub first_active : (q : Queue) (p : ℕ) → q.last ≡ None → slice_get q.active 0 ≡ Some p → slice_get (queue_choices q) 0 ≡ Some (Run p)
first_active q p none is = ap (λ xs. slice_get xs 0) (offers q none) ∙ active_first q.active (first_update q.activated) q.future p is

-- else the first update is written
pub first_written : (q : Queue) → q.last ≡ None → slice_get q.active 0 ≡ None → (length q.activated == 0) ≡ false → slice_get (queue_choices q) 0 ≡ Some Update
first_written q none idle is = ap (λ xs. slice_get xs 0) (offers q none) ∙ update_first q.active q.activated q.future idle is

-- else the time goes on
pub first_later : (q : Queue) → q.last ≡ None → slice_get q.active 0 ≡ None → (length q.activated == 0) ≡ true → (length q.future == 0) ≡ false →
    slice_get (queue_choices q) 0 ≡ Some Advance
first_later q none idle no_update is = ap (λ xs. slice_get xs 0) (offers q none) ∙ advance_first q.active q.activated q.future idle no_update is

-- else there is none
pub first_none : (q : Queue) → q.last ≡ None → slice_get q.active 0 ≡ None → (length q.activated == 0) ≡ true → (length q.future == 0) ≡ true →
    slice_get (queue_choices q) 0 ≡ None
first_none q none idle no_update is = ap (λ xs. slice_get xs 0) (offers q none) ∙ nothing_first q.active q.activated q.future idle no_update is
