-- What may be taken where departures may hold back may be taken where they only take.
use Rattle.std.proofs.Common.{◌≡◌, ◌≢◌, inl, inr, ℕ, zero, suc, cond, is_some, map, List, [], ◌∷◌, ◌++◌, length, Option, Some, None, refl, sym, ap, subst, ◌∙◌, arith}
use Rattle.std.specs.Prelude.{slice_get}
use Rattle.std.proofs.lemmas.Bool.Decides.{eqb_tells}
use Rattle.sched_core.specs.declared.end.Cause.{Cause}
use Rattle.sched_core.specs.declared.setting.Grain.{Grain}
use Rattle.sched_core.specs.declared.setting.Grain.TheVariants.{Process, Statement}
use Rattle.vmodel.specs.declared.part.Part.{Part}
use Rattle.vmodel.specs.declared.choice.Choice.{Choice}
use Rattle.vmodel.specs.declared.choice.Choice.TheVariants.{Run, Update, Advance}
use Rattle.vmodel.specs.Queue.{Later, Queue, without_process}
use Rattle.vmodel.specs.State.{State}
use Rattle.vmodel.specs.Choices.{in_order, first_update, or_advance, advance_choice, active_choices, offered_choices, free_among, active_order, order_by, order_of, taking_or_holding, choices_by, choices}
use Rattle.vmodel.specs.Kept.{IsKept}
use Rattle.vmodel.specs.SlotEnds.{IsIdle}
use Rattle.holding_law.specs.TakingLaws.{without_held}
use Rattle.holding_law.proofs.MemberLemmas.{IsIn, in_still}
use Rattle.holding_law.proofs.MayLemmas.{LastIsIn, MayGo, last_in, may_go}

-- ---- lists of choices

abbrev pub IsAmong : List Choice → Choice → Type 0
IsAmong cs c = (j : ℕ) × (slice_get cs j ≡ Some c)

among_front : (xs ys : List Choice) (c : Choice) → IsAmong xs c → IsAmong (xs ++ ys) c
among_front [] ys c (j, is) = cc
among_front (x ∷ xs) ys c (zero, is) = (0, is)
among_front (x ∷ xs) ys c (suc j, is) = let there = among_front xs ys c (j, is) in (suc there.0, there.1)

among_behind : (xs ys : List Choice) (c : Choice) → IsAmong ys c → IsAmong (xs ++ ys) c
among_behind [] ys c there = there
among_behind (x ∷ xs) ys c there = let further = among_behind xs ys c there in (suc further.0, further.1)

among_runs : (ps : List ℕ) (p : ℕ) → IsIn p ps → IsAmong (map Run ps) (Run p)
among_runs [] p some = absurd some
among_runs (q ∷ ps) p (inl e) = (0, ap (λ (n : ℕ). Some (Run n)) (sym e))
among_runs (q ∷ ps) p (inr some) = let rest = among_runs ps p some in (suc rest.0, rest.1)

among_advance : (cs : List Choice) (future : List (ℕ × Later)) (c : Choice) → IsAmong cs c → IsAmong (or_advance cs future) c
among_advance [] future c (j, is) = cc
among_advance (x ∷ cs) future c there = there

-- ---- what is active

among_active : (last : Option ℕ) (active : List ℕ) (p : ℕ) → IsIn p active → IsAmong (map Run (in_order last active)) (Run p)
among_active None active p some = among_runs active p some
among_active (Some l) active p some = elim (eqb_tells p l) [
  | inl h ↦ (0, ap (λ (n : ℕ). Some (Run n)) (sym h.1))
  | inr h ↦ (let rest = among_runs (without_process l active) p (in_still l p active h.1 some) in (suc rest.0, rest.1))
]

among_updates : (us : List (List Part)) → us ≢ [] → IsAmong (first_update us) Update
among_updates [] some = absurd (some refl)
among_updates (u ∷ us) some = (0, refl)

advance_there : (future : List (ℕ × Later)) → future ≢ [] → IsAmong (advance_choice future) Advance
advance_there [] some = absurd (some refl)
advance_there (e ∷ es) some = (0, refl)

idle_active : (q : Queue) (last : Option ℕ) → q.last ≡ last → IsIdle q → LastIsIn q → active_choices q ≡ []
idle_active q None is idle lasts = λ k. map Run (in_order (is k) (idle.0 k)) ++ first_update (idle.1 k)
idle_active q (Some p) is idle lasts = absurd (subst (IsIn p) idle.0 (lasts p is))

-- what is open is among the choices, where the process that made the last step doesn't go on alone
among_open : (q : Queue) (c : Choice) → MayGo q c → LastIsIn q → IsAmong (or_advance (active_choices q) q.future) c
among_open q (Run p) some lasts =
    among_advance (active_choices q) q.future (Run p)
    (among_front (map Run (in_order q.last q.active)) (first_update q.activated) (Run p) (among_active q.last q.active p some))
among_open q Update some lasts =
    among_advance (active_choices q) q.future Update
    (among_behind (map Run (in_order q.last q.active)) (first_update q.activated) Update (among_updates q.activated some))
among_open q Advance allowed lasts =
    subst (λ (cs : List Choice). IsAmong (or_advance cs q.future) Advance) (sym (idle_active q q.last refl allowed.0 lasts))
    (advance_there q.future allowed.1)

-- ---- of each choice

among_by : (held : List ℕ) (q : Queue) (i : ℕ) (c : Choice) (grain : Grain) (last : Option ℕ) → MayGo q c → LastIsIn q →
    slice_get (or_advance (taking_or_holding (order_by held q grain last)) q.future) i ≡ Some c →
    IsAmong (or_advance (offered_choices q grain last) q.future) c
among_by held q i c Process (Some p) some lasts is = (i, is)
among_by held q i c Process None some lasts is = among_open q c some lasts
among_by held q i c Statement last some lasts is = among_open q c some lasts

among_taking : (o : Option (List ℕ)) (q : Queue) (i : ℕ) (c : Choice) → MayGo q c → LastIsIn q → slice_get (choices_by o q) i ≡ Some c →
    IsAmong (choices_by None q) c
among_taking None q i c some lasts is = (i, is)
among_taking (Some held) q i c some lasts is = among_by held q i c q.grain q.last some lasts is

pub among : (s : State) (i : ℕ) (c : Choice) → IsKept s → slice_get (choices s) i ≡ Some c → IsAmong (choices (without_held s)) c
among s i c kept is =
    let may = may_go s i c kept is in
    let now : slice_get (choices_by s.held_back s.queue) i ≡ Some c =
    ap (λ (cause : Option Cause). slice_get (cond (is_some cause) [] (choices_by s.held_back s.queue)) i) (sym may.0) ∙ is in
    subst (λ (cause : Option Cause). IsAmong (cond (is_some cause) [] (choices_by None s.queue)) c) (sym may.0)
    (among_taking s.held_back s.queue i c may.1 (last_in s kept) now)

-- ---- where there is no choice

none_left : (xs ys : List Choice) → xs ++ ys ≡ [] → (xs ≡ []) × (ys ≡ [])
none_left [] ys none = (refl, none)
none_left (x ∷ xs) ys none = cc

none_held : (held : List ℕ) → map Run held ≡ [] → held ≡ []
none_held [] none = refl
none_held (p ∷ held) none = cc

nothing_active : (held : List ℕ) (q : Queue) → active_order held q ≡ [] → active_choices q ≡ []
nothing_active held q none =
    let parts = none_left (active_choices (record q { active = free_among held q.active })) (map Run held) none in
    ap (λ (ps : List ℕ). active_choices (record q { active = free_among ps q.active })) (sym (none_held held parts.1)) ∙ parts.0

nothing_offered : (held : List ℕ) (q : Queue) (grain : Grain) (last : Option ℕ) → order_by held q grain last ≡ [] → offered_choices q grain last ≡ []
nothing_offered held q Process (Some p) none = cc
nothing_offered held q Process None none = nothing_active held q none
nothing_offered held q Statement last none = nothing_active held q none

-- neither one of the order, nor an advance
no_order_left : (order : List Choice) (future : List (ℕ × Later)) → length (or_advance (taking_or_holding order) future) ≡ 0 →
    (order ≡ []) × (length (advance_choice future) ≡ 0)
no_order_left [] future none = (refl, none)
no_order_left (c ∷ cs) future none = absurd (omega (arith, none))

none_by : (o : Option (List ℕ)) (q : Queue) → length (choices_by o q) ≡ 0 → length (choices_by None q) ≡ 0
none_by None q none = none
none_by (Some held) q none =
    let parts = no_order_left (order_of held q) q.future none in
    ap (λ (cs : List Choice). length (or_advance cs q.future)) (nothing_offered held q q.grain q.last parts.0) ∙ parts.1

pub none_too : (s : State) → length (choices s) ≡ 0 → length (choices (without_held s)) ≡ 0
none_too s none = by_cause s.cause none
  where
    by_cause : (cause : Option Cause) → length (cond (is_some cause) [] (choices_by s.held_back s.queue)) ≡ 0 →
        length (cond (is_some cause) [] (choices_by None s.queue)) ≡ 0
    by_cause (Some cause) none = refl
    by_cause None none = none_by s.held_back s.queue none
