-- What a choice says of the state that offers it.
use Rattle.std.proofs.Common.{◌≡◌, ◌≢◌, ℕ, zero, suc, ◌≤◌, List, [], ◌∷◌, ◌++◌, map, drop, length, Option, Some, None, cond, is_some, refl, sym, subst, ◌∙◌, arith}
use Rattle.std.specs.Prelude.{slice_get}
use Rattle.std.specs.Option.{ForSome}
use Rattle.sched_core.specs.declared.end.Cause.{Cause}
use Rattle.sched_core.specs.declared.setting.Grain.{Grain}
use Rattle.sched_core.specs.declared.setting.Grain.TheVariants.{Process, Statement}
use Rattle.vmodel.specs.declared.part.Part.{Part}
use Rattle.vmodel.specs.declared.choice.Choice.{Choice}
use Rattle.vmodel.specs.declared.choice.Choice.TheVariants.{Run, Update, Advance}
use Rattle.vmodel.specs.Queue.{Later, Queue, without_process}
use Rattle.vmodel.specs.State.{State}
use Rattle.vmodel.specs.Choices.{in_order, first_update, or_advance, active_choices, offered_choices, free_among, active_order, order_by, order_of, taking_or_holding, choices_by, choices}
use Rattle.vmodel.specs.Kept.{count_in, AreHeldBack, IsKept}
use Rattle.vmodel.specs.SlotEnds.{IsIdle}
use Rattle.vmodel.proofs.PlaceLemmas.{count-self, count-cons, count-without}
use Rattle.vmodel.proofs.MovedLemmas.{LastIsActive}
use Rattle.vmodel.specs.RulesLaws.{idle_when, idle_when_ordered}

abbrev pub IsOpen : Choice → Queue → Type 0
IsOpen (Run p) q = 1 ≤ count_in p q.active
IsOpen Update q = q.activated ≢ []
IsOpen Advance q = IsIdle q × (q.future ≢ [])

abbrev pub AreOpen : Queue → List Choice → Type 0
AreOpen q cs = (i : ℕ) (c : Choice) → slice_get cs i ≡ Some c → IsOpen c q

-- each stands among the active ones, no more often
abbrev pub AreActive : Queue → List ℕ → Type 0
AreActive q ps = (r : ℕ) → count_in r ps ≤ count_in r q.active

-- ---- lists of choices

open_one : (q : Queue) (c : Choice) (cs : List Choice) → IsOpen c q → AreOpen q cs → AreOpen q (c ∷ cs)
open_one q c cs first rest zero d e = let same : c ≡ d = cc in subst (λ (x : Choice). IsOpen x q) same first
open_one q c cs first rest (suc i) d e = rest i d e

open_none : (q : Queue) → AreOpen q []
open_none q i c e = cc

open_all : (q : Queue) (xs ys : List Choice) → AreOpen q xs → AreOpen q ys → AreOpen q (xs ++ ys)
open_all q [] ys left right = right
open_all q (x ∷ xs) ys left right =
    open_one q x (xs ++ ys) (left 0 x refl) (open_all q xs ys (λ i c e. left (suc i) c e) right)

open_drop : (q : Queue) (cs : List Choice) → AreOpen q cs → AreOpen q (drop 1 cs)
open_drop q [] are = are
open_drop q (c ∷ cs) are = λ i d e. are (suc i) d e

open_runs : (q : Queue) (ps : List ℕ) → ((p : ℕ) → 1 ≤ count_in p ps → 1 ≤ count_in p q.active) → AreOpen q (map Run ps)
open_runs q [] h = open_none q
open_runs q (p ∷ ps) h = open_one q (Run p) (map Run ps) (h p (omega (arith, count-self p ps)))
    (open_runs q ps (λ r some. h r (omega (arith, some, count-cons r p ps))))

open_update : (q : Queue) (us : List (List Part)) → q.activated ≡ us → AreOpen q (first_update us)
open_update q [] is = open_none q
open_update q (u ∷ us) is = open_one q Update [] (λ none. let no : u ∷ us ≡ [] = sym is ∙ none in cc) (open_none q)

-- ---- what may be taken next

open_active : (q : Queue) (last : Option ℕ) (active : List ℕ) → q.last ≡ last → LastIsActive q → AreActive q active →
    AreOpen q (map Run (in_order last active))
open_active q None active is lasts are = open_runs q active (λ p some. omega (arith, some, are p))
open_active q (Some p) active is lasts are =
    open_one q (Run p) (map Run (without_process p active)) (lasts p is)
    (open_runs q (without_process p active) (λ r some. omega (arith, some, are r, count-without p r active)))

open_choices : (q : Queue) (active : List ℕ) → LastIsActive q → AreActive q active → AreOpen q (active_choices (record q { active = active }))
open_choices q active lasts are =
    open_all q (map Run (in_order q.last active)) (first_update q.activated) (open_active q q.last active refl lasts are)
    (open_update q q.activated refl)

open_offered : (q : Queue) (grain : Grain) (last : Option ℕ) → q.last ≡ last → LastIsActive q → AreOpen q (offered_choices q grain last)
open_offered q Process (Some p) is lasts = open_one q (Run p) [] (lasts p is) (open_none q)
open_offered q Process None is lasts = open_choices q q.active lasts (λ r. omega arith)
open_offered q Statement last is lasts = open_choices q q.active lasts (λ r. omega arith)

free_few : (held active : List ℕ) (r : ℕ) → count_in r (free_among held active) ≤ count_in r active
free_few [] active r = omega arith
free_few (p ∷ held) active r = omega (arith, free_few held (without_process p active) r, count-without p r active)

open_ordered : (held : List ℕ) (q : Queue) → LastIsActive q → AreActive q held → AreOpen q (active_order held q)
open_ordered held q lasts are =
    open_all q (active_choices (record q { active = free_among held q.active })) (map Run held)
    (open_choices q (free_among held q.active) lasts (free_few held q.active))
    (open_runs q held (λ p some. omega (arith, some, are p)))

pub open_order : (held : List ℕ) (q : Queue) (grain : Grain) (last : Option ℕ) → q.last ≡ last → LastIsActive q → AreActive q held →
    AreOpen q (order_by held q grain last)
open_order held q Process (Some p) is lasts are = open_one q (Run p) [] (lasts p is) (open_none q)
open_order held q Process None is lasts are = open_ordered held q lasts are
open_order held q Statement last is lasts are = open_ordered held q lasts are

open_advance : (q : Queue) (cs : List Choice) (future : List (ℕ × Later)) → q.future ≡ future → AreOpen q cs → (length cs ≡ 0 → IsIdle q) →
    AreOpen q (or_advance cs future)
open_advance q [] [] is offers idle = open_none q
open_advance q [] (e ∷ es) is offers idle =
    open_one q Advance [] (idle refl, λ none. let no : e ∷ es ≡ [] = sym is ∙ none in cc) (open_none q)
open_advance q (c ∷ cs) future is offers idle = offers

open_by : (held : Option (List ℕ)) (q : Queue) → LastIsActive q → ForSome held (AreHeldBack q) → AreOpen q (choices_by held q)
open_by None q lasts are =
    open_advance q (offered_choices q q.grain q.last) q.future refl (open_offered q q.grain q.last refl lasts) (idle_when q)
open_by (Some held) q lasts are =
    let order = open_order held q q.grain q.last refl lasts (are held refl).active in
    open_advance q (taking_or_holding (order_of held q)) q.future refl
    (open_all q (order_of held q) (drop 1 (order_of held q)) order (open_drop q (order_of held q) order)) (idle_when_ordered held q)

pub open_choice : (s : State) (i : ℕ) (c : Choice) → IsKept s → slice_get (choices s) i ≡ Some c → (s.cause ≡ None) × IsOpen c s.queue
open_choice s i c kept e = by_cause s.cause refl e
  where
    by_cause : (cause : Option Cause) → s.cause ≡ cause → slice_get (cond (is_some cause) [] (choices_by s.held_back s.queue)) i ≡ Some c →
        (s.cause ≡ None) × IsOpen c s.queue
    by_cause (Some cause) is e = cc
    by_cause None is e = (is, open_by s.held_back s.queue kept.place.last kept.held i c e)
