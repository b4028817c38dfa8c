-- What a choice says of the state that has it.
use Rattle.std.proofs.Common.{◌≡◌, ◌≢◌, inl, inr, ℕ, zero, suc, List, [], ◌∷◌, ◌++◌, map, drop, length, Option, Some, None, cond, is_some, refl, sym, subst, ◌∙◌, arith}
use Rattle.std.specs.Prelude.{slice_get}
use Rattle.std.specs.Option.{ForSome}
use Rattle.sched_core.specs.declared.end.Cause.{Cause}
use Rattle.sched_core.specs.declared.setting.Grain.{Grain}
use Rattle.sched_core.specs.declared.setting.Grain.TheVariants.{Process, Statement}
use Rattle.vmodel.specs.declared.part.Part.{Part}
use Rattle.vmodel.specs.declared.choice.Choice.{Choice}
use Rattle.vmodel.specs.declared.choice.Choice.TheVariants.{Run, Update, Advance}
use Rattle.vmodel.specs.Queue.{Later, Queue, without_process}
use Rattle.vmodel.specs.State.{State}
use Rattle.vmodel.specs.Choices.{in_order, first_update, or_advance, active_choices, offered_choices, free_among, active_order, order_by, order_of, taking_or_holding, choices_by, choices}
use Rattle.vmodel.specs.Kept.{AreHeldBack, IsKept}
use Rattle.vmodel.specs.SlotEnds.{IsIdle}
use Rattle.vmodel.specs.RulesLaws.{idle_when, idle_when_ordered}
use Rattle.holding_law.proofs.MemberLemmas.{IsIn, in_counts, counts_in, in_left, in_free}

abbrev pub MayGo : Queue → Choice → Type 0
MayGo q (Run p) = IsIn p q.active
MayGo q Update = q.activated ≢ []
MayGo q Advance = IsIdle q × (q.future ≢ [])

abbrev AllMayGo : Queue → List Choice → Type 0
AllMayGo q [] = Unit {0}
AllMayGo q (c ∷ cs) = MayGo q c × AllMayGo q cs

abbrev pub LastIsIn : Queue → Type 0
LastIsIn q = ForSome q.last (λ p. IsIn p q.active)

abbrev AreIn : List ℕ → Queue → Type 0
AreIn ps q = (p : ℕ) → IsIn p ps → IsIn p q.active

-- ---- lists of choices

may_at : (q : Queue) (cs : List Choice) (i : ℕ) (c : Choice) → AllMayGo q cs → slice_get cs i ≡ Some c → MayGo q c
may_at q [] i c all is = cc
may_at q (x ∷ cs) zero c all is = let same : x ≡ c = cc in subst (MayGo q) same all.0
may_at q (x ∷ cs) (suc i) c all is = may_at q cs i c all.1 is

may_both : (q : Queue) (xs ys : List Choice) → AllMayGo q xs → AllMayGo q ys → AllMayGo q (xs ++ ys)
may_both q [] ys one two = two
may_both q (x ∷ xs) ys one two = (one.0, may_both q xs ys one.1 two)

may_drop : (q : Queue) (cs : List Choice) → AllMayGo q cs → AllMayGo q (drop 1 cs)
may_drop q [] all = tt
may_drop q (c ∷ cs) all = all.1

may_run : (q : Queue) (ps : List ℕ) → AreIn ps q → AllMayGo q (map Run ps)
may_run q [] are = tt
may_run q (p ∷ ps) are = (are p (inl refl), may_run q ps (λ r h. are r (inr h)))

may_update : (q : Queue) (us : List (List Part)) → q.activated ≡ us → AllMayGo q (first_update us)
may_update q [] is = tt
may_update q (u ∷ us) is = ((λ none. let no : u ∷ us ≡ [] = sym is ∙ none in cc), tt)

may_advance : (q : Queue) (cs : List Choice) (future : List (ℕ × Later)) → q.future ≡ future → AllMayGo q cs → (length cs ≡ 0 → IsIdle q) →
    AllMayGo q (or_advance cs future)
may_advance q [] [] is all idle = tt
may_advance q [] (e ∷ es) is all idle = ((idle refl, λ none. let no : e ∷ es ≡ [] = sym is ∙ none in cc), tt)
may_advance q (c ∷ cs) future is all idle = all

-- ---- what may be taken next

may_active : (q : Queue) (last : Option ℕ) (active : List ℕ) → q.last ≡ last → LastIsIn q → AreIn active q → AllMayGo q (map Run (in_order last active))
may_active q None active is lasts are = may_run q active are
may_active q (Some p) active is lasts are = (lasts p is, may_run q (without_process p active) (λ r h. are r (in_left p r active h).1))

may_choices : (q : Queue) (active : List ℕ) → LastIsIn q → AreIn active q → AllMayGo q (active_choices (record q { active = active }))
may_choices q active lasts are =
    may_both q (map Run (in_order q.last active)) (first_update q.activated) (may_active q q.last active refl lasts are)
    (may_update q q.activated refl)

may_offered : (q : Queue) (grain : Grain) (last : Option ℕ) → q.last ≡ last → LastIsIn q → AllMayGo q (offered_choices q grain last)
may_offered q Process (Some p) is lasts = (lasts p is, tt)
may_offered q Process None is lasts = may_choices q q.active lasts (λ p h. h)
may_offered q Statement last is lasts = may_choices q q.active lasts (λ p h. h)

may_ordered : (held : List ℕ) (q : Queue) → LastIsIn q → AreIn held q → AllMayGo q (active_order held q)
may_ordered held q lasts are =
    may_both q (active_choices (record q { active = free_among held q.active })) (map Run held)
    (may_choices q (free_among held q.active) lasts (λ p h. (in_free p held q.active h).0))
    (may_run q held are)

may_order : (held : List ℕ) (q : Queue) (grain : Grain) (last : Option ℕ) → q.last ≡ last → LastIsIn q → AreIn held q →
    AllMayGo q (order_by held q grain last)
may_order held q Process (Some p) is lasts are = (lasts p is, tt)
may_order held q Process None is lasts are = may_ordered held q lasts are
may_order held q Statement last is lasts are = may_ordered held q lasts are

may_by : (o : Option (List ℕ)) (q : Queue) → LastIsIn q → ForSome o (λ held. AreIn held q) → AllMayGo q (choices_by o q)
may_by None q lasts are =
    may_advance q (offered_choices q q.grain q.last) q.future refl (may_offered q q.grain q.last refl lasts) (idle_when q)
may_by (Some held) q lasts are =
    let order = may_order held q q.grain q.last refl lasts (are held refl) in
    may_advance q (taking_or_holding (order_of held q)) q.future refl
    (may_both q (order_of held q) (drop 1 (order_of held q)) order (may_drop q (order_of held q) order)) (idle_when_ordered held q)

-- ---- of a state

pub held_in_active : (q : Queue) (held : List ℕ) → AreHeldBack q held → (p : ℕ) → IsIn p held → IsIn p q.active
held_in_active q held are p h = counts_in p q.active (omega (arith, in_counts p held h, are.active p))

pub last_in : (s : State) → IsKept s → LastIsIn s.queue
last_in s kept = λ p is. counts_in p s.queue.active (kept.place.last p is)

pub may_go : (s : State) (i : ℕ) (c : Choice) → IsKept s → slice_get (choices s) i ≡ Some c → (s.cause ≡ None) × MayGo s.queue c
may_go s i c kept e = by_cause s.cause refl e
  where
    by_cause : (cause : Option Cause) → s.cause ≡ cause → slice_get (cond (is_some cause) [] (choices_by s.held_back s.queue)) i ≡ Some c →
        (s.cause ≡ None) × MayGo s.queue c
    by_cause (Some cause) is e = cc
    by_cause None is e = (
      is,
      may_at s.queue (choices_by s.held_back s.queue) i c
          (may_by s.held_back s.queue (last_in s kept) (λ held now. held_in_active s.queue held (kept.held held now))) e,
    )
