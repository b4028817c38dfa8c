-- What may be taken may also be taken while all that stands before it is held back.
use Rattle.std.proofs.Common.{◌≡◌, ◌≢◌, ◌⊎◌, inl, inr, ℕ, zero, suc, ◌+◌, ◌-◌, ◌*◌, ◌<◌, ◌==◌, ◌&&◌, nat_lt, Bool, true, false, cond, take, List, [], ◌∷◌, ◌++◌, length, length-append, Option, Some, None, refl, sym, ap, subst, ◌∙◌, arith}
use Rattle.std.specs.Prelude.{slice_get, unwrap_or}
use Rattle.std.proofs.lemmas.Bool.Decides.{eqb_tells, nat_tests}
use Rattle.sched_core.specs.Rules.{choice_at}
use Rattle.sched_core.specs.declared.setting.Departures.TheVariants.{Holding}
use Rattle.vdesign.specs.Design.{Design}
use Rattle.vmodel.specs.declared.part.Part.{Part}
use Rattle.vmodel.specs.declared.choice.Choice.{Choice}
use Rattle.vmodel.specs.declared.choice.Choice.TheVariants.{Run, Update, Advance}
use Rattle.vmodel.specs.Queue.{Later, Queue, with_process, without_process}
use Rattle.vmodel.specs.State.{State}
use Rattle.vmodel.specs.Choices.{or_advance, free_among, order_of, taking_or_holding, choices}
use Rattle.vmodel.specs.Holding.{count_before, with_one_held, with_held, before_choice, without_taken, release, held_after}
use Rattle.vmodel.specs.Step.{transition_of, transition_by}
use Rattle.vmodel.specs.Run.{Setting, held_at_first, state_after}
use Rattle.vmodel.specs.RunProgress.{opening_is, after_is}
use Rattle.plain_steps.specs.RunLaws.{IsAlwaysKept}
use Rattle.holding_law.specs.Held.{held_in, IsHeld, IsBefore, StandsBefore, HasNothingElse, HoldsBefore}
use Rattle.holding_law.proofs.MemberLemmas.{IsIn, contains_in, in_contains, in_left, in_still}
use Rattle.holding_law.proofs.MayLemmas.{may_go}
use Rattle.holding_law.proofs.FreeLemmas.{going_on}

-- ---- a set with one process more

data With (p q : ℕ) (qs : List ℕ) : Type 0 where
  in_front : with_process p (q ∷ qs) ≡ p ∷ q ∷ qs → With p q qs
  there : p ≡ q → with_process p (q ∷ qs) ≡ q ∷ qs → With p q qs
  behind : with_process p (q ∷ qs) ≡ q ∷ with_process p qs → With p q qs

with_by : (p q : ℕ) (qs : List ℕ) → With p q qs
with_by p q qs = by (nat_lt p q) (p == q) refl refl
  where
    by : (less equal : Bool) → nat_lt p q ≡ less → (p == q) ≡ equal → With p q qs
    by true equal l e = in_front (ap (λ (b : Bool). cond b (p ∷ q ∷ qs) (cond (p == q) (q ∷ qs) (q ∷ with_process p qs))) l)
    by false true l e = there (grind (arith, nat_tests)) (λ k. cond (l k) (p ∷ q ∷ qs) (cond (e k) (q ∷ qs) (q ∷ with_process p qs)))
    by false false l e = behind (λ k. cond (l k) (p ∷ q ∷ qs) (cond (e k) (q ∷ qs) (q ∷ with_process p qs)))

put_in : (p r : ℕ) (qs : List ℕ) → (r ≡ p) ⊎ IsIn r qs → IsIn r (with_process p qs)
put_in p r [] h = h
put_in p r (q ∷ qs) h = elim (with_by p q qs) [
  | in_front is ↦ subst (IsIn r) (sym is) h
  | there same is ↦ subst (IsIn r) (sym is) (elim h [ inl e ↦ inl (e ∙ same) | inr old ↦ old ])
  | behind is ↦ subst (IsIn r) (sym is) (elim h [
    | inl e ↦ inr (put_in p r qs (inl e))
    | inr old ↦ elim old [ inl e ↦ inl e | inr later ↦ inr (put_in p r qs (inr later)) ]
  ])
]

was_in : (p r : ℕ) (qs : List ℕ) → IsIn r (with_process p qs) → (r ≡ p) ⊎ IsIn r qs
was_in p r [] h = h
was_in p r (q ∷ qs) h = elim (with_by p q qs) [
  | in_front is ↦ subst (IsIn r) is h
  | there same is ↦ inr (subst (IsIn r) is h)
  | behind is ↦
      (let now : (r ≡ q) ⊎ IsIn r (with_process p qs) = subst (IsIn r) is h in
      elim now [
        | inl e ↦ inr (inl e)
        | inr later ↦ elim (was_in p r qs later) [ inl e ↦ inl e | inr old ↦ inr (inr old) ]
      ])
]

-- ---- what is held back with a choice

one_still : (c : Choice) (held : List ℕ) (r : ℕ) → IsIn r held → IsIn r (with_one_held c held)
one_still (Run p) held r h = put_in p r held (inr h)
one_still Update held r h = h
one_still Advance held r h = h

one_was : (c : Choice) (held : List ℕ) (r : ℕ) → IsIn r (with_one_held c held) → (c ≡ Run r) ⊎ IsIn r held
one_was (Run p) held r h = elim (was_in p r held h) [ inl e ↦ inl (ap Run (sym e)) | inr old ↦ inr old ]
one_was Update held r h = inr h
one_was Advance held r h = inr h

all_still : (before : List Choice) (held : List ℕ) (r : ℕ) → IsIn r held → IsIn r (with_held before held)
all_still [] held r h = h
all_still (c ∷ before) held r h = all_still before (with_one_held c held) r (one_still c held r h)

all_put : (order : List Choice) (k i : ℕ) (held : List ℕ) (r : ℕ) → i < k → slice_get order i ≡ Some (Run r) → IsIn r (with_held (take k order) held)
all_put order zero i held r lt is = absurd (omega (arith, lt))
all_put [] (suc k) i held r lt is = cc
all_put (c ∷ cs) (suc k) zero held r lt is =
    let same : Run r ≡ c = cc in
    all_still (take k cs) (with_one_held c held) r
    (subst (λ (x : Choice). IsIn r (with_one_held x held)) same (put_in r r held (inl refl)))
all_put (c ∷ cs) (suc k) (suc i) held r lt is = all_put cs k i (with_one_held c held) r (omega (arith, lt)) is

abbrev IsPut : List Choice → ℕ → ℕ → Type 0
IsPut order k r = (i : ℕ) × (i < k) × (slice_get order i ≡ Some (Run r))

all_was : (order : List Choice) (k : ℕ) (held : List ℕ) (r : ℕ) → IsIn r (with_held (take k order) held) → IsPut order k r ⊎ IsIn r held
all_was order zero held r h = inr h
all_was [] (suc k) held r h = inr h
all_was (c ∷ cs) (suc k) held r h = elim (all_was cs k (with_one_held c held) r h) [
  | inl put ↦ inl (suc put.0, omega (arith, put.1), put.2)
  | inr old ↦ elim (one_was c held r old) [ inl e ↦ inl (0, omega arith, ap Some e) | inr was ↦ inr was ]
]

not_taken : (c : Choice) (held : List ℕ) (p : ℕ) → c ≢ Run p → IsIn p held → IsIn p (without_taken c held)
not_taken (Run q) held p ne h = in_still q p held (λ e. ne (ap Run (sym e))) h
not_taken Update held p ne h = h
not_taken Advance held p ne h = h

was_held : (c : Choice) (held : List ℕ) (p : ℕ) → IsIn p (without_taken c held) → IsIn p held
was_held (Run q) held p h = (in_left q p held h).1
was_held Update held p h = h
was_held Advance held p h = h

-- where nothing is free all that is active is held back
all_held : (held active : List ℕ) (p : ℕ) → free_among held active ≡ [] → IsIn p active → IsIn p held
all_held [] active p none h = subst (IsIn p) none h
all_held (one ∷ held) active p none h = elim (eqb_tells p one) [
  | inl e ↦ inl e.1
  | inr ne ↦ inr (all_held held (without_process one active) p none (in_still one p active ne.1 h))
]

-- ---- the choice that holds back

-- it takes the same, and what stands before that is held back with it
record IsHolding (order : List Choice) (future : List (ℕ × Later)) (k : ℕ) (c : Choice) : Type 0 where
  at : ℕ
  takes : slice_get (or_advance (taking_or_holding order) future) at ≡ Some c
  before : before_choice order at ≡ take k order
  front : (i : ℕ) → i < k → slice_get (or_advance (taking_or_holding order) future) i ≡ slice_get order i

front_of : (xs ys : List Choice) (i : ℕ) (c : Choice) → i < length xs → slice_get (xs ++ ys) i ≡ slice_get xs i
front_of xs ys i c lt = of xs i lt
  where
    of : (xs : List Choice) (i : ℕ) → i < length xs → slice_get (xs ++ ys) i ≡ slice_get xs i
    of [] i lt = absurd (omega (arith, lt))
    of (x ∷ xs) zero lt = refl
    of (x ∷ xs) (suc i) lt = of xs i (omega (arith, lt))

back_of : (xs ys : List Choice) (k : ℕ) → slice_get (xs ++ ys) (length xs + k) ≡ slice_get ys k
back_of [] ys k = let same : 0 + k ≡ k = omega arith in ap (slice_get ys) same
back_of (x ∷ xs) ys k =
    let same : suc (length xs) + k ≡ suc (length xs + k) = omega arith in
    ap (slice_get (x ∷ xs ++ ys)) same ∙ back_of xs ys k

counts : (n k : ℕ) → count_before n (n + k) ≡ suc k
counts n k =
    let up : nat_lt (n + k) n ≡ false = grind (arith, nat_tests) in
    let is : n + k - n + 1 ≡ suc k = omega arith in
    ap (λ (b : Bool). cond b 0 (n + k - n + 1)) up ∙ is

none_counted : (order : List Choice) → before_choice order 0 ≡ []
none_counted [] = refl
none_counted (c ∷ cs) =
    let low : nat_lt 0 (length (c ∷ cs)) ≡ true = grind (arith, nat_tests) in
    ap (λ (b : Bool). take (cond b 0 (0 - length (c ∷ cs) + 1)) (c ∷ cs)) low

is_holding : (order : List Choice) (future : List (ℕ × Later)) (k : ℕ) (c : Choice) → 2 * k < length (or_advance (taking_or_holding order) future) →
    slice_get (or_advance (taking_or_holding order) future) k ≡ Some c → IsHolding order future k c
is_holding order future zero c lt is = record { at = 0; takes = is; before = none_counted order; front = λ i less. absurd (omega (arith, less)) }
is_holding [] [] (suc k) c lt is = absurd (omega (arith, lt))
is_holding [] (e ∷ es) (suc k) c lt is = absurd (omega (arith, lt))
is_holding (o ∷ os) future (suc k) c lt is =
    let less : k < length os = omega (arith, lt, length-append os os) in record {
      at = length (o ∷ os) + k;
      takes = back_of (o ∷ os) os k ∙ sym (front_of os os k c less) ∙ is;
      before = ap (λ (n : ℕ). take n (o ∷ os)) (counts (length (o ∷ os)) k);
      front = λ i lower. front_of (o ∷ os) os i c (omega (arith, lower, less));
    }

-- ---- a step that holds back

module _ (design : Design) (s : State) (held : List ℕ) (k : ℕ) (c : Choice) where
  abbrev with_before : List ℕ
  with_before = with_held (take k (order_of held s.queue)) held

  abbrev Leaves : State → Type 0
  Leaves t = ((p : ℕ) → StandsBefore s k p → c ≢ Run p → IsHeld t p) ⊎ HasNothingElse s k t

  stands_in : s.held_back ≡ Some held → ((p : ℕ) → IsBefore s k p → IsPut (order_of held s.queue) k p) → (p : ℕ) → StandsBefore s k p → IsIn p with_before
  stands_in is front p (inl before) = let put = front p before in all_put (order_of held s.queue) k put.0 held p put.1 put.2
  stands_in is front p (inr h) =
      all_still (take k (order_of held s.queue)) held p
      (subst (λ (o : Option (List ℕ)). IsIn p (unwrap_or o [])) is (contains_in p (held_in s) h))

  stood_in : s.held_back ≡ Some held → ((p : ℕ) → IsPut (order_of held s.queue) k p → IsBefore s k p) → (p : ℕ) → IsIn p with_before → StandsBefore s k p
  stood_in is back p h = elim (all_was (order_of held s.queue) k held p h) [
    | inl put ↦ inl (back p put)
    | inr old ↦ inr (in_contains p (held_in s) (subst (λ (o : Option (List ℕ)). IsIn p (unwrap_or o [])) (sym is) old))
  ]

  left : (t : State) → t.held_back ≡ Some (release t.queue (without_taken c with_before)) →
      ((p : ℕ) → StandsBefore s k p → IsIn p with_before) → ((p : ℕ) → IsIn p with_before → StandsBefore s k p) → Leaves t
  left t now stands stood = by (free_among (without_taken c with_before) t.queue.active) t.queue.activated refl refl
    where
      some : (n : ℕ) → (suc n == 0) ≡ false
      some n = grind (arith, nat_tests)

      kept : release t.queue (without_taken c with_before) ≡ without_taken c with_before → Leaves t
      kept same = inl (λ p before ne.
          in_contains p (held_in t)
          (subst (λ (o : Option (List ℕ)). IsIn p (unwrap_or o [])) (sym (now ∙ ap Some same)) (not_taken c with_before p ne (stands p before))))

      by : (free : List ℕ) (us : List (List Part)) → free_among (without_taken c with_before) t.queue.active ≡ free → t.queue.activated ≡ us → Leaves t
      by [] [] f a = inr (
        a,
        λ p active.
            stood p (was_held c with_before p (all_held (without_taken c with_before) t.queue.active p f (contains_in p t.queue.active active))),
      )
      by [] (u ∷ us) f a = kept (
          (λ m. cond (length (f m) == 0 && length (a m) == 0) [] (without_taken c with_before))
          ∙ ap (λ (b : Bool). cond b [] (without_taken c with_before)) (some (length us)))
      by (r ∷ rs) us f a = kept (
          (λ m. cond (length (f m) == 0 && length t.queue.activated == 0) [] (without_taken c with_before))
          ∙ ap (λ (b : Bool). cond (b && length t.queue.activated == 0) [] (without_taken c with_before)) (some (length rs)))

  holds_by : s.cause ≡ None → s.held_back ≡ Some held → 2 * k < length (choices s) → slice_get (choices s) k ≡ Some c → HoldsBefore design s k c
  holds_by goes is lt here = (
    found.at,
    there,
    subst (λ (o : Option Choice). Leaves (transition_by design s found.at o).state) (sym there)
        (left (transition_by design s found.at (Some c)).state now
        (stands_in is (λ p before. (before.0, before.1, sym (found.front before.0 before.1) ∙ sym (get before.0) ∙ before.2)))
        (stood_in is (λ p put. (put.0, put.1, get put.0 ∙ found.front put.0 put.1 ∙ put.2)))),
  )
    where
      offered : choices s ≡ or_advance (taking_or_holding (order_of held s.queue)) s.queue.future
      offered = going_on s held goes is

      get : (i : ℕ) → slice_get (choices s) i ≡ slice_get (or_advance (taking_or_holding (order_of held s.queue)) s.queue.future) i
      get i = ap (λ (cs : List Choice). slice_get cs i) offered

      found : IsHolding (order_of held s.queue) s.queue.future k c
      found = is_holding (order_of held s.queue) s.queue.future k c
          (subst (λ (cs : List Choice). 2 * k < length cs) offered lt) (sym (get k) ∙ here)

      there : slice_get (choices s) found.at ≡ Some c
      there = get found.at ∙ found.takes

      after : Queue
      after = (transition_of design c s).state.queue

      now : held_after s.held_back s.queue found.at c after ≡ Some (release after (without_taken c with_before))
      now = ap (λ (o : Option (List ℕ)). held_after o s.queue found.at c after) is
          ∙ ap (λ (before : List Choice). Some (release after (without_taken c (with_held before held)))) found.before

-- ---- where departures may hold back

abbrev IsThere : Option (List ℕ) → Type 0
IsThere o = (held : List ℕ) × (o ≡ Some held)

there_after : (o : Option (List ℕ)) (q : Queue) (i : ℕ) (c : Choice) (after : Queue) → IsThere o → IsThere (held_after o q i c after)
there_after o q i c after (held, is) = (release after (without_taken c (with_held (before_choice (order_of held q) i) held)), ap (λ (x : Option (List ℕ)). held_after x q i c after) is)

there_next : (design : Design) (s : State) (i : ℕ) (o : Option Choice) → IsThere s.held_back → IsThere (transition_by design s i o).state.held_back
there_next design s i None has = has
there_next design s i (Some c) has = there_after s.held_back s.queue i c (transition_of design c s).state.queue has

is_there : (setting : Setting) (log : List (ℕ × ℕ)) (n : ℕ) → setting.departures ≡ Holding → IsThere (state_after setting log n).held_back
is_there setting log zero holding = ([], ap (λ (s : State). s.held_back) (opening_is setting) ∙ ap held_at_first holding)
is_there setting log (suc n) holding =
    let s = state_after setting log n in
    let i = choice_at log n in
    subst (λ (x : State). IsThere x.held_back) (sym (after_is setting s i))
    (there_next setting.design s i (slice_get (choices s) i) (is_there setting log n holding))

pub can_hold : IsAlwaysKept → (setting : Setting) (log : List (ℕ × ℕ)) (n k : ℕ) (c : Choice) → setting.departures ≡ Holding →
    2 * k < length (choices (state_after setting log n)) → slice_get (choices (state_after setting log n)) k ≡ Some c →
    HoldsBefore setting.design (state_after setting log n) k c
can_hold keeps setting log n k c holding lt is =
    let s = state_after setting log n in
    let has = is_there setting log n holding in
    holds_by setting.design s has.0 k c (may_go s k c (keeps setting log n) is).0 has.1 lt is
