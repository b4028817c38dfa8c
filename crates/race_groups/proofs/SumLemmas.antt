-- Of the states in which runs end, what tells whether all are alike.
use Rattle.std.specs.Prelude.{Decides, Result, Ok, Err, OnOk, ◌⊎◌, option_map}
use Rattle.std.specs.Bool.{MatchBool}
use Rattle.std.proofs.lemmas.Bool.Decides.{Decides-like}
use Rattle.std.proofs.Common.{◌≡◌, ◌&&◌, Bool, true, false, Option, ℕ, ◌<◌, ◌≤◌, List, [], ◌∷◌, ◌++◌, length, drop, get_or, slice_get, Some, refl}
use Rattle.std.proofs.Common.{sym, ap, ◌∙◌, subst, inl, inr, append-nil, append_assoc, arith}
use Rattle.std.specs.List.{Contains}
use Rattle.std.specs.List.Sorted.{IsNonDecreasingBy, IsPermutation}
use Rattle.std.proofs.lemmas.List.{map-append, nil_from_length}
use Rattle.std.proofs.lemmas.List.Sorted.{Contains-permutation, IsPermutation-sym, length_permutation}
use Rattle.std.proofs.lemmas.List.Elements.{Contains-append_cases, Contains-append_left, Contains-append_right, Contains-push_cases}
use Rattle.basis.proofs.Lists.{at_contains, place_within}
use Rattle.racebook.proofs.ListLemmas.{contains_at}
use Rattle.explore.specs.Ranked.{pairs_of}
use Rattle.explore.specs.declared.rank_marks.FoundMark.{FoundMark}
use Rattle.vmodel.specs.State.{State}
use Rattle.vmodel.specs.Run.{Setting}
use Rattle.vmachine.specs.declared.machine_state.MachineState.{MachineState}
use Rattle.vmachine.specs.Machines.{Stands}
use Rattle.vmachine.specs.Reads.{end_in}
use Rattle.sched_core.specs.declared.end.End.{End}
use Rattle.std.proofs.lemmas.Option.{get_or_from_slice_get, same_Some, slice_get_within}
use Rattle.race_groups.specs.Found.{Verdict}
use Rattle.race_groups.specs.Inner.{AreAlike, AreUncut, AreUnlike, BeginsWithFewest, GrowsTo, IsUncut, KeepsFirst, SumsUp, SumsUpCuts}
use Rattle.race_groups.specs.Inner.{compared_end, cut_lines_in, verdict_in}
use Rattle.race_groups.proofs.ListLemmas.{from_map, front_of_one, none_in_front, nothing_in}

abbrev Pair : Type 0
Pair = MachineState × List (ℕ × ℕ)

pub sums_none : (setting : Setting) (old : List Pair) → SumsUp setting [] old old
sums_none setting old = record {
  more = [];
  is = sym (append-nil old);
  among = λ end has. has;
  none = λ e. refl;
  alike = λ one e end has. nothing_in end has;
  unlike = λ un. un;
}

-- one after another
pub sums_on : (setting : Setting) (ends others old mid new : List Pair) → SumsUp setting ends old mid → SumsUp setting others mid new →
    SumsUp setting (ends ++ others) old new
sums_on setting ends others old mid new a b = record {
  more = a.more ++ b.more;
  is = b.is ∙ ap (λ l. l ++ b.more) a.is ∙ append_assoc old a.more b.more;
  among = λ end has. elim (Contains-append_cases a.more b.more end has) [
    | inl one ↦ Contains-append_left ends others end (a.among end one)
    | inr other ↦ Contains-append_right ends others end (b.among end other)
  ];
  none = λ e. (let before = a.none (none_in_front mid b.more (sym b.is ∙ e)) in ap (λ l. l ++ others) before ∙ b.none e);
  alike = λ one e end has. elim (Contains-append_cases ends others end has) [
    | inl first ↦ elim (front_of_one mid b.more one (sym b.is ∙ e)) [
      | inl none ↦ nothing_in end (subst (λ (l : List Pair). Contains l end) (a.none none) first)
      | inr is ↦ a.alike one is end first
    ]
    | inr second ↦ b.alike one e end second
  ];
  unlike = λ un. b.unlike (a.unlike un);
}

-- the same of these in another order
pub sums_moved : (setting : Setting) (ends others old new : List Pair) → IsPermutation ends others → SumsUp setting others old new →
    SumsUp setting ends old new
sums_moved setting ends others old new moved sums = record {
  more = sums.more;
  is = sums.is;
  among = λ end has. Contains-permutation others ends end (IsPermutation-sym ends others moved) (sums.among end has);
  none = λ e. nil_from_length ends (let long = length_permutation ends others moved in let none = ap length (sums.none e) in cc);
  alike = λ one e end has. sums.alike one e end (Contains-permutation ends others end moved has);
  unlike = sums.unlike;
}

-- the first stays the first
pub first_before : {A : Type 0} (mid new more : List A) (one : A) → new ≡ mid ++ more → slice_get new 0 ≡ Some one →
    (mid ≡ []) ⊎ (slice_get mid 0 ≡ Some one)
first_before [] new more one is at = inl refl
first_before (x ∷ xs) new more one is at = inr (sym (ap (λ l. slice_get l 0) is) ∙ at)

pub cuts_none : (setting : Setting) (ends cuts : List Pair) → SumsUpCuts setting [] ends ends cuts cuts
cuts_none setting ends cuts = record {
  more = [];
  is = sym (append-nil cuts);
  among = λ end has. has;
  none = λ e one at end has. nothing_in end has;
  kept = λ kept. kept;
}

-- cut ends, one after another
pub cuts_on : (setting : Setting) (ends others old_ends mid_ends new_ends old mid new : List Pair) →
    SumsUp setting ends old_ends mid_ends → SumsUp setting others mid_ends new_ends →
    SumsUpCuts setting ends old_ends mid_ends old mid → SumsUpCuts setting others mid_ends new_ends mid new →
    SumsUpCuts setting (ends ++ others) old_ends new_ends old new
cuts_on setting ends others old_ends mid_ends new_ends old mid new first second a b = record {
  more = a.more ++ b.more;
  is = b.is ∙ ap (λ l. l ++ b.more) a.is ∙ append_assoc old a.more b.more;
  among = λ end has. elim (Contains-append_cases a.more b.more end has) [
    | inl one ↦ Contains-append_left ends others end (a.among end one)
    | inr other ↦ Contains-append_right ends others end (b.among end other)
  ];
  none = λ e one at end has. elim (Contains-append_cases ends others end has) [
    | inl here ↦ elim (first_before mid_ends new_ends second.more one second.is at) [
      | inl none ↦ nothing_in end (subst (λ (l : List Pair). Contains l end) (first.none none) here)
      | inr there ↦ a.none (none_in_front mid b.more (sym b.is ∙ e)) one there end here
    ]
    | inr here ↦ b.none e one at end here
  ];
  kept = λ kept. b.kept (a.kept kept);
}

pub cuts_moved : (setting : Setting) (ends others old_ends new_ends old new : List Pair) → IsPermutation ends others →
    SumsUpCuts setting others old_ends new_ends old new → SumsUpCuts setting ends old_ends new_ends old new
cuts_moved setting ends others old_ends new_ends old new moved sums = record {
  more = sums.more;
  is = sums.is;
  among = λ end has. Contains-permutation others ends end (IsPermutation-sym ends others moved) (sums.among end has);
  none = λ e one at end has. sums.none e one at end (Contains-permutation ends others end moved has);
  kept = sums.kept;
}

pub grows_on : {A : Type 0} (old mid new : List A) → GrowsTo old mid → GrowsTo mid new → GrowsTo old new
grows_on old mid new a b = (a.0 ++ b.0, b.1 ∙ ap (λ l. l ++ b.0) a.1 ∙ append_assoc old a.0 b.0)

pub grows_none : {A : Type 0} (old : List A) → GrowsTo old old
grows_none old = ([], sym (append-nil old))

-- ---- the first of them

pub alone : (one end : Pair) → Contains (one ∷ []) end → one ≡ end
alone one end has = elim (Contains-push_cases [] one end has) [
  | inl none ↦ nothing_in end none
  | inr is ↦ is
]

-- of none, none is kept
nothing_among : (more : List Pair) → ((end : Pair) → Contains more end → Contains [] end) → more ≡ []
nothing_among [] among = refl
nothing_among (x ∷ xs) among = nothing_in x (among x (contains_at (x ∷ xs) 0 x refl))

-- of one, it is kept
one_is_kept : (more : List Pair) (one : Pair) → (more ≡ [] → one ∷ [] ≡ []) → ((end : Pair) → Contains more end → Contains (one ∷ []) end) →
    slice_get more 0 ≡ Some one
one_is_kept [] one none among = absurd (let e = none refl in cc)
one_is_kept (x ∷ xs) one none among = ap Some (sym (alone one x (among x (contains_at (x ∷ xs) 0 x refl))))

first_stays : {A : Type 0} (xs more : List A) (x : A) → slice_get xs 0 ≡ Some x → slice_get (xs ++ more) 0 ≡ Some x
first_stays [] more x at = absurd cc
first_stays (y ∷ xs) more x at = at

-- one more was looked at
first_on : (setting : Setting) (ends : List Pair) (end : Pair) (old mid new : List Pair) → SumsUp setting ends old mid → KeepsFirst ends old mid →
    SumsUp setting (end ∷ []) mid new → KeepsFirst (ends ++ end ∷ []) old new
first_on setting [] end old mid new before first one none k at =
    let bare : mid ≡ [] = before.is ∙ ap (λ l. l ++ before.more) none ∙ nothing_among before.more before.among in
    let is : new ≡ one.more = one.is ∙ ap (λ l. l ++ one.more) bare in
    let kept : slice_get one.more 0 ≡ Some end = one_is_kept one.more end (λ e. one.none (is ∙ e)) one.among in
    ap (λ l. slice_get l 0) is ∙ kept ∙ at
first_on setting (x ∷ xs) end old mid new before first one none k at =
    ap (λ l. slice_get l 0) one.is ∙ first_stays mid one.more k (first none k at)

-- ---- one state after another

-- of the states that were looked at, those in front of what is left
pub record SumsSoFar (setting : Setting) (all left old kept old_cuts cuts : List (FoundMark MachineState)) : Type 0 where
  pub looked_at : List (FoundMark MachineState)
  pub whole : looked_at ++ left ≡ all
  pub sums : SumsUp setting (pairs_of looked_at) (pairs_of old) (pairs_of kept)
  pub sums_cuts : SumsUpCuts setting (pairs_of looked_at) (pairs_of old) (pairs_of kept) (pairs_of old_cuts) (pairs_of cuts)
  pub first : KeepsFirst (pairs_of looked_at) (pairs_of old) (pairs_of kept)
  pub grows : GrowsTo old kept
  pub cuts_grow : GrowsTo old_cuts cuts

pub sums_start : (setting : Setting) (all left kept cuts : List (FoundMark MachineState)) → left ≡ all →
    SumsSoFar setting all left kept kept cuts cuts
sums_start setting all left kept cuts is = record {
  looked_at = [];
  whole = is;
  sums = sums_none setting (pairs_of kept);
  sums_cuts = cuts_none setting (pairs_of kept) (pairs_of cuts);
  first = λ none end at. absurd cc;
  grows = grows_none kept;
  cuts_grow = grows_none cuts;
}

pub sums_next : (setting : Setting) (all left rest old mid new old_cuts mid_cuts new_cuts : List (FoundMark MachineState))
    (found : FoundMark MachineState) →
    SumsSoFar setting all left old mid old_cuts mid_cuts → left ≡ found ∷ rest →
    SumsUp setting (pairs_of (found ∷ [])) (pairs_of mid) (pairs_of new) →
    SumsUpCuts setting (pairs_of (found ∷ [])) (pairs_of mid) (pairs_of new) (pairs_of mid_cuts) (pairs_of new_cuts) →
    GrowsTo mid new → GrowsTo mid_cuts new_cuts → SumsSoFar setting all rest old new old_cuts new_cuts
sums_next setting all left rest old mid new old_cuts mid_cuts new_cuts found so_far first one one_cut grows cuts_grow =
    let looked_at : pairs_of so_far.looked_at ++ (found.state, found.log) ∷ [] ≡ pairs_of (so_far.looked_at ++ found ∷ []) =
    sym (map-append (λ (f : FoundMark MachineState). (f.state, f.log)) so_far.looked_at (found ∷ [])) in
    record {
      looked_at = so_far.looked_at ++ found ∷ [];
      whole = append_assoc so_far.looked_at (found ∷ []) rest ∙ ap (λ l. so_far.looked_at ++ l) (sym first) ∙ so_far.whole;
      sums = subst (λ (l : List Pair). SumsUp setting l (pairs_of old) (pairs_of new)) looked_at
          (sums_on setting (pairs_of so_far.looked_at) (pairs_of (found ∷ [])) (pairs_of old) (pairs_of mid) (pairs_of new) so_far.sums one);
      sums_cuts = subst (λ (l : List Pair). SumsUpCuts setting l (pairs_of old) (pairs_of new) (pairs_of old_cuts) (pairs_of new_cuts)) looked_at
          (cuts_on setting (pairs_of so_far.looked_at) (pairs_of (found ∷ [])) (pairs_of old) (pairs_of mid) (pairs_of new)
          (pairs_of old_cuts) (pairs_of mid_cuts) (pairs_of new_cuts) so_far.sums one so_far.sums_cuts one_cut);
      first = subst (λ (l : List Pair). KeepsFirst l (pairs_of old) (pairs_of new)) looked_at
          (first_on setting (pairs_of so_far.looked_at) (found.state, found.log) (pairs_of old) (pairs_of mid) (pairs_of new) so_far.sums
          so_far.first one);
      grows = grows_on old mid new so_far.grows grows;
      cuts_grow = grows_on old_cuts mid_cuts new_cuts so_far.cuts_grow cuts_grow;
    }

-- all were looked at
all_looked_at : (setting : Setting) (all left old kept old_cuts cuts : List (FoundMark MachineState)) →
    (so_far : SumsSoFar setting all left old kept old_cuts cuts) → left ≡ [] → so_far.looked_at ≡ all
all_looked_at setting all left old kept old_cuts cuts so_far none =
    sym (append-nil so_far.looked_at) ∙ ap (λ l. so_far.looked_at ++ l) (sym none) ∙ so_far.whole

pub sums_done : (setting : Setting) (all left old kept old_cuts cuts : List (FoundMark MachineState)) →
    SumsSoFar setting all left old kept old_cuts cuts → left ≡ [] → SumsUp setting (pairs_of all) (pairs_of old) (pairs_of kept)
sums_done setting all left old kept old_cuts cuts so_far none =
    subst (λ (l : List (FoundMark MachineState)). SumsUp setting (pairs_of l) (pairs_of old) (pairs_of kept))
    (all_looked_at setting all left old kept old_cuts cuts so_far none) so_far.sums

pub cuts_done : (setting : Setting) (all left old kept old_cuts cuts : List (FoundMark MachineState)) →
    SumsSoFar setting all left old kept old_cuts cuts → left ≡ [] →
    SumsUpCuts setting (pairs_of all) (pairs_of old) (pairs_of kept) (pairs_of old_cuts) (pairs_of cuts)
cuts_done setting all left old kept old_cuts cuts so_far none =
    subst (λ (l : List (FoundMark MachineState)). SumsUpCuts setting (pairs_of l) (pairs_of old) (pairs_of kept) (pairs_of old_cuts)
    (pairs_of cuts)) (all_looked_at setting all left old kept old_cuts cuts so_far none) so_far.sums_cuts

pub first_done : (setting : Setting) (all left old kept old_cuts cuts : List (FoundMark MachineState)) →
    SumsSoFar setting all left old kept old_cuts cuts → left ≡ [] → KeepsFirst (pairs_of all) (pairs_of old) (pairs_of kept)
first_done setting all left old kept old_cuts cuts so_far none =
    subst (λ (l : List (FoundMark MachineState)). KeepsFirst (pairs_of l) (pairs_of old) (pairs_of kept))
    (all_looked_at setting all left old kept old_cuts cuts so_far none) so_far.first

-- ---- one state

turned : (setting : Setting) (s r : MachineState) → AreAlike setting s r → AreAlike setting r s
turned setting s r like = λ t u st su. sym (like u t su st)

-- a machine's state stands for one state alone
abbrev pub ForOne : Setting → Type 0
ForOne setting = (s : MachineState) (t u : State) → Stands setting s t → Stands setting s u → t ≡ u

module _ (setting : Setting) (found : FoundMark MachineState) where
  abbrev pair : Pair
  pair = (found.state, found.log)

  -- two unlike ones are kept already
  pub sums_full : (old : List (FoundMark MachineState)) → 1 < length old → SumsUp setting (pair ∷ []) (pairs_of old) (pairs_of old)
  sums_full [] many = absurd (omega (arith, many))
  sums_full (x ∷ []) many = absurd (omega (arith, many))
  sums_full (x ∷ y ∷ xs) many = record {
    more = [];
    is = sym (append-nil (pairs_of (x ∷ y ∷ xs)));
    among = λ end has. nothing_in end has;
    none = λ e. absurd (cc);
    alike = λ one e. absurd (let f = ap (drop 1) e in cc);
    unlike = λ un. un;
  }

  -- it is alike the one that is kept
  pub sums_like : (old : List (FoundMark MachineState)) (one : FoundMark MachineState) → length old ≡ 1 → slice_get old 0 ≡ Some one →
      AreAlike setting one.state found.state → SumsUp setting (pair ∷ []) (pairs_of old) (pairs_of old)
  sums_like [] one few at like = absurd (cc)
  sums_like (x ∷ y ∷ xs) one few at like = absurd (omega (arith, few))
  sums_like (x ∷ []) one few at like =
      let is : x ≡ one = same_Some x one at in
      record {
        more = [];
        is = refl;
        among = λ end has. nothing_in end has;
        none = λ e. absurd (cc);
        alike = λ k e end has.
            (let same : k ≡ (x.state, x.log) = sym (same_Some (x.state, x.log) k (ap (λ (l : List Pair). slice_get l 0) e)) in
            let here : pair ≡ end = alone pair end has in
            subst (λ (p : Pair). AreAlike setting p.0 k.0) here (subst (λ (p : Pair). AreAlike setting found.state p.0) (sym same)
            (subst (λ (f : FoundMark MachineState). AreAlike setting found.state f.state) (sym is)
            (turned setting one.state found.state like))));
        unlike = λ un. un;
      }

  -- the same where more may be kept
  pub sums_like_first : (old : List (FoundMark MachineState)) (one : FoundMark MachineState) → slice_get old 0 ≡ Some one →
      AreAlike setting one.state found.state → SumsUp setting (pair ∷ []) (pairs_of old) (pairs_of old)
  sums_like_first [] one at like = absurd (cc)
  sums_like_first (x ∷ []) one at like = sums_like (x ∷ []) one refl at like
  sums_like_first (x ∷ y ∷ xs) one at like = sums_full (x ∷ y ∷ xs) (omega arith)

  -- it is the first
  pub sums_first : ForOne setting → (old new : List (FoundMark MachineState)) → old ≡ [] → new ≡ old ++ found ∷ [] →
      SumsUp setting (pair ∷ []) (pairs_of old) (pairs_of new)
  sums_first one_only old new none is =
      let new_is : pairs_of new ≡ pair ∷ [] = ap pairs_of (is ∙ ap (λ (l : List (FoundMark MachineState)). l ++ found ∷ []) none) in
      let old_is : pairs_of old ≡ [] = ap pairs_of none in
      record {
        more = pair ∷ [];
        is = new_is ∙ ap (λ (l : List Pair). l ++ pair ∷ []) (sym old_is);
        among = λ end has. has;
        none = λ e. absurd (let f = sym new_is ∙ e in cc);
        alike = λ k e end has.
            (let same : pair ≡ k = same_Some pair k (ap (λ (l : List Pair). slice_get l 0) (sym new_is ∙ e)) in
            let here : pair ≡ end = alone pair end has in
            subst (λ (p : Pair). AreAlike setting p.0 k.0) here (subst (λ (p : Pair). AreAlike setting found.state p.0) same
            (λ t u st su. ap verdict_in (one_only found.state t u st su))));
        unlike = λ un k l at at'. absurd (let f = ap (λ (l : List Pair). slice_get l 1) new_is in cc);
      }

  -- it is the second, and unlike the first
  pub sums_second : (old new : List (FoundMark MachineState)) (one : FoundMark MachineState) → length old ≡ 1 → slice_get old 0 ≡ Some one →
      AreUnlike setting one.state found.state → new ≡ old ++ found ∷ [] →
      SumsUp setting (pair ∷ []) (pairs_of old) (pairs_of new)
  sums_second [] new one few at un is = absurd (cc)
  sums_second (x ∷ y ∷ xs) new one few at un is = absurd (omega (arith, few))
  sums_second (x ∷ []) new one few at un is =
      let first : x ≡ one = same_Some x one at in
      let new_is : pairs_of new ≡ (x.state, x.log) ∷ pair ∷ [] = ap pairs_of is in
      record {
        more = pair ∷ [];
        is = new_is;
        among = λ end has. has;
        none = λ e. absurd (let f = sym new_is ∙ e in cc);
        alike = λ k e. absurd (let f = ap (drop 1) (sym new_is ∙ e) in cc);
        unlike = λ before k l at_k at_l.
            (let a : (x.state, x.log) ≡ k = same_Some (x.state, x.log) k (ap (λ (l : List Pair). slice_get l 0) (sym new_is) ∙ at_k) in
            let b : pair ≡ l = same_Some pair l (ap (λ (l : List Pair). slice_get l 1) (sym new_is) ∙ at_l) in
            let un_x : AreUnlike setting x.state found.state = subst (λ (f : FoundMark MachineState). AreUnlike setting f.state found.state)
            (sym first) un in
            subst (λ (p : Pair). AreUnlike setting k.0 p.0) b (subst (λ (p : Pair). AreUnlike setting p.0 found.state) a un_x));
      }

-- ---- cuts

pub all_uncut : (setting : Setting) (ends : List (FoundMark MachineState)) (n : ℕ) → length ends ≤ n →
    ((k : ℕ) (found : FoundMark MachineState) → k < n → slice_get ends k ≡ Some found → IsUncut setting found.state) →
    AreUncut setting (pairs_of ends)
all_uncut setting ends n whole each = λ end has.
    (let m = from_map (λ (f : FoundMark MachineState). (f.state, f.log)) ends end has in
    let p = at_contains ends m.0 m.1 in
    let lt = place_within ends p.0 m.0 p.1 in
    subst (λ (e : Pair). IsUncut setting e.0) m.2 (each p.0 m.0 (omega (arith, lt, whole)) p.1))

-- ---- what tells two states apart

-- of two that are there, what is read of them tells
pub some_tells : {A B : Type 0} (f : A → B) (b : Bool) (o p : Option A) (x y : A) → o ≡ Some x → p ≡ Some y → Decides b (f x ≡ f y) →
    Decides b (option_map f o ≡ option_map f p)
some_tells f b o p x y is is' d =
    let here : option_map f o ≡ Some (f x) = ap (option_map f) is in
    let there : option_map f p ≡ Some (f y) = ap (option_map f) is' in
    Decides-like b (λ same. here ∙ ap Some same ∙ sym there) (λ same. same_Some (f x) (f y) (sym here ∙ same ∙ there)) d

-- what is read of a machine's state is what its state of a run has
abbrev pub Reads : {V : Type 0} → Setting → MachineState → (State → V) → V → Type 0
Reads setting s read value = (t : State) → Stands setting s t → value ≡ read t

module _ (setting : Setting) (s r : MachineState) (end end' : Option End) (printed printed' : Option (List (List ℕ)))
    (of_end : Reads setting s (λ t. compared_end (end_in t)) end) (of_end' : Reads setting r (λ t. compared_end (end_in t)) end')
    (of_printed : Reads setting s cut_lines_in printed) (of_printed' : Reads setting r cut_lines_in printed') where
  pub told_alike : (a b : Bool) → Decides a (end ≡ end') → Decides b (printed ≡ printed') →
      MatchBool (a && b) (AreAlike setting s r) (AreUnlike setting s r)
  told_alike true true a b = λ t u st su.
      (let e : compared_end (end_in t) ≡ compared_end (end_in u) = sym (of_end t st) ∙ a.0 refl ∙ of_end' u su in
      let p : cut_lines_in t ≡ cut_lines_in u = sym (of_printed t st) ∙ b.0 refl ∙ of_printed' u su in
      λ i. record { end = e i; printed = p i })
  told_alike false b one two = λ t u st su same. absurd (let e = one.1 (of_end t st ∙ ap (λ (x : Verdict). x.end) same
      ∙ sym (of_end' u su)) in cc)
  told_alike true false one two = λ t u st su same. absurd (let e = two.1 (of_printed t st ∙ ap (λ (x : Verdict). x.printed) same
      ∙ sym (of_printed' u su)) in cc)

pub grows_same : {A : Type 0} (old new : List A) → new ≡ old → GrowsTo old new
grows_same old new is = ([], is ∙ sym (append-nil old))

-- ---- the fewest departures

-- where they stand in the order of their departures, the first that is kept has no more than any of them
pub fewest_first : (ends sorted : List (FoundMark MachineState)) (old new : List Pair) → IsPermutation ends sorted →
    IsNonDecreasingBy (λ (f : FoundMark MachineState). length f.log) sorted → KeepsFirst (pairs_of sorted) old new →
    BeginsWithFewest (pairs_of ends) old new
fewest_first ends [] old new moved rise first none one end at has =
    let long = length_permutation ends [] moved in
    let bare = nil_from_length ends (omega (arith, long)) in
    nothing_in end (subst (λ (l : List (FoundMark MachineState)). Contains (pairs_of l) end) bare has)
fewest_first ends (x ∷ xs) old new moved rise first none one end at has =
    let is : (x.state, x.log) ≡ one = same_Some (x.state, x.log) one (sym (first none (x.state, x.log) refl) ∙ at) in
    let m = from_map (λ (f : FoundMark MachineState). (f.state, f.log)) ends end has in
    let there = Contains-permutation ends (x ∷ xs) m.0 moved m.1 in
    let p = at_contains (x ∷ xs) m.0 there in
    let up = rise 0 p.0 x (omega arith) (slice_get_within (x ∷ xs) p.0 m.0 p.1) in
    let e : get_or (x ∷ xs) p.0 x ≡ m.0 = get_or_from_slice_get (x ∷ xs) p.0 m.0 x p.1 in
    subst (λ (k : Pair). length k.1 ≤ length end.1) is
    (subst (λ (k : Pair). length x.log ≤ length k.1) m.2
    (subst (λ (f : FoundMark MachineState). length x.log ≤ length f.log) e up))
