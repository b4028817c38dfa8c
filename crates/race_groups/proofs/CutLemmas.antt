-- Of the states in which runs end alike, what tells whether a cut slot leaves the same values in them.
use Rattle.std.proofs.Common.{◌≡◌, ◌++◌, ℕ, List, [], ◌∷◌, slice_get, Some, refl, sym, ap, ◌∙◌, subst, inl, inr, append-nil}
use Rattle.std.proofs.lemmas.Option.{same_Some}
use Rattle.explore.specs.Ranked.{pairs_of}
use Rattle.explore.specs.declared.rank_marks.FoundMark.{FoundMark}
use Rattle.vmodel.specs.Run.{Setting}
use Rattle.vmachine.specs.declared.machine_state.MachineState.{MachineState}
use Rattle.race_groups.specs.Inner.{AreAlike, AreCutUnlike, AreUnlike, AreWhollyAlike, PutsCut, SumsUpCuts, cut_values_in}
use Rattle.race_groups.proofs.ListLemmas.{nothing_in}
use Rattle.race_groups.proofs.SumLemmas.{ForOne, alone}

abbrev Pair : Type 0
Pair = MachineState × List (ℕ × ℕ)

-- the first pair is that of the first
pub first_pair : (kept : List (FoundMark MachineState)) (one : FoundMark MachineState) → slice_get kept 0 ≡ Some one →
    slice_get (pairs_of kept) 0 ≡ Some (one.state, one.log)
first_pair [] one at = absurd cc
first_pair (x ∷ xs) one at = ap (λ (f : FoundMark MachineState). Some (f.state, f.log)) (same_Some x one at)

module _ (setting : Setting) (found : FoundMark MachineState) where
  abbrev pair : Pair
  pair = (found.state, found.log)

  -- of the one that was looked at, and the first that is kept
  of_both : (one k end : Pair) → one ≡ k → pair ≡ end → AreWhollyAlike setting found.state one.0 → AreWhollyAlike setting end.0 k.0
  of_both one k end same here like = subst (λ (p : Pair). AreWhollyAlike setting p.0 k.0) here
      (subst (λ (p : Pair). AreWhollyAlike setting found.state p.0) same like)

  -- no cut end is kept, as it isn't one, where the first stays
  cuts_stay : (x : Pair) (xs new_ends more cuts : List Pair) → new_ends ≡ x ∷ (xs ++ more) →
      (cuts ≡ [] → AreWhollyAlike setting found.state x.0) → SumsUpCuts setting (pair ∷ []) (x ∷ xs) new_ends cuts cuts
  cuts_stay x xs new_ends more cuts is like = record {
    more = [];
    is = sym (append-nil cuts);
    among = λ end has. nothing_in end has;
    none = λ e k at end has. of_both x k end (same_Some x k (sym (ap (λ (l : List Pair). slice_get l 0) is) ∙ at)) (alone pair end has) (like e);
    kept = λ kept. record {
      bare = λ none. absurd (let f = sym is ∙ none in cc);
      alike = λ a b at_a at_b. kept.alike a b (sym (ap (λ (l : List Pair). slice_get l 0) is) ∙ at_a) at_b;
      unlike = λ a b at_a at_b. kept.unlike a b (sym (ap (λ (l : List Pair). slice_get l 0) is) ∙ at_a) at_b;
    };
  }

  -- it isn't like the first
  pub cuts_unlike : (ends new_ends more cuts : List Pair) (one : Pair) → new_ends ≡ ends ++ more → slice_get ends 0 ≡ Some one →
      AreUnlike setting one.0 found.state → SumsUpCuts setting (pair ∷ []) ends new_ends cuts cuts
  cuts_unlike [] new_ends more cuts one is at un = absurd (cc)
  cuts_unlike (x ∷ xs) new_ends more cuts one is at un = cuts_stay x xs new_ends more cuts is
      (λ e. subst (λ (p : Pair). AreWhollyAlike setting found.state p.0) (sym (same_Some x one at))
      (λ t u st su like. absurd (un u t su st (sym like))))

  -- it is like the first, and kept or not
  pub cuts_put : (ends : List Pair) (one : FoundMark MachineState) (old new : List (FoundMark MachineState)) →
      slice_get ends 0 ≡ Some (one.state, one.log) → AreAlike setting one.state found.state → PutsCut setting one.state found old new →
      SumsUpCuts setting (pair ∷ []) ends ends (pairs_of old) (pairs_of new)
  cuts_put [] one old new at like puts = absurd (cc)
  cuts_put (x ∷ xs) one (c ∷ cs) new at like puts =
      subst (λ (l : List (FoundMark MachineState)). SumsUpCuts setting (pair ∷ []) (x ∷ xs) (x ∷ xs) (pairs_of (c ∷ cs)) (pairs_of l))
      (sym (puts.full (λ none. absurd (cc))))
      (cuts_stay x xs (x ∷ xs) [] (pairs_of (c ∷ cs)) (ap (λ (l : List Pair). x ∷ l) (sym (append-nil xs))) (λ e. absurd (cc)))
  cuts_put (x ∷ xs) one [] new at like puts = elim (puts.empty refl) [
    | inl stays ↦ subst (λ (l : List (FoundMark MachineState)). SumsUpCuts setting (pair ∷ []) (x ∷ xs) (x ∷ xs) [] (pairs_of l))
        (sym stays.0)
        (cuts_stay x xs (x ∷ xs) [] [] (ap (λ (l : List Pair). x ∷ l) (sym (append-nil xs)))
        (λ e. subst (λ (p : Pair). AreWhollyAlike setting found.state p.0) (sym (same_Some x (one.state, one.log) at))
        (λ t u st su same. sym (stays.1 u t su st))))
    | inr put ↦
        let new_is : pairs_of new ≡ pair ∷ [] = ap pairs_of put.0 in
        record {
          more = pair ∷ [];
          is = new_is;
          among = λ end has. has;
          none = λ e. absurd (let f = sym new_is ∙ e in cc);
          kept = λ kept. record {
            bare = λ none. absurd (cc);
            alike = λ a b at_a at_b.
                (let first : (one.state, one.log) ≡ a = same_Some (one.state, one.log) a (sym at ∙ at_a) in
                let second : pair ≡ b = same_Some pair b (sym (ap (λ (l : List Pair). slice_get l 0) new_is) ∙ at_b) in
                subst (λ (p : Pair). AreAlike setting a.0 p.0) second (subst (λ (p : Pair). AreAlike setting p.0 found.state) first like));
            unlike = λ a b at_a at_b.
                (let first : (one.state, one.log) ≡ a = same_Some (one.state, one.log) a (sym at ∙ at_a) in
                let second : pair ≡ b = same_Some pair b (sym (ap (λ (l : List Pair). slice_get l 0) new_is) ∙ at_b) in
                subst (λ (p : Pair). AreCutUnlike setting a.0 p.0) second
                (subst (λ (p : Pair). AreCutUnlike setting p.0 found.state) first put.1));
          };
        }
  ]

  -- it is the first that is kept
  pub cuts_first : ForOne setting → (ends new_ends cuts : List Pair) → ends ≡ [] → new_ends ≡ pair ∷ [] →
      SumsUpCuts setting (pair ∷ []) ends new_ends cuts cuts
  cuts_first one_only ends new_ends cuts none is = record {
    more = [];
    is = sym (append-nil cuts);
    among = λ end has. nothing_in end has;
    none = λ e k at end has. of_both pair k end (same_Some pair k (sym (ap (λ (l : List Pair). slice_get l 0) is) ∙ at)) (alone pair end has)
        (λ t u st su like. ap cut_values_in (one_only found.state t u st su));
    kept = λ kept. record {
      bare = λ bare. absurd (let f = sym is ∙ bare in cc);
      alike = λ a b at_a at_b. absurd (let f = sym (ap (λ (l : List Pair). slice_get l 0) (kept.bare none)) ∙ at_b in cc);
      unlike = λ a b at_a at_b. absurd (let f = sym (ap (λ (l : List Pair). slice_get l 0) (kept.bare none)) ∙ at_b in cc);
    };
  }
