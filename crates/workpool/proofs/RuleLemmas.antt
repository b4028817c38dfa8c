-- Why each step keeps the rule of a tally.
use Rattle.std.proofs.Common.{◌≡◌, ℕ, zero, suc, ◌+◌, ◌%◌, ◌^◌, ◌<◌, ◌≤◌, Bool, true, false, ◌||◌, List, [], ◌∷◌, ◌++◌, set, slice_index, slice_set, arith, ap, refl, sym, ◌∙◌, subst, inl, inr, true≢false, ltb-true}
use mathlib.Core.Option.{some}
use lib.ListN.{get_elem?}
use native.Mathlib.Nat.{mod-add-mod}
use Rattle.atomic_table.proofs.Lists.{at_set, at_snoc}
use Rattle.atomic_table.specs.Table.{State, Me, Allows, Splits, Joins, Final, Seen, keeps}
use Rattle.workpool.specs.declared.rule.Counted.{Counted}
use Rattle.workpool.specs.Inner.Rules.{FindsAll, IsTallied, with_open, with_shut, with_mark, with_stop, split_left, split_right, join_of, no_counts}
use Rattle.workpool.specs.Inner.Sums.{total}
use Rattle.workpool.proofs.SumLemmas.{total_set, total_snoc, alone}

-- a seat that changes keeps what all seats keep
told_set : (views : List Counted) (seat : ℕ) (w : Counted) (mark : ℕ) → (w.stopped ≡ true → 0 < mark) → ((i : ℕ) (v : Counted) → get_elem? views i ≡ some v → v.stopped ≡ true → 0 < mark)
    → (i : ℕ) (v : Counted) → get_elem? (set views seat w) i ≡ some v → v.stopped ≡ true → 0 < mark
told_set views seat w mark new old i v at stopped = elim (at_set views seat i w v at) [
  | inl here ↦ new (ap (λ (x : Counted). x.stopped) here.1 ∙ stopped)
  | inr there ↦ old i v there.1 stopped
]

idle_set : (views : List Counted) (seat : ℕ) (w : Counted) → (w.parts ≡ 0 → (w.opens ≡ 0) × (w.shuts ≡ 0)) → ((i : ℕ) (v : Counted) → get_elem? views i ≡ some v → v.parts ≡ 0 → (v.opens ≡ 0) × (v.shuts ≡ 0))
    → (i : ℕ) (v : Counted) → get_elem? (set views seat w) i ≡ some v → v.parts ≡ 0 → (v.opens ≡ 0) × (v.shuts ≡ 0)
idle_set views seat w new old i v at none = elim (at_set views seat i w v at) [
  | inl here ↦ (let n = new (ap (λ (x : Counted). x.parts) here.1 ∙ none) in (ap (λ (x : Counted). x.opens) (sym here.1) ∙ n.0, ap (λ (x : Counted). x.shuts) (sym here.1) ∙ n.1))
  | inr there ↦ old i v there.1 none
]

-- three words that are equal each
three : {a b c d e f : ℕ} → a ≡ d → b ≡ e → c ≡ f → ◌≡◌ {A = List ℕ} (a ∷ b ∷ c ∷ []) (d ∷ e ∷ f ∷ [])
three p q r i = p i ∷ q i ∷ r i ∷ []

abbrev sums : List Counted → ℕ → List ℕ
sums views mark = (total (λ (v : Counted). v.opens) views % 2 ^ 64) ∷ (total (λ (v : Counted). v.shuts) views % 2 ^ 64) ∷ mark ∷ []

module _ (words : List ℕ) (views : List Counted) (seat : ℕ) (v : Counted) (at : get_elem? views seat ≡ some v) (t : IsTallied words views) where
  -- a sum of which one seat has one more, or the same
  one_more : (f : Counted → ℕ) (w : Counted) → f w ≡ f v + 1 → (total f views % 2 ^ 64 + 1) % 2 ^ 64 ≡ total f (set views seat w) % 2 ^ 64
  one_more f w more =
      let sum : total f (set views seat w) ≡ total f views + 1 = (let s = total_set f views seat v w at in omega (arith, s, more)) in
      mod-add-mod (total f views) (2 ^ 64) 1 ∙ ap (λ n. n % 2 ^ 64) (sym sum)

  same_sum : (f : Counted → ℕ) (w : Counted) → f w ≡ f v → total f views ≡ total f (set views seat w)
  same_sum f w same = let s = total_set f views seat v w at in omega (arith, s, same)

  same_word : (f : Counted → ℕ) (w : Counted) → f w ≡ f v → total f views % 2 ^ 64 ≡ total f (set views seat w) % 2 ^ 64
  same_word f w same = ap (λ n. n % 2 ^ 64) (same_sum f w same)

  -- the rule is kept where the words are the new sums
  kept : (after : List ℕ) (w : Counted) (mark : ℕ) → after ≡ sums (set views seat w) mark → (0 < t.mark → 0 < mark) → (w.stopped ≡ true → 0 < mark) → w.parts ≡ v.parts → (w.parts ≡ 0 → (w.opens ≡ 0) × (w.shuts ≡ 0)) → IsTallied after (set views seat w)
  kept after w mark are up new parts none = record {
    mark = mark;
    words_are = are;
    told = told_set views seat w mark new (λ i u there stopped. up (t.told i u there stopped));
    parts = sym (same_sum (λ (x : Counted). x.parts) w parts) ∙ t.parts;
    idle = idle_set views seat w none t.idle;
  }

  pub keeps_open : 0 < v.parts → IsTallied (slice_set words 0 ((slice_index words 0 + 1) % 2 ^ 64)) (set views seat (with_open v))
  keeps_open some_part =
      let P : List ℕ → Type 0 = λ ws. slice_set ws 0 ((slice_index ws 0 + 1) % 2 ^ 64) ≡ sums (set views seat (with_open v)) t.mark in
      kept _ (with_open v) t.mark (subst P (sym t.words_are) (three (one_more (λ (x : Counted). x.opens) (with_open v) refl) (same_word (λ (x : Counted). x.shuts) (with_open v) refl) refl))
      (λ up. up) (t.told seat v at) refl (λ none. absurd (omega (arith, none, some_part)))

  pub keeps_shut : 0 < v.parts → IsTallied (slice_set words 1 ((slice_index words 1 + 1) % 2 ^ 64)) (set views seat (with_shut v))
  keeps_shut some_part =
      let P : List ℕ → Type 0 = λ ws. slice_set ws 1 ((slice_index ws 1 + 1) % 2 ^ 64) ≡ sums (set views seat (with_shut v)) t.mark in
      kept _ (with_shut v) t.mark (subst P (sym t.words_are) (three (same_word (λ (x : Counted). x.opens) (with_shut v) refl) (one_more (λ (x : Counted). x.shuts) (with_shut v) refl) refl))
      (λ up. up) (t.told seat v at) refl (λ none. absurd (omega (arith, none, some_part)))

  pub keeps_stop : IsTallied (slice_set words 2 1) (set views seat (with_stop v))
  keeps_stop =
      let P : List ℕ → Type 0 = λ ws. slice_set ws 2 1 ≡ sums (set views seat (with_stop v)) 1 in
      kept _ (with_stop v) 1 (subst P (sym t.words_are) (three (same_word (λ (x : Counted). x.opens) (with_stop v) refl) (same_word (λ (x : Counted). x.shuts) (with_stop v) refl) refl))
      (λ up. omega arith) (λ s. omega arith) refl (t.idle seat v at)

  -- a word that is read stays
  pub keeps_read : (word : ℕ) → word < 3 → IsTallied (slice_set words word (slice_index words word)) (set views seat v)
  keeps_read word lt =
      let P : List ℕ → Type 0 = λ ws. slice_set ws word (slice_index ws word) ≡ sums (set views seat v) t.mark in
      kept _ v t.mark (subst P (sym t.words_are) (same_three word lt ∙ three (same_word (λ (x : Counted). x.opens) v refl) (same_word (λ (x : Counted). x.shuts) v refl) refl))
      (λ up. up) (t.told seat v at) refl (t.idle seat v at)
    where
      same_three : (n : ℕ) → n < 3 → {a b c : ℕ} → slice_set (a ∷ b ∷ c ∷ []) n (slice_index (a ∷ b ∷ c ∷ []) n) ≡ a ∷ b ∷ c ∷ []
      same_three zero h = refl
      same_three (suc zero) h = refl
      same_three (suc (suc zero)) h = refl
      same_three (suc (suc (suc n))) h = absurd (omega (arith, h))

  -- where one seat has all parts, the sums are what it has counted
  sole : (f : Counted → ℕ) → ((i : ℕ) (u : Counted) → get_elem? views i ≡ some u → u.parts ≡ 0 → f u ≡ 0) → v.parts ≡ 65 → total f views ≡ f v
  sole f idle all = alone (λ (x : Counted). x.parts) f views seat v at idle (t.parts ∙ sym all)

  pub sole_opens : v.parts ≡ 65 → total (λ (x : Counted). x.opens) views % 2 ^ 64 ≡ v.opens % 2 ^ 64
  sole_opens all = ap (λ n. n % 2 ^ 64) (sole (λ (x : Counted). x.opens) (λ i u there none. (t.idle i u there none).0) all)

  pub sole_shuts : v.parts ≡ 65 → total (λ (x : Counted). x.shuts) views % 2 ^ 64 ≡ v.shuts % 2 ^ 64
  sole_shuts all = ap (λ n. n % 2 ^ 64) (sole (λ (x : Counted). x.shuts) (λ i u there none. (t.idle i u there none).1) all)

  pub finds_opens : FindsAll v v.opens (slice_index words 0)
  finds_opens all = ap (λ ws. slice_index ws 0) t.words_are ∙ sole_opens all

  pub finds_shuts : FindsAll v v.shuts (slice_index words 1)
  finds_shuts all = ap (λ ws. slice_index ws 1) t.words_are ∙ sole_shuts all

  -- the mark that is found
  mark_found : slice_index words 2 ≡ t.mark
  mark_found = ap (λ ws. slice_index ws 2) t.words_are

  pub keeps_hear : IsTallied (slice_set words 2 (slice_index words 2)) (set views seat (with_mark v (slice_index words 2)))
  keeps_hear =
      let w : Counted = with_mark v (slice_index words 2) in
      let P : List ℕ → Type 0 = λ ws. slice_set ws 2 (slice_index ws 2) ≡ sums (set views seat w) t.mark in
      kept _ w t.mark (subst P (sym t.words_are) (three (same_word (λ (x : Counted). x.opens) w refl) (same_word (λ (x : Counted). x.shuts) w refl) refl))
      (λ up. up) (λ s. (let lt : 0 < slice_index words 2 = ltb-true 0 (slice_index words 2) s in omega (arith, lt, mark_found))) refl (t.idle seat v at)

  pub hears : v.stopped ≡ true → 0 < slice_index words 2
  hears s = let lt : 0 < t.mark = t.told seat v at s in omega (arith, lt, mark_found)

  -- a seat in two
  pub keeps_split : 2 ≤ v.parts → IsTallied words (set views seat (split_left v) ++ split_right v ∷ [])
  keeps_split two =
      let sum : (f : Counted → ℕ) → f (split_left v) + f (split_right v) ≡ f v → total f views ≡ total f (set views seat (split_left v) ++ split_right v ∷ []) = λ f e.
      (let s = total_set f views seat v (split_left v) at in let n = total_snoc f (set views seat (split_left v)) (split_right v) in omega (arith, s, n, e)) in
      record {
        mark = t.mark;
        words_are = t.words_are ∙ three (ap (λ n. n % 2 ^ 64) (sum (λ (x : Counted). x.opens) (omega arith))) (ap (λ n. n % 2 ^ 64) (sum (λ (x : Counted). x.shuts) (omega arith))) refl;
        told = λ i u there stopped. elim (at_snoc (set views seat (split_left v)) (split_right v) u i there) [
          | inl old ↦ told_set views seat (split_left v) t.mark (t.told seat v at) t.told i u old stopped
          | inr new ↦ t.told seat v at (ap (λ (x : Counted). x.stopped) new ∙ stopped)
        ];
        parts = sym (sum (λ (x : Counted). x.parts) (omega (arith, two))) ∙ t.parts;
        idle = λ i u there none. elim (at_snoc (set views seat (split_left v)) (split_right v) u i there) [
          | inl old ↦ idle_set views seat (split_left v) (λ empty. absurd (omega (arith, empty, two))) t.idle i u old none
          | inr new ↦ (let one : 1 ≡ u.parts = ap (λ (x : Counted). x.parts) new in absurd (omega (arith, one, none)))
        ];
      }

  -- two seats in one
  pub keeps_join : (other : ℕ) (w : Counted) → ¬ (other ≡ seat) → get_elem? (set views seat (join_of v w)) other ≡ some w → IsTallied words (set (set views seat (join_of v w)) other no_counts)
  keeps_join other w apart there =
      let at_other : get_elem? views other ≡ some w = elim (at_set views seat other (join_of v w) w there) [ inl same ↦ absurd (apart same.0) | inr old ↦ old.1 ] in
      let sum : (f : Counted → ℕ) → f (join_of v w) ≡ f v + f w → f no_counts ≡ 0 → total f views ≡ total f (set (set views seat (join_of v w)) other no_counts) = λ f e z.
      (let s = total_set f views seat v (join_of v w) at in let n = total_set f (set views seat (join_of v w)) other w no_counts there in omega (arith, s, n, e, z)) in
      record {
        mark = t.mark;
        words_are = t.words_are ∙ three (ap (λ n. n % 2 ^ 64) (sum (λ (x : Counted). x.opens) refl refl)) (ap (λ n. n % 2 ^ 64) (sum (λ (x : Counted). x.shuts) refl refl)) refl;
        told = told_set (set views seat (join_of v w)) other no_counts t.mark (λ no. absurd (true≢false (sym no)))
            (told_set views seat (join_of v w) t.mark (λ either. or_told v.stopped w.stopped either (t.told seat v at) (t.told other w at_other)) t.told);
        parts = sym (sum (λ (x : Counted). x.parts) refl refl) ∙ t.parts;
        idle = idle_set (set views seat (join_of v w)) other no_counts (λ none. (refl, refl))
            (idle_set views seat (join_of v w)
            (λ none.
            let mine = t.idle seat v at (omega (arith, none)) in
            let others = t.idle other w at_other (omega (arith, none)) in
            (omega (arith, mine.0, others.0), omega (arith, mine.1, others.1)))
            t.idle);
      }
    where
      or_told : {A : Type 0} (a b : Bool) → (a || b) ≡ true → (a ≡ true → A) → (b ≡ true → A) → A
      or_told true b h f g = f refl
      or_told false b h f g = g h

-- What each call asks of the table.
abbrev holds : State (Unit {0}) Counted → Type 0
holds s = IsTallied s.words s.views

module _ (slots id : ℕ) (me : Me (Unit {0}) Counted) where
  pub may_open : 0 < me.0.parts → Allows holds slots id me 0 (λ n. (n + 1) % 2 ^ 64) (λ found after. after ≡ (with_open me.0, me.1))
  may_open some_part s kept len at fits = (with_open me.0, keeps, tt, keeps_open s.words s.views id me.0 at kept some_part, refl)

  pub may_shut : 0 < me.0.parts → Allows holds slots id me 1 (λ n. (n + 1) % 2 ^ 64) (λ found after. after ≡ (with_shut me.0, me.1))
  may_shut some_part s kept len at fits = (with_shut me.0, keeps, tt, keeps_shut s.words s.views id me.0 at kept some_part, refl)

  pub may_stop : Allows holds slots id me 2 (λ n. 1) (λ found after. after ≡ (with_stop me.0, me.1))
  may_stop s kept len at fits = (with_stop me.0, keeps, tt, keeps_stop s.words s.views id me.0 at kept, refl)

  pub may_read_opens : Allows holds slots id me 0 (λ n. n) (λ found after. (after ≡ me) × FindsAll me.0 me.0.opens found)
  may_read_opens s kept len at fits = (me.0, keeps, tt, keeps_read s.words s.views id me.0 at kept 0 (omega arith), (refl, finds_opens s.words s.views id me.0 at kept))

  pub may_read_shuts : Allows holds slots id me 1 (λ n. n) (λ found after. (after ≡ me) × FindsAll me.0 me.0.shuts found)
  may_read_shuts s kept len at fits = (me.0, keeps, tt, keeps_read s.words s.views id me.0 at kept 1 (omega arith), (refl, finds_shuts s.words s.views id me.0 at kept))

  pub may_hear : Allows holds slots id me 2 (λ n. n) (λ found after. (after ≡ (with_mark me.0 found, me.1)) × (me.0.stopped ≡ true → 0 < found))
  may_hear s kept len at fits = (with_mark me.0 (slice_index s.words 2), keeps, tt, keeps_hear s.words s.views id me.0 at kept, (refl, hears s.words s.views id me.0 at kept))

pub may_split : (id : ℕ) (v : Counted) → 2 ≤ v.parts → Splits holds id v (split_left v) (split_right v)
may_split id v two s kept at = keeps_split s.words s.views id v at kept two

pub may_join : (id : ℕ) (v : Counted) (other : ℕ) (w : Counted) → Joins holds id v other w (join_of v w) no_counts
may_join id v other w s kept at apart there = keeps_join s.words s.views id v at kept other w apart there

-- The words at the end, where one seat has all parts.
pub settled : (words : List ℕ) (slots : List (Unit {0})) (id : ℕ) (v : Counted) → Final (Seen holds id v) words slots → v.parts ≡ 65 → (mark : ℕ) × (words ≡ (v.opens % 2 ^ 64) ∷ (v.shuts % 2 ^ 64) ∷ mark ∷ [])
settled words slots id v end all =
    let s = end.0 in
    let kept = end.1.0 in
    let at = end.1.1 in
    (kept.mark, sym end.2 ∙ kept.words_are ∙ three (sole_opens s.words s.views id v at kept all) (sole_shuts s.words s.views id v at kept all) refl)
