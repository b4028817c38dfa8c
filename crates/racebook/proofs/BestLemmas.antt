-- The best row of each key, and the list of them.
use Rattle.std.proofs.Common.{◌≡◌, ℕ, suc, ◌+◌, ◌<◌, ◌≤◌, cond, Bool, true, false, List, [], ◌∷◌, ◌++◌, length, map, slice_get, get_or, Option, Some, None, option_map, unwrap_or, refl, sym, ap, ◌∙◌, subst, inl, inr, arith, append_assoc}
use Rattle.std.specs.List.{Contains}
use Rattle.std.specs.List.Sorted.{IsStrictlySortedBy}
use Rattle.std.specs.Cmp.{IsTotalOrder}
use Rattle.std.specs.Map.{keys_of}
use Rattle.std.specs.Ordering.{nat_cmp, is_eq, ordering_then}
use Rattle.std.specs.declared.cmp.Ordering.{Ordering}
use Rattle.std.specs.declared.cmp.Ordering.TheVariants.{Less, Equal, Greater}
use Rattle.std.specs.BTreeMap.{BTreeMap, get, IsOrdered}
use Rattle.std.proofs.lemmas.Bool.{cases_lt}
use Rattle.std.proofs.lemmas.Cmp.{nat_cmp_total, on_total, then_total, tied_itself}
use Rattle.std.proofs.lemmas.List.{append-nil}
use Rattle.std.proofs.lemmas.Map.Entries.{btree_map_get_place, place_from_lookup}
use Rattle.std.proofs.lemmas.Map.Keys.{Less-from_sorted}
use Rattle.std.proofs.lemmas.Option.{slice_get-map, slice_get_within, get_or_from_slice_get, same_Some}
use Rattle.basis.proofs.Numbers.{equal_numbers, less_numbers}
use Rattle.basis.proofs.Lists.{at_contains, of_mapped}
use Rattle.vbits.specs.declared.bit4.Bit4.TheVariants.{X}
use Rattle.vbits.specs.Vectors.{Vector, filled}
use Rattle.sched_core.specs.Bags.{bag_cmp}
use Rattle.sched_core.specs.BagLaws.{bags_tie, bags_total, lines_tell}
use Rattle.racebook.specs.Order.{IsEarlier, AreInTextOrder}
use Rattle.racebook.specs.LineRaces.{AreSidesInOrder, Texts}
use Rattle.racebook.specs.Inner.{key_of, key_cmp, themselves, HasBestAt, IsBestAt, KeepsBest, AreBest, HasValue, row_of_entry}
use Rattle.racebook.proofs.KeyLemmas.{key_tells}
use Rattle.racebook.proofs.ListLemmas.{contains_at}

-- ---- the order of keys

pub key_total : IsTotalOrder key_cmp
key_total = then_total (on_total (λ (p : ℕ × ℕ). p.0) nat_cmp_total) (on_total (λ (p : ℕ × ℕ). p.1) nat_cmp_total)

exact : (a b : ℕ × ℕ) (o p : Ordering) → nat_cmp a.0 b.0 ≡ o → nat_cmp a.1 b.1 ≡ p → is_eq (ordering_then o p) ≡ true → a ≡ b
exact a b Less p h g e = absurd (cc)
exact a b Equal Less h g e = absurd (cc)
exact a b Equal Equal h g e =
    let one : a.0 ≡ b.0 = equal_numbers a.0 b.0 h in
    let two : a.1 ≡ b.1 = equal_numbers a.1 b.1 g in
    λ i. (one i, two i)
exact a b Equal Greater h g e = absurd (cc)
exact a b Greater p h g e = absurd (cc)

earlier : (a b : ℕ × ℕ) (o p : Ordering) → nat_cmp a.0 b.0 ≡ o → nat_cmp a.1 b.1 ≡ p → ordering_then o p ≡ Less → IsEarlier a.0 a.1 b.0 b.1
earlier a b Less p h g e = inl (less_numbers a.0 b.0 h)
earlier a b Equal Less h g e = inr (equal_numbers a.0 b.0 h, less_numbers a.1 b.1 g)
earlier a b Equal Equal h g e = absurd (cc)
earlier a b Equal Greater h g e = absurd (cc)
earlier a b Greater p h g e = absurd (cc)

pub key_exact : (a b : ℕ × ℕ) → is_eq (key_cmp a b) ≡ true → a ≡ b
key_exact a b e = exact a b (nat_cmp a.0 b.0) (nat_cmp a.1 b.1) refl refl e

pub key_earlier : (a b : ℕ × ℕ) → key_cmp a b ≡ Less → IsEarlier a.0 a.1 b.0 b.1
key_earlier a b e = earlier a b (nat_cmp a.0 b.0) (nat_cmp a.1 b.1) refl refl e

-- ---- keys

-- how values are compared: each has a key of its own, and those whose keys rise stand in order
pub record Keys (V K : Type 0) (AreInOrder : List (V × List (ℕ × ℕ)) → Type 0) : Type 0 where
  pub key : V → K
  pub cmp : K → K → Ordering
  pub total : IsTotalOrder cmp
  pub exact : (a b : K) → is_eq (cmp a b) ≡ true → a ≡ b
  pub tells : (v w : V) → key v ≡ key w → v ≡ w
  pub none : V
  pub in_order : (values : List (V × List (ℕ × ℕ))) →
      ((i j : ℕ) (s t : V × List (ℕ × ℕ)) → i < j → slice_get values i ≡ Some s → slice_get values j ≡ Some t → cmp (key s.0) (key t.0) ≡ Less) →
      AreInOrder values

-- those of values go by shape and number
abbrev pub value_keys : Keys Vector (ℕ × ℕ) AreInTextOrder
value_keys = record {
  key = key_of;
  cmp = key_cmp;
  total = key_total;
  exact = key_exact;
  tells = key_tells;
  none = filled 1 X;
  in_order = λ values rise. λ i j s t lt at at'. key_earlier (key_of s.0) (key_of t.0) (rise i j s t lt at at');
}

pub lines_exact : (a b : Texts) → is_eq (bag_cmp a b) ≡ true → a ≡ b
lines_exact a b e = (lines_tell a b).0 (bags_tie a b ∙ e)

-- lines are compared as they are
abbrev pub line_keys : Keys Texts Texts AreSidesInOrder
line_keys = record {
  key = themselves;
  cmp = bag_cmp;
  total = bags_total;
  exact = lines_exact;
  tells = λ v w e. e;
  none = [];
  in_order = λ sides rise. rise;
}

-- ---- from a list's front

pub first_of : {A : Type 0} (it rest : List A) (e : A) → it ≡ e ∷ rest → slice_get it 0 ≡ Some e
first_of it rest e head = ap (λ es. slice_get es 0) head

pub next_of : {A : Type 0} (it rest : List A) (e : A) → it ≡ e ∷ rest → (i : ℕ) → slice_get it (suc i) ≡ slice_get rest i
next_of it rest e head i = ap (λ es. slice_get es (suc i)) head

module _ {V K : Type 0} {AreInOrder : List (V × List (ℕ × ℕ)) → Type 0} (keys : Keys V K AreInOrder) where
  itself : (key : K) → is_eq (keys.cmp key key) ≡ true
  itself key = ap is_eq (tied_itself keys.total key)

  -- ---- one row more

  abbrev pub BestBelow : List (V × List (ℕ × ℕ)) → ℕ → (K → Option ℕ) → Type 0
  BestBelow rows count f = (key : K) → HasBestAt keys.key rows count key (f key)

  same_row : (rows : List (V × List (ℕ × ℕ))) (i j : ℕ) (r s : V × List (ℕ × ℕ)) → i ≡ j → slice_get rows i ≡ Some r → slice_get rows j ≡ Some s → r ≡ s
  same_row rows i j r s e at at' = same_Some r s (sym at ∙ ap (slice_get rows) e ∙ at')

  -- what is noted for the row's key, if it is this one, is no worse than the row
  kept_at : (rows : List (V × List (ℕ × ℕ))) (n : ℕ) (row : V × List (ℕ × ℕ)) (key : K) (o : Option ℕ) → slice_get rows n ≡ Some row →
      HasBestAt keys.key rows n key o → (keys.key row.0 ≡ key → (p : ℕ) × (h : V × List (ℕ × ℕ)) × (o ≡ Some p) × (slice_get rows p ≡ Some h) × (length h.1 ≤ length row.1)) →
      HasBestAt keys.key rows (n + 1) key o
  kept_at rows n row key None at best noted = λ j r lt at' same. elim (cases_lt j n) [
    | inl before ↦ best j r before at' same
    | inr later ↦
        let here : r ≡ row = same_row rows j n r row (omega arith) at' at in
        let k : keys.key row.0 ≡ key = ap (λ (p : V × List (ℕ × ℕ)). keys.key p.0) (sym here) ∙ same in
        let e = (noted k).2 in
        absurd (cc)
  ]
  kept_at rows n row key (Some p) at best noted = record {
    row = best.row;
    at = best.at;
    key_is = best.key_is;
    fewest = λ j r lt at' same. elim (cases_lt j n) [
      | inl before ↦ best.fewest j r before at' same
      | inr later ↦
          let here : r ≡ row = same_row rows j n r row (omega arith) at' at in
          let k : keys.key row.0 ≡ key = ap (λ (p : V × List (ℕ × ℕ)). keys.key p.0) (sym here) ∙ same in
          let m = noted k in
          let is : best.row ≡ m.1 = same_row rows p m.0 best.row m.1 (same_Some p m.0 m.2) best.at m.3 in
          let le : length best.row.1 ≤ length row.1 = subst (λ (x : V × List (ℕ × ℕ)). length x.1 ≤ length row.1) (sym is) m.4 in
          subst (λ (x : V × List (ℕ × ℕ)). length best.row.1 ≤ length x.1) (sym here) le
    ];
  }

  pub best_kept : (rows : List (V × List (ℕ × ℕ))) (n : ℕ) (row h : V × List (ℕ × ℕ)) (f : K → Option ℕ) (p : ℕ) → slice_get rows n ≡ Some row →
      BestBelow rows n f → f (keys.key row.0) ≡ Some p → slice_get rows p ≡ Some h → length h.1 ≤ length row.1 → BestBelow rows (n + 1) f
  best_kept rows n row h f p at best noted at' le = λ key. kept_at rows n row key (f key) at (best key) (λ e. (p, h, ap f (sym e) ∙ noted, at', le))

  put_before : (rows : List (V × List (ℕ × ℕ))) (n : ℕ) (row : V × List (ℕ × ℕ)) (key : K) (o : Option ℕ) → HasBestAt keys.key rows n key o →
      ((p : ℕ) (h : V × List (ℕ × ℕ)) → o ≡ Some p → slice_get rows p ≡ Some h → length row.1 ≤ length h.1) →
      (j : ℕ) (r : V × List (ℕ × ℕ)) → j < n → slice_get rows j ≡ Some r → keys.key r.0 ≡ key → length row.1 ≤ length r.1
  put_before rows n row key None best fewer j r lt at same = absurd (best j r lt at same)
  put_before rows n row key (Some p) best fewer j r lt at same =
      let a : length row.1 ≤ length best.row.1 = fewer p best.row refl best.at in
      let b : length best.row.1 ≤ length r.1 = best.fewest j r lt at same in
      omega arith

  -- the row takes its key's place
  put_at : (rows : List (V × List (ℕ × ℕ))) (n : ℕ) (row : V × List (ℕ × ℕ)) (key : K) (o : Option ℕ) → slice_get rows n ≡ Some row →
      keys.key row.0 ≡ key → HasBestAt keys.key rows n key o →
      ((p : ℕ) (h : V × List (ℕ × ℕ)) → o ≡ Some p → slice_get rows p ≡ Some h → length row.1 ≤ length h.1) → IsBestAt keys.key rows (n + 1) key n
  put_at rows n row key o at is best fewer = record {
    row = row;
    at = at;
    key_is = is;
    fewest = λ j r lt at' same. elim (cases_lt j n) [
      | inl before ↦ put_before rows n row key o best fewer j r before at' same
      | inr later ↦
          let here : row ≡ r = same_row rows n j row r (omega arith) at at' in
          let e : row.1 ≡ r.1 = ap (λ (p : V × List (ℕ × ℕ)). p.1) here in
          rw e (omega arith)
    ];
  }

  put_key : (rows : List (V × List (ℕ × ℕ))) (n : ℕ) (row : V × List (ℕ × ℕ)) (f : K → Option ℕ) (key : K) (b : Bool) → slice_get rows n ≡ Some row →
      is_eq (keys.cmp (keys.key row.0) key) ≡ b → BestBelow rows n f →
      ((p : ℕ) (h : V × List (ℕ × ℕ)) → f (keys.key row.0) ≡ Some p → slice_get rows p ≡ Some h → length row.1 ≤ length h.1) →
      HasBestAt keys.key rows (n + 1) key (cond b (Some n) (f key))
  put_key rows n row f key true at e best fewer =
      let is : keys.key row.0 ≡ key = keys.exact (keys.key row.0) key e in
      put_at rows n row key (f key) at is (best key) (λ p h noted. fewer p h (ap f is ∙ noted))
  put_key rows n row f key false at e best fewer = kept_at rows n row key (f key) at (best key) (λ is.
      absurd (let again : is_eq (keys.cmp key key) ≡ false = subst (λ (k : K). is_eq (keys.cmp k key) ≡ false) is e in
      let itself : is_eq (keys.cmp key key) ≡ true = itself key in cc))

  pub best_put : (rows : List (V × List (ℕ × ℕ))) (n : ℕ) (row : V × List (ℕ × ℕ)) (f g : K → Option ℕ) → slice_get rows n ≡ Some row →
      BestBelow rows n f → ((p : ℕ) (h : V × List (ℕ × ℕ)) → f (keys.key row.0) ≡ Some p → slice_get rows p ≡ Some h → length row.1 ≤ length h.1) →
      ((key : K) → g key ≡ cond (is_eq (keys.cmp (keys.key row.0) key)) (Some n) (f key)) → BestBelow rows (n + 1) g
  best_put rows n row f g at best fewer puts = λ key. rw (puts key) (put_key rows n row f key (is_eq (keys.cmp (keys.key row.0) key)) at refl best fewer)

  -- ---- the list

  pub row_of_entry_is : (rows : List (V × List (ℕ × ℕ))) (e : K × ℕ) (row : V × List (ℕ × ℕ)) → slice_get rows e.1 ≡ Some row → row_of_entry keys.none rows e ≡ row
  row_of_entry_is rows e row at = ap (λ o. unwrap_or o (keys.none, [])) at

  pub best_entry : (rows : List (V × List (ℕ × ℕ))) (m : BTreeMap K ℕ) → KeepsBest keys.key keys.cmp rows m → IsOrdered keys.cmp m → (i : ℕ) (e : K × ℕ) →
      slice_get m.entries i ≡ Some e → IsBestAt keys.key rows (length rows) e.0 e.1
  best_entry rows m best order i e at =
      let found : get keys.cmp m e.0 ≡ Some e.1 = btree_map_get_place keys.total m i e.0 e.1 order at in
      subst (λ (o : Option ℕ). HasBestAt keys.key rows (length rows) e.0 o) found (best e.0)

  -- the value listed at a place, with its key
  record Listed (rows : List (V × List (ℕ × ℕ))) (es : List (K × ℕ)) (i : ℕ) (s : V × List (ℕ × ℕ)) : Type 0 where
    entry : K × ℕ
    at : slice_get es i ≡ Some entry
    best : IsBestAt keys.key rows (length rows) entry.0 entry.1
    is : best.row ≡ s

  listed : (rows : List (V × List (ℕ × ℕ))) (m : BTreeMap K ℕ) → KeepsBest keys.key keys.cmp rows m → IsOrdered keys.cmp m → (i : ℕ) (s : V × List (ℕ × ℕ)) →
      slice_get (map (row_of_entry keys.none rows) m.entries) i ≡ Some s → Listed rows m.entries i s
  listed rows m best order i s at =
      let p = of_mapped (row_of_entry keys.none rows) m.entries i s at in
      let b = best_entry rows m best order i p.0 p.1 in
      record { entry = p.0; at = p.1; best = b; is = sym (row_of_entry_is rows p.0 b.row b.at) ∙ p.2 }

  has_value : (rows : List (V × List (ℕ × ℕ))) (m : BTreeMap K ℕ) (j : ℕ) (r : V × List (ℕ × ℕ)) (o : Option ℕ) → get keys.cmp m (keys.key r.0) ≡ o →
      HasBestAt keys.key rows (length rows) (keys.key r.0) o → slice_get rows j ≡ Some r → HasValue (map (row_of_entry keys.none rows) m.entries) r.0
  has_value rows m j r None found best at = absurd (best j r (slice_get_within rows j r at) at refl)
  has_value rows m j r (Some h) found best at =
      let p = place_from_lookup (λ (k : K). is_eq (keys.cmp (keys.key r.0) k)) m.entries h found in
      let here : slice_get (map (row_of_entry keys.none rows) m.entries) p.0 ≡ Some (row_of_entry keys.none rows (p.1, h)) = slice_get-map (row_of_entry keys.none rows) m.entries p.0 ∙ ap (option_map (row_of_entry keys.none rows)) p.2 in
      let row : row_of_entry keys.none rows (p.1, h) ≡ best.row = row_of_entry_is rows (p.1, h) best.row best.at in
      (p.0, row_of_entry keys.none rows (p.1, h), here, ap (λ (x : V × List (ℕ × ℕ)). x.0) row ∙ keys.tells best.row.0 r.0 best.key_is)

  key_listed : (rows : List (V × List (ℕ × ℕ))) (es : List (K × ℕ)) (i : ℕ) (s : V × List (ℕ × ℕ)) (l : Listed rows es i s) → keys.key s.0 ≡ l.entry.0
  key_listed rows es i s l = ap (λ (x : V × List (ℕ × ℕ)). keys.key x.0) (sym l.is) ∙ l.best.key_is

  key_place : (es : List (K × ℕ)) (i : ℕ) (e : K × ℕ) → slice_get es i ≡ Some e → slice_get (keys_of es) i ≡ Some e.0
  key_place es i e at = slice_get-map (λ (e : K × ℕ). e.0) es i ∙ ap (option_map (λ (e : K × ℕ). e.0)) at

  keys_rise : (ks : List K) (i j : ℕ) (a b : K) → IsStrictlySortedBy keys.cmp ks → i < j → slice_get ks i ≡ Some a → slice_get ks j ≡ Some b → keys.cmp a b ≡ Less
  keys_rise ks i j a b order lt at at' =
      let less : keys.cmp (get_or ks i a) (get_or ks j a) ≡ Less = Less-from_sorted keys.cmp ks i j a order lt (slice_get_within ks j b at') in
      let one : get_or ks i a ≡ a = get_or_from_slice_get ks i a a at in
      let other : get_or ks j a ≡ b = get_or_from_slice_get ks j b a at' in
      let less' : keys.cmp a (get_or ks j a) ≡ Less = subst (λ (k : K). keys.cmp k (get_or ks j a) ≡ Less) one less in
      subst (λ (k : K). keys.cmp a k ≡ Less) other less'

  values_in_order : (rows : List (V × List (ℕ × ℕ))) (m : BTreeMap K ℕ) → KeepsBest keys.key keys.cmp rows m → IsOrdered keys.cmp m → AreInOrder (map (row_of_entry keys.none rows) m.entries)
  values_in_order rows m best order = keys.in_order (map (row_of_entry keys.none rows) m.entries) (λ i j s t lt at at'.
      (let p = listed rows m best order i s at in
      let q = listed rows m best order j t at' in
      let one : keys.key s.0 ≡ p.entry.0 = key_listed rows m.entries i s p in
      let other : keys.key t.0 ≡ q.entry.0 = key_listed rows m.entries j t q in
      let less : keys.cmp p.entry.0 q.entry.0 ≡ Less =
      keys_rise (keys_of m.entries) i j p.entry.0 q.entry.0 order lt (key_place m.entries i p.entry p.at) (key_place m.entries j q.entry q.at) in
      let less' : keys.cmp (keys.key s.0) q.entry.0 ≡ Less = subst (λ (k : K). keys.cmp k q.entry.0 ≡ Less) (sym one) less in
      subst (λ (k : K). keys.cmp (keys.key s.0) k ≡ Less) (sym other) less'))

  pub list_best : (rows : List (V × List (ℕ × ℕ))) (m : BTreeMap K ℕ) (values : List (V × List (ℕ × ℕ))) →
      values ≡ map (row_of_entry keys.none rows) m.entries → KeepsBest keys.key keys.cmp rows m → IsOrdered keys.cmp m → AreBest AreInOrder rows values
  list_best rows m values is best order = subst (λ (xs : List (V × List (ℕ × ℕ))). AreBest AreInOrder rows xs) (sym is) (record {
    seen = λ i s at.
        (let p = listed rows m best order i s at in
        subst (λ (x : V × List (ℕ × ℕ)). Contains rows x) p.is (contains_at rows p.entry.1 p.best.row p.best.at));
    fewest = λ i s r at has same.
        (let p = listed rows m best order i s at in
        let q = at_contains rows r has in
        let key : keys.key r.0 ≡ p.entry.0 = ap keys.key same ∙ key_listed rows m.entries i s p in
        subst (λ (x : V × List (ℕ × ℕ)). length x.1 ≤ length r.1) p.is (p.best.fewest q.0 r (slice_get_within rows q.0 r q.1) q.1 key));
    all = λ r has.
        (let q = at_contains rows r has in
        has_value rows m q.0 r (get keys.cmp m (keys.key r.0)) refl (best (keys.key r.0)) q.1);
    order = values_in_order rows m best order;
  })

  -- ---- places within

  pub noted_within : (rows : List (V × List (ℕ × ℕ))) (n : ℕ) (f : K → Option ℕ) (key : K) (p : ℕ) → BestBelow rows n f → f key ≡ Some p → p < length rows
  noted_within rows n f key p best noted =
      let b : IsBestAt keys.key rows n key p = subst (λ (o : Option ℕ). HasBestAt keys.key rows n key o) noted (best key) in
      slice_get_within rows p b.row b.at

  -- ---- going through the entries

  pub list_start : (rows items all : List (V × List (ℕ × ℕ))) (it es : List (K × ℕ)) → items ≡ [] → it ≡ es → map (row_of_entry keys.none rows) es ≡ all →
      items ++ map (row_of_entry keys.none rows) it ≡ all
  list_start rows items all it es nothing start is = rw (nothing, start) is

  pub list_step : (rows xs new all : List (V × List (ℕ × ℕ))) (it rest : List (K × ℕ)) (e : K × ℕ) (row : V × List (ℕ × ℕ)) → it ≡ e ∷ rest →
      xs ++ map (row_of_entry keys.none rows) it ≡ all → row_of_entry keys.none rows e ≡ row → new ≡ xs ++ row ∷ [] → new ++ map (row_of_entry keys.none rows) rest ≡ all
  list_step rows xs new all it rest e row head so_far is pushed =
      let one : new ++ map (row_of_entry keys.none rows) rest ≡ (xs ++ row ∷ []) ++ map (row_of_entry keys.none rows) rest = ap (λ ys. ys ++ map (row_of_entry keys.none rows) rest) pushed in
      let two : (xs ++ row ∷ []) ++ map (row_of_entry keys.none rows) rest ≡ xs ++ (row ∷ map (row_of_entry keys.none rows) rest) = append_assoc xs (row ∷ []) (map (row_of_entry keys.none rows) rest) in
      let three : xs ++ (row ∷ map (row_of_entry keys.none rows) rest) ≡ xs ++ map (row_of_entry keys.none rows) (e ∷ rest) = ap (λ r. xs ++ (r ∷ map (row_of_entry keys.none rows) rest)) (sym is) in
      let four : xs ++ map (row_of_entry keys.none rows) (e ∷ rest) ≡ xs ++ map (row_of_entry keys.none rows) it = ap (λ es. xs ++ map (row_of_entry keys.none rows) es) (sym head) in
      one ∙ two ∙ three ∙ four ∙ so_far

  pub list_done : (rows xs all : List (V × List (ℕ × ℕ))) (it : List (K × ℕ)) → it ≡ [] → xs ++ map (row_of_entry keys.none rows) it ≡ all → xs ≡ all
  list_done rows xs all it over so_far = sym (append-nil xs) ∙ sym (ap (λ es. xs ++ map (row_of_entry keys.none rows) es) over) ∙ so_far
