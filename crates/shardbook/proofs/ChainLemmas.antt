-- Why an index by codes stays one where a member is put last.
use Rattle.std.proofs.Common.{◌≡◌, ◌≢◌, ℕ, ◌+◌, ◌<◌, ◌≤◌, cond, nat_eq, List, [], ◌∷◌, ◌++◌, length, slice_get, Option, Some, None, arith, sym, subst, inl, inr, length-append}
use Rattle.std.proofs.lemmas.List.{length-map}
use Rattle.std.proofs.lemmas.Bool.Decides.{eqb_tells}
use Rattle.basis.proofs.Lists.{place_within, stands_in_front, stands_last, last_or_before}
use Rattle.statebook.proofs.BookLemmas.{map-append_one}
use Rattle.shardbook.specs.Inner.Chained.{IsLast}
use Rattle.shardbook.specs.Inner.Links.{codes_of, IsLinked}
use Rattle.shardbook.specs.declared.chains.Link.{Link}

-- the last of the first n stays that where a member is put behind them
last_stays : (codes : List ℕ) (more n code : ℕ) (r : Option ℕ) → n ≤ length codes → IsLast codes n code r → IsLast (codes ++ more ∷ []) n code r
last_stays codes more n code None le h = λ j lt at. elim (last_or_before codes more j code at) [
  | inl there ↦ h j lt there
  | inr last ↦ absurd (omega arith)
]
last_stays codes more n code (Some i) le h = (
  h.0,
  stands_in_front codes (more ∷ []) i code h.1,
  λ j after lt at. elim (last_or_before codes more j code at) [
    | inl there ↦ h.2 j after lt there
    | inr last ↦ absurd (omega arith)
  ],
)

-- the new member is the last of its code
last_new : (codes : List ℕ) (code : ℕ) → IsLast (codes ++ code ∷ []) (length codes + 1) code (Some (length codes))
last_new codes code = (omega arith, stands_last codes code, λ j after lt at. absurd (omega arith))

-- and no other code has another last member
last_other : (codes : List ℕ) (more code : ℕ) (r : Option ℕ) → more ≢ code → IsLast codes (length codes) code r → IsLast (codes ++ more ∷ []) (length codes + 1) code r
last_other codes more code None ne h = λ j lt at. elim (last_or_before codes more j code at) [
  | inl there ↦ h j (place_within codes j code there) there
  | inr last ↦ ne last.1
]
last_other codes more code (Some i) ne h = (
  (let lt : i < length codes = h.0 in omega arith),
  stands_in_front codes (more ∷ []) i code h.1,
  λ j after lt at. elim (last_or_before codes more j code at) [
    | inl there ↦ h.2 j after (place_within codes j code there) there
    | inr last ↦ ne last.1
  ],
)

-- the index with one link more
module _ (links : List Link) (l : Link) (last more : ℕ → Option ℕ) (old : IsLinked links last) (before : l.before ≡ last l.code) (new : (q : ℕ) → more q ≡ cond (nat_eq l.code q) (Some (length links)) (last q)) where
  codes : codes_of (links ++ l ∷ []) ≡ codes_of links ++ l.code ∷ []
  codes = map-append_one (λ (k : Link). k.code) links l

  count : length (codes_of links) ≡ length links
  count = length-map links (λ (k : Link). k.code)

  front_at : (q : ℕ) → IsLast (codes_of links ++ l.code ∷ []) (length (codes_of links) + 1) q (cond (nat_eq l.code q) (Some (length links)) (last q))
  front_at q = elim (eqb_tells l.code q) [
    | inl same ↦ (
        let P : ℕ → Type 0 = λ c. IsLast (codes_of links ++ l.code ∷ []) (length (codes_of links) + 1) c (Some (length (codes_of links))) in
        rw (same.0, ← count) (subst P same.1 (last_new (codes_of links) l.code)))
    | inr other ↦ (
        let P : ℕ → Type 0 = λ n. IsLast (codes_of links) n q (last q) in
        rw other.0 (last_other (codes_of links) l.code q (last q) other.1 (subst P (sym count) (old.front q))))
  ]

  back_at : (i : ℕ) (k : Link) → slice_get (links ++ l ∷ []) i ≡ Some k → IsLast (codes_of links ++ l.code ∷ []) i k.code k.before
  back_at i k at = elim (last_or_before links l i k at) [
    | inl there ↦ last_stays (codes_of links) l.code i k.code k.before (let lt = place_within links i k there in omega (arith, lt, count)) (old.back i k there)
    | inr end ↦ (
        let P : Link → Type 0 = λ x. IsLast (codes_of links ++ l.code ∷ []) i x.code x.before in
        let Q : Option ℕ → Type 0 = λ b. IsLast (codes_of links) (length links) l.code b in
        let here : IsLast (codes_of links) (length links) l.code l.before = subst Q (sym before) (old.front l.code) in
        let R : ℕ → Type 0 = λ n. IsLast (codes_of links) n l.code l.before in
        subst P end.1 (last_stays (codes_of links) l.code i l.code l.before (omega (arith, end.0, count)) (subst R (sym end.0) here)))
  ]

  pub linked_more : IsLinked (links ++ l ∷ []) more
  linked_more = record {
    back = (let P : List ℕ → Type 0 = λ cs. (i : ℕ) (k : Link) → slice_get (links ++ l ∷ []) i ≡ Some k → IsLast cs i k.code k.before in subst P (sym codes) back_at);
    front = λ q. (
        let P : List ℕ → Type 0 = λ cs. IsLast cs (length (links ++ l ∷ [])) q (more q) in
        let n : length (codes_of links) + 1 ≡ length (links ++ l ∷ []) = omega (arith, count, length-append links (l ∷ [])) in
        subst P (sym codes) (rw (new q, ← n) (front_at q)));
  }
