-- What workers leave: the places that are read, and why they stopped short.
use Rattle.std.proofs.Common.{◌≡◌, ℕ, ◌+◌, List, [], ◌∷◌, ◌++◌, length, length-append, arith, ap, sym, subst, inl, inr}
use Rattle.basis.proofs.Lists.{last_or_before}
use Rattle.shardbook.specs.StoredEntries.{StoredEntry}
use Rattle.explore.specs.Inner.Listing.{InPlace}

-- the places before one are read, in order
pub record SeenUpTo {S : Type 0} (all : List (StoredEntry S)) (place : ℕ) : Type 0 where
  pub count : length all ≡ place
  pub places : InPlace all

pub none_seen : {S : Type 0} (all : List (StoredEntry S)) → all ≡ [] → SeenUpTo all 0
none_seen {S} all none =
    let P : List (StoredEntry S) → Type 0 = λ l. SeenUpTo l 0 in
    subst P (sym none) (record { count = omega arith; places = λ i s at. absurd cc })

pub one_seen : {S : Type 0} (all new : List (StoredEntry S)) (place : ℕ) (x : StoredEntry S) → SeenUpTo all place → x.place ≡ place → new ≡ all ++ x ∷ [] → SeenUpTo new (place + 1)
one_seen {S} all new place x seen at_place is =
    let P : List (StoredEntry S) → Type 0 = λ l. SeenUpTo l (place + 1) in
    subst P (sym is) (record {
      count = omega (arith, length-append all (x ∷ []), seen.count);
      places = λ i s at. elim (last_or_before all x i s at) [
        | inl before ↦ seen.places i s before
        | inr last ↦ (
            let itself : x.place ≡ s.place = ap (λ (y : StoredEntry S). y.place) last.1 in
            omega (arith, itself, last.0, seen.count, at_place))
      ];
    })
