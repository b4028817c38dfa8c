-- Logs of which it is known whom they blame.
use Rattle.std.proofs.Common.{◌≡◌, ℕ, List, [], ◌∷◌, cond, Option, Some, None, IfSome, refl, sym, ◌∙◌, subst}
use Rattle.std.specs.BTreeMap.{BTreeMap, get}
use Rattle.std.specs.Cmp.Lexicographic.{slice_cmp}
use Rattle.std.specs.Global.{Vec}
use Rattle.std.specs.Ordering.{is_eq, nat_cmp, ordering_then}
use Rattle.std.specs.declared.cmp.Ordering.{Ordering}
use Rattle.std.specs.declared.cmp.Ordering.TheVariants.{Less, Equal, Greater}
use Rattle.std.proofs.lemmas.Map.Lookups.{exact_pairs, exact_unsigned}
use Rattle.std.proofs.lemmas.Option.{same_Some}
use Rattle.cause.specs.Causes.{IsTold}
use Rattle.cause.specs.declared.cause.Cause.{Cause}
use Rattle.race_groups.specs.declared.group.Group.{Group}
use Rattle.race_groups.specs.Blame.{AreSameTwo, blamed_by}
use Rattle.race_groups.specs.Inner.{HasPairAt, IsWith}
use Rattle.race_groups.specs.Tracing.{AreBlamed, IsBlamed, IsTraced, Tracing, log_cmp, member_cmp}

abbrev Pairs : Type 0
Pairs = BTreeMap (Vec (ℕ × ℕ)) (Option (ℕ × ℕ))

-- what each of two comparisons tells, where neither tells apart
both_tell : (one other : Ordering) (P Q : Type 0) → (one ≡ Equal → P) → (other ≡ Equal → Q) → ordering_then one other ≡ Equal → P × Q
both_tell Less other P Q first second e = absurd cc
both_tell Equal other P Q first second e = (first refl, second e)
both_tell Greater other P Q first second e = absurd cc

-- logs that compare equal are one
same_members : (one other : List (ℕ × ℕ)) → slice_cmp member_cmp one other ≡ Equal → one ≡ other
same_members [] [] e = refl
same_members [] (y ∷ ys) e = absurd cc
same_members (x ∷ xs) [] e = absurd cc
same_members (x ∷ xs) (y ∷ ys) e =
    let both = both_tell (member_cmp x y) (slice_cmp member_cmp xs ys) (x ≡ y) (xs ≡ ys)
    (exact_pairs nat_cmp nat_cmp exact_unsigned exact_unsigned x y) (same_members xs ys) e in
    λ i. both.0 i ∷ both.1 i

is_told : (tracing : Tracing) (log : List (ℕ × ℕ)) (cause : Option Cause) → IsTraced tracing log cause →
    IsTold tracing.setting log tracing.steps cause
is_told tracing log None traced = traced.1
is_told tracing log (Some cause) traced = traced.0

-- a log that was traced is known
pub traced_blamed : (tracing : Tracing) (log : List (ℕ × ℕ)) (cause : Option Cause) (pair : Option (ℕ × ℕ)) → IsTraced tracing log cause →
    pair ≡ blamed_by cause → IsBlamed tracing log pair
traced_blamed tracing log cause pair traced is = record { told = cause; is = is_told tracing log cause traced; blamed = sym is }

by_order : (tracing : Tracing) (pairs : Pairs) (key other : Vec (ℕ × ℕ)) (log : List (ℕ × ℕ)) (pair there : Option (ℕ × ℕ)) →
    AreBlamed tracing pairs → IsBlamed tracing log pair → key.items ≡ log → (o : Ordering) → log_cmp key other ≡ o →
    cond (is_eq o) (Some pair) (get log_cmp pairs other) ≡ Some there → IsBlamed tracing other.items there
by_order tracing pairs key other log pair there are blamed is Less e at = are other there at
by_order tracing pairs key other log pair there are blamed is Equal e at =
    subst (λ (l : List (ℕ × ℕ)). IsBlamed tracing l there) (sym is ∙ same_members key.items other.items e)
    (subst (IsBlamed tracing log) (same_Some pair there at) blamed)
by_order tracing pairs key other log pair there are blamed is Greater e at = are other there at

-- one more is put into the table
pub blamed_more : (tracing : Tracing) (pairs new : Pairs) (key : Vec (ℕ × ℕ)) (log : List (ℕ × ℕ)) (pair : Option (ℕ × ℕ)) →
    AreBlamed tracing pairs → IsBlamed tracing log pair → key.items ≡ log →
    ((other : Vec (ℕ × ℕ)) → get log_cmp new other ≡ cond (is_eq (log_cmp key other)) (Some pair) (get log_cmp pairs other)) →
    AreBlamed tracing new
blamed_more tracing pairs new key log pair are blamed is updates other there at =
    by_order tracing pairs key other log pair there are blamed is (log_cmp key other) refl (sym (updates other) ∙ at)

-- what stands there of a log
pub blamed_there : (tracing : Tracing) (pairs : Pairs) (key : Vec (ℕ × ℕ)) (log : List (ℕ × ℕ)) (found : Option (Option (ℕ × ℕ))) →
    AreBlamed tracing pairs → key.items ≡ log → get log_cmp pairs key ≡ found → IfSome found (IsBlamed tracing log)
blamed_there tracing pairs key log None are is at = tt
blamed_there tracing pairs key log (Some pair) are is at = subst (λ (l : List (ℕ × ℕ)). IsBlamed tracing l pair) is (are key pair at)

-- the group at the place blames whom the log does
pub placed_with : (tracing : Tracing) (groups : List Group) (log : List (ℕ × ℕ)) (pair : Option (ℕ × ℕ)) (place : ℕ) →
    IsBlamed tracing log pair → HasPairAt groups pair place → IsWith tracing groups log place
placed_with tracing groups log pair place blamed has = record {
  group = has.group;
  at = has.at;
  same = record {
    told = blamed.told;
    is = blamed.is;
    same = subst (AreSameTwo (blamed_by has.group.cause)) (sym blamed.blamed) has.same;
  };
}

-- where there is one
pub found_with : (tracing : Tracing) (groups : List Group) (log : List (ℕ × ℕ)) (pair : Option (ℕ × ℕ)) (found : Option ℕ) →
    IsBlamed tracing log pair → IfSome found (HasPairAt groups pair) → IfSome found (IsWith tracing groups log)
found_with tracing groups log pair None blamed has = tt
found_with tracing groups log pair (Some place) blamed has = placed_with tracing groups log pair place blamed has
