-- What an answer says of the steps that it is made of; and elements of lists.
use Rattle.std.proofs.Common.{◌≡◌, zero, suc, nat_le, Bool, true, false, List, [], ◌∷◌, map, length, Option, Some, None, Result, Ok, Err, refl, sym, ap, ◌⊎◌, inl, inr, arith}
use Rattle.std.specs.List.{Contains}
use Rattle.vast.specs.NumberedWords.{Word}
use Rattle.velab_expr.specs.declared.fault.Rule.{Rule}
use Rattle.velab_expr.specs.declared.fault.Rule.TheVariants.{TooMany}
use Rattle.velab_expr.specs.declared.fault.ElabFault.{ElabFault}
use Rattle.velab_expr.specs.Rules.{fault_at}
use Rattle.velab_expr.specs.Answers.{◌>>=◌, answer_if, require, value_or_fault}
use Rattle.vhierarchy.specs.Instances.{unless_word, PartialDesign, few_enough}

module _ {A : Type 0} where
  pub same_value : (x y : A) → (let one : Result A ElabFault = Ok x in one ≡ Ok y) → x ≡ y
  same_value x y is = cc

  pub then_ok : {B : Type 0} (a : Result A ElabFault) (next : A → Result B ElabFault) (y : B) → (a >>= next) ≡ Ok y → (x : A) × (a ≡ Ok x) × (next x ≡ Ok y)
  then_ok (Ok x) next y is = (x, refl, is)
  then_ok (Err f) next y is = absurd cc

  pub then_err : {B : Type 0} (a : Result A ElabFault) (next : A → Result B ElabFault) (fault : ElabFault) → (a >>= next) ≡ Err fault →
      (a ≡ Err fault) ⊎ ((x : A) × (a ≡ Ok x) × (next x ≡ Err fault))
  then_err (Ok x) next fault is = inr (x, refl, is)
  then_err (Err f) next fault is = let same : f ≡ fault = cc in inl (ap Err same)

  pub provided_ok : (holds : Bool) (rule : Rule) (word : Option Word) (a : Result A ElabFault) (x : A) → answer_if holds rule word a ≡ Ok x → (holds ≡ true) × (a ≡ Ok x)
  provided_ok true rule word a x is = (refl, is)
  provided_ok false rule word a x is = absurd cc

  pub provided_err : (holds : Bool) (rule : Rule) (word : Option Word) (a : Result A ElabFault) (fault : ElabFault) → answer_if holds rule word a ≡ Err fault →
      ((holds ≡ false) × (fault.rule ≡ rule)) ⊎ ((holds ≡ true) × (a ≡ Err fault))
  provided_err true rule word a fault is = inr (refl, is)
  provided_err false rule word a fault is = let same : fault_at rule word ≡ fault = cc in inl (refl, ap (λ (f : ElabFault). f.rule) (sym same))

  pub required_ok : (holds : Bool) (rule : Rule) (word : Option Word) (x y : A) → require holds rule word x ≡ Ok y → (holds ≡ true) × (x ≡ y)
  required_ok true rule word x y is = (refl, same_value x y is)
  required_ok false rule word x y is = absurd cc

  pub required_err : (holds : Bool) (rule : Rule) (word : Option Word) (x : A) (fault : ElabFault) → require holds rule word x ≡ Err fault → (holds ≡ false) × (fault.rule ≡ rule)
  required_err true rule word x fault is = absurd cc
  required_err false rule word x fault is = let same : fault_at rule word ≡ fault = cc in (refl, ap (λ (f : ElabFault). f.rule) (sym same))

  pub barring_ok : (word : Option Word) (rule : Rule) (a : Result A ElabFault) (x : A) → unless_word word rule a ≡ Ok x → (word ≡ None) × (a ≡ Ok x)
  barring_ok None rule a x is = (refl, is)
  barring_ok (Some w) rule a x is = absurd cc

  pub barring_err : (word : Option Word) (rule : Rule) (a : Result A ElabFault) (fault : ElabFault) → unless_word word rule a ≡ Err fault →
      ((w : Word) × (word ≡ Some w) × (fault.rule ≡ rule)) ⊎ ((word ≡ None) × (a ≡ Err fault))
  barring_err None rule a fault is = inr (refl, is)
  barring_err (Some w) rule a fault is = let same : fault_at rule (Some w) ≡ fault = cc in inl (w, refl, ap (λ (f : ElabFault). f.rule) (sym same))

  pub found_ok : (x : Option A) (rule : Rule) (word : Option Word) (y : A) → value_or_fault x rule word ≡ Ok y → x ≡ Some y
  found_ok None rule word y is = absurd cc
  found_ok (Some x) rule word y is = ap Some (same_value x y is)

  pub found_err : (x : Option A) (rule : Rule) (word : Option Word) (fault : ElabFault) → value_or_fault x rule word ≡ Err fault → (x ≡ None) × (fault.rule ≡ rule)
  found_err None rule word fault is = let same : fault_at rule word ≡ fault = cc in (refl, ap (λ (f : ElabFault). f.rule) (sym same))
  found_err (Some x) rule word fault is = absurd cc

  -- ---- elements

  pub contains_first : (x : A) (xs : List A) → Contains (x ∷ xs) x
  contains_first x xs = (0, omega arith, refl)

  pub contains_more : (x y : A) (xs : List A) → Contains xs y → Contains (x ∷ xs) y
  contains_more x y xs (k, lt, is) = (suc k, omega (arith, lt), is)

  pub contains_cases : (x y : A) (xs : List A) → Contains (x ∷ xs) y → (x ≡ y) ⊎ Contains xs y
  contains_cases x y xs (zero, lt, is) = inl is
  contains_cases x y xs (suc k, lt, is) = inr (k, omega (arith, lt), is)

  pub contains_none : (y : A) → Contains {X = A} [] y → ⊥
  contains_none y (k, lt, is) = omega (arith, lt)

  module _ {B : Type 0} (f : A → B) where
    pub contains_mapped : (x : A) (xs : List A) → Contains xs x → Contains (map f xs) (f x)
    contains_mapped x [] h = absurd (contains_none x h)
    contains_mapped x (y ∷ xs) (zero, lt, is) = (0, omega arith, ap f is)
    contains_mapped x (y ∷ xs) (suc k, lt, is) =
        let rest = contains_mapped x xs (k, omega (arith, lt), is) in
        (suc rest.0, omega (arith, rest.1), rest.2)

    pub mapped_contains : (y : B) (xs : List A) → Contains (map f xs) y → (x : A) × Contains xs x × (f x ≡ y)
    mapped_contains y [] h = absurd (by h)
      where
        by : Contains {X = B} [] y → ⊥
        by (k, lt, is) = omega (arith, lt)
    mapped_contains y (x ∷ xs) (zero, lt, is) = (x, contains_first x xs, is)
    mapped_contains y (x ∷ xs) (suc k, lt, is) =
        let rest = mapped_contains y xs (k, omega (arith, lt), is) in
        (rest.0, contains_more x rest.0 xs rest.1, rest.2)

-- ---- counts

-- too many processes, or too many instances
pub few_err : (name : Word) (part : PartialDesign) (fault : ElabFault) → few_enough name part ≡ Err fault → ((nat_le (length part.begins) 256 ≡ false) ⊎ (nat_le (length part.scopes) 1025 ≡ false)) × (fault.rule ≡ TooMany)
few_err name part fault is = by (provided_err (nat_le (length part.begins) 256) TooMany (Some name) (require (nat_le (length part.scopes) 1025) TooMany (Some name) part) fault is)
  where
    by : ((nat_le (length part.begins) 256 ≡ false) × (fault.rule ≡ TooMany)) ⊎ ((nat_le (length part.begins) 256 ≡ true) × (require (nat_le (length part.scopes) 1025) TooMany (Some name) part ≡ Err fault)) →
        ((nat_le (length part.begins) 256 ≡ false) ⊎ (nat_le (length part.scopes) 1025 ≡ false)) × (fault.rule ≡ TooMany)
    by (inl (many, rule)) = (inl many, rule)
    by (inr (few, err)) = let h = required_err (nat_le (length part.scopes) 1025) TooMany (Some name) part fault err in (inr h.0, h.1)
