-- How many letters a value has that was extended.
use Rattle.std.proofs.Common.{◌≡◌, ℕ, ◌≤◌, zero, suc, Bool, List, [], ◌∷◌, ◌++◌, length, max, take, replicate, refl, ap, arith}
use Rattle.vbits.specs.declared.bit4.Bit4.{Bit4}
use Rattle.vbits.specs.Vectors.{Vector, resize, with_sign, sign_letter}
use Rattle.vdesign.specs.Expressions.{ExpressionTree}
use Rattle.vvalue.specs.declared.size_and_sign.SizeAndSign.{SizeAndSign}
use Rattle.vvalue.specs.Value.{Environment, size_of, is_signed, size_and_sign, extended_value, value_of, right_side}

-- so many of a list and as many copies behind it
taken : (n m : ℕ) (xs : List Bit4) (b : Bit4) → n ≤ m → length (take n (xs ++ replicate m b)) ≡ n
taken zero m xs b le = refl
taken (suc n) zero [] b le = absurd (omega (arith, le))
taken (suc n) (suc m) [] b le = ap suc (taken n m [] b (omega (arith, le)))
taken (suc n) m (x ∷ xs) b le = ap suc (taken n m xs b (omega (arith, le)))

pub resized_length : (v : Vector) (n : ℕ) → length (resize v n).letters ≡ n
unfolding resize
resized_length v n = taken n n v.letters (sign_letter v) (omega (arith))

pub extended_length : (v : Vector) (extension : Bool) (here : SizeAndSign) → length (extended_value v extension here).letters ≡ here.size
unfolding with_sign
extended_length v extension here = resized_length (with_sign v extension) here.size

pub extended_mark : (v : Vector) (extension : Bool) (here : SizeAndSign) → (extended_value v extension here).signed ≡ here.signed
unfolding with_sign
extended_mark v extension here = refl

-- a right side has as many bits as it is asked for
pub right_side_length : (now : Environment) (count : ℕ) (e : ExpressionTree) → length (right_side now count e).letters ≡ count
unfolding right_side
right_side_length now count e = resized_length (value_of now e (size_and_sign (max count (size_of now e)) (is_signed now e))) count
