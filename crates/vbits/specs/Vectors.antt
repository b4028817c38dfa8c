-- *trusted*: Four-state vectors and their operators (IEEE 1364-2005, clauses 4 and 5). Letters stand lowest first.
use Rattle.std.specs.Prelude.{Bool, true, false, if◌then◌else◌, ◌&&◌, ◌||◌, ℕ, zero, ◌+◌, ◌-◌, ℤ, pos, ◌+ℤ◌, ◌-ℤ◌, ◌*ℤ◌, neg_ℤ, int_div, int_rem, int_lt, int_le, List, [], ◌∷◌, ◌++◌, map, fold, zip, length, take, drop, replicate, get_or, Option, Some, None, option_map}
use Rattle.std.specs.Bool.{beq}
use Rattle.std.specs.List.{list_any, list_all}
use Rattle.vbits.specs.declared.bit4.Bit4.{Bit4}
use Rattle.vbits.specs.declared.bit4.Bit4.TheVariants.{Zero, One, X}
use Rattle.vbits.specs.declared.reduction.Reduction.{Reduction}
use Rattle.vbits.specs.declared.reduction.Reduction.TheVariants.{And, Nand, Or, Nor, Xor, Xnor}
use Rattle.vbits.specs.Letters.{is_unknown, is_one, is_same, differ, not_letter, and_letter, or_letter, xor_letter, xnor_letter, join_letter}
use Rattle.vbits.specs.Numbers.{number, digits, integer, wrap}

-- 1 to 64 letters with a sign mark
pub record Vector : Type 0 where
  pub letters : List Bit4
  pub signed : Bool

-- ---- vectors made and read

unfoldable pub filled : ℕ → Bit4 → Vector
filled count letter = record { letters = replicate count letter; signed = false }

-- one unsigned letter: what comparisons, reductions and truth give (5.1.7, 5.1.8, 5.1.9, 5.1.11)
unfoldable pub single : Bit4 → Vector
single letter = record { letters = letter ∷ []; signed = false }

unfoldable pub of_number : ℕ → ℕ → Vector
of_number count n = record { letters = digits count n; signed = false }

unfoldable pub with_sign : Vector → Bool → Vector
with_sign v mark = record { letters = v.letters; signed = mark }

-- the leftmost letter of a signed vector, 0 of an unsigned one
unfoldable pub sign_letter : Vector → Bit4
sign_letter v = if v.signed then get_or v.letters (length v.letters - 1) Zero else Zero

-- extended by its own sign (5.5.2, 5.5.4), or cut on the left
unfoldable pub resize : Vector → ℕ → Vector
resize v count = record {
  letters = take count (v.letters ++ replicate count (sign_letter v));
  signed = v.signed;
}

-- ---- selects and concatenation (5.2.1, 5.1.14): unsigned

unfoldable pub select : Vector → ℕ → ℕ → Vector
select v high low = record { letters = take (high + 1 - low) (drop low v.letters); signed = false }

-- the letters from low to high are those of the part
unfoldable pub put : Vector → ℕ → ℕ → Vector → Vector
put v high low part = record {
  letters = take low v.letters ++ part.letters ++ drop (high + 1) v.letters;
  signed = v.signed;
}

-- `{left, right}`
unfoldable pub concat : Vector → Vector → Vector
concat left right = record { letters = right.letters ++ left.letters; signed = false }

-- ---- bitwise operators (5.1.10), and the join of `?:` (5.1.13)

-- a result is signed where both operands are (5.5.1); letter by letter, as the tables of 5.1.10 have it, also where a signed operand has x or z
-- (5.5.4 can be read otherwise)
unfoldable pub bitwise : (Bit4 → Bit4 → Bit4) → Vector → Vector → Vector
bitwise table v w = record {
  letters = map (λ pair. table pair.0 pair.1) (zip v.letters w.letters);
  signed = v.signed && w.signed;
}

abbrev pub and : Vector → Vector → Vector
and = bitwise and_letter

abbrev pub or : Vector → Vector → Vector
or = bitwise or_letter

abbrev pub xor : Vector → Vector → Vector
xor = bitwise xor_letter

abbrev pub xnor : Vector → Vector → Vector
xnor = bitwise xnor_letter

abbrev pub join : Vector → Vector → Vector
join = bitwise join_letter

unfoldable pub complement : Vector → Vector
complement v = record { letters = map not_letter v.letters; signed = v.signed }

-- ---- equality (5.1.8)

-- 0 if two known letters differ, else x if a letter is unknown, else 1
unfoldable pub eq_letter : List Bit4 → List Bit4 → Bit4
eq_letter xs ys =
    if list_any (λ pair. differ pair.0 pair.1) (zip xs ys) then Zero
    else if list_any is_unknown xs || list_any is_unknown ys then X
    else One

unfoldable pub eq : Vector → Vector → Vector
eq v w = single (eq_letter v.letters w.letters)

unfoldable pub ne : Vector → Vector → Vector
ne v w = single (not_letter (eq_letter v.letters w.letters))

-- every letter is the same, x and z too
unfoldable pub same_letters : List Bit4 → List Bit4 → Bool
same_letters xs ys = list_all (λ pair. is_same pair.0 pair.1) (zip xs ys)

-- letter by letter, and as many
abbrev pub letters_alike : List Bit4 → List Bit4 → Bool
letters_alike [] [] = true
letters_alike (x ∷ xs) (y ∷ ys) = is_same x y && letters_alike xs ys
letters_alike _ _ = false

-- two vectors are the same: all letters, and the sign mark
abbrev pub vector_same : Vector → Vector → Bool
vector_same v w = letters_alike v.letters w.letters && beq v.signed w.signed

unfoldable pub case_eq : Vector → Vector → Vector
case_eq v w = single (if same_letters v.letters w.letters then One else Zero)

unfoldable pub case_ne : Vector → Vector → Vector
case_ne v w = single (if same_letters v.letters w.letters then Zero else One)

-- ---- truth and reductions (5.1.9, 5.1.11)

-- 1 if a letter is 1, be others unknown or not (own), else x if one is unknown, else 0
unfoldable pub truth : Vector → Bit4
truth v =
    if list_any is_one v.letters then One else if list_any is_unknown v.letters then X else Zero

unfoldable pub reduced : Reduction → List Bit4 → Bit4
reduced And letters = fold and_letter One letters
reduced Nand letters = not_letter (fold and_letter One letters)
reduced Or letters = fold or_letter Zero letters
reduced Nor letters = not_letter (fold or_letter Zero letters)
reduced Xor letters = fold xor_letter Zero letters
reduced Xnor letters = not_letter (fold xor_letter Zero letters)

unfoldable pub reduce : Vector → Reduction → Vector
reduce v operator = single (reduced operator v.letters)

-- ---- shifts (5.1.12): by an unsigned amount, all x where it is unknown

abbrev pub shifted_left : List Bit4 → Option ℕ → List Bit4
shifted_left letters None = replicate (length letters) X
shifted_left letters (Some amount) = take (length letters) (replicate amount Zero ++ letters)

-- copies of a letter come in from the left
abbrev pub shifted_right : Bit4 → List Bit4 → Option ℕ → List Bit4
shifted_right from_left letters None = replicate (length letters) X
shifted_right from_left letters (Some amount) =
    take (length letters) (drop amount letters ++ replicate (length letters) from_left)

unfoldable pub shl : Vector → Vector → Vector
shl v amount = record {
  letters = shifted_left v.letters (number amount.letters);
  signed = v.signed;
}

unfoldable pub shr : Vector → Vector → Vector
shr v amount = record {
  letters = shifted_right Zero v.letters (number amount.letters);
  signed = v.signed;
}

-- `>>>` fills with the leftmost letter where the vector is signed
unfoldable pub ashr : Vector → Vector → Vector
ashr v amount = record {
  letters = shifted_right (sign_letter v) v.letters (number amount.letters);
  signed = v.signed;
}

-- ---- arithmetic (5.1.5) and order (5.1.7): on integers, read as signed where both operands are

-- what an operation makes of two integers, or None where one is not known
abbrev pub combine_integers : (ℤ → ℤ → Option ℤ) → Option ℤ → Option ℤ → Option ℤ
combine_integers operation (Some x) (Some y) = operation x y
combine_integers operation _ _ = None

-- the letters of a result: wrapped, or all x where there is none
abbrev pub result_letters : ℕ → Option ℤ → List Bit4
result_letters count None = replicate count X
result_letters count (Some z) = wrap count z

unfoldable pub arithmetic : (ℤ → ℤ → Option ℤ) → Vector → Vector → Vector
arithmetic operation v w =
    let signed = v.signed && w.signed in
    record {
      letters = result_letters (length v.letters)
          (combine_integers operation (integer signed v.letters) (integer signed w.letters));
      signed = signed;
    }

abbrev pub sum_of : ℤ → ℤ → Option ℤ
sum_of x y = Some (x +ℤ y)

abbrev pub difference_of : ℤ → ℤ → Option ℤ
difference_of x y = Some (x -ℤ y)

abbrev pub product_of : ℤ → ℤ → Option ℤ
product_of x y = Some (x *ℤ y)

-- towards 0; none where the divisor is 0
abbrev pub quotient_of : ℤ → ℤ → Option ℤ
quotient_of x (pos zero) = None
quotient_of x y = Some (int_div x y)

-- with the sign of x; none where the divisor is 0
abbrev pub remainder_of : ℤ → ℤ → Option ℤ
remainder_of x (pos zero) = None
remainder_of x y = Some (int_rem x y)

abbrev pub add : Vector → Vector → Vector
add = arithmetic sum_of

abbrev pub sub : Vector → Vector → Vector
sub = arithmetic difference_of

abbrev pub mul : Vector → Vector → Vector
mul = arithmetic product_of

abbrev pub div : Vector → Vector → Vector
div = arithmetic quotient_of

abbrev pub rem : Vector → Vector → Vector
rem = arithmetic remainder_of

unfoldable pub neg : Vector → Vector
neg v = record {
  letters = result_letters (length v.letters) (option_map neg_ℤ (integer v.signed v.letters));
  signed = v.signed;
}

abbrev pub test_letter : (ℤ → ℤ → Bool) → Option ℤ → Option ℤ → Bit4
test_letter test (Some x) (Some y) = if test x y then One else Zero
test_letter test _ _ = X

unfoldable pub compared : (ℤ → ℤ → Bool) → Vector → Vector → Vector
compared test v w =
    let signed = v.signed && w.signed in
    single (test_letter test (integer signed v.letters) (integer signed w.letters))

abbrev pub lt : Vector → Vector → Vector
lt = compared int_lt

abbrev pub le : Vector → Vector → Vector
le = compared int_le

abbrev pub gt : Vector → Vector → Vector
gt v w = lt w v

abbrev pub ge : Vector → Vector → Vector
ge v w = le w v
