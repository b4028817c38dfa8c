-- *trusted*: What a value change dump shows from time to time (IEEE 1364-2005, 18.1.3, 18.2.1, 18.2.2).
use Rattle.std.specs.Prelude.{◌≡◌, ℕ, ◌-◌, ◌≤◌, ◌==◌, ◌&&◌, ◌||◌, nat_eq, nat_le, nat_lt, length, replicate, take, drop, Bool, true, false, if◌then◌else◌, List, [], ◌∷◌, Option, Some, None, option_and_then, ⊤}
use Rattle.std.specs.List.{list_all}
use Rattle.std.specs.Cmp.Lexicographic.{pointwise}
use Rattle.vbits.specs.declared.bit4.Bit4.{Bit4}
use Rattle.vbits.specs.declared.bit4.Bit4.TheVariants.{Zero, One, X, Z}
use Rattle.vbits.specs.Vectors.{Vector}
use Rattle.vcd_read.specs.Words.{Text}
use Rattle.vcd_read.specs.Commands.{Item, at, value, off, on}

-- ---- the digits of a code

-- a dump is on before its first item; $dumpoff turns it off, $dumpon on (18.1.3)
abbrev pub on_by : Bool → Item → Bool
on_by is_on (at time) = is_on
on_by is_on (value code digits) = is_on
on_by is_on off = false
on_by is_on on = true

abbrev pub on_behind : Bool → List Item → Bool
on_behind is_on [] = is_on
on_behind is_on (item ∷ items) = on_behind (on_by is_on item) items

-- the digits of a code behind an item, of a dump that is on or off before it: from $dumpoff on they aren't known, until they are told
-- anew behind $dumpon
abbrev pub digits_by : Text → Bool → Option Text → Item → Option Text
digits_by code is_on told (at time) = told
digits_by code is_on told (value other digits) = if is_on && pointwise nat_eq other code then Some digits else told
digits_by code is_on told off = None
digits_by code is_on told on = told

abbrev pub digits_behind : Text → Bool → Option Text → List Item → Option Text
digits_behind code is_on told [] = told
digits_behind code is_on told (item ∷ items) = digits_behind code (on_by is_on item) (digits_by code is_on told item) items

-- those that were told last, if they are known
abbrev pub value_after : List Item → Text → Option Text
value_after items code = digits_behind code true None items

-- ---- the letters of digits (18.2.2), lowest first; digits stand leftmost first

abbrev pub letter_of : ℕ → Bit4
letter_of c = if c == 48 then Zero else if c == 49 then One else if c == 120 || c == 88 then X else Z

-- to the left of a leftmost digit 0 or 1 stands 0, of x or z the same (Table 18-1)
abbrev pub extension : Bit4 → Bit4
extension Zero = Zero
extension One = Zero
extension X = X
extension Z = Z

-- digits come in on the right
abbrev pub put_digits : List Bit4 → Text → List Bit4
put_digits letters [] = letters
put_digits letters (c ∷ cs) = put_digits (letter_of c ∷ letters) cs

abbrev pub vector_by : ℕ → ℕ → Text → Vector
vector_by more c cs = record { letters = put_digits (letter_of c ∷ replicate more (extension (letter_of c))) cs; signed = false }

-- the value of a variable of so many bits, if the digits are some and no more
abbrev pub whole_vector : ℕ → Text → Option Vector
whole_vector width [] = None
whole_vector width (c ∷ cs) = if nat_le (length (c ∷ cs)) width then Some (vector_by (width - length (c ∷ cs)) c cs) else None

-- where there are more digits, those in front may be 0, and don't count (own)
abbrev pub is_zero : ℕ → Bool
is_zero c = c == 48

abbrev pub without_extra_zeros : ℕ → Text → Text
without_extra_zeros more digits = if list_all is_zero (take more digits) then drop more digits else digits

abbrev pub vector_of : ℕ → Text → Option Vector
vector_of width digits = whole_vector width (without_extra_zeros (length digits - width) digits)

-- what a variable of this code and of so many bits is worth behind items, if that is known
abbrev pub value_shown : List Item → Text → ℕ → Option Vector
value_shown items code width = option_and_then (vector_of width) (value_after items code)

-- each value of the code has digits of a variable of so many bits
abbrev pub Fit : Text → ℕ → List Item → Type 0
Fit code width [] = ⊤
Fit code width (at time ∷ items) = Fit code width items
Fit code width (value other digits ∷ items) =
    (pointwise nat_eq other code ≡ true → (v : Vector) × (vector_of width digits ≡ Some v)) × Fit code width items
Fit code width (off ∷ items) = Fit code width items
Fit code width (on ∷ items) = Fit code width items

-- ---- times

-- no time is lower than the one before it (18.2.1)
abbrev pub IsNotBefore : Option ℕ → ℕ → Type 0
IsNotBefore None time = ⊤
IsNotBefore (Some before) time = before ≤ time

abbrev pub DoNotFall : Option ℕ → List Item → Type 0
DoNotFall before [] = ⊤
DoNotFall before (at time ∷ items) = IsNotBefore before time × DoNotFall (Some time) items
DoNotFall before (value code digits ∷ items) = DoNotFall before items
DoNotFall before (off ∷ items) = DoNotFall before items
DoNotFall before (on ∷ items) = DoNotFall before items

-- the last time, or the one before
abbrev pub last_time : Option ℕ → List Item → Option ℕ
last_time before [] = before
last_time before (at time ∷ items) = last_time (Some time) items
last_time before (value code digits ∷ items) = last_time before items
last_time before (off ∷ items) = last_time before items
last_time before (on ∷ items) = last_time before items

-- whether the first time has come at this one
abbrev pub is_begun : ℕ → List Item → Bool
is_begun now [] = false
is_begun now (at time ∷ items) = nat_le time now
is_begun now (value code digits ∷ items) = is_begun now items
is_begun now (off ∷ items) = is_begun now items
is_begun now (on ∷ items) = is_begun now items

-- the items before the first later time
abbrev pub before_later : ℕ → List Item → List Item
before_later now [] = []
before_later now (at time ∷ items) = if nat_lt now time then [] else at time ∷ before_later now items
before_later now (value code digits ∷ items) = value code digits ∷ before_later now items
before_later now (off ∷ items) = off ∷ before_later now items
before_later now (on ∷ items) = on ∷ before_later now items

-- the items up to the end of a time: what stands before the first time is of that time
abbrev pub items_until : ℕ → List Item → List Item
items_until now items = if is_begun now items then before_later now items else []

-- what is shown at a time
abbrev pub shown_at : ℕ → List Item → Text → ℕ → Option Vector
shown_at now items = value_shown (items_until now items)
