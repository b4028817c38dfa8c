-- *trusted*: What a value change dump tells behind its declarations (IEEE 1364-2005, 18.2.1, 18.2.3).
use Rattle.std.specs.Prelude.{◌≡◌, ℕ, Bool, true, false, ◌==◌, ◌||◌, List, [], ◌∷◌, ◌++◌, codes, ◌⊎◌}
use Rattle.std.specs.List.{list_all}
use Rattle.vcd_read.specs.Words.{Text}
use Rattle.vcd_read.specs.Numbers.{IsDecimal}
use Rattle.vcd_read.specs.Declarations.{HaveNoEnd, end_word}

-- what a dump tells: a time, the value of a variable by its code and its digits, and where values are no longer known, and known again
pub data Item : Type 0 where
  at : (time : ℕ) → Item
  value : (code digits : Text) → Item
  off : Item
  on : Item

-- 0, 1, x and z, in either case
abbrev pub is_digit : ℕ → Bool
is_digit c = c == 48 || (c == 49 || (c == 120 || (c == 88 || (c == 122 || c == 90))))

-- b and r, in either case, stand before digits and before real numbers
abbrev pub IsVector : ℕ → Type 0
IsVector c = (c ≡ 98) ⊎ (c ≡ 66)

abbrev pub IsReal : ℕ → Type 0
IsReal c = (c ≡ 114) ⊎ (c ≡ 82)

-- The words tell these items. Inside of a block, which one of the four keywords opens ($dumpall 18.2.3.9, $dumpoff 18.2.3.10, $dumpon
-- 18.2.3.11, $dumpvars 18.2.3.12), stand values alone, up to its end. Real numbers and comments (18.2.3.1) tell nothing.
pub data Tells : Bool → List Text → List Item → Type 0 where
  done : Tells false [] []
  time : (digits : Text) (t : ℕ) (rest : List Text) (items : List Item) → IsDecimal digits t → Tells false rest items →
      Tells false ((35 ∷ digits) ∷ rest) (at t ∷ items)
  bit : (inside : Bool) (digit : ℕ) (code : Text) (rest : List Text) (items : List Item) → is_digit digit ≡ true → Tells inside rest items →
      Tells inside ((digit ∷ code) ∷ rest) (value code (digit ∷ []) ∷ items)
  vector : (inside : Bool) (letter : ℕ) (digits code : Text) (rest : List Text) (items : List Item) → IsVector letter → list_all is_digit digits ≡ true →
      Tells inside rest items → Tells inside ((letter ∷ digits) ∷ code ∷ rest) (value code digits ∷ items)
  real : (inside : Bool) (letter : ℕ) (number code : Text) (rest : List Text) (items : List Item) → IsReal letter → Tells inside rest items →
      Tells inside ((letter ∷ number) ∷ code ∷ rest) items
  comment : (words rest : List Text) (items : List Item) → HaveNoEnd words → Tells false rest items →
      Tells false (codes "$comment" ∷ (words ++ end_word ∷ rest)) items
  vars : (rest : List Text) (items : List Item) → Tells true rest items → Tells false (codes "$dumpvars" ∷ rest) items
  all : (rest : List Text) (items : List Item) → Tells true rest items → Tells false (codes "$dumpall" ∷ rest) items
  stops : (rest : List Text) (items : List Item) → Tells true rest items → Tells false (codes "$dumpoff" ∷ rest) (off ∷ items)
  goes_on : (rest : List Text) (items : List Item) → Tells true rest items → Tells false (codes "$dumpon" ∷ rest) (on ∷ items)
  ends : (rest : List Text) (items : List Item) → Tells false rest items → Tells true (end_word ∷ rest) items
