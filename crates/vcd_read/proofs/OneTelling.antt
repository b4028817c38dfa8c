-- What words tell, word by word: so they tell one list of items.
use Rattle.std.proofs.Common.{◌≡◌, ℕ, Bool, true, false, if◌then◌else◌, ◌==◌, ◌||◌, List, [], ◌∷◌, ◌++◌, refl, ap, sym, ◌∙◌, inl, inr}
use Rattle.std.specs.Prelude.{codes}
use Rattle.std.specs.Cmp.Lexicographic.{bytes_decides}
use Rattle.std.specs.Str.{bytes_eq}
use Rattle.std.specs.Str.Parse.{digits_value}
use Rattle.std.proofs.lemmas.Bool.{cases_Bool}
use Rattle.vcd_read.specs.Words.{Text}
use Rattle.vcd_read.specs.Declarations.{HaveNoEnd, IsNoEnd, end_word}
use Rattle.vcd_read.specs.Commands.{Item, at, value, off, on, Tells, done, time, bit, vector, real, comment, vars, all, stops, goes_on, ends, IsReal, IsVector, is_digit}

pub no_end : (word : Text) → IsNoEnd word → bytes_eq word end_word ≡ false
no_end word not_end = elim (cases_Bool (bytes_eq word end_word)) [
  | inl same ↦ absurd (not_end ((bytes_decides word end_word).0 same))
  | inr other ↦ other
]

-- what comes next: a command or a value, the code of digits, that of a real number, or words of a comment
data Mode : Type 0 where
  free : Mode
  coded : (digits : Text) → Mode
  passed : Mode
  noted : Mode

abbrev opened : Text → Mode
opened [] = free
opened (c ∷ cs) =
    if is_digit c then free
    else if c == 98 || c == 66 then coded cs
    else if c == 114 || c == 82 then passed
    else if bytes_eq (c ∷ cs) (codes "$comment") then noted
    else free

abbrev mode_after : Mode → Text → Mode
mode_after free word = opened word
mode_after (coded digits) word = free
mode_after passed word = free
mode_after noted word = if bytes_eq word end_word then free else noted

abbrev begun : Text → List Item
begun [] = []
begun (c ∷ cs) =
    if is_digit c then value cs (c ∷ []) ∷ []
    else if c == 35 then at (digits_value 10 cs) ∷ []
    else if bytes_eq (c ∷ cs) (codes "$dumpoff") then off ∷ []
    else if bytes_eq (c ∷ cs) (codes "$dumpon") then on ∷ []
    else []

abbrev told_by : Mode → Text → List Item
told_by free word = begun word
told_by (coded digits) word = value word digits ∷ []
told_by passed word = []
told_by noted word = []

abbrev told : Mode → List Text → List Item
told mode [] = []
told mode (word ∷ words) = told_by mode word ++ told (mode_after mode word) words

note_ends : (words rest : List Text) → HaveNoEnd words → told noted (words ++ end_word ∷ rest) ≡ told free rest
note_ends [] rest without = refl
note_ends (word ∷ words) rest without =
    ap (λ (b : Bool). told (if b then free else noted) (words ++ end_word ∷ rest)) (no_end word without.0) ∙ note_ends words rest without.1

bit_told : (digit : ℕ) (code : Text) (rest : List Text) → is_digit digit ≡ true → told free ((digit ∷ code) ∷ rest) ≡ value code (digit ∷ []) ∷ told free rest
bit_told digit code rest is = rw is

vector_told : (letter : ℕ) (digits code : Text) (rest : List Text) → IsVector letter →
    told free ((letter ∷ digits) ∷ code ∷ rest) ≡ value code digits ∷ told free rest
vector_told letter digits code rest (inl is) = rw is
vector_told letter digits code rest (inr is) = rw is

real_told : (letter : ℕ) (number code : Text) (rest : List Text) → IsReal letter → told free ((letter ∷ number) ∷ code ∷ rest) ≡ told free rest
real_told letter number code rest (inl is) = rw is
real_told letter number code rest (inr is) = rw is

told_is : (inside : Bool) (words : List Text) (items : List Item) → Tells inside words items → told free words ≡ items
told_is inside words items done = refl
told_is inside words items (time digits t rest more number d) =
    λ i. at (number.value i) ∷ told_is false rest more d i
told_is inside words items (bit _ digit code rest more is d) =
    bit_told digit code rest is ∙ ap (λ (list : List Item). value code (digit ∷ []) ∷ list) (told_is inside rest more d)
told_is inside words items (vector _ letter digits code rest more is are d) =
    vector_told letter digits code rest is ∙ ap (λ (list : List Item). value code digits ∷ list) (told_is inside rest more d)
told_is inside words items (real _ letter number code rest more is d) = real_told letter number code rest is ∙ told_is inside rest more d
told_is inside words items (comment notes rest more without d) = note_ends notes rest without ∙ told_is false rest more d
told_is inside words items (vars rest more d) = told_is true rest more d
told_is inside words items (all rest more d) = told_is true rest more d
told_is inside words items (stops rest more d) = ap (λ (list : List Item). off ∷ list) (told_is true rest more d)
told_is inside words items (goes_on rest more d) = ap (λ (list : List Item). on ∷ list) (told_is true rest more d)
told_is inside words items (ends rest more d) = told_is false rest more d

pub tell_one : (inside : Bool) (words : List Text) (a b : List Item) → Tells inside words a → Tells inside words b → a ≡ b
tell_one inside words a b x y = sym (told_is inside words a x) ∙ told_is inside words b y
