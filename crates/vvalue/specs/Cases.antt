-- *trusted*: What `case` and `repeat` ask of expressions (IEEE 1364-2005, 9.5, 9.6).
use Rattle.std.specs.Prelude.{ℕ, Bool, true, false, ◌&&◌, ◌||◌, if◌then◌else◌, List, [], ◌∷◌, unwrap_or}
use Rattle.vwords.specs.declared.cases.CaseKind.{CaseKind}
use Rattle.vwords.specs.declared.cases.CaseKind.TheVariants as kinds
use Rattle.vbits.specs.declared.bit4.Bit4.{Bit4}
use Rattle.vbits.specs.Letters.{is_unknown, is_one, is_same, is_z}
use Rattle.vbits.specs.Numbers.{number}
use Rattle.vbits.specs.Vectors.{Vector, sign_letter}
use Rattle.vdesign.specs.Expressions.{ExpressionTree}
use Rattle.vdesign.specs.declared.action.Branch.{Branch}
use Rattle.vvalue.specs.declared.size_and_sign.SizeAndSign.{SizeAndSign}
use Rattle.vvalue.specs.Value.{Environment, self_determined, common, value_of, self_determined_value}

-- ---- 9.5: `case`

-- 9.5.1: the letters that count as any letter: none, z, or x and z
abbrev pub is_any : CaseKind → Bit4 → Bool
is_any kinds.Exact letter = false
is_any kinds.Z letter = is_z letter
is_any kinds.X letter = is_unknown letter

-- two letters at one place: a place is passed over where either counts as any letter
abbrev pub passes : CaseKind → Bit4 → Bit4 → Bool
passes kind a b = (is_any kind a || is_any kind b) || is_same a b

abbrev pub all_pass : CaseKind → List Bit4 → List Bit4 → Bool
all_pass kind [] ys = true
all_pass kind (x ∷ xs) [] = true
all_pass kind (x ∷ xs) (y ∷ ys) = passes kind x y && all_pass kind xs ys

-- whether the value of a `case` and that of an item match, letter by letter; both have as many letters
unfoldable pub matches : CaseKind → Vector → Vector → Bool
matches kind value item = all_pass kind value.letters item.letters

-- 9.5: all expressions of a `case` stand at the longest of their sizes, signed where all are
abbrev pub widest : Environment → SizeAndSign → List Branch → SizeAndSign
widest now here [] = here
widest now here (branch ∷ more) = widest now (common here (self_determined now branch.item)) more

abbrev pub case_size_and_sign : Environment → ExpressionTree → List Branch → SizeAndSign
case_size_and_sign now value branches = widest now (self_determined now value) branches

-- what comes next is the body of the first branch whose item matches, or else what stands under `default`
abbrev pub places_at : Environment → CaseKind → SizeAndSign → Vector → List Branch → List ℕ → List ℕ
places_at now kind here value [] otherwise = otherwise
places_at now kind here value (branch ∷ more) otherwise =
    if matches kind value (value_of now branch.item here) then branch.body
    else places_at now kind here value more otherwise

unfoldable pub places_of_case : Environment → CaseKind → ExpressionTree → List Branch → List ℕ → List ℕ
places_of_case now kind value branches otherwise =
    let here = case_size_and_sign now value branches in
    places_at now kind here (value_of now value here) branches otherwise

-- ---- 9.6: `repeat`

-- a count is read by its own sign; one that is unknown is 0 (9.6), and so is one below 0 (own)
abbrev pub turns_in : Vector → ℕ
turns_in count = if is_one (sign_letter count) then 0 else unwrap_or (number count.letters) 0

unfoldable pub turns_of : Environment → ExpressionTree → ℕ
turns_of now count = turns_in (self_determined_value now count)
