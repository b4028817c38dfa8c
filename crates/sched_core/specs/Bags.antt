-- *product rule*: Bags of lines: the lines of a time slot (IEEE 1364-2005, 17.1.1, 17.1.2), in the order of their bytes, so that in which
-- order processes print whole lines doesn't count.
use Rattle.std.specs.Prelude.{◌≡◌, ◌≢◌, ℕ, ◌<◌, Bool, true, false, not, List, [], ◌∷◌, ◌++◌, slice_get, Option, Some, None, nat_eq}
use Rattle.std.specs.List.{filter, concat}
use Rattle.std.specs.Ordering.{nat_cmp}
use Rattle.std.specs.Cmp.Lexicographic.{slice_cmp, pointwise}
use Rattle.std.specs.declared.cmp.Ordering.{Ordering}
use Rattle.std.specs.declared.cmp.Ordering.TheVariants.{Less, Equal, Greater}
use Rattle.sched_core.specs.declared.setting.Looked.{Looked}
use Rattle.sched_core.specs.declared.setting.Looked.TheVariants.{Values, Lines}

-- a line before the first of a bag, or after it, as it compares with that one
abbrev pub insert_by : Ordering → List ℕ → List ℕ → List (List ℕ) → List (List ℕ) → List (List ℕ)
insert_by Greater line first later rest = first ∷ later
insert_by Equal line first later rest = line ∷ first ∷ rest
insert_by Less line first later rest = line ∷ first ∷ rest

-- a bag with one line more; the lines stand in the order of their bytes, each as often as it was printed
abbrev pub with_line : List ℕ → List (List ℕ) → List (List ℕ)
with_line line [] = line ∷ []
with_line line (first ∷ rest) = insert_by (slice_cmp nat_cmp line first) line first (with_line line rest) rest

-- ---- texts that build lines (17.1.1)

-- a line that its line feed ends
abbrev pub is_whole : List ℕ → Bool
is_whole [] = false
is_whole (byte ∷ []) = nat_eq byte 10
is_whole (byte ∷ next ∷ more) = is_whole (next ∷ more)

-- a byte before these lines: a line of its own where it is a line feed, and otherwise the first byte of the first line
abbrev pub with_byte : Bool → ℕ → List (List ℕ) → List (List ℕ)
with_byte true feed lines = (feed ∷ []) ∷ lines
with_byte false byte [] = (byte ∷ []) ∷ []
with_byte false byte (line ∷ lines) = (byte ∷ line) ∷ lines

-- a text, cut at its line feeds: each line with its own, and last what no line feed ends, where there is such
abbrev pub lines_of : List ℕ → List (List ℕ)
lines_of [] = []
lines_of (byte ∷ rest) = with_byte (nat_eq byte 10) byte (lines_of rest)

abbrev pub whole_lines : List (List ℕ) → List (List ℕ)
whole_lines bag = filter is_whole bag

-- what no line feed has ended yet; a slot has one at most
abbrev pub pieces_of : List (List ℕ) → List (List ℕ)
pieces_of bag = filter (λ line. not (is_whole line)) bag

abbrev pub piece_of : List (List ℕ) → List ℕ
piece_of bag = concat (pieces_of bag)

-- a bag with all these lines more
abbrev pub with_each : List (List ℕ) → List (List ℕ) → List (List ℕ)
with_each [] bag = bag
with_each (line ∷ lines) bag = with_each lines (with_line line bag)

-- a bag whose slot has printed one text more: the text goes on where the last one ended
abbrev pub with_text : List ℕ → List (List ℕ) → List (List ℕ)
with_text text bag = with_each (lines_of (piece_of bag ++ text)) (whole_lines bag)

-- ---- bags compared

-- two bags are equal where they have the same lines, each as often
abbrev pub lines_same : List (List ℕ) → List (List ℕ) → Bool
lines_same = pointwise (pointwise nat_eq)

-- which of two bags stands first: the one whose line is less where they first differ, or which is a front of the other
abbrev pub bag_cmp : List (List ℕ) → List (List ℕ) → Ordering
bag_cmp = slice_cmp (slice_cmp nat_cmp)

abbrev pub IsBagLess : List (List ℕ) → List (List ℕ) → Type 0
IsBagLess a b = bag_cmp a b ≡ Less

-- no line is less than one before it
abbrev pub AreLinesInOrder : List (List ℕ) → Type 0
AreLinesInOrder lines = (i j : ℕ) (a b : List ℕ) →
    i < j → slice_get lines i ≡ Some a → slice_get lines j ≡ Some b → slice_cmp nat_cmp b a ≢ Less

-- lines are there where they are looked at, and only then; and they stand in order
abbrev pub HasLines : Looked → Option (List (List ℕ)) → Type 0
HasLines Values None = Unit {0}
HasLines Values (Some bag) = ⊥
HasLines Lines None = ⊥
HasLines Lines (Some bag) = AreLinesInOrder bag
