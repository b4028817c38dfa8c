-- *product rule*: The text that files make together, and the file, line and column of each place in it.
use Rattle.std.specs.Prelude.{ℕ, ◌+◌, ◌-◌, Bool, List, [], ◌∷◌, Vec, length, map, count_by, nat_lt, if◌then◌else◌, Option, None, Some}
use Rattle.std.specs.List.{join_by}
use Rattle.std.specs.List.{slice_index_or}
use Rattle.memchr.specs.Find.{is_byte, places}
use Rattle.vsrc.specs.declared.expanded.Place.{Place}
use Rattle.basis.specs.declared.timescale.Timescale.{Timescale}

-- the most bytes that a text may have, 2 ^ 25
abbrev pub text_limit : ℕ
text_limit = 33554432

-- ---- files in a row

-- the bytes of files that the program was given
abbrev pub file_bytes : {A : Type 0} → List (Vec ℕ A) → List (List ℕ)
file_bytes = map (λ file. file.items)

-- the files in order, with a line feed between each two; no file gives the empty text
abbrev pub join_files : List (List ℕ) → List ℕ
join_files files = join_by (λ file. file) (10 ∷ []) files

-- The first file with which they get too long, by its number: the next file has this number, and so many bytes stand
-- before it, the line feed included.
abbrev pub too_long_from : ℕ → ℕ → List (List ℕ) → Option ℕ
too_long_from number before [] = None
too_long_from number before (file ∷ files) =
    if nat_lt text_limit (before + length file) then Some number
    else too_long_from (number + 1) (before + length file + 1) files

abbrev pub too_long : List (List ℕ) → Option ℕ
too_long files = too_long_from 1 0 files

-- the places of the line feeds that were put between them, where the first file ends at `end`
abbrev pub borders_from : ℕ → List (List ℕ) → List ℕ
borders_from end [] = []
borders_from end (file ∷ files) = end ∷ borders_from (end + 1 + length file) files

abbrev pub borders_of : List (List ℕ) → List ℕ
borders_of [] = []
borders_of (file ∷ files) = borders_from (length file) files

-- the places of all line feeds of a text
abbrev pub feeds_of : List ℕ → List ℕ
feeds_of text = places (is_byte 10) text

-- ---- where a byte stands

-- how many of the places stand before `at`
abbrev pub count_below : List ℕ → ℕ → ℕ
count_below places at = count_by (λ place. nat_lt place at) places

-- where the file that `at` stands in begins: after the last border before it, and else at `start`; so does its line, by line feeds
abbrev pub file_start : ℕ → List ℕ → ℕ → ℕ
file_start start [] at = start
file_start start (border ∷ borders) at = if nat_lt border at then file_start (border + 1) borders at else start

-- The file is one more than the borders before the place, the line one more than the line feeds before it, those
-- before its file left out. The column is what stands before it in its line: a border is a line feed, too.
abbrev pub place_by : List ℕ → List ℕ → ℕ → Place
place_by borders feeds at = record {
  file = 1 + count_below borders at;
  line = 1 + (count_below feeds at - count_below feeds (file_start 0 borders at));
  column = at - file_start 0 feeds at;
}

-- the place of a byte of the joined files
abbrev pub place_in : List (List ℕ) → ℕ → Place
place_in files = place_by (borders_of files) (feeds_of (join_files files))

-- ---- what files are expanded to

-- A text, for each of its bytes a place in the files (its own, or that of the use that made it), that of its end, and the timescale.
pub record Source : Type 0 where
  pub text : List ℕ
  pub places : List Place
  pub end : Place
  pub timescale : Timescale
  -- whether a `timescale stands in the files; without one the timescale is the usual one
  pub timed : Bool

-- the place of the byte at `at`, and at the text's length that of its end
abbrev pub place_of : Source → ℕ → Place
place_of source at = slice_index_or source.places at source.end
