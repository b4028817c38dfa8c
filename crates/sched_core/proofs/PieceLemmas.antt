-- What no line feed has ended yet, in texts that are cut and in bags.
use Rattle.std.proofs.Common.{◌≡◌, ℕ, Bool, true, false, cond, List, [], ◌∷◌, ◌++◌, refl, sym, ap, ◌∙◌}
use Rattle.std.specs.Prelude.{nat_eq, not}
use Rattle.std.specs.List.{concat}
use Rattle.std.specs.Ordering.{nat_cmp}
use Rattle.std.specs.Cmp.Lexicographic.{slice_cmp}
use Rattle.std.proofs.lemmas.List.Elements.{filter-append}
use Rattle.std.specs.declared.cmp.Ordering.{Ordering}
use Rattle.std.specs.declared.cmp.Ordering.TheVariants.{Less, Equal, Greater}
use Rattle.sched_core.specs.Bags.{insert_by, with_line, is_whole, with_byte, lines_of, whole_lines, pieces_of, piece_of, with_each, with_text}
use Rattle.sched_core.proofs.BagLemmas.{whole-no_piece, pieces-with_line}

-- ---- a text is cut into whole lines, and last a piece

-- all but the last are whole
abbrev IsCut : List (List ℕ) → Type 0
IsCut [] = Unit {0}
IsCut (line ∷ []) = Unit {0}
IsCut (line ∷ next ∷ more) = (is_whole line ≡ true) × IsCut (next ∷ more)

whole-before : (byte : ℕ) (line : List ℕ) → nat_eq byte 10 ≡ false → is_whole (byte ∷ line) ≡ is_whole line
whole-before byte [] is = is
whole-before byte (next ∷ line) is = refl

cut-with_byte : (o : Bool) (byte : ℕ) (lines : List (List ℕ)) → nat_eq byte 10 ≡ o → IsCut lines → IsCut (with_byte o byte lines)
cut-with_byte true byte [] is cut = tt
cut-with_byte true byte (line ∷ lines) is cut = (is, cut)
cut-with_byte false byte [] is cut = tt
cut-with_byte false byte (line ∷ []) is cut = tt
cut-with_byte false byte (line ∷ next ∷ more) is cut = (whole-before byte line is ∙ cut.0, cut.1)

is_cut : (text : List ℕ) → IsCut (lines_of text)
is_cut [] = tt
is_cut (byte ∷ rest) = cut-with_byte (nat_eq byte 10) byte (lines_of rest) refl (is_cut rest)

-- ---- the cut of two texts, one behind the other

abbrev lines_with : Bool → List ℕ → List (List ℕ) → List ℕ → List (List ℕ)
lines_with w line lines more =
    cond w (line ∷ whole_lines lines) (whole_lines lines) ++ lines_of (concat (cond (not w) (line ∷ pieces_of lines) (pieces_of lines)) ++ more)

goes_on : (byte : ℕ) (line : List ℕ) (lines : List (List ℕ)) (more : List ℕ) (w : Bool) → nat_eq byte 10 ≡ false → is_whole line ≡ w → IsCut (line ∷ lines) →
    with_byte false byte (lines_with w line lines more) ≡ lines_with w (byte ∷ line) lines more
goes_on byte line lines more true is whole cut = refl
goes_on byte line [] more false is whole cut = sym (ap (λ (o : Bool). with_byte o byte (lines_of ((line ++ []) ++ more))) is)
goes_on byte line (next ∷ lines) more false is whole cut = let wrong : true ≡ false = sym cut.0 ∙ whole in cc

with_byte-on : (o : Bool) (byte : ℕ) (lines : List (List ℕ)) (more : List ℕ) → nat_eq byte 10 ≡ o → IsCut lines →
    with_byte o byte (whole_lines lines ++ lines_of (piece_of lines ++ more))
    ≡ whole_lines (with_byte o byte lines) ++ lines_of (piece_of (with_byte o byte lines) ++ more)
with_byte-on true byte lines more is cut = sym (ap (λ (w : Bool). lines_with w (byte ∷ []) lines more) is)
with_byte-on false byte [] more is cut =
    sym (ap (λ (o : Bool). with_byte o byte (lines_of more)) is) ∙ sym (ap (λ (w : Bool). lines_with w (byte ∷ []) [] more) is)
with_byte-on false byte (line ∷ lines) more is cut =
    goes_on byte line lines more (is_whole line) is refl cut ∙ sym (ap (λ (w : Bool). lines_with w (byte ∷ line) lines more) (whole-before byte line is))

-- the whole lines of the first stay, and the second goes on with its piece
pub lines_of-append : (text more : List ℕ) → lines_of (text ++ more) ≡ whole_lines (lines_of text) ++ lines_of (piece_of (lines_of text) ++ more)
lines_of-append [] more = refl
lines_of-append (byte ∷ text) more =
    ap (with_byte (nat_eq byte 10) byte) (lines_of-append text more)
    ∙ with_byte-on (nat_eq byte 10) byte (lines_of text) more refl (is_cut text)

-- ---- the piece of a bag

one_whole : (first : List ℕ) (pieces : List (List ℕ)) (w : Bool) → cond (not w) (first ∷ pieces) pieces ≡ [] → (w ≡ true) × (pieces ≡ [])
one_whole first pieces true none = (refl, none)
one_whole first pieces false none = cc

piece-with_line : (line : List ℕ) (bag : List (List ℕ)) → is_whole line ≡ false → pieces_of bag ≡ [] → pieces_of (with_line line bag) ≡ line ∷ []
piece-with_line line [] is none = ap (λ (w : Bool). cond (not w) (line ∷ []) []) is
piece-with_line line (first ∷ rest) is none =
    let found = one_whole first (pieces_of rest) (is_whole first) none in
    by (slice_cmp nat_cmp line first) found.0 (piece-with_line line rest is found.1)
  where
    by : (o : Ordering) → is_whole first ≡ true → pieces_of (with_line line rest) ≡ line ∷ [] →
        pieces_of (insert_by o line first (with_line line rest) rest) ≡ line ∷ []
    by Greater whole later = ap (λ (w : Bool). cond (not w) (first ∷ pieces_of (with_line line rest)) (pieces_of (with_line line rest))) whole ∙ later
    by Equal whole later =
        ap (λ (w : Bool). cond (not w) (line ∷ pieces_of (first ∷ rest)) (pieces_of (first ∷ rest))) is ∙ ap (λ (lines : List (List ℕ)). line ∷ lines) none
    by Less whole later =
        ap (λ (w : Bool). cond (not w) (line ∷ pieces_of (first ∷ rest)) (pieces_of (first ∷ rest))) is ∙ ap (λ (lines : List (List ℕ)). line ∷ lines) none

pieces-with_each : (lines bag : List (List ℕ)) → IsCut lines → pieces_of bag ≡ [] → pieces_of (with_each lines bag) ≡ pieces_of lines
pieces-with_each [] bag cut none = none
pieces-with_each (line ∷ []) bag cut none = by (is_whole line) refl
  where
    by : (w : Bool) → is_whole line ≡ w → pieces_of (with_line line bag) ≡ cond (not w) (line ∷ []) []
    by true is = pieces-with_line line bag is ∙ none
    by false is = piece-with_line line bag is none
pieces-with_each (line ∷ next ∷ more) bag cut none =
    pieces-with_each (next ∷ more) (with_line line bag) cut.1 (pieces-with_line line bag cut.0 ∙ none)
    ∙ sym (ap (λ (w : Bool). cond (not w) (line ∷ pieces_of (next ∷ more)) (pieces_of (next ∷ more))) cut.0)

-- a bag's piece is that of all that its slot printed, and stays so
pub piece-with_text : (text printed : List ℕ) (bag : List (List ℕ)) → piece_of bag ≡ piece_of (lines_of printed) →
    piece_of (with_text text bag) ≡ piece_of (lines_of (printed ++ text))
piece-with_text text printed bag same =
    ap concat (pieces-with_each (lines_of (piece_of bag ++ text)) (whole_lines bag) (is_cut (piece_of bag ++ text)) (whole-no_piece bag))
    ∙ ap (λ (piece : List ℕ). piece_of (lines_of (piece ++ text))) same
    ∙ sym (ap (λ (pieces : List (List ℕ)). concat (pieces ++ pieces_of (lines_of (piece_of (lines_of printed) ++ text)))) (whole-no_piece (lines_of printed)))
    ∙ sym (ap concat (filter-append (λ (line : List ℕ). not (is_whole line)) (whole_lines (lines_of printed)) (lines_of (piece_of (lines_of printed) ++ text))))
    ∙ sym (ap piece_of (lines_of-append printed text))
