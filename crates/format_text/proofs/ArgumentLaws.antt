-- Arguments, taken one by one: a text has the pieces of all of them (17.1.1).
use Rattle.std.proofs.Common.{◌≡◌, List, [], ◌∷◌, true, false, not, ℕ, ◌++◌, Option, Some, None, append_assoc, refl, sym, ap, ◌∙◌}
use Rattle.vdesign.specs.declared.print.Form.{Form}
use Rattle.vdesign.specs.declared.print.Notation.{Notation}
use Rattle.vdesign.specs.declared.print.Notation.TheVariants.{Binary, Octal, Hexadecimal, Decimal, Time, Character, Letters}
use denote.Enum.Bare.{sameb}
use Rattle.vdesign.specs.contracts.print.Notation.{the_type}
use Rattle.vdesign.specs.declared.print.Piece.{Piece}
use Rattle.format_text.specs.declared.letters.Escape.TheVariants.{Plain}
use Rattle.format_text.specs.Formats.{FormatFront, front_of, letters_in, letters_of}
use Rattle.format_text.specs.Pieces.{Argument, string, PrintedText, HasTakenAllBut, argument_taken, format_left, path_left, pieces_before, pieces_by, pieces_with, pieces_with_taken, string_by, string_shown, string_taken, text_piece}

before_none : (pieces : Option (List Piece)) → pieces_before [] pieces ≡ pieces
before_none None = refl
before_none (Some pieces) = refl

-- a new text has taken none
pub none_taken : (default : Form) (arguments : List Argument) →
    HasTakenAllBut (record { pieces = []; path = []; format = []; default = default }) arguments arguments
none_taken default arguments = before_none (pieces_by default [] [] arguments)

before_both : (front next : List Piece) (pieces : Option (List Piece)) → pieces_before (front ++ next) pieces ≡ pieces_before front (pieces_before next pieces)
before_both front next None = refl
before_both front next (Some pieces) = ap Some (append_assoc front next pieces)

-- a string that a form waits for
pub shown_string : (old : PrintedText) (front : FormatFront) (form : Form) (own letters path format : List ℕ) (one both : List Piece) (arguments : List Argument)
    → front_of old.path old.format ≡ Some front → front.form ≡ Some form → form.notation ≡ Letters → one ≡ old.pieces ++ text_piece front.letters
    → both ≡ one ++ text_piece (letters_in form.width (letters_of Plain letters)) → path ≡ old.path → format ≡ front.rest
    → pieces_with (record { pieces = both; path = path; format = format; default = old.default }) arguments ≡ pieces_with old (string own letters ∷ arguments)
shown_string old front form own letters path format one both arguments front_is form_is letters_is one_is both_is path_is format_is =
    ap (λ xs. pieces_before xs (pieces_by old.default path format arguments)) (both_is ∙ ap (λ xs. xs ++ second) one_is ∙ append_assoc old.pieces first second)
    ∙ ap (λ xs. pieces_before (old.pieces ++ (first ++ second)) (pieces_by old.default xs format arguments)) path_is
    ∙ ap (λ xs. pieces_before (old.pieces ++ (first ++ second)) (pieces_by old.default old.path xs arguments)) format_is
    ∙ before_both old.pieces (first ++ second) (pieces_by old.default old.path front.rest arguments)
    ∙ ap (λ t. pieces_before old.pieces (pieces_with_taken t (pieces_by old.default (path_left t) (format_left t) arguments))) (sym taken_is)
  where
    first : List Piece
    first = text_piece front.letters

    second : List Piece
    second = text_piece (letters_in form.width (letters_of Plain letters))

    taken_is : argument_taken old.default old.path old.format (string own letters) ≡ Some (record { pieces = first ++ second; path = old.path; format = front.rest })
    taken_is =
        ap (λ f. string_taken old.path f own (letters_of Plain letters)) front_is
        ∙ ap (λ f. string_by old.path front f own (letters_of Plain letters)) form_is
        ∙ ap (λ n. string_shown old.path front form.width n (letters_of Plain letters)) letters_is

apart : (P : Type 0) → false ≡ true → P
apart P e = absurd cc

-- a notation that isn't another than that of letters
pub notation_is : (n : Notation) → false ≡ not (sameb the_type n Letters) → n ≡ Letters
notation_is Binary e = apart _ e
notation_is Octal e = apart _ e
notation_is Hexadecimal e = apart _ e
notation_is Decimal e = apart _ e
notation_is Time e = apart _ e
notation_is Character e = apart _ e
notation_is Letters e = refl
