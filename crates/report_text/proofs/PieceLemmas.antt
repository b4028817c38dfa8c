-- Pieces of a report's text, put last one after another.
use Rattle.std.proofs.Common.{◌≡◌, ◌<◌, ◌+◌, ◌++◌, ◌∙◌, ◌∷◌, [], ap, sym, refl, take, get_or, length, append_assoc, append-nil, ℕ, List}
use Rattle.std.proofs.lemmas.List.{take_more}
use Rattle.sched_core.specs.LogText.{log_text}
use Rattle.std.specs.Prelude.{codes, decimal}
use Rattle.report_text.specs.Report.{Column, End}
use Rattle.report_text.specs.ReportText.{line, joined_by_space, number_line, cause_word, column_line, column_lines, counted_text, counted_texts, printed_lines, end_text, side_text, side_texts, value_lines}

pub column_lines-append : (xs : List Column) (x : Column) → column_lines (xs ++ x ∷ []) ≡ column_lines xs ++ column_line x
column_lines-append [] x = append-nil (column_line x)
column_lines-append (y ∷ ys) x = ap (λ t. column_line y ++ t) (column_lines-append ys x) ∙ sym (append_assoc (column_line y) (column_lines ys) (column_line x))

abbrev pub Value : Type 0
Value = List ℕ × List (ℕ × ℕ)

abbrev pub value_line : Value → List ℕ
value_line value = line (joined_by_space value.0 (log_text value.1))

pub value_lines-append : (xs : List Value) (x : Value) → value_lines (xs ++ x ∷ []) ≡ value_lines xs ++ value_line x
value_lines-append [] x = append-nil (value_line x)
value_lines-append (y ∷ ys) x = ap (λ t. value_line y ++ t) (value_lines-append ys x) ∙ sym (append_assoc (value_line y) (value_lines ys) (value_line x))

-- one more column
pub columns_more : (start text now : List ℕ) (columns : List Column) (none : Column) (i : ℕ) → i < length columns → text ≡ start ++ column_lines (take i columns)
    → now ≡ text ++ column_line (get_or columns i none) → now ≡ start ++ column_lines (take (i + 1) columns)
columns_more start text now columns none i h e f =
    f ∙ ap (λ t. t ++ column_line (get_or columns i none)) e
    ∙ append_assoc start (column_lines (take i columns)) (column_line (get_or columns i none))
    ∙ ap (λ t. start ++ t) (sym (ap column_lines (take_more columns i none h) ∙ column_lines-append (take i columns) (get_or columns i none)))

-- one more value with its log
pub values_more : (start text word log now : List ℕ) (values : List Value) (none : Value) (i : ℕ) → i < length values → text ≡ start ++ value_lines (take i values)
    → word ≡ text ++ (get_or values i none).0 ++ 32 ∷ [] → log ≡ word ++ log_text (get_or values i none).1 → now ≡ log ++ 10 ∷ []
    → now ≡ start ++ value_lines (take (i + 1) values)
values_more start text word log now values none i h e f g n =
    let one : now ≡ text ++ value_line (get_or values i none) = n ∙ ap (λ t. t ++ 10 ∷ []) (g ∙ ap (λ t. t ++ log_text (get_or values i none).1) f) ∙ simp append_assoc refl in
    one ∙ ap (λ t. t ++ value_line (get_or values i none)) e
    ∙ append_assoc start (value_lines (take i values)) (value_line (get_or values i none))
    ∙ ap (λ t. start ++ t) (sym (ap value_lines (take_more values i none h) ∙ value_lines-append (take i values) (get_or values i none)))

pub counted_texts-append : (xs : List (List ℕ)) (x : List ℕ) → counted_texts (xs ++ x ∷ []) ≡ counted_texts xs ++ counted_text x
counted_texts-append [] x = append-nil (counted_text x)
counted_texts-append (y ∷ ys) x = ap (λ t. counted_text y ++ t) (counted_texts-append ys x) ∙ sym (append_assoc (counted_text y) (counted_texts ys) (counted_text x))

-- one more line
pub texts_more : (start text word now : List ℕ) (lines : List (List ℕ)) (none : List ℕ) (i : ℕ) → i < length lines → text ≡ start ++ counted_texts (take i lines)
    → word ≡ text ++ number_line (codes "line") (length (get_or lines i none)) → now ≡ word ++ get_or lines i none → now ≡ start ++ counted_texts (take (i + 1) lines)
texts_more start text word now lines none i h e f g =
    g ∙ ap (λ t. t ++ get_or lines i none) f ∙ append_assoc text (number_line (codes "line") (length (get_or lines i none))) (get_or lines i none)
    ∙ ap (λ t. t ++ counted_text (get_or lines i none)) e
    ∙ append_assoc start (counted_texts (take i lines)) (counted_text (get_or lines i none))
    ∙ ap (λ t. start ++ t) (sym (ap counted_texts (take_more lines i none h) ∙ counted_texts-append (take i lines) (get_or lines i none)))

-- the steps of an end's lines
pub end_steps : (end : End) (a b c d e f g h i j k : List ℕ) → a ≡ codes "end " → b ≡ a ++ decimal end.time → c ≡ b ++ 32 ∷ [] → d ≡ c ++ cause_word end.cause ++ 32 ∷ []
    → e ≡ d ++ log_text end.log → f ≡ e ++ 32 ∷ [] → g ≡ f ++ decimal end.bytes → h ≡ g ++ 10 ∷ [] → i ≡ h ++ end.line → j ≡ i ++ 10 ∷ []
    → k ≡ j ++ printed_lines end.printed → k ≡ end_text end
end_steps end a b c d e f g h i j k ea eb ec ed ee ef eg eh ei ej ek =
    rw (ek, ej, ei, eh, eg, ef, ee, ed, ec, eb, ea) (simp append_assoc refl)

abbrev pub PrintedSide : Type 0
PrintedSide = List (List ℕ) × List (ℕ × ℕ)

pub side_texts-append : (xs : List PrintedSide) (x : PrintedSide) → side_texts (xs ++ x ∷ []) ≡ side_texts xs ++ side_text x
side_texts-append [] x = append-nil (side_text x)
side_texts-append (y ∷ ys) x = ap (λ t. side_text y ++ t) (side_texts-append ys x) ∙ sym (append_assoc (side_text y) (side_texts ys) (side_text x))

-- one more side of a race of lines
pub sides_more : (start text now : List ℕ) (sides : List PrintedSide) (none : PrintedSide) (i : ℕ) → i < length sides → text ≡ start ++ side_texts (take i sides)
    → now ≡ text ++ side_text (get_or sides i none) → now ≡ start ++ side_texts (take (i + 1) sides)
sides_more start text now sides none i h e f =
    f ∙ ap (λ t. t ++ side_text (get_or sides i none)) e
    ∙ append_assoc start (side_texts (take i sides)) (side_text (get_or sides i none))
    ∙ ap (λ t. start ++ t) (sym (ap side_texts (take_more sides i none h) ∙ side_texts-append (take i sides) (get_or sides i none)))
