-- The lines of variables, one after another.
use Rattle.std.proofs.Common.{◌≡◌, ◌≢◌, ℕ, ◌<◌, ◌==◌, ◌&&◌, ◌||◌, not, zero, suc, Bool, true, false, List, [], ◌∷◌, ◌++◌, map, length, slice_get, Some, ap, refl, sym, subst, ◌∙◌, append_assoc}
use Rattle.std.specs.List.{list_all, flat_map}
use Rattle.std.specs.Str.{bytes_eq}
use Rattle.std.specs.Fmt.{decimal}
use Rattle.std.proofs.lemmas.Option.{same_Some}
use Rattle.std.proofs.lemmas.List.{map-append}
use Rattle.std.specs.Bool.{Decides}
use Rattle.std.proofs.lemmas.Slice.Eq.{bytes_eq-Decides}
use Rattle.basis.proofs.Bools.{and_left, and_right, and_both}
use Rattle.report_text.specs.Report.{Column}
use Rattle.report_text.specs.ReportText.{column_line, column_lines}
use Rattle.report_text.specs.WellFormed.{IsColumn}
use Rattle.vwords.specs.Words.{is_printable}
use Rattle.vwords.specs.Names.{is_path}
use Rattle.report_text.specs.Inner.Fronts.{lacks}
use Rattle.report_text.specs.Inner.Columns.{IsColumnTaken, Differ}
use Rattle.report_text.specs.Inner.Names.{is_among}
use Rattle.report_text.specs.Inner.Places.{Place, Took, Stands}
use Rattle.report_text.proofs.HeadingLemmas.{name_lacks}
use Rattle.report_text.proofs.ListLemmas.{HasRead, has_more}

-- what is printable has no blank and no line feed
pub path_lacks : (b : ℕ) (name : List ℕ) → is_printable b ≡ false → is_path name ≡ true → lacks b name ≡ true
path_lacks b name other h = name_lacks b name other h

pub column_spelled : (column : Column) (rest : List ℕ) → column_line column ++ rest ≡ column.name ++ 32 ∷ (decimal column.width ++ 10 ∷ rest)
column_spelled column rest = simp append_assoc refl

pub columns_spelled : (columns : List Column) → flat_map column_line columns ≡ column_lines columns
columns_spelled [] = refl
columns_spelled (column ∷ columns) = ap (λ t. column_line column ++ t) (columns_spelled columns)

pub not_equal : (b : Bool) (P : Type 0) → Decides b P → b ≡ false → ¬ P
not_equal true P d e = absurd cc
not_equal false P d e = λ p. (let t : false ≡ true = d.1 p in absurd cc)

pub no_test : (b : Bool) (P : Type 0) → Decides b P → ¬ P → b ≡ false
no_test true P d n = absurd (n (d.0 refl))
no_test false P d n = refl

or_none : (a b : Bool) → (a || b) ≡ false → (a ≡ false) × (b ≡ false)
or_none true b h = absurd cc
or_none false b h = (refl, h)

-- a name is none of those of the variables
pub among_none : (columns : List Column) (name : List ℕ) → is_among (map (λ c. c.name) columns) name ≡ false → (i : ℕ) (x : Column) → slice_get columns i ≡ Some x → x.name ≢ name
among_none [] name h i x e = absurd cc
among_none (y ∷ ys) name h zero x e = λ s. not_equal (bytes_eq name y.name) (name ≡ y.name) (bytes_eq-Decides name y.name) (or_none (bytes_eq name y.name) _ h).0 (sym s ∙ ap (λ c. c.name) (sym (same_Some y x e)))
among_none (y ∷ ys) name h (suc i) x e = among_none ys name (or_none (bytes_eq name y.name) _ h).1 i x e

pub none_among : (columns : List Column) (name : List ℕ) → ((i : ℕ) (x : Column) → slice_get columns i ≡ Some x → x.name ≢ name) → is_among (map (λ c. c.name) columns) name ≡ false
none_among [] name h = refl
none_among (y ∷ ys) name h =
    let first : bytes_eq name y.name ≡ false = no_test (bytes_eq name y.name) (name ≡ y.name) (bytes_eq-Decides name y.name) (λ e. h 0 y refl (sym e)) in
    rw first (none_among ys name (λ i x e. h (suc i) x e))

not_true : (b : Bool) → true ≡ not b → b ≡ false
not_true true e = absurd cc
not_true false e = refl

-- one more variable
pub column_step : (count : ℕ) (old now mid next : Place) (names : List (List ℕ)) (columns : List Column) (column : Column) (added : Bool) → HasRead column_line IsColumn Differ count old columns now →
    names ≡ map (λ c. c.name) columns → length columns < count → Took now mid (λ text rest. IsColumnTaken text column rest) →
    ((z : Column) (rest : List ℕ) → now.ok ≡ true → IsColumnTaken now.rest z rest → (column ≡ z) × Stands mid rest) →
    added ≡ not (is_among names column.name) → next.ok ≡ (mid.ok && added) → next.rest ≡ mid.rest → HasRead column_line IsColumn Differ count old (columns ++ column ∷ []) next
column_step count old now mid next names columns column added h n lt took each new ok rest =
    has_more column_line IsColumn Differ count old now next columns column h lt
    (λ fine.
    let s : (mid.ok && added) ≡ true = sym ok ∙ fine in
    let t = took (and_left _ _ s) in
    let fresh : is_among (map (λ c. c.name) columns) column.name ≡ false = ap (λ ns. is_among ns column.name) (sym n) ∙ not_true _ (sym (and_right mid.ok added s) ∙ new) in
    (t.0, (t.1.0, among_none columns column.name fresh, t.1.1 ∙ ap (λ r. column_line column ++ r) (sym rest))))
    (λ z after fine is apart e.
    let w = each z after fine (is, e) in
    let fresh : is_among names column.name ≡ false = ap (λ ns. is_among ns column.name) n ∙ none_among columns column.name (λ i x at. subst (λ k. x.name ≢ k.name) (sym w.0) (apart i x at)) in
    (w.0, (ok ∙ and_both _ _ w.1.0 (new ∙ ap not fresh), rest ∙ w.1.1)))

pub names_more : (names put : List (List ℕ)) (columns : List Column) (column : Column) → names ≡ map (λ c. c.name) columns → put ≡ names ++ column.name ∷ [] → put ≡ map (λ c. c.name) (columns ++ column ∷ [])
names_more names put columns column n p = p ∙ ap (λ t. t ++ column.name ∷ []) n ∙ sym (map-append (λ c. c.name) columns (column ∷ []))
