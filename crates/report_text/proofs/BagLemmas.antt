-- Printed lines in the order of their bytes, and their texts.
use Rattle.std.proofs.Common.{◌≡◌, ℕ, ◌<◌, ◌≤◌, ◌^◌, true, List, [], ◌∷◌, ◌++◌, length, Option, Some, None, arith, ap, refl, sym, ◌∙◌, append_assoc}
use Rattle.std.specs.Prelude.{codes}
use Rattle.std.specs.List.{flat_map}
use Rattle.std.specs.Fmt.{decimal}
use Rattle.std.specs.Ordering.{nat_cmp, ordering_reverse}
use Rattle.std.specs.Cmp.{IsTotalOrder}
use Rattle.std.specs.Cmp.Lexicographic.{slice_cmp}
use Rattle.std.specs.declared.cmp.Ordering.{Ordering}
use Rattle.std.specs.declared.cmp.Ordering.TheVariants.{Less, Equal, Greater}
use Rattle.std.proofs.lemmas.Cmp.{nat_list_cmp_total}
use Rattle.sched_core.specs.declared.setting.Looked.TheVariants.{Values, Lines}
use Rattle.report_text.specs.ReportText.{number_line, counted_text, counted_texts, printed_lines}
use Rattle.report_text.specs.Inner.Headings.{label_line_before}
use Rattle.report_text.specs.Inner.Lines.{IsNotAfter, HasCountable, ArePrintedTaken}
use Rattle.report_text.specs.Inner.Places.{Place, Stands, TakesEach}
use Rattle.report_text.proofs.SpellingLemmas.{line_before, left_le, right_le, items_le, item_le, line_some}

total : IsTotalOrder (slice_cmp nat_cmp)
total = nat_list_cmp_total

pub not_after_trans : (a b c : List ℕ) → IsNotAfter a b → IsNotAfter b c → IsNotAfter a c
not_after_trans a b c h k less = by (slice_cmp nat_cmp c b) refl
  where
    by : (o : Ordering) → slice_cmp nat_cmp c b ≡ o → ⊥
    by Less is = k is
    by Equal is = h (sym (total.congr c b a is) ∙ less)
    by Greater is = h (total.trans b c a (total.antisymm b c ∙ ap ordering_reverse is) less)

-- ---- texts

pub text_spelled : (text rest : List ℕ) → counted_text text ++ rest ≡ label_line_before (codes "line ") (decimal (length text)) (text ++ rest)
text_spelled text rest = append_assoc (number_line (codes "line") (length text)) text rest ∙ line_before (codes "line") (decimal (length text)) (text ++ rest)

pub texts_spelled : (texts : List (List ℕ)) → flat_map counted_text texts ≡ counted_texts texts
texts_spelled [] = refl
texts_spelled (text ∷ texts) = ap (λ t. counted_text text ++ t) (texts_spelled texts)

pub bag_spelled : (bag : List (List ℕ)) (rest : List ℕ) → printed_lines (Some bag) ++ rest ≡ label_line_before (codes "lines ") (decimal (length bag)) (counted_texts bag ++ rest)
bag_spelled bag rest = append_assoc (number_line (codes "lines") (length bag)) (counted_texts bag) rest ∙ line_before (codes "lines") (decimal (length bag)) (counted_texts bag ++ rest)

-- where lines are looked at, they are there
pub some_each : (bag : List (List ℕ)) (old new : Place) → ((all : List (List ℕ)) (rest : List ℕ) → old.ok ≡ true → ArePrintedTaken Lines old.rest (Some all) rest → (bag ≡ all) × Stands new rest) →
    TakesEach old new (ArePrintedTaken Lines) (Some bag)
some_each bag old new each None rest ok h = absurd h.0.0
some_each bag old new each (Some all) rest ok h = let w = each all rest ok h in (ap Some w.0, w.1)

-- where values are looked at, there are none
pub none_each : (old : Place) → TakesEach old old (ArePrintedTaken Values) None
none_each old None rest ok h = (refl, (ok, h.1))
none_each old (Some bag) rest ok h = absurd h.0.0

counted_one : (text : List ℕ) → 1 ≤ length (counted_text text)
counted_one text =
    let a = left_le (number_line (codes "line") (length text)) text in
    let b : 1 ≤ length (number_line (codes "line") (length text)) = line_some (codes "line" ++ 32 ∷ decimal (length text)) in
    omega (arith, a, b)

-- what stands in a text that can be counted can be counted
pub texts_fit : (n : ℕ) (texts : List (List ℕ)) → n < 2 ^ 64 → length (counted_texts texts) ≤ n → HasCountable (Some texts)
texts_fit n texts small le =
    let same : length (flat_map counted_text texts) ≡ length (counted_texts texts) = ap length (texts_spelled texts) in (
      λ i x at.
          let a = item_le counted_text texts i x at in
          let b = right_le (number_line (codes "line") (length x)) x in
          omega (arith, same, small, le, a, b),
      (let a = items_le counted_text texts counted_one in omega (arith, same, small, le, a)),
    )

pub printed_fit : (n : ℕ) (printed : Option (List (List ℕ))) → n < 2 ^ 64 → length (printed_lines printed) ≤ n → HasCountable printed
printed_fit n None small le = tt
printed_fit n (Some bag) small le =
    let a = right_le (number_line (codes "lines") (length bag)) (counted_texts bag) in
    texts_fit n bag small (omega (arith, le, a))
