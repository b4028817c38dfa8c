-- Which bytes logs and lines of values lack.
use Rattle.std.proofs.Common.{◌≡◌, ℕ, ◌+◌, ◌<◌, ◌^◌, true, false, List, [], ◌∷◌, ◌++◌, length, arith, ap, refl, sym, subst, ◌∙◌, append_assoc}
use Rattle.std.specs.Prelude.{codes}
use Rattle.std.specs.Char.{is_ascii_digit}
use Rattle.std.specs.Fmt.{decimal}
use Rattle.sched_core.specs.Logs.{IsLog, IsLogFrom}
use Rattle.sched_core.specs.LogText.{member_text, more_text, log_text}
use Rattle.sched_core.specs.declared.setting.Looked.{Looked}
use Rattle.report_text.specs.Report.{Column, End}
use Rattle.report_text.specs.ReportText.{cause_word, joined_by_space, end_text, printed_lines}
use Rattle.report_text.specs.WellFormed.{IsValue, IsLineOf, is_digit}
use Rattle.report_text.specs.Inner.Fronts.{lacks}
use Rattle.report_text.specs.Inner.Lines.{ArePrintedTaken}
use Rattle.report_text.specs.Inner.Ends.{Ended, ended_text, IsEnded, IsEndedTaken, EndSpelling, IsSpelling, spelled_before}
use Rattle.report_text.proofs.LineLemmas.{lacks_by, decimal_lacks, lacks_append}

-- this byte stands in no log
pub record IsOutside (b : ℕ) : Type 0 where
  pub digit : is_ascii_digit b ≡ false
  pub colon : lacks b (58 ∷ []) ≡ true
  pub comma : lacks b (44 ∷ []) ≡ true
  pub dash : lacks b (45 ∷ []) ≡ true

member_lacks : (b : ℕ) (m : ℕ × ℕ) → IsOutside b → m.0 < 2 ^ 64 → m.1 < 2 ^ 64 → lacks b (member_text m) ≡ true
member_lacks b m o p q = lacks_append b (decimal m.0) (58 ∷ decimal m.1) (decimal_lacks b m.0 o.digit p) (lacks_append b (58 ∷ []) (decimal m.1) o.colon (decimal_lacks b m.1 o.digit q))

more_lacks : (b low : ℕ) (log : List (ℕ × ℕ)) → IsOutside b → IsLogFrom low log → lacks b (more_text log) ≡ true
more_lacks b low [] o h = refl
more_lacks b low (m ∷ log) o h =
    lacks_append b (44 ∷ []) (member_text m ++ more_text log) o.comma
    (lacks_append b (member_text m) (more_text log) (member_lacks b m o (omega (arith, h.1)) (omega (arith, h.3))) (more_lacks b (m.0 + 1) log o h.4))

pub log_lacks : (b : ℕ) (log : List (ℕ × ℕ)) → IsOutside b → IsLog log → lacks b (log_text log) ≡ true
log_lacks b [] o h = o.dash
log_lacks b (m ∷ log) o h = lacks_append b (member_text m) (more_text log) (member_lacks b m o (omega (arith, h.1)) (omega (arith, h.3))) (more_lacks b (m.0 + 1) log o h.4)

pub value_lacks : (b width : ℕ) (value : List ℕ) → is_digit b ≡ false → IsValue width value → lacks b value ≡ true
value_lacks b width value other h = lacks_by is_digit b other value h.1

pub line_lacks : (b : ℕ) (columns : List Column) (text : List ℕ) → is_digit b ≡ false → lacks b (32 ∷ []) ≡ true → IsLineOf columns text → lacks b text ≡ true
line_lacks b [] text other space h = rw h refl
line_lacks b (column ∷ []) text other space h = value_lacks b column.width text other h
line_lacks b (column ∷ next ∷ columns) text other space (value, rest, is, line, e) =
    rw e (lacks_append b value (32 ∷ rest) (value_lacks b column.width value other is) (lacks_append b (32 ∷ []) rest space (line_lacks b (next ∷ columns) rest other space line)))

pub space_outside : IsOutside 32
space_outside = record { digit = refl; colon = refl; comma = refl; dash = refl }

pub feed_outside : IsOutside 10
feed_outside = record { digit = refl; colon = refl; comma = refl; dash = refl }

abbrev pub spelling_of : End → EndSpelling
spelling_of end = record { time = end.time; cause = end.cause; log = log_text end.log; bytes = end.bytes; line = end.line }

spell_end : (e t c l b v p rest : List ℕ) → ((((e ++ joined_by_space t (joined_by_space c (joined_by_space l b))) ++ 10 ∷ []) ++ (v ++ 10 ∷ [])) ++ p) ++ rest ≡
    e ++ (t ++ 32 ∷ (c ++ 32 ∷ (l ++ 32 ∷ (b ++ 10 ∷ (v ++ 10 ∷ (p ++ rest))))))
spell_end e t c l b v p rest =
    simp append_assoc (ap (λ r. e ++ (t ++ 32 ∷ (c ++ 32 ∷ (l ++ 32 ∷ r)))) (append_assoc b (10 ∷ (v ++ 10 ∷ p)) rest ∙ ap (λ r. b ++ 10 ∷ r) (append_assoc v (10 ∷ p) rest)))

pub end_spelled : (ended : Ended) (rest : List ℕ) → ended_text ended ++ rest ≡ spelled_before (spelling_of ended.0) (printed_lines ended.0.printed ++ (ended.1 ++ rest))
end_spelled ended rest =
    append_assoc (end_text ended.0) ended.1 rest
    ∙ spell_end (codes "end ") (decimal ended.0.time) (cause_word ended.0.cause) (log_text ended.0.log) (decimal ended.0.bytes) ended.0.line (printed_lines ended.0.printed) (ended.1 ++ rest)

pub is_spelling : (looked : Looked) (columns : List Column) (ended : Ended) → IsEnded looked columns ended → IsSpelling (spelling_of ended.0)
is_spelling looked columns ended h = record {
  time = h.0.time;
  log = log_lacks 32 ended.0.log space_outside h.0.log;
  small = h.2;
  line = line_lacks 10 columns ended.0.line refl refl h.0.line;
}

-- the words of an end, its lines and its dump
pub ended_is : (looked : Looked) (columns : List Column) (end : End) (w : EndSpelling) (text mid last rest dump : List ℕ) → w ≡ spelling_of end → IsSpelling w → text ≡ spelled_before w mid → IsLineOf columns end.line → IsLog end.log →
    ArePrintedTaken looked mid end.printed last → end.bytes ≡ length dump → last ≡ dump ++ rest → IsEndedTaken looked columns text (end, dump) rest
ended_is looked columns end w text mid last rest dump same is e line log printed sized d =
    let spelling = subst IsSpelling same is in (
      (record { time = spelling.time; log = log; line = line; lines = printed.0.0 }, sized, spelling.small, printed.0.1),
      e ∙ (λ i. spelled_before (same i) ((printed.1 ∙ ap (λ t. printed_lines end.printed ++ t) d) i)) ∙ sym (end_spelled (end, dump) rest),
    )
