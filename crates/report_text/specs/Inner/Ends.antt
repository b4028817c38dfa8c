-- *internal*: Ends, as they are read.
use Rattle.std.specs.Prelude.{◌≡◌, ◌⊎◌, ℕ, ◌<◌, ◌-◌, ◌^◌, true, List, [], ◌∷◌, ◌++◌, length, slice_get, Some, codes, decimal, map, flat_map, Vec, Result, IfOk}
use Rattle.std.specs.Borrow.{Bor}
use Rattle.sched_core.specs.Logs.{IsLog}
use Rattle.sched_core.specs.LogText.{log_text}
use Rattle.sched_core.specs.declared.end.Cause.{Cause}
use Rattle.sched_core.specs.declared.setting.Looked.{Looked}
use Rattle.report_text.specs.Inner.Fronts.{lacks}
use Rattle.report_text.specs.Inner.Lines.{HasCountable}
use Rattle.report_text.specs.Inner.Lists.{Listed}
use Rattle.report_text.specs.Inner.Places.{Place, Stands, Took}
use Rattle.report_text.specs.Report.{Column, End}
use Rattle.report_text.specs.WellFormed.{IsValue, IsEnd, IsEndBefore, IsPrintedLess, IsTextLess}
use Rattle.report_text.specs.ReportText.{cause_word, end_text}

-- the text is a value of this width, and then the rest
abbrev pub IsAfterValue : ℕ → List ℕ → List ℕ → Type 0
IsAfterValue width text rest = (value : List ℕ) × IsValue width value × (text ≡ value ++ rest)

-- the text is a space and a value of this width, and then the rest
abbrev pub IsAfterSpace : ℕ → List ℕ → List ℕ → Type 0
IsAfterSpace width text rest = (front : List ℕ) × (text ≡ 32 ∷ front) × IsAfterValue width front rest

-- values of these variables, a space before each
abbrev pub IsMore : List Column → List ℕ → Type 0
IsMore [] text = text ≡ []
IsMore (column ∷ columns) text = (rest : List ℕ) × IsAfterSpace column.width text rest × IsMore columns rest

-- an end and its dump
abbrev pub Ended : Type 0
Ended = End × List ℕ

abbrev pub ended_text : Ended → List ℕ
ended_text ended = end_text ended.0 ++ ended.1

abbrev pub IsEnded : Looked → List Column → Ended → Type 0
IsEnded looked columns ended = IsEnd looked columns ended.0 × (ended.0.bytes ≡ length ended.1) × (ended.0.bytes < 2 ^ 64) × HasCountable ended.0.printed

-- by the bytes of the values, then by the lines
abbrev pub IsShownLess : End → End → Type 0
IsShownLess a b = IsTextLess a.line b.line ⊎ ((a.line ≡ b.line) × IsPrintedLess a.printed b.printed)

abbrev pub IsEndedBefore : Ended → Ended → Type 0
IsEndedBefore a b = IsEndBefore a.0 b.0

-- the end stands behind the last of these
abbrev pub FollowsLast : List End → End → Type 0
FollowsLast ends end = (before : End) → slice_get ends (length ends - 1) ≡ Some before → IsEndBefore before end

-- the words of an end
pub record EndSpelling : Type 0 where
  pub time : ℕ
  pub cause : Cause
  pub log : List ℕ
  pub bytes : ℕ
  pub line : List ℕ

-- numbers are of 64 bits, words end at the first space or line feed
pub record IsSpelling (w : EndSpelling) : Type 0 where
  pub time : w.time < 2 ^ 64
  pub log : lacks 32 w.log ≡ true
  pub small : w.bytes < 2 ^ 64
  pub line : lacks 10 w.line ≡ true

-- these words, before the rest
abbrev pub spelled_before : EndSpelling → List ℕ → List ℕ
spelled_before w rest =
    codes "end " ++ (decimal w.time ++ 32 ∷ (cause_word w.cause ++ 32 ∷ (w.log ++ 32 ∷ (decimal w.bytes ++ 10 ∷ (w.line ++ 10 ∷ rest)))))

-- the text is an end of these variables with its dump, and then the rest
abbrev pub IsEndedTaken : Looked → List Column → List ℕ → Ended → List ℕ → Type 0
IsEndedTaken looked columns text ended rest = IsEnded looked columns ended × (text ≡ ended_text ended ++ rest)

-- the text is these ends, each with its dump, so many and in their order, and then the rest
abbrev pub AreTaken : Looked → List Column → ℕ → List ℕ → List End → List (List ℕ) → List ℕ → Type 0
AreTaken looked columns count text ends dumps rest =
    (all : List Ended) × Listed (IsEnded looked columns) IsEndedBefore all × (length all ≡ count) × (ends ≡ map (λ e. e.0) all) × (dumps ≡ map (λ e. e.1) all)
    × (text ≡ flat_map ended_text all ++ rest)

-- the text is the word of this cause and a space, and then the rest
abbrev pub IsCauseTaken : List ℕ → Cause → List ℕ → Type 0
IsCauseTaken text cause rest = text ≡ cause_word cause ++ 32 ∷ rest

-- if the reader isn't lost here, then it wasn't there, and the word is the text of this log
abbrev pub HasLog : Place → Place → List ℕ → List (ℕ × ℕ) → Type 0
HasLog old new word log = new.ok ≡ true → (old.ok ≡ true) × IsLog log × (word ≡ log_text log)

-- where the reader wasn't lost, each log of which the word is the text is what was answered
abbrev pub EachLog : {E : Type 0} → Place → Place → List ℕ → Result (List (ℕ × ℕ)) E → Type 0
EachLog old new word result = (log : List (ℕ × ℕ)) →
    old.ok ≡ true → IsLog log → word ≡ log_text log → IfOk result (λ read. (read ≡ log) × (new.ok ≡ true))

-- where the reader wasn't lost, each end that stood there with its dump is what was answered
abbrev pub EachEnd : {E : Type 0} → Looked → List Column → Place → Place → Result (End × Bor (List ℕ)) E → Type 0
EachEnd looked columns old new result = (ended : Ended) (rest : List ℕ) →
    old.ok ≡ true → IsEndedTaken looked columns old.rest ended rest → IfOk result (λ p. (p.0 ≡ ended.0) × (p.1.now ≡ ended.1) × Stands new rest)

-- these ends with these dumps stood there, so many
abbrev pub HasEnds : Looked → List Column → ℕ → Place → Place → List End → List (Bor (List ℕ)) → Type 0
HasEnds looked columns count old new ends dumps = Took old new (λ text rest. AreTaken looked columns count text ends (map (λ dump. dump.now) dumps) rest)

-- where the reader wasn't lost, whatever ends stood there with their dumps, so many, are what was answered
abbrev pub EachEnds : {D A E : Type 0} → Looked → List Column → ℕ → Place → Place → Result (Vec End A × Vec (Bor (List ℕ)) D) E → Type 0
EachEnds looked columns count old new result = (all : List Ended) (rest : List ℕ) →
    old.ok ≡ true → Listed (IsEnded looked columns) IsEndedBefore all → length all ≡ count → old.rest ≡ flat_map ended_text all ++ rest →
    IfOk result (λ p. (p.0.items ≡ map (λ e. e.0) all) × (map (λ dump. dump.now) p.1.items ≡ map (λ e. e.1) all) × Stands new rest)
