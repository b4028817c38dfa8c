-- *product rule*: A log and its text (docs/FORMATS.md, "Logs"): '-', or members 'step:index' joined by commas, in decimals without
-- leading zeros.
use Rattle.std.specs.Prelude.{◌≡◌, ◌≢◌, ℕ, List, [], ◌∷◌, ◌++◌, codes, Result, MatchResult}
use Rattle.basis.specs.declared.memory.OrMemory.{OrMemory}
use Rattle.basis.specs.Reasons.{Because}
use Rattle.std.specs.Fmt.{decimal}
use Rattle.sched_core.specs.Logs.{IsLog}
use Rattle.sched_core.specs.declared.log.LogFault.{LogFault}
use Rattle.sched_core.specs.declared.log.LogHead.{LogHead}
use Rattle.sched_core.specs.declared.log.LogHead.TheVariants.{Plain, Named}
use Rattle.sched_core.specs.declared.setting.Grain.TheVariants.{Process, Statement}
use Rattle.sched_core.specs.declared.setting.Departures.TheVariants.{Taking, Holding}

abbrev pub member_text : ℕ × ℕ → List ℕ
member_text m = decimal m.0 ++ (58 ∷ decimal m.1)

-- the members after one, each after a comma
abbrev pub more_text : List (ℕ × ℕ) → List ℕ
more_text [] = []
more_text (m ∷ log) = 44 ∷ (member_text m ++ more_text log)

abbrev pub log_text : List (ℕ × ℕ) → List ℕ
log_text [] = codes "-"
log_text (m ∷ log) = member_text m ++ more_text log

abbrev pub head_text : LogHead → List ℕ
head_text Plain = []
head_text (Named Process Taking) = codes "process/"
head_text (Named Statement Taking) = codes "statement/"
head_text (Named Process Holding) = codes "process-holding/"
head_text (Named Statement Holding) = codes "statement-holding/"

-- a log by itself may name its grain, and that departures may hold back
abbrev pub named_log_text : LogHead → List (ℕ × ℕ) → List ℕ
named_log_text head log = head_text head ++ log_text log

-- the text is that of no log
abbrev pub IsNoLogText : List ℕ → Type 0
IsNoLogText text = (log : List (ℕ × ℕ)) → IsLog log → text ≢ log_text log

abbrev pub IsNoNamedLogText : List ℕ → Type 0
IsNoNamedLogText text = (head : LogHead) (log : List (ℕ × ℕ)) → IsLog log → text ≢ named_log_text head log

-- The text of a log is read as that log, unless memory was refused.
abbrev pub ReadsEach : List ℕ → Result (List (ℕ × ℕ)) (OrMemory LogFault) → Type 0
ReadsEach text answer = (log : List (ℕ × ℕ)) → IsLog log → text ≡ log_text log → MatchResult answer (λ read. read ≡ log) (Because (λ _. ⊥))

-- The text of a log with what it names is read as these two, unless memory was refused.
abbrev pub ReadsEachNamed : List ℕ → Result (LogHead × List (ℕ × ℕ)) (OrMemory LogFault) → Type 0
ReadsEachNamed text answer = (head : LogHead) (log : List (ℕ × ℕ)) → IsLog log → text ≡ named_log_text head log → MatchResult answer (λ named. (named.0 ≡ head) × (named.1 ≡ log)) (Because (λ _. ⊥))

-- the text is that of this log with what it names
abbrev pub IsNamedLogText : List ℕ → LogHead × List (ℕ × ℕ) → Type 0
IsNamedLogText text named = IsLog named.1 × (text ≡ named_log_text named.0 named.1)

-- No two logs, with what they name, have one text.
abbrev pub OneLogForText : Type 0
OneLogForText = (head other : LogHead) (log others : List (ℕ × ℕ)) → IsLog log → IsLog others → named_log_text head log ≡ named_log_text other others → (head ≡ other) × (log ≡ others)
