-- *internal*: What reading the front of a log's text gives.
use Rattle.std.specs.Prelude.{◌≡◌, ◌≢◌, ℕ, ◌+◌, ◌<◌, ◌^◌, List, [], ◌∷◌, ◌++◌, false}
use Rattle.std.specs.Char.{is_ascii_digit}
use Rattle.std.specs.Fmt.{decimal}
use Rattle.sched_core.specs.Logs.{IsLog}
use Rattle.sched_core.specs.LogText.{member_text, log_text, named_log_text}
use Rattle.sched_core.specs.declared.log.LogHead.{LogHead}

-- the text doesn't go on with a digit
abbrev pub StartsNoNumber : List ℕ → Type 0
StartsNoNumber [] = Unit {0}
StartsNoNumber (c ∷ cs) = is_ascii_digit c ≡ false

-- the text is this number of 32 bits, and then the rest
pub record IsNumberFront (text : List ℕ) (n : ℕ) (rest : List ℕ) : Type 0 where
  pub small : n < 2 ^ 32
  pub whole : text ≡ decimal n ++ rest
  pub stops : StartsNoNumber rest

-- no number of 32 bits stands at the front
abbrev pub HasNoNumber : List ℕ → Type 0
HasNoNumber text = (n : ℕ) (rest : List ℕ) → n < 2 ^ 32 → StartsNoNumber rest → text ≢ decimal n ++ rest

-- the text is this member, and then the rest
pub record IsMemberFront (text : List ℕ) (m : ℕ × ℕ) (rest : List ℕ) : Type 0 where
  pub step_small : m.0 < 2 ^ 32
  pub index_small : m.1 < 2 ^ 32
  pub whole : text ≡ member_text m ++ rest
  pub stops : StartsNoNumber rest

-- no member stands at the front
abbrev pub HasNoMember : List ℕ → Type 0
HasNoMember text = (m : ℕ × ℕ) (rest : List ℕ) → m.0 < 2 ^ 32 → m.1 < 2 ^ 32 → StartsNoNumber rest → text ≢ member_text m ++ rest

-- however the text is that of a log with what it names, the name is this one, and the rest is the log's text
abbrev pub SplitsNamed : List ℕ → LogHead → List ℕ → Type 0
SplitsNamed text head rest = (named : LogHead) (log : List (ℕ × ℕ)) → IsLog log → text ≡ named_log_text named log → (head ≡ named) × (rest ≡ log_text log)

-- The least step that a member put last may name.
abbrev pub next_from : ℕ → List (ℕ × ℕ) → ℕ
next_from low [] = low
next_from low (m ∷ log) = next_from (m.0 + 1) log
