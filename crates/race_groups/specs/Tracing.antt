-- *internal*: Words for logs that are traced to their causes, and for those of which it is known whom they blame.
use Rattle.std.specs.Prelude.{◌≡◌, ℕ, List, Option, Some, IfNone, IfSome}
use Rattle.std.specs.BTreeMap.{BTreeMap, get}
use Rattle.std.specs.Cmp.Lexicographic.{slice_cmp}
use Rattle.std.specs.Global.{Vec}
use Rattle.std.specs.Ordering.{nat_cmp, ordering_then}
use Rattle.std.specs.declared.cmp.Ordering.{Ordering}
use Rattle.vmodel.specs.Run.{Setting}
use Rattle.cause.specs.Causes.{HasNoCause, IsCause, IsTold}
use Rattle.cause.specs.declared.cause.Cause.{Cause}
use Rattle.race_groups.specs.Blame.{blamed_by}

-- in which runs logs are traced to their causes, and how many steps a slot may take there
pub record Tracing : Type 0 where
  pub setting : Setting
  pub steps : ℕ

-- what was found is the cause of the log: one, or none within the steps
abbrev pub IsTraced : Tracing → List (ℕ × ℕ) → Option Cause → Type 0
IsTraced tracing log cause = IfSome cause (IsCause tracing.setting log) × IfNone cause (HasNoCause tracing.setting log tracing.steps)

-- these two statements are blamed by what is told of the log
pub record IsBlamed (tracing : Tracing) (log : List (ℕ × ℕ)) (pair : Option (ℕ × ℕ)) : Type 0 where
  pub told : Option Cause
  pub is : IsTold tracing.setting log tracing.steps told
  pub blamed : blamed_by told ≡ pair

-- how members of logs, and logs are compared
abbrev pub member_cmp : ℕ × ℕ → ℕ × ℕ → Ordering
member_cmp one other = ordering_then (nat_cmp one.0 other.0) (nat_cmp one.1 other.1)

abbrev pub log_cmp : Vec (ℕ × ℕ) → Vec (ℕ × ℕ) → Ordering
log_cmp one other = slice_cmp member_cmp one.items other.items

-- so it is of each log in the table
abbrev pub AreBlamed : Tracing → BTreeMap (Vec (ℕ × ℕ)) (Option (ℕ × ℕ)) → Type 0
AreBlamed tracing pairs = (log : Vec (ℕ × ℕ)) (pair : Option (ℕ × ℕ)) → get log_cmp pairs log ≡ Some pair → IsBlamed tracing log.items pair
