-- *trusted*: What assignments write to (IEEE 1364-2005, 5.1.14, 5.2.1, 6.2): targets of the text, lowered to those of a design.
use Rattle.std.specs.Prelude.{Bool, true, false, List, [], ◌∷◌, ◌++◌, Option, None, Some, option_map, Result, Ok}
use Rattle.vast.specs.NumberedExpressions as text
use Rattle.vast.specs.NumberedStatements.{TargetTree, TargetTrees, whole, bit, part, joined, none, first}
use Rattle.vdesign.specs.Expressions.{ExpressionTree}
use Rattle.vdesign.specs.declared.action.Target.{Target}
use Rattle.vdesign.specs.declared.action.Target.TheVariants.{Whole, Bit, Part}
use Rattle.vdesign.specs.declared.expression.Bounds.{Bounds}
use Rattle.velab_expr.specs.declared.fault.ElabFault.{ElabFault}
use Rattle.velab_expr.specs.Answers.{◌>>=◌, value_or}
use Rattle.velab_expr.specs.Scopes.{Scope, lower_variable}
use Rattle.velab_expr.specs.Constants.{part_bounds}
use Rattle.velab_expr.specs.Resolved.{lower_expression, lower_constant, lower_value}

-- the two bounds of a part are constants
abbrev pub lower_bounds : Scope → text.ExpressionTree → text.ExpressionTree → Result Bounds ElabFault
lower_bounds scope left right = lower_value scope left >>= λ high. lower_value scope right >>= λ low. Ok (part_bounds high low)

-- the place of a bit: where it is fixed, a constant
abbrev pub lower_index : Bool → Scope → text.ExpressionTree → Result ExpressionTree ElabFault
lower_index false scope index = lower_expression scope index
lower_index true scope index = lower_constant scope index

-- The targets in a row, the leftmost first: concatenations within stand in the same row (5.1.14). What is written is a variable; whether it
-- has such a bit or part is looked at in the finished design.
abbrev mutual
  pub lower_target_by : Bool → Scope → TargetTree → Result (List Target) ElabFault
  lower_target_by fixed scope (whole letters) = lower_variable scope letters >>= λ number. Ok (Whole number ∷ [])
  lower_target_by fixed scope (bit letters index) =
      lower_variable scope letters >>= λ number. lower_index fixed scope index >>= λ place. Ok (Bit number place ∷ [])
  lower_target_by fixed scope (part letters left right) =
      lower_variable scope letters >>= λ number. lower_bounds scope left right >>= λ bounds. Ok (Part number bounds ∷ [])
  lower_target_by fixed scope (joined targets) = lower_targets_by fixed scope targets

  pub lower_targets_by : Bool → Scope → TargetTrees → Result (List Target) ElabFault
  lower_targets_by fixed scope none = Ok []
  lower_targets_by fixed scope (first one more) =
      lower_target_by fixed scope one >>= λ front. lower_targets_by fixed scope more >>= λ others. Ok (front ++ others)

-- 9.2, table 6-1: what a process writes
abbrev pub lower_target : Scope → TargetTree → Result (List Target) ElabFault
lower_target scope target = lower_target_by false scope target

abbrev pub lower_targets : Scope → TargetTrees → Result (List Target) ElabFault
lower_targets scope targets = lower_targets_by false scope targets

-- 6.1, table 6-1: what a continuous assignment drives: a bit of a net goes by a constant
abbrev pub lower_net_target : Scope → TargetTree → Result (List Target) ElabFault
lower_net_target scope target = lower_target_by true scope target

abbrev pub both_of : Option TargetTree → Option TargetTrees → Option TargetTrees
both_of None more = None
both_of (Some one) None = None
both_of (Some one) (Some more) = Some (first one more)

-- 12.3.9: what an output is connected to, where it can be driven: a name, a bit, a part, or a concatenation of such
abbrev mutual
  pub target_of : text.ExpressionTree → Option TargetTree
  target_of (text.number digits) = None
  target_of (text.name letters) = Some (whole letters)
  target_of (text.time word) = None
  target_of (text.bit letters index) = Some (bit letters index)
  target_of (text.part letters left right) = Some (part letters left right)
  target_of (text.parentheses inner) = None
  target_of (text.concatenation parts) = option_map joined (targets_of parts)
  target_of (text.replication count parts) = None
  target_of (text.conversion signed inner) = None
  target_of (text.apply operator inner) = None
  target_of (text.combine operator left right) = None
  target_of (text.conditional condition when_true when_false) = None

  pub targets_of : text.ExpressionTrees → Option TargetTrees
  targets_of text.none = Some none
  targets_of (text.first one more) = both_of (target_of one) (targets_of more)

-- the targets, for those who know that there are some
abbrev pub row_of : Scope → TargetTree → List Target
row_of scope target = value_or [] (lower_target scope target)

abbrev pub net_row_of : Scope → TargetTree → List Target
net_row_of scope target = value_or [] (lower_net_target scope target)
