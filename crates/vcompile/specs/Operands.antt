-- *internal*: The code of the operands of a design's actions: of the expression that an action's step evaluates first.
use Rattle.std.specs.Prelude.{List, map, Option, Some, None}
use Rattle.vdesign.specs.Design.{Variable}
use Rattle.vdesign.specs.declared.action.Action.{Action}
use Rattle.vdesign.specs.declared.action.Action.TheVariants.{Assign, Nonblocking, AssignDelayed, NonblockingDelayed, Test, While, Repeat, Delay, Wait, ContinuousAssign}
use Rattle.expression_code.specs.Guards.{GuardedCode, guarded_expression, guarded_right_side}

-- of an assignment its right side, at the bits of its targets; a condition, a count and an amount by themselves
abbrev pub operand_code : List Variable → Action → Option GuardedCode
operand_code variables (Assign targets value) = Some (guarded_right_side variables targets value)
operand_code variables (Nonblocking targets value) = Some (guarded_right_side variables targets value)
operand_code variables (AssignDelayed amount targets value) = Some (guarded_right_side variables targets value)
operand_code variables (NonblockingDelayed amount targets value) = Some (guarded_right_side variables targets value)
operand_code variables (ContinuousAssign targets value terms) = Some (guarded_right_side variables targets value)
operand_code variables (Test condition when_true otherwise) = Some (guarded_expression variables condition)
operand_code variables (While condition body) = Some (guarded_expression variables condition)
operand_code variables (Wait condition terms body) = Some (guarded_expression variables condition)
operand_code variables (Repeat count body) = Some (guarded_expression variables count)
operand_code variables (Delay amount body) = Some (guarded_expression variables amount)
operand_code variables _ = None

-- by place
abbrev pub operands_of : List Variable → List Action → List (Option GuardedCode)
operands_of variables actions = map (operand_code variables) actions
