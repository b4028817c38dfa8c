-- *internal*: The operand of an action: the value of the expression that its step evaluates first.
use Rattle.vbits.specs.declared.bit4.Bit4.TheVariants.{X}
use Rattle.vbits.specs.Vectors.{Vector, filled}
use Rattle.vdesign.specs.declared.action.Action.{Action}
use Rattle.vdesign.specs.declared.action.Action.TheVariants.{Assign, Nonblocking, AssignDelayed, NonblockingDelayed, Test, While, Repeat, Delay, Wait, ContinuousAssign}
use Rattle.vvalue.specs.Value.{Environment, self_determined_value}
use Rattle.vmodel.specs.Value.{held_value}

-- of an assignment its right side, at the bits of its targets; a condition, a count and an amount by themselves; x, where there is none
abbrev pub operand : Environment → Action → Vector
operand now (Assign targets value) = held_value now targets value
operand now (Nonblocking targets value) = held_value now targets value
operand now (AssignDelayed amount targets value) = held_value now targets value
operand now (NonblockingDelayed amount targets value) = held_value now targets value
operand now (ContinuousAssign targets value terms) = held_value now targets value
operand now (Test condition when_true otherwise) = self_determined_value now condition
operand now (While condition body) = self_determined_value now condition
operand now (Wait condition terms body) = self_determined_value now condition
operand now (Repeat count body) = self_determined_value now count
operand now (Delay amount body) = self_determined_value now amount
operand now _ = filled 1 X
