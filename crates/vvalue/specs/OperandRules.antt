-- *trusted*: Operators by what becomes of their operands (IEEE 1364-2005, 5.4.1, table 5-22).
use Rattle.vbits.specs.declared.reduction.Reduction.TheVariants as reduction
use Rattle.vwords.specs.declared.operators.UnaryOperator.{UnaryOperator}
use Rattle.vwords.specs.declared.operators.UnaryOperator.TheVariants as unary
use Rattle.vwords.specs.declared.operators.BinaryOperator.{BinaryOperator}
use Rattle.vwords.specs.declared.operators.BinaryOperator.TheVariants as binary
use Rattle.vvalue.specs.declared.operand_rule.Shared.TheVariants as shared
use Rattle.vvalue.specs.declared.operand_rule.Compared.TheVariants as compared
use Rattle.vvalue.specs.declared.operand_rule.Logical.TheVariants as logical
use Rattle.vvalue.specs.declared.operand_rule.Shift.TheVariants as shift
use Rattle.vvalue.specs.declared.operand_rule.OperandRule.{OperandRule}
use Rattle.vvalue.specs.declared.operand_rule.OperandRule.TheVariants.{ContextDetermined, MaxSized, SelfDetermined, LeftContextDetermined}
use Rattle.vvalue.specs.declared.operand_rule.Sign.TheVariants as signs
use Rattle.vvalue.specs.declared.operand_rule.UnaryOperandRule.{UnaryOperandRule}
use Rattle.vvalue.specs.declared.operand_rule.UnaryOperandRule.TheVariants.{InContext, Reduced, LogicallyNegated}

abbrev pub operand_rule : BinaryOperator → OperandRule
operand_rule binary.Times = ContextDetermined shared.Times
operand_rule binary.Divide = ContextDetermined shared.Divide
operand_rule binary.Remainder = ContextDetermined shared.Remainder
operand_rule binary.Plus = ContextDetermined shared.Plus
operand_rule binary.Minus = ContextDetermined shared.Minus
operand_rule binary.ShiftLeft = LeftContextDetermined shift.Left
operand_rule binary.ShiftRight = LeftContextDetermined shift.Right
operand_rule binary.ShiftLeftSigned = LeftContextDetermined shift.Left
operand_rule binary.ShiftRightSigned = LeftContextDetermined shift.RightSigned
operand_rule binary.Less = MaxSized compared.Less
operand_rule binary.LessOrEqual = MaxSized compared.LessOrEqual
operand_rule binary.Greater = MaxSized compared.Greater
operand_rule binary.GreaterOrEqual = MaxSized compared.GreaterOrEqual
operand_rule binary.Equal = MaxSized compared.Equal
operand_rule binary.NotEqual = MaxSized compared.NotEqual
operand_rule binary.CaseEqual = MaxSized compared.CaseEqual
operand_rule binary.CaseNotEqual = MaxSized compared.CaseNotEqual
operand_rule binary.And = ContextDetermined shared.And
operand_rule binary.Xor = ContextDetermined shared.Xor
operand_rule binary.Xnor = ContextDetermined shared.Xnor
operand_rule binary.XorNot = ContextDetermined shared.Xnor
operand_rule binary.Or = ContextDetermined shared.Or
operand_rule binary.LogicalAnd = SelfDetermined logical.And
operand_rule binary.LogicalOr = SelfDetermined logical.Or

abbrev pub unary_operand_rule : UnaryOperator → UnaryOperandRule
unary_operand_rule unary.Plus = InContext signs.Plus
unary_operand_rule unary.Minus = InContext signs.Minus
unary_operand_rule unary.Not = LogicallyNegated
unary_operand_rule unary.Invert = InContext signs.Invert
unary_operand_rule unary.And = Reduced reduction.And
unary_operand_rule unary.Nand = Reduced reduction.Nand
unary_operand_rule unary.Or = Reduced reduction.Or
unary_operand_rule unary.Nor = Reduced reduction.Nor
unary_operand_rule unary.Xor = Reduced reduction.Xor
unary_operand_rule unary.Xnor = Reduced reduction.Xnor
unary_operand_rule unary.XorNot = Reduced reduction.Xnor
