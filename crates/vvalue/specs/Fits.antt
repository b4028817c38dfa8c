-- *internal*: Sizes that vectors may have, and operands of one size: what the functions over vectors ask of each other.
use Rattle.std.specs.Prelude.{◌≡◌, ◌≤◌, length}
use Rattle.vbits.specs.Vectors.{Vector}
use Rattle.vvalue.specs.declared.size_and_sign.SizeAndSign.{SizeAndSign}
use Rattle.vvalue.specs.declared.operand_rule.OperandRule.{OperandRule}
use Rattle.vvalue.specs.declared.operand_rule.OperandRule.TheVariants.{ContextDetermined, MaxSized, SelfDetermined, LeftContextDetermined}

pub record IsWithin (here : SizeAndSign) : Type 0 where
  pub some : 1 ≤ here.size
  pub few : here.size ≤ 64

abbrev pub AreFit : OperandRule → Vector → Vector → Type 0
AreFit (ContextDetermined operator) v w = length v.letters ≡ length w.letters
AreFit (MaxSized operator) v w = length v.letters ≡ length w.letters
AreFit (SelfDetermined operator) v w = Unit {0}
AreFit (LeftContextDetermined operator) v w = Unit {0}

-- the sizes of operands that have one size
abbrev pub HaveOneSize : OperandRule → SizeAndSign → SizeAndSign → Type 0
HaveOneSize (ContextDetermined operator) left right = left.size ≡ right.size
HaveOneSize (MaxSized operator) left right = left.size ≡ right.size
HaveOneSize (SelfDetermined operator) left right = Unit {0}
HaveOneSize (LeftContextDetermined operator) left right = Unit {0}
