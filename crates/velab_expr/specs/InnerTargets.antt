-- *internal*: The steps by which what is written to is lowered.
use Rattle.std.specs.Prelude.{Bool, List, [], ◌++◌, Result, Ok}
use Rattle.vast.specs.NumberedWords.{Word}
use Rattle.vast.specs.NumberedExpressions as text
use Rattle.vast.specs.NumberedStatements.{whole, bit, part}
use Rattle.vdesign.specs.declared.action.Target.{Target}
use Rattle.vdesign.specs.declared.action.Target.TheVariants.{Bit, Part}
use Rattle.velab_expr.specs.declared.fault.ElabFault.{ElabFault}
use Rattle.velab_expr.specs.Answers.{◌>>=◌}
use Rattle.velab_expr.specs.Scopes.{Scope, lower_variable}
use Rattle.velab_expr.specs.Written.{lower_index, lower_bounds, lower_net_target}

abbrev pub lower_bit : Bool → Scope → Word → text.ExpressionTree → Result Target ElabFault
lower_bit fixed scope letters index = lower_variable scope letters >>= λ number. lower_index fixed scope index >>= λ place. Ok (Bit number place)

abbrev pub lower_part : Scope → Word → text.ExpressionTree → text.ExpressionTree → Result Target ElabFault
lower_part scope letters left right = lower_variable scope letters >>= λ number. lower_bounds scope left right >>= λ bounds. Ok (Part number bounds)

-- what an output drives; what can't be driven is left out
abbrev mutual
  pub lower_connected : Scope → text.ExpressionTree → Result (List Target) ElabFault
  lower_connected scope (text.number digits) = Ok []
  lower_connected scope (text.name letters) = lower_net_target scope (whole letters)
  lower_connected scope (text.time word) = Ok []
  lower_connected scope (text.bit letters index) = lower_net_target scope (bit letters index)
  lower_connected scope (text.part letters left right) = lower_net_target scope (part letters left right)
  lower_connected scope (text.parentheses inner) = Ok []
  lower_connected scope (text.concatenation parts) = lower_all_connected scope parts
  lower_connected scope (text.replication count parts) = Ok []
  lower_connected scope (text.conversion signed inner) = Ok []
  lower_connected scope (text.apply operator inner) = Ok []
  lower_connected scope (text.combine operator left right) = Ok []
  lower_connected scope (text.conditional condition when_true when_false) = Ok []

  pub lower_all_connected : Scope → text.ExpressionTrees → Result (List Target) ElabFault
  lower_all_connected scope text.none = Ok []
  lower_all_connected scope (text.first one more) =
      lower_connected scope one >>= λ front. lower_all_connected scope more >>= λ others. Ok (front ++ others)
