-- *internal*: How an expression stands in a list of nodes, and the parts of a concatenation.
use Rattle.std.specs.Prelude.{ℕ, zero, suc, false, List, ◌++◌, Result, Ok}
use Rattle.vdesign.specs.Expressions.{ExpressionTree}
use Rattle.vdesign.specs.Nodes.{nodes_of}
use Rattle.vdesign.specs.declared.expression.Node.{Node}
use Rattle.vdesign.specs.declared.expression.Node.TheVariants.{Conversion, Joined}
use Rattle.velab_expr.specs.Answers.{◌>>=◌}
use Rattle.velab_expr.specs.declared.fault.ElabFault.{ElabFault}

-- what stands before a part with so many behind it
abbrev pub before_part : ℕ → Node
before_part zero = Conversion false
before_part (suc more) = Joined

-- these nodes, and behind them those of an expression
abbrev pub nodes_behind : List Node → Result ExpressionTree ElabFault → Result (List Node) ElabFault
nodes_behind done answer = answer >>= λ tree. Ok (done ++ nodes_of tree)
