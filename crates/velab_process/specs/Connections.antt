-- *trusted*: The processes that port connections make (IEEE 1364-2005, 12.3.9.2).
use Rattle.std.specs.Prelude.{if◌then◌else◌, List, [], ◌∷◌, length, Option, None, Some, Result, Ok}
use Rattle.vast.specs.NumberedWords.{Word}
use Rattle.vast.specs.NumberedExpressions as text
use Rattle.vast.specs.NumberedStatements.{TargetTree, whole}
use Rattle.vmodules.specs.Ports.{Port}
use Rattle.vmodules.specs.Connected.{NamedConnection, value_for}
use Rattle.vdesign.specs.declared.action.Action.{Action}
use Rattle.velab_expr.specs.declared.fault.ElabFault.{ElabFault}
use Rattle.vdesign.specs.declared.action.Action.TheVariants.{ContinuousAssign}
use Rattle.velab_expr.specs.declared.fault.Rule.TheVariants.{Ports}
use Rattle.velab_expr.specs.Answers.{◌>>=◌, refuse}
use Rattle.velab_expr.specs.Rules.{number_in}
use Rattle.velab_expr.specs.Scopes.{Scope}
use Rattle.velab_expr.specs.Resolved.{lower_expression}
use Rattle.velab_expr.specs.Written.{lower_net_target, target_of}
use Rattle.velab_process.specs.Waits.{any_of, names_in}
use Rattle.velab_process.specs.Statements.{Table, with_numbered}
use Rattle.velab_process.specs.Processes.{Processes, with_begins_before}

-- an input is driven by what stands outside
abbrev pub lower_input : Scope → Scope → Word → text.ExpressionTree → Result Action ElabFault
lower_input outer inner port value =
    lower_net_target inner (whole port) >>= λ targets.
    lower_expression outer value >>= λ e.
    Ok (ContinuousAssign targets e (any_of outer (names_in value)))

-- an output drives nets outside, or bits of them: what it is connected to is a name, a bit, a part, or a concatenation of such, or this is told by
-- the name of the instance
abbrev pub lower_output : Word → Scope → Scope → Word → Option TargetTree → Result Action ElabFault
lower_output whose outer inner port None = refuse Ports (Some whose)
lower_output whose outer inner port (Some target) =
    lower_net_target outer target >>= λ targets.
    lower_expression inner (text.name port) >>= λ e.
    Ok (ContinuousAssign targets e (any_of inner (port ∷ [])))

abbrev pub lower_connection : Word → Scope → Scope → Port → text.ExpressionTree → Result Action ElabFault
lower_connection whose outer inner p value =
    if p.output then lower_output whose outer inner p.name (target_of value) else lower_input outer inner p.name value

-- a process of one action
abbrev pub one_process : Table → Option Word → Action → Processes
one_process table word action =
    record { table = with_numbered table (number_in word) action; begins = (length table.actions ∷ []) ∷ [] }

-- a port that nothing is connected to makes no process; the others are told by the name of the instance
abbrev pub lower_join : Word → Scope → Scope → Table → Port → Option text.ExpressionTree → Result Processes ElabFault
lower_join whose outer inner table p None = Ok (record { table = table; begins = [] })
lower_join whose outer inner table p (Some value) =
    lower_connection whose outer inner p value >>= λ action. Ok (one_process table (Some whose) action)

abbrev pub lower_joins : Word → Scope → Scope → List NamedConnection → Table → List Port → Result Processes ElabFault
lower_joins whose outer inner connections table [] = Ok (record { table = table; begins = [] })
lower_joins whose outer inner connections table (p ∷ more) =
    lower_join whose outer inner table p (value_for connections p.name.letters) >>= λ front.
    with_begins_before front.begins (lower_joins whose outer inner connections front.table more)
