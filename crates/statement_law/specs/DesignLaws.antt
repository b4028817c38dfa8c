-- *trusted*: The statements with which each process of a design starts (IEEE 1364-2005, clause 12, 6.1, 9.9), by the trees of its text;
-- `statement_law` proves it.
use Rattle.std.specs.Prelude.{◌≡◌, ℕ, zero, suc, if◌then◌else◌, List, [], ◌∷◌, ◌++◌, Option, None, Some, Result, slice_get}
use Rattle.basis.specs.declared.timescale.Timescale.{Timescale}
use Rattle.vwords.specs.Words.{Text}
use Rattle.vast.specs.NumberedWords.{Word}
use Rattle.vast.specs.NumberedExpressions as text
use Rattle.vast.specs.NumberedStatements.{TargetTree, whole}
use Rattle.vast.specs.NumberedModules.{ModuleTree, SourceTree}
use Rattle.vmodules.specs.Hierarchy.{top_of}
use Rattle.vmodules.specs.Ports.{Port, ports_of}
use Rattle.vmodules.specs.Placed.{placed_items}
use Rattle.vmodules.specs.Connected.{NamedConnection, value_for}
use Rattle.vdesign.specs.Design.{Design}
use Rattle.velab_expr.specs.declared.fault.ElabFault.{ElabFault}
use Rattle.velab_expr.specs.Answers.{value_or}
use Rattle.velab_expr.specs.Scopes.{Scope}
use Rattle.velab_expr.specs.Written.{target_of}
use Rattle.vmodel.specs.Run.{Setting, state_after}
use Rattle.vhierarchy.specs.Instances.{PartialDesign, Context, Instantiation, lower_names, lower_instances, lower_own, child_context, elaborate_instance, nothing, no_scope, top_context, Elaborates}
use Rattle.statement_law.specs.TreeSteps.{driving}
use Rattle.statement_law.specs.RunLaws.{IsSomewhere}
use Rattle.statement_law.specs.Laws.{Begin, begins_in, AllStand}

-- ---- port connections (12.3.9.2)

abbrev pub drives : Scope → TargetTree → Scope → text.ExpressionTree → List Begin
drives outside target inside value = record { scope = inside; pending = driving outside target inside value ∷ [] } ∷ []

-- an output drives what it is connected to outside
abbrev pub output_begins : Scope → Scope → Word → Option TargetTree → List Begin
output_begins outer inner port None = []
output_begins outer inner port (Some target) = drives outer target inner (text.name port)

-- an input is driven by the value outside; what nothing is connected to makes no process
abbrev pub join_begins : Scope → Scope → Port → Option text.ExpressionTree → List Begin
join_begins outer inner p None = []
join_begins outer inner p (Some value) = if p.output then output_begins outer inner p.name (target_of value) else drives inner (whole p.name) outer value

abbrev pub joins_begin : Scope → Scope → List NamedConnection → List Port → List Begin
joins_begin outer inner connections [] = []
joins_begin outer inner connections (p ∷ more) =
    join_begins outer inner p (value_for connections p.name.letters) ++ joins_begin outer inner connections more

-- ---- instances (12.1)

-- those of its port connections, those of its ports' values (6.2.1), and those of its items
abbrev pub own_begins : Context → Scope → List Begin
own_begins context scope =
    joins_begin context.overrides.scope scope context.connections (ports_of context.unit) ++ begins_in scope (placed_items context.path context.unit)

-- of one instance after another, each behind what stands before
abbrev pub begins_each : (PartialDesign → Instantiation → Result PartialDesign ElabFault) → (PartialDesign → Instantiation → List Begin) → PartialDesign → List Instantiation → List Begin
begins_each step begins part [] = []
begins_each step begins part (one ∷ more) = begins part one ++ begins_each step begins (value_or part (step part one)) more

-- its own first, then those of the instances in it, in the order of the text
abbrev pub begins_below : ℕ → SourceTree → PartialDesign → Context → List Begin
begins_below zero modules part context = []
begins_below (suc levels) modules part context =
    let scope = value_or no_scope (lower_names part context) in
    let children = value_or [] (lower_instances modules 0 scope.known context.unit.items) in
    let own = value_or part (lower_own context (ports_of context.unit) scope part) in
    own_begins context scope
    ++ begins_each (λ so_far child. elaborate_instance levels modules so_far (child_context scope context child))
    (λ so_far child. begins_below levels modules so_far (child_context scope context child)) own children

abbrev pub begins_of_top : SourceTree → Option ModuleTree → List Begin
begins_of_top modules None = []
begins_of_top modules (Some m) = begins_below 16 modules nothing (top_context m)

-- one by one, the processes of a design begin before the processes of its text
abbrev pub DesignBegins : Type 0
DesignBegins = (modules : SourceTree) (top : Option Text) (scale : Timescale) (design : Design) → Elaborates modules top scale design →
    AllStand design.actions (begins_of_top modules (top_of modules top)) design.processes

-- so in every state of every run each of them stands before something, in the scope in which it began
abbrev pub StandsByText : Type 0
StandsByText = (modules : SourceTree) (top : Option Text) (scale : Timescale) (setting : Setting) (p : ℕ) (begin : Begin) (log : List (ℕ × ℕ)) (n : ℕ) →
    Elaborates modules top scale setting.design → slice_get (begins_of_top modules (top_of modules top)) p ≡ Some begin →
    IsSomewhere setting.design (state_after setting log n) p begin.scope
