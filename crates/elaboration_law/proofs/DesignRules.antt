-- The rules that a finished design tells.
use Rattle.std.proofs.Common.{◌≡◌, ℕ, nat_le, Bool, true, false, if◌then◌else◌, List, [], ◌∷◌, ◌++◌, drop, length, slice_get, Option, Some, None}
use Rattle.std.specs.Prelude.{option_map, unwrap_or}
use Rattle.std.specs.Option.{option_or}
use Rattle.vwords.specs.Words.{Text}
use Rattle.vast.specs.NumberedWords.{Word}
use Rattle.vmodules.specs.Names.{is_declared, has_double}
use Rattle.vdesign.specs.Design.{Variable}
use Rattle.vdesign.specs.declared.dump.Chosen.{Chosen}
use Rattle.vdesign.specs.declared.action.Action.{Action}
use Rattle.vdesign.specs.declared.action.Action.TheVariants.{Assign, Nonblocking, AssignDelayed, NonblockingDelayed, Trigger, Test, Case, While, Repeat, Forever, Delay, EventControl, Wait, ContinuousAssign, Print, DumpVars, Dump, NoOperation, Finish, Stop}
use Rattle.vvalue.specs.Value.{Environment}
use Rattle.vvalue.specs.declared.flaw.Flaw.{Flaw}
use Rattle.vvalue.specs.declared.flaw.Flaw.TheVariants.{NoBits, Size}
use Rattle.velab_expr.specs.declared.fault.Rule.{Rule}
use Rattle.velab_expr.specs.declared.fault.Rule.TheVariants.{Top, Doubled, Unknown, Drivers, Ports, Width, Constant, Depth, TooMany, Kind}
use Rattle.velab_expr.specs.declared.fault.ElabFault.{ElabFault}
use Rattle.velab_expr.specs.Rules.{rule_of, unless, broken_if}
use Rattle.velab_declaration.specs.Right.{writes_rightly, kind_rule}
use Rattle.velab_declaration.specs.ActionFlaws.{action_flaw, blank_environment, flaw_rule, table_fault}
use Rattle.velab_declaration.specs.Drives.{Place, driven_by, drives_again, drivers_fault}
use Rattle.vhierarchy.specs.Instances.{PartialDesign, variable_paths, scope_paths, broken_chosen, broken_selection, broken_paths, broken_table, broken_design}
use Rattle.elaboration_law.proofs.ToldLemmas.{TellsFault, TellsRule}

-- the rules that a finished design can break
abbrev pub is_of_design : Rule → Bool
is_of_design Top = false
is_of_design Doubled = true
is_of_design Unknown = true
is_of_design Drivers = true
is_of_design Ports = false
is_of_design Width = true
is_of_design Constant = false
is_of_design Depth = false
is_of_design TooMany = true
is_of_design Kind = true

-- and those that its table can
abbrev pub is_of_table : Rule → Bool
is_of_table Top = false
is_of_table Doubled = false
is_of_table Unknown = false
is_of_table Drivers = true
is_of_table Ports = false
is_of_table Width = true
is_of_table Constant = false
is_of_table Depth = false
is_of_table TooMany = true
is_of_table Kind = true

-- and the one of drivers alone
abbrev pub is_of_drivers : Rule → Bool
is_of_drivers Top = false
is_of_drivers Doubled = false
is_of_drivers Unknown = false
is_of_drivers Drivers = true
is_of_drivers Ports = false
is_of_drivers Width = false
is_of_drivers Constant = false
is_of_drivers Depth = false
is_of_drivers TooMany = false
is_of_drivers Kind = false

module _ (rules : Rule → Bool) where
  or_tells : (a b : Option ElabFault) → TellsFault rules a → TellsFault rules b → TellsFault rules (option_or a b)
  or_tells None b h k = k
  or_tells (Some fault) b h k = h

  pub table_tells : (rule : Action → Option Rule) → ((action : Action) → TellsRule rules (rule action)) → (actions : List Action) (words : List (Option ℕ)) →
      TellsFault rules (table_fault rule actions words)
  table_tells rule each [] words = tt
  table_tells rule each (action ∷ more) words =
      or_tells (option_map (λ r. record { rule = r; at = unwrap_or (slice_get words 0) None }) (rule action)) (table_fault rule more (drop 1 words))
      (by (rule action) (each action)) (table_tells rule each more (drop 1 words))
    where
      by : (r : Option Rule) → TellsRule rules r → TellsFault rules (option_map (λ r. record { rule = r; at = unwrap_or (slice_get words 0) None }) r)
      by None h = tt
      by (Some r) h = h

  -- one more driver than there may be
  pub drivers_tell : rules Drivers ≡ true → (now : Environment) (before : List Place) (actions : List Action) (words : List (Option ℕ)) → TellsFault rules (drivers_fault now before actions words)
  drivers_tell e now before [] words = tt
  drivers_tell e now before (action ∷ more) words = by (drives_again before (driven_by now action)) (drivers_tell e now (before ++ driven_by now action) more (drop 1 words))
    where
      by : (again : Bool) → TellsFault rules (drivers_fault now (before ++ driven_by now action) more (drop 1 words)) →
          TellsFault rules (if again then Some (record { rule = Drivers; at = unwrap_or (slice_get words 0) None }) else drivers_fault now (before ++ driven_by now action) more (drop 1 words))
      by true rest = e
      by false rest = rest

  pub broken_tells : (holds : Bool) (rule : Rule) (word : Option Word) → rules rule ≡ true → TellsFault rules (broken_if holds rule word)
  broken_tells true rule word e = e
  broken_tells false rule word e = tt

  pub unless_tells : (holds : Bool) (rule : Rule) (word : Option Word) → rules rule ≡ true → TellsFault rules (unless holds rule word)
  unless_tells true rule word e = tt
  unless_tells false rule word e = e

-- ---- what an action breaks

module _ (rules : Rule → Bool) (unknown : rules Unknown ≡ true) (kind : rules Kind ≡ true) where
  chosen_tells : (scopes variables : List Text) (list : List Chosen) → TellsRule rules (broken_chosen scopes variables list)
  chosen_tells scopes variables [] = tt
  chosen_tells scopes variables (one ∷ more) = by (is_declared scopes one.path) (is_declared variables one.path) (chosen_tells scopes variables more)
    where
      by : (is_scope is_variable : Bool) → TellsRule rules (broken_chosen scopes variables more) →
          TellsRule rules (option_or (if is_scope then None else Some (if is_variable then Kind else Unknown)) (broken_chosen scopes variables more))
      by true v rest = rest
      by false true rest = kind
      by false false rest = unknown

  pub selection_broken : (scopes variables : List Text) (action : Action) → TellsRule rules (broken_selection scopes variables action)
  selection_broken scopes variables (DumpVars selection) = chosen_tells scopes variables selection
  selection_broken scopes variables (Assign targets value) = tt
  selection_broken scopes variables (Nonblocking targets value) = tt
  selection_broken scopes variables (AssignDelayed amount targets value) = tt
  selection_broken scopes variables (NonblockingDelayed amount targets value) = tt
  selection_broken scopes variables (Trigger event) = tt
  selection_broken scopes variables (Test condition when_true otherwise) = tt
  selection_broken scopes variables (Case kind value branches otherwise) = tt
  selection_broken scopes variables (While condition body) = tt
  selection_broken scopes variables (Repeat count body) = tt
  selection_broken scopes variables (Forever body) = tt
  selection_broken scopes variables (Delay amount body) = tt
  selection_broken scopes variables (EventControl terms body) = tt
  selection_broken scopes variables (Wait condition terms body) = tt
  selection_broken scopes variables (ContinuousAssign targets value terms) = tt
  selection_broken scopes variables (Print when pieces) = tt
  selection_broken scopes variables (Dump command) = tt
  selection_broken scopes variables NoOperation = tt
  selection_broken scopes variables Finish = tt
  selection_broken scopes variables Stop = tt

  pub broken_paths_tell : (top : Word) (part : PartialDesign) → rules Doubled ≡ true → TellsFault rules (broken_paths top part)
  broken_paths_tell top part doubled =
      let scopes = scope_paths part in
      let paths = variable_paths part in
      let selections = table_fault (broken_selection scopes paths) part.table.actions part.table.words in
      let scoped = broken_if (has_double scopes) Doubled (Some top) in
      let named = broken_if (has_double paths) Doubled (Some top) in
      or_tells rules named (option_or scoped selections) (broken_tells rules (has_double paths) Doubled (Some top) doubled)
      (or_tells rules scoped selections (broken_tells rules (has_double scopes) Doubled (Some top) doubled)
      (table_tells rules (broken_selection scopes paths) (selection_broken scopes paths) part.table.actions part.table.words))

module _ (rules : Rule → Bool) (width : rules Width ≡ true) (kind : rules Kind ≡ true) where
  pub kind_broken : (variables : List Variable) (action : Action) → TellsRule rules (kind_rule variables action)
  kind_broken variables action = by (writes_rightly variables action)
    where
      by : (right : Bool) → TellsRule rules (if right then None else Some Kind)
      by true = tt
      by false = kind

  pub flaw_broken : (now : Environment) (action : Action) → TellsRule rules (flaw_rule now action)
  flaw_broken now action = by (action_flaw now action)
    where
      by : (flaw : Option Flaw) → TellsRule rules (option_map rule_of flaw)
      by None = tt
      by (Some NoBits) = kind
      by (Some Size) = width

  -- ---- of the whole

  pub broken_table_tells : rules Drivers ≡ true → (top : Word) (part : PartialDesign) → rules TooMany ≡ true → TellsFault rules (broken_table top part)
  broken_table_tells drivers top part many =
      let now = blank_environment part.variables in
      let kinds = table_fault (kind_rule part.variables) part.table.actions part.table.words in
      let flaws = table_fault (flaw_rule now) part.table.actions part.table.words in
      let driven = drivers_fault now [] part.table.actions part.table.words in
      let few = unless (nat_le (length part.begins) 256) TooMany (Some top) in
      or_tells rules few (option_or kinds (option_or flaws driven)) (unless_tells rules (nat_le (length part.begins) 256) TooMany (Some top) many)
      (or_tells rules kinds (option_or flaws driven)
      (table_tells rules (kind_rule part.variables) (kind_broken part.variables) part.table.actions part.table.words)
      (or_tells rules flaws driven
      (table_tells rules (flaw_rule now) (flaw_broken now) part.table.actions part.table.words)
      (drivers_tell rules drivers now [] part.table.actions part.table.words)))

module _ (rules : Rule → Bool) (unknown : rules Unknown ≡ true) (width : rules Width ≡ true) (kind : rules Kind ≡ true) (drivers : rules Drivers ≡ true) where
  pub design_tells : (top : Word) (part : PartialDesign) → rules Doubled ≡ true → rules TooMany ≡ true → TellsFault rules (broken_design top part)
  design_tells top part doubled many =
      or_tells rules (broken_paths top part) (broken_table top part) (broken_paths_tell rules unknown kind top part doubled) (broken_table_tells rules width kind drivers top part many)
