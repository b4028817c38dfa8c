-- The processes of items and of port connections begin before their trees.
use Rattle.std.proofs.Common.{◌≡◌, ℕ, List, [], ◌∷◌, ◌++◌, Result, Ok, Err}
use Rattle.vast.specs.NumberedModules.{ItemTree}
use Rattle.vdesign.specs.declared.action.Action.{Action}
use Rattle.velab_expr.specs.declared.fault.ElabFault.{ElabFault}
use Rattle.velab_expr.specs.Symbols.{behind_item}
use Rattle.velab_expr.specs.Scopes.{Scope}
use Rattle.velab_expr.specs.Written.{lower_net_target}
use Rattle.velab_expr.specs.Resolved.{lower_expression}
use Rattle.velab_process.specs.Statements.{Table, Lowered}
use Rattle.velab_process.specs.Processes.{Processes, ProcessTree, procedural, continuous, with_begins_before, process_trees_by, lower_process, lower_processes, lower_items}
use Rattle.vmodel.specs.Step.{frames}
use Rattle.statement_law.specs.TreeSteps.{driving, begin_of}
use Rattle.statement_law.specs.Standing.{IsFront, StandAt}
use Rattle.statement_law.specs.Laws.{Begin, begins_of, begins_in, AllStand}
use Rattle.statement_law.proofs.AnswerLemmas.{Told, told_of, told_next, told_then, told_by}
use Rattle.statement_law.proofs.GrowthLemmas.{front_of_itself, front_of_front, front_of_more, last_stands, Grown, grown}
use Rattle.statement_law.proofs.StandingLemmas.{stands_before}

abbrev pub GrownProcesses : Table → Processes → Type 0
GrownProcesses table processes = IsFront table.actions processes.table.actions

pub told_begins : (P : Processes → Type 0) (begins : List (List ℕ)) (answer : Result Processes ElabFault) →
    Told (λ l. P (record { table = l.table; begins = begins ++ l.begins })) answer → Told P (with_begins_before begins answer)
told_begins P begins (Ok l) told = told
told_begins P begins (Err fault) told = tt

-- ---- tables grow

grown_process : (scope : Scope) (table : Table) (process : ProcessTree) → Told (Grown table) (lower_process scope table process)
grown_process scope table (procedural statement) = grown scope table statement
grown_process scope table (continuous target value) =
    told_next (Grown table) (lower_net_target scope target) _ (λ targets is.
    told_next (Grown table) (lower_expression scope value) _ (λ e same. front_of_more table.actions _))

further : (table inner : Table) (answer : Result Processes ElabFault) → IsFront table.actions inner.actions → Told (GrownProcesses inner) answer → Told (GrownProcesses table) answer
further table inner answer front told =
    told_by (GrownProcesses inner) (GrownProcesses table) answer told (λ l is more. front_of_front table.actions inner.actions l.table.actions front more)

grown_processes : (scope : Scope) (table : Table) (list : List ProcessTree) → Told (GrownProcesses table) (lower_processes scope table list)
grown_processes scope table [] = front_of_itself table.actions
grown_processes scope table (process ∷ rest) =
    told_then (Grown table) (GrownProcesses table) (lower_process scope table process) _ (grown_process scope table process) (λ front more.
    told_begins (GrownProcesses table) (front.places ∷ []) (lower_processes scope front.table rest)
    (further table front.table (lower_processes scope front.table rest) more (grown_processes scope front.table rest)))

pub grown_items : (scope : Scope) (table : Table) (items : List ItemTree) → Told (GrownProcesses table) (lower_items scope table items)
grown_items scope table [] = front_of_itself table.actions
grown_items scope table (item ∷ more) =
    told_then (GrownProcesses table) (GrownProcesses table) (lower_processes scope table (process_trees_by item)) _ (grown_processes scope table (process_trees_by item)) (λ front grows.
    told_begins (GrownProcesses table) front.begins (lower_items (behind_item scope item) front.table more)
    (further table front.table (lower_items (behind_item scope item) front.table more) grows (grown_items (behind_item scope item) front.table more)))

-- ---- where they stand

module _ (actions : List Action) where
  pub both_stand : (ones others : List Begin) (ps qs : List (List ℕ)) → AllStand actions ones ps → AllStand actions others qs → AllStand actions (ones ++ others) (ps ++ qs)
  both_stand [] others [] qs first second = second
  both_stand [] others (p ∷ ps) qs first second = absurd first
  both_stand (b ∷ bs) others [] qs first second = absurd first
  both_stand (b ∷ bs) others (p ∷ ps) qs first second = (first.0, both_stand bs others ps qs first.1 second)

  abbrev Begun : List Begin → Processes → Type 0
  Begun begins processes = IsFront processes.table.actions actions → AllStand actions begins processes.begins

  process_begins : (scope : Scope) (table : Table) (process : ProcessTree) →
      Told (λ l. IsFront l.table.actions actions → StandAt scope actions (begin_of scope process) (frames l.places [])) (lower_process scope table process)
  process_begins scope table (procedural statement) = stands_before scope actions table statement [] [] tt
  process_begins scope table (continuous target value) =
      let P : Lowered → Type 0 = λ l. IsFront l.table.actions actions → StandAt scope actions (driving scope target scope value ∷ []) (frames l.places []) in
      told_next P (lower_net_target scope target) _ (λ targets is.
      told_next P (lower_expression scope value) _ (λ e same front.
      (record { targets = targets; e = e; driven = is; lowered = same; there = last_stands table.actions actions _ front }, tt)))

  processes_begin : (scope : Scope) (table : Table) (list : List ProcessTree) → Told (Begun (begins_of scope list)) (lower_processes scope table list)
  processes_begin scope table [] = λ front. tt
  processes_begin scope table (process ∷ rest) =
      told_next (Begun (begins_of scope (process ∷ rest))) (lower_process scope table process) _ (λ one is.
      told_begins (Begun (begins_of scope (process ∷ rest))) (one.places ∷ []) (lower_processes scope one.table rest)
      (told_by (Begun (begins_of scope rest)) _ (lower_processes scope one.table rest) (processes_begin scope one.table rest) (λ l same begun front.
      let between : IsFront one.table.actions l.table.actions = told_of (GrownProcesses one.table) (lower_processes scope one.table rest) l same (grown_processes scope one.table rest) in (
        told_of (λ l. IsFront l.table.actions actions → StandAt scope actions (begin_of scope process) (frames l.places [])) (lower_process scope table process) one is
            (process_begins scope table process) (front_of_front one.table.actions l.table.actions actions between front),
        begun front,
      ))))

  pub items_begin : (scope : Scope) (table : Table) (items : List ItemTree) → Told (Begun (begins_in scope items)) (lower_items scope table items)
  items_begin scope table [] = λ front. tt
  items_begin scope table (item ∷ more) =
      told_next (Begun (begins_in scope (item ∷ more))) (lower_processes scope table (process_trees_by item)) _ (λ one is.
      told_begins (Begun (begins_in scope (item ∷ more))) one.begins (lower_items (behind_item scope item) one.table more)
      (told_by (Begun (begins_in (behind_item scope item) more)) _ (lower_items (behind_item scope item) one.table more) (items_begin (behind_item scope item) one.table more) (λ l same begun front.
      let between : IsFront one.table.actions l.table.actions =
      told_of (GrownProcesses one.table) (lower_items (behind_item scope item) one.table more) l same (grown_items (behind_item scope item) one.table more) in
      both_stand (begins_of scope (process_trees_by item)) (begins_in (behind_item scope item) more) one.begins l.begins
      (told_of (Begun (begins_of scope (process_trees_by item))) (lower_processes scope table (process_trees_by item)) one is (processes_begin scope table (process_trees_by item))
      (front_of_front one.table.actions l.table.actions actions between front)) (begun front))))

  pub items_stand : (scope : Scope) (table : Table) (items : List ItemTree) (processes : Processes) → lower_items scope table items ≡ Ok processes →
      IsFront processes.table.actions actions → AllStand actions (begins_in scope items) processes.begins
  items_stand scope table items processes is front =
      told_of (Begun (begins_in scope items)) (lower_items scope table items) processes is (items_begin scope table items) front
