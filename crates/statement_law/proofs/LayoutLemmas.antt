-- The action of a statement that takes a step, at the place at which the statement stands.
use Rattle.std.proofs.Common.{◌≡◌, ℕ, Bool, true, false, List, [], ◌∷◌, length, slice_get, Option, None, Some, Ok, refl}
use Rattle.vast.specs.NumberedExpressions as text
use Rattle.vast.specs.NumberedStatements.{TargetTree, DelayTree, TaskTree, print, idle, dump_file, dump_vars, dump, end_run, StatementTree, empty, block, assign, nonblocking, trigger, if_true, if_else, case_of, while_true, repeat_times, forever, for_loop, wait_for, delay, event, task, BranchTrees}
use Rattle.vwords.specs.declared.cases.CaseKind.{CaseKind}
use Rattle.vdesign.specs.Expressions.{ExpressionTree}
use Rattle.vdesign.specs.declared.action.Action.{Action}
use Rattle.vdesign.specs.declared.action.Action.TheVariants.{Trigger, Test, Case, While, Repeat, Forever, Delay, EventControl, Wait, Print, DumpVars, NoOperation}
use Rattle.vdesign.specs.declared.action.Branch.{Branch}
use Rattle.velab_expr.specs.Answers.{◌>>=◌}
use Rattle.velab_expr.specs.Scopes.{Scope, lower_event, event_of}
use Rattle.velab_expr.specs.Resolved.{no_parts, lower_expression, known_expression}
use Rattle.velab_expr.specs.Written.{lower_target, row_of}
use Rattle.velab_expr.specs.Selections.{lower_selection, selection_of}
use Rattle.velab_process.specs.Prints.{when_of, lower_line}
use Rattle.velab_process.specs.Waits.{any_of, names_in, lower_control}
use Rattle.velab_process.specs.Statements.{Table, Lowered, at_next, lower_amount, assignment_action, lower_assignment, dump_action, end_action, lower_task, lower_statement, lower_branches}
use Rattle.statement_law.specs.TreeSteps.{takes_step, amount_of, terms_of, line_for}
use Rattle.statement_law.specs.Standing.{IsFront, Stands}
use Rattle.statement_law.proofs.AnswerLemmas.{Told, told_of, told_value, told_made, told_next}
use Rattle.statement_law.proofs.GrowthLemmas.{front_of_front, front_before, last_stands, grown}

-- ---- the action of each form

-- this action, with the places at which its body stands
pub record HasBody (scope : Scope) (actions : List Action) (body : StatementTree) (action : List ℕ → Action) (place : ℕ) : Type 0 where
  pub places : List ℕ
  pub there : slice_get actions place ≡ Some (action places)
  pub stands : Stands scope actions body places

pub record HasBodies (scope : Scope) (actions : List Action) (condition : ExpressionTree) (body other : StatementTree) (place : ℕ) : Type 0 where
  pub places : List ℕ
  pub other_places : List ℕ
  pub there : slice_get actions place ≡ Some (Test condition places other_places)
  pub stands : Stands scope actions body places
  pub other_stands : Stands scope actions other other_places

pub record HasBranches (scope : Scope) (actions : List Action) (kind : CaseKind) (value : ExpressionTree) (branches : BranchTrees) (place : ℕ) : Type 0 where
  pub list : List Branch
  pub otherwise : List ℕ
  pub there : slice_get actions place ≡ Some (Case kind value list otherwise)
  pub start : Table
  pub table : Table
  pub lowered : lower_branches scope start branches ≡ Ok (record { table = table; branches = list; otherwise = otherwise })
  pub front : IsFront table.actions actions

abbrev pub own_of : Scope → Option DelayTree → Option ExpressionTree
own_of scope None = None
own_of scope (Some amount) = Some (amount_of scope amount)

abbrev pub task_action : Scope → TaskTree → Action
task_action scope (print kind arguments) = Print (when_of kind) (line_for scope kind arguments)
task_action scope (idle kind arguments) = NoOperation
task_action scope (dump_file letters) = NoOperation
task_action scope (dump_vars selected) = DumpVars (selection_of scope selected)
task_action scope (dump kind) = dump_action kind
task_action scope (end_run stops digits) = end_action stops

abbrev pub Laid : Scope → List Action → StatementTree → ℕ → Type 0
Laid scope actions empty place = Unit {0}
Laid scope actions (block label statements) place = Unit {0}
Laid scope actions (for_loop target value condition next_target next_value body) place = Unit {0}
Laid scope actions (assign target amount value) place =
    slice_get actions place ≡ Some (assignment_action true (own_of scope amount) (row_of scope target) (known_expression scope value))
Laid scope actions (nonblocking target amount value) place =
    slice_get actions place ≡ Some (assignment_action false (own_of scope amount) (row_of scope target) (known_expression scope value))
Laid scope actions (trigger letters) place = slice_get actions place ≡ Some (Trigger (event_of scope letters))
Laid scope actions (if_true condition body) place = HasBody scope actions body (λ places. Test (known_expression scope condition) places []) place
Laid scope actions (if_else condition body other) place = HasBodies scope actions (known_expression scope condition) body other place
Laid scope actions (case_of kind value branches) place = HasBranches scope actions kind (known_expression scope value) branches place
Laid scope actions (while_true condition body) place = HasBody scope actions body (While (known_expression scope condition)) place
Laid scope actions (repeat_times count body) place = HasBody scope actions body (Repeat (known_expression scope count)) place
Laid scope actions (forever body) place = HasBody scope actions body Forever place
Laid scope actions (wait_for condition body) place =
    HasBody scope actions body (Wait (known_expression scope condition) (any_of scope (names_in condition))) place
Laid scope actions (delay amount body) place = HasBody scope actions body (Delay (amount_of scope amount)) place
Laid scope actions (event control body) place = HasBody scope actions body (EventControl (terms_of scope control body)) place
Laid scope actions (task call) place = slice_get actions place ≡ Some (task_action scope call)

-- ---- it was put there

-- what was lowered is one place, of which this holds
pub record IsOne (Q : ℕ → Type 0) (lowered : Lowered) : Type 0 where
  pub place : ℕ
  pub one : lowered.places ≡ place ∷ []
  pub holds : Q place

abbrev pub Puts : List Action → (ℕ → Type 0) → Lowered → Type 0
Puts actions Q lowered = IsFront lowered.table.actions actions → IsOne Q lowered

module _ (scope : Scope) (actions : List Action) (table : Table) where
  puts_action : (number : Option ℕ) (action : Action) → Puts actions (λ place. slice_get actions place ≡ Some action) (at_next table number action)
  puts_action number action front = record { place = length table.actions; one = refl; holds = last_stands table.actions actions action front }

  puts_body : (body : StatementTree) (number : Option ℕ) (action : List ℕ → Action) →
      Told (Puts actions (HasBody scope actions body action)) (lower_statement scope table body >>= λ inner. Ok (at_next inner.table number (action inner.places)))
  puts_body body number action =
      told_next (Puts actions (HasBody scope actions body action)) (lower_statement scope table body) (λ inner. Ok (at_next inner.table number (action inner.places))) (λ inner is front. record {
        place = length inner.table.actions;
        one = refl;
        holds = record {
          places = inner.places;
          there = last_stands inner.table.actions actions (action inner.places) front;
          stands = record { start = table; table = inner.table; lowered = is; front = front_before inner.table.actions actions (action inner.places) front };
        };
      })

  puts_bodies : (body other : StatementTree) (number : Option ℕ) (condition : ExpressionTree) →
      Told (Puts actions (HasBodies scope actions condition body other))
      (lower_statement scope table body >>= λ one. lower_statement scope one.table other >>= λ two. Ok (at_next two.table number (Test condition one.places two.places)))
  puts_bodies body other number condition =
      told_next (Puts actions (HasBodies scope actions condition body other)) (lower_statement scope table body) _ (λ one is.
      told_next (Puts actions (HasBodies scope actions condition body other)) (lower_statement scope one.table other) _ (λ two same front.
      let behind : IsFront two.table.actions actions = front_before two.table.actions actions (Test condition one.places two.places) front in
      let between : IsFront one.table.actions two.table.actions = told_of (λ l. IsFront one.table.actions l.table.actions) (lower_statement scope one.table other) two same (grown scope one.table other) in
      record {
        place = length two.table.actions;
        one = refl;
        holds = record {
          places = one.places;
          other_places = two.places;
          there = last_stands two.table.actions actions (Test condition one.places two.places) front;
          stands = record { start = table; table = one.table; lowered = is; front = front_of_front one.table.actions two.table.actions actions between behind };
          other_stands = record { start = one.table; table = two.table; lowered = same; front = behind };
        };
      }))

  puts_branches : (kind : CaseKind) (value : ExpressionTree) (branches : BranchTrees) (number : Option ℕ) →
      Told (Puts actions (HasBranches scope actions kind value branches))
      (lower_branches scope table branches >>= λ inner. Ok (at_next inner.table number (Case kind value inner.branches inner.otherwise)))
  puts_branches kind value branches number =
      told_next (Puts actions (HasBranches scope actions kind value branches)) (lower_branches scope table branches) _ (λ inner is front. record {
        place = length inner.table.actions;
        one = refl;
        holds = record {
          list = inner.branches;
          otherwise = inner.otherwise;
          there = last_stands inner.table.actions actions (Case kind value inner.branches inner.otherwise) front;
          start = table;
          table = inner.table;
          lowered = is;
          front = front_before inner.table.actions actions (Case kind value inner.branches inner.otherwise) front;
        };
      })

  puts_assignment : (blocking : Bool) (target : TargetTree) (amount : Option DelayTree) (value : text.ExpressionTree) →
      Told (Puts actions (λ place. slice_get actions place ≡ Some (assignment_action blocking (own_of scope amount) (row_of scope target) (known_expression scope value))))
      (lower_assignment blocking scope table target amount value)
  puts_assignment blocking target None value =
      told_value (Puts actions _) [] (lower_target scope target) _
      (told_value (Puts actions _) no_parts (lower_expression scope value) _ (puts_action _ _))
  puts_assignment blocking target (Some amount) value =
      told_value (Puts actions _) [] (lower_target scope target) _
      (told_made (Puts actions _) Some no_parts (lower_amount scope amount) _
      (told_value (Puts actions _) no_parts (lower_expression scope value) _ (puts_action _ _)))

  puts_task : (call : TaskTree) → Told (Puts actions (λ place. slice_get actions place ≡ Some (task_action scope call))) (lower_task scope table call)
  puts_task (print kind arguments) = told_value (Puts actions _) [] (lower_line scope kind arguments) _ (puts_action _ _)
  puts_task (idle kind arguments) = puts_action None NoOperation
  puts_task (dump_file letters) = puts_action None NoOperation
  puts_task (dump_vars selected) = told_value (Puts actions _) [] (lower_selection scope selected) _ (puts_action _ _)
  puts_task (dump kind) = puts_action None (dump_action kind)
  puts_task (end_run stops digits) = puts_action None (end_action stops)

  pub puts : (statement : StatementTree) → takes_step statement ≡ true → Told (Puts actions (Laid scope actions statement)) (lower_statement scope table statement)
  puts empty step = absurd cc
  puts (block label statements) step = absurd cc
  puts (for_loop target value condition next_target next_value body) step = absurd cc
  puts (assign target amount value) step = puts_assignment true target amount value
  puts (nonblocking target amount value) step = puts_assignment false target amount value
  puts (trigger letters) step = told_value (Puts actions _) 0 (lower_event scope letters) _ (puts_action None _)
  puts (if_true condition body) step = told_value (Puts actions _) no_parts (lower_expression scope condition) _ (puts_body body _ (λ places. Test (known_expression scope condition) places []))
  puts (if_else condition body other) step = told_value (Puts actions _) no_parts (lower_expression scope condition) _ (puts_bodies body other _ (known_expression scope condition))
  puts (case_of kind value branches) step = told_value (Puts actions _) no_parts (lower_expression scope value) _ (puts_branches kind (known_expression scope value) branches _)
  puts (while_true condition body) step = told_value (Puts actions _) no_parts (lower_expression scope condition) _ (puts_body body _ (While (known_expression scope condition)))
  puts (repeat_times count body) step = told_value (Puts actions _) no_parts (lower_expression scope count) _ (puts_body body _ (Repeat (known_expression scope count)))
  puts (forever body) step = puts_body body _ Forever
  puts (wait_for condition body) step =
      told_value (Puts actions _) no_parts (lower_expression scope condition) _ (puts_body body _ (Wait (known_expression scope condition) (any_of scope (names_in condition))))
  puts (delay amount body) step = told_value (Puts actions _) no_parts (lower_amount scope amount) _ (puts_body body _ (Delay (amount_of scope amount)))
  puts (event control body) step = told_value (Puts actions _) [] (lower_control scope control body) _ (puts_body body _ (EventControl (terms_of scope control body)))
  puts (task call) step = puts_task call
