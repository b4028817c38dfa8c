-- The table only grows: what stood on it stands there still, in front.
use Rattle.std.proofs.Common.{◌≡◌, ℕ, Bool, true, false, List, [], ◌∷◌, ◌++◌, length, slice_get, Option, None, Some, Result, Ok, refl, sym, ap, ◌∙◌, append_assoc, append-nil}
use Rattle.basis.proofs.Lists.{stands_in_front, stands_last}
use Rattle.vast.specs.NumberedExpressions as text
use Rattle.vast.specs.NumberedStatements.{TargetTree, DelayTree, TaskTree, print, idle, dump_file, dump_vars, dump, end_run, StatementTree, StatementTrees, empty, block, assign, nonblocking, trigger, if_true, if_else, case_of, while_true, repeat_times, forever, for_loop, wait_for, delay, event, task, no_statement, first_statement, BranchTree, BranchTrees, labelled, default, no_branch, first_branch}
use Rattle.vdesign.specs.declared.action.Action.{Action}
use Rattle.velab_expr.specs.declared.fault.ElabFault.{ElabFault}
use Rattle.velab_expr.specs.Answers.{◌>>=◌}
use Rattle.velab_expr.specs.Scopes.{Scope, lower_event}
use Rattle.velab_expr.specs.Resolved.{lower_expression}
use Rattle.velab_expr.specs.Written.{lower_target}
use Rattle.velab_expr.specs.Selections.{lower_selection}
use Rattle.velab_process.specs.Prints.{lower_line}
use Rattle.velab_process.specs.Waits.{lower_control}
use Rattle.velab_process.specs.Statements.{Table, Lowered, LoweredBranches, at_next, with_places_before, lower_amount, lower_own_amount, lower_assignment, lower_task, lower_labels, lower_statement, lower_all, lower_branch, lower_branches}
use Rattle.statement_law.specs.Standing.{IsFront}
use Rattle.statement_law.proofs.AnswerLemmas.{Told, told_next, told_then, told_by, told_places, told_branches}

-- ---- fronts

pub front_of_itself : (xs : List Action) → IsFront xs xs
front_of_itself xs = record { others = []; whole = sym (append-nil xs) }

pub front_of_front : (xs ys zs : List Action) → IsFront xs ys → IsFront ys zs → IsFront xs zs
front_of_front xs ys zs one other = record {
  others = one.others ++ other.others;
  whole = other.whole ∙ ap (λ front. front ++ other.others) one.whole ∙ append_assoc xs one.others other.others;
}

-- one action more
pub front_of_more : (xs : List Action) (a : Action) → IsFront xs (xs ++ a ∷ [])
front_of_more xs a = record { others = a ∷ []; whole = refl }

pub front_before : (xs zs : List Action) (a : Action) → IsFront (xs ++ a ∷ []) zs → IsFront xs zs
front_before xs zs a front = front_of_front xs (xs ++ a ∷ []) zs (front_of_more xs a) front

-- the last action of a front stands at its place
pub last_stands : (xs all : List Action) (a : Action) → IsFront (xs ++ a ∷ []) all → slice_get all (length xs) ≡ Some a
last_stands xs all a front =
    ap (λ list. slice_get list (length xs)) front.whole
    ∙ stands_in_front (xs ++ a ∷ []) front.others (length xs) a (stands_last xs a)

-- ---- what statements add

abbrev pub Grown : Table → Lowered → Type 0
Grown table lowered = IsFront table.actions lowered.table.actions

abbrev pub GrownBranches : Table → LoweredBranches → Type 0
GrownBranches table lowered = IsFront table.actions lowered.table.actions

one_more : (table inner : Table) (number : Option ℕ) (action : Action) → IsFront table.actions inner.actions → Grown table (at_next inner number action)
one_more table inner number action front =
    front_of_front table.actions inner.actions (inner.actions ++ action ∷ []) front (front_of_more inner.actions action)

module _ (table : Table) where
  -- an action behind what has grown
  grown_action : (answer : Result Lowered ElabFault) (number : Option ℕ) (action : Lowered → Action) → Told (Grown table) answer →
      Told (Grown table) (answer >>= λ l. Ok (at_next l.table number (action l)))
  grown_action answer number action grown =
      told_then (Grown table) (Grown table) answer (λ l. Ok (at_next l.table number (action l))) grown (λ l more. one_more table l.table number (action l) more)

  grown_case : (answer : Result LoweredBranches ElabFault) (number : Option ℕ) (action : LoweredBranches → Action) → Told (GrownBranches table) answer →
      Told (Grown table) (answer >>= λ l. Ok (at_next l.table number (action l)))
  grown_case answer number action grown =
      told_then (GrownBranches table) (Grown table) answer (λ l. Ok (at_next l.table number (action l))) grown (λ l more. one_more table l.table number (action l) more)

  grown_places : (places : List ℕ) (answer : Result Lowered ElabFault) → Told (Grown table) answer → Told (Grown table) (with_places_before places answer)
  grown_places places answer grown = told_places (Grown table) places answer grown

  -- what has grown from a table that had grown
  grown_further : (inner : Table) (answer : Result Lowered ElabFault) → IsFront table.actions inner.actions → Told (Grown inner) answer → Told (Grown table) answer
  grown_further inner answer front grown =
      told_by (Grown inner) (Grown table) answer grown (λ l is more. front_of_front table.actions inner.actions l.table.actions front more)

  grown_branches_further : (inner : Table) (answer : Result LoweredBranches ElabFault) → IsFront table.actions inner.actions →
      Told (GrownBranches inner) answer → Told (GrownBranches table) answer
  grown_branches_further inner answer front grown =
      told_by (GrownBranches inner) (GrownBranches table) answer grown (λ l is more. front_of_front table.actions inner.actions l.table.actions front more)

grown_assignment : (blocking : Bool) (scope : Scope) (table : Table) (target : TargetTree) (amount : Option DelayTree) (value : text.ExpressionTree) →
    Told (Grown table) (lower_assignment blocking scope table target amount value)
grown_assignment blocking scope table target amount value =
    told_next (Grown table) (lower_target scope target) _ (λ targets t.
    told_next (Grown table) (lower_own_amount scope amount) _ (λ own d.
    told_next (Grown table) (lower_expression scope value) _ (λ e v. front_of_more table.actions _)))

grown_task : (scope : Scope) (table : Table) (call : TaskTree) → Told (Grown table) (lower_task scope table call)
grown_task scope table (print kind arguments) = told_next (Grown table) (lower_line scope kind arguments) _ (λ pieces is. front_of_more table.actions _)
grown_task scope table (idle kind arguments) = front_of_more table.actions _
grown_task scope table (dump_file letters) = front_of_more table.actions _
grown_task scope table (dump_vars selection) = told_next (Grown table) (lower_selection scope selection) _ (λ chosen is. front_of_more table.actions _)
grown_task scope table (dump kind) = front_of_more table.actions _
grown_task scope table (end_run stops digits) = front_of_more table.actions _

mutual
  pub grown : (scope : Scope) (table : Table) (statement : StatementTree) → Told (Grown table) (lower_statement scope table statement)
  grown scope table empty = front_of_itself table.actions
  grown scope table (block label statements) = grown_all scope table statements
  grown scope table (assign target amount value) = grown_assignment true scope table target amount value
  grown scope table (nonblocking target amount value) = grown_assignment false scope table target amount value
  grown scope table (trigger letters) = told_next (Grown table) (lower_event scope letters) _ (λ e is. front_of_more table.actions _)
  grown scope table (if_true condition body) =
      told_next (Grown table) (lower_expression scope condition) _ (λ test is. grown_action table (lower_statement scope table body) _ _ (grown scope table body))
  grown scope table (if_else condition body other) =
      told_next (Grown table) (lower_expression scope condition) _ (λ test is.
      told_then (Grown table) (Grown table) (lower_statement scope table body) _ (grown scope table body) (λ one more.
      grown_action table (lower_statement scope one.table other) _ _ (grown_further table one.table (lower_statement scope one.table other) more (grown scope one.table other))))
  grown scope table (case_of kind value branches) =
      told_next (Grown table) (lower_expression scope value) _ (λ e is. grown_case table (lower_branches scope table branches) _ _ (grown_branches scope table branches))
  grown scope table (while_true condition body) =
      told_next (Grown table) (lower_expression scope condition) _ (λ test is. grown_action table (lower_statement scope table body) _ _ (grown scope table body))
  grown scope table (repeat_times count body) =
      told_next (Grown table) (lower_expression scope count) _ (λ turns is. grown_action table (lower_statement scope table body) _ _ (grown scope table body))
  grown scope table (forever body) = grown_action table (lower_statement scope table body) _ _ (grown scope table body)
  grown scope table (for_loop target value condition next_target next_value body) =
      told_then (Grown table) (Grown table) (lower_assignment true scope table target None value) _ (grown_assignment true scope table target None value) (λ first more.
      grown_places table first.places _
      (
      told_next (Grown table) (lower_expression scope condition) _ (λ test is.
      told_then (Grown table) (Grown table) (lower_statement scope first.table body) _
      (grown_further table first.table (lower_statement scope first.table body) more (grown scope first.table body)) (λ inner inside.
      grown_action table (with_places_before inner.places (lower_assignment true scope inner.table next_target None next_value)) _ _
      (grown_further table inner.table _ inside
      (grown_places inner.table inner.places (lower_assignment true scope inner.table next_target None next_value) (grown_assignment true scope inner.table next_target None next_value)))))
      ))
  grown scope table (wait_for condition body) =
      told_next (Grown table) (lower_expression scope condition) _ (λ test is. grown_action table (lower_statement scope table body) _ _ (grown scope table body))
  grown scope table (delay amount body) =
      told_next (Grown table) (lower_amount scope amount) _ (λ e is. grown_action table (lower_statement scope table body) _ _ (grown scope table body))
  grown scope table (event control body) =
      told_next (Grown table) (lower_control scope control body) _ (λ terms is. grown_action table (lower_statement scope table body) _ _ (grown scope table body))
  grown scope table (task call) = grown_task scope table call

  pub grown_all : (scope : Scope) (table : Table) (statements : StatementTrees) → Told (Grown table) (lower_all scope table statements)
  grown_all scope table no_statement = front_of_itself table.actions
  grown_all scope table (first_statement statement rest) =
      told_then (Grown table) (Grown table) (lower_statement scope table statement) _ (grown scope table statement) (λ front more.
      grown_places table front.places (lower_all scope front.table rest) (grown_further table front.table (lower_all scope front.table rest) more (grown_all scope front.table rest)))

  pub grown_branch : (scope : Scope) (table : Table) (branch : BranchTree) → Told (GrownBranches table) (lower_branch scope table branch)
  grown_branch scope table (labelled items body) =
      told_then (Grown table) (GrownBranches table) (lower_statement scope table body) _ (grown scope table body) (λ inner more.
      told_next (GrownBranches table) (lower_labels scope inner.places items) _ (λ branches is. more))
  grown_branch scope table (default colon body) =
      told_then (Grown table) (GrownBranches table) (lower_statement scope table body) _ (grown scope table body) (λ inner more. more)

  pub grown_branches : (scope : Scope) (table : Table) (branches : BranchTrees) → Told (GrownBranches table) (lower_branches scope table branches)
  grown_branches scope table no_branch = front_of_itself table.actions
  grown_branches scope table (first_branch branch rest) =
      told_then (GrownBranches table) (GrownBranches table) (lower_branch scope table branch) _ (grown_branch scope table branch) (λ front more.
      told_branches (GrownBranches table) front.branches front.otherwise (lower_branches scope front.table rest)
      (grown_branches_further table front.table (lower_branches scope front.table rest) more (grown_branches scope front.table rest)))
