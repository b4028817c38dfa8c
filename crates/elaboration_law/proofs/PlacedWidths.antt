-- The path of the scope that a print task stands in changes no size: strings have none.
use Rattle.std.proofs.Common.{◌≡◌, Bool, true, ◌&&◌, List, [], ◌∷◌, map, None, refl, ap}
use Rattle.std.specs.List.{list_all}
use Rattle.vwords.specs.Words.{Text}
use Rattle.vast.specs.NumberedStatements.{ArgumentTree, quoted, printed, left_out, TaskTree, print, idle, dump_file, dump_vars, dump, end_run, StatementTree, StatementTrees, empty, block, assign, nonblocking, trigger, if_true, if_else, case_of, while_true, repeat_times, forever, for_loop, wait_for, delay, event, task, no_statement, first_statement, BranchTree, BranchTrees, labelled, default, no_branch, first_branch}
use Rattle.vast.specs.NumberedModules.{ItemTree, parameters, declaration, events, assignments, initial, always, instances}
use Rattle.vmodules.specs.Placed.{inside, placed_argument, placed_task, placed, placed_all, placed_branch, placed_branches, placed_item}
use Rattle.elaboration_law.specs.Widths.{Worth, is_sized, are_sized}
use Rattle.elaboration_law.specs.WrongWidths.{is_sized_delay, is_sized_assignment, is_sized_argument, is_sized_task, is_sized_statement, are_sized_statements, is_sized_branch, are_sized_branches, is_sized_item}

module _ (named : Text → Worth) where
  argument_sized : (path : Text) (argument : ArgumentTree) → is_sized_argument named (placed_argument path argument) ≡ is_sized_argument named argument
  argument_sized path (quoted word) = refl
  argument_sized path (printed value) = refl
  argument_sized path left_out = refl

  arguments_sized : (path : Text) (list : List ArgumentTree) → list_all (is_sized_argument named) (map (placed_argument path) list) ≡ list_all (is_sized_argument named) list
  arguments_sized path [] = refl
  arguments_sized path (one ∷ more) = λ i. argument_sized path one i && arguments_sized path more i

  task_sized : (path : Text) (call : TaskTree) → is_sized_task named (placed_task path call) ≡ is_sized_task named call
  task_sized path (print kind arguments) = arguments_sized path arguments
  task_sized path (idle kind arguments) = refl
  task_sized path (dump_file letters) = refl
  task_sized path (dump_vars selection) = refl
  task_sized path (dump kind) = refl
  task_sized path (end_run stops digits) = refl

  mutual
    sized : (path : Text) (s : StatementTree) → is_sized_statement named (placed path s) ≡ is_sized_statement named s
    sized path empty = refl
    sized path (block label list) = statements_sized (inside path label) list
    sized path (assign target amount value) = refl
    sized path (nonblocking target amount value) = refl
    sized path (trigger letters) = refl
    sized path (if_true condition body) = ap (λ (b : Bool). is_sized named condition && b) (sized path body)
    sized path (if_else condition body other) = λ i. is_sized named condition && (sized path body i && sized path other i)
    sized path (case_of kind value branches) = ap (λ (b : Bool). is_sized named value && b) (branches_sized path branches)
    sized path (while_true condition body) = ap (λ (b : Bool). is_sized named condition && b) (sized path body)
    sized path (repeat_times count body) = ap (λ (b : Bool). is_sized named count && b) (sized path body)
    sized path (forever body) = sized path body
    sized path (for_loop target value condition next_target next_value body) =
        ap (λ (b : Bool). is_sized_assignment named target None value && (is_sized named condition && (b && is_sized_assignment named next_target None next_value))) (sized path body)
    sized path (wait_for condition body) = ap (λ (b : Bool). is_sized named condition && b) (sized path body)
    sized path (delay amount body) = ap (λ (b : Bool). is_sized_delay named amount && b) (sized path body)
    sized path (event control body) = sized path body
    sized path (task call) = task_sized path call

    statements_sized : (path : Text) (list : StatementTrees) → are_sized_statements named (placed_all path list) ≡ are_sized_statements named list
    statements_sized path no_statement = refl
    statements_sized path (first_statement one more) = λ i. sized path one i && statements_sized path more i

    branch_sized : (path : Text) (branch : BranchTree) → is_sized_branch named (placed_branch path branch) ≡ is_sized_branch named branch
    branch_sized path (labelled items body) = ap (λ (b : Bool). b && are_sized named items) (sized path body)
    branch_sized path (default colon body) = sized path body

    branches_sized : (path : Text) (list : BranchTrees) → are_sized_branches named (placed_branches path list) ≡ are_sized_branches named list
    branches_sized path no_branch = refl
    branches_sized path (first_branch one more) = λ i. branch_sized path one i && branches_sized path more i

  item_sized : (path : Text) (item : ItemTree) → is_sized_item named (placed_item path item) ≡ is_sized_item named item
  item_sized path (parameters local type settings) = refl
  item_sized path (declaration kind list) = refl
  item_sized path (events names) = refl
  item_sized path (assignments list) = refl
  item_sized path (initial statement) = ap (λ (b : Bool). b && true) (sized path statement)
  item_sized path (always statement) = ap (λ (b : Bool). b && true) (sized path statement)
  item_sized path (instances letters overrides list) = refl

  pub items_sized : (path : Text) (items : List ItemTree) → list_all (is_sized_item named) (map (placed_item path) items) ≡ list_all (is_sized_item named) items
  items_sized path [] = refl
  items_sized path (one ∷ more) = λ i. item_sized path one i && items_sized path more i
