-- The path of the scope round a statement changes nothing of what the statement reads, nor what there is and which word is the first among the
-- arguments of a print task; and an item in an instance gives the same symbols.
use Rattle.std.proofs.Common.{◌≡◌, List, [], ◌∷◌, ◌++◌, map, None, Ok, refl, ap}
use Rattle.vwords.specs.Words.{Text}
use Rattle.vast.specs.NumberedWords.{Word}
use Rattle.vast.specs.NumberedStatements.{ArgumentTree, quoted, printed, left_out, TaskTree, print, idle, dump_file, dump_vars, dump, end_run, EventTree, by_event, by_any, by_any_enclosed, by_terms, StatementTree, StatementTrees, empty, block, assign, nonblocking, trigger, if_true, if_else, case_of, while_true, repeat_times, forever, for_loop, wait_for, delay, event, task, no_statement, first_statement, BranchTree, BranchTrees, labelled, default, no_branch, first_branch}
use Rattle.vast.specs.NumberedModules.{ItemTree, parameters, declaration, events, assignments, initial, always, instances}
use Rattle.vast.specs.TreeWords.{expression_words, argument_words}
use Rattle.std.specs.List.{flat_map}
use Rattle.vmodules.specs.Placed.{inside, placed_argument, placed_task, placed, placed_all, placed_branch, placed_branches, placed_item}
use Rattle.velab_expr.specs.FirstWords.{head, first_argument}
use Rattle.velab_expr.specs.Rules.{number_in}
use Rattle.velab_expr.specs.Scopes.{Scope}
use Rattle.velab_expr.specs.Symbols.{symbols_by}
use Rattle.velab_process.specs.Prints.{arguments_given}
use Rattle.velab_process.specs.Waits.{any_of, names_in, read_by_delay, read_by_assignment, read_by_argument, read_by_arguments, read_by_task, read_by_items, read_by, read_by_all, read_by_branch, read_by_branches, lower_control}

-- ---- what is read

argument_reads : (path : Text) (argument : ArgumentTree) → read_by_argument (placed_argument path argument) ≡ read_by_argument argument
argument_reads path (quoted word) = refl
argument_reads path (printed value) = refl
argument_reads path left_out = refl

arguments_read : (path : Text) (arguments : List ArgumentTree) → read_by_arguments (map (placed_argument path) arguments) ≡ read_by_arguments arguments
arguments_read path [] = refl
arguments_read path (one ∷ more) = λ i. argument_reads path one i ++ arguments_read path more i

task_reads : (path : Text) (call : TaskTree) → read_by_task (placed_task path call) ≡ read_by_task call
task_reads path (print kind arguments) = arguments_read path arguments
task_reads path (idle kind arguments) = refl
task_reads path (dump_file letters) = refl
task_reads path (dump_vars selection) = refl
task_reads path (dump kind) = refl
task_reads path (end_run stops digits) = refl

mutual
  reads : (path : Text) (s : StatementTree) → read_by (placed path s) ≡ read_by s
  reads path empty = refl
  reads path (block label list) = all_read (inside path label) list
  reads path (assign target amount value) = refl
  reads path (nonblocking target amount value) = refl
  reads path (trigger letters) = refl
  reads path (if_true condition body) = ap (λ (l : List Word). names_in condition ++ l) (reads path body)
  reads path (if_else condition body other) = λ i. names_in condition ++ (reads path body i ++ reads path other i)
  reads path (case_of kind value branches) = ap (λ (l : List Word). names_in value ++ l) (branches_read path branches)
  reads path (while_true condition body) = ap (λ (l : List Word). names_in condition ++ l) (reads path body)
  reads path (repeat_times count body) = ap (λ (l : List Word). names_in count ++ l) (reads path body)
  reads path (forever body) = reads path body
  reads path (for_loop target value condition next_target next_value body) =
      ap (λ (l : List Word). read_by_assignment target None value ++ (names_in condition ++ (read_by_assignment next_target None next_value ++ l))) (reads path body)
  reads path (wait_for condition body) = reads path body
  reads path (delay amount body) = ap (λ (l : List Word). read_by_delay amount ++ l) (reads path body)
  reads path (event control body) = reads path body
  reads path (task call) = task_reads path call

  all_read : (path : Text) (list : StatementTrees) → read_by_all (placed_all path list) ≡ read_by_all list
  all_read path no_statement = refl
  all_read path (first_statement one more) = λ i. reads path one i ++ all_read path more i

  branch_reads : (path : Text) (branch : BranchTree) → read_by_branch (placed_branch path branch) ≡ read_by_branch branch
  branch_reads path (labelled items body) = ap (λ (l : List Word). read_by_items items ++ l) (reads path body)
  branch_reads path (default colon body) = reads path body

  branches_read : (path : Text) (list : BranchTrees) → read_by_branches (placed_branches path list) ≡ read_by_branches list
  branches_read path no_branch = refl
  branches_read path (first_branch one more) = λ i. branch_reads path one i ++ branches_read path more i

-- so an event control listens to the same
pub control_placed : (path : Text) (scope : Scope) (control : EventTree) (body : StatementTree) → lower_control scope control (placed path body) ≡ lower_control scope control body
control_placed path scope (by_event letters) body = refl
control_placed path scope by_any body = ap (λ (l : List Word). Ok (any_of scope l)) (reads path body)
control_placed path scope by_any_enclosed body = ap (λ (l : List Word). Ok (any_of scope l)) (reads path body)
control_placed path scope (by_terms term further) body = refl

-- ---- arguments

pub given_placed : (path : Text) (arguments : List ArgumentTree) → map (placed_argument path) (arguments_given arguments) ≡ arguments_given (map (placed_argument path) arguments)
given_placed path [] = refl
given_placed path (quoted word ∷ []) = refl
given_placed path (printed value ∷ []) = refl
given_placed path (left_out ∷ []) = refl
given_placed path (one ∷ other ∷ more) = refl

same_behind : (front xs ys : List Word) → number_in (head xs) ≡ number_in (head ys) → number_in (head (front ++ xs)) ≡ number_in (head (front ++ ys))
same_behind [] xs ys same = same
same_behind (word ∷ front) xs ys same = refl

pub first_placed : (path : Text) (arguments : List ArgumentTree) → number_in (first_argument (map (placed_argument path) arguments)) ≡ number_in (first_argument arguments)
first_placed path [] = refl
first_placed path (quoted word ∷ more) = refl
first_placed path (printed value ∷ more) =
    same_behind (expression_words value) (flat_map argument_words (map (placed_argument path) more)) (flat_map argument_words more) (first_placed path more)
first_placed path (left_out ∷ more) = first_placed path more

-- ---- items

pub symbols_placed : (path : Text) (item : ItemTree) → symbols_by (placed_item path item) ≡ symbols_by item
symbols_placed path (parameters local type settings) = refl
symbols_placed path (declaration kind list) = refl
symbols_placed path (events names) = refl
symbols_placed path (assignments list) = refl
symbols_placed path (initial statement) = refl
symbols_placed path (always statement) = refl
symbols_placed path (instances letters overrides list) = refl
