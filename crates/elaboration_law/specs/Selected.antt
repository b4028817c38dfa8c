-- *trusted*: The paths that `$dumpvars` names in statements (IEEE 1364-2005, 12.5, 18.1.2).
use Rattle.std.specs.Prelude.{List, [], ◌∷◌, ◌++◌, map, Option, None, Some}
use Rattle.std.specs.List.{flat_map}
use Rattle.vwords.specs.Words.{Text}
use Rattle.vast.specs.NumberedWords.{Word}
use Rattle.vast.specs.NumberedStatements.{SelectionTree, TaskTree, print, idle, dump_file, dump_vars, dump, end_run, StatementTree, StatementTrees, empty, block, assign, nonblocking, trigger, if_true, if_else, case_of, while_true, repeat_times, forever, for_loop, wait_for, delay, event, task, no_statement, first_statement, BranchTree, BranchTrees, labelled, default, no_branch, first_branch}
use Rattle.vast.specs.NumberedModules.{ItemTree}
use Rattle.vmodules.specs.Placed.{placed_items}
use Rattle.velab_expr.specs.Selections.{dotted_path}
use Rattle.velab_process.specs.Processes.{ProcessTree, procedural, continuous, process_trees_by}
use Rattle.elaboration_law.specs.Hierarchy.{Instance}

-- with a number alone the top is meant, by this name (own)
abbrev pub paths_of : Text → List (List Word) → List Text
paths_of top [] = top ∷ []
paths_of top (path ∷ more) = map dotted_path (path ∷ more)

abbrev pub paths_in : Text → Option SelectionTree → List Text
paths_in top None = []
paths_in top (Some selection) = paths_of top selection.paths

abbrev pub paths_in_task : Text → TaskTree → List Text
paths_in_task top (print kind arguments) = []
paths_in_task top (idle kind arguments) = []
paths_in_task top (dump_file letters) = []
paths_in_task top (dump_vars selection) = paths_in top selection
paths_in_task top (dump kind) = []
paths_in_task top (end_run stops digits) = []

abbrev mutual
  pub paths_by : Text → StatementTree → List Text
  paths_by top empty = []
  paths_by top (block label statements) = paths_by_all top statements
  paths_by top (assign target amount value) = []
  paths_by top (nonblocking target amount value) = []
  paths_by top (trigger letters) = []
  paths_by top (if_true condition body) = paths_by top body
  paths_by top (if_else condition body other) = paths_by top body ++ paths_by top other
  paths_by top (case_of kind value branches) = paths_by_branches top branches
  paths_by top (while_true condition body) = paths_by top body
  paths_by top (repeat_times count body) = paths_by top body
  paths_by top (forever body) = paths_by top body
  paths_by top (for_loop target value condition next_target next_value body) = paths_by top body
  paths_by top (wait_for condition body) = paths_by top body
  paths_by top (delay amount body) = paths_by top body
  paths_by top (event control body) = paths_by top body
  paths_by top (task call) = paths_in_task top call

  pub paths_by_all : Text → StatementTrees → List Text
  paths_by_all top no_statement = []
  paths_by_all top (first_statement statement rest) = paths_by top statement ++ paths_by_all top rest

  pub paths_by_branch : Text → BranchTree → List Text
  paths_by_branch top (labelled items body) = paths_by top body
  paths_by_branch top (default colon body) = paths_by top body

  pub paths_by_branches : Text → BranchTrees → List Text
  paths_by_branches top no_branch = []
  paths_by_branches top (first_branch branch rest) = paths_by_branch top branch ++ paths_by_branches top rest

-- ---- processes

abbrev pub paths_by_process : Text → ProcessTree → List Text
paths_by_process top (procedural statement) = paths_by top statement
paths_by_process top (continuous name value) = []

abbrev pub paths_by_item : Text → ItemTree → List Text
paths_by_item top item = flat_map (paths_by_process top) (process_trees_by item)

-- those of an instance, where the top has this name
abbrev pub paths_in_instance : Text → Instance → List Text
paths_in_instance top one = flat_map (paths_by_item top) (placed_items one.path one.unit)
