-- *trusted*: The scopes that print tasks stand in (IEEE 1364-2005, 9.8.3, 12.5, 12.7, 17.1.1.6): that of the instance, or that of the named block
-- round them. A string that a task prints has the path of its scope, which `%m` shows.
use Rattle.std.specs.Prelude.{List, ◌∷◌, ◌++◌, map, Option, None, Some}
use Rattle.vwords.specs.Words.{Text}
use Rattle.vast.specs.NumberedWords.{Word}
use Rattle.vast.specs.NumberedStatements.{ArgumentTree, quoted, printed, left_out, TaskTree, print, idle, dump_file, dump_vars, dump, end_run, StatementTree, StatementTrees, empty, block, assign, nonblocking, trigger, if_true, if_else, case_of, while_true, repeat_times, forever, for_loop, wait_for, delay, event, task, no_statement, first_statement, BranchTree, BranchTrees, labelled, default, no_branch, first_branch}
use Rattle.vast.specs.NumberedModules.{ItemTree, parameters, declaration, events, assignments, initial, always, instances, ModuleTree}
use Rattle.vmodules.specs.Ports.{process_items}

-- a named block is a scope of its own, whose path goes on with a dot and its name
abbrev pub inside : Text → Option Word → Text
inside path None = path
inside path (Some name) = path ++ 46 ∷ name.letters

abbrev pub placed_argument : Text → ArgumentTree → ArgumentTree
placed_argument path (quoted word) = quoted (record word { path = path })
placed_argument path (printed value) = printed value
placed_argument path left_out = left_out

abbrev pub placed_task : Text → TaskTree → TaskTree
placed_task path (print kind arguments) = print kind (map (placed_argument path) arguments)
placed_task path (idle kind arguments) = idle kind arguments
placed_task path (dump_file letters) = dump_file letters
placed_task path (dump_vars selection) = dump_vars selection
placed_task path (dump kind) = dump kind
placed_task path (end_run stops digits) = end_run stops digits

-- a statement, in the scope of this path
abbrev mutual
  pub placed : Text → StatementTree → StatementTree
  placed path empty = empty
  placed path (block label list) = block label (placed_all (inside path label) list)
  placed path (assign target amount value) = assign target amount value
  placed path (nonblocking target amount value) = nonblocking target amount value
  placed path (trigger letters) = trigger letters
  placed path (if_true condition body) = if_true condition (placed path body)
  placed path (if_else condition body other) = if_else condition (placed path body) (placed path other)
  placed path (case_of kind value branches) = case_of kind value (placed_branches path branches)
  placed path (while_true condition body) = while_true condition (placed path body)
  placed path (repeat_times count body) = repeat_times count (placed path body)
  placed path (forever body) = forever (placed path body)
  placed path (for_loop target value condition next_target next_value body) =
      for_loop target value condition next_target next_value (placed path body)
  placed path (wait_for condition body) = wait_for condition (placed path body)
  placed path (delay amount body) = delay amount (placed path body)
  placed path (event control body) = event control (placed path body)
  placed path (task call) = task (placed_task path call)

  pub placed_all : Text → StatementTrees → StatementTrees
  placed_all path no_statement = no_statement
  placed_all path (first_statement one more) = first_statement (placed path one) (placed_all path more)

  pub placed_branch : Text → BranchTree → BranchTree
  placed_branch path (labelled labels body) = labelled labels (placed path body)
  placed_branch path (default colon body) = default colon (placed path body)

  pub placed_branches : Text → BranchTrees → BranchTrees
  placed_branches path no_branch = no_branch
  placed_branches path (first_branch one more) = first_branch (placed_branch path one) (placed_branches path more)

abbrev pub placed_item : Text → ItemTree → ItemTree
placed_item path (parameters local type settings) = parameters local type settings
placed_item path (declaration kind list) = declaration kind list
placed_item path (events names) = events names
placed_item path (assignments list) = assignments list
placed_item path (initial statement) = initial (placed path statement)
placed_item path (always statement) = always (placed path statement)
placed_item path (instances letters overrides list) = instances letters overrides list

-- the items of an instance that make processes, in the scope of its path
abbrev pub placed_items : Text → ModuleTree → List ItemTree
placed_items path m = map (placed_item path) (process_items m)
