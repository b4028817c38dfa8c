-- *product rule*: Where the statement of each action of a design begins (statements are those of IEEE 1364-2005, clause 9; 6.1, 9.9,
-- 12.3.9.2): the numbers of the words, one for each action, in the order in which elaboration puts the actions (`lower_statement` of
-- `velab_process`, `elaborate_instance` of `vhierarchy`). Words are counted by the lengths of `Lengths.antt`, which are those of what is spelled (the law [lengths] of `law.rt`).
use Rattle.std.specs.Prelude.{ℕ, zero, suc, ◌+◌, ◌-◌, List, [], ◌∷◌, ◌++◌, map, length, Option, None, Some, option_map}
use Rattle.std.specs.List.{filter_map, flat_map}
use Rattle.vwords.specs.Words.{Text}
use Rattle.vast.specs.NumberedWords.{Word}
use Rattle.vast.specs.NumberedStatements.{StatementTree, StatementTrees, empty, block, assign, nonblocking, trigger, if_true, if_else, case_of, while_true, repeat_times, forever, for_loop, wait_for, delay, event, task, no_statement, first_statement, BranchTree, BranchTrees, labelled, default, no_branch, first_branch}
use Rattle.vast.specs.NumberedModules.{DeclaredTree, NetAssignment, ConnectionsTree, by_order, by_name, InstanceTree, ItemTree, parameters, declaration, events, assignments, initial, always, instances, ModuleTree, SourceTree}
use Rattle.vmodules.specs.Hierarchy.{module_of, top_of}
use Rattle.vmodules.specs.Ports.{ports_declared}
use Rattle.action_origins.specs.Lengths.{length_if, parts_length, delay_length, event_length, head_length, for_length, turn_length, default_length, statement_length, item_length, branch_length, head_parameters_length, ports_length, begin_length, net_assignment_length}

-- ---- what begins at a name

-- 6.2.1, 6.1.1, A.2.3: what is declared with a value begins at its name
abbrev pub declared_origins : List DeclaredTree → List ℕ
declared_origins list = filter_map (λ one. option_map (λ value. one.name.number) one.value) list

-- 12.3.9.2: a port that is connected begins at the name of the instance
abbrev pub joined_origins : Word → ConnectionsTree → List ℕ
joined_origins name (by_order values) = map (λ value. name.number) values
joined_origins name (by_name list) = filter_map (λ one. option_map (λ value. name.number) one.value) list

-- 12.1.2: of instances of a module, each with what is told of the module
abbrev pub instances_origins : (ModuleTree → List ℕ) → Option ModuleTree → List InstanceTree → List ℕ
instances_origins below None list = []
instances_origins below (Some child) list = flat_map (λ one. joined_origins one.name one.connections ++ below child) list

abbrev pub origins_below : (ModuleTree → List ℕ) → SourceTree → ItemTree → List ℕ
origins_below below modules (parameters local type settings) = []
origins_below below modules (declaration kind list) = []
origins_below below modules (events names) = []
origins_below below modules (assignments settings) = []
origins_below below modules (initial statement) = []
origins_below below modules (always statement) = []
origins_below below modules (instances name overrides list) = instances_origins below (module_of modules name.letters) list

-- ---- what begins at any word, among the words of a text

module _ (words : List Text) where
  -- the number of the word from which so many are left, itself among them
  abbrev pub number_of : ℕ → ℕ
  number_of left = length words - left

  -- Clause 9: of a statement, from whose first word so many are left. The actions of a statement stand behind those of its body; `begin`, `end`
  -- and `;` are no action. A `for` has three: its first assignment, in front, and behind the body the other one and its loop.
  abbrev mutual
    pub statement_origins : ℕ → StatementTree → List ℕ
    statement_origins left empty = []
    statement_origins left (block label statements) = statements_origins (left - begin_length label) statements
    statement_origins left (assign target amount value) = number_of left ∷ []
    statement_origins left (nonblocking target amount value) = number_of left ∷ []
    statement_origins left (trigger name) = number_of left ∷ []
    statement_origins left (if_true condition body) = statement_origins (left - head_length condition) body ++ number_of left ∷ []
    statement_origins left (if_else condition body other) =
        statement_origins (left - head_length condition) body
        ++ (statement_origins ((left - head_length condition) - (statement_length body + 1)) other ++ number_of left ∷ [])
    statement_origins left (case_of kind value branches) = branches_origins (left - head_length value) branches ++ number_of left ∷ []
    statement_origins left (while_true condition body) = statement_origins (left - head_length condition) body ++ number_of left ∷ []
    statement_origins left (repeat_times count body) = statement_origins (left - head_length count) body ++ number_of left ∷ []
    statement_origins left (forever body) = statement_origins (left - 1) body ++ number_of left ∷ []
    statement_origins left (for_loop target value condition next_target next_value body) =
        number_of (left - 2)
        ∷ (statement_origins ((left - for_length target value condition) - turn_length next_target next_value) body
        ++ number_of (left - for_length target value condition) ∷ number_of left ∷ [])
    statement_origins left (wait_for condition body) = statement_origins (left - head_length condition) body ++ number_of left ∷ []
    statement_origins left (delay amount body) = statement_origins (left - delay_length amount) body ++ number_of left ∷ []
    statement_origins left (event control body) = statement_origins (left - event_length control) body ++ number_of left ∷ []
    statement_origins left (task call) = number_of left ∷ []

    pub statements_origins : ℕ → StatementTrees → List ℕ
    statements_origins left no_statement = []
    statements_origins left (first_statement one more) = statement_origins left one ++ statements_origins (left - statement_length one) more

    pub branch_origins : ℕ → BranchTree → List ℕ
    branch_origins left (labelled labels body) = statement_origins (left - parts_length labels) body
    branch_origins left (default colon body) = statement_origins (left - default_length colon) body

    pub branches_origins : ℕ → BranchTrees → List ℕ
    branches_origins left no_branch = []
    branches_origins left (first_branch one more) = branch_origins left one ++ branches_origins (left - branch_length one) more

  -- 6.1: each part of an `assign` begins at its target
  abbrev pub driven_origins : ℕ → List NetAssignment → List ℕ
  driven_origins left [] = []
  driven_origins left (one ∷ more) = number_of left ∷ driven_origins (left - (net_assignment_length one + 1)) more

  -- 9.9: an `always` has its own action behind those of its statement
  abbrev pub item_origins : ℕ → ItemTree → List ℕ
  item_origins left (parameters local type settings) = []
  item_origins left (declaration kind list) = declared_origins list
  item_origins left (events names) = []
  item_origins left (assignments list) = driven_origins (left - 1) list
  item_origins left (initial statement) = statement_origins (left - 1) statement
  item_origins left (always statement) = statement_origins (left - 1) statement ++ number_of left ∷ []
  item_origins left (instances name overrides list) = []

  abbrev pub items_origins : ℕ → List ItemTree → List ℕ
  items_origins left [] = []
  items_origins left (item ∷ more) = item_origins left item ++ items_origins (left - item_length item) more

  -- 12.1: how many words are left from the first item of a module on: its name, its parameters, its ports and a `;` stand before
  abbrev pub items_left : ModuleTree → ℕ
  items_left m =
      (((length words - (m.name.number + 1)) - length_if head_parameters_length m.parameters) - length_if ports_length m.ports) - 1

  -- 12.1: a module and all below it, so many levels deep: the values of its ports first, then its own items, then the instances in it
  abbrev pub module_origins : ℕ → SourceTree → ModuleTree → List ℕ
  module_origins zero modules m = []
  module_origins (suc levels) modules m =
      declared_origins (ports_declared m.ports)
      ++ (items_origins (items_left m) m.items ++ flat_map (origins_below (module_origins levels modules) modules) m.items)

  -- those of the design whose top this is
  abbrev pub top_origins : SourceTree → Option ModuleTree → List ℕ
  top_origins modules None = []
  top_origins modules (Some m) = module_origins 16 modules m

  abbrev pub design_origins : SourceTree → Option Text → List ℕ
  design_origins modules top = top_origins modules (top_of modules top)
