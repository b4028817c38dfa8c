-- *trusted*: The names of blocks, which stand among the names of their module (IEEE 1364-2005, 9.8.3, 4.11).
use Rattle.std.specs.Prelude.{List, [], ◌∷◌, ◌++◌, map, Option, None, Some}
use Rattle.std.specs.List.{flat_map}
use Rattle.vast.specs.NumberedWords.{Word}
use Rattle.vast.specs.NumberedStatements.{StatementTree, StatementTrees, empty, block, assign, nonblocking, trigger, if_true, if_else, case_of, while_true, repeat_times, forever, for_loop, wait_for, delay, event, task, no_statement, first_statement, BranchTree, BranchTrees, labelled, default, no_branch, first_branch}
use Rattle.vast.specs.NumberedModules.{HeadParameter, ItemTree, parameters, declaration, events, assignments, initial, always, instances, ModuleTree}
use Rattle.vmodules.specs.Names.{letters_of, again_behind}
use Rattle.vmodules.specs.Ports.{listed_names}

-- a block adds its name; a block without a name what stands in it adds. Names in a block that has a name are its own (4.11).
abbrev pub block_names : Option Word → List Word → List Word
block_names None inner = inner
block_names (Some label) inner = label ∷ []

abbrev mutual
  pub blocks_in : StatementTree → List Word
  blocks_in empty = []
  blocks_in (block label statements) = block_names label (blocks_in_all statements)
  blocks_in (assign target amount value) = []
  blocks_in (nonblocking target amount value) = []
  blocks_in (trigger letters) = []
  blocks_in (if_true condition body) = blocks_in body
  blocks_in (if_else condition body other) = blocks_in body ++ blocks_in other
  blocks_in (case_of kind value branches) = blocks_in_branches branches
  blocks_in (while_true condition body) = blocks_in body
  blocks_in (repeat_times count body) = blocks_in body
  blocks_in (forever body) = blocks_in body
  blocks_in (for_loop target value condition next_target next_value body) = blocks_in body
  blocks_in (wait_for condition body) = blocks_in body
  blocks_in (delay amount body) = blocks_in body
  blocks_in (event control body) = blocks_in body
  blocks_in (task call) = []

  pub blocks_in_all : StatementTrees → List Word
  blocks_in_all no_statement = []
  blocks_in_all (first_statement one more) = blocks_in one ++ blocks_in_all more

  pub blocks_in_branch : BranchTree → List Word
  blocks_in_branch (labelled labels body) = blocks_in body
  blocks_in_branch (default colon body) = blocks_in body

  pub blocks_in_branches : BranchTrees → List Word
  blocks_in_branches no_branch = []
  blocks_in_branches (first_branch one more) = blocks_in_branch one ++ blocks_in_branches more

abbrev pub blocks_by : ItemTree → List Word
blocks_by (parameters local type settings) = []
blocks_by (declaration kind list) = []
blocks_by (events names) = []
blocks_by (assignments settings) = []
blocks_by (initial statement) = blocks_in statement
blocks_by (always statement) = blocks_in statement
blocks_by (instances letters overrides list) = []

-- 4.11: what else has a name
abbrev pub named_by : ItemTree → List Word
named_by (parameters local type settings) = map (λ setting. setting.name) settings
named_by (declaration kind list) = map (λ one. one.name) list
named_by (events names) = names
named_by (assignments settings) = []
named_by (initial statement) = []
named_by (always statement) = []
named_by (instances letters overrides list) = map (λ one. one.name) list

abbrev pub heads_named : Option (List HeadParameter) → List Word
heads_named None = []
heads_named (Some list) = map (λ head. head.setting.name) list

abbrev pub named_in : ModuleTree → List Word
named_in m = (heads_named m.parameters ++ listed_names m.ports) ++ flat_map named_by m.items

-- the first block whose name something else of its module has, or a block before it
abbrev pub doubled_block : ModuleTree → Option Word
doubled_block m = again_behind (letters_of (named_in m)) (flat_map blocks_by m.items)
