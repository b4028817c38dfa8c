-- *internal*: Reading of modules, and of a whole text (IEEE 1364-2005, A.1 and A.2), whose statements and expressions have so many levels
-- at most.
use Rattle.std.specs.Prelude.{ℕ, Bool, true, false, not, List, [], ◌∷◌, Option, Some, None, codes}
use Rattle.vwords.specs.Words.{Text}
use Rattle.vast.specs.Expressions.{ExpressionTree}
use Rattle.vast.specs.Statements.{StatementTree, TargetTree}
use Rattle.vast.specs.Modules.{RangeTree, TypeTree, ParameterType, integer, typed, SettingTree, DeclaredTree, DirectionTree, input, output, output_integer, PortTree, HeadParameter, ConnectionTree, ConnectionsTree, by_order, by_name, InstanceTree, variables, integers, directed, ItemTree, parameters, declaration, events, assignments, initial, always, instances, ModuleTree, SourceTree, net_word, integer_word, parameter_word, NetAssignment}
use Rattle.vast.specs.declared.module.NetKind.{NetKind}
use Rattle.vast.specs.declared.module.NetKind.TheVariants as net
use Rattle.vexpr_parse.specs.Readers.{Reader, past, is_front}
use Rattle.vexpr_parse.specs.Words.{by_spelling}
use Rattle.vgrammar.specs.Parts.{Both, both, Either, one_way, other_way, map_tree, pair, word_as, many, maybe, either}
use Rattle.vgrammar.specs.Starts.{is_meant}
use Rattle.vgrammar.specs.Statements.{value, name_word, word_only, List_of, comma_list, statement, target}

-- an expression that stands in no statement
abbrev pub free_value : ℕ → Reader ExpressionTree
free_value levels = value levels

abbrev pub listed_of : {A : Type 0} → List_of A → List A
listed_of (both tree more) = tree ∷ more

-- [ left : right ]

abbrev pub range_of : Both ExpressionTree (Both ExpressionTree (Unit {0})) → RangeTree
range_of (both one (both other end)) = record { left = one; right = other }

abbrev pub range : ℕ → Reader RangeTree
range levels =
    map_tree range_of (past (codes "[") (pair (free_value levels) (past (codes ":")
    (pair (free_value levels) (word_only (codes "]"))))))

abbrev pub is_there : Option (Unit {0}) → Bool
is_there None = false
is_there (Some end) = true

abbrev pub type_of : Both (Option (Unit {0})) (Option RangeTree) → TypeTree
type_of (both sign bounds) = record { signed = is_there sign; range = bounds }

abbrev pub type : ℕ → Reader TypeTree
type levels =
    map_tree type_of (pair (maybe (is_front (codes "signed")) (word_only (codes "signed")))
    (maybe (is_front (codes "[")) (range levels)))

abbrev pub integer_of : Text → Option Bool
integer_of word = by_spelling integer_word (false ∷ true ∷ []) word

abbrev pub parameter_type_of : Either Bool TypeTree → ParameterType
parameter_type_of (one_way long) = integer long
parameter_type_of (other_way tree) = typed tree

abbrev pub parameter_type : ℕ → Reader ParameterType
parameter_type levels = map_tree parameter_type_of (either (is_meant integer_of) (word_as integer_of) (type levels))

-- name = value, and name alone

abbrev pub setting_of : Both Text ExpressionTree → SettingTree
setting_of (both letters tree) = record { name = letters; value = tree }

abbrev pub setting : ℕ → Reader SettingTree
setting levels = map_tree setting_of (pair name_word (past (codes "=") (free_value levels)))

abbrev pub net_assignment_of : Both TargetTree ExpressionTree → NetAssignment
net_assignment_of (both target value) = record { target = target; value = value }

-- A.6.1: target = value
abbrev pub net_assignment : ℕ → Reader NetAssignment
net_assignment levels = map_tree net_assignment_of (pair (target levels) (past (codes "=") (free_value levels)))

abbrev pub declared_of : Both Text (Option ExpressionTree) → DeclaredTree
declared_of (both letters tree) = record { name = letters; value = tree }

abbrev pub declarator : ℕ → Reader DeclaredTree
declarator levels = map_tree declared_of (pair name_word (maybe (is_front (codes "=")) (past (codes "=") (free_value levels))))

-- Connections

abbrev pub Value : Type 0
Value = Either (Unit {0}) (Both ExpressionTree (Unit {0}))

-- a value and ), or ) alone
abbrev pub value_in : ℕ → Reader Value
value_in levels = either (is_front (codes ")")) (word_only (codes ")")) (pair (free_value levels) (word_only (codes ")")))

abbrev pub connection_of : Both Text Value → ConnectionTree
connection_of (both letters (one_way end)) = record { name = letters; value = None }
connection_of (both letters (other_way (both tree end))) = record { name = letters; value = Some tree }

-- behind .
abbrev pub connection : ℕ → Reader ConnectionTree
connection levels = map_tree connection_of (past (codes ".") (pair name_word (past (codes "(") (value_in levels))))

abbrev pub Connections : Type 0
Connections = Either (Both (List_of ConnectionTree) (Unit {0})) (Either (Unit {0}) (Both (List_of ExpressionTree) (Unit {0})))

abbrev pub connections_of : Connections → ConnectionsTree
connections_of (one_way (both list end)) = by_name (listed_of list)
connections_of (other_way (one_way end)) = by_order []
connections_of (other_way (other_way (both list end))) = by_order (listed_of list)

abbrev pub connections : ℕ → Reader ConnectionsTree
connections levels =
    map_tree connections_of (past (codes "(") (either (is_front (codes ".")) (pair (comma_list (connection levels))
    (word_only (codes ")"))) (either (is_front (codes ")")) (word_only (codes ")"))
    (pair (comma_list (free_value levels)) (word_only (codes ")"))))))

abbrev pub instance_of : Both Text ConnectionsTree → InstanceTree
instance_of (both letters tree) = record { name = letters; connections = tree }

abbrev pub instance_behind : ℕ → Reader InstanceTree
instance_behind levels = map_tree instance_of (pair name_word (connections levels))

abbrev pub overrides : ℕ → Reader (Option ConnectionsTree)
overrides levels = maybe (is_front (codes "#")) (past (codes "#") (connections levels))

-- Which way ports go

abbrev pub net_of : Text → Option NetKind
net_of word = by_spelling net_word (net.Wire ∷ net.Reg ∷ []) word

-- behind output
abbrev pub Output : Type 0
Output = Either Bool (Both (Option NetKind) TypeTree)

abbrev pub output_behind : ℕ → Reader Output
output_behind levels =
    either (is_meant integer_of) (word_as integer_of) (pair (maybe (is_meant net_of) (word_as net_of)) (type levels))

abbrev pub Direction : Type 0
Direction = Either (Both (Option (Unit {0})) TypeTree) Output

abbrev pub direction_of : Direction → DirectionTree
direction_of (one_way (both wire tree)) = input (is_there wire) tree
direction_of (other_way (one_way long)) = output_integer long
direction_of (other_way (other_way (both kind tree))) = output kind tree

abbrev pub direction : ℕ → Reader DirectionTree
direction levels =
    map_tree direction_of (either (is_front (codes "input"))
    (past (codes "input") (pair (maybe (is_front (codes "wire")) (word_only (codes "wire"))) (type levels)))
    (past (codes "output") (output_behind levels)))

abbrev pub is_direction : Option Text → Bool
is_direction = is_meant (λ word. by_spelling (λ text. text) (codes "input" ∷ codes "output" ∷ []) word)

-- Items. Each stands behind its first word.

abbrev pub list_and_semicolon : {A : Type 0} → Reader A → Reader (Both (List_of A) (Unit {0}))
list_and_semicolon read = pair (comma_list read) (word_only (codes ";"))

abbrev pub local_of : Text → Option Bool
local_of word = by_spelling parameter_word (false ∷ true ∷ []) word

abbrev pub Parameters : Type 0
Parameters = Both Bool (Both ParameterType (Both (List_of SettingTree) (Unit {0})))

abbrev pub parameters_of : Parameters → ItemTree
parameters_of (both local (both kind (both list end))) = parameters local kind (listed_of list)

abbrev pub Variables : Type 0
Variables = Both NetKind (Both TypeTree (Both (List_of DeclaredTree) (Unit {0})))

abbrev pub variables_of : Variables → ItemTree
variables_of (both kind (both tree (both list end))) = declaration (variables kind tree) (listed_of list)

abbrev pub Directed : Type 0
Directed = Both DirectionTree (Both (List_of DeclaredTree) (Unit {0}))

abbrev pub directed_of : Directed → ItemTree
directed_of (both tree (both list end)) = declaration (directed tree) (listed_of list)

abbrev pub integers_of : Bool → Both (List_of DeclaredTree) (Unit {0}) → ItemTree
integers_of long (both list end) = declaration (integers long) (listed_of list)

abbrev pub events_of : Both (List_of Text) (Unit {0}) → ItemTree
events_of (both list end) = events (listed_of list)

abbrev pub assignments_of : Both (List_of NetAssignment) (Unit {0}) → ItemTree
assignments_of (both list end) = assignments (listed_of list)

abbrev pub Instances : Type 0
Instances = Both Text (Both (Option ConnectionsTree) (Both (List_of InstanceTree) (Unit {0})))

abbrev pub instances_of : Instances → ItemTree
instances_of (both letters (both tree (both list end))) = instances letters tree (listed_of list)

abbrev pub Item : Type 0
Item =
    Either Parameters (Either Variables (Either Directed (Either (Both (List_of DeclaredTree) (Unit {0}))
    (Either (Both (List_of DeclaredTree) (Unit {0})) (Either (Both (List_of Text) (Unit {0}))
    (Either (Both (List_of NetAssignment) (Unit {0})) (Either StatementTree (Either StatementTree Instances))))))))

abbrev pub item_of : Item → ItemTree
item_of (one_way tree) = parameters_of tree
item_of (other_way (one_way tree)) = variables_of tree
item_of (other_way (other_way (one_way tree))) = directed_of tree
item_of (other_way (other_way (other_way (one_way tree)))) = integers_of false tree
item_of (other_way (other_way (other_way (other_way (one_way tree))))) = integers_of true tree
item_of (other_way (other_way (other_way (other_way (other_way (one_way tree)))))) = events_of tree
item_of (other_way (other_way (other_way (other_way (other_way (other_way (one_way tree))))))) = assignments_of tree
item_of (other_way (other_way (other_way (other_way (other_way (other_way (other_way (one_way tree)))))))) = initial tree
item_of (other_way (other_way (other_way (other_way (other_way (other_way (other_way (other_way (one_way tree))))))))) = always tree
item_of (other_way (other_way (other_way (other_way (other_way (other_way (other_way (other_way (other_way tree))))))))) = instances_of tree

abbrev pub item_parts : ℕ → Reader Item
item_parts levels =
    either (is_meant local_of) (pair (word_as local_of) (pair (parameter_type levels) (list_and_semicolon (setting levels))))
    (either (is_meant net_of) (pair (word_as net_of) (pair (type levels) (list_and_semicolon (declarator levels))))
    (either is_direction (pair (direction levels) (list_and_semicolon (declarator levels)))
    (either (is_front (codes "integer")) (past (codes "integer") (list_and_semicolon (declarator levels)))
    (either (is_front (codes "time")) (past (codes "time") (list_and_semicolon (declarator levels)))
    (either (is_front (codes "event")) (past (codes "event") (list_and_semicolon name_word))
    (either (is_front (codes "assign")) (past (codes "assign") (list_and_semicolon (net_assignment levels)))
    (either (is_front (codes "initial")) (past (codes "initial") (statement levels))
    (either (is_front (codes "always")) (past (codes "always") (statement levels))
    (pair name_word (pair (overrides levels) (list_and_semicolon (instance_behind levels))))))))))))

abbrev pub item : ℕ → Reader ItemTree
item levels = map_tree item_of (item_parts levels)

-- The head of a module

abbrev pub first_parameter_of : Both ParameterType SettingTree → HeadParameter
first_parameter_of (both tree set) = record { kind = Some tree; setting = set }

abbrev pub head_parameter_of : Both (Option ParameterType) SettingTree → HeadParameter
head_parameter_of (both tree set) = record { kind = tree; setting = set }

abbrev pub first_parameter : ℕ → Reader HeadParameter
first_parameter levels = map_tree first_parameter_of (past (codes "parameter") (pair (parameter_type levels) (setting levels)))

abbrev pub head_parameter : ℕ → Reader HeadParameter
head_parameter levels = map_tree head_parameter_of
    (pair (maybe (is_front (codes "parameter")) (past (codes "parameter") (parameter_type levels))) (setting levels))

-- behind #
abbrev pub head_parameters : ℕ → Reader (Both (List_of HeadParameter) (Unit {0}))
head_parameters levels =
    past (codes "(") (pair (pair (first_parameter levels)
    (many (is_front (codes ",")) (λ list. past (codes ",") (head_parameter levels)))) (word_only (codes ")")))

abbrev pub first_port_of : Both DirectionTree DeclaredTree → PortTree
first_port_of (both tree one) = record { direction = Some tree; name = one.name; value = one.value }

abbrev pub port_of : Both (Option DirectionTree) DeclaredTree → PortTree
port_of (both tree one) = record { direction = tree; name = one.name; value = one.value }

abbrev pub port : ℕ → Reader PortTree
port levels = map_tree port_of (pair (maybe is_direction (direction levels)) (declarator levels))

abbrev pub named_port_of : Text → PortTree
named_port_of letters = record { direction = None; name = letters; value = None }

-- a port that an item declares
abbrev pub named_port : Reader PortTree
named_port = map_tree named_port_of name_word

-- behind one port, more, up to )
abbrev pub PortsBehind : Type 0 → Type 0
PortsBehind A = Both (Both A (List PortTree)) (Unit {0})

abbrev pub ports_behind : {A : Type 0} → Reader A → Reader PortTree → Reader (PortsBehind A)
ports_behind first read = pair (pair first (many (is_front (codes ",")) (λ list. past (codes ",") read))) (word_only (codes ")"))

abbrev pub PortList : Type 0
PortList = Either (PortsBehind (Both DirectionTree DeclaredTree)) (PortsBehind Text)

-- ports with their directions, or names alone
abbrev pub port_list : ℕ → Reader PortList
port_list levels =
    either is_direction (ports_behind (pair (direction levels) (declarator levels)) (port levels)) (ports_behind name_word named_port)

abbrev pub ports_of : Either (Unit {0}) PortList → List PortTree
ports_of (one_way end) = []
ports_of (other_way (one_way (both (both first more) end))) = first_port_of first ∷ more
ports_of (other_way (other_way (both (both letters more) end))) = named_port_of letters ∷ more

abbrev pub ports : ℕ → Reader (List PortTree)
ports levels = map_tree ports_of (past (codes "(") (either (is_front (codes ")")) (word_only (codes ")")) (port_list levels)))

abbrev pub head_list_of : Both (List_of HeadParameter) (Unit {0}) → List HeadParameter
head_list_of (both list end) = listed_of list

abbrev pub Module : Type 0
Module = Both Text (Both (Option (List HeadParameter)) (Both (Option (List PortTree)) (Both (List ItemTree) (Unit {0}))))

abbrev pub module_of : Module → ModuleTree
module_of (both letters (both head (both list (both body end)))) =
    record { name = letters; parameters = head; ports = list; items = body }

abbrev pub module_tree : ℕ → Reader ModuleTree
module_tree levels =
    map_tree module_of (past (codes "module") (pair name_word
    (pair (maybe (is_front (codes "#")) (past (codes "#") (map_tree head_list_of (head_parameters levels))))
    (pair (maybe (is_front (codes "(")) (ports levels))
    (past (codes ";") (pair (many (λ next. not (is_front (codes "endmodule") next)) (λ list. item levels))
    (word_only (codes "endmodule"))))))))

abbrev pub is_some_word : Option Text → Bool
is_some_word None = false
is_some_word (Some word) = true

-- modules to the end of the text
unfoldable pub source : ℕ → Reader SourceTree
source levels = many is_some_word (λ list. module_tree levels)
