-- *internal*: What the program's functions answer that read modules.
use Rattle.std.specs.Prelude.{◌≡◌, ◌≤◌, ◌⊎◌, Bool, true, false, not, List, [], ◌∷◌, ◌++◌, Option, Some, None, Result, Ok, Err, Box, Vec, length, map, drop, option_map, codes, IfOk}
use Rattle.std.specs.Borrow.{MutBor}
use Rattle.std.specs.List.{flat_map}
use Rattle.basis.specs.declared.memory.OrMemory.{OrMemory}
use Rattle.basis.specs.declared.memory.OrMemory.TheVariants.{Fault}
use Rattle.basis.specs.Reasons.{Because}
use Rattle.vwords.specs.Words.{Text}
use Rattle.vast.specs.Expressions.{ExpressionTree}
use Rattle.vast.specs.ExpressionTrees.{boxed_tree}
use Rattle.vast.specs.Modules.{RangeTree, ParameterType, integer, typed, DirectionTree, output, output_integer, PortTree, HeadParameter, ConnectionsTree, by_order, by_name, variables, integers, directed, ItemTree, parameters, declaration, events, assignments, initial, always, instances, ModuleTree}
use Rattle.vast.specs.Leaves.{head_leaves, if_some, port_leaves}
use Rattle.vast.specs.ModuleTrees.{head_parameter as head_tree, port_tree, module_tree as tree_of_module}
use Rattle.vast.specs.TokenTexts.{token_text}
use Rattle.vast.specs.declared.expression.Expression.{Expression}
use Rattle.vast.specs.declared.module.HeadParameter.{HeadParameter as HeadWords}
use Rattle.vast.specs.declared.module.ModuleTree.{ModuleTree as ModuleWords}
use Rattle.vast.specs.declared.module.NetKind.{NetKind}
use Rattle.vast.specs.declared.module.Port.{Port}
use Rattle.vast.specs.declared.token.Token.{Token}
use Rattle.vlex.specs.Tokenized.{Tokenized}
use Rattle.vexpr_parse.specs.declared.cursor.Cursor.{Cursor}
use Rattle.vexpr_parse.specs.declared.stop.Stop.{Stop}
use Rattle.vexpr_parse.specs.declared.stop.Stop.TheVariants.{NoTree}
use Rattle.vexpr_parse.specs.Readers.{Reader, got, and_then, front, is_front, past, choose, turns}
use Rattle.vexpr_parse.specs.Answers.{Keeps, KeepsBehind, ahead, leaves_ahead}
use Rattle.vexpr_parse.specs.Texts.{words_of}
use Rattle.vstatement_parse.specs.Gives.{Gives}
use Rattle.vgrammar.specs.Parts.{both, one_way, other_way, map_tree, pair, maybe, many, word_as, one_behind}
use Rattle.vgrammar.specs.Starts.{is_meant}
use Rattle.vgrammar.specs.Statements.{name_word, word_only, statement}
use Rattle.vgrammar.specs.Modules.{Value, integer_of, net_of, local_of, output_behind, head_list_of, Direction, is_direction, named_port, is_some_word}
use Rattle.vparse.specs.TextReaders.{range, type, parameter_type, setting, declarator, free_value, connection, instance_behind, overrides, item, first_parameter, head_parameter, head_parameters, direction, first_port, port, ports, module_tree, net_assignment}
use Rattle.vgrammar.specs.Lists.{all_until, rest_until}

-- this very word stands first and is passed, or another stands there
abbrev pub Tells : Text → List Text → List Text → Bool → Type 0
Tells text words left true = words ≡ text ∷ left
Tells text words left false = (left ≡ words) × (is_front text (front words) ≡ false)

-- the same, from one place of the tokens to another
abbrev pub TellsAt : Tokenized → Text → Cursor → Cursor → Bool → Type 0
TellsAt tokens text old new = Tells text (ahead tokens old) (ahead tokens new)

-- what is read needs no memory
abbrev pub ReadsAt : {A : Type 0} → Reader A → Tokenized → Cursor → Cursor → A → Type 0
ReadsAt read tokens old new result = read (ahead tokens old) ≡ got result (ahead tokens new)

-- a range, if one stands there
abbrev pub optional_range : Reader (Option RangeTree)
optional_range = maybe (is_front (codes "[")) range

-- a value behind its sign, if one stands there
abbrev pub optional_value : Reader (Option ExpressionTree)
optional_value = maybe (is_front (codes "=")) (past (codes "=") free_value)

-- what is read behind what was found, or else
abbrev pub found_or : {A B : Type 0} → (A → Reader B) → Reader B → Option A → Reader B
found_or next other None = other
found_or next other (Some tree) = next tree

-- the words that types, directions and items begin with, where they stand
abbrev pub optional_integer : Reader (Option Bool)
optional_integer = maybe (is_meant integer_of) (word_as integer_of)

abbrev pub optional_net : Reader (Option NetKind)
optional_net = maybe (is_meant net_of) (word_as net_of)

abbrev pub optional_local : Reader (Option Bool)
optional_local = maybe (is_meant local_of) (word_as local_of)

-- the type of a parameter
abbrev pub any_parameter_type : Reader ParameterType
any_parameter_type words = and_then (optional_integer words) (found_or (λ long. got (integer long)) (map_tree typed type))

-- Lists with commas, by the calls that read their members

-- what is said of each call: what it answered, with the place before it and behind it
abbrev pub Calls : Type 0 → Type 1
Calls T = MutBor Cursor → Result T (OrMemory Stop) → MutBor Cursor → Type 0

-- one of these calls, by the words that are left of these tokens before it and behind it
pub record IsCall {T : Type 0} (tokens : Tokenized) (call : Calls T) (words : List Text)
    (result : Result T (OrMemory Stop)) (left : List Text) : Type 0 where
  pub old : MutBor Cursor
  pub new : MutBor Cursor
  pub before : ahead tokens old.now ≡ words
  pub behind : ahead tokens new.now ≡ left
  pub is : call old result new

-- no call that gives something leaves more words than it found
abbrev pub NeverMore : {T : Type 0} → Tokenized → Calls T → Type 0
NeverMore {T = T} tokens call =
    (old new : MutBor Cursor) (one : T) → call old (Ok one) new →
    length (ahead tokens new.now) ≤ length (ahead tokens old.now)

-- these were read behind a comma each
abbrev pub ReadBehind : {T : Type 0} → Tokenized → Calls T → List T → List Text → List Text → Type 0
ReadBehind tokens call [] words left = left ≡ words
ReadBehind tokens call (one ∷ more) words left =
    (between : List Text) × (is_front (codes ",") (front words) ≡ true)
    × IsCall tokens call (drop 1 words) (Ok one) between × ReadBehind tokens call more between left

-- the first one, and those that were read behind it
pub record IsReached {T : Type 0} (tokens : Tokenized) (call : Calls T) (first : T) (words left : List Text)
    (list : List T) : Type 0 where
  pub more : List T
  pub whole : list ≡ first ∷ more
  pub read : ReadBehind tokens call more words left

pub record IsListed {T : Type 0} (tokens : Tokenized) (call : Calls T) (first : T) (words left : List Text)
    (list : List T) : Type 0 where
  pub reached : IsReached tokens call first words left list
  pub ended : is_front (codes ",") (front left) ≡ false

-- behind some of them a call stopped
pub record IsBroken {T : Type 0} (tokens : Tokenized) (call : Calls T) (first : T) (words left : List Text)
    (why : Stop) : Type 0 where
  pub list : List T
  pub between : List Text
  pub reached : IsReached tokens call first words between list
  pub comma : is_front (codes ",") (front between) ≡ true
  pub stopped : IsCall tokens call (drop 1 between) (Err (Fault why)) left

abbrev pub Listed : {T R : Type 0} → Tokenized → Calls T → T → List Text → List Text →
    Result (Vec T R) (OrMemory Stop) → Type 0
Listed tokens call first words left (Ok all) = IsListed tokens call first words left all.items
Listed tokens call first words left (Err e) = Because (IsBroken tokens call first words left) e

abbrev pub Lists : {T R : Type 0} → Tokenized → Calls T → T → Cursor → Cursor →
    Result (Vec T R) (OrMemory Stop) → Type 0
Lists tokens call first old new = Listed tokens call first (ahead tokens old) (ahead tokens new)

-- behind all of them another word stands than the one that ends them
pub record IsUnended {T : Type 0} (tokens : Tokenized) (call : Calls T) (first : T) (text : Text)
    (words left : List Text) (why : Stop) : Type 0 where
  pub list : List T
  pub listed : IsListed tokens call first words left list
  pub other : is_front text (front left) ≡ false
  pub none : why ≡ NoTree

-- so up to this very word, which is passed
abbrev pub ListedUntil : {T R : Type 0} → Tokenized → Calls T → T → Text → List Text → List Text →
    Result (Vec T R) (OrMemory Stop) → Type 0
ListedUntil tokens call first text words left (Ok all) = IsListed tokens call first words (text ∷ left) all.items
ListedUntil tokens call first text words left (Err e) =
    Because (λ why. IsBroken tokens call first words left why ⊎ IsUnended tokens call first text words left why) e

abbrev pub ListsUntil : {T R : Type 0} → Tokenized → Calls T → T → Text → Cursor → Cursor →
    Result (Vec T R) (OrMemory Stop) → Type 0
ListsUntil tokens call first text old new = ListedUntil tokens call first text (ahead tokens old) (ahead tokens new)

-- each call reads as this definition does
abbrev pub ReadsAs : {A T : Type 0} → (List Text → T → A) → Reader A → Tokenized → Calls T → Type 0
ReadsAs {T = T} view one tokens call =
    (old new : MutBor Cursor) (result : Result T (OrMemory Stop)) → call old result new →
    Gives view one tokens old.now new.now result

-- the trees of what stands in a list, and of what may be left out
abbrev pub all_of : {A T R : Type 0} → (List Text → T → A) → List Text → Vec T R → List A
all_of view words list = map (view words) list.items

abbrev pub optional_of : {A T : Type 0} → (List Text → T → A) → List Text → Option T → Option A
optional_of view words = option_map (view words)

-- the tokens that what stands in a list keeps
abbrev pub all_leaves : {T R : Type 0} → (T → List Token) → Vec T R → List Token
all_leaves leaves list = flat_map leaves list.items

-- each call keeps the tokens that it passes
abbrev pub KeepsCalls : {T : Type 0} → (T → List Token) → Tokenized → Calls T → Type 0
KeepsCalls {T = T} leaves tokens call =
    (old new : MutBor Cursor) (result : Result T (OrMemory Stop)) → call old result new →
    IfOk result (Keeps leaves tokens old.now new.now)

-- a list with its first one keeps the tokens that were passed behind that one, whatever is said to be kept of its members
abbrev pub KeepsList : {T : Type 0} → Tokenized → Calls T → T → Cursor → Cursor → List T → Type 0
KeepsList {T = T} tokens call first old new list =
    (leaves : T → List Token) → KeepsCalls leaves tokens call → KeepsBehind (leaves first) (flat_map leaves) tokens old new list

abbrev pub KeepsListed : {T R : Type 0} → Tokenized → Calls T → T → Cursor → Cursor →
    Result (Vec T R) (OrMemory Stop) → Type 0
KeepsListed tokens call first old new result = IfOk result (λ all. KeepsList tokens call first old new all.items)

-- What is read, in the order in which it is read

-- a value behind (, up to ), or none
abbrev pub value_part : {T : Type 0} → List Text → Option (Box Expression T) → Value
value_part words None = one_way tt
value_part words (Some tree) = other_way (both (boxed_tree words tree) tt)

-- connections behind (
abbrev pub connections_in : Reader ConnectionsTree
connections_in =
    choose (is_front (codes ".")) (map_tree by_name (all_until (codes ")") connection))
    (choose (is_front (codes ")")) (map_tree (λ end. by_order []) (word_only (codes ")"))) (map_tree by_order (all_until (codes ")") free_value)))

-- parameters of a head behind (
abbrev pub heads_in : Reader (List HeadParameter)
heads_in words = and_then (first_parameter words) (rest_until (codes ")") head_parameter)

-- parameter and a type, if it stands there
abbrev pub optional_type : Reader (Option ParameterType)
optional_type = maybe (is_front (codes "parameter")) (past (codes "parameter") parameter_type)

-- a direction, if one stands there; its parts behind its first word
abbrev pub optional_direction : Reader (Option DirectionTree)
optional_direction = maybe is_direction direction

abbrev pub input_parts : Reader Direction
input_parts = map_tree one_way (pair (maybe (is_front (codes "wire")) (word_only (codes "wire"))) type)

abbrev pub output_parts : Reader Direction
output_parts = map_tree other_way (output_behind 64)

-- the direction of an output, behind its first word
abbrev pub typed_output : Reader DirectionTree
typed_output words = and_then (optional_net words) (λ net. map_tree (output net) type)

abbrev pub any_output : Reader DirectionTree
any_output words = and_then (optional_integer words) (found_or (λ long. got (output_integer long)) typed_output)

-- ports behind (
abbrev pub some_ports : Reader (List PortTree)
some_ports words = and_then (first_port words) (rest_until (codes ")") port)

abbrev pub named_ports : Reader (List PortTree)
named_ports = all_until (codes ")") named_port

abbrev pub listed_ports : Reader (List PortTree)
listed_ports = choose is_direction some_ports named_ports

abbrev pub ports_in : Reader (List PortTree)
ports_in = choose (is_front (codes ")")) (map_tree (λ end. []) (word_only (codes ")"))) listed_ports

-- items behind the words that they begin with
abbrev pub parameters_at : Bool → Reader ItemTree
parameters_at local words = and_then (parameter_type words) (λ kind. map_tree (parameters local kind) (all_until (codes ";") setting))

abbrev pub variables_at : NetKind → Reader ItemTree
variables_at net words = and_then (type words) (λ kind. map_tree (declaration (variables net kind)) (all_until (codes ";") declarator))

abbrev pub directed_at : Reader ItemTree
directed_at words = and_then (direction words) (λ tree. map_tree (declaration (directed tree)) (all_until (codes ";") declarator))

abbrev pub integers_at : Bool → Reader ItemTree
integers_at long = map_tree (declaration (integers long)) (all_until (codes ";") declarator)

abbrev pub events_at : Reader ItemTree
events_at = map_tree events (all_until (codes ";") name_word)

abbrev pub assignments_at : Reader ItemTree
assignments_at = map_tree assignments (all_until (codes ";") net_assignment)

abbrev pub instances_at : Text → Reader ItemTree
instances_at letters words = and_then (overrides words) (λ tree. map_tree (instances letters tree) (all_until (codes ";") instance_behind))

-- an item that begins with none of the words of those above it
abbrev pub instances_item : Reader ItemTree
instances_item words = and_then (name_word words) instances_at

abbrev pub process_item : Reader ItemTree
process_item =
    choose (is_front (codes "initial")) (past (codes "initial") (map_tree initial (statement 64)))
    (choose (is_front (codes "always")) (past (codes "always") (map_tree always (statement 64))) instances_item)

abbrev pub listed_item : Reader ItemTree
listed_item =
    choose (is_front (codes "integer")) (past (codes "integer") (integers_at false))
    (choose (is_front (codes "time")) (past (codes "time") (integers_at true))
    (choose (is_front (codes "event")) (past (codes "event") events_at)
    (choose (is_front (codes "assign")) (past (codes "assign") assignments_at) process_item)))

abbrev pub directed_item : Reader ItemTree
directed_item = choose is_direction directed_at listed_item

abbrev pub variables_item : Reader ItemTree
variables_item words = and_then (optional_net words) (found_or variables_at directed_item)

abbrev pub any_item : Reader ItemTree
any_item words = and_then (optional_local words) (found_or parameters_at variables_item)

-- the parameters and the ports of a module's head, if they stand there
abbrev pub optional_heads : Reader (Option (List HeadParameter))
optional_heads = maybe (is_front (codes "#")) (past (codes "#") (map_tree head_list_of head_parameters))

abbrev pub optional_ports : Reader (Option (List PortTree))
optional_ports = maybe (is_front (codes "(")) ports

-- the items of a module
abbrev pub all_items : Reader (List ItemTree)
all_items = many (λ next. not (is_front (codes "endmodule") next)) (λ list. item)

-- the items behind those that were read
abbrev pub items_from : List ItemTree → Reader (List ItemTree)
items_from = turns (one_behind (λ list. item)) (λ next. not (is_front (codes "endmodule") next))

-- a module, by what was read of it
abbrev pub items_in : Reader (List ItemTree)
items_in words = and_then (all_items words) (λ list. past (codes "endmodule") (got list))

abbrev pub module_body : Reader (List ItemTree)
module_body = past (codes ";") items_in

abbrev pub module_with : Text → Option (List HeadParameter) → Option (List PortTree) → Reader ModuleTree
module_with letters heads list = map_tree (λ body. record { name = letters; parameters = heads; ports = list; items = body }) module_body

abbrev pub module_headed : Text → Option (List HeadParameter) → Reader ModuleTree
module_headed letters heads words = and_then (optional_ports words) (module_with letters heads)

abbrev pub module_named : Text → Reader ModuleTree
module_named letters words = and_then (optional_heads words) (module_headed letters)

abbrev pub module_at : Reader ModuleTree
module_at = past (codes "module") (λ words. and_then (name_word words) module_named)

-- a module is given, where the program has these parts of it in hand
abbrev pub GivesHeaded : {R : Type 0} → Token → Option (Vec HeadWords R) → Tokenized → Cursor → Cursor →
    Result ModuleWords (OrMemory Stop) → Type 0
GivesHeaded name heads tokens =
    Gives tree_of_module
    (module_headed (token_text (words_of tokens) name) (optional_of (all_of head_tree) (words_of tokens) heads))
    tokens

abbrev pub GivesWith : {R S : Type 0} → Token → Option (Vec HeadWords R) → Option (Vec Port S) → Tokenized → Cursor →
    Cursor → Result ModuleWords (OrMemory Stop) → Type 0
GivesWith name heads list tokens =
    Gives tree_of_module
    (module_with (token_text (words_of tokens) name) (optional_of (all_of head_tree) (words_of tokens) heads)
    (optional_of (all_of port_tree) (words_of tokens) list))
    tokens

-- the tokens that these parts keep
abbrev pub leaves_headed : {R : Type 0} → Token → Option (Vec HeadWords R) → List Token
leaves_headed name heads = name ∷ if_some (all_leaves head_leaves) heads

abbrev pub leaves_with : {R S : Type 0} → Token → Option (Vec HeadWords R) → Option (Vec Port S) → List Token
leaves_with name heads list = leaves_headed name heads ++ if_some (all_leaves port_leaves) list

-- the modules keep all tokens that were left
abbrev pub KeepsAllAhead : {T R : Type 0} → (T → List Token) → Tokenized → Cursor → Vec T R → Type 0
KeepsAllAhead leaves tokens cursor list = leaves_ahead tokens cursor ≡ all_leaves leaves list

-- the modules behind those that were read
abbrev pub modules_from : List ModuleTree → Reader (List ModuleTree)
modules_from = turns (one_behind (λ list. module_tree)) is_some_word
