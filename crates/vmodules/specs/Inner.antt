-- *product rule*: What the calls are told by and answer, in the words of a text. Only `named_text` has to be believed, the name that was
-- asked for.
use Rattle.std.specs.Prelude.{◌≡◌, ℕ, ◌++◌, List, [], ◌∷◌, map, Option, None, Some, option_map, Bool, true, false, not, if◌then◌else◌, Vec, filter}
use Rattle.std.specs.Borrow.{Bor}
use Rattle.std.specs.List.{flat_map, find}
use Rattle.std.specs.Option.{option_or}
use Rattle.vwords.specs.Words.{Text}
use Rattle.vast.specs.NumberedWords.{Word, word_of}
use Rattle.vast.specs.NumberedExpressions.{ExpressionTree}
use Rattle.vast.specs.NumberedTrees.{tree_of, declared_tree, instance_tree}
use Rattle.vast.specs.NumberedModules.{TypeTree, DirectionTree, PortTree, ItemTree, ModuleTree, SourceTree, HeadParameter as HeadTree}
use Rattle.vast.specs.NumberedTrees.{module_tree, type_tree, direction_tree, port_tree, setting_tree, head_parameter, item_tree}
use Rattle.vast.specs.declared.expression.Expression.{Expression}
use Rattle.vast.specs.declared.module.ModuleTree.{ModuleTree as Parsed}
use Rattle.vast.specs.declared.module.SignAndRange.{SignAndRange}
use Rattle.vast.specs.declared.module.Direction.{Direction}
use Rattle.vast.specs.declared.module.Port.{Port as ParsedPort}
use Rattle.vast.specs.declared.module.HeadParameter.{HeadParameter}
use Rattle.vast.specs.declared.module.Setting.{Setting}
use Rattle.vast.specs.declared.module.ModuleItem.{ModuleItem}
use Rattle.vmodules.specs.Names.{is_declared, letters_of, first_again}
use Rattle.vmodules.specs.Hierarchy.{module_names, second_of}
use Rattle.vmodules.specs.Connected.{NamedConnection, open_by}
use Rattle.vmodules.specs.Ports.{Port, Second, bare, type_with, declared_port, listed_names, plain_names, is_plain, own_item}
use Rattle.vmodules.specs.Misdeclared.{Misdeclared, misdeclared_at, words_as, stray, valued_behind, valued_in, valued_listed, valued_items, valued_port}
use Rattle.vmodules.specs.declared.misdeclared.PortFlaw.{PortFlaw}
use Rattle.vmodules.specs.declared.misdeclared.PortFlaw.TheVariants as flaw
use Rattle.vmodules.specs.declared.misdeclared.Declaring.{Declaring}
use Rattle.vmodules.specs.declared.misdeclared.Declaring.TheVariants as how
use Rattle.vmodules.specs.declared.misdeclared.Misdeclared.{Misdeclared as PortFault}
use Rattle.vast.specs.declared.token.Token.{Token}
use Rattle.vmodules.specs.declared.ports.PortForm.{PortForm}
use Rattle.vmodules.specs.declared.ports.SecondForm.{SecondForm}
use Rattle.vast.specs.declared.module.Declared.{Declared}
use Rattle.vast.specs.declared.module.Instance.{Instance}
use Rattle.vmodules.specs.Blocks.{doubled_block, heads_named}

-- the modules of a text: its words, and what the parser made of them
pub record Units : Type 0 where
  pub words : List Text
  pub list : List Parsed

abbrev pub unit_names : List Text → List Parsed → List Word
unit_names words list = module_names (map (module_tree words) list)

-- their trees
abbrev pub units_tree : Units → SourceTree
units_tree units = map (module_tree units.words) units.list

-- the tree of a module that was found
abbrev pub unit_tree : List Text → Option (Bor Parsed) → Option ModuleTree
unit_tree words = option_map (λ unit. module_tree words unit.now)

-- a word is told of by this number
abbrev pub IsTold : Option Word → ℕ → Type 0
IsTold word number = option_map (λ (w : Word). w.number) word ≡ Some number

-- the names, with words put after them
abbrev pub with_words : List Text → List Word → List Text
with_words names words = names ++ letters_of words

-- one or none, as a list
abbrev pub all_of : {A : Type 0} → Option A → List A
all_of None = []
all_of (Some x) = x ∷ []

-- these hold the same names
abbrev pub HoldSame : List Text → List Text → Type 0
HoldSame xs ys = (text : Text) → is_declared xs text ≡ is_declared ys text

-- a name that was given
abbrev pub named_text : Option (Bor Text) → Option Text
named_text = option_map (λ name. name.now)

-- the type of a port, where one is written
abbrev pub type_for : List Text → Option (Bor SignAndRange) → TypeTree
type_for words None = bare
type_for words (Some type) = type_tree words type.now

-- which way a port goes, in the words of a text
abbrev pub direction_of : List Text → Option (Bor Direction) → Option DirectionTree
direction_of words = option_map (λ direction. direction_tree words direction.now)

-- what is declared besides a port
abbrev pub second_form : List Text → SecondForm → Second
second_form words form = record { name = word_of words form.name; net = form.net; type = type_tree words form.sign_and_range.now }

-- the port of a form
abbrev pub port_form : List Text → PortForm → Port
port_form words form = record {
  name = word_of words form.name;
  output = form.output;
  kind = form.kind;
  type = type_with (type_for words form.sign_and_range) (option_map (second_form words) form.again);
  again = option_map (second_form words) form.again;
}

abbrev pub port_trees : List Text → List ParsedPort → List PortTree
port_trees words list = map (port_tree words) list

-- the ports of these names that items declare
abbrev pub ports_as : List Text → List ModuleItem → List PortTree → List Port
ports_as words items list = map (λ port. declared_port (map (item_tree words) items) port.name) list

-- a name, with what is connected to it
abbrev pub ConnectionEntry : Type 0
ConnectionEntry = Text × Option (Bor Expression)

-- the tree of a value that was found
abbrev pub value_tree : List Text → Option (Bor Expression) → Option ExpressionTree
value_tree words = option_map (λ value. tree_of words value.now)

abbrev pub entry_tree : List Text → ConnectionEntry → NamedConnection
entry_tree words entry = record { name = entry.0; value = value_tree words entry.1 }

abbrev pub entries_tree : List Text → List ConnectionEntry → List NamedConnection
entries_tree words = map (entry_tree words)

abbrev pub entry_names : List ConnectionEntry → List Text
entry_names = map (λ entry. entry.0)

-- the names of parameters
abbrev pub setting_names : List Text → List Setting → List Word
setting_names words settings = map (λ setting. setting.name) (map (setting_tree words) settings)

abbrev pub head_names : List Text → List HeadParameter → List Word
head_names words list = map (λ head. head.setting.name) (map (head_parameter words) list)

abbrev pub open_settings : List Text → Bool → List Setting → List Word
open_settings words local settings = if local then [] else setting_names words settings

-- those that items open to overrides
abbrev pub open_in : List Text → List ModuleItem → List Word
open_in words items = flat_map open_by (map (item_tree words) items)

-- the name of the second of these modules, where one may stand before them
abbrev pub second_behind : Bool → List ModuleTree → Option Word
second_behind true [] = None
second_behind true (m ∷ more) = Some m.name
second_behind false modules = second_of modules

-- items without the nets and variables that are ports of these names
abbrev pub own_in : List Text → List Text → List ModuleItem → List ItemTree
own_in words names items = map (own_item (is_declared names)) (map (item_tree words) items)

-- ---- what is wrong with ports

-- words that were collected
abbrev pub words_told : List Text → List Token → List Word
words_told words list = map (word_of words) list

abbrev pub told_as : List Text → Declaring → List ModuleItem → List Word
told_as words declaring items = words_as declaring (map (item_tree words) items)

abbrev pub listed_words : List PortTree → List Word
listed_words list = map (λ port. port.name) list

-- those of a list of names alone
abbrev pub alone_words : List PortTree → List Word
alone_words list = if is_plain list then listed_words list else []

abbrev pub optional_ports : {X : Type 0} → List Text → Option (Vec ParsedPort X) → Option (List PortTree)
optional_ports {X = X} words ports = option_map (λ (list : Vec ParsedPort X). port_trees words list.items) ports

abbrev pub plain_words : {X : Type 0} → List Text → Option (Vec ParsedPort X) → List Word
plain_words words ports = plain_names (optional_ports words ports)

-- the names of what is declared together, of instances, and of a module's head
abbrev pub declared_words : List Text → List Declared → List Word
declared_words words list = map (λ one. one.name) (map (declared_tree words) list)

abbrev pub instance_words : List Text → List Instance → List Word
instance_words words list = map (λ one. one.name) (map (instance_tree words) list)

abbrev pub optional_heads : {X : Type 0} → List Text → Option (Vec HeadParameter X) → Option (List HeadTree)
optional_heads {X = X} words heads = option_map (λ (list : Vec HeadParameter X). map (head_parameter words) list.items) heads

-- what the head of a module names
abbrev pub head_named : List Text → Parsed → List Word
head_named words unit = heads_named (module_tree words unit).parameters ++ listed_names (module_tree words unit).ports

-- the first of these words that isn't among these names, and those that are
abbrev pub first_not : List Text → List Word → Option Word
first_not names words = find (λ word. not (is_declared names word.letters)) words

abbrev pub all_in : List Text → List Word → List Word
all_in names words = filter (λ word. is_declared names word.letters) words

-- what is told of a module, by what was collected of it
abbrev pub again_told : List Text → PortFlaw → List Token → Option Misdeclared
again_told words flaw list = misdeclared_at flaw (first_again (words_told words list))

abbrev pub stray_told : {X : Type 0} → List Text → Option (Vec ParsedPort X) → Token → Option Misdeclared
stray_told words ports token = stray (listed_names (optional_ports words ports)) (Some (word_of words token))

abbrev pub strays_told : {X : Type 0} → List Text → List Text → Option (Vec ParsedPort X) → List Token → Option Misdeclared
strays_told words names ports list = stray (listed_names (optional_ports words ports)) (first_not names (words_told words list))

abbrev pub unlisted_told : List Text → List Text → List Token → Option Misdeclared
unlisted_told words names list = misdeclared_at flaw.Undeclared (first_not names (words_told words list))

abbrev pub seconds_told : List Text → List Text → PortFlaw → Declaring → Declaring → List ModuleItem → Option Misdeclared
seconds_told words names flaw once again items =
    misdeclared_at flaw (first_again (told_as words once items ++ all_in names (told_as words again items)))

abbrev pub besides_told : List Text → List Text → List ModuleItem → Option Misdeclared
besides_told words names items =
    option_or (seconds_told words names flaw.Doubled how.WholePorts how.Seconds items)
    (seconds_told words names flaw.Input how.Inputs how.Registers items)

abbrev pub items_told : List Text → List Text → List Token → Parsed → Option Misdeclared
items_told words names plain unit =
    option_or (stray (listed_names (module_tree words unit).ports) (first_not names (told_as words how.Ports unit.items.items)))
    (option_or (misdeclared_at flaw.Doubled (first_again (told_as words how.Ports unit.items.items)))
    (option_or (misdeclared_at flaw.Undeclared (first_not (letters_of (told_as words how.Ports unit.items.items)) (words_told words plain)))
    (besides_told words names unit.items.items)))

-- a value of a port that may have none: in a list, in an item, in items, in a module
abbrev pub listed_valued : List Text → Option (Bor Direction) → List ParsedPort → Option Word
listed_valued words before list = valued_behind (direction_of words before) (port_trees words list)

abbrev pub declared_valued : List Text → Direction → List Declared → Option Word
declared_valued words direction list = valued_in (Some (direction_tree words direction)) (map (declared_tree words) list)

abbrev pub optional_valued : {X : Type 0} → List Text → Option (Vec ParsedPort X) → Option Word
optional_valued words ports = valued_listed (optional_ports words ports)

abbrev pub items_valued : List Text → List ModuleItem → Option Word
items_valued words items = valued_items (map (item_tree words) items)

abbrev pub values_told : List Text → Parsed → Option Misdeclared
values_told words unit = misdeclared_at flaw.Valued (valued_port (module_tree words unit))

-- a name that stands again as that of a block
abbrev pub blocks_told : List Text → Parsed → Option Misdeclared
blocks_told words unit = misdeclared_at flaw.Doubled (doubled_block (module_tree words unit))

-- the fault that a call tells
abbrev pub flaw_told : Misdeclared → PortFault
flaw_told m = record { flaw = m.flaw; at = m.word.number }

abbrev pub IsFlaw : Option Misdeclared → PortFault → Type 0
IsFlaw answer fault = option_map flaw_told answer ≡ Some fault
