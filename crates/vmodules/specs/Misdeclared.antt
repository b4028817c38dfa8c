-- *trusted*: What is wrong with the ports that items declare (IEEE 1364-2005, 12.3.2, 12.3.3), and with values of ports (A.2.1.2, A.2.3).
use Rattle.std.specs.Prelude.{Bool, true, false, not, if◌then◌else◌, List, [], ◌∷◌, ◌++◌, map, Option, None, Some, is_some, option_map}
use Rattle.std.specs.List.{filter, find, flat_map}
use Rattle.std.specs.Option.{option_or}
use Rattle.vast.specs.NumberedWords.{Word}
use Rattle.vast.specs.NumberedExpressions.{ExpressionTree}
use Rattle.vast.specs.NumberedModules.{DirectionTree, input, output, output_integer, PortTree, DeclarationKind, variables, integers, directed, DeclaredTree, ItemTree, parameters, declaration, events, assignments, initial, always, instances, ModuleTree, SourceTree}
use Rattle.vast.specs.declared.module.NetKind.{NetKind}
use Rattle.vast.specs.declared.module.NetKind.TheVariants as net
use Rattle.vmodules.specs.Names.{is_declared, letters_of, first_again}
use Rattle.vmodules.specs.Ports.{listed_names, plain_names}
use Rattle.vmodules.specs.declared.misdeclared.PortFlaw.{PortFlaw}
use Rattle.vmodules.specs.declared.misdeclared.PortFlaw.TheVariants as flaw
use Rattle.vmodules.specs.declared.misdeclared.Declaring.{Declaring}
use Rattle.vmodules.specs.declared.misdeclared.Declaring.TheVariants as how
use Rattle.vmodules.specs.Blocks.{doubled_block}

-- what is wrong, and at which word
pub record Misdeclared : Type 0 where
  pub flaw : PortFlaw
  pub word : Word

abbrev pub misdeclared_at : PortFlaw → Option Word → Option Misdeclared
misdeclared_at flaw = option_map (λ word. record { flaw = flaw; word = word })

-- What an item declares its names as (12.3.3):
--   `is_whole`: a port whose net or variable the declaration names, too (`output reg q`), so that no other item may declare it
--   `is_input`: an input
--   `is_reg`: a variable, not a net
abbrev pub is_whole : DirectionTree → Bool
is_whole (input wire type) = wire
is_whole (output net type) = is_some net
is_whole (output_integer long) = true

abbrev pub is_input : DirectionTree → Bool
is_input (input wire type) = true
is_input (output net type) = false
is_input (output_integer long) = false

abbrev pub is_reg : NetKind → Bool
is_reg net.Wire = false
is_reg net.Reg = true

abbrev pub directs : Declaring → DirectionTree → Bool
directs how.Ports direction = true
directs how.WholePorts direction = is_whole direction
directs how.Inputs direction = is_input direction
directs how.Seconds direction = false
directs how.Registers direction = false

abbrev pub holds : Declaring → NetKind → Bool
holds how.Ports net = false
holds how.WholePorts net = false
holds how.Inputs net = false
holds how.Seconds net = true
holds how.Registers net = is_reg net

abbrev pub declares_as : Declaring → DeclarationKind → Bool
declares_as declaring (variables net type) = holds declaring net
declares_as declaring (integers long) = false
declares_as declaring (directed direction) = directs declaring direction

-- the names that are declared so
abbrev pub words_by : Declaring → ItemTree → List Word
words_by declaring (parameters local type settings) = []
words_by declaring (declaration kind list) = if declares_as declaring kind then map (λ one. one.name) list else []
words_by declaring (events names) = []
words_by declaring (assignments settings) = []
words_by declaring (initial statement) = []
words_by declaring (always statement) = []
words_by declaring (instances letters overrides list) = []

abbrev pub words_as : Declaring → List ItemTree → List Word
words_as declaring items = flat_map (words_by declaring) items

-- the first of these words that isn't a name of the list, and those that are
abbrev pub outside : List Word → List Word → Option Word
outside names words = find (λ word. not (is_declared (letters_of names) word.letters)) words

abbrev pub among : List Word → List Word → List Word
among names words = filter (λ word. is_declared (letters_of names) word.letters) words

-- 12.3.2: items declare the names of a list that has names alone, and no others; the ports of another list are declared there
abbrev pub stray : List Word → Option Word → Option Misdeclared
stray listed None = None
stray listed (Some word) =
    Some (record { flaw = if is_declared (letters_of listed) word.letters then flaw.Doubled else flaw.Undeclared; word = word })

-- Of the names of a list that has names alone, of those of all ports, and of items: no name stands twice in the list; items declare its names as
-- ports, each once. A port is declared once more at most, and not at all where its net or variable was said; no input is a variable.
abbrev pub flaw_in : List Word → List Word → List ItemTree → Option Misdeclared
flaw_in plain listed items =
    option_or (misdeclared_at flaw.Doubled (first_again plain))
    (option_or (stray listed (outside plain (words_as how.Ports items)))
    (option_or (misdeclared_at flaw.Doubled (first_again (words_as how.Ports items)))
    (option_or (misdeclared_at flaw.Undeclared (outside (words_as how.Ports items) plain))
    (option_or (misdeclared_at flaw.Doubled (first_again (words_as how.WholePorts items ++ among plain (words_as how.Seconds items))))
    (misdeclared_at flaw.Input (first_again (words_as how.Inputs items ++ among plain (words_as how.Registers items))))))))

abbrev pub port_flaw : ModuleTree → Option Misdeclared
port_flaw m = flaw_in (plain_names m.ports) (listed_names m.ports) m.items

-- ---- A.2.1.2, A.2.3: the direction of a port with a value says `reg`, `integer` or `time`

abbrev pub is_variable : DirectionTree → Bool
is_variable (input wire type) = false
is_variable (output None type) = false
is_variable (output (Some word) type) = is_reg word
is_variable (output_integer long) = true

-- the name of a port that goes this way, where it has a value that it may not have
abbrev pub valued_net : Option DirectionTree → Word → Option ExpressionTree → Option Word
valued_net direction name None = None
valued_net None name (Some value) = Some name
valued_net (Some direction) name (Some value) = if is_variable direction then None else Some name

-- the first of a list of ports; 12.3.4: one without a direction has that of the one before it
abbrev pub valued_behind : Option DirectionTree → List PortTree → Option Word
valued_behind before [] = None
valued_behind before (port ∷ more) =
    option_or (valued_net (option_or port.direction before) port.name port.value) (valued_behind (option_or port.direction before) more)

abbrev pub valued_listed : Option (List PortTree) → Option Word
valued_listed None = None
valued_listed (Some list) = valued_behind None list

-- the first of the names that an item declares as ports, and of items
abbrev pub valued_in : Option DirectionTree → List DeclaredTree → Option Word
valued_in direction [] = None
valued_in direction (one ∷ more) = option_or (valued_net direction one.name one.value) (valued_in direction more)

abbrev pub valued_as : DeclarationKind → List DeclaredTree → Option Word
valued_as (variables net type) list = None
valued_as (integers long) list = None
valued_as (directed direction) list = valued_in (Some direction) list

abbrev pub valued_by : ItemTree → Option Word
valued_by (parameters local type settings) = None
valued_by (declaration kind list) = valued_as kind list
valued_by (events names) = None
valued_by (assignments settings) = None
valued_by (initial statement) = None
valued_by (always statement) = None
valued_by (instances letters overrides list) = None

abbrev pub valued_items : List ItemTree → Option Word
valued_items [] = None
valued_items (item ∷ more) = option_or (valued_by item) (valued_items more)

abbrev pub valued_port : ModuleTree → Option Word
valued_port m = option_or (valued_listed m.ports) (valued_items m.items)

-- the first flaw of a module, and of a text: of its ports, then of their values, or else a name that stands again as that of a block (4.11)
abbrev pub flaw_of : ModuleTree → Option Misdeclared
flaw_of m = option_or (port_flaw m) (option_or (misdeclared_at flaw.Valued (valued_port m)) (misdeclared_at flaw.Doubled (doubled_block m)))

abbrev pub first_misdeclared : SourceTree → Option Misdeclared
first_misdeclared [] = None
first_misdeclared (m ∷ more) = option_or (flaw_of m) (first_misdeclared more)
