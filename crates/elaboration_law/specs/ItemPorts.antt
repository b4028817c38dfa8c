-- *trusted*: What is wrong with ports that items declare, with values of ports, and with the names of blocks, whatever is told first (IEEE 1364-2005,
-- 4.11, 9.8.3, 12.3.2 to 12.3.4, A.2.1.2).
use Rattle.std.specs.Prelude.{◌≡◌, Bool, true, false, not, List, [], ◌∷◌, ◌++◌, Option, Some, None, is_some}
use Rattle.std.specs.List.{Contains, flat_map}
use Rattle.std.specs.Option.{option_or}
use Rattle.vwords.specs.Words.{Text}
use Rattle.vast.specs.NumberedWords.{Word}
use Rattle.vast.specs.NumberedModules.{DirectionTree, PortTree, DeclaredTree, declaration, directed, ModuleTree}
use Rattle.vmodules.specs.Names.{is_declared, has_double, letters_of}
use Rattle.vmodules.specs.Ports.{listed_names, plain_names, is_plain_list}
use Rattle.vmodules.specs.Blocks.{blocks_by, named_in}
use Rattle.vmodules.specs.Misdeclared.{words_as, among, is_variable}
use Rattle.vmodules.specs.declared.misdeclared.Declaring.{Declaring}
use Rattle.vmodules.specs.declared.misdeclared.Declaring.TheVariants as how

-- two of these words are alike
abbrev pub AreAlike : List Word → Type 0
AreAlike words = has_double (letters_of words) ≡ true

-- one of these words is one of these names, or one of them is none
abbrev pub HasOneOf : List Text → List Word → Type 0
HasOneOf names words = (word : Word) × Contains words word × (is_declared names word.letters ≡ true)

abbrev pub HasOther : List Text → List Word → Type 0
HasOther names words = (word : Word) × Contains words word × (is_declared names word.letters ≡ false)

-- the names of a list of names alone that items declare as nets or variables
abbrev pub seconds_as : Declaring → ModuleTree → List Word
seconds_as declaring m = among (plain_names m.ports) (words_as declaring m.items)

-- A port is declared twice:
pub data HasPortTwice (m : ModuleTree) : Type 0 where
  -- it stands twice in a list of names alone (own);
  listed_twice : AreAlike (plain_names m.ports) → HasPortTwice m
  -- items say twice which way it goes (12.3.3);
  directed_twice : AreAlike (words_as how.Ports m.items) → HasPortTwice m
  -- an item says it of a port of a list with directions (12.3.4);
  directed_besides : is_plain_list m.ports ≡ false → HasOneOf (letters_of (listed_names m.ports)) (words_as how.Ports m.items) → HasPortTwice m
  -- its net or variable is said twice, with its direction or behind (12.3.3)
  held_twice : AreAlike (words_as how.WholePorts m.items ++ seconds_as how.Seconds m) → HasPortTwice m

-- A port stands alone in the list, or in the items:
pub data HasPortAlone (m : ModuleTree) : Type 0 where
  -- no item says which way a port goes of a list of names alone (12.3.3);
  undirected : HasOther (letters_of (words_as how.Ports m.items)) (plain_names m.ports) → HasPortAlone m
  -- an item declares a port that the list hasn't (12.3.2)
  unlisted : HasOther (letters_of (listed_names m.ports)) (words_as how.Ports m.items) → HasPortAlone m

-- an input is declared a variable (12.3.3)
abbrev pub HasVariableInput : ModuleTree → Type 0
HasVariableInput m = HasOneOf (letters_of (seconds_as how.Registers m)) (words_as how.Inputs m.items)

-- 12.3.4: which way a port goes that says none behind these
abbrev pub way_behind : Option DirectionTree → List PortTree → Option DirectionTree
way_behind before [] = before
way_behind before (port ∷ more) = way_behind (option_or port.direction before) more

-- A.2.1.2: no output that is a variable goes this way
abbrev pub goes_as_net : Option DirectionTree → Bool
goes_as_net None = true
goes_as_net (Some direction) = not (is_variable direction)

-- The direction of a port with a value says neither `reg` nor `integer` nor `time` (A.2.1.2, A.2.3):
pub data HasValuedNet (m : ModuleTree) : Type 0 where
  -- one of the list, behind those in front of it;
  valued_in_list : (front : List PortTree) (port : PortTree) (after : List PortTree) → m.ports ≡ Some (front ++ port ∷ after) →
      is_some port.value ≡ true → goes_as_net (option_or port.direction (way_behind None front)) ≡ true → HasValuedNet m
  -- one that an item declares
  valued_in_item : (direction : DirectionTree) (list : List DeclaredTree) (one : DeclaredTree) →
      Contains m.items (declaration (directed direction) list) → Contains list one → is_some one.value ≡ true →
      goes_as_net (Some direction) ≡ true → HasValuedNet m

-- The name of a block is declared twice:
pub data HasBlockTwice (m : ModuleTree) : Type 0 where
  -- two blocks have it (9.8.3);
  blocks_alike : AreAlike (flat_map blocks_by m.items) → HasBlockTwice m
  -- something else in the module has it (4.11)
  block_and_other : HasOneOf (letters_of (named_in m)) (flat_map blocks_by m.items) → HasBlockTwice m
