-- *trusted*: The modules of a text, which of them are instantiated, and which is the top (IEEE 1364-2005, 12.1).
use Rattle.std.specs.Prelude.{not, List, [], ◌∷◌, Option, None, Some, map, filter}
use Rattle.std.specs.List.{find, flat_map}
use Rattle.std.specs.Str.{bytes_eq}
use Rattle.vwords.specs.Words.{Text}
use Rattle.vast.specs.NumberedWords.{Word}
use Rattle.vast.specs.NumberedModules.{ItemTree, parameters, declaration, events, assignments, initial, always, instances, ModuleTree, SourceTree}
use Rattle.vmodules.specs.Names.{is_declared}

abbrev pub module_names : SourceTree → List Word
module_names modules = map (λ m. m.name) modules

-- 12.1: the first module of that name
abbrev pub module_of : SourceTree → Text → Option ModuleTree
module_of modules letters = find (λ m. bytes_eq m.name.letters letters) modules

-- 12.1.2: the module that an item has instances of
abbrev pub instantiated_by : ItemTree → List Text
instantiated_by (parameters local type settings) = []
instantiated_by (declaration kind declared) = []
instantiated_by (events names) = []
instantiated_by (assignments settings) = []
instantiated_by (initial statement) = []
instantiated_by (always statement) = []
instantiated_by (instances name overrides list) = name.letters ∷ []

-- 12.1.2: the names of the modules that have instances, in the order of the text
abbrev pub instantiated_names : SourceTree → List Text
instantiated_names modules = flat_map (λ m. flat_map instantiated_by m.items) modules

-- 12.1.1: the modules that have no instances
abbrev pub roots : SourceTree → List ModuleTree
roots modules = filter (λ m. not (is_declared (instantiated_names modules) m.name.letters)) modules

abbrev pub only_of : List ModuleTree → Option ModuleTree
only_of (m ∷ []) = Some m
only_of _ = None

-- the name of the second of them
abbrev pub second_of : List ModuleTree → Option Word
second_of (m ∷ (other ∷ more)) = Some other.name
second_of _ = None

-- The module of that name; without a name the only one that is never instantiated (12.1.1). One top is simulated at a time (own: 12.1.1
-- has each such module run beside the others).
abbrev pub top_of : SourceTree → Option Text → Option ModuleTree
top_of modules None = only_of (roots modules)
top_of modules (Some name) = module_of modules name

-- where no name is asked for, the second module that could be the top
abbrev pub rival_of : SourceTree → Option Text → Option Word
rival_of modules None = second_of (roots modules)
rival_of modules (Some name) = None
