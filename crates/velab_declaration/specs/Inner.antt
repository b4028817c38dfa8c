-- *internal*: What the steps of elaboration are told by and answer.
use Rattle.std.specs.Prelude.{not, List, ◌++◌, Vec, map, Option, Some, option_map}
use Rattle.std.specs.Borrow.{Bor}
use Rattle.std.specs.List.{filter, flat_map}
use Rattle.vdesign.specs.Design as design
use Rattle.vwords.specs.Words.{Text}
use Rattle.vast.specs.NumberedWords.{Word, word_of}
use Rattle.vast.specs.NumberedModules.{ParameterType, DeclaredTree, ItemTree, declaration}
use Rattle.vmodules.specs.Names.{is_declared, again_behind}
use Rattle.vmodules.specs.Inner.{ConnectionEntry, entries_tree, port_form, own_in}
use Rattle.vmodules.specs.Ports.{own_item, own_names}
use Rattle.vmodules.specs.declared.ports.PortForm.{PortForm}
use Rattle.vast.specs.declared.module.Instance.{Instance}
use Rattle.vast.specs.NumberedTrees.{instance_tree, parameter_type, head_parameter, declaration_kind, declared_tree, setting_tree, item_tree, module_tree}
use Rattle.vast.specs.declared.module.DeclarationKind.{DeclarationKind as DeclarationWords}
use Rattle.vast.specs.declared.module.ModuleItem.{ModuleItem}
use Rattle.vast.specs.declared.module.ModuleTree.{ModuleTree as Parsed}
use Rattle.vast.specs.declared.module.Declared.{Declared}
use Rattle.vast.specs.declared.module.Setting.{Setting}
use Rattle.vast.specs.declared.token.Token.{Token}
use Rattle.vast.specs.declared.module.HeadParameter.{HeadParameter as HeadWords}
use Rattle.vast.specs.declared.module.ParameterType.{ParameterType as ParameterWords}
use Rattle.velab_expr.specs.declared.fault.Rule.TheVariants.{Doubled}
use Rattle.velab_expr.specs.declared.fault.ElabFault.{ElabFault}
use Rattle.velab_expr.specs.Rules.{IsBroken, broken_at}
use Rattle.velab_expr.specs.Scopes.{Scope}
use Rattle.velab_declaration.specs.declared.variable.Form.{Form}
use Rattle.velab_expr.specs.Symbols.{instance_symbol, Symbol, parameter_symbol, event_symbol, valueless_by, symbols_in_head}
use Rattle.velab_declaration.specs.Parameters.{Overrides}
use Rattle.velab_declaration.specs.Variables.{declarations_of, variables_in, variables_as, declarations}

-- the names that an item declares, and those that items do
abbrev pub names_of : ItemTree → List Word
names_of item = map (λ d. d.name) (declarations_of item)

abbrev pub declared_in : List ItemTree → List Word
declared_in items = map (λ d. d.name) (flat_map declarations_of items)

-- one of these words stands again, behind these names
abbrev pub DoublesIn : List Text → List Word → ElabFault → Type 0
DoublesIn names words = IsBroken (broken_at Doubled (again_behind names words))

-- parameters, in the words of a text
abbrev pub type_of : List Text → Option (Bor ParameterWords) → Option ParameterType
type_of words = option_map (λ kind. parameter_type words kind.now)

abbrev pub symbol_of : List Text → Option (Bor ParameterWords) → Setting → Symbol
symbol_of words kind setting = parameter_symbol (type_of words kind) (setting_tree words setting)

abbrev pub symbols_of : List Text → ParameterWords → List Setting → List Symbol
symbols_of words kind list = map (parameter_symbol (Some (parameter_type words kind))) (map (setting_tree words) list)

-- what is said from outside, told of the program's values
pub record OverrideEntries : Type 0 where
  pub scope : Scope
  pub values : List ConnectionEntry

abbrev pub overrides_tree : List Text → OverrideEntries → Overrides
overrides_tree words overrides = record { scope = overrides.scope; values = entries_tree words overrides.values }

abbrev pub instance_symbols : List Text → List Instance → List Symbol
instance_symbols words list = map (λ one. instance_symbol one.name) (map (instance_tree words) list)

abbrev pub event_symbols : List Text → List Token → List Symbol
event_symbols words names = map event_symbol (map (word_of words) names)

abbrev pub valueless_in : List Text → List ModuleItem → List Symbol
valueless_in words items = flat_map valueless_by (map (item_tree words) items)

abbrev pub symbols_at_head : {X : Type 0} → List Text → Option (Vec HeadWords X) → List Symbol
symbols_at_head {X = X} words list = symbols_in_head (option_map (λ (heads : Vec HeadWords X). map (head_parameter words) heads.items) list)

-- the names that are declared together, in the words of a text
abbrev pub texts_of : List Text → List Declared → List Word
texts_of words list = map (λ one. word_of words one.name) list

-- the names of ports, and those behind them that items declare
abbrev pub port_texts : List Text → List PortForm → List Word
port_texts words ports = map (λ p. p.name) (map (port_form words) ports)

abbrev pub names_before : List Text → List Text → List PortForm → List ModuleItem → List Word
names_before words made ports items = port_texts words ports ++ declared_in (own_in words made items)

-- and those behind them that a module declares
abbrev pub names_declared : List Text → List PortForm → Parsed → List Word
names_declared words ports unit = port_texts words ports ++ map (λ d. d.name) (declarations (module_tree words unit))

-- the names of a declaration that are none of these ports, and their variables
abbrev pub own_texts : List Text → List Text → List Declared → List Word
own_texts words made list = filter (λ word. not (is_declared made word.letters)) (texts_of words list)

abbrev pub own_trees : List Text → List Text → List Declared → List DeclaredTree
own_trees words made list = filter (λ one. not (is_declared made one.name.letters)) (map (declared_tree words) list)

abbrev pub own_variables : List Text → List Text → Text → Form → List Declared → List design.Variable
own_variables words made path form list = variables_in path form (own_trees words made list)

abbrev pub formed_variables : List Text → List Text → Text → Form → DeclarationWords → List Declared → List design.Variable
formed_variables words made path form kind list =
    variables_as path form (declaration_kind words kind) (own_names (is_declared made) (declaration_kind words kind) (map (declared_tree words) list))

abbrev pub own_tree : List Text → List Text → ModuleItem → ItemTree
own_tree words made item = own_item (is_declared made) (item_tree words item)

-- the variables of names declared in this form
abbrev pub variables_by : List Text → Text → Form → List Declared → List design.Variable
variables_by words path form list = variables_in path form (map (declared_tree words) list)

-- a declaration, as an item
abbrev pub kind_item : List Text → DeclarationWords → List Declared → ItemTree
kind_item words kind list = declaration (declaration_kind words kind) (map (declared_tree words) list)

abbrev pub own_kind : List Text → List Text → DeclarationWords → List Declared → ItemTree
own_kind words made kind list = own_item (is_declared made) (kind_item words kind list)
