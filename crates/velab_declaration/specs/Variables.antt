-- *trusted*: The variables of an instance (IEEE 1364-2005, 4.2, 4.3.1, 4.8).
use Rattle.std.specs.Prelude.{ℕ, ◌==◌, Bool, true, false, ◌&&◌, if◌then◌else◌, List, [], ◌∷◌, ◌++◌, map, length, Option, None, Some, Result, Ok, not}
use Rattle.std.specs.List.{flat_map}
use Rattle.vbits.specs.declared.bit4.Bit4.TheVariants.{X}
use Rattle.vbits.specs.Vectors.{filled}
use Rattle.vwords.specs.Words.{Text}
use Rattle.vast.specs.NumberedWords.{Word}
use Rattle.vmodules.specs.Ports.{Second, Port, type_in, ports_of, own_items, is_plain_list}
use Rattle.vmodules.specs.declared.ports.PortKind.{PortKind}
use Rattle.vmodules.specs.declared.ports.PortKind.TheVariants as ports
use Rattle.vast.specs.NumberedModules.{RangeTree, DeclarationKind, variables, integers, directed, DeclaredTree, ItemTree, parameters, declaration, events, assignments, initial, always, instances, ModuleTree}
use Rattle.vast.specs.declared.module.NetKind.{NetKind}
use Rattle.vast.specs.declared.module.NetKind.TheVariants as net
use Rattle.vdesign.specs.Design as design
use Rattle.vdesign.specs.declared.design.Kind.{Kind}
use Rattle.vdesign.specs.declared.design.Kind.TheVariants.{Reg, Integer, Wire, Time}
use Rattle.vdesign.specs.declared.expression.Bounds.{Bounds}
use Rattle.velab_expr.specs.declared.fault.ElabFault.{ElabFault}
use Rattle.velab_expr.specs.Scopes.{Scope, at}
use Rattle.velab_expr.specs.Ranges.{span, lower_bounds}
use Rattle.velab_expr.specs.Answers.{◌>>=◌, require}
use Rattle.velab_expr.specs.declared.fault.Rule.TheVariants as rule
use Rattle.velab_declaration.specs.declared.variable.Form.{Form}
use Rattle.velab_expr.specs.Symbols.{behind_item}

pub record Declaration : Type 0 where
  pub name : Word
  pub kind : Kind
  pub signed : Bool
  pub range : Option RangeTree

abbrev pub declaration_with : Kind → Bool → Option RangeTree → Word → Declaration
declaration_with kind signed range name = record { name = name; kind = kind; signed = signed; range = range }

-- the name of each, declared as of this kind, with this sign and this range
abbrev pub all_declared : Kind → Bool → Option RangeTree → List DeclaredTree → List Declaration
all_declared kind signed range list = map (declaration_with kind signed range) (map (λ one. one.name) list)

-- 4.2.1, 4.2.2
abbrev pub kind_of : NetKind → Kind
kind_of net.Wire = Wire
kind_of net.Reg = Reg

-- 4.8: an integer has a sign, a time has none
abbrev pub integer_kind : Bool → Kind
integer_kind long = if long then Time else Integer

abbrev pub declared_as : DeclarationKind → List DeclaredTree → List Declaration
declared_as (variables word type) list = all_declared (kind_of word) type.signed type.range list
declared_as (integers long) list = all_declared (integer_kind long) (not long) None list
declared_as (directed direction) list = []  -- 12.3.3: these stand with the ports

abbrev pub declarations_of : ItemTree → List Declaration
declarations_of (parameters local type settings) = []
declarations_of (declaration kind list) = declared_as kind list
declarations_of (events names) = []
declarations_of (assignments settings) = []
declarations_of (initial statement) = []
declarations_of (always statement) = []
declarations_of (instances letters overrides list) = []

-- in the order of the text, without those that are ports (12.3.3)
abbrev pub declarations : ModuleTree → List Declaration
declarations m = flat_map declarations_of (own_items m)

abbrev pub port_names : ModuleTree → List Word
port_names m = map (λ p. p.name) (ports_of m)

-- those of its ports, and then of what its items declare
abbrev pub declared_names : ModuleTree → List Word
declared_names m = port_names m ++ map (λ d. d.name) (declarations m)

-- A.2.1.2: a port is declared as what it is
abbrev pub declared_kind : PortKind → Kind
declared_kind ports.Wire = Wire
declared_kind ports.Reg = Reg
declared_kind ports.Integer = Integer
declared_kind ports.Time = Time

-- and signed where its type is; 4.8: an `integer` has a sign, a `time` has none
abbrev pub declared_signed : PortKind → Bool → Bool
declared_signed ports.Wire signed = signed
declared_signed ports.Reg signed = signed
declared_signed ports.Integer signed = true
declared_signed ports.Time signed = false

abbrev pub port_kind : Port → Kind
port_kind p = declared_kind p.kind

abbrev pub port_signed : Port → Bool
port_signed p = declared_signed p.kind p.type.signed

-- 12.3.3: a port is declared where it stands
abbrev pub port_declaration : Port → Declaration
port_declaration p = declaration_with (port_kind p) (port_signed p) p.type.range p.name

-- without a range a `reg` or a `wire` has 1 bit, an `integer` 32, a `time` 64 (4.8)
abbrev pub length_of : Kind → Option Bounds → ℕ
length_of kind (Some bounds) = span bounds
length_of Reg None = 1
length_of Integer None = 32
length_of Time None = 64
length_of Wire None = 1

-- its name stands behind its instance's path and a dot; which of its bits are z at first is told by the whole design (`with_start_values`)
abbrev pub variable_in : Text → Form → Text → design.Variable
variable_in path form text = record {
  name = path ++ 46 ∷ text;
  kind = form.kind;
  length = length_of form.kind form.bounds;
  signed = form.signed;
  start = filled (length_of form.kind form.bounds) X;
  bounds = form.bounds;
}

-- ---- what is declared, lowered to the variables of a design

abbrev pub form_of : NetKind → Bool → Option Bounds → Form
form_of word signed bounds = record { kind = kind_of word; signed = signed; bounds = bounds }

-- what a port is, within these bounds
abbrev pub port_form : Port → Option Bounds → Form
port_form p bounds = record { kind = port_kind p; signed = port_signed p; bounds = bounds }

-- what a declaration says of each of its names
abbrev pub lower_kind : Scope → DeclarationKind → Result Form ElabFault
lower_kind scope (variables word type) = lower_bounds scope type.range >>= λ bounds. Ok (form_of word type.signed bounds)
lower_kind scope (integers long) = Ok (record { kind = integer_kind long; signed = not long; bounds = None })
lower_kind scope (directed direction) = lower_bounds scope (type_in direction).range >>= λ bounds. Ok (form_of net.Wire (type_in direction).signed bounds)

-- a variable for each name
abbrev pub variables_in : Text → Form → List DeclaredTree → List design.Variable
variables_in path form list = map (λ one. variable_in path form one.name.letters) list

abbrev pub variables_as : Text → Form → DeclarationKind → List DeclaredTree → List design.Variable
variables_as path form (variables word type) list = variables_in path form list
variables_as path form (integers long) list = variables_in path form list
variables_as path form (directed direction) list = []  -- 12.3.3: these stand with the ports

abbrev pub lower_names : Text → Scope → DeclarationKind → List DeclaredTree → Result (List design.Variable) ElabFault
lower_names path scope kind list = lower_kind scope kind >>= λ form. Ok (variables_as path form kind list)

abbrev pub lower_declaration : Text → Scope → ItemTree → Result (List design.Variable) ElabFault
lower_declaration path scope (parameters local type settings) = Ok []
lower_declaration path scope (declaration kind list) = lower_names path scope kind list
lower_declaration path scope (events names) = Ok []
lower_declaration path scope (assignments settings) = Ok []
lower_declaration path scope (initial statement) = Ok []
lower_declaration path scope (always statement) = Ok []
lower_declaration path scope (instances letters overrides list) = Ok []

-- in the order of the text, each in the scope of its place
abbrev pub lower_variables : Text → Scope → List ItemTree → Result (List design.Variable) ElabFault
lower_variables path scope [] = Ok []
lower_variables path scope (item ∷ more) =
    lower_declaration path scope item >>= λ front. lower_variables path (behind_item scope item) more >>= λ others. Ok (front ++ others)

-- 12.3.3: where a port is declared again its range is the same, which is told by the name that stands again
abbrev pub same_bounds : Option Bounds → Option Bounds → Bool
same_bounds None None = true
same_bounds None (Some other) = false
same_bounds (Some bounds) None = false
same_bounds (Some bounds) (Some other) = bounds.left == other.left && bounds.right == other.right

abbrev pub lower_again : Scope → Option Second → Option Bounds → Result (Option Bounds) ElabFault
lower_again scope None bounds = Ok bounds
lower_again scope (Some second) bounds =
    lower_bounds scope second.type.range >>= λ other. require (same_bounds bounds other) rule.Width (Some second.name) bounds

-- 12.3.3: a port is declared where it stands
abbrev pub lower_port : Text → Scope → Port → Result design.Variable ElabFault
lower_port path scope p =
    lower_bounds scope p.type.range >>= λ bounds.
    lower_again scope p.again bounds >>= λ whole.
    Ok (variable_in path (port_form p whole) p.name.letters)

abbrev pub lower_ports : Text → Scope → List Port → Result (List design.Variable) ElabFault
lower_ports path scope [] = Ok []
lower_ports path scope (p ∷ more) = lower_port path scope p >>= λ one. lower_ports path scope more >>= λ others. Ok (one ∷ others)

-- 12.3.2: ports that items declare stand behind all of these
abbrev pub port_scope : ModuleTree → Scope → Scope
port_scope m scope = if is_plain_list m.ports then at scope (length scope.others) else scope
