-- The names of a design are names where those of its text are: paths of the grammar's names, one for each variable.
use Rattle.std.proofs.Common.{◌≡◌, ◌≢◌, ℕ, zero, suc, ◌<◌, ◌+◌, Bool, true, false, ◌&&◌, not, List, [], ◌∷◌, ◌++◌, map, length, Option, Some, None, Result, Ok, Err, refl, sym, ap, subst, ◌∙◌, true≢false, arith}
use Rattle.std.specs.Prelude.{slice_get, cond, if◌then◌else◌, is_some, nat_le, filter, option_map}
use Rattle.std.specs.List.{list_all, find}
use Rattle.std.specs.Option.{option_or}
use Rattle.std.specs.Str.{bytes_eq}
use Rattle.std.proofs.lemmas.List.Folds.{list_all-append}
use Rattle.std.proofs.lemmas.Slice.Eq.{bytes_eq-Decides}
use Rattle.basis.proofs.Bools.{and_left, and_right, and_both, or_left, or_right, or_first, or_second}
use Rattle.basis.specs.declared.timescale.Timescale.{Timescale}
use Rattle.vwords.specs.Words.{Text, is_name, without_backslash, is_printable, are_printable}
use Rattle.vwords.specs.Names.{is_path}
use Rattle.vast.specs.Modules.{DerivesText, SourceTree as PlainTree, fits, fits_module, fits_item, fits_declared, fits_optional, fits_optional_parameters, fits_optional_ports, fits_port, fits_direction, fits_declaration_kind, fits_overrides, fits_instance, fits_connections, fits_behind, is_named_port, is_directed, are_some}
use Rattle.vast.specs.Modules as plain
use Rattle.vast.specs.NumberedWords.{Word}
use Rattle.vast.specs.NumberedModules.{ConnectionsTree, InstanceTree, ItemTree, parameters, declaration, variables, integers, directed, events, assignments, initial, always, instances, DeclarationKind, DirectionTree, input, output, output_integer, PortTree, ModuleTree, SourceTree, RangeTree, DeclaredTree}
use Rattle.vast.specs.NumberedTexts.{IsNumbered}
use Rattle.vast.specs.TreeWords.{declared_with, instance_with, item_with, port_with, module_with, source_with}
use Rattle.vwords.proofs.NameLemmas.{name_printable}
use Rattle.vmodules.specs.Names.{has_double, is_declared, letters_of, first_again}
use Rattle.vmodules.specs.Connected.{open_names, misfit, misfit_if}
use Rattle.vmodules.specs.Hierarchy.{instantiated_names, module_names, module_of, rival_of, roots, only_of, top_of}
use Rattle.vmodules.specs.Ports.{Port, port_by, ports_behind, direction_for, declared_port, ports_listed, ports_of, plain_names, own_names, own_item, own_items}
use Rattle.vdesign.specs.Named.{AreNamed}
use Rattle.vdesign.specs.Design.{Variable, Design}
use Rattle.vdesign.specs.declared.design.Kind.{Kind}
use Rattle.velab_expr.specs.Scopes.{Scope}
use Rattle.velab_expr.specs.Symbols.{behind_item, symbols_by}
use Rattle.velab_declaration.specs.Variables.{port_names, Declaration, all_declared, kind_of, declared_as, declarations_of, port_declaration, variable_in, port_form, variables_in, variables_as, lower_kind, lower_declaration, lower_variables, lower_again, port_scope, lower_ports, integer_kind}
use Rattle.velab_declaration.specs.declared.variable.Form.{Form}
use Rattle.velab_declaration.specs.Drives.{Place, with_start_values}
use Rattle.velab_expr.specs.Answers.{◌>>=◌, answer_if, require, value_or_fault}
use Rattle.velab_expr.specs.Ranges.{lower_bounds}
use Rattle.velab_expr.specs.declared.fault.ElabFault.{ElabFault}
use Rattle.vdesign.specs.declared.expression.Bounds.{Bounds}
use Rattle.velab_expr.specs.declared.fault.Rule.{Rule}
use Rattle.velab_expr.specs.declared.fault.Rule.TheVariants.{Doubled, Ports, TooMany, Top}
use Rattle.velab_expr.specs.Rules.{broken_if}
use Rattle.velab_expr.proofs.FaultLemmas.{first_right}
use Rattle.vhierarchy.specs.Instances.{unless_word, value_unless_fault, Instantiation, instantiation_by, lower_instance, lower_list, named_again, lower_instances_of, lower_instances_by, lower_instances, PartialDesign, Context, lower_names, lower_own_variables, lower_own_processes, with_own, few_enough, lower_own, child_context, each, elaborate_instance, nothing, top_context, elaborate_top, variable_paths, driven_in, design_by, broken_paths, broken_table, broken_design, Whole, check, whole_of, broken_ports, unless_fault, top_whole, elaborated_whole, as_design, Elaborates}

-- ---- letters and paths

some_all : (text : Text) → are_printable text ≡ true → list_all is_printable text ≡ true
some_all [] e = refl
some_all (c ∷ cs) e = e

-- a path, a dot and a name
dotted_is_path : (scope text : Text) → is_path scope ≡ true → are_printable text ≡ true → is_path (scope ++ 46 ∷ text) ≡ true
dotted_is_path [] text e h = absurd (true≢false (sym e))
dotted_is_path (c ∷ cs) text e h =
    list_all-append is_printable (c ∷ cs) (46 ∷ text) ∙ and_both (list_all is_printable (c ∷ cs)) (list_all is_printable text) e (some_all text h)

-- ---- declared names, and those of instances

abbrev names : List Declaration → List Text
names = map (λ d. d.name.letters)

abbrev instance_names : ItemTree → List Text
instance_names (parameters local type settings) = []
instance_names (declaration kind list) = []
instance_names (events list) = []
instance_names (assignments settings) = []
instance_names (initial statement) = []
instance_names (always statement) = []
instance_names (instances text overrides list) = map (λ one. one.name.letters) list

abbrev item_is_named : ItemTree → Bool
item_is_named item = list_all are_printable (names (declarations_of item)) && list_all are_printable (instance_names item)

abbrev ports_are_named : ModuleTree → Bool
ports_are_named m = list_all are_printable (names (map port_declaration (ports_of m)))

abbrev is_named : ModuleTree → Bool
is_named m = are_printable m.name.letters && (ports_are_named m && list_all item_is_named m.items)

abbrev wanted_is_named : Instantiation → Bool
wanted_is_named w = are_printable w.name.letters && is_named w.child

-- ---- what the grammar derives has its names; it knows trees without numbers, and with backslashes

abbrev letters_in : Word → Text
letters_in word = word.letters

passes : {A B : Type 0} (f : A → B) (p : B → Bool) (q : A → Bool) → ((one : A) → p (f one) ≡ true → q one ≡ true) →
    (list : List A) → list_all p (map f list) ≡ true → list_all q list ≡ true
passes f p q step [] all = refl
passes f p q step (one ∷ more) all =
    and_both (q one) (list_all q more) (step one (and_left (p (f one)) (list_all p (map f more)) all)) (passes f p q step more (and_right (p (f one)) (list_all p (map f more)) all))

-- the names of a tree without numbers, as a design has them
abbrev shows_declared : plain.DeclaredTree → Bool
shows_declared declared = are_printable declared.name

abbrev shows_instance : plain.InstanceTree → Bool
shows_instance instance = are_printable instance.name

abbrev shows_port : plain.PortTree → Bool
shows_port port = are_printable port.name

abbrev shows_ports : Option (List plain.PortTree) → Bool
shows_ports None = true
shows_ports (Some list) = list_all shows_port list

abbrev shows_item : plain.ItemTree → Bool
shows_item (parameters local type settings) = true
shows_item (declaration kind list) = list_all shows_declared list
shows_item (events list) = true
shows_item (assignments settings) = true
shows_item (initial statement) = true
shows_item (always statement) = true
shows_item (instances name overrides list) = list_all shows_instance list

abbrev shows_module : plain.ModuleTree → Bool
shows_module m = are_printable m.name && (shows_ports m.ports && list_all shows_item m.items)

-- what passes one test passes another when it is changed
changed : {A B : Type 0} (f : A → B) (p : A → Bool) (q : B → Bool) → ((one : A) → p one ≡ true → q (f one) ≡ true) →
    (list : List A) → list_all p list ≡ true → list_all q (map f list) ≡ true
changed f p q step [] all = refl
changed f p q step (one ∷ more) all =
    and_both (q (f one)) (list_all q (map f more)) (step one (and_left (p one) (list_all p more) all))
    (changed f p q step more (and_right (p one) (list_all p more) all))

declared_shows : (one : plain.DeclaredTree) → fits_declared 64 one ≡ true → shows_declared (declared_with without_backslash one) ≡ true
declared_shows one fit = name_printable one.name (and_left (is_name one.name) (fits_optional 64 one.value) fit)

instance_shows : (one : plain.InstanceTree) → fits_instance 64 one ≡ true → shows_instance (instance_with without_backslash one) ≡ true
instance_shows one fit = name_printable one.name (and_left (is_name one.name) (fits_connections 64 one.connections) fit)

port_shows : (one : plain.PortTree) → fits_port 64 one ≡ true → shows_port (port_with without_backslash one) ≡ true
port_shows one fit =
    name_printable one.name (and_left (is_name one.name) (fits_optional 64 one.value) (and_right (fits_direction 64 one.direction) (is_name one.name && fits_optional 64 one.value) fit))

named_port_shows : (one : plain.PortTree) → is_named_port one ≡ true → shows_port (port_with without_backslash one) ≡ true
named_port_shows one fit =
    name_printable one.name (and_left (is_name one.name) (not (is_some one.value)) (and_right (not (is_directed one.direction)) (is_name one.name && not (is_some one.value)) fit))

item_shows : (item : plain.ItemTree) → fits_item 64 item ≡ true → shows_item (item_with without_backslash item) ≡ true
item_shows (parameters local type settings) fit = refl
item_shows (declaration kind list) fit =
    changed (declared_with without_backslash) (fits_declared 64) shows_declared declared_shows list
    (and_right (nat_le 1 (length list)) (list_all (fits_declared 64) list) (and_right (fits_declaration_kind 64 kind) (are_some (fits_declared 64) list) fit))
item_shows (events list) fit = refl
item_shows (assignments settings) fit = refl
item_shows (initial statement) fit = refl
item_shows (always statement) fit = refl
item_shows (instances name overrides list) fit =
    changed (instance_with without_backslash) (fits_instance 64) shows_instance instance_shows list
    (and_right (nat_le 1 (length list)) (list_all (fits_instance 64) list) (and_right (is_name name && fits_overrides 64 overrides) (are_some (fits_instance 64) list) fit))

ports_show : (ports : Option (List plain.PortTree)) → fits_optional_ports 64 ports ≡ true → shows_ports (option_map (map (port_with without_backslash)) ports) ≡ true
ports_show None fit = refl
ports_show (Some []) fit = refl
ports_show (Some (port ∷ more)) fit = by port.direction fit
  where
    by : (direction : Option plain.DirectionTree) → fits_behind 64 direction (port ∷ more) ≡ true → list_all shows_port (map (port_with without_backslash) (port ∷ more)) ≡ true
    by None e = changed (port_with without_backslash) is_named_port shows_port named_port_shows (port ∷ more) e
    by (Some direction) e = changed (port_with without_backslash) (fits_port 64) shows_port port_shows (port ∷ more) e

module_shows : (m : plain.ModuleTree) → fits_module 64 m ≡ true → shows_module (module_with without_backslash m) ≡ true
module_shows m fit =
    let heads = fits_optional_parameters 64 m.parameters in
    let ports = fits_optional_ports 64 m.ports in
    let front : (is_name m.name && heads && ports) ≡ true = and_left (is_name m.name && heads && ports) (list_all (fits_item 64) m.items) fit in
    and_both (are_printable (without_backslash m.name)) (shows_ports (option_map (map (port_with without_backslash)) m.ports) && list_all shows_item (map (item_with without_backslash) m.items))
    (name_printable m.name (and_left (is_name m.name) heads (and_left (is_name m.name && heads) ports front)))
    (and_both (shows_ports (option_map (map (port_with without_backslash)) m.ports)) (list_all shows_item (map (item_with without_backslash) m.items))
    (ports_show m.ports (and_right (is_name m.name && heads) ports front))
    (changed (item_with without_backslash) (fits_item 64) shows_item item_shows m.items (and_right (is_name m.name && heads && ports) (list_all (fits_item 64) m.items) fit)))

all_show : (tree : PlainTree) → fits 64 tree ≡ true → list_all shows_module (source_with without_backslash tree) ≡ true
all_show tree fit = changed (module_with without_backslash) (fits_module 64) shows_module module_shows tree fit

-- ---- and so has the tree with numbers

all_declared_named : (kind : _) (signed : _) (range : _) (list : List DeclaredTree) →
    list_all shows_declared (map (declared_with letters_in) list) ≡ true → list_all are_printable (names (all_declared kind signed range list)) ≡ true
all_declared_named kind signed range [] fit = refl
all_declared_named kind signed range (one ∷ more) fit =
    let rest = list_all shows_declared (map (declared_with letters_in) more) in
    and_both (are_printable one.name.letters) (list_all are_printable (names (all_declared kind signed range more)))
    (and_left (are_printable one.name.letters) rest fit)
    (all_declared_named kind signed range more (and_right (are_printable one.name.letters) rest fit))

kind_named : (kind : DeclarationKind) (list : List DeclaredTree) → list_all shows_declared (map (declared_with letters_in) list) ≡ true →
    list_all are_printable (names (declared_as kind list)) ≡ true
kind_named (variables word type) list fit = all_declared_named (kind_of word) type.signed type.range list fit
kind_named (integers long) list fit = all_declared_named (integer_kind long) (not long) None list fit
kind_named (directed direction) list fit = refl

instances_named : (list : List InstanceTree) → list_all shows_instance (map (instance_with letters_in) list) ≡ true →
    list_all are_printable (map (λ (one : InstanceTree). one.name.letters) list) ≡ true
instances_named [] fit = refl
instances_named (one ∷ more) fit =
    let rest = list_all shows_instance (map (instance_with letters_in) more) in
    and_both (are_printable one.name.letters) (list_all are_printable (map (λ (x : InstanceTree). x.name.letters) more))
    (and_left (are_printable one.name.letters) rest fit) (instances_named more (and_right (are_printable one.name.letters) rest fit))

item_named : (item : ItemTree) → shows_item (item_with letters_in item) ≡ true → item_is_named item ≡ true
item_named (parameters local type settings) fit = refl
item_named (declaration kind declared) fit = and_both (list_all are_printable (names (declared_as kind declared))) true (kind_named kind declared fit) refl
item_named (events list) fit = refl
item_named (assignments list) fit = refl
item_named (initial statement) fit = refl
item_named (always statement) fit = refl
item_named (instances text overrides list) fit = instances_named list fit

port_name : (direction : Option DirectionTree) (text : Word) → (port_by direction text).name ≡ text
port_name None text = refl
port_name (Some (input wire type)) text = refl
port_name (Some (output net type)) text = refl
port_name (Some (output_integer long)) text = refl

ports_named : (before : Option DirectionTree) (list : List PortTree) → list_all shows_port (map (port_with letters_in) list) ≡ true →
    list_all are_printable (names (map port_declaration (ports_behind before list))) ≡ true
ports_named before [] fit = refl
ports_named before (port ∷ more) fit =
    let rest = list_all shows_port (map (port_with letters_in) more) in
    and_both (are_printable (port_by (option_or port.direction before) port.name).name.letters)
    (list_all are_printable (names (map port_declaration (ports_behind (option_or port.direction before) more))))
    (ap (λ (w : Word). are_printable w.letters) (port_name (option_or port.direction before) port.name) ∙ and_left (are_printable port.name.letters) rest fit)
    (ports_named (option_or port.direction before) more (and_right (are_printable port.name.letters) rest fit))

-- ports that items declare have the names of the list
plain_named : (items : List ItemTree) (list : List PortTree) → list_all shows_port (map (port_with letters_in) list) ≡ true →
    list_all are_printable (names (map port_declaration (map (λ port. declared_port items port.name) list))) ≡ true
plain_named items [] fit = refl
plain_named items (port ∷ more) fit =
    let rest = list_all shows_port (map (port_with letters_in) more) in
    and_both (are_printable (declared_port items port.name).name.letters)
    (list_all are_printable (names (map port_declaration (map (λ p. declared_port items p.name) more))))
    (ap (λ (w : Word). are_printable w.letters) (port_name (direction_for items port.name.letters) port.name) ∙ and_left (are_printable port.name.letters) rest fit)
    (plain_named items more (and_right (are_printable port.name.letters) rest fit))

listed_named : (items : List ItemTree) (list : Option (List PortTree)) → shows_ports (option_map (map (port_with letters_in)) list) ≡ true →
    list_all are_printable (names (map port_declaration (ports_listed items list))) ≡ true
listed_named items None fit = refl
listed_named items (Some []) fit = refl
listed_named items (Some (port ∷ more)) fit = by port.direction
  where
    plain_ports : List PortTree
    plain_ports = port ∷ more

    by : (direction : Option DirectionTree) →
        list_all are_printable (names (map port_declaration (if not (is_some direction) then map (λ p. declared_port items p.name) plain_ports else ports_behind None plain_ports))) ≡ true
    by None = plain_named items plain_ports fit
    by (Some direction) = ports_named None plain_ports fit

module_named : (m : ModuleTree) → shows_module (module_with letters_in m) ≡ true → is_named m ≡ true
module_named m fit =
    let ports = shows_ports (option_map (map (port_with letters_in)) m.ports) in
    let items = list_all shows_item (map (item_with letters_in) m.items) in
    let inner = and_right (are_printable m.name.letters) (ports && items) fit in
    and_both (are_printable m.name.letters) (ports_are_named m && list_all item_is_named m.items)
    (and_left (are_printable m.name.letters) (ports && items) fit)
    (and_both (ports_are_named m) (list_all item_is_named m.items) (listed_named m.items m.ports (and_left ports items inner))
    (passes (item_with letters_in) shows_item item_is_named item_named m.items (and_right ports items inner)))

all_named : (tree : SourceTree) → list_all shows_module (source_with letters_in tree) ≡ true → list_all is_named tree ≡ true
all_named tree fit = passes (module_with letters_in) shows_module is_named module_named tree fit

-- ---- modules that are found

found_passes : (p q : ModuleTree → Bool) (modules : List ModuleTree) (m : ModuleTree) → list_all q modules ≡ true → find p modules ≡ Some m → q m ≡ true
found_passes p q [] m all is = cc
found_passes p q (x ∷ xs) m all is = by (p x) is (found_passes p q xs m (and_right (q x) (list_all q xs) all))
  where
    by : (b : Bool) → cond b (Some x) (find p xs) ≡ Some m → (find p xs ≡ Some m → q m ≡ true) → q m ≡ true
    by true e later = let same : x ≡ m = cc in subst (λ (y : ModuleTree). q y ≡ true) same (and_left (q x) (list_all q xs) all)
    by false e later = later e

kept_pass : (p q : ModuleTree → Bool) (modules : List ModuleTree) → list_all q modules ≡ true → list_all q (filter p modules) ≡ true
kept_pass p q [] all = refl
kept_pass p q (x ∷ xs) all = by (p x) (kept_pass p q xs (and_right (q x) (list_all q xs) all))
  where
    by : (b : Bool) → list_all q (filter p xs) ≡ true → list_all q (cond b (x ∷ filter p xs) (filter p xs)) ≡ true
    by true later = and_both (q x) (list_all q (filter p xs)) (and_left (q x) (list_all q xs) all) later
    by false later = later

only_passes : (q : ModuleTree → Bool) (modules : List ModuleTree) (m : ModuleTree) → list_all q modules ≡ true → only_of modules ≡ Some m → q m ≡ true
only_passes q [] m all is = cc
only_passes q (x ∷ []) m all is = let same : x ≡ m = cc in subst (λ (y : ModuleTree). q y ≡ true) same (and_left (q x) true all)
only_passes q (x ∷ y ∷ more) m all is = cc

top_named : (tree : SourceTree) (top : Option Text) (m : ModuleTree) → list_all is_named tree ≡ true → top_of tree top ≡ Some m → is_named m ≡ true
top_named tree (Some text) m all is = found_passes (λ x. bytes_eq x.name.letters text) is_named tree m all is
top_named tree None m all is =
    only_passes is_named (roots tree) m (kept_pass (λ x. not (is_declared (instantiated_names tree) x.name.letters)) is_named tree all) is

-- ---- the instances of a module are named

-- each that an answer lists passes, and the one that an answer gives
abbrev all_pass : {A : Type 0} → (A → Bool) → Result (List A) ElabFault → Bool
all_pass p (Ok list) = list_all p list
all_pass p (Err fault) = true

abbrev passes_one : {A : Type 0} → (A → Bool) → Result A ElabFault → Bool
passes_one p (Ok x) = p x
passes_one p (Err fault) = true

all_told : {A : Type 0} (p : A → Bool) (a : Result (List A) ElabFault) (list : List A) → all_pass p a ≡ true → a ≡ Ok list → list_all p list ≡ true
all_told p a list all is = sym (ap (all_pass p) is) ∙ all

barred_pass : {A : Type 0} (p : A → Bool) (word : Option Word) (rule : Rule) (a : Result (List A) ElabFault) → all_pass p a ≡ true → all_pass p (unless_word word rule a) ≡ true
barred_pass p None rule a all = all
barred_pass p (Some word) rule a all = refl

barred_one : {A : Type 0} (p : A → Bool) (word : Option Word) (rule : Rule) (a : Result A ElabFault) → passes_one p a ≡ true → passes_one p (unless_word word rule a) ≡ true
barred_one p None rule a all = all
barred_one p (Some word) rule a all = refl

provided_pass : {A : Type 0} (p : A → Bool) (holds : Bool) (rule : Rule) (word : Option Word) (a : Result (List A) ElabFault) → all_pass p a ≡ true → all_pass p (answer_if holds rule word a) ≡ true
provided_pass p true rule word a all = all
provided_pass p false rule word a all = refl

one_passes : {A : Type 0} (p : A → Bool) (a : Result A ElabFault) (b : Result (List A) ElabFault) → passes_one p a ≡ true → all_pass p b ≡ true → all_pass p (a >>= λ x. b >>= λ others. Ok (x ∷ others)) ≡ true
one_passes p (Ok x) (Ok others) first second = and_both (p x) (list_all p others) first second
one_passes p (Ok x) (Err fault) first second = refl
one_passes p (Err fault) b first second = refl

both_pass : {A : Type 0} (p : A → Bool) (a : Result (List A) ElabFault) (b : List A → Result (List A) ElabFault) → all_pass p a ≡ true → ((front : List A) → all_pass p (b front) ≡ true) →
    all_pass p (a >>= λ front. b front >>= λ others. Ok (front ++ others)) ≡ true
both_pass {A} p (Ok front) b first second = by (b front) (second front)
  where
    by : (r : Result (List A) ElabFault) → all_pass p r ≡ true → all_pass p (r >>= λ others. Ok (front ++ others)) ≡ true
    by (Ok others) h = list_all-append p front others ∙ and_both (list_all p front) (list_all p others) first h
    by (Err fault) h = refl
both_pass p (Err fault) b first second = refl

list_named : (child : ModuleTree) (known : ℕ) (overrides : Option ConnectionsTree) (list : List InstanceTree) → is_named child ≡ true →
    list_all are_printable (map (λ (one : InstanceTree). one.name.letters) list) ≡ true → all_pass wanted_is_named (lower_list child known overrides list) ≡ true
list_named child known overrides [] e all = refl
list_named child known overrides (one ∷ more) e all =
    let fits : Option Word = misfit one.name (letters_of (port_names child)) one.connections in
    let given : Result Instantiation ElabFault = Ok (instantiation_by child known overrides one) in
    one_passes wanted_is_named (lower_instance child known overrides one) (lower_list child known overrides more)
    (barred_one wanted_is_named (misfit_if one.name (letters_of (open_names child)) overrides) Ports (unless_word fits Ports given)
    (barred_one wanted_is_named fits Ports given
    (and_both (are_printable one.name.letters) (is_named child) (and_left (are_printable one.name.letters) (list_all are_printable (map (λ (x : InstanceTree). x.name.letters) more)) all) e)))
    (list_named child known overrides more e (and_right (are_printable one.name.letters) (list_all are_printable (map (λ (x : InstanceTree). x.name.letters) more)) all))

of_named : (name : Word) (before known : ℕ) (child : Option ModuleTree) (overrides : Option ConnectionsTree) (list : List InstanceTree) →
    ((m : ModuleTree) → child ≡ Some m → is_named m ≡ true) → list_all are_printable (map (λ (one : InstanceTree). one.name.letters) list) ≡ true →
    all_pass wanted_is_named (lower_instances_of name before known child overrides list) ≡ true
of_named name before known None overrides list e all = refl
of_named name before known (Some child) overrides list e all =
    provided_pass wanted_is_named (nat_le (before + length list) 1024) TooMany (Some name) (unless_word (named_again child) Doubled (lower_list child known overrides list))
    (barred_pass wanted_is_named (named_again child) Doubled (lower_list child known overrides list) (list_named child known overrides list (e child refl) all))

module _ (modules : SourceTree) (named : list_all is_named modules ≡ true) where
  by_named : (before known : ℕ) (item : ItemTree) → item_is_named item ≡ true → all_pass wanted_is_named (lower_instances_by modules before known item) ≡ true
  by_named before known (parameters local type settings) e = refl
  by_named before known (declaration kind list) e = refl
  by_named before known (events list) e = refl
  by_named before known (assignments settings) e = refl
  by_named before known (initial statement) e = refl
  by_named before known (always statement) e = refl
  by_named before known (instances text overrides list) e =
      of_named text before known (module_of modules text.letters) overrides list (λ m is. found_passes (λ x. bytes_eq x.name.letters text.letters) is_named modules m named is) e

  from_named : (before known : ℕ) (items : List ItemTree) → list_all item_is_named items ≡ true → all_pass wanted_is_named (lower_instances modules before known items) ≡ true
  from_named before known [] e = refl
  from_named before known (item ∷ more) e =
      both_pass wanted_is_named (lower_instances_by modules before known item) (λ front. lower_instances modules (before + length front) (known + length (symbols_by item)) more)
      (by_named before known item (and_left (item_is_named item) (list_all item_is_named more) e))
      (λ front. from_named (before + length front) (known + length (symbols_by item)) more (and_right (item_is_named item) (list_all item_is_named more) e))

-- ---- the variables have paths

abbrev all_paths : List Variable → Bool
all_paths = list_all (λ v. is_path v.name)

-- where there are variables, they have paths
abbrev have_paths : Result (List Variable) ElabFault → Bool
have_paths = all_pass (λ v. is_path v.name)

module _ (path : Text) (e : is_path path ≡ true) where
  declared_paths : (form : Form) (kind : Kind) (signed : Bool) (range : Option RangeTree) (list : List DeclaredTree) →
      list_all are_printable (names (all_declared kind signed range list)) ≡ true → all_paths (variables_in path form list) ≡ true
  declared_paths form kind signed range [] all = refl
  declared_paths form kind signed range (one ∷ more) all =
      and_both (is_path (path ++ 46 ∷ one.name.letters)) (all_paths (variables_in path form more))
      (dotted_is_path path one.name.letters e (and_left (are_printable one.name.letters) (list_all are_printable (names (all_declared kind signed range more))) all))
      (declared_paths form kind signed range more (and_right (are_printable one.name.letters) (list_all are_printable (names (all_declared kind signed range more))) all))

  kind_paths : (form : Form) (kind : DeclarationKind) (list : List DeclaredTree) → list_all are_printable (names (declared_as kind list)) ≡ true → all_paths (variables_as path form kind list) ≡ true
  kind_paths form (variables word type) list all = declared_paths form (kind_of word) type.signed type.range list all
  kind_paths form (integers long) list all = declared_paths form (integer_kind long) (not long) None list all
  kind_paths form (directed direction) list all = refl

  item_paths : (scope : Scope) (item : ItemTree) → list_all are_printable (names (declarations_of item)) ≡ true → have_paths (lower_declaration path scope item) ≡ true
  item_paths scope (parameters local type settings) all = refl
  item_paths scope (declaration kind list) all = by (lower_kind scope kind)
    where
      by : (a : Result Form ElabFault) → have_paths (a >>= λ form. Ok (variables_as path form kind list)) ≡ true
      by (Ok form) = kind_paths form kind list all
      by (Err fault) = refl
  item_paths scope (events list) all = refl
  item_paths scope (assignments settings) all = refl
  item_paths scope (initial statement) all = refl
  item_paths scope (always statement) all = refl
  item_paths scope (instances text overrides list) all = refl

  paths_from : (scope : Scope) (items : List ItemTree) → list_all item_is_named items ≡ true → have_paths (lower_variables path scope items) ≡ true
  paths_from scope [] all = refl
  paths_from scope (item ∷ more) all =
      both_pass (λ (v : Variable). is_path v.name) (lower_declaration path scope item) (λ front. lower_variables path (behind_item scope item) more)
      (item_paths scope item
      (and_left (list_all are_printable (names (declarations_of item))) (list_all are_printable (instance_names item)) (and_left (item_is_named item) (list_all item_is_named more) all)))
      (λ front. paths_from (behind_item scope item) more (and_right (item_is_named item) (list_all item_is_named more) all))

  port_paths : (scope : Scope) (ports : List Port) → list_all are_printable (names (map port_declaration ports)) ≡ true → have_paths (lower_ports path scope ports) ≡ true
  port_paths scope [] all = refl
  port_paths scope (p ∷ ps) all =
      by (lower_bounds scope p.type.range) (λ bounds. lower_again scope p.again bounds) (lower_ports path scope ps)
      (port_paths scope ps (and_right (are_printable p.name.letters) (list_all are_printable (names (map port_declaration ps))) all))
    where
      whole : (a : Result (Option Bounds) ElabFault) (b : Result (List Variable) ElabFault) → have_paths b ≡ true →
          have_paths ((a >>= λ bounds. Ok (variable_in path (port_form p bounds) p.name.letters)) >>= λ one. b >>= λ others. Ok (one ∷ others)) ≡ true
      whole (Ok bounds) (Ok others) rest =
          and_both (is_path (path ++ 46 ∷ p.name.letters)) (all_paths others)
          (dotted_is_path path p.name.letters e (and_left (are_printable p.name.letters) (list_all are_printable (names (map port_declaration ps))) all)) rest
      whole (Ok bounds) (Err fault) rest = refl
      whole (Err fault) b rest = refl

      by : (a : Result (Option Bounds) ElabFault) (again : Option Bounds → Result (Option Bounds) ElabFault) (b : Result (List Variable) ElabFault) → have_paths b ≡ true →
          have_paths ((a >>= λ bounds. again bounds >>= λ same. Ok (variable_in path (port_form p same) p.name.letters)) >>= λ one. b >>= λ others. Ok (one ∷ others)) ≡ true
      by (Ok bounds) again b rest = whole (again bounds) b rest
      by (Err fault) again b rest = refl

-- without the ports of a list of names alone
own_declared : (is_port : Text → Bool) (kind : Kind) (signed : Bool) (range : Option RangeTree) (list : List DeclaredTree) →
    list_all are_printable (names (all_declared kind signed range list)) ≡ true →
    list_all are_printable (names (all_declared kind signed range (filter (λ one. not (is_port one.name.letters)) list))) ≡ true
own_declared is_port kind signed range [] all = refl
own_declared is_port kind signed range (one ∷ more) all =
    by (is_port one.name.letters)
    (own_declared is_port kind signed range more (and_right (are_printable one.name.letters) (list_all are_printable (names (all_declared kind signed range more))) all))
  where
    rest : List DeclaredTree
    rest = filter (λ one. not (is_port one.name.letters)) more

    by : (b : Bool) → list_all are_printable (names (all_declared kind signed range rest)) ≡ true →
        list_all are_printable (names (all_declared kind signed range (if not b then one ∷ rest else rest))) ≡ true
    by true later = later
    by false later =
        and_both (are_printable one.name.letters) (list_all are_printable (names (all_declared kind signed range rest)))
        (and_left (are_printable one.name.letters) (list_all are_printable (names (all_declared kind signed range more))) all) later

own_kind_named : (is_port : Text → Bool) (kind : DeclarationKind) (list : List DeclaredTree) → list_all are_printable (names (declared_as kind list)) ≡ true →
    list_all are_printable (names (declared_as kind (own_names is_port kind list))) ≡ true
own_kind_named is_port (variables word type) list all = own_declared is_port (kind_of word) type.signed type.range list all
own_kind_named is_port (integers long) list all = all
own_kind_named is_port (directed direction) list all = refl

own_item_named : (is_port : Text → Bool) (item : ItemTree) → item_is_named item ≡ true → item_is_named (own_item is_port item) ≡ true
own_item_named is_port (parameters local type settings) all = all
own_item_named is_port (declaration kind list) all =
    and_both (list_all are_printable (names (declared_as kind (own_names is_port kind list)))) true
    (own_kind_named is_port kind list (and_left (list_all are_printable (names (declared_as kind list))) true all)) refl
own_item_named is_port (events list) all = all
own_item_named is_port (assignments settings) all = all
own_item_named is_port (initial statement) all = all
own_item_named is_port (always statement) all = all
own_item_named is_port (instances text overrides list) all = all

own_items_named : (is_port : Text → Bool) (items : List ItemTree) → list_all item_is_named items ≡ true → list_all item_is_named (map (own_item is_port) items) ≡ true
own_items_named is_port [] all = refl
own_items_named is_port (item ∷ more) all =
    and_both (item_is_named (own_item is_port item)) (list_all item_is_named (map (own_item is_port) more))
    (own_item_named is_port item (and_left (item_is_named item) (list_all item_is_named more) all))
    (own_items_named is_port more (and_right (item_is_named item) (list_all item_is_named more) all))

-- where there is a part, its variables have paths
abbrev part_paths : Result PartialDesign ElabFault → Bool
part_paths (Ok part) = all_paths part.variables
part_paths (Err fault) = true

then_paths : {A : Type 0} (a : Result A ElabFault) (rest : A → Result PartialDesign ElabFault) → ((x : A) → a ≡ Ok x → part_paths (rest x) ≡ true) → part_paths (a >>= rest) ≡ true
then_paths (Ok x) rest h = h x refl
then_paths (Err fault) rest h = refl

few_paths : (name : Word) (part : PartialDesign) → all_paths part.variables ≡ true → part_paths (few_enough name part) ≡ true
few_paths name part all = by (nat_le (length part.begins) 256) (nat_le (length part.scopes) 1025)
  where
    by : (a b : Bool) → part_paths (answer_if a TooMany (Some name) (require b TooMany (Some name) part)) ≡ true
    by true true = all
    by true false = refl
    by false b = refl

own_paths : (context : Context) (ports : List Port) (scope : Scope) (part : PartialDesign) → is_path context.path ≡ true →
    list_all are_printable (names (map port_declaration ports)) ≡ true → list_all item_is_named context.unit.items ≡ true →
    all_paths part.variables ≡ true → part_paths (lower_own context ports scope part) ≡ true
own_paths context ports scope part e ports_named items_named before =
    let path : Text = context.path in
    let own : have_paths (lower_own_variables context ports scope) ≡ true =
    both_pass (λ (v : Variable). is_path v.name) (lower_ports path (port_scope context.unit scope) ports) (λ front. lower_variables path scope (own_items context.unit))
    (port_paths path e (port_scope context.unit scope) ports ports_named)
    (λ front. paths_from path e scope (own_items context.unit)
    (own_items_named (is_declared (letters_of (plain_names context.unit.ports))) context.unit.items items_named)) in
    then_paths (lower_own_variables context ports scope) _
    (λ variables is. then_paths (lower_own_processes context ports scope part.table) _
    (λ processes given. few_paths context.name (with_own context scope part variables processes)
    (list_all-append (λ (v : Variable). is_path v.name) part.variables variables
    ∙ and_both (all_paths part.variables) (all_paths variables) before (all_told (λ (v : Variable). is_path v.name) (lower_own_variables context ports scope) variables own is))))

each_keeps : (step : PartialDesign → Instantiation → Result PartialDesign ElabFault) (good : Instantiation → Bool) →
    ((part : PartialDesign) (one : Instantiation) → good one ≡ true → all_paths part.variables ≡ true → part_paths (step part one) ≡ true) →
    (list : List Instantiation) (part : PartialDesign) → list_all good list ≡ true → all_paths part.variables ≡ true → part_paths (each step part list) ≡ true
each_keeps step good keeps [] part all before = before
each_keeps step good keeps (one ∷ more) part all before =
    then_paths (step part one) (λ next. each step next more)
    (λ next is. each_keeps step good keeps more next (and_right (good one) (list_all good more) all)
    (sym (ap part_paths is) ∙ keeps part one (and_left (good one) (list_all good more) all) before))

module _ (modules : SourceTree) (named : list_all is_named modules ≡ true) where
  grown_paths : (levels : ℕ) (part : PartialDesign) (context : Context) → is_path context.path ≡ true → is_named context.unit ≡ true →
      all_paths part.variables ≡ true → part_paths (elaborate_instance levels modules part context) ≡ true
  grown_paths zero part context e unit before = refl
  grown_paths (suc levels) part context e unit before =
      let inner = and_right (are_printable context.unit.name.letters) (ports_are_named context.unit && list_all item_is_named context.unit.items) unit in
      let ports = and_left (ports_are_named context.unit) (list_all item_is_named context.unit.items) inner in
      let items = and_right (ports_are_named context.unit) (list_all item_is_named context.unit.items) inner in
      then_paths (lower_names part context) _
      (λ scope scope_is. then_paths (lower_instances modules 0 scope.known context.unit.items) _
      (λ children children_are. then_paths (lower_own context (ports_of context.unit) scope part) _
      (λ own own_is.
      each_keeps (λ so_far child. elaborate_instance levels modules so_far (child_context scope context child)) wanted_is_named
      (λ so_far one good. grown_paths levels so_far (child_context scope context one) (dotted_is_path context.path one.name.letters e (and_left (are_printable one.name.letters) (is_named one.child) good))
      (and_right (are_printable one.name.letters) (is_named one.child) good))
      children own (all_told wanted_is_named (lower_instances modules 0 scope.known context.unit.items) children (from_named modules named 0 scope.known context.unit.items items) children_are)
      (sym (ap part_paths own_is) ∙ own_paths context (ports_of context.unit) scope part e ports items before))))

top_paths : (modules : SourceTree) → list_all is_named modules ≡ true → (m : ModuleTree) → is_path m.name.letters ≡ true → is_named m ≡ true →
    part_paths (elaborate_top modules m) ≡ true
unfolding elaborate_top
top_paths modules named m e unit = grown_paths modules named 16 nothing (top_context m) e unit refl

-- ---- one by one

path_at : (vs : List Variable) → all_paths vs ≡ true → (i : ℕ) (v : Variable) → slice_get vs i ≡ Some v → is_path v.name ≡ true
path_at [] all i v at = cc
path_at (w ∷ vs) all zero v at =
    let is : w ≡ v = cc in subst (λ (x : Variable). is_path x.name ≡ true) is (and_left (is_path w.name) (all_paths vs) all)
path_at (w ∷ vs) all (suc i) v at = path_at vs (and_right (is_path w.name) (all_paths vs) all) i v at

-- a variable of that name is among those
among : (vs : List Variable) (j : ℕ) (w : Variable) (text : Text) → slice_get vs j ≡ Some w → text ≡ w.name → is_declared (map (λ (v : Variable). v.name) vs) text ≡ true
among [] j w text at e = cc
among (x ∷ vs) zero w text at e =
    let is : w ≡ x = cc in
    or_first (bytes_eq text x.name) (is_declared (map (λ (v : Variable). v.name) vs) text)
    ((bytes_eq-Decides text x.name).1 (e ∙ ap (λ (v : Variable). v.name) is))
among (x ∷ vs) (suc j) w text at e = or_second (bytes_eq text x.name) (is_declared (map (λ (v : Variable). v.name) vs) text) (among vs j w text at e)

distinct_at : (vs : List Variable) → has_double (map (λ (v : Variable). v.name) vs) ≡ false →
    (i j : ℕ) (v w : Variable) → i < j → slice_get vs i ≡ Some v → slice_get vs j ≡ Some w → v.name ≢ w.name
distinct_at [] none i j v w lt first second = cc
distinct_at (x ∷ vs) none i zero v w lt first second = absurd (omega (arith, lt))
distinct_at (x ∷ vs) none zero (suc j) v w lt first second = λ alike.
    let is : x ≡ v = cc in
    true≢false
    (
    sym (among vs j w x.name second (ap (λ (y : Variable). y.name) is ∙ alike))
    ∙ or_left (is_declared (map (λ (y : Variable). y.name) vs) x.name) (has_double (map (λ (y : Variable). y.name) vs)) none
    )
distinct_at (x ∷ vs) none (suc i) (suc j) v w lt first second =
    distinct_at vs (or_right (is_declared (map (λ (y : Variable). y.name) vs) x.name) (has_double (map (λ (y : Variable). y.name) vs)) none) i j v w (omega (arith, lt)) first second

-- ---- the design

started_names : (driven : List Place) (n : ℕ) (vs : List Variable) → map (λ (v : Variable). v.name) (with_start_values driven n vs) ≡ map (λ (v : Variable). v.name) vs
started_names driven n [] = refl
started_names driven n (v ∷ more) = ap (λ (names : List Text). v.name ∷ names) (started_names driven (n + 1) more)

started_paths : (driven : List Place) (n : ℕ) (vs : List Variable) → all_paths (with_start_values driven n vs) ≡ all_paths vs
started_paths driven n [] = refl
started_paths driven n (v ∷ more) = ap (λ b. is_path v.name && b) (started_paths driven (n + 1) more)

design_named : (scale : Timescale) (m : ModuleTree) (part : PartialDesign) → is_named m ≡ true → all_paths part.variables ≡ true →
    has_double (variable_paths part) ≡ false → AreNamed (design_by scale m part)
design_named scale m part e paths none = record {
  top = and_left (are_printable m.name.letters) (ports_are_named m && list_all item_is_named m.items) e;
  paths = path_at (with_start_values (driven_in part) 0 part.variables) (started_paths (driven_in part) 0 part.variables ∙ paths);
  distinct = distinct_at (with_start_values (driven_in part) 0 part.variables) (ap has_double (started_names (driven_in part) 0 part.variables) ∙ none);
}

none_doubled : (b : Bool) (top : Option Word) → broken_if b Doubled top ≡ None → b ≡ false
none_doubled true top e = cc
none_doubled false top e = refl

-- what is checked is named
module _ (scale : Timescale) (m : ModuleTree) (unit : is_named m ≡ true) (whole : Whole) where
  checked_named : (part : PartialDesign) → all_paths part.variables ≡ true → check m part ≡ Ok whole → AreNamed (design_by scale whole.unit whole.part)
  checked_named part paths = by (broken_design m.name part) refl
    where
      by : (broken : Option ElabFault) → broken_design m.name part ≡ broken → value_unless_fault broken (record { unit = m; part = part }) ≡ Ok whole → AreNamed (design_by scale whole.unit whole.part)
      by None right is =
          let same : record { unit = m; part = part } ≡ whole = cc in
          subst (λ (w : Whole). AreNamed (design_by scale w.unit w.part)) same
          (design_named scale m part unit paths (none_doubled (has_double (variable_paths part)) _ (first_right _ _ (first_right (broken_paths m.name part) (broken_table m.name part) right))))
      by (Some fault) right is = absurd cc

  whole_named : (part : Result PartialDesign ElabFault) → part_paths part ≡ true → (part >>= λ p. check m p) ≡ Ok whole → AreNamed (design_by scale whole.unit whole.part)
  whole_named (Ok part) paths is = checked_named part paths is
  whole_named (Err fault) paths is = absurd cc

not_barred_is : {A : Type 0} (rule : Rule) (word : Option Word) (answer : Result A ElabFault) (x : A) → unless_word word rule answer ≡ Ok x → answer ≡ Ok x
not_barred_is rule None answer x is = is
not_barred_is rule (Some word) answer x is = absurd cc

unbroken_is : {A : Type 0} (broken : Option ElabFault) (answer : Result A ElabFault) (x : A) → unless_fault broken answer ≡ Ok x → answer ≡ Ok x
unbroken_is None answer x is = is
unbroken_is (Some fault) answer x is = absurd cc

module _ (tree : SourceTree) (all : list_all is_named tree ≡ true) (top : Option Text) (scale : Timescale) where
  found_named : (whole : Whole) (rival : Option Word) (unit : Option ModuleTree) → top_of tree top ≡ unit → (value_or_fault unit Top rival >>= λ m. whole_of tree m) ≡ Ok whole →
      AreNamed (design_by scale whole.unit whole.part)
  found_named whole rival None is_top is = absurd cc
  found_named whole rival (Some m) is_top is =
      let unit = top_named tree top m all is_top in
      whole_named scale m unit whole (elaborate_top tree m)
      (top_paths tree all m (and_left (are_printable m.name.letters) (ports_are_named m && list_all item_is_named m.items) unit) unit) is

  design_is_named : (answer : Result Whole ElabFault) (design : Design) → ((whole : Whole) → answer ≡ Ok whole → AreNamed (design_by scale whole.unit whole.part)) → as_design scale answer ≡ Ok design → AreNamed design
  design_is_named (Ok whole) design named is =
      let same : design_by scale whole.unit whole.part ≡ design = cc in
      subst AreNamed same (named whole refl)
  design_is_named (Err fault) design named is = absurd cc

pub named_by : (words : List Text) (text : PlainTree) (tree : SourceTree) (top : Option Text) (scale : Timescale) (design : Design) →
    DerivesText words text → IsNumbered words text tree → Elaborates tree top scale design → AreNamed design
named_by words text tree top scale design derives numbered elaborates =
    let all = all_named tree (ap (list_all shows_module) numbered.is_tree ∙ all_show text derives.fitting) in
    design_is_named tree all top scale (elaborated_whole tree top) design
    (λ whole is. found_named tree all top scale whole (rival_of tree top) (top_of tree top) refl (unbroken_is (broken_ports tree) (top_whole tree top) whole (not_barred_is Doubled (first_again (module_names tree)) _ whole is))) elaborates
