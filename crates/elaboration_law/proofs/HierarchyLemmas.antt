-- The instances of a hierarchy: each of a text that has a design was elaborated, and a fault is that of one of them.
use Rattle.std.proofs.Common.{◌≡◌, ℕ, zero, suc, ◌+◌, List, [], ◌∷◌, ◌++◌, map, length, Option, Some, None, Result, Ok, Err, refl, sym, ap, subst, ◌∙◌, ◌⊎◌, inl, inr, arith, Bool, true, false}
use Rattle.std.specs.Prelude.{option_map}
use Rattle.std.specs.List.{Contains, flat_map}
use Rattle.std.proofs.lemmas.List.{map-append}
use Rattle.vwords.specs.Words.{Text}
use Rattle.vast.specs.NumberedWords.{Word}
use Rattle.vast.specs.NumberedModules.{ConnectionsTree, InstanceTree, ItemTree, parameters, declaration, events, assignments, initial, always, instances, ModuleTree, SourceTree}
use Rattle.basis.specs.declared.timescale.Timescale.{Timescale}
use Rattle.vdesign.specs.Design.{Design}
use Rattle.vmodules.specs.Names.{letters_of, first_again}
use Rattle.vmodules.specs.Hierarchy.{module_names, module_of, top_of, rival_of}
use Rattle.vmodules.specs.Ports.{ports_of}
use Rattle.vmodules.specs.Misdeclared.{Misdeclared, first_misdeclared}
use Rattle.vmodules.specs.declared.misdeclared.PortFlaw.{PortFlaw}
use Rattle.vmodules.specs.declared.misdeclared.PortFlaw.TheVariants as flaw
use Rattle.vmodules.specs.Connected.{open_names, misfit, misfit_if}
use Rattle.velab_expr.specs.declared.fault.Rule.{Rule}
use Rattle.velab_expr.specs.declared.fault.Rule.TheVariants.{Top, Doubled, Unknown, Drivers, Ports, Width, Constant, Depth, TooMany, Kind}
use Rattle.velab_expr.specs.declared.fault.ElabFault.{ElabFault}
use Rattle.velab_expr.specs.Rules.{fault_at}
use Rattle.velab_expr.specs.Answers.{◌>>=◌, value_or_fault}
use Rattle.velab_expr.specs.Scopes.{Scope}
use Rattle.velab_expr.specs.Symbols.{symbols_by}
use Rattle.velab_declaration.specs.Variables.{port_names}
use Rattle.vhierarchy.specs.Instances.{rule_of_port, broken_ports, unless_fault, top_whole, value_unless_fault, Instantiation, instantiation_by, lower_instance, lower_list, named_again, lower_instances_of, lower_instances_by, lower_instances, PartialDesign, Context, lower_names, lower_own, child_context, each, elaborate_instance, nothing, top_context, elaborate_top, design_by, broken_design, Whole, check, whole_of, elaborated_whole, elaborated}
use Rattle.elaboration_law.specs.Hierarchy.{Instance, instance_by, instances_of, instances_by, instances_in, StandsBelow, top_instance}
use Rattle.elaboration_law.proofs.StepLemmas.{same_value, then_ok, then_err, provided_ok, barring_ok, barring_err, found_ok, found_err, contains_first, contains_more, contains_none, contains_mapped, mapped_contains}

-- ---- the instances in a module

abbrev pub instance_of : Text → Instantiation → Instance
instance_of path one = record { path = path ++ 46 ∷ one.name.letters; unit = one.child; connections = one.connections }

abbrev pub instance_at : Context → Instance
instance_at context = record { path = context.path; unit = context.unit; connections = context.connections }

list_is : (path : Text) (child : ModuleTree) (known : ℕ) (overrides : Option ConnectionsTree) (list : List InstanceTree) (children : List Instantiation) →
    lower_list child known overrides list ≡ Ok children → map (instance_of path) children ≡ map (instance_by path child) list
list_is path child known overrides [] children is = sym (ap (map (instance_of path)) (same_value [] children is))
list_is path child known overrides (one ∷ more) children is =
    let front = then_ok (lower_instance child known overrides one) (λ front. lower_list child known overrides more >>= λ others. Ok (front ∷ others)) children is in
    let others = then_ok (lower_list child known overrides more) (λ others. Ok (front.0 ∷ others)) children front.2 in
    let fits = barring_ok (misfit_if one.name (letters_of (open_names child)) overrides) Ports _ front.0 front.1 in
    let joined = barring_ok (misfit one.name (letters_of (port_names child)) one.connections) Ports _ front.0 fits.1 in
    let same = same_value (instantiation_by child known overrides one) front.0 joined.1 in
    sym (ap (map (instance_of path)) (same_value (front.0 ∷ others.0) children others.2))
    ∙ λ i. instance_of path (sym same i) ∷ list_is path child known overrides more others.0 others.1 i

of_is : (path : Text) (name : Word) (before known : ℕ) (child : Option ModuleTree) (overrides : Option ConnectionsTree) (list : List InstanceTree) (children : List Instantiation) →
    lower_instances_of name before known child overrides list ≡ Ok children → map (instance_of path) children ≡ instances_of path child list
of_is path name before known None overrides list children is = absurd cc
of_is path name before known (Some child) overrides list children is =
    list_is path child known overrides list children (barring_ok (named_again child) Doubled _ children (provided_ok _ TooMany (Some name) _ children is).1).1

module _ (modules : SourceTree) (path : Text) where
  pub by_is : (before known : ℕ) (item : ItemTree) (children : List Instantiation) → lower_instances_by modules before known item ≡ Ok children →
      map (instance_of path) children ≡ instances_by modules path item
  by_is before known (parameters local type settings) children is = sym (ap (map (instance_of path)) (same_value [] children is))
  by_is before known (declaration kind list) children is = sym (ap (map (instance_of path)) (same_value [] children is))
  by_is before known (events names) children is = sym (ap (map (instance_of path)) (same_value [] children is))
  by_is before known (assignments settings) children is = sym (ap (map (instance_of path)) (same_value [] children is))
  by_is before known (initial statement) children is = sym (ap (map (instance_of path)) (same_value [] children is))
  by_is before known (always statement) children is = sym (ap (map (instance_of path)) (same_value [] children is))
  by_is before known (instances name overrides list) children is = of_is path name before known (module_of modules name.letters) overrides list children is

  pub children_are : (before known : ℕ) (items : List ItemTree) (children : List Instantiation) → lower_instances modules before known items ≡ Ok children →
      map (instance_of path) children ≡ flat_map (instances_by modules path) items
  children_are before known [] children is = sym (ap (map (instance_of path)) (same_value [] children is))
  children_are before known (item ∷ more) children is =
      let front = then_ok (lower_instances_by modules before known item)
      (λ front. lower_instances modules (before + length front) (known + length (symbols_by item)) more >>= λ others. Ok (front ++ others)) children is in
      let others = then_ok (lower_instances modules (before + length front.0) (known + length (symbols_by item)) more) (λ others. Ok (front.0 ++ others)) children front.2 in
      sym (ap (map (instance_of path)) (same_value (front.0 ++ others.0) children others.2))
      ∙ map-append (instance_of path) front.0 others.0
      ∙ (λ i. by_is before known item front.0 front.1 i ++ children_are (before + length front.0) (known + length (symbols_by item)) more others.0 others.1 i)

-- ---- one after another

module _ (step : PartialDesign → Instantiation → Result PartialDesign ElabFault) where
  -- the answer of the step for one of them
  pub each_ok : (part all : PartialDesign) (list : List Instantiation) (one : Instantiation) → each step part list ≡ Ok all → Contains list one →
      (before : PartialDesign) × (after : PartialDesign) × (step before one ≡ Ok after)
  each_ok part all [] one is h = absurd (contains_none one h)
  each_ok part all (first ∷ more) one is (zero, lt, same) =
      let front = then_ok (step part first) (λ next. each step next more) all is in
      (part, front.0, sym (ap (step part) same) ∙ front.1)
  each_ok part all (first ∷ more) one is (suc k, lt, same) =
      let front = then_ok (step part first) (λ next. each step next more) all is in
      each_ok front.0 all more one front.2 (k, omega (arith, lt), same)

  pub each_err : (part : PartialDesign) (list : List Instantiation) (fault : ElabFault) → each step part list ≡ Err fault →
      (before : PartialDesign) × (one : Instantiation) × Contains list one × (step before one ≡ Err fault)
  each_err part [] fault is = absurd cc
  each_err part (first ∷ more) fault is = by (then_err (step part first) (λ next. each step next more) fault is) (λ next. each_err next more fault)
    where
      by : (step part first ≡ Err fault) ⊎ ((next : PartialDesign) × (step part first ≡ Ok next) × (each step next more ≡ Err fault)) →
          ((next : PartialDesign) → each step next more ≡ Err fault → (before : PartialDesign) × (one : Instantiation) × Contains more one × (step before one ≡ Err fault)) →
          (before : PartialDesign) × (one : Instantiation) × Contains (first ∷ more) one × (step before one ≡ Err fault)
      by (inl here) rest = (part, first, contains_first first more, here)
      by (inr (next, ok, err)) rest =
          let r = rest next err in
          (r.0, r.1, contains_more first r.1 more r.2, r.3)

-- ---- an instance

-- its own steps, each answered
pub record Own (modules : SourceTree) (part : PartialDesign) (context : Context) : Type 0 where
  pub scope : Scope
  pub children : List Instantiation
  pub whole : PartialDesign
  pub names_are : lower_names part context ≡ Ok scope
  pub instances_are : lower_instances modules 0 scope.known context.unit.items ≡ Ok children
  pub own_is : lower_own context (ports_of context.unit) scope part ≡ Ok whole

-- or the first of them that tells the fault
pub data OwnFault (modules : SourceTree) (part : PartialDesign) (context : Context) (fault : ElabFault) : Type 0 where
  in_names : lower_names part context ≡ Err fault → OwnFault modules part context fault
  in_instances : (scope : Scope) → lower_names part context ≡ Ok scope → lower_instances modules 0 scope.known context.unit.items ≡ Err fault → OwnFault modules part context fault
  in_own : (scope : Scope) (children : List Instantiation) → lower_names part context ≡ Ok scope → lower_instances modules 0 scope.known context.unit.items ≡ Ok children →
      lower_own context (ports_of context.unit) scope part ≡ Err fault → OwnFault modules part context fault

module _ (modules : SourceTree) (levels : ℕ) (part : PartialDesign) (context : Context) where
  -- the instances in it, behind its own
  abbrev pub below : Scope → List Instantiation → PartialDesign → Result PartialDesign ElabFault
  below scope children own = each (λ so_far child. elaborate_instance levels modules so_far (child_context scope context child)) own children

  abbrev after_instances : Scope → List Instantiation → Result PartialDesign ElabFault
  after_instances scope children = lower_own context (ports_of context.unit) scope part >>= λ own. below scope children own

  abbrev after_names : Scope → Result PartialDesign ElabFault
  after_names scope = lower_instances modules 0 scope.known context.unit.items >>= λ children. after_instances scope children

  pub opened_ok : (all : PartialDesign) → elaborate_instance (suc levels) modules part context ≡ Ok all → (own : Own modules part context) × (below own.scope own.children own.whole ≡ Ok all)
  opened_ok all is =
      let names = then_ok (lower_names part context) after_names all is in
      let wanted = then_ok (lower_instances modules 0 names.0.known context.unit.items) (after_instances names.0) all names.2 in
      let own = then_ok (lower_own context (ports_of context.unit) names.0 part) (below names.0 wanted.0) all wanted.2 in
      (record { scope = names.0; children = wanted.0; whole = own.0; names_are = names.1; instances_are = wanted.1; own_is = own.1 }, own.2)

  pub opened_err : (fault : ElabFault) → elaborate_instance (suc levels) modules part context ≡ Err fault →
      OwnFault modules part context fault ⊎ ((own : Own modules part context) × (below own.scope own.children own.whole ≡ Err fault))
  opened_err fault is = by (then_err (lower_names part context) after_names fault is)
    where
      last : (scope : Scope) (children : List Instantiation) → lower_names part context ≡ Ok scope → lower_instances modules 0 scope.known context.unit.items ≡ Ok children →
          (lower_own context (ports_of context.unit) scope part ≡ Err fault) ⊎ ((own : PartialDesign) × (lower_own context (ports_of context.unit) scope part ≡ Ok own) × (below scope children own ≡ Err fault)) →
          OwnFault modules part context fault ⊎ ((own : Own modules part context) × (below own.scope own.children own.whole ≡ Err fault))
      last scope children names wanted (inl err) = inl (in_own scope children names wanted err)
      last scope children names wanted (inr (own, ok, err)) =
          inr (record { scope = scope; children = children; whole = own; names_are = names; instances_are = wanted; own_is = ok }, err)

      second : (scope : Scope) → lower_names part context ≡ Ok scope →
          (lower_instances modules 0 scope.known context.unit.items ≡ Err fault) ⊎ ((children : List Instantiation) × (lower_instances modules 0 scope.known context.unit.items ≡ Ok children) × (after_instances scope children ≡ Err fault)) →
          OwnFault modules part context fault ⊎ ((own : Own modules part context) × (below own.scope own.children own.whole ≡ Err fault))
      second scope names (inl err) = inl (in_instances scope names err)
      second scope names (inr (children, wanted, err)) =
          last scope children names wanted (then_err (lower_own context (ports_of context.unit) scope part) (below scope children) fault err)

      by : (lower_names part context ≡ Err fault) ⊎ ((scope : Scope) × (lower_names part context ≡ Ok scope) × (after_names scope ≡ Err fault)) →
          OwnFault modules part context fault ⊎ ((own : Own modules part context) × (below own.scope own.children own.whole ≡ Err fault))
      by (inl err) = inl (in_names err)
      by (inr (scope, names, err)) = second scope names (then_err (lower_instances modules 0 scope.known context.unit.items) (after_instances scope) fault err)

-- ---- all of them

-- this instance was elaborated, with so many levels left below it
pub record WasElaborated (modules : SourceTree) (levels : ℕ) (one : Instance) : Type 0 where
  pub part : PartialDesign
  pub context : Context
  pub at : instance_at context ≡ one
  pub own : Own modules part context

module _ (modules : SourceTree) where
  pub elaborated_below : (depth levels : ℕ) (part : PartialDesign) (context : Context) (all : PartialDesign) (one : Instance) → elaborate_instance levels modules part context ≡ Ok all →
      StandsBelow modules depth (instance_at context) one → (left : ℕ) × (depth + suc left ≡ levels) × WasElaborated modules left one
  elaborated_below depth zero part context all one is stands = absurd cc
  elaborated_below zero (suc levels) part context all one is stands =
      (levels, omega arith, record { part = part; context = context; at = stands; own = (opened_ok modules levels part context all is).0 })
  elaborated_below (suc depth) (suc levels) part context all one is (child, inside, stands) =
      let opened = opened_ok modules levels part context all is in
      let own = opened.0 in
      let listed = subst (λ (l : List Instance). Contains l child) (sym (children_are modules context.path 0 own.scope.known context.unit.items own.children own.instances_are)) inside in
      let it = mapped_contains (instance_of context.path) child own.children listed in
      let step = each_ok (λ so_far c. elaborate_instance levels modules so_far (child_context own.scope context c)) own.whole all own.children it.0 opened.1 it.1 in
      let found = elaborated_below depth levels step.0 (child_context own.scope context it.0) step.1 one step.2
      (subst (λ (i : Instance). StandsBelow modules depth i one) (sym it.2) stands) in
      (found.0, omega (arith, found.1), found.2)

-- where a fault is told: by an instance, or by one that is too deep
pub data ToldBelow (modules : SourceTree) (levels : ℕ) (top : Instance) (fault : ElabFault) : Type 0 where
  too_deep : (one : Instance) → fault.rule ≡ Depth → StandsBelow modules levels top one → ToldBelow modules levels top fault
  by_own : (depth : ℕ) (part : PartialDesign) (context : Context) → StandsBelow modules depth top (instance_at context) → OwnFault modules part context fault → ToldBelow modules levels top fault

module _ (modules : SourceTree) (fault : ElabFault) where
  one_deeper : (levels : ℕ) (top child : Instance) → Contains (instances_in modules top) child → ToldBelow modules levels child fault → ToldBelow modules (suc levels) top fault
  one_deeper levels top child inside (too_deep one is stands) = too_deep one is (child, inside, stands)
  one_deeper levels top child inside (by_own depth part context stands own) = by_own (suc depth) part context (child, inside, stands) own

  pub told_below : (levels : ℕ) (part : PartialDesign) (context : Context) → elaborate_instance levels modules part context ≡ Err fault → ToldBelow modules levels (instance_at context) fault
  told_below zero part context is = let same : fault_at Depth (Some context.name) ≡ fault = cc in too_deep (instance_at context) (ap (λ (f : ElabFault). f.rule) (sym same)) refl
  told_below (suc levels) part context is = by (opened_err modules levels part context fault is) (λ before scope child. told_below levels before (child_context scope context child))
    where
      by : OwnFault modules part context fault ⊎ ((own : Own modules part context) × (below modules levels part context own.scope own.children own.whole ≡ Err fault)) →
          ((before : PartialDesign) (scope : Scope) (child : Instantiation) → elaborate_instance levels modules before (child_context scope context child) ≡ Err fault →
          ToldBelow modules levels (instance_at (child_context scope context child)) fault) →
          ToldBelow modules (suc levels) (instance_at context) fault
      by (inl own) rest = by_own 0 part context refl own
      by (inr (own, err)) rest =
          let at = each_err (λ so_far c. elaborate_instance levels modules so_far (child_context own.scope context c)) own.whole own.children fault err in
          let inside = subst (λ (l : List Instance). Contains l (instance_of context.path at.1)) (children_are modules context.path 0 own.scope.known context.unit.items own.children own.instances_are)
          (contains_mapped (instance_of context.path) at.1 own.children at.2) in
          one_deeper levels (instance_at context) (instance_of context.path at.1) inside (rest at.0 own.scope at.1 at.3)

-- ---- a text

-- what is elaborated, and checked
pub record Elaborated (modules : SourceTree) (top : Option Text) (scale : Timescale) (design : Design) : Type 0 where
  pub unit : ModuleTree
  pub part : PartialDesign
  pub modules_differ : first_again (module_names modules) ≡ None
  pub ports_right : first_misdeclared modules ≡ None
  pub is_top : top_of modules top ≡ Some unit
  pub is_part : elaborate_top modules unit ≡ Ok part
  pub is_right : broken_design unit.name part ≡ None
  pub is_design : design_by scale unit part ≡ design

-- or where the fault is told
pub data Told (modules : SourceTree) (top : Option Text) (fault : ElabFault) : Type 0 where
  in_modules : (w : Word) → first_again (module_names modules) ≡ Some w → fault.rule ≡ Doubled → Told modules top fault
  in_ports : (m : Misdeclared) → first_misdeclared modules ≡ Some m → rule_of_port m.flaw ≡ fault.rule → Told modules top fault
  in_top : top_of modules top ≡ None → fault.rule ≡ Top → Told modules top fault
  in_hierarchy : (unit : ModuleTree) → top_of modules top ≡ Some unit → elaborate_top modules unit ≡ Err fault → Told modules top fault
  in_design : (unit : ModuleTree) (part : PartialDesign) → top_of modules top ≡ Some unit → elaborate_top modules unit ≡ Ok part → broken_design unit.name part ≡ Some fault → Told modules top fault

same_design : (scale : Timescale) (whole other : Whole) (design : Design) → other ≡ whole → (let made : Result Design ElabFault = Ok (design_by scale whole.unit whole.part) in made ≡ Ok design) → design_by scale other.unit other.part ≡ design
same_design scale whole other design same is = ap (λ (w : Whole). design_by scale w.unit w.part) same ∙ same_value (design_by scale whole.unit whole.part) design is

faultless_ok : {A : Type 0} (broken : Option ElabFault) (x y : A) → value_unless_fault broken x ≡ Ok y → (broken ≡ None) × (x ≡ y)
faultless_ok None x y is = (refl, same_value x y is)
faultless_ok (Some fault) x y is = absurd cc

faultless_err : {A : Type 0} (broken : Option ElabFault) (x : A) (fault : ElabFault) → value_unless_fault broken x ≡ Err fault → broken ≡ Some fault
faultless_err None x fault is = absurd cc
faultless_err (Some f) x fault is = let same : f ≡ fault = cc in ap Some same

-- what is told of ports that items declare, and of names of blocks
ports_ok : {A : Type 0} (wrong : Option Misdeclared) (answer : Result A ElabFault) (x : A) →
    unless_fault (option_map (λ (m : Misdeclared). fault_at (rule_of_port m.flaw) (Some m.word)) wrong) answer ≡ Ok x → (wrong ≡ None) × (answer ≡ Ok x)
ports_ok None answer x is = (refl, is)
ports_ok (Some m) answer x is = absurd cc

ports_err : {A : Type 0} (wrong : Option Misdeclared) (answer : Result A ElabFault) (fault : ElabFault) →
    unless_fault (option_map (λ (m : Misdeclared). fault_at (rule_of_port m.flaw) (Some m.word)) wrong) answer ≡ Err fault →
    ((m : Misdeclared) × (wrong ≡ Some m) × (rule_of_port m.flaw ≡ fault.rule)) ⊎ (answer ≡ Err fault)
ports_err None answer fault is = inr is
ports_err (Some m) answer fault is =
    let same : fault_at (rule_of_port m.flaw) (Some m.word) ≡ fault = cc in inl (m, refl, ap (λ (f : ElabFault). f.rule) same)

-- of other rules nothing is told there
abbrev pub is_of_ports : Rule → Bool
is_of_ports Top = false
is_of_ports Doubled = true
is_of_ports Unknown = true
is_of_ports Drivers = false
is_of_ports Ports = false
is_of_ports Width = false
is_of_ports Constant = false
is_of_ports Depth = false
is_of_ports TooMany = false
is_of_ports Kind = true

pub of_ports : (m : Misdeclared) (rule : Rule) → rule_of_port m.flaw ≡ rule → is_of_ports rule ≡ true
of_ports m rule is = sym (ap is_of_ports is) ∙ by m.flaw
  where
    by : (f : PortFlaw) → is_of_ports (rule_of_port f) ≡ true
    by flaw.Undeclared = refl
    by flaw.Doubled = refl
    by flaw.Input = refl
    by flaw.Valued = refl

-- and of these by one flaw each, or by one of two
pub doubled_port : (f : PortFlaw) → rule_of_port f ≡ Doubled → f ≡ flaw.Doubled
doubled_port flaw.Undeclared is = absurd cc
doubled_port flaw.Doubled is = refl
doubled_port flaw.Input is = absurd cc
doubled_port flaw.Valued is = absurd cc

pub unknown_port : (f : PortFlaw) → rule_of_port f ≡ Unknown → f ≡ flaw.Undeclared
unknown_port flaw.Undeclared is = refl
unknown_port flaw.Doubled is = absurd cc
unknown_port flaw.Input is = absurd cc
unknown_port flaw.Valued is = absurd cc

pub kind_port : (f : PortFlaw) → rule_of_port f ≡ Kind → (f ≡ flaw.Input) ⊎ (f ≡ flaw.Valued)
kind_port flaw.Undeclared is = absurd cc
kind_port flaw.Doubled is = absurd cc
kind_port flaw.Input is = inl refl
kind_port flaw.Valued is = inr refl

module _ (modules : SourceTree) (top : Option Text) (scale : Timescale) where
  abbrev topped : Result Whole ElabFault
  topped = top_whole modules top

  abbrev with_ports : Result Whole ElabFault
  with_ports = unless_fault (broken_ports modules) topped

  pub all_elaborated : (design : Design) → elaborated modules top scale ≡ Ok design → Elaborated modules top scale design
  all_elaborated design is =
      let whole = then_ok (elaborated_whole modules top) (λ whole. Ok (design_by scale whole.unit whole.part)) design is in
      let differ = barring_ok (first_again (module_names modules)) Doubled with_ports whole.0 whole.1 in
      let ports = ports_ok (first_misdeclared modules) topped whole.0 differ.1 in
      let unit = then_ok (value_or_fault (top_of modules top) Top (rival_of modules top)) (λ m. whole_of modules m) whole.0 ports.1 in
      let part = then_ok (elaborate_top modules unit.0) (λ p. check unit.0 p) whole.0 unit.2 in
      let right = faultless_ok (broken_design unit.0.name part.0) (record { unit = unit.0; part = part.0 }) whole.0 part.2 in
      record {
        unit = unit.0;
        part = part.0;
        modules_differ = differ.0;
        ports_right = ports.0;
        is_top = found_ok (top_of modules top) Top (rival_of modules top) unit.0 unit.1;
        is_part = part.1;
        is_right = right.0;
        is_design = same_design scale whole.0 (record { unit = unit.0; part = part.0 }) design right.1 whole.2;
      }

  module _ (fault : ElabFault) where
    checked_told : (unit : ModuleTree) → top_of modules top ≡ Some unit →
        (elaborate_top modules unit ≡ Err fault) ⊎ ((part : PartialDesign) × (elaborate_top modules unit ≡ Ok part) × (check unit part ≡ Err fault)) → Told modules top fault
    checked_told unit is_top (inl err) = in_hierarchy unit is_top err
    checked_told unit is_top (inr (part, ok, err)) = in_design unit part is_top ok (faultless_err (broken_design unit.name part) (record { unit = unit; part = part }) fault err)

    top_told : (value_or_fault (top_of modules top) Top (rival_of modules top) ≡ Err fault) ⊎ ((unit : ModuleTree) × (value_or_fault (top_of modules top) Top (rival_of modules top) ≡ Ok unit) × (whole_of modules unit ≡ Err fault)) →
        Told modules top fault
    top_told (inl err) = let missing = found_err (top_of modules top) Top (rival_of modules top) fault err in in_top missing.0 missing.1
    top_told (inr (unit, ok, err)) =
        checked_told unit (found_ok (top_of modules top) Top (rival_of modules top) unit ok) (then_err (elaborate_top modules unit) (λ p. check unit p) fault err)

    ports_told : ((m : Misdeclared) × (first_misdeclared modules ≡ Some m) × (rule_of_port m.flaw ≡ fault.rule)) ⊎ (topped ≡ Err fault) → Told modules top fault
    ports_told (inl (m, is, rule)) = in_ports m is rule
    ports_told (inr err) = top_told (then_err (value_or_fault (top_of modules top) Top (rival_of modules top)) (λ m. whole_of modules m) fault err)

    modules_told : ((w : Word) × (first_again (module_names modules) ≡ Some w) × (fault.rule ≡ Doubled)) ⊎ ((first_again (module_names modules) ≡ None) × (with_ports ≡ Err fault)) → Told modules top fault
    modules_told (inl (w, again, rule)) = in_modules w again rule
    modules_told (inr (differ, err)) = ports_told (ports_err (first_misdeclared modules) topped fault err)

    whole_told : (elaborated_whole modules top ≡ Err fault) ⊎ ((whole : Whole) × (elaborated_whole modules top ≡ Ok whole) × (Ok (design_by scale whole.unit whole.part) ≡ Err fault)) → Told modules top fault
    whole_told (inl err) = modules_told (barring_err (first_again (module_names modules)) Doubled with_ports fault err)
    whole_told (inr (whole, ok, err)) = absurd cc

    pub fault_told : elaborated modules top scale ≡ Err fault → Told modules top fault
    fault_told is = whole_told (then_err (elaborated_whole modules top) (λ whole. Ok (design_by scale whole.unit whole.part)) fault is)

-- the same of a text's top
module _ (modules : SourceTree) (m : ModuleTree) where
  pub top_elaborated : (part : PartialDesign) (depth : ℕ) (one : Instance) → elaborate_top modules m ≡ Ok part → StandsBelow modules depth (top_instance m) one →
      (left : ℕ) × (depth + suc left ≡ 16) × WasElaborated modules left one
  unfolding elaborate_top
  top_elaborated part depth one is stands = elaborated_below modules depth 16 nothing (top_context m) part one is stands

  pub top_told_below : (fault : ElabFault) → elaborate_top modules m ≡ Err fault → ToldBelow modules 16 (top_instance m) fault
  unfolding elaborate_top
  top_told_below fault is = told_below modules fault 16 nothing (top_context m) is
