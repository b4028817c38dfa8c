-- E309: a text that has a design has nothing in too great a number, and one that is refused under the rule has.
use Rattle.std.proofs.Common.{◌≡◌, ℕ, zero, suc, ◌+◌, ◌<◌, ◌≤◌, arith, nat_le, true, false, Bool, List, [], ◌∷◌, ◌++◌, map, length, Option, Some, Result, Ok, Err, refl, ap, subst, ◌⊎◌, inl, inr, length-append, sym, ◌∙◌}
use Rattle.std.specs.List.{flat_map, sum_by}
use Rattle.std.specs.Option.{option_or}
use Rattle.std.proofs.lemmas.List.{length-map}
use Rattle.std.proofs.lemmas.List.Sums.{sum_by-cons, sum_by-append}
use Rattle.basis.specs.declared.timescale.Timescale.{Timescale}
use Rattle.vwords.specs.Words.{Text}
use Rattle.vast.specs.NumberedWords.{Word}
use Rattle.vast.specs.NumberedModules.{ModuleTree, SourceTree}
use Rattle.vdesign.specs.Design.{Design, Variable, Scope as Room}
use Rattle.module_size.specs.Sizes.{size_of}
use Rattle.vmodules.specs.Names.{letters_of}
use Rattle.vmodules.specs.Hierarchy.{top_of}
use Rattle.vmodules.specs.Ports.{ports_of}
use Rattle.vexpr_parse.proofs.Turning.{le_so}
use Rattle.velab_expr.specs.declared.fault.Rule.{Rule}
use Rattle.velab_expr.specs.declared.fault.Rule.TheVariants.{Depth, TooMany}
use Rattle.velab_expr.specs.declared.fault.ElabFault.{ElabFault}
use Rattle.velab_expr.specs.Rules.{fault_at, unless}
use Rattle.velab_expr.specs.Scopes.{Scope}
use Rattle.velab_declaration.specs.Right.{kind_rule}
use Rattle.velab_declaration.specs.ActionFlaws.{blank_environment, flaw_rule, table_fault}
use Rattle.velab_declaration.specs.Drives.{drivers_fault}
use Rattle.velab_declaration.specs.Variables.{declared_names}
use Rattle.velab_process.specs.Processes.{Processes as Made}
use Rattle.vhierarchy.specs.Instances.{Instantiation, scope_of, lower_own_variables, lower_own_processes, with_own, child_context, each, elaborate_instance, elaborate_top, nothing, top_context, PartialDesign, Context, letters_held, broken_paths, broken_table, elaborated}
use Rattle.elaboration_law.specs.Hierarchy.{Instance, instances_in, top_instance, instances_from}
use Rattle.elaboration_law.specs.Laws.{IsMeant}
use Rattle.elaboration_law.specs.Counts.{Counted, Variables, Processes, Instances, NamedEvents, Letters, Sizes, limit, count_in, HasTooMany}
use Rattle.elaboration_law.proofs.ToldLemmas.{is_local, is_of_connections, untold, untold_fault}
use Rattle.elaboration_law.proofs.ModuleRules.{is_of_paths, own_variables_tell, own_processes_tell}
use Rattle.elaboration_law.proofs.DesignRules.{is_of_drivers, table_tells, drivers_tell, kind_broken, flaw_broken, broken_paths_tell}
use Rattle.elaboration_law.proofs.StepLemmas.{same_value, then_ok, then_err, few_err}
use Rattle.elaboration_law.proofs.HierarchyLemmas.{instance_of, instance_at, children_are, Own, OwnFault, in_names, in_instances, in_own, opened_ok, opened_err, below, Told, in_modules, in_ports, is_of_ports, of_ports, in_top, in_hierarchy, in_design, all_elaborated, fault_told}
use Rattle.elaboration_law.proofs.OwnLemmas.{dotted, own_steps, own_named, OwnTold, in_variables, in_processes, too_many, own_told}
use Rattle.elaboration_law.proofs.GatherLemmas.{Gathers, gathered, top_gathered}
use Rattle.elaboration_law.proofs.CountRules.{gt_of, own_processes_counted, names_counted, ManyNames, many_names, many_instances}
use Rattle.elaboration_law.proofs.NameLemmas.{or_some}
use Rattle.elaboration_law.proofs.DepthLemmas.{one_top}

-- how many a design has so far
abbrev pub held : Counted → PartialDesign → ℕ
held Variables part = length part.variables
held Processes part = length part.begins
held Instances part = length part.scopes
held NamedEvents part = part.events
held Letters part = letters_held part
held Sizes part = part.size

abbrev total : Counted → List Instance → ℕ
total what list = sum_by (count_in what) list

-- ---- lengths of names

size_append : {A : Type 0} (size : A → ℕ) (xs ys : List A) → size_of size (xs ++ ys) ≡ size_of size xs + size_of size ys
size_append size [] ys = omega arith
size_append size (x ∷ xs) ys = let rest = size_append size xs ys in omega (arith, rest)

-- variables that are named by a path and then by their own names
names_long : (path : Text) (variables : List Variable) (words : List Word) → map (λ v. v.name) variables ≡ map (dotted path) words →
    size_of (λ v. length v.name) variables ≡ size_of (λ name. length path + (1 + length name)) (letters_of words)
names_long path [] [] named = refl
names_long path [] (w ∷ ws) named = absurd cc
names_long path (v ∷ vs) [] named = absurd cc
names_long path (v ∷ vs) (w ∷ ws) named =
    let first : v.name ≡ dotted path w = cc in
    let others : map (λ (x : Variable). x.name) vs ≡ map (dotted path) ws = cc in
    let here = ap length first in
    let long = length-append path (46 ∷ w.letters) in
    let rest = names_long path vs ws others in
    omega (arith, here, long, rest)

-- ---- what an instance adds

module _ (modules : SourceTree) (part : PartialDesign) (context : Context) (own : Own modules part context) where
  added : (what : Counted) → held what own.whole ≡ held what part + count_in what (instance_at context)
  added Variables =
      let s = own_steps modules part context own in
      let whole = ap (held Variables) s.whole_is in
      let long = length-append part.variables s.variables_made in
      let named = ap length (own_named modules part context own) in
      let once = length-map s.variables_made (λ (v : Variable). v.name) in
      let twice = length-map (declared_names context.unit) (dotted context.path) in
      omega (arith, whole, long, named, once, twice)
  added Processes =
      let s = own_steps modules part context own in
      let whole = ap (held Processes) s.whole_is in
      let long = length-append part.begins s.processes.begins in
      let counted = own_processes_counted context own.scope part.table s.processes s.processes_made in
      omega (arith, whole, long, counted)
  added Instances =
      let s = own_steps modules part context own in
      let whole = ap (held Instances) s.whole_is in
      let long = length-append part.scopes (scope_of context own.scope.variables ∷ []) in
      omega (arith, whole, long)
  added NamedEvents =
      let s = own_steps modules part context own in
      let whole = ap (held NamedEvents) s.whole_is in
      let names = (names_counted part context own.scope own.names_are).events_are in
      omega (arith, whole, names)
  added Letters =
      let s = own_steps modules part context own in
      let room = scope_of context own.scope.variables in
      let whole = ap (held Letters) s.whole_is in
      let long = size_append (λ (v : Variable). length v.name) part.variables s.variables_made in
      let rooms = size_append (λ (r : Room). length r.path) part.scopes (room ∷ []) in
      let named = names_long context.path s.variables_made (declared_names context.unit) (own_named modules part context own) in
      omega (arith, whole, long, rooms, named)
  added Sizes =
      let s = own_steps modules part context own in
      let whole = ap (held Sizes) s.whole_is in
      omega (arith, whole)

  -- and then there are no more than there may be
  few_own : (what : Counted) → held what own.whole ≤ limit what
  few_own Variables = let more = added Variables in let few = (names_counted part context own.scope own.names_are).few_variables in omega (arith, more, few)
  few_own Processes =
      let s = own_steps modules part context own in
      let whole = ap (held Processes) s.whole_is in
      let few = le_so (length (part.begins ++ s.processes.begins)) 256 s.few_processes in
      omega (arith, whole, few)
  few_own Instances =
      let s = own_steps modules part context own in
      let whole = ap (held Instances) s.whole_is in
      let few = le_so (length (part.scopes ++ scope_of context own.scope.variables ∷ [])) 1025 s.few_instances in
      omega (arith, whole, few)
  few_own NamedEvents =
      let s = own_steps modules part context own in
      let whole = ap (held NamedEvents) s.whole_is in
      let few = (names_counted part context own.scope own.names_are).few_events in
      omega (arith, whole, few)
  few_own Letters = let more = added Letters in let few = (names_counted part context own.scope own.names_are).few_letters in omega (arith, more, few)
  few_own Sizes = let more = added Sizes in let few = (names_counted part context own.scope own.names_are).small in omega (arith, more, few)

counts_gather : (top : Text) (modules : SourceTree) (what : Counted) → Gathers top modules (λ (a b : ℕ). a + b) (held what) (total what)
counts_gather top modules what = record {
  none = λ x. omega arith;
  both = λ x xs ys. let sum = sum_by-append (count_in what) xs ys in omega (arith, sum);
  own = λ part context named own.
      let more = added modules part context own what in
      let sum = sum_by-cons (count_in what) (instance_at context) [] in
      omega (arith, more, sum);
}

-- ---- in a text that has a design

module _ (modules : SourceTree) (what : Counted) where
  few_each : (step : PartialDesign → Instantiation → Result PartialDesign ElabFault) → ((part : PartialDesign) (one : Instantiation) (all : PartialDesign) → step part one ≡ Ok all → held what all ≤ limit what) →
      (part all : PartialDesign) (list : List Instantiation) → each step part list ≡ Ok all → held what part ≤ limit what → held what all ≤ limit what
  few_each step one_by part all [] is few = let same = ap (held what) (same_value part all is) in omega (arith, same, few)
  few_each step one_by part all (one ∷ more) is few =
      let front = then_ok (step part one) (λ next. each step next more) all is in
      few_each step one_by front.0 all more front.2 (one_by part one front.0 front.1)

  few_all : (levels : ℕ) (part : PartialDesign) (context : Context) (all : PartialDesign) → elaborate_instance levels modules part context ≡ Ok all → held what all ≤ limit what
  few_all zero part context all is = absurd cc
  few_all (suc levels) part context all is =
      let opened = opened_ok modules levels part context all is in
      let own = opened.0 in
      few_each (λ so_far child. elaborate_instance levels modules so_far (child_context own.scope context child)) (λ so_far child. few_all levels so_far (child_context own.scope context child))
      own.whole all own.children opened.1 (few_own modules part context own what)

  pub few_top : (m : ModuleTree) (part : PartialDesign) → elaborate_top modules m ≡ Ok part → held what part ≤ limit what
  unfolding elaborate_top
  few_top m part is = few_all 16 nothing (top_context m) part is

-- ---- in one that is refused

-- with these there are too many
pub record Exceeds (part : PartialDesign) (list : List Instance) : Type 0 where
  pub what : Counted
  pub many : limit what < held what part + total what list

module _ (modules : SourceTree) (fault : ElabFault) (rule : fault.rule ≡ TooMany) where
  -- each instance is one
  lists_itself : (levels : ℕ) (one : Instance) → 1 ≤ total Instances (instances_from levels modules one)
  lists_itself zero one = let sum = sum_by-cons (count_in Instances) one [] in omega (arith, sum)
  lists_itself (suc levels) one = let sum = sum_by-cons (count_in Instances) one (flat_map (instances_from levels modules) (instances_in modules one)) in omega (arith, sum)

  lists_each : (levels : ℕ) (list : List Instance) → length list ≤ total Instances (flat_map (instances_from levels modules) list)
  lists_each levels [] = omega arith
  lists_each levels (one ∷ more) =
      let sum = sum_by-append (count_in Instances) (instances_from levels modules one) (flat_map (instances_from levels modules) more) in
      let here = lists_itself levels one in
      let rest = lists_each levels more in
      omega (arith, sum, here, rest)

  module _ (part : PartialDesign) (context : Context) where
    more_names : ManyNames part context → (list : List Instance) → Exceeds part (instance_at context ∷ list)
    more_names (inl many) list = let sum = sum_by-cons (count_in Variables) (instance_at context) list in record { what = Variables; many = omega (arith, many, sum) }
    more_names (inr (inl many)) list = let sum = sum_by-cons (count_in NamedEvents) (instance_at context) list in record { what = NamedEvents; many = omega (arith, many, sum) }
    more_names (inr (inr (inl many))) list = let sum = sum_by-cons (count_in Letters) (instance_at context) list in record { what = Letters; many = omega (arith, many, sum) }
    more_names (inr (inr (inr many))) list = let sum = sum_by-cons (count_in Sizes) (instance_at context) list in record { what = Sizes; many = omega (arith, many, sum) }

    more_instances : (levels : ℕ) → 1024 < 0 + length (instances_in modules (instance_at context)) → Exceeds part (instance_at context ∷ flat_map (instances_from levels modules) (instances_in modules (instance_at context)))
    more_instances levels many =
        let sum = sum_by-cons (count_in Instances) (instance_at context) (flat_map (instances_from levels modules) (instances_in modules (instance_at context))) in
        let rest = lists_each levels (instances_in modules (instance_at context)) in
        record { what = Instances; many = omega (arith, many, sum, rest) }

    module _ (scope : Scope) (list : List Instance) where
      more_of : (variables : List Variable) (processes : Made) → lower_own_processes context (ports_of context.unit) scope part.table ≡ Ok processes →
          ((nat_le (length (part.begins ++ processes.begins)) 256 ≡ false) ⊎ (nat_le (length (part.scopes ++ scope_of context scope.variables ∷ [])) 1025 ≡ false)) → Exceeds part (instance_at context ∷ list)
      more_of variables processes made (inl many) =
          let sum = sum_by-cons (count_in Processes) (instance_at context) list in
          let long = length-append part.begins processes.begins in
          let counted = own_processes_counted context scope part.table processes made in
          let more = gt_of (length (part.begins ++ processes.begins)) 256 many in
          record { what = Processes; many = omega (arith, sum, long, counted, more) }
      more_of variables processes made (inr many) =
          let sum = sum_by-cons (count_in Instances) (instance_at context) list in
          let long = length-append part.scopes (scope_of context scope.variables ∷ []) in
          let more = gt_of (length (part.scopes ++ scope_of context scope.variables ∷ [])) 1025 many in
          record { what = Instances; many = omega (arith, sum, long, more) }

      own_steps_exceed : OwnTold context scope part fault → Exceeds part (instance_at context ∷ list)
      own_steps_exceed (in_variables err) =
          absurd (untold is_local (lower_own_variables context (ports_of context.unit) scope) fault TooMany (own_variables_tell context (ports_of context.unit) scope) refl err rule)
      own_steps_exceed (in_processes err) =
          absurd (untold is_of_connections (lower_own_processes context (ports_of context.unit) scope part.table) fault TooMany (own_processes_tell context (ports_of context.unit) scope part) refl err rule)
      own_steps_exceed (too_many variables processes ok err) = more_of variables processes ok (few_err context.name (with_own context scope part variables processes) fault err).0

    own_exceeds : (levels : ℕ) → OwnFault modules part context fault → Exceeds part (instance_at context ∷ flat_map (instances_from levels modules) (instances_in modules (instance_at context)))
    own_exceeds levels (in_names err) = more_names (many_names part context fault rule err) (flat_map (instances_from levels modules) (instances_in modules (instance_at context)))
    own_exceeds levels (in_instances scope names err) = more_instances levels (many_instances modules context.path fault rule 0 scope.known context.unit.items err)
    own_exceeds levels (in_own scope children names wanted err) =
        own_steps_exceed scope (flat_map (instances_from levels modules) (instances_in modules (instance_at context))) (own_told context scope part fault err)

  -- what stands before is held, and what stands behind only adds
  before_is : (levels : ℕ) (scope : Scope) (context : Context) (part next : PartialDesign) (one : Instantiation) (more : List Instance) → elaborate_instance levels modules part (child_context scope context one) ≡ Ok next →
      Exceeds next more → Exceeds part (instances_from levels modules (instance_of context.path one) ++ more)
  before_is levels scope context part next one more ok e =
      let what = e.what in
      let many = e.many in
      let same = gathered context.top modules (λ (a b : ℕ). a + b) (held what) (total what) (counts_gather context.top modules what) levels part (child_context scope context one) next refl ok in
      let sum = sum_by-append (count_in what) (instances_from levels modules (instance_of context.path one)) more in
      record { what = what; many = omega (arith, many, same, sum) }

  behind_adds : (part : PartialDesign) (list more : List Instance) → Exceeds part list → Exceeds part (list ++ more)
  behind_adds part list more e = let many = e.many in let sum = sum_by-append (count_in e.what) list more in record { what = e.what; many = omega (arith, many, sum) }

  each_exceeds : (levels : ℕ) (scope : Scope) (context : Context) →
      ((part : PartialDesign) (context : Context) → elaborate_instance levels modules part context ≡ Err fault → Exceeds part (instances_from levels modules (instance_at context))) →
      (part : PartialDesign) (list : List Instantiation) → each (λ so_far child. elaborate_instance levels modules so_far (child_context scope context child)) part list ≡ Err fault →
      Exceeds part (flat_map (instances_from levels modules) (map (instance_of context.path) list))
  each_exceeds levels scope context one_by part [] is = absurd cc
  each_exceeds levels scope context one_by part (one ∷ more) is =
      by (then_err (elaborate_instance levels modules part (child_context scope context one)) (λ next. each (λ so_far child. elaborate_instance levels modules so_far (child_context scope context child)) next more) fault is)
      (λ next. each_exceeds levels scope context one_by next more)
    where
      by : (elaborate_instance levels modules part (child_context scope context one) ≡ Err fault)
          ⊎ ((next : PartialDesign) × (elaborate_instance levels modules part (child_context scope context one) ≡ Ok next)
          × (each (λ so_far child. elaborate_instance levels modules so_far (child_context scope context child)) next more ≡ Err fault)) →
          ((next : PartialDesign) → each (λ so_far child. elaborate_instance levels modules so_far (child_context scope context child)) next more ≡ Err fault →
          Exceeds next (flat_map (instances_from levels modules) (map (instance_of context.path) more))) →
          Exceeds part (instances_from levels modules (instance_of context.path one) ++ flat_map (instances_from levels modules) (map (instance_of context.path) more))
      by (inl err) rest = behind_adds part (instances_from levels modules (instance_of context.path one)) (flat_map (instances_from levels modules) (map (instance_of context.path) more)) (one_by part (child_context scope context one) err)
      by (inr (next, ok, err)) rest = before_is levels scope context part next one (flat_map (instances_from levels modules) (map (instance_of context.path) more)) ok (rest next err)

  -- its own is held, too
  own_held : (part : PartialDesign) (context : Context) (own : Own modules part context) (list : List Instance) → Exceeds own.whole list → Exceeds part (instance_at context ∷ list)
  own_held part context own list e =
      let many = e.many in
      let more = added modules part context own e.what in
      let sum = sum_by-cons (count_in e.what) (instance_at context) list in
      record { what = e.what; many = omega (arith, many, more, sum) }

  exceeds : (levels : ℕ) (part : PartialDesign) (context : Context) → elaborate_instance levels modules part context ≡ Err fault → Exceeds part (instances_from levels modules (instance_at context))
  exceeds zero part context is =
      let same : fault_at Depth (Some context.name) ≡ fault = cc in
      absurd (let other : Depth ≡ fault.rule = ap (λ (f : ElabFault). f.rule) same in cc)
  exceeds (suc levels) part context is = by (opened_err modules levels part context fault is) (exceeds levels)
    where
      by : OwnFault modules part context fault ⊎ ((own : Own modules part context) × (below modules levels part context own.scope own.children own.whole ≡ Err fault)) →
          ((part : PartialDesign) (context : Context) → elaborate_instance levels modules part context ≡ Err fault → Exceeds part (instances_from levels modules (instance_at context))) →
          Exceeds part (instance_at context ∷ flat_map (instances_from levels modules) (instances_in modules (instance_at context)))
      by (inl own) rest = own_exceeds part context levels own
      by (inr (own, err)) rest =
          own_held part context own (flat_map (instances_from levels modules) (instances_in modules (instance_at context)))
          (subst (λ (l : List Instance). Exceeds own.whole (flat_map (instances_from levels modules) l)) (children_are modules context.path 0 own.scope.known context.unit.items own.children own.instances_are)
          (each_exceeds levels own.scope context rest own.whole own.children err))

  top_exceeds : (m : ModuleTree) → elaborate_top modules m ≡ Err fault → Exceeds nothing (instances_from 16 modules (top_instance m))
  unfolding elaborate_top
  top_exceeds m is = exceeds 16 nothing (top_context m) is

-- ---- the law

nothing_held : (what : Counted) → held what nothing ≡ 0
nothing_held Variables = refl
nothing_held Processes = refl
nothing_held Instances = refl
nothing_held NamedEvents = refl
nothing_held Letters = refl
nothing_held Sizes = refl

unless_some : (holds : Bool) (rule : Rule) (word : Option Word) (fault : ElabFault) → unless holds rule word ≡ Some fault → holds ≡ false
unless_some true rule word fault is = absurd cc
unless_some false rule word fault is = refl

module _ (modules : SourceTree) (top : Option Text) where
  total_is : (what : Counted) (unit : ModuleTree) (part : PartialDesign) → elaborate_top modules unit ≡ Ok part → held what part ≡ total what (instances_from 16 modules (top_instance unit))
  total_is what unit part ok =
      let same = top_gathered unit.name.letters modules (λ (a b : ℕ). a + b) (held what) (total what) (counts_gather unit.name.letters modules what) unit part refl ok in
      let none = nothing_held what in
      omega (arith, same, none)

  module _ (fault : ElabFault) (rule : fault.rule ≡ TooMany) where
    -- an action tells no count
    abbrev kinds_in : PartialDesign → Option ElabFault
    kinds_in part = table_fault (kind_rule part.variables) part.table.actions part.table.words

    abbrev flaws_in : PartialDesign → Option ElabFault
    flaws_in part = table_fault (flaw_rule (blank_environment part.variables)) part.table.actions part.table.words

    abbrev again_in : PartialDesign → Option ElabFault
    again_in part = drivers_fault (blank_environment part.variables) [] part.table.actions part.table.words

    in_flaws : (part : PartialDesign) → (flaws_in part ≡ Some fault) ⊎ (again_in part ≡ Some fault) → ⊥
    in_flaws part (inl is) = untold_fault is_local (flaws_in part) fault TooMany
        (table_tells is_local (flaw_rule (blank_environment part.variables)) (flaw_broken is_local refl refl (blank_environment part.variables)) part.table.actions part.table.words) refl is rule
    in_flaws part (inr is) = untold_fault is_of_drivers (again_in part) fault TooMany
        (drivers_tell is_of_drivers refl (blank_environment part.variables) [] part.table.actions part.table.words) refl is rule

    in_actions : (part : PartialDesign) → (kinds_in part ≡ Some fault) ⊎ (option_or (flaws_in part) (again_in part) ≡ Some fault) → ⊥
    in_actions part (inl is) = untold_fault is_local (kinds_in part) fault TooMany
        (table_tells is_local (kind_rule part.variables) (kind_broken is_local refl refl part.variables) part.table.actions part.table.words) refl is rule
    in_actions part (inr is) = in_flaws part (or_some (flaws_in part) (again_in part) fault is)

    in_table : (unit : ModuleTree) (part : PartialDesign) → top_of modules top ≡ Some unit → elaborate_top modules unit ≡ Ok part →
        (unless (nat_le (length part.begins) 256) TooMany (Some unit.name) ≡ Some fault) ⊎ (option_or (kinds_in part) (option_or (flaws_in part) (again_in part)) ≡ Some fault) →
        HasTooMany modules top
    in_table unit part is_top ok (inl is) =
        let more = gt_of (length part.begins) 256 (unless_some (nat_le (length part.begins) 256) TooMany (Some unit.name) fault is) in
        let same = total_is Processes unit part ok in
        record { what = Processes; unit = unit; is_top = is_top; many = omega (arith, more, same) }
    in_table unit part is_top ok (inr is) = absurd (in_actions part (or_some (kinds_in part) (option_or (flaws_in part) (again_in part)) fault is))

    in_whole : (unit : ModuleTree) (part : PartialDesign) → top_of modules top ≡ Some unit → elaborate_top modules unit ≡ Ok part →
        (broken_paths unit.name part ≡ Some fault) ⊎ (broken_table unit.name part ≡ Some fault) → HasTooMany modules top
    in_whole unit part is_top ok (inl is) = absurd (untold_fault is_of_paths (broken_paths unit.name part) fault TooMany (broken_paths_tell is_of_paths refl refl unit.name part refl) refl is rule)
    in_whole unit part is_top ok (inr is) =
        in_table unit part is_top ok
        (or_some (unless (nat_le (length part.begins) 256) TooMany (Some unit.name)) (option_or (kinds_in part) (option_or (flaws_in part) (again_in part))) fault is)

    counts_told : Told modules top fault → HasTooMany modules top
    counts_told (in_modules w again other) = absurd cc
    counts_told (in_ports m is other) = absurd (let no = sym (of_ports m fault.rule other) ∙ ap is_of_ports rule in cc)
    counts_told (in_top missing other) = absurd cc
    counts_told (in_hierarchy unit is_top err) =
        let e = top_exceeds modules fault rule unit err in
        let many = e.many in
        let none = nothing_held e.what in
        record { what = e.what; unit = unit; is_top = is_top; many = omega (arith, many, none) }
    counts_told (in_design unit part is_top ok broken) = in_whole unit part is_top ok (or_some (broken_paths unit.name part) (broken_table unit.name part) fault broken)

  counts_never : (scale : Timescale) (design : Design) → elaborated modules top scale ≡ Ok design → ¬ HasTooMany modules top
  counts_never scale design is h =
      let all = all_elaborated modules top scale design is in
      let same = ap (λ (u : ModuleTree). total h.what (instances_from 16 modules (top_instance u))) (one_top modules top h.unit all.unit h.is_top all.is_top) in
      let few = few_top modules h.what all.unit all.part all.is_part in
      let sum = total_is h.what all.unit all.part all.is_part in
      let many = h.many in
      omega (arith, same, few, sum, many)

pub counts_meant : IsMeant TooMany HasTooMany
counts_meant = record {
  never = counts_never;
  told = λ modules top scale fault is rule. counts_told modules top fault rule (fault_told modules top scale fault is);
}
