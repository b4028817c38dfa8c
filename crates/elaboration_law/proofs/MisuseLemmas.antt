-- Rules about what is used: in a text that has a design all of it fits its place, and where such a rule is told by an instance something doesn't.
use Rattle.std.proofs.Common.{◌≡◌, ℕ, ◌+◌, zero, suc, Bool, true, false, true≢false, List, [], ◌∷◌, ◌++◌, length, Option, Some, Ok, Err, refl, sym, ap, subst, ◌∙◌, ◌⊎◌, inl, inr}
use Rattle.std.specs.List.{Contains, flat_map}
use Rattle.basis.specs.declared.timescale.Timescale.{Timescale}
use Rattle.vwords.specs.Words.{Text}
use Rattle.vast.specs.NumberedWords.{Word}
use Rattle.vast.specs.NumberedModules.{ConnectionsTree, InstanceTree, ItemTree, instances, ModuleTree, SourceTree}
use Rattle.vdesign.specs.Design.{Design}
use Rattle.vmodules.specs.Names.{letters_of}
use Rattle.vmodules.specs.Hierarchy.{module_of, top_of}
use Rattle.vmodules.specs.Connected.{open_names, named_connections, named_connections_if}
use Rattle.velab_expr.specs.declared.fault.Rule.TheVariants.{Depth}
use Rattle.velab_expr.specs.declared.fault.ElabFault.{ElabFault}
use Rattle.velab_expr.specs.Rules.{fault_at}
use Rattle.velab_expr.specs.Scopes.{Scope, at}
use Rattle.velab_expr.specs.Symbols.{symbols_by}
use Rattle.velab_declaration.specs.Variables.{port_names}
use Rattle.vhierarchy.specs.Instances.{Instantiation, instantiation_by, lower_instances, elaborate_instance, PartialDesign, Context, lower_names, child_context, nothing, top_context, elaborate_top, elaborated}
use Rattle.elaboration_law.specs.Hierarchy.{Instance, instances_in, StandsBelow, top_instance}
use Rattle.elaboration_law.specs.Uses.{Use}
use Rattle.elaboration_law.specs.Places.{Place, no_place, place_behind, UseAt, all_fit, used_in_instance, HasMisuse, of_top, of_instance}
use Rattle.elaboration_law.proofs.StepLemmas.{contains_mapped, mapped_contains}
use Rattle.elaboration_law.proofs.HierarchyLemmas.{instance_of, instance_at, children_are, each_ok, each_err, Own, OwnFault, below, opened_ok, opened_err, all_elaborated}
use Rattle.elaboration_law.proofs.DepthLemmas.{one_top}
use Rattle.elaboration_law.proofs.MadeLemmas.{MadeBy, all_made, all_made_by}
use Rattle.elaboration_law.proofs.PlaceLemmas.{IsAt, nowhere_is, stands_at, stands_behind, names_stand}
use Rattle.elaboration_law.proofs.InstanceUses.{UseRule, own_fits, own_misuses}

-- what an instance in this context uses, where it stands at this place
abbrev pub used_at : Place → Context → List UseAt
used_at outside context = used_in_instance context.unit outside context.overrides.values context.connections context.path

-- what one that an item lists uses
abbrev pub used_by_listed : Instance → List ItemTree → Option ConnectionsTree → ModuleTree → InstanceTree → List UseAt
used_by_listed one before overrides child made =
    used_in_instance child (place_behind one.unit before) (named_connections_if (letters_of (open_names child)) overrides) (named_connections (letters_of (port_names child)) made.connections)
    (one.path ++ 46 ∷ made.name.letters)

-- what was elaborated for an instance, it and all below it
record AnsweredAt (modules : SourceTree) (one : Instance) : Type 0 where
  pub levels : ℕ
  pub part : PartialDesign
  pub context : Context
  pub all : PartialDesign
  pub at : instance_at context ≡ one
  pub is : elaborate_instance levels modules part context ≡ Ok all

-- the scope of an instance behind these items, at their place
pub behind_items : (part : PartialDesign) (context : Context) (scope : Scope) (before after : List ItemTree) → lower_names part context ≡ Ok scope → before ++ after ≡ context.unit.items →
    IsAt (place_behind context.unit before) (at scope (scope.known + length (flat_map symbols_by before)))
behind_items part context scope before after is items =
    stands_at context.unit before after (at scope (scope.known + length (flat_map symbols_by before))) (stands_behind context.unit [] before after scope items refl (names_stand part context scope is))

module _ (modules : SourceTree) where
  answered_at : (depth levels : ℕ) (part : PartialDesign) (context : Context) (all : PartialDesign) (one : Instance) → elaborate_instance levels modules part context ≡ Ok all → StandsBelow modules depth (instance_at context) one → AnsweredAt modules one
  answered_at zero levels part context all one is stands = record { levels = levels; part = part; context = context; all = all; at = stands; is = is }
  answered_at (suc depth) zero part context all one is stands = absurd cc
  answered_at (suc depth) (suc levels) part context all one is (child, inside, stands) =
      let opened = opened_ok modules levels part context all is in
      let own = opened.0 in
      let listed = subst (λ (l : List Instance). Contains l child) (sym (children_are modules context.path 0 own.scope.known context.unit.items own.children own.instances_are)) inside in
      let it = mapped_contains (instance_of context.path) child own.children listed in
      let step = each_ok (λ so_far c. elaborate_instance levels modules so_far (child_context own.scope context c)) own.whole all own.children it.0 opened.1 it.1 in
      answered_at depth levels step.0 (child_context own.scope context it.0) step.1 one step.2
      (subst (λ (i : Instance). StandsBelow modules depth i one) (sym it.2) stands)

  module _ (r : UseRule) where
    -- what an instance that was elaborated uses fits
    fitting : (levels : ℕ) (part : PartialDesign) (context : Context) (all : PartialDesign) (outside : Place) → IsAt outside context.overrides.scope → elaborate_instance levels modules part context ≡ Ok all → all_fit r.fits (used_at outside context) ≡ true
    fitting zero part context all outside h is = absurd cc
    fitting (suc levels) part context all outside h is = own_fits r part context outside h modules (opened_ok modules levels part context all is).0

    -- and so does what those use that its items list
    fitting_listed : (levels : ℕ) (part : PartialDesign) (context : Context) (all : PartialDesign) → elaborate_instance levels modules part context ≡ Ok all →
        (before : List ItemTree) (name : Word) (overrides : Option ConnectionsTree) (list : List InstanceTree) (after : List ItemTree) (child : ModuleTree) (made : InstanceTree) →
        before ++ instances name overrides list ∷ after ≡ context.unit.items → module_of modules name.letters ≡ Some child → Contains list made →
        all_fit r.fits (used_by_listed (instance_at context) before overrides child made) ≡ true
    fitting_listed zero part context all is before name overrides list after child made inside there listed = absurd cc
    fitting_listed (suc levels) part context all is before name overrides list after child made inside there listed =
        let opened = opened_ok modules levels part context all is in
        let own = opened.0 in
        let c = instantiation_by child (own.scope.known + length (flat_map symbols_by before)) overrides made in
        let found = all_made modules 0 own.scope.known before name overrides list after own.children child made (ap (lower_instances modules 0 own.scope.known) inside ∙ own.instances_are) there listed in
        let step = each_ok (λ so_far c. elaborate_instance levels modules so_far (child_context own.scope context c)) own.whole all own.children c opened.1 found in
        fitting levels step.0 (child_context own.scope context c) step.1 (place_behind context.unit before)
        (behind_items part context own.scope before (instances name overrides list ∷ after) own.names_are inside) step.2

-- an instance that an item lists, somewhere below this one, uses what doesn't fit
pub record MisusesBelow (fits : Place → Use → Bool) (modules : SourceTree) (root : Instance) : Type 0 where
  pub depth : ℕ
  pub one : Instance
  pub before : List ItemTree
  pub name : Word
  pub overrides : Option ConnectionsTree
  pub list : List InstanceTree
  pub after : List ItemTree
  pub child : ModuleTree
  pub made : InstanceTree
  pub stands : StandsBelow modules depth root one
  pub inside : before ++ instances name overrides list ∷ after ≡ one.unit.items
  pub there : module_of modules name.letters ≡ Some child
  pub listed : Contains list made
  pub misuses : all_fit fits (used_by_listed one before overrides child made) ≡ false

module _ (fits : Place → Use → Bool) (modules : SourceTree) where
  one_deeper : (root child : Instance) → Contains (instances_in modules root) child → MisusesBelow fits modules child → MisusesBelow fits modules root
  one_deeper root child inside u = record {
    depth = suc u.depth;
    one = u.one;
    before = u.before;
    name = u.name;
    overrides = u.overrides;
    list = u.list;
    after = u.after;
    child = u.child;
    made = u.made;
    stands = (child, inside, u.stands);
    inside = u.inside;
    there = u.there;
    listed = u.listed;
    misuses = u.misuses;
  }

  -- an instance in this one
  here : (context : Context) (known : ℕ) (c : Instantiation) (m : MadeBy modules known context.unit.items c) →
      all_fit fits (used_in_instance c.child (place_behind context.unit m.before) c.values c.connections (context.path ++ 46 ∷ c.name.letters)) ≡ false → MisusesBelow fits modules (instance_at context)
  here context known c m misuses = record {
    depth = 0;
    one = instance_at context;
    before = m.before;
    name = m.name;
    overrides = m.overrides;
    list = m.list;
    after = m.after;
    child = m.child;
    made = m.made;
    stands = refl;
    inside = m.inside;
    there = m.there;
    listed = m.listed;
    misuses = ap (λ (x : Instantiation). all_fit fits (used_in_instance x.child (place_behind context.unit m.before) x.values x.connections (context.path ++ 46 ∷ x.name.letters))) m.is ∙ misuses;
  }

  -- or one below it
  pub deeper : (part : PartialDesign) (context : Context) (own : Own modules part context) (c : Instantiation) (m : MadeBy modules own.scope.known context.unit.items c) → Contains own.children c →
      (all_fit fits (used_at (place_behind context.unit m.before) (child_context own.scope context c)) ≡ false) ⊎ MisusesBelow fits modules (instance_at (child_context own.scope context c)) →
      MisusesBelow fits modules (instance_at context)
  deeper part context own c m inside (inl misuses) = here context own.scope.known c m misuses
  deeper part context own c m inside (inr u) =
      one_deeper (instance_at context) (instance_of context.path c)
      (subst (λ (l : List Instance). Contains l (instance_of context.path c)) (children_are modules context.path 0 own.scope.known context.unit.items own.children own.instances_are)
      (contains_mapped (instance_of context.path) c own.children inside)) u

-- where it was made its names are those of its place
pub around_made : (modules : SourceTree) (part : PartialDesign) (context : Context) (own : Own modules part context) (c : Instantiation) (m : MadeBy modules own.scope.known context.unit.items c) → IsAt (place_behind context.unit m.before) (at own.scope c.known)
around_made modules part context own c m =
    subst (λ (x : Instantiation). IsAt (place_behind context.unit m.before) (at own.scope x.known)) m.is
    (behind_items part context own.scope m.before (instances m.name m.overrides m.list ∷ m.after) own.names_are m.inside)

module _ (r : UseRule) (modules : SourceTree) (fault : ElabFault) (rule : fault.rule ≡ r.rule) where
  not_too_deep : r.rule ≡ Depth → ⊥
  not_too_deep same = true≢false (sym r.is_asked ∙ ap r.question.asked same ∙ r.no_depth)

  told_in : (levels : ℕ) (part : PartialDesign) (context : Context) (outside : Place) → IsAt outside context.overrides.scope → elaborate_instance levels modules part context ≡ Err fault →
      (all_fit r.fits (used_at outside context) ≡ false) ⊎ MisusesBelow r.fits modules (instance_at context)
  told_in zero part context outside h is =
      let same : fault_at Depth (Some context.name) ≡ fault = cc in absurd (not_too_deep (sym rule ∙ sym (ap (λ (f : ElabFault). f.rule) same)))
  told_in (suc levels) part context outside h is = by (opened_err modules levels part context fault is) (λ before next inner of_inner. told_in levels before next inner of_inner)
    where
      by : OwnFault modules part context fault ⊎ ((own : Own modules part context) × (below modules levels part context own.scope own.children own.whole ≡ Err fault)) →
          ((before : PartialDesign) (next : Context) (inner : Place) → IsAt inner next.overrides.scope → elaborate_instance levels modules before next ≡ Err fault →
          (all_fit r.fits (used_at inner next) ≡ false) ⊎ MisusesBelow r.fits modules (instance_at next)) →
          (all_fit r.fits (used_at outside context) ≡ false) ⊎ MisusesBelow r.fits modules (instance_at context)
      by (inl own) rest = inl (own_misuses r part context outside h modules fault rule own)
      by (inr (own, err)) rest =
          let it = each_err (λ so_far c. elaborate_instance levels modules so_far (child_context own.scope context c)) own.whole own.children fault err in
          let m = all_made_by modules 0 own.scope.known context.unit.items own.children it.1 own.instances_are it.2 in
          inr (deeper r.fits modules part context own it.1 m it.2 (rest it.0 (child_context own.scope context it.1) (place_behind context.unit m.before) (around_made modules part context own it.1 m) it.3))

-- ---- a text

module _ (r : UseRule) (modules : SourceTree) (m : ModuleTree) where
  top_fits : (all : PartialDesign) → elaborate_top modules m ≡ Ok all → all_fit r.fits (used_in_instance m no_place [] [] m.name.letters) ≡ true
  unfolding elaborate_top
  top_fits all is = fitting modules r 16 nothing (top_context m) all no_place nowhere_is is

  top_answered : (all : PartialDesign) (depth : ℕ) (one : Instance) → elaborate_top modules m ≡ Ok all → StandsBelow modules depth (top_instance m) one → AnsweredAt modules one
  unfolding elaborate_top
  top_answered all depth one is stands = answered_at modules depth 16 nothing (top_context m) all one is stands

  top_misuses : (fault : ElabFault) → fault.rule ≡ r.rule → elaborate_top modules m ≡ Err fault → (all_fit r.fits (used_in_instance m no_place [] [] m.name.letters) ≡ false) ⊎ MisusesBelow r.fits modules (top_instance m)
  unfolding elaborate_top
  top_misuses fault rule is = told_in r modules fault rule 16 nothing (top_context m) no_place nowhere_is is

module _ (r : UseRule) (modules : SourceTree) (top : Option Text) where
  pub misuse_told : (fault : ElabFault) (unit : ModuleTree) → fault.rule ≡ r.rule → top_of modules top ≡ Some unit → elaborate_top modules unit ≡ Err fault → HasMisuse r.fits modules top
  misuse_told fault unit rule is_top err = by (top_misuses r modules unit fault rule err)
    where
      by : (all_fit r.fits (used_in_instance unit no_place [] [] unit.name.letters) ≡ false) ⊎ MisusesBelow r.fits modules (top_instance unit) → HasMisuse r.fits modules top
      by (inl misuses) = of_top unit is_top misuses
      by (inr u) = of_instance u.depth u.one u.before u.name u.overrides u.list u.after u.child u.made (unit, is_top, u.stands) u.inside u.there u.listed u.misuses

  pub misuse_never : (scale : Timescale) (design : Design) → elaborated modules top scale ≡ Ok design → ¬ HasMisuse r.fits modules top
  misuse_never scale design is (of_top m is_top misuses) =
      let all = all_elaborated modules top scale design is in
      let same = one_top modules top m all.unit is_top all.is_top in
      true≢false (sym (top_fits r modules all.unit all.part all.is_part) ∙ sym (ap (λ (u : ModuleTree). all_fit r.fits (used_in_instance u no_place [] [] u.name.letters)) same) ∙ misuses)
  misuse_never scale design is (of_instance levels one before name overrides list after child made (m, is_top, stands) inside there listed misuses) =
      let all = all_elaborated modules top scale design is in
      let same = one_top modules top m all.unit is_top all.is_top in
      let found = top_answered r modules all.unit all.part levels one all.is_part (subst (λ (u : ModuleTree). StandsBelow modules levels (top_instance u) one) same stands) in
      let within = subst (λ (i : Instance). before ++ instances name overrides list ∷ after ≡ i.unit.items) (sym found.at) inside in
      true≢false (sym (fitting_listed modules r found.levels found.part found.context found.all found.is before name overrides list after child made within there listed)
      ∙ ap (λ (i : Instance). all_fit r.fits (used_by_listed i before overrides child made)) found.at ∙ misuses)
