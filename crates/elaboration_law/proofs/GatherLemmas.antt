-- What a design gathers of its instances: it is what stands in the list of all of them.
use Rattle.std.proofs.Common.{◌≡◌, ℕ, zero, suc, List, [], ◌∷◌, ◌++◌, map, Ok, sym, ap, ◌∙◌}
use Rattle.std.specs.List.{flat_map}
use Rattle.vwords.specs.Words.{Text}
use Rattle.vast.specs.NumberedModules.{ModuleTree, SourceTree}
use Rattle.vhierarchy.specs.Instances.{Instantiation, PartialDesign, Context, child_context, each, elaborate_instance, nothing, top_context, elaborate_top}
use Rattle.velab_expr.specs.Scopes.{Scope}
use Rattle.elaboration_law.specs.Hierarchy.{Instance, instances_in, instances_from, top_instance}
use Rattle.elaboration_law.proofs.StepLemmas.{same_value, then_ok}
use Rattle.elaboration_law.proofs.HierarchyLemmas.{instance_of, instance_at, children_are, Own, opened_ok}

-- a view of a part, which each instance below the top of this name adds its own to
pub record Gathers {A : Type 0} (top : Text) (modules : SourceTree) (join : A → A → A) (view : PartialDesign → A) (gather : List Instance → A) : Type 0 where
  pub none : (x : A) → join x (gather []) ≡ x
  pub both : (x : A) (xs ys : List Instance) → join (join x (gather xs)) (gather ys) ≡ join x (gather (xs ++ ys))
  pub own : (part : PartialDesign) (context : Context) → context.top ≡ top → (own : Own modules part context) → view own.whole ≡ join (view part) (gather (instance_at context ∷ []))

module _ {A : Type 0} (top : Text) (modules : SourceTree) (join : A → A → A) (view : PartialDesign → A) (gather : List Instance → A) (g : Gathers top modules join view gather) where
  -- of the instances in an instance, where each adds what is listed of it
  each_gathers : (levels : ℕ) (scope : Scope) (context : Context) →
      ((part : PartialDesign) (context : Context) (all : PartialDesign) → context.top ≡ top → elaborate_instance levels modules part context ≡ Ok all → view all ≡ join (view part) (gather (instances_from levels modules (instance_at context)))) →
      context.top ≡ top →
      (part all : PartialDesign) (children : List Instantiation) → each (λ so_far child. elaborate_instance levels modules so_far (child_context scope context child)) part children ≡ Ok all →
      view all ≡ join (view part) (gather (flat_map (instances_from levels modules) (map (instance_of context.path) children)))
  each_gathers levels scope context one_by named part all [] is = sym (ap view (same_value part all is)) ∙ sym (g.none (view part))
  each_gathers levels scope context one_by named part all (one ∷ more) is =
      let front = then_ok (elaborate_instance levels modules part (child_context scope context one)) (λ next. each (λ so_far child. elaborate_instance levels modules so_far (child_context scope context child)) next more) all is in
      each_gathers levels scope context one_by named front.0 all more front.2
      ∙ ap (λ (x : A). join x (gather (flat_map (instances_from levels modules) (map (instance_of context.path) more)))) (one_by part (child_context scope context one) front.0 named front.1)
      ∙ g.both (view part) (instances_from levels modules (instance_of context.path one)) (flat_map (instances_from levels modules) (map (instance_of context.path) more))

  pub gathered : (levels : ℕ) (part : PartialDesign) (context : Context) (all : PartialDesign) → context.top ≡ top → elaborate_instance levels modules part context ≡ Ok all →
      view all ≡ join (view part) (gather (instances_from levels modules (instance_at context)))
  gathered zero part context all named is = absurd cc
  gathered (suc levels) part context all named is =
      let opened = opened_ok modules levels part context all is in
      let own = opened.0 in
      each_gathers levels own.scope context (gathered levels) named own.whole all own.children opened.1
      ∙ (λ i. join (g.own part context named own i) (gather (flat_map (instances_from levels modules) (children_are modules context.path 0 own.scope.known context.unit.items own.children own.instances_are i))))
      ∙ g.both (view part) (instance_at context ∷ []) (flat_map (instances_from levels modules) (instances_in modules (instance_at context)))

  pub top_gathered : (m : ModuleTree) (part : PartialDesign) → m.name.letters ≡ top → elaborate_top modules m ≡ Ok part → view part ≡ join (view nothing) (gather (instances_from 16 modules (top_instance m)))
  unfolding elaborate_top
  top_gathered m part named is = gathered 16 nothing (top_context m) part named is
