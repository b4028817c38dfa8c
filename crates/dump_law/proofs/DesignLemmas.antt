-- A design that a text stands for is small.
use Rattle.std.proofs.Common.{◌≡◌, ◌≤◌, ℕ, zero, suc, ◌+◌, List, [], ◌∷◌, All, length, Option, Result, Ok, refl, sym, ap, subst, arith, length-append}
use Rattle.std.proofs.lemmas.List.Elements.{All-nil, All-cons, All-head, All-tail, All-append}
use Rattle.basis.specs.declared.timescale.Timescale.{Timescale}
use Rattle.vwords.specs.Words.{Text}
use Rattle.vast.specs.NumberedModules.{ModuleTree, SourceTree}
use Rattle.module_size.specs.Sizes.{size_of}
use Rattle.vdesign.specs.Design.{Variable, Scope, Design}
use Rattle.vmodules.specs.Ports.{ports_of, own_items}
use Rattle.velab_declaration.specs.Drives.{Place, start_of, with_start_values}
use Rattle.velab_declaration.specs.Variables.{port_scope}
use Rattle.velab_expr.specs.declared.fault.ElabFault.{ElabFault}
use Rattle.vhierarchy.specs.Instances.{Instantiation, PartialDesign, Context, scope_of, child_context, each, elaborate_instance, elaborate_top, nothing, top_context, driven_in, Elaborates}
use Rattle.elaboration_law.specs.Counts.{Variables, Instances, Letters}
use Rattle.elaboration_law.proofs.StepLemmas.{same_value, then_ok}
use Rattle.elaboration_law.proofs.HierarchyLemmas.{Own, opened_ok, all_elaborated}
use Rattle.elaboration_law.proofs.OwnLemmas.{own_steps}
use Rattle.elaboration_law.proofs.CountLemmas.{few_top}
use Rattle.dump_law.specs.Small.{IsSmallVariable, IsShallow, IsSmall}
use Rattle.dump_law.proofs.RangeLemmas.{ports_small, variables_small}

-- what the bits of variables are at first changes no size
module _ (driven : List Place) where
  started_long : (n : ℕ) (vs : List Variable) → length (with_start_values driven n vs) ≡ length vs
  started_long n [] = refl
  started_long n (v ∷ more) = ap suc (started_long (n + 1) more)

  started_letters : (n : ℕ) (vs : List Variable) → size_of (λ v. length v.name) (with_start_values driven n vs) ≡ size_of (λ v. length v.name) vs
  started_letters n [] = refl
  started_letters n (v ∷ more) = ap (λ (long : ℕ). length v.name + long) (started_letters (n + 1) more)

  started_small : (n : ℕ) (vs : List Variable) → All IsSmallVariable vs → All IsSmallVariable (with_start_values driven n vs)
  started_small n [] all = All-nil IsSmallVariable
  started_small n (v ∷ more) all =
      All-cons IsSmallVariable (record v { start = start_of driven n v }) (with_start_values driven (n + 1) more) (All-head IsSmallVariable v more all)
      (started_small (n + 1) more (All-tail IsSmallVariable v more all))

-- what stands in a design so far
record IsSmallPart (part : PartialDesign) : Type 0 where
  narrow : All IsSmallVariable part.variables
  shallow : All IsShallow part.scopes

-- an instance with so many levels left
record IsPlaced (levels : ℕ) (context : Context) : Type 0 where
  depth : context.depth + levels ≤ 16
  path : length context.name.letters ≤ length context.path

module _ (modules : SourceTree) where
  own_small : (levels : ℕ) (part : PartialDesign) (context : Context) (own : Own modules part context) → IsPlaced (suc levels) context → IsSmallPart part → IsSmallPart own.whole
  own_small levels part context own placed small =
      let s = own_steps modules part context own in
      let path = context.path in
      let scope : Scope = scope_of context own.scope.variables in
      let ports = ports_small path (port_scope context.unit own.scope) (ports_of context.unit) s.ports_are s.ports_made in
      let others = variables_small path own.scope (own_items context.unit) s.others_are s.others_made in
      let made = subst (All IsSmallVariable) s.both_made (All-append IsSmallVariable s.ports_are s.others_are ports others) in
      let here : IsShallow scope = let depth = placed.depth in (omega (arith, depth), placed.path) in
      subst IsSmallPart s.whole_is (record {
        narrow = All-append IsSmallVariable part.variables s.variables_made small.narrow made;
        shallow = All-append IsShallow part.scopes (scope ∷ []) small.shallow (All-cons IsShallow scope [] here (All-nil IsShallow));
      })

  each_small : (step : PartialDesign → Instantiation → Result PartialDesign ElabFault) → ((part : PartialDesign) (one : Instantiation) (all : PartialDesign) → step part one ≡ Ok all → IsSmallPart part → IsSmallPart all) →
      (part all : PartialDesign) (list : List Instantiation) → each step part list ≡ Ok all → IsSmallPart part → IsSmallPart all
  each_small step one_by part all [] is small = subst IsSmallPart (same_value part all is) small
  each_small step one_by part all (one ∷ more) is small =
      let front = then_ok (step part one) (λ next. each step next more) all is in
      each_small step one_by front.0 all more front.2 (one_by part one front.0 front.1 small)

  child_placed : (levels : ℕ) (context : Context) (own_scope : _) (child : Instantiation) → IsPlaced (suc levels) context → IsPlaced levels (child_context own_scope context child)
  child_placed levels context own_scope child placed =
      let depth = placed.depth in
      let long = length-append context.path (46 ∷ child.name.letters) in
      record { depth = omega (arith, depth); path = omega (arith, long) }

  all_small : (levels : ℕ) (part : PartialDesign) (context : Context) (all : PartialDesign) → elaborate_instance levels modules part context ≡ Ok all → IsPlaced levels context → IsSmallPart part → IsSmallPart all
  all_small zero part context all is placed small = absurd cc
  all_small (suc levels) part context all is placed small =
      let opened = opened_ok modules levels part context all is in
      let own = opened.0 in
      each_small (λ so_far child. elaborate_instance levels modules so_far (child_context own.scope context child))
      (λ so_far child next next_is. all_small levels so_far (child_context own.scope context child) next next_is (child_placed levels context own.scope child placed))
      own.whole all own.children opened.1 (own_small levels part context own placed small)

  top_small : (m : ModuleTree) (part : PartialDesign) → elaborate_top modules m ≡ Ok part → IsSmallPart part
  unfolding elaborate_top
  top_small m part is =
      all_small 16 nothing (top_context m) part is (record { depth = omega arith; path = omega arith })
      (record { narrow = All-nil IsSmallVariable; shallow = All-nil IsShallow })

pub designs_small : (tree : SourceTree) (top : Option Text) (scale : Timescale) (design : Design) → Elaborates tree top scale design → IsSmall design
designs_small tree top scale design is =
    let all = all_elaborated tree top scale design is in
    let made = top_small tree all.unit all.part all.is_part in
    let driven = driven_in all.part in
    subst IsSmall all.is_design (record {
      variables = subst (λ (long : ℕ). long ≤ 1024) (sym (started_long driven 0 all.part.variables)) (few_top tree Variables all.unit all.part all.is_part);
      scopes = few_top tree Instances all.unit all.part all.is_part;
      letters = subst (λ (long : ℕ). long + size_of (λ s. length s.path) all.part.scopes ≤ 1048576) (sym (started_letters driven 0 all.part.variables))
          (few_top tree Letters all.unit all.part all.is_part);
      narrow = started_small driven 0 all.part.variables made.narrow;
      shallow = made.shallow;
    })
