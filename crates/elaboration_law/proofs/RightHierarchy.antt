-- The actions of a finished design: where all are right, what each instance uses suits its place; and where one isn't, some use doesn't.
use Rattle.std.proofs.Common.{◌≡◌, ℕ, ◌+◌, zero, suc, Bool, true, false, true≢false, ◌&&◌, List, [], ◌∷◌, ◌++◌, length, Option, Some, Result, Ok, refl, sym, ap, subst, ◌∙◌, ◌⊎◌, inl, inr, arith, append_assoc}
use Rattle.std.specs.List.{Contains, flat_map}
use Rattle.std.proofs.lemmas.List.{append-nil}
use Rattle.basis.proofs.Bools.{and_left, and_right}
use Rattle.vwords.specs.Words.{Text}
use Rattle.vast.specs.NumberedWords.{Word}
use Rattle.vast.specs.NumberedModules.{ConnectionsTree, InstanceTree, ItemTree, instances, ModuleTree, SourceTree}
use Rattle.vdesign.specs.Design.{Variable}
use Rattle.vmodules.specs.Hierarchy.{module_of, top_of}
use Rattle.velab_expr.specs.declared.fault.ElabFault.{ElabFault}
use Rattle.velab_expr.specs.Scopes.{Scope}
use Rattle.velab_expr.specs.Symbols.{symbols_by}
use Rattle.vhierarchy.specs.Instances.{Instantiation, instantiation_by, lower_instances, each, elaborate_instance, PartialDesign, Context, base_of, child_context, nothing, no_scope, top_context, elaborate_top}
use Rattle.elaboration_law.specs.Hierarchy.{Instance, StandsBelow, top_instance}
use Rattle.elaboration_law.specs.Places.{Place, no_place, place_behind, used_in_instance, HasMisuse, of_top, of_instance}
use Rattle.elaboration_law.proofs.StepLemmas.{same_value, then_ok, contains_first, contains_more, contains_cases, contains_none, mapped_contains}
use Rattle.elaboration_law.proofs.HierarchyLemmas.{instance_of, instance_at, children_are, Own, below, opened_ok}
use Rattle.elaboration_law.proofs.OwnLemmas.{own_steps}
use Rattle.elaboration_law.proofs.DepthLemmas.{one_top}
use Rattle.elaboration_law.proofs.MadeLemmas.{MadeBy, all_made, all_made_by}
use Rattle.elaboration_law.proofs.PlaceLemmas.{IsAt, nowhere_is, names_stand, item_scope_of, scope_keeps}
use Rattle.elaboration_law.proofs.MisuseLemmas.{used_at, used_by_listed, behind_items, around_made, MisusesBelow, deeper}
use Rattle.elaboration_law.proofs.RightUses.{Real, is_suited_later}
use Rattle.elaboration_law.proofs.RightInstances.{all_suit, all_right, own_grows, own_real}

second_false : (a b : Bool) → (a && b) ≡ false → a ≡ true → b ≡ false
second_false true b e f = e
second_false false b e f = absurd (true≢false (sym f))

module _ (vs : List Variable) where
  -- the design's variables begin with those of this part
  abbrev Within : PartialDesign → Type 0
  Within part = (rest : List Variable) × (part.variables ++ rest ≡ vs)

  -- ---- one after another

  module _ (step : PartialDesign → Instantiation → Result PartialDesign ElabFault) (back : (before after : PartialDesign) (one : Instantiation) → step before one ≡ Ok after → Within after → Within before) where
    each_within : (part all : PartialDesign) (list : List Instantiation) → each step part list ≡ Ok all → Within all → Within part
    each_within part all [] is w = subst Within (sym (same_value part all is)) w
    each_within part all (one ∷ more) is w =
        let front = then_ok (step part one) (λ next. each step next more) all is in
        back part front.0 one front.1 (each_within front.0 all more front.2 w)

    -- the first that adds an action that isn't right
    each_wrong : (part all : PartialDesign) (list : List Instantiation) → each step part list ≡ Ok all → Within all → all_right vs part.table ≡ true → all_right vs all.table ≡ false →
        (before : PartialDesign) × (one : Instantiation) × (after : PartialDesign) × Contains list one × (step before one ≡ Ok after) × Within after × (all_right vs before.table ≡ true) × (all_right vs after.table ≡ false)
    each_wrong part all [] is w right wrong = absurd (true≢false (sym right ∙ ap (λ (p : PartialDesign). all_right vs p.table) (same_value part all is) ∙ wrong))
    each_wrong part all (one ∷ more) is w right wrong =
        let front = then_ok (step part one) (λ next. each step next more) all is in
        by front.0 front.1 front.2 (all_right vs front.0.table) refl (each_wrong front.0 all more front.2 w)
      where
        by : (next : PartialDesign) → step part one ≡ Ok next → each step next more ≡ Ok all → (b : Bool) → all_right vs next.table ≡ b →
            (all_right vs next.table ≡ true → all_right vs all.table ≡ false →
            (before : PartialDesign) × (one : Instantiation) × (after : PartialDesign) × Contains more one × (step before one ≡ Ok after) × Within after × (all_right vs before.table ≡ true) × (all_right vs after.table ≡ false)) →
            (before : PartialDesign) × (x : Instantiation) × (after : PartialDesign) × Contains (one ∷ more) x × (step before x ≡ Ok after) × Within after × (all_right vs before.table ≡ true) × (all_right vs after.table ≡ false)
        by next ok others false e rest = (part, one, next, contains_first one more, ok, each_within next all more others w, right, e)
        by next ok others true e rest =
            let it = rest e wrong in
            (it.0, it.1, it.2, contains_more one it.1 more it.3, it.4, it.5, it.6, it.7)

    -- where all are right each adds right ones
    each_right : (part all : PartialDesign) (list : List Instantiation) → ((before after : PartialDesign) (one : Instantiation) → Contains list one → step before one ≡ Ok after → Within after → all_right vs after.table ≡ true → all_right vs before.table ≡ true) →
        each step part list ≡ Ok all → Within all → all_right vs all.table ≡ true →
        (all_right vs part.table ≡ true) × ((one : Instantiation) → Contains list one → (before : PartialDesign) × (after : PartialDesign) × (step before one ≡ Ok after) × Within after × (all_right vs after.table ≡ true))
    each_right part all [] right_back is w right = (ap (λ (p : PartialDesign). all_right vs p.table) (same_value part all is) ∙ right, λ one inside. absurd (contains_none one inside))
    each_right part all (first ∷ more) right_back is w right =
        let front = then_ok (step part first) (λ next. each step next more) all is in
        let rest = each_right front.0 all more (λ before after one inside. right_back before after one (contains_more first one more inside)) front.2 w right in
        let within = each_within front.0 all more front.2 w in
        (right_back part front.0 first (contains_first first more) front.1 within rest.0, λ one inside. by front.0 front.1 within rest.0 rest.1 one (contains_cases first one more inside))
      where
        by : (next : PartialDesign) → step part first ≡ Ok next → Within next → all_right vs next.table ≡ true →
            ((one : Instantiation) → Contains more one → (before : PartialDesign) × (after : PartialDesign) × (step before one ≡ Ok after) × Within after × (all_right vs after.table ≡ true)) →
            (one : Instantiation) → (first ≡ one) ⊎ Contains more one → (before : PartialDesign) × (after : PartialDesign) × (step before one ≡ Ok after) × Within after × (all_right vs after.table ≡ true)
        by next ok within e others one (inl same) = (part, next, sym (ap (step part) same) ∙ ok, within, e)
        by next ok within e others one (inr inside) = others one inside

  -- ---- an instance

  module _ (modules : SourceTree) where
    own_parts_stand : (part : PartialDesign) (context : Context) (own : Own modules part context) → Within own.whole → Within part
    own_parts_stand part context own (rest, is) =
        let s = own_steps modules part context own in
        (s.variables_made ++ rest, sym (append_assoc part.variables s.variables_made rest) ∙ ap (λ (p : PartialDesign). p.variables ++ rest) s.whole_is ∙ is)

    grown_within : (levels : ℕ) (part : PartialDesign) (context : Context) (all : PartialDesign) → elaborate_instance levels modules part context ≡ Ok all → Within all → Within part
    grown_within zero part context all is w = absurd cc
    grown_within (suc levels) part context all is w =
        let opened = opened_ok modules levels part context all is in
        let own = opened.0 in
        own_parts_stand part context own (each_within (λ so_far c. elaborate_instance levels modules so_far (child_context own.scope context c))
        (λ before after one ok. grown_within levels before (child_context own.scope context one) after ok) own.whole all own.children opened.1 w)

    module _ (part : PartialDesign) (context : Context) (own : Own modules part context) (w : Within own.whole) where
      real_here : Real vs (place_behind context.unit []) own.scope
      real_here =
          let s = own_steps modules part context own in
          own_real modules part context own vs w.0 (ap (λ (p : PartialDesign). p.variables ++ w.0) s.whole_is ∙ w.1)
          (scope_keeps (λ (x : Scope). x.first) (λ x one meaning. refl) (λ x known. refl) (base_of part context) context.unit own.scope (item_scope_of part context own.scope own.names_are))
          (names_stand part context own.scope own.names_are).of.variables

      -- what its own steps add is right where what it uses suits
      own_all : (outside : Place) → IsAt outside context.overrides.scope → Real vs outside context.overrides.scope → all_right vs own.whole.table ≡ (all_right vs part.table && all_suit (used_at outside context))
      own_all outside around real_around =
          let s = own_steps modules part context own in
          sym (ap (λ (p : PartialDesign). all_right vs p.table) s.whole_is)
          ∙ own_grows vs context outside own.scope part.table s.processes around real_around (names_stand part context own.scope own.names_are) real_here s.processes_made

    -- ---- where one isn't right

    wrong_in : (levels : ℕ) (part : PartialDesign) (context : Context) (all : PartialDesign) (outside : Place) → IsAt outside context.overrides.scope → Real vs outside context.overrides.scope → elaborate_instance levels modules part context ≡ Ok all → Within all →
        all_right vs part.table ≡ true → all_right vs all.table ≡ false → (all_suit (used_at outside context) ≡ false) ⊎ MisusesBelow is_suited_later modules (instance_at context)
    wrong_in zero part context all outside around real_around is w right wrong = absurd cc
    wrong_in (suc levels) part context all outside around real_around is w right wrong =
        let opened = opened_ok modules levels part context all is in
        by opened.0 opened.1 (all_right vs opened.0.whole.table) refl
        (λ before next after inner at_inner real_inner ok within good bad. wrong_in levels before next after inner at_inner real_inner ok within good bad)
      where
        by : (own : Own modules part context) → below modules levels part context own.scope own.children own.whole ≡ Ok all → (b : Bool) → all_right vs own.whole.table ≡ b →
            ((before : PartialDesign) (next : Context) (after : PartialDesign) (inner : Place) → IsAt inner next.overrides.scope → Real vs inner next.overrides.scope → elaborate_instance levels modules before next ≡ Ok after → Within after →
            all_right vs before.table ≡ true → all_right vs after.table ≡ false → (all_suit (used_at inner next) ≡ false) ⊎ MisusesBelow is_suited_later modules (instance_at next)) →
            (all_suit (used_at outside context) ≡ false) ⊎ MisusesBelow is_suited_later modules (instance_at context)
        by own others b e rest = cases b e
          where
            step : PartialDesign → Instantiation → Result PartialDesign ElabFault
            step so_far c = elaborate_instance levels modules so_far (child_context own.scope context c)

            back : (before after : PartialDesign) (one : Instantiation) → step before one ≡ Ok after → Within after → Within before
            back before after one ok = grown_within levels before (child_context own.scope context one) after ok

            within : Within own.whole
            within = each_within step back own.whole all own.children others w

            cases : (b : Bool) → all_right vs own.whole.table ≡ b → (all_suit (used_at outside context) ≡ false) ⊎ MisusesBelow is_suited_later modules (instance_at context)
            cases false e = inl (second_false (all_right vs part.table) (all_suit (used_at outside context)) (sym (own_all part context own within outside around real_around) ∙ e) right)
            cases true e =
                let it = each_wrong step back own.whole all own.children others w e wrong in
                let m = all_made_by modules 0 own.scope.known context.unit.items own.children it.1 own.instances_are it.3 in
                inr (deeper is_suited_later modules part context own it.1 m it.3
                (rest it.0 (child_context own.scope context it.1) it.2 (place_behind context.unit m.before) (around_made modules part context own it.1 m) (real_here part context own within) it.4 it.5 it.6 it.7))

    -- ---- where all are right

    record RightBelow (outside : Place) (part : PartialDesign) (context : Context) : Type 0 where
      pub before_it : all_right vs part.table ≡ true
      pub own_suit : all_suit (used_at outside context) ≡ true
      pub listed_suit : (depth : ℕ) (one : Instance) → StandsBelow modules depth (instance_at context) one →
          (before : List ItemTree) (name : Word) (overrides : Option ConnectionsTree) (list : List InstanceTree) (after : List ItemTree) (child : ModuleTree) (made : InstanceTree) →
          before ++ instances name overrides list ∷ after ≡ one.unit.items → module_of modules name.letters ≡ Some child → Contains list made →
          all_suit (used_by_listed one before overrides child made) ≡ true

    right_below : (levels : ℕ) (part : PartialDesign) (context : Context) (all : PartialDesign) (outside : Place) → IsAt outside context.overrides.scope → Real vs outside context.overrides.scope → elaborate_instance levels modules part context ≡ Ok all → Within all →
        all_right vs all.table ≡ true → RightBelow outside part context
    right_below zero part context all outside around real_around is w right = absurd cc
    right_below (suc levels) part context all outside around real_around is w right =
        let opened = opened_ok modules levels part context all is in
        by opened.0 opened.1 (λ before next after inner at_inner real_inner ok within good. right_below levels before next after inner at_inner real_inner ok within good)
      where
        by : (own : Own modules part context) → below modules levels part context own.scope own.children own.whole ≡ Ok all →
            ((before : PartialDesign) (next : Context) (after : PartialDesign) (inner : Place) → IsAt inner next.overrides.scope → Real vs inner next.overrides.scope → elaborate_instance levels modules before next ≡ Ok after → Within after →
            all_right vs after.table ≡ true → RightBelow inner before next) →
            RightBelow outside part context
        by own others rest =
            record {
              before_it = and_left (all_right vs part.table) (all_suit (used_at outside context)) own_is;
              own_suit = and_right (all_right vs part.table) (all_suit (used_at outside context)) own_is;
              listed_suit = listed;
            }
          where
            step : PartialDesign → Instantiation → Result PartialDesign ElabFault
            step so_far c = elaborate_instance levels modules so_far (child_context own.scope context c)

            back : (before after : PartialDesign) (one : Instantiation) → step before one ≡ Ok after → Within after → Within before
            back before after one ok = grown_within levels before (child_context own.scope context one) after ok

            within : Within own.whole
            within = each_within step back own.whole all own.children others w

            -- what is below one that was made
            of_made : (before after : PartialDesign) (one : Instantiation) (m : MadeBy modules own.scope.known context.unit.items one) → step before one ≡ Ok after → Within after → all_right vs after.table ≡ true →
                RightBelow (place_behind context.unit m.before) before (child_context own.scope context one)
            of_made before after one m ok inner good =
                rest before (child_context own.scope context one) after (place_behind context.unit m.before) (around_made modules part context own one m) (real_here part context own within) ok inner good

            made_of : (one : Instantiation) → Contains own.children one → MadeBy modules own.scope.known context.unit.items one
            made_of one inside = all_made_by modules 0 own.scope.known context.unit.items own.children one own.instances_are inside

            all_good : (all_right vs own.whole.table ≡ true) × ((one : Instantiation) → Contains own.children one → (before : PartialDesign) × (after : PartialDesign) × (step before one ≡ Ok after) × Within after × (all_right vs after.table ≡ true))
            all_good = each_right step back own.whole all own.children (λ before after one inside ok inner good. (of_made before after one (made_of one inside) ok inner good).before_it) others w right

            own_is : (all_right vs part.table && all_suit (used_at outside context)) ≡ true
            own_is = sym (own_all part context own within outside around real_around) ∙ all_good.0

            listed : (depth : ℕ) (one : Instance) → StandsBelow modules depth (instance_at context) one →
                (before : List ItemTree) (name : Word) (overrides : Option ConnectionsTree) (list : List InstanceTree) (after : List ItemTree) (child : ModuleTree) (made : InstanceTree) →
                before ++ instances name overrides list ∷ after ≡ one.unit.items → module_of modules name.letters ≡ Some child → Contains list made →
                all_suit (used_by_listed one before overrides child made) ≡ true
            listed zero one stands before name overrides list after child made inside there listed_there =
                let within_it = inside ∙ sym (ap (λ (i : Instance). i.unit.items) stands) in
                let c = instantiation_by child (own.scope.known + length (flat_map symbols_by before)) overrides made in
                let found = all_made modules 0 own.scope.known before name overrides list after own.children child made (ap (lower_instances modules 0 own.scope.known) within_it ∙ own.instances_are) there listed_there in
                let it = all_good.1 c found in
                sym (ap (λ (i : Instance). all_suit (used_by_listed i before overrides child made)) stands)
                ∙ (rest it.0 (child_context own.scope context c) it.1 (place_behind context.unit before)
                (behind_items part context own.scope before (instances name overrides list ∷ after) own.names_are within_it) (real_here part context own within) it.2 it.3 it.4).own_suit
            listed (suc depth) one (child_there, inside_there, stands) before name overrides list after child made inside there listed_there =
                let here = subst (λ (l : List Instance). Contains l child_there) (sym (children_are modules context.path 0 own.scope.known context.unit.items own.children own.instances_are)) inside_there in
                let c = mapped_contains (instance_of context.path) child_there own.children here in
                let it = all_good.1 c.0 c.1 in
                (of_made it.0 it.1 c.0 (made_of c.0 c.1) it.2 it.3 it.4).listed_suit depth one (subst (λ (i : Instance). StandsBelow modules depth i one) (sym c.2) stands)
                before name overrides list after child made inside there listed_there

-- ---- a text

nothing_real : (vs : List Variable) → Real vs no_place no_scope
nothing_real vs k d lt is = absurd (omega (arith, lt))

module _ (modules : SourceTree) (m : ModuleTree) (final : PartialDesign) where
  abbrev design : List Variable
  design = final.variables

  top_wrong : elaborate_top modules m ≡ Ok final → all_right design final.table ≡ false → (all_suit (used_in_instance m no_place [] [] m.name.letters) ≡ false) ⊎ MisusesBelow is_suited_later modules (top_instance m)
  unfolding elaborate_top
  top_wrong is wrong = wrong_in design modules 16 nothing (top_context m) final no_place nowhere_is (nothing_real design) is ([], append-nil design) refl wrong

  top_right : elaborate_top modules m ≡ Ok final → all_right design final.table ≡ true → RightBelow design modules no_place nothing (top_context m)
  unfolding elaborate_top
  top_right is right = right_below design modules 16 nothing (top_context m) final no_place nowhere_is (nothing_real design) is ([], append-nil design) right

module _ (modules : SourceTree) (top : Option Text) (unit : ModuleTree) (final : PartialDesign) (is_top : top_of modules top ≡ Some unit) (is : elaborate_top modules unit ≡ Ok final) where
  pub wrong_told : all_right final.variables final.table ≡ false → HasMisuse is_suited_later modules top
  wrong_told wrong = by (top_wrong modules unit final is wrong)
    where
      by : (all_suit (used_in_instance unit no_place [] [] unit.name.letters) ≡ false) ⊎ MisusesBelow is_suited_later modules (top_instance unit) → HasMisuse is_suited_later modules top
      by (inl misuses) = of_top unit is_top misuses
      by (inr u) = of_instance u.depth u.one u.before u.name u.overrides u.list u.after u.child u.made (unit, is_top, u.stands) u.inside u.there u.listed u.misuses

  pub right_never : all_right final.variables final.table ≡ true → ¬ HasMisuse is_suited_later modules top
  right_never right (of_top m same_top misuses) =
      let same = one_top modules top m unit same_top is_top in
      true≢false (sym (top_right modules unit final is right).own_suit ∙ sym (ap (λ (u : ModuleTree). all_suit (used_in_instance u no_place [] [] u.name.letters)) same) ∙ misuses)
  right_never right (of_instance levels one before name overrides list after child made (m, same_top, stands) inside there listed misuses) =
      let same = one_top modules top m unit same_top is_top in
      true≢false (sym ((top_right modules unit final is right).listed_suit levels one (subst (λ (u : ModuleTree). StandsBelow modules levels (top_instance u) one) same stands) before name overrides list after child made inside there listed) ∙ misuses)
