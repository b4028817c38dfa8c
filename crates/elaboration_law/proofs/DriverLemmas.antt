-- E304: in a text that has a design no bit has two drivers, and in one that is refused under the rule one has.
use Rattle.std.proofs.Common.{◌≡◌, ◌<◌, ◌≤◌, ◌==◌, ℕ, zero, suc, ◌+◌, ◌-◌, arith, nat_le, Bool, true, false, true≢false, ◌||◌, if◌then◌else◌, List, [], ◌∷◌, ◌++◌, drop, length, slice_get, unwrap_or, Option, Some, None, Ok, refl, sym, ap, subst, ◌∙◌, ◌⊎◌, inl, inr, append_assoc, append-nil, length-append}
use Rattle.std.specs.Option.{option_or}
use Rattle.std.proofs.lemmas.Bool.Decides.{nat_tests}
use Rattle.basis.proofs.Bools.{and_left, and_right, and_both, or_left, or_right, or_first, or_second}
use Rattle.basis.specs.declared.timescale.Timescale.{Timescale}
use Rattle.vwords.specs.Words.{Text}
use Rattle.vast.specs.NumberedModules.{ModuleTree, SourceTree}
use Rattle.vdesign.specs.Design.{Design}
use Rattle.vdesign.specs.declared.action.Action.{Action}
use Rattle.vvalue.specs.Value.{Environment}
use Rattle.vmodules.specs.Ports.{ports_of}
use Rattle.velab_expr.specs.declared.fault.Rule.TheVariants.{Drivers, TooMany}
use Rattle.velab_expr.specs.declared.fault.ElabFault.{ElabFault}
use Rattle.velab_expr.specs.Rules.{unless}
use Rattle.velab_declaration.specs.Right.{kind_rule}
use Rattle.velab_declaration.specs.ActionFlaws.{blank_environment, flaw_rule, table_fault}
use Rattle.velab_declaration.specs.Drives.{Place, same_place, is_driven, drives_again, drivers_fault, driven_by, driven_by_all}
use Rattle.vhierarchy.specs.Instances.{lower_own, lower_names, lower_instances, PartialDesign, Context, elaborate_top, driven_in, broken_paths, broken_table, broken_design, elaborated}
use Rattle.elaboration_law.specs.Hierarchy.{top_instance}
use Rattle.elaboration_law.specs.Laws.{IsMeant}
use Rattle.elaboration_law.specs.Drivers.{HasTwoDrivers}
use Rattle.elaboration_law.proofs.ToldLemmas.{is_local, untold, untold_fault}
use Rattle.elaboration_law.proofs.StepLemmas.{same_value}
use Rattle.elaboration_law.proofs.ModuleRules.{is_of_names, is_of_instances, is_of_own, is_of_paths, names_tell, instances_tell, own_tells}
use Rattle.elaboration_law.proofs.DesignRules.{table_tells, unless_tells, kind_broken, flaw_broken, broken_paths_tell}
use Rattle.elaboration_law.proofs.PlaceLemmas.{got_in_front, got_behind}
use Rattle.elaboration_law.proofs.HierarchyLemmas.{OwnFault, in_names, in_instances, in_own, ToldBelow, too_deep, by_own, Told, in_modules, in_ports, is_of_ports, of_ports, in_top, in_hierarchy, in_design, all_elaborated, fault_told, top_told_below}
use Rattle.basis.proofs.Lists.{place_within}
use Rattle.velab_declaration.proofs.DriveLemmas.{again_both}
use Rattle.elaboration_law.proofs.NameLemmas.{or_none, or_some}
use Rattle.elaboration_law.proofs.DepthLemmas.{one_top}

-- ---- a bit among others

same_number : (a b : ℕ) → (a == b) ≡ true → a ≡ b
same_number a b e = grind (arith, nat_tests)

is_itself : (a : ℕ) → (a == a) ≡ true
is_itself a = grind (arith, nat_tests)

same_bit : (one other : Place) → same_place one other ≡ true → other ≡ one
same_bit (n, a) (m, b) e = λ i. (sym (same_number n m (and_left (n == m) (a == b) e)) i, sym (same_number a b (and_right (n == m) (a == b) e)) i)

bit_itself : (place : Place) → same_place place place ≡ true
bit_itself (n, a) = and_both (n == n) (a == a) (is_itself n) (is_itself a)

stands_in : (place : Place) (list : List Place) → is_driven list place ≡ true → (k : ℕ) × (k < length list) × (slice_get list k ≡ Some place)
stands_in place [] e = absurd cc
stands_in place (one ∷ more) e = by (same_place place one) refl e (stands_in place more)
  where
    by : (b : Bool) → same_place place one ≡ b → (b || is_driven more place) ≡ true → (is_driven more place ≡ true → (k : ℕ) × (k < length more) × (slice_get more k ≡ Some place)) →
        (k : ℕ) × (k < length (one ∷ more)) × (slice_get (one ∷ more) k ≡ Some place)
    by true same h rest = (0, omega arith, ap Some (same_bit place one same))
    by false same h rest = let there = rest h in let lt = there.1 in (suc there.0, omega (arith, lt), there.2)

is_among : (place : Place) (list : List Place) (k : ℕ) → slice_get list k ≡ Some place → is_driven list place ≡ true
is_among place [] k is = absurd cc
is_among place (one ∷ more) zero is =
    let same : one ≡ place = cc in
    or_first (same_place place one) (is_driven more place) (subst (λ (p : Place). same_place place p ≡ true) (sym same) (bit_itself place))
is_among place (one ∷ more) (suc k) is = or_second (same_place place one) (is_driven more place) (is_among place more k is)

got_before : {A : Type 0} (xs ys : List A) (k : ℕ) → k < length xs → slice_get (xs ++ ys) k ≡ slice_get xs k
got_before [] ys k lt = absurd (omega (arith, lt))
got_before (one ∷ more) ys zero lt = refl
got_before (one ∷ more) ys (suc k) lt = got_before more ys k (omega (arith, lt))

-- ---- bits that stand twice

pub record StandsTwice (list : List Place) : Type 0 where
  pub place : Place
  pub one : ℕ
  pub other : ℕ
  pub before : one < other
  pub first : slice_get list one ≡ Some place
  pub again : slice_get list other ≡ Some place

twice_driven : (before list : List Place) → drives_again before list ≡ true → StandsTwice (before ++ list)
twice_driven before [] e = absurd cc
twice_driven before (place ∷ more) e = by (is_driven before place) refl e (twice_driven (before ++ place ∷ []) more)
  where
    by : (b : Bool) → is_driven before place ≡ b → (b || drives_again (before ++ place ∷ []) more) ≡ true →
        (drives_again (before ++ place ∷ []) more ≡ true → StandsTwice ((before ++ place ∷ []) ++ more)) → StandsTwice (before ++ place ∷ more)
    by true is h rest =
        let there = stands_in place before is in
        let lt = there.1 in
        record {
          place = place;
          one = there.0;
          other = length before;
          before = omega (arith, lt);
          first = got_in_front before (place ∷ more) there.0 place there.2;
          again = got_behind before (place ∷ more) 0 (length before) (omega arith);
        }
    by false is h rest = subst StandsTwice (append_assoc before (place ∷ []) more) (rest h)

not_before : (a b : ℕ) → b ≤ a → (a ≡ b) ⊎ (b < a)
not_before zero zero h = inl refl
not_before zero (suc b) h = absurd (omega (arith, h))
not_before (suc a) zero h = inr (omega arith)
not_before (suc a) (suc b) h = by (not_before a b (omega (arith, h)))
  where
    by : (a ≡ b) ⊎ (b < a) → (suc a ≡ suc b) ⊎ (suc b < suc a)
    by (inl e) = inl (ap suc e)
    by (inr lt) = inr (omega (arith, lt))

once_driven : (before list : List Place) → drives_again before list ≡ false → (place : Place) (one other : ℕ) → one < other → length before ≤ other →
    slice_get (before ++ list) one ≡ Some place → slice_get (before ++ list) other ≡ Some place → ⊥
once_driven before [] e place one other lt behind first again =
    let within = place_within [] (other - length before) place (sym (got_behind before [] (other - length before) other (omega (arith, behind))) ∙ again) in
    omega (arith, within)
once_driven before (next ∷ more) e place one other lt behind first again =
    by (not_before other (length before) behind) (once_driven (before ++ next ∷ []) more (or_right (is_driven before next) (drives_again (before ++ next ∷ []) more) e) place one other lt)
  where
    free : is_driven before next ≡ false
    free = or_left (is_driven before next) (drives_again (before ++ next ∷ []) more) e

    by : (other ≡ length before) ⊎ (length before < other) →
        (length (before ++ next ∷ []) ≤ other → slice_get ((before ++ next ∷ []) ++ more) one ≡ Some place → slice_get ((before ++ next ∷ []) ++ more) other ≡ Some place → ⊥) → ⊥
    by (inl same) rest =
        let here : Some next ≡ Some place = sym (got_behind before (next ∷ more) 0 other (omega (arith, same))) ∙ again in
        let is : next ≡ place = cc in
        let early = sym (got_before before (next ∷ more) one (omega (arith, same, lt))) ∙ first in
        true≢false (sym (is_among place before one early) ∙ ap (is_driven before) (sym is) ∙ free)
    by (inr further) rest =
        let long = length-append before (next ∷ []) in
        rest (omega (arith, further, long))
        (ap (λ (l : List Place). slice_get l one) (append_assoc before (next ∷ []) more) ∙ first)
        (ap (λ (l : List Place). slice_get l other) (append_assoc before (next ∷ []) more) ∙ again)

-- ---- what the table tells of them

-- nothing is told only where no bit is driven twice, and something only where one is
abbrev TellsAgain : Bool → Option ElabFault → Type 0
TellsAgain again None = again ≡ false
TellsAgain again (Some fault) = again ≡ true

again_told : (now : Environment) (before : List Place) (actions : List Action) (words : List (Option ℕ)) →
    TellsAgain (drives_again before (driven_by_all now actions)) (drivers_fault now before actions words)
again_told now before [] words = refl
again_told now before (action ∷ more) words =
    subst (λ (b : Bool). TellsAgain b (drivers_fault now before (action ∷ more) words)) (sym (again_both before (driven_by now action) (driven_by_all now more)))
    (by (drives_again before (driven_by now action)) (again_told now (before ++ driven_by now action) more (drop 1 words)))
  where
    rest : Bool
    rest = drives_again (before ++ driven_by now action) (driven_by_all now more)

    by : (b : Bool) → TellsAgain rest (drivers_fault now (before ++ driven_by now action) more (drop 1 words)) →
        TellsAgain (b || rest) (if b then Some (record { rule = Drivers; at = unwrap_or (slice_get words 0) None }) else drivers_fault now (before ++ driven_by now action) more (drop 1 words))
    by true h = refl
    by false h = h

-- ---- the law

module _ (modules : SourceTree) (part : PartialDesign) (context : Context) (fault : ElabFault) (rule : fault.rule ≡ Drivers) where
  own_is_no_driver : OwnFault modules part context fault → ⊥
  own_is_no_driver (in_names err) = untold is_of_names (lower_names part context) fault Drivers (names_tell part context) refl err rule
  own_is_no_driver (in_instances scope names err) =
      untold is_of_instances (lower_instances modules 0 scope.known context.unit.items) fault Drivers (instances_tell modules 0 scope.known context.unit.items) refl err rule
  own_is_no_driver (in_own scope children names wanted err) =
      untold is_of_own (lower_own context (ports_of context.unit) scope part) fault Drivers (own_tells context (ports_of context.unit) scope part) refl err rule

module _ (modules : SourceTree) (top : Option Text) where
  below_untold : (fault : ElabFault) (unit : ModuleTree) → fault.rule ≡ Drivers → ToldBelow modules 16 (top_instance unit) fault → ⊥
  below_untold fault unit rule (too_deep one other stands) = absurd cc
  below_untold fault unit rule (by_own depth part context stands own) = own_is_no_driver modules part context fault rule own

  module _ (unit : ModuleTree) (part : PartialDesign) where
    abbrev now : Environment
    now = blank_environment part.variables

    abbrev few : Option ElabFault
    few = unless (nat_le (length part.begins) 256) TooMany (Some unit.name)

    abbrev kinds : Option ElabFault
    kinds = table_fault (kind_rule part.variables) part.table.actions part.table.words

    abbrev flaws : Option ElabFault
    flaws = table_fault (flaw_rule now) part.table.actions part.table.words

    abbrev driven : Option ElabFault
    driven = drivers_fault now [] part.table.actions part.table.words

    all_told : TellsAgain (drives_again [] (driven_in part)) driven
    all_told = again_told now [] part.table.actions part.table.words

    -- where the design isn't refused
    design_once : broken_design unit.name part ≡ None → drives_again [] (driven_in part) ≡ false
    design_once right =
        let table = or_none (broken_paths unit.name part) (broken_table unit.name part) right in
        let inner = or_none few (option_or kinds (option_or flaws driven)) table.1 in
        let last = or_none kinds (option_or flaws driven) inner.1 in
        subst (TellsAgain (drives_again [] (driven_in part))) (or_none flaws driven last.1).1 all_told

    -- and where it is under the rule
    module _ (fault : ElabFault) (rule : fault.rule ≡ Drivers) where
      of_flaws : (flaws ≡ Some fault) ⊎ (driven ≡ Some fault) → drives_again [] (driven_in part) ≡ true
      of_flaws (inl is) =
          absurd (untold_fault is_local flaws fault Drivers (table_tells is_local (flaw_rule now) (flaw_broken is_local refl refl now) part.table.actions part.table.words) refl is rule)
      of_flaws (inr is) = subst (TellsAgain (drives_again [] (driven_in part))) is all_told

      of_kinds : (kinds ≡ Some fault) ⊎ (option_or flaws driven ≡ Some fault) → drives_again [] (driven_in part) ≡ true
      of_kinds (inl is) =
          absurd (untold_fault is_local kinds fault Drivers (table_tells is_local (kind_rule part.variables) (kind_broken is_local refl refl part.variables) part.table.actions part.table.words) refl is rule)
      of_kinds (inr is) = of_flaws (or_some flaws driven fault is)

      of_table : (few ≡ Some fault) ⊎ (option_or kinds (option_or flaws driven) ≡ Some fault) → drives_again [] (driven_in part) ≡ true
      of_table (inl is) =
          absurd (untold_fault is_of_names few fault Drivers (unless_tells is_of_names (nat_le (length part.begins) 256) TooMany (Some unit.name) refl) refl is rule)
      of_table (inr is) = of_kinds (or_some kinds (option_or flaws driven) fault is)

      design_twice : (broken_paths unit.name part ≡ Some fault) ⊎ (broken_table unit.name part ≡ Some fault) → drives_again [] (driven_in part) ≡ true
      design_twice (inl is) = absurd (untold_fault is_of_paths (broken_paths unit.name part) fault Drivers (broken_paths_tell is_of_paths refl refl unit.name part refl) refl is rule)
      design_twice (inr is) = of_table (or_some few (option_or kinds (option_or flaws driven)) fault is)

  drivers_told : (fault : ElabFault) → fault.rule ≡ Drivers → Told modules top fault → HasTwoDrivers modules top
  drivers_told fault rule (in_modules w again other) = absurd cc
  drivers_told fault rule (in_ports m is other) = absurd (let no = sym (of_ports m fault.rule other) ∙ ap is_of_ports rule in cc)
  drivers_told fault rule (in_top missing other) = absurd cc
  drivers_told fault rule (in_hierarchy unit is_top err) = absurd (below_untold fault unit rule (top_told_below modules unit fault err))
  drivers_told fault rule (in_design unit part is_top ok broken) =
      let it = twice_driven [] (driven_in part) (design_twice unit part fault rule (or_some (broken_paths unit.name part) (broken_table unit.name part) fault broken)) in
      record {
        unit = unit;
        part = part;
        is_top = is_top;
        lowered = ok;
        place = it.place;
        one = it.one;
        other = it.other;
        before = it.before;
        driven = it.first;
        again = it.again;
      }

  drivers_never : (scale : Timescale) (design : Design) → elaborated modules top scale ≡ Ok design → ¬ HasTwoDrivers modules top
  drivers_never scale design is two =
      let all = all_elaborated modules top scale design is in
      let same = one_top modules top two.unit all.unit two.is_top all.is_top in
      let made = ap (elaborate_top modules) same ∙ all.is_part in
      let part = same_value two.part all.part (sym two.lowered ∙ made) in
      let once = ap (λ (p : PartialDesign). drives_again [] (driven_in p)) part ∙ design_once all.unit all.part all.is_right in
      once_driven [] (driven_in two.part) once two.place two.one two.other two.before (omega arith) two.driven two.again

pub drivers_meant : IsMeant Drivers HasTwoDrivers
drivers_meant = record {
  never = drivers_never;
  told = λ modules top scale fault is rule. drivers_told modules top fault rule (fault_told modules top scale fault is);
}
