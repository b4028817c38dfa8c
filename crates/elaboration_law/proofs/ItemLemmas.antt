-- The items of a module that list instances: each of them was answered, or one told the fault.
use Rattle.std.proofs.Common.{◌≡◌, ℕ, zero, suc, ◌+◌, arith, List, [], ◌∷◌, ◌++◌, length, Option, Ok, Err, sym, ap, ◌∙◌, ◌⊎◌, inl, inr}
use Rattle.std.specs.List.{Contains}
use Rattle.vast.specs.NumberedWords.{Word}
use Rattle.vast.specs.NumberedModules.{ConnectionsTree, InstanceTree, ItemTree, parameters, declaration, events, assignments, initial, always, instances, SourceTree}
use Rattle.vmodules.specs.Hierarchy.{module_of}
use Rattle.velab_expr.specs.declared.fault.ElabFault.{ElabFault}
use Rattle.velab_expr.specs.Answers.{◌>>=◌}
use Rattle.velab_expr.specs.Symbols.{symbols_by}
use Rattle.vhierarchy.specs.Instances.{Instantiation, lower_instances_of, lower_instances_by, lower_instances}
use Rattle.elaboration_law.proofs.StepLemmas.{then_ok, then_err, contains_first, contains_more, contains_none}

-- what such an item is answered with, where so many instances and names stand before
pub record ItemAnswered (modules : SourceTree) (name : Word) (overrides : Option ConnectionsTree) (list : List InstanceTree) : Type 0 where
  pub before : ℕ
  pub known : ℕ
  pub children : List Instantiation
  pub is : lower_instances_of name before known (module_of modules name.letters) overrides list ≡ Ok children

-- the item that tells a fault
pub record ItemTold (modules : SourceTree) (fault : ElabFault) (items : List ItemTree) : Type 0 where
  pub before : ℕ
  pub known : ℕ
  pub name : Word
  pub overrides : Option ConnectionsTree
  pub list : List InstanceTree
  pub inside : Contains items (instances name overrides list)
  pub is : lower_instances_of name before known (module_of modules name.letters) overrides list ≡ Err fault

module _ (modules : SourceTree) where
  pub item_answered : (before known : ℕ) (items : List ItemTree) (children : List Instantiation) (name : Word) (overrides : Option ConnectionsTree) (list : List InstanceTree) →
      lower_instances modules before known items ≡ Ok children → Contains items (instances name overrides list) → ItemAnswered modules name overrides list
  item_answered before known [] children name overrides list is inside = absurd (contains_none (instances name overrides list) inside)
  item_answered before known (item ∷ more) children name overrides list is (zero, lt, same) =
      let front = then_ok (lower_instances_by modules before known item)
      (λ front. lower_instances modules (before + length front) (known + length (symbols_by item)) more >>= λ others. Ok (front ++ others)) children is in
      record { before = before; known = known; children = front.0; is = sym (ap (λ (t : ItemTree). lower_instances_by modules before known t) same) ∙ front.1 }
  item_answered before known (item ∷ more) children name overrides list is (suc k, lt, same) =
      let front = then_ok (lower_instances_by modules before known item)
      (λ front. lower_instances modules (before + length front) (known + length (symbols_by item)) more >>= λ others. Ok (front ++ others)) children is in
      let others = then_ok (lower_instances modules (before + length front.0) (known + length (symbols_by item)) more) (λ others. Ok (front.0 ++ others)) children front.2 in
      item_answered (before + length front.0) (known + length (symbols_by item)) more others.0 name overrides list others.1 (k, omega (arith, lt), same)

  module _ (fault : ElabFault) where
    first_told : (before known : ℕ) (item : ItemTree) (more : List ItemTree) → lower_instances_by modules before known item ≡ Err fault → ItemTold modules fault (item ∷ more)
    first_told before known (parameters local type settings) more is = absurd cc
    first_told before known (declaration kind list) more is = absurd cc
    first_told before known (events names) more is = absurd cc
    first_told before known (assignments settings) more is = absurd cc
    first_told before known (initial statement) more is = absurd cc
    first_told before known (always statement) more is = absurd cc
    first_told before known (instances name overrides list) more is = record {
      before = before;
      known = known;
      name = name;
      overrides = overrides;
      list = list;
      inside = contains_first (instances name overrides list) more;
      is = is;
    }

    further : (item : ItemTree) (more : List ItemTree) → ItemTold modules fault more → ItemTold modules fault (item ∷ more)
    further item more t = record {
      before = t.before;
      known = t.known;
      name = t.name;
      overrides = t.overrides;
      list = t.list;
      inside = contains_more item (instances t.name t.overrides t.list) more t.inside;
      is = t.is;
    }

    pub item_told : (before known : ℕ) (items : List ItemTree) → lower_instances modules before known items ≡ Err fault → ItemTold modules fault items
    item_told before known [] is = absurd cc
    item_told before known (item ∷ more) is =
        by (then_err (lower_instances_by modules before known item) (λ front. lower_instances modules (before + length front) (known + length (symbols_by item)) more >>= λ others. Ok (front ++ others)) fault is)
        (λ front. item_told (before + length front) (known + length (symbols_by item)) more)
      where
        second : (front : List Instantiation) → (lower_instances modules (before + length front) (known + length (symbols_by item)) more ≡ Err fault → ItemTold modules fault more) →
            (lower_instances modules (before + length front) (known + length (symbols_by item)) more ≡ Err fault)
            ⊎ ((others : List Instantiation) × (lower_instances modules (before + length front) (known + length (symbols_by item)) more ≡ Ok others) × (Ok (front ++ others) ≡ Err fault)) →
            ItemTold modules fault (item ∷ more)
        second front rest (inl err) = further item more (rest err)
        second front rest (inr (others, ok, err)) = absurd cc

        by : (lower_instances_by modules before known item ≡ Err fault)
            ⊎ ((front : List Instantiation) × (lower_instances_by modules before known item ≡ Ok front)
            × ((lower_instances modules (before + length front) (known + length (symbols_by item)) more >>= λ others. Ok (front ++ others)) ≡ Err fault)) →
            ((front : List Instantiation) → lower_instances modules (before + length front) (known + length (symbols_by item)) more ≡ Err fault → ItemTold modules fault more) →
            ItemTold modules fault (item ∷ more)
        by (inl err) rest = first_told before known item more err
        by (inr (front, ok, err)) rest =
            second front (rest front) (then_err (lower_instances modules (before + length front) (known + length (symbols_by item)) more) (λ others. Ok (front ++ others)) fault err)
