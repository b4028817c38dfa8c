-- The instances of items, one item after another.
use Rattle.std.proofs.Common.{◌≡◌, ◌<◌, ℕ, ◌+◌, List, [], ◌∷◌, ◌++◌, length, drop, get_or, Result, Ok, Err, sym, ap, ◌∙◌, length-append, arith}
use Rattle.std.proofs.lemmas.List.{length-map}
use Rattle.vast.specs.NumberedModules.{ItemTree}
use Rattle.vast.specs.NumberedTrees.{item_tree}
use Rattle.vast.specs.declared.module.ModuleItem.{ModuleItem}
use Rattle.vmodules.specs.Inner.{Units, units_tree}
use Rattle.velab_expr.specs.declared.fault.ElabFault.{ElabFault}
use Rattle.velab_expr.specs.Answers.{◌>>=◌, behind}
use Rattle.velab_expr.specs.Symbols.{symbols_by}
use Rattle.velab_expr.specs.Inner.{symbols_in}
use Rattle.velab_expr.proofs.ListLemmas.{drop_at}
use Rattle.vhierarchy.specs.Instances.{Instantiation, lower_instances_by}
use Rattle.vhierarchy.specs.Inner.{instantiation_tree, instantiation_trees, instances_in}
use Rattle.vhierarchy.specs.declared.instantiation.Instantiation.{Instantiation as ProgramInstantiation}
use Rattle.vhierarchy.proofs.StepLemmas.{behind_both}

-- ---- the instances of a list

module _ (before : List Instantiation) (front : Result Instantiation ElabFault) (rest : Result (List Instantiation) ElabFault) where
  pub instance_put : (one : Instantiation) (after : List Instantiation) → front ≡ Ok one → after ≡ before ++ one ∷ [] →
      behind after rest ≡ behind before (front >>= λ x. rest >>= λ others. Ok (x ∷ others))
  instance_put one after is put =
      (λ i. behind (put i) rest) ∙ behind_both before (one ∷ []) rest
      ∙ ap (λ (f : Result Instantiation ElabFault). behind before (f >>= λ x. rest >>= λ others. Ok (x ∷ others))) (sym is)

-- ---- the instances of items

found_step : (old new : List Instantiation) (front : Result (List Instantiation) ElabFault) (rest : ℕ → Result (List Instantiation) ElabFault) (count next : ℕ) →
    behind old front ≡ Ok new → count ≡ length old → next ≡ length new → behind new (rest next) ≡ behind old (front >>= λ f. rest (count + length f) >>= λ others. Ok (f ++ others))
found_step old new (Ok f) rest count next put counted also =
    let same : old ++ f ≡ new = cc in
    let so_many : next ≡ count + length f = also ∙ ap (λ (l : List Instantiation). length l) (sym same) ∙ length-append old f ∙ ap (λ n. n + length f) (sym counted) in
    (λ i. behind (sym same i) (rest (so_many i))) ∙ behind_both old f (rest (count + length f))
found_step old new (Err fault) rest count next put counted also = absurd cc

found_fault : (old : List Instantiation) (front : Result (List Instantiation) ElabFault) (rest : List Instantiation → Result (List Instantiation) ElabFault) (fault : ElabFault) →
    behind old front ≡ Err fault → behind old (front >>= λ f. rest f >>= λ others. Ok (f ++ others)) ≡ Err fault
found_fault old (Ok f) rest fault put = absurd cc
found_fault old (Err other) rest fault put = let same : other ≡ fault = cc in ap Err same

module _ (units : Units) (items : List ModuleItem) (i : ℕ) (x : ModuleItem) (within : i < length items) (is : x ≡ get_or items i x) where
  abbrev rest : List ModuleItem
  rest = drop (i + 1) items

  abbrev item : ItemTree
  item = item_tree units.words x

  opens : drop i items ≡ x ∷ rest
  opens = drop_at items i x within is

  module _ (old : List ProgramInstantiation) (known : ℕ) (all : Result (List Instantiation) ElabFault)
      (same : behind (instantiation_trees units.words old) (instances_in units (length old) known (drop i items)) ≡ all) where
    abbrev front : Result (List Instantiation) ElabFault
    front = lower_instances_by (units_tree units) (length old) known item

    whole_opens : behind (instantiation_trees units.words old) (front >>= λ f. instances_in units (length old + length f) (known + length (symbols_by item)) rest >>= λ others. Ok (f ++ others)) ≡ all
    whole_opens = ap (λ (l : List ModuleItem). behind (instantiation_trees units.words old) (instances_in units (length old) known l)) (sym opens) ∙ same

    pub item_found : (new : List ProgramInstantiation) (count : ℕ) → behind (instantiation_trees units.words old) front ≡ Ok (instantiation_trees units.words new) → count ≡ length (symbols_by item) →
        behind (instantiation_trees units.words new) (instances_in units (length new) (known + count) rest) ≡ all
    item_found new count put counted =
        ap (λ n. behind (instantiation_trees units.words new) (instances_in units (length new) (known + n) rest)) counted
        ∙ found_step (instantiation_trees units.words old) (instantiation_trees units.words new) front (λ n. instances_in units n (known + length (symbols_by item)) rest) (length old) (length new) put
        (sym (length-map old (instantiation_tree units.words))) (sym (length-map new (instantiation_tree units.words)))
        ∙ whole_opens

    pub item_refused : (fault : ElabFault) → behind (instantiation_trees units.words old) front ≡ Err fault → all ≡ Err fault
    item_refused fault put =
        sym whole_opens ∙ found_fault (instantiation_trees units.words old) front (λ f. instances_in units (length old + length f) (known + length (symbols_by item)) rest) fault put

  pub small_step : (known count bound : ℕ) → count ≡ length (symbols_by item) → known + length (symbols_in units.words (drop i items)) < bound →
      known + count + length (symbols_in units.words rest) < bound
  small_step known count bound counted small =
      let split : length (symbols_in units.words (drop i items)) ≡ length (symbols_by item) + length (symbols_in units.words rest) =
      ap (λ (l : List ModuleItem). length (symbols_in units.words l)) opens ∙ length-append (symbols_by item) (symbols_in units.words rest) in
      omega (arith, counted, small, split)
