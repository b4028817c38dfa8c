-- An instance and all below it: what its steps say of the whole.
use Rattle.std.proofs.Common.{◌≡◌, ◌<◌, ℕ, suc, ◌+◌, List, length, drop, get_or, Result, Ok, sym, ap, ◌∙◌}
use Rattle.basis.specs.declared.memory.OrMemory.{OrMemory}
use Rattle.vast.specs.NumberedModules.{SourceTree}
use Rattle.vmodules.specs.Ports.{Port, ports_of}
use Rattle.vmodules.specs.Inner.{Units}
use Rattle.velab_expr.specs.declared.fault.ElabFault.{ElabFault}
use Rattle.velab_expr.specs.Answers.{◌>>=◌, Refuses}
use Rattle.velab_expr.specs.Scopes.{Scope}
use Rattle.velab_expr.proofs.ListLemmas.{drop_at}
use Rattle.vhierarchy.specs.Instances.{Instantiation, PartialDesign, Context, lower_names, lower_instances, lower_own, child_context, each, elaborate_instance}
use Rattle.vhierarchy.specs.Inner.{instantiation_tree, instance_below, instances_below}
use Rattle.vhierarchy.specs.declared.instantiation.Instantiation.{Instantiation as ProgramInstantiation}
use Rattle.vhierarchy.specs.declared.context.Context.{Context as ProgramContext}
use Rattle.vhierarchy.proofs.StepLemmas.{first_refused, then_is, same_refused}

-- ---- instances one after another

module _ (units : Units) (levels : ℕ) (context : ProgramContext) (scope : Scope) (list : List ProgramInstantiation) (i : ℕ) (x : ProgramInstantiation) (within : i < length list) (is : x ≡ get_or list i x)
    (part : PartialDesign) (all : Result PartialDesign ElabFault) (same : instances_below units levels context scope part (drop i list) ≡ all) where
  abbrev step : PartialDesign → Instantiation → Result PartialDesign ElabFault
  step = instance_below units levels context scope

  abbrev rest : List ProgramInstantiation
  rest = drop (i + 1) list

  opens : all ≡ (step part (instantiation_tree units.words x) >>= λ next. instances_below units levels context scope next rest)
  opens = sym same ∙ ap (λ (l : List ProgramInstantiation). instances_below units levels context scope part l) (drop_at list i x within is)

  pub one_put : (next : PartialDesign) → step part (instantiation_tree units.words x) ≡ Ok next → instances_below units levels context scope next rest ≡ all
  one_put next put = sym (opens ∙ then_is (step part (instantiation_tree units.words x)) (λ n. instances_below units levels context scope n rest) next put)

  pub one_refused : (e : OrMemory ElabFault) → Refuses e (step part (instantiation_tree units.words x)) → Refuses e all
  one_refused e h =
      same_refused _ all (sym opens) e (first_refused (step part (instantiation_tree units.words x)) (λ n. instances_below units levels context scope n rest) e h)

-- ---- an instance

module _ (modules : SourceTree) (part : PartialDesign) (context : Context) (levels below : ℕ) (deep : levels ≡ suc below) where
  abbrev after_own : Scope → List Instantiation → PartialDesign → Result PartialDesign ElabFault
  after_own scope children own = each (λ so_far child. elaborate_instance below modules so_far (child_context scope context child)) own children

  abbrev after_children : Scope → List Instantiation → Result PartialDesign ElabFault
  after_children scope children = lower_own context (ports_of context.unit) scope part >>= λ own. after_own scope children own

  abbrev after_names : Scope → Result PartialDesign ElabFault
  after_names scope = lower_instances modules 0 scope.known context.unit.items >>= λ children. after_children scope children

  abbrev all : Result PartialDesign ElabFault
  all = elaborate_instance levels modules part context

  opened : all ≡ (lower_names part context >>= λ scope. after_names scope)
  opened = ap (λ n. elaborate_instance n modules part context) deep

  pub names_refused : (e : OrMemory ElabFault) → Refuses e (lower_names part context) → Refuses e all
  names_refused e h = same_refused _ all (sym opened) e (first_refused (lower_names part context) (λ scope. after_names scope) e h)

  module _ (scope : Scope) (named : lower_names part context ≡ Ok scope) where
    children_next : all ≡ after_names scope
    children_next = opened ∙ then_is (lower_names part context) (λ s. after_names s) scope named

    pub instances_refused : (e : OrMemory ElabFault) → Refuses e (lower_instances modules 0 scope.known context.unit.items) → Refuses e all
    instances_refused e h =
        same_refused _ all (sym children_next) e (first_refused (lower_instances modules 0 scope.known context.unit.items) (λ children. after_children scope children) e h)

    module _ (children : List Instantiation) (found : lower_instances modules 0 scope.known context.unit.items ≡ Ok children) (ports : List Port) (ports_are : ports ≡ ports_of context.unit) where
      own_next : all ≡ (lower_own context ports scope part >>= λ own. after_own scope children own)
      own_next =
          children_next ∙ then_is (lower_instances modules 0 scope.known context.unit.items) (λ list. after_children scope list) children found
          ∙ (λ i. lower_own context (sym ports_are i) scope part >>= λ own. after_own scope children own)

      pub own_refused : (e : OrMemory ElabFault) → Refuses e (lower_own context ports scope part) → Refuses e all
      own_refused e h = same_refused _ all (sym own_next) e (first_refused (lower_own context ports scope part) (λ own. after_own scope children own) e h)

      pub instance_is : (own : PartialDesign) → lower_own context ports scope part ≡ Ok own → after_own scope children own ≡ all
      instance_is own put = sym (own_next ∙ then_is (lower_own context ports scope part) (λ o. after_own scope children o) own put)
