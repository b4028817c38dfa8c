-- What an instance adds of its own: its names, its variables, its processes.
use Rattle.std.proofs.Common.{◌≡◌, ◌<◌, ℕ, ◌+◌, Bool, true, false, Option, Some, List, [], ◌∷◌, ◌++◌, length, map, Result, Ok, Err, refl, sym, ap, ◌∙◌, arith}
use Rattle.std.specs.Prelude.{not}
use Rattle.basis.specs.declared.memory.OrMemory.{OrMemory}
use Rattle.vwords.specs.Words.{Text}
use Rattle.vast.specs.NumberedWords.{Word}
use Rattle.vast.specs.NumberedModules.{ModuleTree}
use Rattle.vast.specs.NumberedTrees.{module_tree}
use Rattle.vdesign.specs.Design.{Variable}
use Rattle.module_size.specs.Sizes.{module_size}
use Rattle.vmodules.specs.Names.{is_declared}
use Rattle.vmodules.specs.declared.ports.PortForm.{PortForm}
use Rattle.vmodules.specs.Inner.{port_form}
use Rattle.velab_expr.specs.declared.fault.ElabFault.{ElabFault}
use Rattle.velab_expr.specs.declared.fault.Rule.TheVariants.{Doubled}
use Rattle.velab_expr.specs.declared.scope.Meaning.{Meaning}
use Rattle.velab_expr.specs.Answers.{◌>>=◌, behind, require, Refuses}
use Rattle.velab_expr.specs.Scopes.{Scope}
use Rattle.velab_expr.specs.Symbols.{Symbol, name_in}
use Rattle.velab_expr.proofs.AnswerLemmas.{goes_behind, still_refused}
use Rattle.velab_process.specs.Processes.{Processes, with_begins_before}
use Rattle.velab_declaration.specs.Parameters.{Overrides, lower_meaning, with_meaning, add_symbol, add_symbols}
use Rattle.velab_declaration.specs.Variables.{port_scope, lower_ports, lower_variables}
use Rattle.vmodules.specs.Ports.{own_items}
use Rattle.vhierarchy.specs.Instances.{PartialDesign, Context, scope_of, few_enough, with_own}
use Rattle.vhierarchy.specs.Inner.{own_variables}
use Rattle.vhierarchy.specs.declared.context.Context.{Context as ProgramContext}
use Rattle.velab_declaration.proofs.VariableLemmas.{first_refused as front_refused}

-- ---- names

symbol_known : (scope next : Scope) (one : Symbol) (meaning : Result Meaning ElabFault) (new : Bool) (word : Option Word) →
    (meaning >>= λ m. require new Doubled word (with_meaning scope one m)) ≡ Ok next → next.known ≡ scope.known + 1
symbol_known scope next one (Ok m) true word is = let same : with_meaning scope one m ≡ next = cc in sym (ap (λ (s : Scope). s.known) same)
symbol_known scope next one (Ok m) false word is = absurd cc
symbol_known scope next one (Err fault) new word is = absurd cc

known_step : (first : Result Scope ElabFault) (rest : Scope → Result Scope ElabFault) (next : Scope) (known count : ℕ) → ((s : Scope) → first ≡ Ok s → s.known ≡ known + 1) →
    ((s : Scope) → rest s ≡ Ok next → next.known ≡ s.known + count) → (first >>= rest) ≡ Ok next → next.known ≡ (known + 1) + count
known_step (Ok s) rest next known count here there is = there s is ∙ ap (λ (n : ℕ). n + count) (here s refl)
known_step (Err fault) rest next known count here there is = absurd cc

-- so many more are known
known_all : (overrides : Overrides) (scope next : Scope) (list : List Symbol) → add_symbols overrides scope list ≡ Ok next → next.known ≡ scope.known + length list
known_all overrides scope next [] is =
    let same : scope ≡ next = cc in
    let known = ap (λ (s : Scope). s.known) same in
    omega (arith, known)
known_all overrides scope next (one ∷ more) is =
    let both =
    known_step (add_symbol overrides scope one) (λ s. add_symbols overrides s more) next scope.known (length more)
    (λ s added. symbol_known scope s one (lower_meaning overrides scope one) (not (is_declared scope.names (name_in one).letters)) (Some (name_in one)) added)
    (λ s added. known_all overrides s next more added) is in
    omega (arith, both)

-- all that is given fits where all that is known does
pub few_known : (overrides : Overrides) (scope next : Scope) (list given : List Symbol) (head whole bound : ℕ) → add_symbols overrides scope list ≡ Ok next →
    head ≡ scope.known → whole ≡ next.known → whole < bound → given ≡ list → head + length given < bound
few_known overrides scope next list given head whole bound added head_is whole_is fits same =
    let all = known_all overrides scope next list added in
    let count : length given ≡ length list = ap (λ (l : List Symbol). length l) same in
    omega (arith, all, count, head_is, whole_is, fits)

-- ---- variables

-- the variables of its ports come first, and then those of its items
module _ (words : List Text) (told : ProgramContext) (ports : List PortForm) (scope : Scope) (before : List Variable) where
  abbrev unit : ModuleTree
  unit = module_tree words told.unit.now

  abbrev of_ports : Result (List Variable) ElabFault
  of_ports = lower_ports told.path.now (port_scope unit scope) (map (port_form words) ports)

  abbrev of_items : Result (List Variable) ElabFault
  of_items = lower_variables told.path.now scope (own_items unit)

  abbrev all : Result (List Variable) ElabFault
  all = own_variables words told ports scope

  pub ports_refused : (e : OrMemory ElabFault) → Refuses e (behind before of_ports) → Refuses e (behind before all)
  ports_refused = still_refused (behind before of_ports) (behind before all) (λ fault is. front_refused before of_ports of_items fault is)

  pub variables_are : (middle : List Variable) → behind before of_ports ≡ Ok middle → behind middle of_items ≡ behind before all
  variables_are middle put = goes_behind before of_ports of_items middle put

-- ---- the part with what is its own

module _ (part : PartialDesign) (name : Word) (context : Context) (scope : Scope) (variables : Result (List Variable) ElabFault) where
  pub variables_fault : (rest : List Variable → Result PartialDesign ElabFault) (fault : ElabFault) → behind part.variables variables ≡ Err fault → (variables >>= rest) ≡ Err fault
  variables_fault rest fault = by variables
    where
      by : (a : Result (List Variable) ElabFault) → behind part.variables a ≡ Err fault → (a >>= rest) ≡ Err fault
      by (Ok x) is = absurd cc
      by (Err other) is = let same : other ≡ fault = cc in ap Err same

  module _ (processes : Result Processes ElabFault) where
    abbrev own : Result PartialDesign ElabFault
    own = variables >>= λ v. processes >>= λ p. few_enough name (with_own context scope part v p)

    pub processes_fault : (after : List Variable) (fault : ElabFault) → behind part.variables variables ≡ Ok after → with_begins_before part.begins processes ≡ Err fault → own ≡ Err fault
    processes_fault after fault = by variables processes
      where
        by : (a : Result (List Variable) ElabFault) (b : Result Processes ElabFault) → behind part.variables a ≡ Ok after → with_begins_before part.begins b ≡ Err fault →
            (a >>= λ v. b >>= λ p. few_enough name (with_own context scope part v p)) ≡ Err fault
        by (Ok v) (Ok p) first then = absurd cc
        by (Ok v) (Err other) first then = let same : other ≡ fault = cc in ap Err same
        by (Err other) b first then = absurd cc

    pub own_is : (after : PartialDesign) → behind part.variables variables ≡ Ok after.variables → with_begins_before part.begins processes ≡ Ok (record { table = after.table; begins = after.begins }) →
        after.scopes ≡ part.scopes ++ scope_of context scope.variables ∷ [] → after.events ≡ scope.events → after.size ≡ part.size + module_size (length context.path) context.unit → few_enough name after ≡ own
    own_is after = by variables processes
      where
        by : (a : Result (List Variable) ElabFault) (b : Result Processes ElabFault) → behind part.variables a ≡ Ok after.variables →
            with_begins_before part.begins b ≡ Ok (record { table = after.table; begins = after.begins }) →
            after.scopes ≡ part.scopes ++ scope_of context scope.variables ∷ [] → after.events ≡ scope.events → after.size ≡ part.size + module_size (length context.path) context.unit →
            few_enough name after ≡ (a >>= λ v. b >>= λ p. few_enough name (with_own context scope part v p))
        by (Ok v) (Ok p) first then scopes events sizes =
            let variables_are : after.variables ≡ part.variables ++ v = cc in
            let put : Processes = record { table = after.table; begins = after.begins } in
            let given : Processes = record { table = p.table; begins = part.begins ++ p.begins } in
            let processes_are : put ≡ given = cc in
            λ i. few_enough name (record { variables = variables_are i; scopes = scopes i; table = (processes_are i).table; begins = (processes_are i).begins; events = events i; size = sizes i })
        by (Ok v) (Err other) first then scopes events sizes = absurd cc
        by (Err other) b first then scopes events sizes = absurd cc
