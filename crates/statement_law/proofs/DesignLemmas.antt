-- The processes of an elaborated design begin before those of its text.
use Rattle.std.proofs.Common.{◌≡◌, ℕ, zero, suc, Bool, true, false, if◌then◌else◌, List, [], ◌∷◌, ◌++◌, length, slice_get, Option, None, Some, Result, Ok, Err, refl, sym, ap, subst, ◌∙◌, append_assoc, append-nil}
use Rattle.std.specs.Prelude.{nat_le}
use Rattle.basis.specs.declared.timescale.Timescale.{Timescale}
use Rattle.vwords.specs.Words.{Text}
use Rattle.vast.specs.NumberedWords.{Word}
use Rattle.vast.specs.NumberedExpressions as text
use Rattle.vast.specs.NumberedStatements.{TargetTree}
use Rattle.vast.specs.NumberedStatements as written
use Rattle.vast.specs.NumberedModules.{ModuleTree, SourceTree}
use Rattle.vmodules.specs.Names.{first_again}
use Rattle.vmodules.specs.Hierarchy.{module_names, top_of}
use Rattle.vmodules.specs.Ports.{Port, ports_of}
use Rattle.vmodules.specs.Placed.{placed_items}
use Rattle.vmodules.specs.Connected.{NamedConnection, value_for}
use Rattle.vdesign.specs.Design.{Design}
use Rattle.vdesign.specs.declared.action.Action.{Action}
use Rattle.vdesign.specs.declared.action.Action.TheVariants.{ContinuousAssign}
use Rattle.velab_process.specs.Waits.{any_of, names_in}
use Rattle.velab_expr.specs.declared.fault.Rule.{Rule}
use Rattle.velab_expr.specs.declared.fault.Rule.TheVariants as rules
use Rattle.velab_expr.specs.declared.fault.ElabFault.{ElabFault}
use Rattle.velab_expr.specs.Answers.{◌>>=◌, answer_if, require, value_or_fault, value_or}
use Rattle.velab_expr.specs.Scopes.{Scope}
use Rattle.velab_expr.specs.Written.{lower_net_target, target_of}
use Rattle.velab_expr.specs.Resolved.{lower_expression}
use Rattle.velab_process.specs.Connections.{lower_input, lower_output, one_process, lower_join, lower_joins}
use Rattle.velab_process.specs.Processes.{Processes, lower_items}
use Rattle.velab_process.specs.Statements.{Table}
use Rattle.vhierarchy.specs.Instances.{unless_word, broken_ports, unless_fault, top_whole, value_unless_fault, PartialDesign, Context, Instantiation, lower_names, lower_instances, lower_own_processes, with_own, few_enough, lower_own_variables, lower_own, child_context, each, elaborate_instance, nothing, no_scope, top_context, elaborate_top, Whole, design_by, broken_design, whole_of, elaborated_whole, elaborated, Elaborates}
use Rattle.vmodel.specs.Step.{frames}
use Rattle.vmodel.specs.Run.{Setting, state_after}
use Rattle.statement_law.specs.RunLaws.{IsSomewhere}
use Rattle.statement_law.proofs.RunLemmas.{stands_throughout}
use Rattle.statement_law.specs.Standing.{IsFront, StandAt}
use Rattle.statement_law.specs.Laws.{Begin, begins_in, AllStand}
use Rattle.statement_law.specs.DesignLaws.{drives, output_begins, join_begins, joins_begin, own_begins, begins_each, begins_below, begins_of_top}
use Rattle.statement_law.proofs.AnswerLemmas.{Told, told_of, told_next, told_then, told_by}
use Rattle.statement_law.proofs.GrowthLemmas.{front_of_itself, front_of_front, front_of_more, last_stands}
use Rattle.statement_law.proofs.ProcessLemmas.{GrownProcesses, told_begins, grown_items, both_stand, items_stand}

-- ---- answers

-- a value that is known, or there is a fault
told_known : {A B : Type 0} (P : B → Type 0) (other : A) (answer : Result A ElabFault) (next : A → Result B ElabFault) →
    (answer ≡ Ok (value_or other answer) → Told P (next (value_or other answer))) → Told P (answer >>= next)
told_known P other (Ok x) next told = told refl
told_known P other (Err fault) next told = tt

told_provided : {A : Type 0} (P : A → Type 0) (holds : Bool) (rule : Rule) (word : Option Word) (answer : Result A ElabFault) → Told P answer → Told P (answer_if holds rule word answer)
told_provided P true rule word answer told = told
told_provided P false rule word answer told = tt

told_required : {A : Type 0} (P : A → Type 0) (holds : Bool) (rule : Rule) (word : Option Word) (x : A) → P x → Told P (require holds rule word x)
told_required P true rule word x told = told
told_required P false rule word x told = tt

told_few : (P : PartialDesign → Type 0) (name : Word) (part : PartialDesign) → P part → Told P (few_enough name part)
told_few P name part told =
    let answer : Result PartialDesign ElabFault = require (nat_le (length part.scopes) 1025) rules.TooMany (Some name) part in
    told_provided P (nat_le (length part.begins) 256) rules.TooMany (Some name) answer
    (told_required P (nat_le (length part.scopes) 1025) rules.TooMany (Some name) part told)

told_joined : {A B C : Type 0} (P : C → Type 0) (answer : Result A ElabFault) (next : A → Result B ElabFault) (last : B → Result C ElabFault) →
    Told P (answer >>= λ x. next x >>= last) → Told P ((answer >>= next) >>= last)
told_joined P (Ok x) next last told = told
told_joined P (Err fault) next last told = tt

fault_barring : {A : Type 0} (P : A → Type 0) (word : Option Word) (rule : Rule) (answer : Result A ElabFault) → Told P answer → Told P (unless_word word rule answer)
fault_barring P None rule answer told = told
fault_barring P (Some word) rule answer told = tt

told_unbroken : {A : Type 0} (P : A → Type 0) (broken : Option ElabFault) (answer : Result A ElabFault) → Told P answer → Told P (unless_fault broken answer)
told_unbroken P None answer told = told
told_unbroken P (Some fault) answer told = tt

told_faultless : {A : Type 0} (P : A → Type 0) (fault : Option ElabFault) (x : A) → P x → Told P (value_unless_fault fault x)
told_faultless P None x told = told
told_faultless P (Some fault) x told = tt

module _ (actions : List Action) where
  -- ---- an instance's own

  record Joined (table : Table) (begins : List Begin) (processes : Processes) : Type 0 where
    grows : GrownProcesses table processes
    stand : IsFront processes.table.actions actions → AllStand actions begins processes.begins

  both_joined : (table : Table) (ones others : List Begin) (one all : Processes) → Joined table ones one → Joined one.table others all →
      Joined table (ones ++ others) (record { table = all.table; begins = one.begins ++ all.begins })
  both_joined table ones others one all first second = record {
    grows = front_of_front table.actions one.table.actions all.table.actions first.grows second.grows;
    stand = (λ front. both_stand actions ones others one.begins all.begins (first.stand (front_of_front one.table.actions all.table.actions actions second.grows front)) (second.stand front));
  }

  drives_stand : (table : Table) (outside : Scope) (target : TargetTree) (inside : Scope) (value : text.ExpressionTree) (word : Option Word) →
      Told (Joined table (drives outside target inside value))
      ((lower_net_target outside target >>= λ targets. lower_expression inside value >>= λ e. Ok (ContinuousAssign targets e (any_of inside (names_in value))))
      >>= λ action. Ok (one_process table word action))
  drives_stand table outside target inside value word =
      let P : Processes → Type 0 = Joined table (drives outside target inside value) in
      told_joined P (lower_net_target outside target) _ _
      (told_next P (lower_net_target outside target) _ (λ targets is.
      told_joined P (lower_expression inside value) _ _
      (told_next P (lower_expression inside value) _ (λ e same. record {
        grows = front_of_more table.actions _;
        stand = (λ front. ((record { targets = targets; e = e; driven = is; lowered = same; there = last_stands table.actions actions _ front }, tt), tt));
      }))))

  join_stands : (whose : Word) (outer inner : Scope) (table : Table) (p : Port) (value : Option text.ExpressionTree) →
      Told (Joined table (join_begins outer inner p value)) (lower_join whose outer inner table p value)
  join_stands whose outer inner table p None = record { grows = front_of_itself table.actions; stand = (λ front. tt) }
  join_stands whose outer inner table p (Some value) = by p.output (target_of value)
    where
      by : (output : Bool) (only : Option TargetTree) →
          Told (Joined table (if output then output_begins outer inner p.name only else drives inner (written.whole p.name) outer value))
          ((if output then lower_output whose outer inner p.name only else lower_input outer inner p.name value) >>= λ action. Ok (one_process table (Some whose) action))
      by true None = tt
      by true (Some target) = drives_stand table outer target inner (text.name p.name) (Some whose)
      by false only = drives_stand table inner (written.whole p.name) outer value (Some whose)

  joins_stand : (whose : Word) (outer inner : Scope) (connections : List NamedConnection) (table : Table) (ports : List Port) →
      Told (Joined table (joins_begin outer inner connections ports)) (lower_joins whose outer inner connections table ports)
  joins_stand whose outer inner connections table [] = record { grows = front_of_itself table.actions; stand = (λ front. tt) }
  joins_stand whose outer inner connections table (p ∷ more) =
      let one : List Begin = join_begins outer inner p (value_for connections p.name.letters) in
      let others : List Begin = joins_begin outer inner connections more in
      told_then (Joined table one) (Joined table (one ++ others)) (lower_join whose outer inner table p (value_for connections p.name.letters)) _
      (join_stands whose outer inner table p (value_for connections p.name.letters)) (λ front first.
      told_begins (Joined table (one ++ others)) front.begins (lower_joins whose outer inner connections front.table more)
      (told_by (Joined front.table others) _ (lower_joins whose outer inner connections front.table more) (joins_stand whose outer inner connections front.table more)
      (λ all is second. both_joined table one others front all first second)))

  own_stands : (context : Context) (scope : Scope) (table : Table) → Told (Joined table (own_begins context scope)) (lower_own_processes context (ports_of context.unit) scope table)
  own_stands context scope table =
      let ports : List Port = ports_of context.unit in
      let ones : List Begin = joins_begin context.overrides.scope scope context.connections ports in
      let others : List Begin = begins_in scope (placed_items context.path context.unit) in
      let P : Processes → Type 0 = Joined table (ones ++ others) in
      told_then (Joined table ones) P (lower_joins context.name context.overrides.scope scope context.connections table ports) _
      (joins_stand context.name context.overrides.scope scope context.connections table ports) (λ joins first.
      told_begins P joins.begins (lower_items scope joins.table (placed_items context.path context.unit))
      (told_by (GrownProcesses joins.table) (λ all. P (record { table = all.table; begins = joins.begins ++ all.begins })) (lower_items scope joins.table (placed_items context.path context.unit))
      (grown_items scope joins.table (placed_items context.path context.unit)) (λ all is grows.
      both_joined table ones others joins all first (record { grows = grows; stand = items_stand actions scope joins.table (placed_items context.path context.unit) all is }))))

  -- ---- what an instance adds

  record Adds (part : PartialDesign) (begins : List Begin) (next : PartialDesign) : Type 0 where
    grows : IsFront part.table.actions next.table.actions
    places : List (List ℕ)
    whole : next.begins ≡ part.begins ++ places
    stand : IsFront next.table.actions actions → AllStand actions begins places

  adds_both : (part middle last : PartialDesign) (ones others : List Begin) → Adds part ones middle → Adds middle others last → Adds part (ones ++ others) last
  adds_both part middle last ones others first second = record {
    grows = front_of_front part.table.actions middle.table.actions last.table.actions first.grows second.grows;
    places = first.places ++ second.places;
    whole = second.whole ∙ ap (λ begins. begins ++ second.places) first.whole ∙ append_assoc part.begins first.places second.places;
    stand = (λ front. both_stand actions ones others first.places second.places (first.stand (front_of_front middle.table.actions last.table.actions actions second.grows front)) (second.stand front));
  }

  own_adds : (context : Context) (scope : Scope) (part : PartialDesign) →
      Told (Adds part (own_begins context scope)) (lower_own context (ports_of context.unit) scope part)
  own_adds context scope part =
      let P : PartialDesign → Type 0 = Adds part (own_begins context scope) in
      told_next P (lower_own_variables context (ports_of context.unit) scope) _ (λ variables is.
      told_then (Joined part.table (own_begins context scope)) P (lower_own_processes context (ports_of context.unit) scope part.table) _ (own_stands context scope part.table) (λ processes joined.
      told_few P context.name (with_own context scope part variables processes)
      (record { grows = joined.grows; places = processes.begins; whole = refl; stand = joined.stand })))

  module _ (step : PartialDesign → Instantiation → Result PartialDesign ElabFault) (begins : PartialDesign → Instantiation → List Begin)
      (one_adds : (part : PartialDesign) (one : Instantiation) → Told (Adds part (begins part one)) (step part one)) where
    each_adds : (part : PartialDesign) (list : List Instantiation) → Told (Adds part (begins_each step begins part list)) (each step part list)
    each_adds part [] = record { grows = front_of_itself part.table.actions; places = []; whole = sym (append-nil part.begins); stand = (λ front. tt) }
    each_adds part (one ∷ more) =
        let next : PartialDesign = value_or part (step part one) in
        let others : List Begin = begins_each step begins next more in
        told_known (Adds part (begins part one ++ others)) part (step part one) _ (λ is.
        told_by (Adds next others) (Adds part (begins part one ++ others)) (each step next more) (each_adds next more) (λ last same second.
        adds_both part next last (begins part one) others (told_of (Adds part (begins part one)) (step part one) next is (one_adds part one)) second))

  instance_adds : (levels : ℕ) (modules : SourceTree) (part : PartialDesign) (context : Context) →
      Told (Adds part (begins_below levels modules part context)) (elaborate_instance levels modules part context)
  instance_adds zero modules part context = tt
  instance_adds (suc levels) modules part context =
      let scope : Scope = value_or no_scope (lower_names part context) in
      let children : List Instantiation = value_or [] (lower_instances modules 0 scope.known context.unit.items) in
      let own : PartialDesign = value_or part (lower_own context (ports_of context.unit) scope part) in
      let step : PartialDesign → Instantiation → Result PartialDesign ElabFault = λ so_far child. elaborate_instance levels modules so_far (child_context scope context child) in
      let begins : PartialDesign → Instantiation → List Begin = λ so_far child. begins_below levels modules so_far (child_context scope context child) in
      let others : List Begin = begins_each step begins own children in
      let P : PartialDesign → Type 0 = Adds part (own_begins context scope ++ others) in
      told_known P no_scope (lower_names part context) _ (λ named.
      told_known P [] (lower_instances modules 0 scope.known context.unit.items) _ (λ listed.
      told_known P part (lower_own context (ports_of context.unit) scope part) _ (λ is.
      told_by (Adds own others) P (each step own children) (each_adds step begins (λ so_far child. instance_adds levels modules so_far (child_context scope context child)) own children) (λ last same second.
      adds_both part own last (own_begins context scope) others
      (told_of (Adds part (own_begins context scope)) (lower_own context (ports_of context.unit) scope part) own is (own_adds context scope part)) second))))

-- ---- the design

abbrev WholeStands : SourceTree → Option ModuleTree → Whole → Type 0
WholeStands modules top whole = AllStand whole.part.table.actions (begins_of_top modules top) whole.part.begins

top_stands : (modules : SourceTree) (m : ModuleTree) → Told (WholeStands modules (Some m)) (whole_of modules m)
unfolding elaborate_top
top_stands modules m =
    told_next (WholeStands modules (Some m)) (elaborate_instance 16 modules nothing (top_context m)) _ (λ part is.
    let adds : Adds part.table.actions nothing (begins_below 16 modules nothing (top_context m)) part =
    told_of (Adds part.table.actions nothing (begins_below 16 modules nothing (top_context m))) (elaborate_instance 16 modules nothing (top_context m)) part is
    (instance_adds part.table.actions 16 modules nothing (top_context m)) in
    told_faultless (WholeStands modules (Some m)) (broken_design m.name part) (record { unit = m; part = part })
    (subst (AllStand part.table.actions (begins_below 16 modules nothing (top_context m))) (sym adds.whole) (adds.stand (front_of_itself part.table.actions))))

found_stands : (modules : SourceTree) (top : Option ModuleTree) (rule : Rule) (word : Option Word) → Told (WholeStands modules top) (value_or_fault top rule word >>= λ m. whole_of modules m)
found_stands modules None rule word = tt
found_stands modules (Some m) rule word = top_stands modules m

pub design_begins : (modules : SourceTree) (top : Option Text) (scale : Timescale) (design : Design) → Elaborates modules top scale design →
    AllStand design.actions (begins_of_top modules (top_of modules top)) design.processes
design_begins modules top scale design is =
    let P : Design → Type 0 = λ d. AllStand d.actions (begins_of_top modules (top_of modules top)) d.processes in
    told_of P (elaborated modules top scale) design is
    (told_then (WholeStands modules (top_of modules top)) P (elaborated_whole modules top) (λ whole. Ok (design_by scale whole.unit whole.part))
    (fault_barring (WholeStands modules (top_of modules top)) (first_again (module_names modules)) _ _
    (told_unbroken (WholeStands modules (top_of modules top)) (broken_ports modules) (top_whole modules top) (found_stands modules (top_of modules top) _ _)))
    (λ whole stand. stand))

-- ---- runs

record IsBegun (actions : List Action) (processes : List (List ℕ)) (p : ℕ) (begin : Begin) : Type 0 where
  places : List ℕ
  there : slice_get processes p ≡ Some places
  stands : StandAt begin.scope actions begin.pending (frames places [])

stands_there : (actions : List Action) (begins : List Begin) (processes : List (List ℕ)) (p : ℕ) (begin : Begin) → AllStand actions begins processes → slice_get begins p ≡ Some begin →
    IsBegun actions processes p begin
stands_there actions [] processes p begin stand is = absurd cc
stands_there actions (b ∷ bs) [] p begin stand is = absurd stand
stands_there actions (b ∷ bs) (x ∷ xs) zero begin stand is =
    let same : b ≡ begin = cc in
    record { places = x; there = refl; stands = subst (λ one. StandAt one.scope actions one.pending (frames x [])) same stand.0 }
stands_there actions (b ∷ bs) (x ∷ xs) (suc p) begin stand is =
    let made : IsBegun actions xs p begin = stands_there actions bs xs p begin stand.1 is in
    record { places = made.places; there = made.there; stands = made.stands }

pub stands_by_text : (modules : SourceTree) (top : Option Text) (scale : Timescale) (setting : Setting) (p : ℕ) (begin : Begin) (log : List (ℕ × ℕ)) (n : ℕ) →
    Elaborates modules top scale setting.design → slice_get (begins_of_top modules (top_of modules top)) p ≡ Some begin →
    IsSomewhere setting.design (state_after setting log n) p begin.scope
stands_by_text modules top scale setting p begin log n is listed =
    let made : IsBegun setting.design.actions setting.design.processes p begin =
    stands_there setting.design.actions (begins_of_top modules (top_of modules top)) setting.design.processes p begin (design_begins modules top scale setting.design is) listed in
    stands_throughout setting p begin.scope begin.pending made.places log n made.there made.stands
