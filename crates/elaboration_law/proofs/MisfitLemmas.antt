-- E305: in a text that has a design all connections fit, and in one that is refused under the rule one doesn't.
use Rattle.std.proofs.Common.{◌≡◌, ℕ, zero, suc, ◌+◌, arith, nat_le, Bool, true, false, if◌then◌else◌, List, [], ◌∷◌, ◌++◌, length, Option, Some, None, Result, Ok, Err, refl, sym, ap, subst, ◌∙◌, ◌⊎◌, inl, inr}
use Rattle.std.specs.List.{Contains}
use Rattle.basis.specs.declared.timescale.Timescale.{Timescale}
use Rattle.vwords.specs.Words.{Text}
use Rattle.vast.specs.NumberedWords.{Word}
use Rattle.vast.specs.NumberedExpressions as text
use Rattle.vast.specs.NumberedStatements.{TargetTree}
use Rattle.vast.specs.NumberedModules.{ConnectionsTree, InstanceTree, ItemTree, instances, ModuleTree, SourceTree}
use Rattle.vdesign.specs.Design.{Design}
use Rattle.vdesign.specs.declared.action.Action.{Action}
use Rattle.vmodules.specs.Names.{letters_of}
use Rattle.vmodules.specs.Hierarchy.{module_of, top_of}
use Rattle.vmodules.specs.Ports.{Port, ports_of}
use Rattle.vmodules.specs.Placed.{placed_items}
use Rattle.vmodules.specs.Connected.{NamedConnection, open_names, misfit, misfit_if, value_for}
use Rattle.velab_expr.specs.declared.fault.Rule.TheVariants.{Top, Doubled, Ports, TooMany}
use Rattle.velab_expr.specs.declared.fault.ElabFault.{ElabFault}
use Rattle.velab_expr.specs.Rules.{fault_at}
use Rattle.velab_expr.specs.Answers.{◌>>=◌}
use Rattle.velab_expr.specs.Scopes.{Scope}
use Rattle.velab_expr.specs.Resolved.{lower_expression}
use Rattle.velab_expr.specs.Written.{lower_net_target, target_of}
use Rattle.velab_declaration.specs.Variables.{port_names}
use Rattle.velab_process.specs.Statements.{Table}
use Rattle.velab_process.specs.Processes.{Processes as Made, with_begins_before, lower_items}
use Rattle.velab_process.specs.Connections.{lower_input, lower_output, lower_connection, lower_join, lower_joins, one_process}
use Rattle.vhierarchy.specs.Instances.{unless_word, Instantiation, instantiation_by, lower_instance, lower_list, named_again, lower_instances_of, lower_instances, lower_own_variables, with_own, lower_names, PartialDesign, Context, broken_design, elaborated}
use Rattle.elaboration_law.specs.Hierarchy.{Instance, StandsBelow, top_instance}
use Rattle.elaboration_law.specs.Laws.{IsMeant}
use Rattle.elaboration_law.specs.Misfits.{Misfits, HasMisfit, of_instance, of_output}
use Rattle.elaboration_law.proofs.ToldLemmas.{is_local, then_tells, untold, untold_fault}
use Rattle.elaboration_law.proofs.ExpressionRules.{expression_tells, target_tells}
use Rattle.elaboration_law.proofs.StatementRules.{items_tell, input_tells}
use Rattle.elaboration_law.proofs.ModuleRules.{is_of_names, names_tell, own_variables_tell}
use Rattle.elaboration_law.proofs.DesignRules.{is_of_design, design_tells}
use Rattle.elaboration_law.proofs.StepLemmas.{then_ok, then_err, provided_ok, provided_err, barring_ok, barring_err, few_err, contains_first, contains_more, contains_none}
use Rattle.elaboration_law.proofs.ItemLemmas.{item_answered, item_told}
use Rattle.elaboration_law.proofs.HierarchyLemmas.{instance_at, OwnFault, in_names, in_instances, in_own, ToldBelow, too_deep, by_own, Told, in_modules, in_ports, is_of_ports, of_ports, in_top, in_hierarchy, in_design, fault_told, top_told_below}
use Rattle.elaboration_law.proofs.OwnLemmas.{own_steps, OwnTold, in_variables, in_processes, too_many, own_told}
use Rattle.elaboration_law.proofs.NameLemmas.{was_elaborated}

not_both : {A : Type 0} (o : Option A) (x : A) → o ≡ None → o ≡ Some x → ⊥
not_both o x none some = cc

-- ---- instances

module _ (child : ModuleTree) (known : ℕ) (overrides : Option ConnectionsTree) where
  abbrev own_word : InstanceTree → Option Word
  own_word one = misfit_if one.name (letters_of (open_names child)) overrides

  abbrev port_word : InstanceTree → Option Word
  port_word one = misfit one.name (letters_of (port_names child)) one.connections

  abbrev made_of : InstanceTree → Result Instantiation ElabFault
  made_of one = Ok (instantiation_by child known overrides one)

  fits_one : (one : InstanceTree) (x : Instantiation) (word : Word) → lower_instance child known overrides one ≡ Ok x → Misfits child overrides one word → ⊥
  fits_one one x word is (inl some) = not_both (own_word one) word (barring_ok (own_word one) Ports (unless_word (port_word one) Ports (made_of one)) x is).0 some
  fits_one one x word is (inr some) =
      not_both (port_word one) word (barring_ok (port_word one) Ports (made_of one) x (barring_ok (own_word one) Ports (unless_word (port_word one) Ports (made_of one)) x is).1).0 some

  fits_all : (list : List InstanceTree) (children : List Instantiation) (one : InstanceTree) (word : Word) → lower_list child known overrides list ≡ Ok children → Contains list one → Misfits child overrides one word → ⊥
  fits_all [] children one word is inside m = contains_none one inside
  fits_all (first ∷ more) children one word is (zero, lt, same) m =
      let front = then_ok (lower_instance child known overrides first) (λ front. lower_list child known overrides more >>= λ others. Ok (front ∷ others)) children is in
      fits_one first front.0 word front.1 (subst (λ (t : InstanceTree). Misfits child overrides t word) (sym same) m)
  fits_all (first ∷ more) children one word is (suc k, lt, same) m =
      let front = then_ok (lower_instance child known overrides first) (λ front. lower_list child known overrides more >>= λ others. Ok (front ∷ others)) children is in
      let others = then_ok (lower_list child known overrides more) (λ others. Ok (front.0 ∷ others)) children front.2 in
      fits_all more others.0 one word others.1 (k, omega (arith, lt), same) m

  -- one of these doesn't fit
  record MisfitIn (list : List InstanceTree) : Type 0 where
    pub made : InstanceTree
    pub word : Word
    pub inside : Contains list made
    pub misfits : Misfits child overrides made word

  module _ (fault : ElabFault) where
    one_misfit : (one : InstanceTree) → lower_instance child known overrides one ≡ Err fault → (word : Word) × Misfits child overrides one word
    one_misfit one is = by (barring_err (own_word one) Ports (unless_word (port_word one) Ports (made_of one)) fault is)
      where
        inner : ((w : Word) × (port_word one ≡ Some w) × (fault.rule ≡ Ports)) ⊎ ((port_word one ≡ None) × (made_of one ≡ Err fault)) → (word : Word) × Misfits child overrides one word
        inner (inl (w, some, rule)) = (w, inr some)
        inner (inr (none, err)) = absurd cc

        by : ((w : Word) × (own_word one ≡ Some w) × (fault.rule ≡ Ports)) ⊎ ((own_word one ≡ None) × (unless_word (port_word one) Ports (made_of one) ≡ Err fault)) → (word : Word) × Misfits child overrides one word
        by (inl (w, some, rule)) = (w, inl some)
        by (inr (none, err)) = inner (barring_err (port_word one) Ports (made_of one) fault err)

    further_made : (first : InstanceTree) (more : List InstanceTree) → MisfitIn more → MisfitIn (first ∷ more)
    further_made first more m = record { made = m.made; word = m.word; inside = contains_more first m.made more m.inside; misfits = m.misfits }

    misfit_in : (list : List InstanceTree) → lower_list child known overrides list ≡ Err fault → MisfitIn list
    misfit_in [] is = absurd cc
    misfit_in (first ∷ more) is = by (then_err (lower_instance child known overrides first) (λ front. lower_list child known overrides more >>= λ others. Ok (front ∷ others)) fault is) (misfit_in more)
      where
        second : (front : Instantiation) → (lower_list child known overrides more ≡ Err fault → MisfitIn more) →
            (lower_list child known overrides more ≡ Err fault) ⊎ ((others : List Instantiation) × (lower_list child known overrides more ≡ Ok others) × (Ok (front ∷ others) ≡ Err fault)) → MisfitIn (first ∷ more)
        second front rest (inl err) = further_made first more (rest err)
        second front rest (inr (others, ok, err)) = absurd cc

        by : (lower_instance child known overrides first ≡ Err fault)
            ⊎ ((front : Instantiation) × (lower_instance child known overrides first ≡ Ok front) × ((lower_list child known overrides more >>= λ others. Ok (front ∷ others)) ≡ Err fault)) →
            (lower_list child known overrides more ≡ Err fault → MisfitIn more) → MisfitIn (first ∷ more)
        by (inl err) rest = let m = one_misfit first err in record { made = first; word = m.0; inside = contains_first first more; misfits = m.1 }
        by (inr (front, ok, err)) rest = second front rest (then_err (lower_list child known overrides more) (λ others. Ok (front ∷ others)) fault err)

module _ (modules : SourceTree) where
  of_fits : (name : Word) (before known : ℕ) (found : Option ModuleTree) (overrides : Option ConnectionsTree) (list : List InstanceTree) (children : List Instantiation) (child : ModuleTree) (made : InstanceTree) (word : Word) →
      lower_instances_of name before known found overrides list ≡ Ok children → found ≡ Some child → Contains list made → Misfits child overrides made word → ⊥
  of_fits name before known None overrides list children child made word is there inside m = cc
  of_fits name before known (Some c) overrides list children child made word is there inside m =
      let same : c ≡ child = cc in
      fits_all c known overrides list children made word
      (barring_ok (named_again c) Doubled (lower_list c known overrides list) children
      (provided_ok (nat_le (before + length list) 1024) TooMany (Some name) (unless_word (named_again c) Doubled (lower_list c known overrides list)) children is).1).1
      inside (subst (λ (u : ModuleTree). Misfits u overrides made word) (sym same) m)

  all_fit : (before known : ℕ) (items : List ItemTree) (children : List Instantiation) (name : Word) (overrides : Option ConnectionsTree) (list : List InstanceTree) (child : ModuleTree) (made : InstanceTree) (word : Word) →
      lower_instances modules before known items ≡ Ok children → Contains items (instances name overrides list) → module_of modules name.letters ≡ Some child → Contains list made →
      Misfits child overrides made word → ⊥
  all_fit before known items children name overrides list child made word is inside there listed m =
      let it = item_answered modules before known items children name overrides list is inside in
      of_fits name it.before it.known (module_of modules name.letters) overrides list it.children child made word it.is there listed m

  module _ (fault : ElabFault) (rule : fault.rule ≡ Ports) where
    of_misfit : (name : Word) (before known : ℕ) (found : Option ModuleTree) (overrides : Option ConnectionsTree) (list : List InstanceTree) →
        lower_instances_of name before known found overrides list ≡ Err fault → (child : ModuleTree) × (found ≡ Some child) × MisfitIn child known overrides list
    of_misfit name before known None overrides list is =
        let same : fault_at Top (Some name) ≡ fault = cc in absurd (let other : Top ≡ fault.rule = ap (λ (f : ElabFault). f.rule) same in cc)
    of_misfit name before known (Some m) overrides list is =
        (m, refl, by (provided_err (nat_le (before + length list) 1024) TooMany (Some name) (unless_word (named_again m) Doubled (lower_list m known overrides list)) fault is))
      where
        again : ((w : Word) × (named_again m ≡ Some w) × (fault.rule ≡ Doubled)) ⊎ ((named_again m ≡ None) × (lower_list m known overrides list ≡ Err fault)) → MisfitIn m known overrides list
        again (inl (w, is, other)) = absurd cc
        again (inr (none, err)) = misfit_in m known overrides fault list err

        by : ((nat_le (before + length list) 1024 ≡ false) × (fault.rule ≡ TooMany)) ⊎ ((nat_le (before + length list) 1024 ≡ true) × (unless_word (named_again m) Doubled (lower_list m known overrides list) ≡ Err fault)) →
            MisfitIn m known overrides list
        by (inl (many, other)) = absurd cc
        by (inr (few, err)) = again (barring_err (named_again m) Doubled (lower_list m known overrides list) fault err)

-- ---- outputs

abbrev with_front : Made → Made → Made
with_front front made = record { table = made.table; begins = front.begins ++ made.begins }

module _ (whose : Word) (outer inner : Scope) where
  named_output : (p : Port) (value : text.ExpressionTree) (action : Action) → lower_connection whose outer inner p value ≡ Ok action → p.output ≡ true → target_of value ≡ None → ⊥
  named_output p value action is out none =
      refused_is (sym (λ i. if out i then lower_output whose outer inner p.name (none i) else lower_input outer inner p.name value) ∙ is)
    where
      refused_is : lower_output whose outer inner p.name None ≡ Ok action → ⊥
      refused_is is = cc

  join_named : (table : Table) (p : Port) (wanted : Option text.ExpressionTree) (value : text.ExpressionTree) (made : Made) → lower_join whose outer inner table p wanted ≡ Ok made → wanted ≡ Some value →
      p.output ≡ true → target_of value ≡ None → ⊥
  join_named table p None value made is there out none = cc
  join_named table p (Some v) value made is there out none =
      let same : v ≡ value = cc in
      let action = then_ok (lower_connection whose outer inner p v) (λ action. Ok (one_process table (Some whose) action)) made is in
      named_output p v action.0 action.1 out (ap target_of same ∙ none)

  outputs_named : (connections : List NamedConnection) (table : Table) (ports : List Port) (made : Made) (p : Port) (value : text.ExpressionTree) → lower_joins whose outer inner connections table ports ≡ Ok made →
      Contains ports p → p.output ≡ true → value_for connections p.name.letters ≡ Some value → target_of value ≡ None → ⊥
  outputs_named connections table [] made p value is inside out there none = contains_none p inside
  outputs_named connections table (first ∷ more) made p value is (zero, lt, same) out there none =
      let front = then_ok (lower_join whose outer inner table first (value_for connections first.name.letters))
      (λ front. with_begins_before front.begins (lower_joins whose outer inner connections front.table more)) made is in
      join_named table first (value_for connections first.name.letters) value front.0 front.1
      (ap (λ (q : Port). value_for connections q.name.letters) same ∙ there) (ap (λ (q : Port). q.output) same ∙ out) none
  outputs_named connections table (first ∷ more) made p value is (suc k, lt, same) out there none =
      let front = then_ok (lower_join whose outer inner table first (value_for connections first.name.letters))
      (λ front. with_begins_before front.begins (lower_joins whose outer inner connections front.table more)) made is in
      let others = then_ok (lower_joins whose outer inner connections front.0.table more) (λ ps. Ok (with_front front.0 ps)) made front.2 in
      outputs_named connections front.0.table more others.0 p value others.1 (k, omega (arith, lt), same) out there none

  -- an output that is connected to what can't be driven
  record Unnamed (connections : List NamedConnection) (ports : List Port) : Type 0 where
    pub p : Port
    pub value : text.ExpressionTree
    pub inside : Contains ports p
    pub out : p.output ≡ true
    pub there : value_for connections p.name.letters ≡ Some value
    pub none : target_of value ≡ None

  module _ (fault : ElabFault) (rule : fault.rule ≡ Ports) where
    output_unnamed : (port : Word) (target : Option TargetTree) → lower_output whose outer inner port target ≡ Err fault → target ≡ None
    output_unnamed port None is = refl
    output_unnamed port (Some target) is =
        absurd (untold is_local (lower_output whose outer inner port (Some target)) fault Ports
        (then_tells is_local (lower_net_target outer target) _ (target_tells true outer target) (λ targets.
        then_tells is_local (lower_expression inner (text.name port)) _ (expression_tells inner (text.name port)) (λ e. tt))) refl is rule)

    connection_unnamed : (p : Port) (value : text.ExpressionTree) → lower_connection whose outer inner p value ≡ Err fault → (p.output ≡ true) × (target_of value ≡ None)
    connection_unnamed p value is = by p.output refl is
      where
        by : (b : Bool) → p.output ≡ b → (if b then lower_output whose outer inner p.name (target_of value) else lower_input outer inner p.name value) ≡ Err fault → (p.output ≡ true) × (target_of value ≡ None)
        by true e err = (e, output_unnamed p.name (target_of value) err)
        by false e err = absurd (untold is_local (lower_input outer inner p.name value) fault Ports (input_tells outer inner p.name value) refl err rule)

    join_unnamed : (table : Table) (p : Port) (wanted : Option text.ExpressionTree) → lower_join whose outer inner table p wanted ≡ Err fault →
        (value : text.ExpressionTree) × (wanted ≡ Some value) × (p.output ≡ true) × (target_of value ≡ None)
    join_unnamed table p None is = absurd cc
    join_unnamed table p (Some value) is = by (then_err (lower_connection whose outer inner p value) (λ action. Ok (one_process table (Some whose) action)) fault is)
      where
        by : (lower_connection whose outer inner p value ≡ Err fault) ⊎ ((action : Action) × (lower_connection whose outer inner p value ≡ Ok action) × (Ok (one_process table (Some whose) action) ≡ Err fault)) →
            (other : text.ExpressionTree) × (Some value ≡ Some other) × (p.output ≡ true) × (target_of other ≡ None)
        by (inl err) = let h = connection_unnamed p value err in (value, refl, h.0, h.1)
        by (inr (action, ok, err)) = absurd cc

    further_port : (connections : List NamedConnection) (first : Port) (more : List Port) → Unnamed connections more → Unnamed connections (first ∷ more)
    further_port connections first more u = record { p = u.p; value = u.value; inside = contains_more first u.p more u.inside; out = u.out; there = u.there; none = u.none }

    joins_unnamed : (connections : List NamedConnection) (table : Table) (ports : List Port) → lower_joins whose outer inner connections table ports ≡ Err fault → Unnamed connections ports
    joins_unnamed connections table [] is = absurd cc
    joins_unnamed connections table (first ∷ more) is =
        by (then_err (lower_join whose outer inner table first (value_for connections first.name.letters)) (λ front. with_begins_before front.begins (lower_joins whose outer inner connections front.table more)) fault is)
        (λ next. joins_unnamed connections next more)
      where
        second : (front : Made) → (lower_joins whose outer inner connections front.table more ≡ Err fault → Unnamed connections more) →
            (lower_joins whose outer inner connections front.table more ≡ Err fault)
            ⊎ ((ps : Made) × (lower_joins whose outer inner connections front.table more ≡ Ok ps) × (Ok (with_front front ps) ≡ Err fault)) →
            Unnamed connections (first ∷ more)
        second front rest (inl err) = further_port connections first more (rest err)
        second front rest (inr (ps, ok, err)) = absurd cc

        by : (lower_join whose outer inner table first (value_for connections first.name.letters) ≡ Err fault)
            ⊎ ((front : Made) × (lower_join whose outer inner table first (value_for connections first.name.letters) ≡ Ok front) × (with_begins_before front.begins (lower_joins whose outer inner connections front.table more) ≡ Err fault)) →
            ((next : Table) → lower_joins whose outer inner connections next more ≡ Err fault → Unnamed connections more) → Unnamed connections (first ∷ more)
        by (inl err) rest =
            let h = join_unnamed table first (value_for connections first.name.letters) err in
            record { p = first; value = h.0; inside = contains_first first more; out = h.2; there = h.1; none = h.3 }
        by (inr (front, ok, err)) rest =
            second front (rest front.table) (then_err (lower_joins whose outer inner connections front.table more) (λ ps. Ok (with_front front ps)) fault err)

-- ---- an instance's own

module _ (context : Context) (scope : Scope) (part : PartialDesign) (fault : ElabFault) (rule : fault.rule ≡ Ports) where
  abbrev ports : List Port
  ports = ports_of context.unit

  abbrev Found : Type 0
  Found = Unnamed context.name context.overrides.scope scope context.connections ports

  in_joins : (lower_joins context.name context.overrides.scope scope context.connections part.table ports ≡ Err fault)
      ⊎ ((joins : Made) × (lower_joins context.name context.overrides.scope scope context.connections part.table ports ≡ Ok joins) × (with_begins_before joins.begins (lower_items scope joins.table (placed_items context.path context.unit)) ≡ Err fault)) →
      Found
  in_joins (inl err) = joins_unnamed context.name context.overrides.scope scope fault rule context.connections part.table ports err
  in_joins (inr (joins, ok, err)) = absurd (by (then_err (lower_items scope joins.table (placed_items context.path context.unit)) (λ ps. Ok (with_front joins ps)) fault err))
    where
      by : (lower_items scope joins.table (placed_items context.path context.unit) ≡ Err fault)
          ⊎ ((ps : Made) × (lower_items scope joins.table (placed_items context.path context.unit) ≡ Ok ps) × (Ok (with_front joins ps) ≡ Err fault)) → ⊥
      by (inl err) = untold is_local (lower_items scope joins.table (placed_items context.path context.unit)) fault Ports (items_tell scope joins.table (placed_items context.path context.unit)) refl err rule
      by (inr (ps, ok, err)) = cc

  own_unnamed : OwnTold context scope part fault → Found
  own_unnamed (in_variables err) = absurd (untold is_local (lower_own_variables context ports scope) fault Ports (own_variables_tell context ports scope) refl err rule)
  own_unnamed (in_processes err) =
      in_joins (then_err (lower_joins context.name context.overrides.scope scope context.connections part.table ports) (λ joins. with_begins_before joins.begins (lower_items scope joins.table (placed_items context.path context.unit))) fault err)
  own_unnamed (too_many variables processes ok err) = absurd (let other = (few_err context.name (with_own context scope part variables processes) fault err).1 in cc)

-- ---- the law

module _ (modules : SourceTree) (top : Option Text) where
  step_told : (fault : ElabFault) (unit : ModuleTree) (depth : ℕ) (part : PartialDesign) (context : Context) → top_of modules top ≡ Some unit → fault.rule ≡ Ports → StandsBelow modules depth (top_instance unit) (instance_at context) →
      OwnFault modules part context fault → HasMisfit modules top
  step_told fault unit depth part context is_top rule stands (in_names err) = absurd (untold is_of_names (lower_names part context) fault Ports (names_tell part context) refl err rule)
  step_told fault unit depth part context is_top rule stands (in_instances scope names err) =
      let it = item_told modules fault 0 scope.known context.unit.items err in
      let found = of_misfit modules fault rule it.name it.before it.known (module_of modules it.name.letters) it.overrides it.list it.is in
      let m = found.2 in
      of_instance depth (instance_at context) it.name it.overrides it.list found.0 m.made m.word (unit, is_top, stands) it.inside found.1 m.inside m.misfits
  step_told fault unit depth part context is_top rule stands (in_own scope children names wanted err) =
      let u = own_unnamed context scope part fault rule (own_told context scope part fault err) in
      of_output depth (instance_at context) u.p u.value (unit, is_top, stands) u.inside u.out u.there u.none

  below_told : (fault : ElabFault) (unit : ModuleTree) → top_of modules top ≡ Some unit → fault.rule ≡ Ports → ToldBelow modules 16 (top_instance unit) fault → HasMisfit modules top
  below_told fault unit is_top rule (too_deep one other stands) = absurd cc
  below_told fault unit is_top rule (by_own depth part context stands own) = step_told fault unit depth part context is_top rule stands own

  misfits_told : (fault : ElabFault) → fault.rule ≡ Ports → Told modules top fault → HasMisfit modules top
  misfits_told fault rule (in_modules w again other) = absurd cc
  misfits_told fault rule (in_ports m is other) = absurd (let no = sym (of_ports m fault.rule other) ∙ ap is_of_ports rule in cc)
  misfits_told fault rule (in_top missing other) = absurd cc
  misfits_told fault rule (in_hierarchy unit is_top err) = below_told fault unit is_top rule (top_told_below modules unit fault err)
  misfits_told fault rule (in_design unit part is_top ok broken) =
      absurd (untold_fault is_of_design (broken_design unit.name part) fault Ports (design_tells is_of_design refl refl refl refl unit.name part refl refl) refl broken rule)

  misfits_never : (scale : Timescale) (design : Design) → elaborated modules top scale ≡ Ok design → ¬ HasMisfit modules top
  misfits_never scale design is (of_instance levels one name overrides list child made word stands inside there listed m) =
      let found = (was_elaborated modules top scale design is levels one stands).1 in
      let within = subst (λ (i : Instance). Contains i.unit.items (instances name overrides list)) (sym found.at) inside in
      all_fit modules 0 found.own.scope.known found.context.unit.items found.own.children name overrides list child made word found.own.instances_are within there listed m
  misfits_never scale design is (of_output levels one p value stands inside out there none) =
      let found = (was_elaborated modules top scale design is levels one stands).1 in
      let context = found.context in
      let s = own_steps modules found.part context found.own in
      let within = subst (λ (i : Instance). Contains (ports_of i.unit) p) (sym found.at) inside in
      let connected = ap (λ (i : Instance). value_for i.connections p.name.letters) found.at ∙ there in
      let joins = then_ok (lower_joins context.name context.overrides.scope found.own.scope context.connections found.part.table (ports_of context.unit))
      (λ joins. with_begins_before joins.begins (lower_items found.own.scope joins.table (placed_items context.path context.unit))) s.processes s.processes_made in
      outputs_named context.name context.overrides.scope found.own.scope context.connections found.part.table (ports_of context.unit) joins.0 p value joins.1 within out connected none

pub misfits_meant : IsMeant Ports HasMisfit
misfits_meant = record {
  never = misfits_never;
  told = λ modules top scale fault is rule. misfits_told modules top fault rule (fault_told modules top scale fault is);
}
