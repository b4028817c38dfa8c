-- The names of a module: where all are known no two are alike, and where one stands again two are.
use Rattle.std.proofs.Common.{◌≡◌, ℕ, ◌+◌, nat_le, Bool, true, false, not, ◌||◌, List, [], ◌∷◌, ◌++◌, map, length, Option, Some, None, Result, Ok, Err, refl, sym, ap, ◌∙◌, ◌⊎◌, inl, inr, append_assoc}
use Rattle.std.specs.List.{Contains, flat_map}
use Rattle.std.specs.Option.{option_or}
use Rattle.std.proofs.lemmas.List.{map-append, append-nil}
use Rattle.vwords.specs.Words.{Text}
use Rattle.vast.specs.NumberedWords.{Word}
use Rattle.vast.specs.NumberedModules.{ConnectionsTree, InstanceTree, ItemTree, instances, ModuleTree, SourceTree}
use Rattle.vmodules.specs.Names.{is_declared, has_double, letters_of, first_again}
use Rattle.vmodules.specs.Hierarchy.{module_of}
use Rattle.vmodules.specs.Connected.{open_names}
use Rattle.vmodules.proofs.NameLemmas.{double_at, no_double-push}
use Rattle.velab_expr.specs.declared.fault.Rule.TheVariants.{Top, Doubled, TooMany}
use Rattle.velab_expr.specs.declared.fault.ElabFault.{ElabFault}
use Rattle.velab_expr.specs.declared.scope.Meaning.{Meaning}
use Rattle.velab_expr.specs.Answers.{◌>>=◌, require, answer_if}
use Rattle.velab_expr.specs.Rules.{fault_at}
use Rattle.velab_expr.specs.Scopes.{Scope, at}
use Rattle.velab_expr.specs.Symbols.{Symbol, name_in, symbols_in_head, symbols_by, valueless_by}
use Rattle.velab_declaration.specs.Parameters.{Overrides, Base, lower_meaning, with_meaning, add_symbol, add_symbols, first_scope, item_scope}
use Rattle.velab_declaration.specs.Variables.{port_names, declared_names}
use Rattle.vhierarchy.specs.Instances.{unless_word, Instantiation, lower_list, named_again, lower_instances_of, lower_instances, PartialDesign, Context, base_of, lower_names, has_room}
use Rattle.elaboration_law.specs.Doubles.{other_names, names_in_module, has_head_twice}
use Rattle.elaboration_law.proofs.ToldLemmas.{is_of_connections, untold}
use Rattle.elaboration_law.proofs.ModuleRules.{is_of_meaning, meaning_tells, list_tells}
use Rattle.elaboration_law.proofs.StepLemmas.{same_value, then_ok, then_err, provided_ok, provided_err, required_ok, required_err, barring_ok, barring_err}
use Rattle.elaboration_law.proofs.ItemLemmas.{item_answered, item_told}
use Rattle.elaboration_law.proofs.DoubleLemmas.{none_twice, one_twice, twice_among}

-- ---- names that are added

abbrev pub letters_in : List Symbol → List Text
letters_in list = letters_of (map name_in list)

not_true : (b : Bool) → not b ≡ true → b ≡ false
not_true true e = absurd cc
not_true false e = refl

not_false : (b : Bool) → not b ≡ false → b ≡ true
not_false true e = refl
not_false false e = absurd cc

module _ (overrides : Overrides) where
  -- the names behind a symbol, where it is new
  symbol_added : (scope next : Scope) (one : Symbol) → add_symbol overrides scope one ≡ Ok next →
      (is_declared scope.names (name_in one).letters ≡ false) × (next.names ≡ scope.names ++ (name_in one).letters ∷ [])
  symbol_added scope next one is =
      let meaning = then_ok (lower_meaning overrides scope one) (λ meaning. require (not (is_declared scope.names (name_in one).letters)) Doubled (Some (name_in one)) (with_meaning scope one meaning)) next is in
      let new = required_ok (not (is_declared scope.names (name_in one).letters)) Doubled (Some (name_in one)) (with_meaning scope one meaning.0) next meaning.2 in
      (not_true (is_declared scope.names (name_in one).letters) new.0, sym (ap (λ (s : Scope). s.names) new.1))

  pub names_added : (scope next : Scope) (list : List Symbol) → add_symbols overrides scope list ≡ Ok next → next.names ≡ scope.names ++ letters_in list
  names_added scope next [] is = sym (ap (λ (s : Scope). s.names) (same_value scope next is)) ∙ sym (append-nil scope.names)
  names_added scope next (one ∷ more) is =
      let front = then_ok (add_symbol overrides scope one) (λ s. add_symbols overrides s more) next is in
      names_added front.0 next more front.2
      ∙ ap (λ (l : List Text). l ++ letters_in more) (symbol_added scope front.0 one front.1).1
      ∙ append_assoc scope.names ((name_in one).letters ∷ []) (letters_in more)

  pub added_once : (scope next : Scope) (list : List Symbol) → add_symbols overrides scope list ≡ Ok next → has_double scope.names ≡ false → has_double next.names ≡ false
  added_once scope next [] is once = sym (ap (λ (s : Scope). has_double s.names) (same_value scope next is)) ∙ once
  added_once scope next (one ∷ more) is once =
      let front = then_ok (add_symbol overrides scope one) (λ s. add_symbols overrides s more) next is in
      let added = symbol_added scope front.0 one front.1 in
      added_once front.0 next more front.2 (ap has_double added.1 ∙ no_double-push scope.names (name_in one).letters once added.0)

  module _ (fault : ElabFault) (rule : fault.rule ≡ Doubled) where
    stands_before : (scope : Scope) (one : Symbol) → add_symbol overrides scope one ≡ Err fault → is_declared scope.names (name_in one).letters ≡ true
    stands_before scope one is =
        by (then_err (lower_meaning overrides scope one) (λ meaning. require (not (is_declared scope.names (name_in one).letters)) Doubled (Some (name_in one)) (with_meaning scope one meaning)) fault is)
      where
        by : (lower_meaning overrides scope one ≡ Err fault)
            ⊎ ((meaning : Meaning) × (lower_meaning overrides scope one ≡ Ok meaning) × (require (not (is_declared scope.names (name_in one).letters)) Doubled (Some (name_in one)) (with_meaning scope one meaning) ≡ Err fault)) →
            is_declared scope.names (name_in one).letters ≡ true
        by (inl err) = absurd (untold is_of_meaning (lower_meaning overrides scope one) fault Doubled (meaning_tells overrides scope one) refl err rule)
        by (inr (meaning, ok, err)) =
            not_false (is_declared scope.names (name_in one).letters) (required_err (not (is_declared scope.names (name_in one).letters)) Doubled (Some (name_in one)) (with_meaning scope one meaning) fault err).0

    pub added_twice : (scope : Scope) (list : List Symbol) → add_symbols overrides scope list ≡ Err fault → has_double (scope.names ++ letters_in list) ≡ true
    added_twice scope [] is = absurd cc
    added_twice scope (one ∷ more) is = by (then_err (add_symbol overrides scope one) (λ s. add_symbols overrides s more) fault is) (λ next. added_twice next more)
      where
        by : (add_symbol overrides scope one ≡ Err fault) ⊎ ((next : Scope) × (add_symbol overrides scope one ≡ Ok next) × (add_symbols overrides next more ≡ Err fault)) →
            ((next : Scope) → add_symbols overrides next more ≡ Err fault → has_double (next.names ++ letters_in more) ≡ true) →
            has_double (scope.names ++ (name_in one).letters ∷ letters_in more) ≡ true
        by (inl err) rest = double_at scope.names (letters_in more) (name_in one).letters (stands_before scope one err)
        by (inr (next, ok, err)) rest =
            sym (ap has_double (ap (λ (l : List Text). l ++ letters_in more) (symbol_added scope next one ok).1 ∙ append_assoc scope.names ((name_in one).letters ∷ []) (letters_in more)))
            ∙ rest next err

-- ---- all names of a module

module _ (base : Base) (m : ModuleTree) where
  abbrev valueless : List Symbol
  valueless = flat_map valueless_by m.items

  abbrev head : List Symbol
  head = symbols_in_head m.parameters

  abbrev whole : List Symbol
  whole = flat_map symbols_by m.items

  -- the names, group by group
  abbrev grouped : List Text
  grouped = ((letters_of (declared_names m) ++ letters_in valueless) ++ letters_in head) ++ letters_in whole

  in_groups : grouped ≡ names_in_module m
  in_groups =
      append_assoc (letters_of (declared_names m) ++ letters_in valueless) (letters_in head) (letters_in whole)
      ∙ append_assoc (letters_of (declared_names m)) (letters_in valueless) (letters_in head ++ letters_in whole)
      ∙ ap (λ (l : List Text). letters_of (declared_names m) ++ l)
      (sym (ap letters_of (map-append name_in valueless (head ++ whole)) ∙ map-append (λ (w : Word). w.letters) (map name_in valueless) (map name_in (head ++ whole))
      ∙ ap (λ (l : List Text). letters_in valueless ++ l) (ap letters_of (map-append name_in head whole) ∙ map-append (λ (w : Word). w.letters) (map name_in head) (map name_in whole))))

  pub names_of_scope : (scope : Scope) → item_scope base m ≡ Ok scope → scope.names ≡ names_in_module m
  names_of_scope scope is =
      let one = then_ok (add_symbols base.overrides (first_scope base m) valueless)
      (λ s. add_symbols base.overrides s head >>= λ h. add_symbols base.overrides h whole >>= λ w. Ok (at w h.known)) scope is in
      let two = then_ok (add_symbols base.overrides one.0 head) (λ h. add_symbols base.overrides h whole >>= λ w. Ok (at w h.known)) scope one.2 in
      let three = then_ok (add_symbols base.overrides two.0 whole) (λ w. Ok (at w two.0.known)) scope two.2 in
      sym (ap (λ (s : Scope). s.names) (same_value (at three.0 two.0.known) scope three.2))
      ∙ names_added base.overrides two.0 three.0 whole three.1
      ∙ ap (λ (l : List Text). l ++ letters_in whole) (names_added base.overrides one.0 two.0 head two.1
      ∙ ap (λ (l : List Text). l ++ letters_in head) (names_added base.overrides (first_scope base m) one.0 valueless one.1))
      ∙ in_groups

  scope_once : (scope : Scope) → item_scope base m ≡ Ok scope → has_double (letters_of (declared_names m)) ≡ false → has_double (names_in_module m) ≡ false
  scope_once scope is once =
      let one = then_ok (add_symbols base.overrides (first_scope base m) valueless)
      (λ s. add_symbols base.overrides s head >>= λ h. add_symbols base.overrides h whole >>= λ w. Ok (at w h.known)) scope is in
      let two = then_ok (add_symbols base.overrides one.0 head) (λ h. add_symbols base.overrides h whole >>= λ w. Ok (at w h.known)) scope one.2 in
      let three = then_ok (add_symbols base.overrides two.0 whole) (λ w. Ok (at w two.0.known)) scope two.2 in
      sym (ap has_double (names_of_scope scope is))
      ∙ sym (ap (λ (s : Scope). has_double s.names) (same_value (at three.0 two.0.known) scope three.2))
      ∙ added_once base.overrides two.0 three.0 whole three.1 (added_once base.overrides one.0 two.0 head two.1 (added_once base.overrides (first_scope base m) one.0 valueless one.1 once))

  module _ (fault : ElabFault) (rule : fault.rule ≡ Doubled) where
    third : (two : Scope) → two.names ≡ (letters_of (declared_names m) ++ letters_in valueless) ++ letters_in head →
        (add_symbols base.overrides two whole ≡ Err fault) ⊎ ((w : Scope) × (add_symbols base.overrides two whole ≡ Ok w) × (Ok (at w two.known) ≡ Err fault)) → has_double grouped ≡ true
    third two names (inl err) = sym (ap (λ (l : List Text). has_double (l ++ letters_in whole)) names) ∙ added_twice base.overrides fault rule two whole err
    third two names (inr (w, ok, err)) = absurd cc

    second : (one : Scope) → one.names ≡ letters_of (declared_names m) ++ letters_in valueless →
        (add_symbols base.overrides one head ≡ Err fault) ⊎ ((h : Scope) × (add_symbols base.overrides one head ≡ Ok h) × ((add_symbols base.overrides h whole >>= λ w. Ok (at w h.known)) ≡ Err fault)) →
        has_double grouped ≡ true
    second one names (inl err) =
        twice_among ((letters_of (declared_names m) ++ letters_in valueless) ++ letters_in head) (letters_in whole)
        (sym (ap (λ (l : List Text). has_double (l ++ letters_in head)) names) ∙ added_twice base.overrides fault rule one head err)
    second one names (inr (h, ok, err)) =
        third h (names_added base.overrides one h head ok ∙ ap (λ (l : List Text). l ++ letters_in head) names)
        (then_err (add_symbols base.overrides h whole) (λ w. Ok (at w h.known)) fault err)

    first : (add_symbols base.overrides (first_scope base m) valueless ≡ Err fault)
        ⊎ ((one : Scope) × (add_symbols base.overrides (first_scope base m) valueless ≡ Ok one) × ((add_symbols base.overrides one head >>= λ h. add_symbols base.overrides h whole >>= λ w. Ok (at w h.known)) ≡ Err fault)) →
        has_double grouped ≡ true
    first (inl err) =
        twice_among ((letters_of (declared_names m) ++ letters_in valueless) ++ letters_in head) (letters_in whole)
        (twice_among (letters_of (declared_names m) ++ letters_in valueless) (letters_in head) (added_twice base.overrides fault rule (first_scope base m) valueless err))
    first (inr (one, ok, err)) =
        second one (names_added base.overrides (first_scope base m) one valueless ok)
        (then_err (add_symbols base.overrides one head) (λ h. add_symbols base.overrides h whole >>= λ w. Ok (at w h.known)) fault err)

    scope_twice : item_scope base m ≡ Err fault → has_double (names_in_module m) ≡ true
    scope_twice is = sym (ap has_double in_groups) ∙ first (then_err (add_symbols base.overrides (first_scope base m) valueless)
        (λ s. add_symbols base.overrides s head >>= λ h. add_symbols base.overrides h whole >>= λ w. Ok (at w h.known)) fault is)

module _ (part : PartialDesign) (context : Context) where
  abbrev counted : Result Scope ElabFault
  counted = answer_if (has_room part context) TooMany (Some context.name) (item_scope (base_of part context) context.unit)

  abbrev few : Bool
  few = nat_le (length part.variables + length (declared_names context.unit)) 1024

  pub names_once : (scope : Scope) → lower_names part context ≡ Ok scope → has_double (names_in_module context.unit) ≡ false
  names_once scope is =
      let again = barring_ok (first_again (declared_names context.unit)) Doubled (answer_if few TooMany (Some context.name) counted) scope is in
      let inner = provided_ok (has_room part context) TooMany (Some context.name) (item_scope (base_of part context) context.unit) scope (provided_ok few TooMany (Some context.name) counted scope again.1).1 in
      scope_once (base_of part context) context.unit scope inner.1 (none_twice (declared_names context.unit) again.0)

  module _ (fault : ElabFault) (rule : fault.rule ≡ Doubled) where
    in_counted : ((has_room part context ≡ false) × (fault.rule ≡ TooMany)) ⊎ ((has_room part context ≡ true) × (item_scope (base_of part context) context.unit ≡ Err fault)) →
        has_double (names_in_module context.unit) ≡ true
    in_counted (inl (many, other)) = absurd cc
    in_counted (inr (ok, err)) = scope_twice (base_of part context) context.unit fault rule err

    in_few : ((few ≡ false) × (fault.rule ≡ TooMany)) ⊎ ((few ≡ true) × (counted ≡ Err fault)) → has_double (names_in_module context.unit) ≡ true
    in_few (inl (many, other)) = absurd cc
    in_few (inr (ok, err)) = in_counted (provided_err (has_room part context) TooMany (Some context.name) (item_scope (base_of part context) context.unit) fault err)

    in_variables : ((w : Word) × (first_again (declared_names context.unit) ≡ Some w) × (fault.rule ≡ Doubled)) ⊎ ((first_again (declared_names context.unit) ≡ None) × (answer_if few TooMany (Some context.name) counted ≡ Err fault)) →
        has_double (names_in_module context.unit) ≡ true
    in_variables (inl (w, again, same)) = twice_among (letters_of (declared_names context.unit)) (letters_of (other_names context.unit)) (one_twice (declared_names context.unit) w again)
    in_variables (inr (none, err)) = in_few (provided_err few TooMany (Some context.name) counted fault err)

    pub names_twice : lower_names part context ≡ Err fault → has_double (names_in_module context.unit) ≡ true
    names_twice is = in_variables (barring_err (first_again (declared_names context.unit)) Doubled (answer_if few TooMany (Some context.name) counted) fault is)

-- ---- heads of modules

head_once : (child : ModuleTree) → named_again child ≡ None → has_head_twice child ≡ false
head_once child = by (first_again (open_names child)) refl
  where
    by : (o : Option Word) → first_again (open_names child) ≡ o → option_or o (first_again (port_names child)) ≡ None → has_head_twice child ≡ false
    by None e is = (λ i. none_twice (open_names child) e i || none_twice (port_names child) is i)
    by (Some w) e is = absurd cc

head_again : (child : ModuleTree) (w : Word) → named_again child ≡ Some w → has_head_twice child ≡ true
head_again child w = by (first_again (open_names child)) refl
  where
    last : (a b : Bool) → b ≡ true → (a || b) ≡ true
    last true b e = refl
    last false b e = e

    by : (o : Option Word) → first_again (open_names child) ≡ o → option_or o (first_again (port_names child)) ≡ Some w → has_head_twice child ≡ true
    by None e is = last (has_double (letters_of (open_names child))) (has_double (letters_of (port_names child))) (one_twice (port_names child) w is)
    by (Some x) e is = ap (λ (b : Bool). b || has_double (letters_of (port_names child))) (one_twice (open_names child) x e)

module _ (modules : SourceTree) where
  of_once : (name : Word) (before known : ℕ) (found : Option ModuleTree) (overrides : Option ConnectionsTree) (list : List InstanceTree) (children : List Instantiation) (child : ModuleTree) →
      lower_instances_of name before known found overrides list ≡ Ok children → found ≡ Some child → has_head_twice child ≡ false
  of_once name before known None overrides list children child is there = absurd cc
  of_once name before known (Some m) overrides list children child is there =
      let same : m ≡ child = cc in
      sym (ap has_head_twice same)
      ∙ head_once m (barring_ok (named_again m) Doubled (lower_list m known overrides list) children (provided_ok (nat_le (before + length list) 1024) TooMany (Some name) _ children is).1).0

  pub heads_once : (before known : ℕ) (items : List ItemTree) (children : List Instantiation) (name : Word) (overrides : Option ConnectionsTree) (list : List InstanceTree) (child : ModuleTree) →
      lower_instances modules before known items ≡ Ok children → Contains items (instances name overrides list) → module_of modules name.letters ≡ Some child → has_head_twice child ≡ false
  heads_once before known items children name overrides list child is inside there =
      let it = item_answered modules before known items children name overrides list is inside in
      of_once name it.before it.known (module_of modules name.letters) overrides list it.children child it.is there

  -- an item that has instances of a module with a head in which a name stands twice
  pub record HeadTwice (items : List ItemTree) : Type 0 where
    pub name : Word
    pub overrides : Option ConnectionsTree
    pub list : List InstanceTree
    pub child : ModuleTree
    pub inside : Contains items (instances name overrides list)
    pub there : module_of modules name.letters ≡ Some child
    pub twice : has_head_twice child ≡ true

  module _ (fault : ElabFault) (rule : fault.rule ≡ Doubled) where
    of_twice : (name : Word) (before known : ℕ) (found : Option ModuleTree) (overrides : Option ConnectionsTree) (list : List InstanceTree) →
        lower_instances_of name before known found overrides list ≡ Err fault → (child : ModuleTree) × (found ≡ Some child) × (has_head_twice child ≡ true)
    of_twice name before known None overrides list is = let same : fault_at Top (Some name) ≡ fault = cc in absurd (let other : Top ≡ fault.rule = ap (λ (f : ElabFault). f.rule) same in cc)
    of_twice name before known (Some m) overrides list is =
        (m, refl, counted_again (provided_err (nat_le (before + length list) 1024) TooMany (Some name) (unless_word (named_again m) Doubled (lower_list m known overrides list)) fault is))
      where
        again : ((w : Word) × (named_again m ≡ Some w) × (fault.rule ≡ Doubled)) ⊎ ((named_again m ≡ None) × (lower_list m known overrides list ≡ Err fault)) → has_head_twice m ≡ true
        again (inl (w, is, same)) = head_again m w is
        again (inr (none, err)) = absurd (untold is_of_connections (lower_list m known overrides list) fault Doubled (list_tells m known overrides list) refl err rule)

        counted_again : ((nat_le (before + length list) 1024 ≡ false) × (fault.rule ≡ TooMany)) ⊎ ((nat_le (before + length list) 1024 ≡ true) × (unless_word (named_again m) Doubled (lower_list m known overrides list) ≡ Err fault)) →
            has_head_twice m ≡ true
        counted_again (inl (many, other)) = absurd cc
        counted_again (inr (holds, err)) = again (barring_err (named_again m) Doubled (lower_list m known overrides list) fault err)

    pub heads_twice : (before known : ℕ) (items : List ItemTree) → lower_instances modules before known items ≡ Err fault → HeadTwice items
    heads_twice before known items is =
        let it = item_told modules fault before known items is in
        let h = of_twice it.name it.before it.known (module_of modules it.name.letters) it.overrides it.list it.is in
        record { name = it.name; overrides = it.overrides; list = it.list; child = h.0; inside = it.inside; there = h.1; twice = h.2 }
