-- Sizes in what an instance declares: what its scope says that names are worth, and the ranges of its ports and its variables.
use Rattle.std.proofs.Common.{◌≡◌, ℕ, ◌+◌, nat_lt, Bool, true, false, if◌then◌else◌, List, [], ◌∷◌, ◌++◌, position, option_and_then, Option, None, Some, Result, Ok, Err, refl, sym, ap, map, ◌&&◌, subst, arith}
use Rattle.std.specs.List.{list_all, flat_map}
use Rattle.std.specs.Str.{bytes_eq}
use Rattle.std.proofs.lemmas.List.{length-map}
use Rattle.vwords.specs.Words.{Text}
use Rattle.vast.specs.NumberedWords.{Word}
use Rattle.vast.specs.NumberedModules.{RangeTree, DeclarationKind, variables, integers, directed, ItemTree, parameters, declaration, events, assignments, initial, always, instances, ModuleTree}
use Rattle.vdesign.specs.declared.expression.Bounds.{Bounds}
use Rattle.vmodules.specs.Ports.{Second, Port, type_in, own_item}
use Rattle.velab_expr.specs.declared.fault.ElabFault.{ElabFault}
use Rattle.velab_expr.specs.declared.scope.Meaning.{Meaning}
use Rattle.velab_expr.specs.declared.scope.Meaning.TheVariants.{Variable, Parameter, Event, Instance}
use Rattle.velab_expr.specs.declared.fault.Rule.TheVariants.{Width}
use Rattle.velab_expr.specs.Answers.{◌>>=◌, require}
use Rattle.velab_expr.specs.Scopes.{Scope, at, meaning_at, meaning_of}
use Rattle.velab_expr.specs.Constants.{nothing}
use Rattle.velab_expr.specs.Ranges.{lower_bounds}
use Rattle.velab_expr.specs.Symbols.{Symbol, symbols_in_head, symbols_by, valueless_by, behind_item}
use Rattle.velab_declaration.specs.Parameters.{Overrides, Base, add_symbol, add_symbols, first_scope, item_scope}
use Rattle.velab_declaration.specs.Variables.{declared_names, port_form, variable_in, same_bounds, lower_again, lower_port, lower_ports, lower_kind, lower_declaration, lower_variables}
use Rattle.elaboration_law.specs.Places.{symbols_of}
use Rattle.elaboration_law.specs.Widths.{Worth, is_range}
use Rattle.elaboration_law.specs.Worths.{nothing_known, worths_in, are_set_in, bounds_by, range_of_kind, is_again, is_port_ranged, is_item_ranged}
use Rattle.elaboration_law.proofs.AgainLemmas.{same_range}
use Rattle.elaboration_law.proofs.UseLemmas.{Judges, last_judges, then_judges, one_judges}
use Rattle.elaboration_law.proofs.SizeLemmas.{AreVectors, none_sized}
use Rattle.elaboration_law.proofs.ExpressionWidths.{is_width, AreWorth, IsRange, bounds_sizes}
use Rattle.elaboration_law.proofs.ParameterWidths.{IsWorth, AllAdded, symbols_sizes}

-- ---- the scope of an instance

abbrev IsNoParameter : Option Meaning → Type 0
IsNoParameter None = Unit {0}
IsNoParameter (Some (Variable number)) = Unit {0}
IsNoParameter (Some (Parameter value bounds before)) = ⊥
IsNoParameter (Some (Event number)) = Unit {0}
IsNoParameter (Some Instance) = Unit {0}

module _ (overrides : Overrides) (outside : Text → Worth) (outer_vectors : AreVectors outside) (outer_agrees : AreWorth true nothing overrides.scope outside) where
  -- whatever is known
  pub worth_at : (scope : Scope) (known : ℕ) (named : Text → Worth) → IsWorth overrides outside outer_vectors outer_agrees scope named → IsWorth overrides outside outer_vectors outer_agrees (at scope known) named
  worth_at scope known named h = record { whole = h.whole; vectors = h.vectors; agrees = record { of_parameter = h.agrees.of_parameter; of_variable = h.agrees.of_variable } }

  added_in_turn : (scope : Scope) (xs ys : List Symbol) → add_symbols overrides scope (xs ++ ys) ≡ (add_symbols overrides scope xs >>= λ s. add_symbols overrides s ys)
  added_in_turn scope [] ys = refl
  added_in_turn scope (x ∷ xs) ys = by (add_symbol overrides scope x) (λ s. added_in_turn s xs ys)
    where
      by : (a : Result Scope ElabFault) → ((s : Scope) → add_symbols overrides s (xs ++ ys) ≡ (add_symbols overrides s xs >>= λ t. add_symbols overrides t ys)) →
          (a >>= λ s. add_symbols overrides s (xs ++ ys)) ≡ ((a >>= λ s. add_symbols overrides s xs) >>= λ t. add_symbols overrides t ys)
      by (Ok s) rest = rest s
      by (Err fault) rest = refl

module _ (base : Base) (m : ModuleTree) (outside : Text → Worth) (outer_vectors : AreVectors outside) (outer_agrees : AreWorth true nothing base.overrides.scope outside) where
  abbrev IsWorthHere : Scope → (Text → Worth) → Type 0
  IsWorthHere scope named = IsWorth base.overrides outside outer_vectors outer_agrees scope named

  abbrev Added : (Text → Worth) → Bool → Result Scope ElabFault → Type 0
  Added named holds a = AllAdded base.overrides outside outer_vectors outer_agrees named holds a

  -- before any of them stands
  first_worth : IsWorthHere (first_scope base m) nothing_known
  first_worth = record {
    whole = let long = length-map (declared_names m) (λ (w : Word). w.letters) in omega (arith, long);
    vectors = λ letters. none_sized;
    agrees = record { of_parameter = λ name value bounds before is. absurd (none_there name value bounds before is); of_variable = λ name number no is. absurd cc };
  }
    where
      at_place : (k : ℕ) (value : _) (bounds : Option Bounds) (before : ℕ) → meaning_at (first_scope base m) k ≡ Some (Parameter value bounds before) → ⊥
      at_place k value bounds before is = by (nat_lt k (first_scope base m).variables) is
        where
          by : (b : Bool) → (if b then Some (Variable (base.first + k)) else None) ≡ Some (Parameter value bounds before) → ⊥
          by true e = subst IsNoParameter e tt
          by false e = absurd cc

      none_there : (name : Word) (value : _) (bounds : Option Bounds) (before : ℕ) → meaning_of (first_scope base m) name ≡ Some (Parameter value bounds before) → ⊥
      none_there name value bounds before is = by (position (bytes_eq name.letters) (first_scope base m).names) is
        where
          by : (place : Option ℕ) → option_and_then (meaning_at (first_scope base m)) place ≡ Some (Parameter value bounds before) → ⊥
          by None e = absurd cc
          by (Some k) e = at_place k value bounds before e

  -- parameters of its head and of its items
  pub scope_sizes : Added (worths_in outside base.overrides.values m) (are_set_in outside base.overrides.values m) (item_scope base m)
  scope_sizes =
      by (add_symbols base.overrides (first_scope base m) valueless) all
    where
      valueless : List Symbol
      valueless = flat_map valueless_by m.items

      head : List Symbol
      head = symbols_in_head m.parameters

      whole : List Symbol
      whole = flat_map symbols_by m.items

      named : Text → Worth
      named = worths_in outside base.overrides.values m

      holds : Bool
      holds = are_set_in outside base.overrides.values m

      all : Added named holds (add_symbols base.overrides (first_scope base m) valueless >>= λ s. add_symbols base.overrides s (head ++ whole))
      all = subst (Added named holds) (added_in_turn base.overrides outside outer_vectors outer_agrees (first_scope base m) valueless (head ++ whole))
          (symbols_sizes base.overrides outside outer_vectors outer_agrees (first_scope base m) nothing_known (symbols_of m) first_worth)

      last_one : (known : ℕ) (a : Result Scope ElabFault) → Added named holds a → Added named holds (a >>= λ w. Ok (at w known))
      last_one known (Ok w) h = (worth_at base.overrides outside outer_vectors outer_agrees w known named h.0, h.1)
      last_one known (Err fault) h = h

      then_head : (a : Result Scope ElabFault) → Added named holds (a >>= λ h. add_symbols base.overrides h whole) →
          Added named holds (a >>= λ h. add_symbols base.overrides h whole >>= λ w. Ok (at w h.known))
      then_head (Ok h) k = last_one h.known (add_symbols base.overrides h whole) k
      then_head (Err fault) k = k

      by : (a : Result Scope ElabFault) → Added named holds (a >>= λ s. add_symbols base.overrides s (head ++ whole)) →
          Added named holds (a >>= λ v. add_symbols base.overrides v head >>= λ h. add_symbols base.overrides h whole >>= λ w. Ok (at w h.known))
      by (Ok v) k = then_head (add_symbols base.overrides v head) (subst (Added named holds) (added_in_turn base.overrides outside outer_vectors outer_agrees v head whole) k)
      by (Err fault) k = k

-- ---- ranges of what it declares

module _ (named : Text → Worth) (vectors : AreVectors named) (path : Text) where
  range_judged : (scope : Scope) → AreWorth true nothing scope named → (range : Option RangeTree) → Judges is_width (is_range named range) (lower_bounds scope range)
  range_judged scope h range = by (lower_bounds scope range) (bounds_sizes scope named vectors h range)
    where
      by : (a : Result (Option Bounds) ElabFault) → IsRange named range (is_range named range) a → Judges is_width (is_range named range) a
      by (Ok bounds) k = k.1
      by (Err fault) k = k

  -- where the first of two holds, the second tells
  ranged_first : {A : Type 0} (b c : Bool) (a : Result A ElabFault) → b ≡ true → Judges is_width c a → Judges is_width (b && c) a
  ranged_first b c a is h = subst (λ (x : Bool). Judges is_width (x && c) a) (sym is) h

  same_judged : (holds : Bool) (word : Option Word) (bounds : Option Bounds) → Judges is_width holds (require holds Width word bounds)
  same_judged true word bounds = refl
  same_judged false word bounds = λ width. refl

  -- 12.3.3: a port that is declared again
  again_judged : (scope : Scope) → AreWorth true nothing scope named → (range : Option RangeTree) (again : Option Second) (bounds : Option Bounds) → bounds ≡ bounds_by named range →
      Judges is_width (is_again named range again) (lower_again scope again bounds)
  again_judged scope h range None bounds is = refl
  again_judged scope h range (Some second) bounds is = by (lower_bounds scope second.type.range) (bounds_sizes scope named vectors h second.type.range)
    where
      same : Bool
      same = same_bounds (bounds_by named range) (bounds_by named second.type.range)

      by : (a : Result (Option Bounds) ElabFault) → IsRange named second.type.range (is_range named second.type.range) a →
          Judges is_width (is_range named second.type.range && same) (a >>= λ other. require (same_bounds bounds other) Width (Some second.name) bounds)
      by (Ok other) k =
          ranged_first (is_range named second.type.range) same _ k.1
          (subst (λ (b : Bool). Judges is_width b (require (same_bounds bounds other) Width (Some second.name) bounds)) (λ i. same_bounds (is i) (k.0 i))
          (same_judged (same_bounds bounds other) (Some second.name) bounds))
      by (Err fault) k = λ width. ap (λ (b : Bool). b && same) (k width)

  port_judged : (scope : Scope) → AreWorth true nothing scope named → (p : Port) → Judges is_width (is_port_ranged named p) (lower_port path scope p)
  port_judged scope h p = by (lower_bounds scope p.type.range) (bounds_sizes scope named vectors h p.type.range)
    where
      by : (a : Result (Option Bounds) ElabFault) → IsRange named p.type.range (is_range named p.type.range) a →
          Judges is_width (is_port_ranged named p)
          (a >>= λ bounds. lower_again scope p.again bounds >>= λ whole. Ok (variable_in path (port_form p whole) p.name.letters))
      by (Ok bounds) k =
          ranged_first (is_range named p.type.range) (is_again named p.type.range p.again) _ k.1
          (last_judges is_width (is_again named p.type.range p.again) (lower_again scope p.again bounds) _ (again_judged scope h p.type.range p.again bounds k.0) (λ whole. refl))
      by (Err fault) k = λ width. ap (λ (b : Bool). b && is_again named p.type.range p.again) (k width)

  pub ports_judged : (scope : Scope) → AreWorth true nothing scope named → (list : List Port) → Judges is_width (list_all (is_port_ranged named) list) (lower_ports path scope list)
  ports_judged scope h [] = refl
  ports_judged scope h (p ∷ more) =
      then_judges is_width (is_port_ranged named) (p ∷ []) more (lower_port path scope p) _
      (one_judges is_width (is_port_ranged named) p (lower_port path scope p) (port_judged scope h p)) (λ one.
      last_judges is_width (list_all (is_port_ranged named) more) (lower_ports path scope more) _ (ports_judged scope h more) (λ others. refl))

  kind_judged : (scope : Scope) → AreWorth true nothing scope named → (kind : DeclarationKind) → Judges is_width (is_range named (range_of_kind kind)) (lower_kind scope kind)
  kind_judged scope h (variables word type) = last_judges is_width (is_range named type.range) (lower_bounds scope type.range) _ (range_judged scope h type.range) (λ bounds. refl)
  kind_judged scope h (integers long) = refl
  kind_judged scope h (directed direction) =
      last_judges is_width (is_range named (type_in direction).range) (lower_bounds scope (type_in direction).range) _ (range_judged scope h (type_in direction).range) (λ bounds. refl)

  item_judged : (scope : Scope) → AreWorth true nothing scope named → (item : ItemTree) → Judges is_width (is_item_ranged named item) (lower_declaration path scope item)
  item_judged scope h (parameters local type settings) = refl
  item_judged scope h (declaration kind list) = last_judges is_width (is_range named (range_of_kind kind)) (lower_kind scope kind) _ (kind_judged scope h kind) (λ form. refl)
  item_judged scope h (events names) = refl
  item_judged scope h (assignments settings) = refl
  item_judged scope h (initial statement) = refl
  item_judged scope h (always statement) = refl
  item_judged scope h (instances name overrides list) = refl

  pub items_judged : (is_port : Text → Bool) (scope : Scope) → AreWorth true nothing scope named → (items : List ItemTree) →
      Judges is_width (list_all (is_item_ranged named) items) (lower_variables path scope (map (own_item is_port) items))
  items_judged is_port scope h [] = refl
  items_judged is_port scope h (item ∷ more) =
      let own = own_item is_port item in
      let others = map (own_item is_port) more in
      then_judges is_width (is_item_ranged named) (item ∷ []) more (lower_declaration path scope own) _
      (one_judges is_width (is_item_ranged named) item (lower_declaration path scope own)
      (subst (λ (b : Bool). Judges is_width b (lower_declaration path scope own)) (same_range named is_port item) (item_judged scope h own))) (λ front.
      last_judges is_width (list_all (is_item_ranged named) more) (lower_variables path (behind_item scope own) others) _
      (items_judged is_port (behind_item scope own) (record { of_parameter = h.of_parameter; of_variable = h.of_variable }) more) (λ vs. refl))
