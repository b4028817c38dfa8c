-- What the names of an instance are worth in a design that has its variables: their sizes and their bounds are those that are meant.
use Rattle.std.proofs.Common.{◌≡◌, ◌<◌, ◌≤◌, ℕ, ◌+◌, ◌-◌, nat_lt, nat_le, Bool, true, false, not, cond, if◌then◌else◌, ◌&&◌, ◌||◌, List, [], ◌∷◌, ◌++◌, map, length, slice_get, Option, None, Some, refl, sym, ap, ◌∙◌, subst, arith}
use Rattle.std.specs.List.{list_all, list_any, flat_map, position_or_len}
use Rattle.std.specs.Str.{bytes_eq}
use Rattle.std.proofs.lemmas.Bool.{lt-ltb}
use Rattle.std.proofs.lemmas.Bool.Decides.{nat_tests}
use Rattle.std.proofs.lemmas.List.{map-append, length-replicate}
use Rattle.std.proofs.lemmas.List.Folds.{list_all-append}
use Rattle.basis.proofs.Bools.{and_left, and_right, and_both}
use Rattle.vbits.specs.declared.bit4.Bit4.TheVariants.{X}
use Rattle.vbits.specs.Vectors.{Vector, filled}
use Rattle.vwords.specs.Words.{Text}
use Rattle.vast.specs.NumberedWords.{Word}
use Rattle.vast.specs.NumberedModules.{RangeTree, variables, integers, directed, DeclaredTree, ItemTree, parameters, declaration, events, assignments, initial, always, instances, ModuleTree}
use Rattle.vdesign.specs.Design as design
use Rattle.vdesign.specs.declared.design.Kind.{Kind}
use Rattle.vdesign.specs.declared.design.Kind.TheVariants.{Reg, Integer, Wire, Time}
use Rattle.vdesign.specs.declared.expression.Bounds.{Bounds}
use Rattle.vvalue.specs.Value.{value_at, bounds_of}
use Rattle.vmodules.specs.Ports.{Port, plain_names, own_item, ports_of}
use Rattle.velab_expr.specs.declared.scope.Meaning.TheVariants.{Variable, Parameter}
use Rattle.velab_expr.specs.Scopes.{Scope, meaning_of, bounds_for}
use Rattle.velab_expr.specs.Constants.{nothing}
use Rattle.velab_expr.specs.Ranges.{span}
use Rattle.velab_declaration.specs.ActionFlaws.{blank_environment}
use Rattle.velab_declaration.specs.Variables.{Declaration, all_declared, kind_of, declarations_of, declarations, port_declaration, port_names, length_of, integer_kind}
use Rattle.elaboration_law.specs.Places.{variables_of}
use Rattle.elaboration_law.specs.Doubles.{other_names}
use Rattle.vmodules.specs.Names.{is_declared, letters_of}
use Rattle.elaboration_law.specs.Widths.{Worth, selected_by, is_bound, is_range}
use Rattle.elaboration_law.specs.Worths.{bounds_by, is_again, is_port_ranged, is_item_ranged, are_ranged, declared_worth}
use Rattle.elaboration_law.specs.WrongWidths.{with_variables}
use Rattle.elaboration_law.proofs.ConstantUses.{within}
use Rattle.elaboration_law.proofs.PlaceLemmas.{got_behind, IsOf}
use Rattle.elaboration_law.proofs.SizeLemmas.{IsSize, AreVectors}
use Rattle.elaboration_law.proofs.ExpressionWidths.{is_within, AreWorth}
use Rattle.elaboration_law.proofs.ParameterWidths.{vectors_behind, place_in_front, place_behind, looked_up, looked_in_vain}
use Rattle.elaboration_law.proofs.AgainLemmas.{same_range}
use Rattle.elaboration_law.proofs.VariableWidths.{variable_by, value_declared, bounds_declared}

abbrev pub all_in : ModuleTree → List Declaration
all_in m = map port_declaration (ports_of m) ++ declarations m

abbrev names : List Declaration → List Text
names list = map (λ (d : Declaration). d.name.letters) list

-- ---- the names of a module's variables

ports_named : (list : List Port) → letters_of (map (λ (p : Port). p.name) list) ≡ names (map port_declaration list)
ports_named [] = refl
ports_named (p ∷ more) = ap (λ (l : List Text). p.name.letters ∷ l) (ports_named more)

others_named : (list : List Declaration) → letters_of (map (λ (d : Declaration). d.name) list) ≡ names list
others_named [] = refl
others_named (d ∷ more) = ap (λ (l : List Text). d.name.letters ∷ l) (others_named more)

all_named : (m : ModuleTree) → variables_of m ≡ names (all_in m)
all_named m =
    map-append (λ (w : Word). w.letters) (port_names m) (map (λ (d : Declaration). d.name) (declarations m))
    ∙ (λ i. ports_named (ports_of m) i ++ others_named (declarations m) i)
    ∙ sym (map-append (λ (d : Declaration). d.name.letters) (map port_declaration (ports_of m)) (declarations m))

-- ---- what a name is worth

module _ (constants : Text → Worth) (letters : Text) where
  record IsFirst (list : List Declaration) : Type 0 where
    d : Declaration
    at : slice_get list (position_or_len (bytes_eq letters) (names list)) ≡ Some d
    worth : with_variables constants list letters ≡ declared_worth constants d

  found_first : (list : List Declaration) → list_any (bytes_eq letters) (names list) ≡ true → IsFirst list
  found_first [] e = absurd cc
  found_first (x ∷ more) e = by (bytes_eq letters x.name.letters) refl (found_first more) e
    where
      by : (b : Bool) → bytes_eq letters x.name.letters ≡ b → (list_any (bytes_eq letters) (names more) ≡ true → IsFirst more) → (b || list_any (bytes_eq letters) (names more)) ≡ true → IsFirst (x ∷ more)
      by true is rest e = record {
        d = x;
        at = ap (λ (b : Bool). slice_get (x ∷ more) (cond (not b) (1 + position_or_len (bytes_eq letters) (names more)) 0)) is;
        worth = ap (λ (b : Bool). if b then declared_worth constants x else with_variables constants more letters) is;
      }
      by false is rest e =
          let it = rest e in
          record {
            d = it.d;
            at = ap (λ (b : Bool). slice_get (x ∷ more) (cond (not b) (1 + position_or_len (bytes_eq letters) (names more)) 0)) is
                ∙ got_behind (x ∷ []) more (position_or_len (bytes_eq letters) (names more)) (1 + position_or_len (bytes_eq letters) (names more)) (omega arith) ∙ it.at;
            worth = ap (λ (b : Bool). if b then declared_worth constants x else with_variables constants more letters) is ∙ it.worth;
          }

  not_found : (list : List Declaration) → list_any (bytes_eq letters) (names list) ≡ false → with_variables constants list letters ≡ constants letters
  not_found [] e = refl
  not_found (x ∷ more) e = by (bytes_eq letters x.name.letters) refl (not_found more) e
    where
      by : (b : Bool) → bytes_eq letters x.name.letters ≡ b → (list_any (bytes_eq letters) (names more) ≡ false → with_variables constants more letters ≡ constants letters) →
          (b || list_any (bytes_eq letters) (names more)) ≡ false → with_variables constants (x ∷ more) letters ≡ constants letters
      by true is rest e = absurd cc
      by false is rest e = ap (λ (b : Bool). if b then declared_worth constants x else with_variables constants more letters) is ∙ rest e

-- ---- each has 1 to 64 bits

module _ (constants : Text → Worth) where
  narrow : (range : RangeTree) → is_range constants (Some range) ≡ true → span (selected_by constants range.left range.right) ≤ 64
  narrow range e =
      let few = nat_le (span (selected_by constants range.left range.right)) 64 in
      is_within (span (selected_by constants range.left range.right))
      (and_right (is_bound constants range.right) few (and_right (is_bound constants range.left) (is_bound constants range.right && few) e))

  length_sized : (kind : Kind) (range : Option RangeTree) → is_range constants range ≡ true → IsSize (length_of kind (bounds_by constants range))
  length_sized Reg (Some range) e = record { some = omega arith; few = narrow range e }
  length_sized Integer (Some range) e = record { some = omega arith; few = narrow range e }
  length_sized Time (Some range) e = record { some = omega arith; few = narrow range e }
  length_sized Wire (Some range) e = record { some = omega arith; few = narrow range e }
  length_sized Reg None e = record { some = omega arith; few = omega arith }
  length_sized Integer None e = record { some = omega arith; few = omega arith }
  length_sized Time None e = record { some = omega arith; few = omega arith }
  length_sized Wire None e = record { some = omega arith; few = omega arith }

  declared_sized : (d : Declaration) → is_range constants d.range ≡ true → IsSize (length (declared_worth constants d).value.letters)
  unfolding filled
  declared_sized d e = subst IsSize (sym (length-replicate (length_of d.kind (bounds_by constants d.range)) X)) (length_sized d.kind d.range e)

  abbrev ranged : List Declaration → Bool
  ranged list = list_all (λ (d : Declaration). is_range constants d.range) list

  variables_sized : (list : List Declaration) → ranged list ≡ true → AreVectors constants → AreVectors (with_variables constants list)
  variables_sized [] e v = v
  variables_sized (d ∷ more) e v =
      vectors_behind (with_variables constants more) d.name.letters (declared_worth constants d) (variables_sized more (and_right (is_range constants d.range) (ranged more) e) v)
      (declared_sized d (and_left (is_range constants d.range) (ranged more) e))

  ports_ranged : (list : List Port) → list_all (is_port_ranged constants) list ≡ true → ranged (map port_declaration list) ≡ true
  ports_ranged [] e = refl
  ports_ranged (p ∷ more) e =
      let one = is_port_ranged constants p in
      let others = list_all (is_port_ranged constants) more in
      and_both (is_range constants p.type.range) (ranged (map port_declaration more))
      (and_left (is_range constants p.type.range) (is_again constants p.type.range p.again) (and_left one others e)) (ports_ranged more (and_right one others e))

  names_ranged : (kind : Kind) (signed : Bool) (range : Option RangeTree) (list : List DeclaredTree) → is_range constants range ≡ true → ranged (all_declared kind signed range list) ≡ true
  names_ranged kind signed range [] e = refl
  names_ranged kind signed range (one ∷ more) e = and_both (is_range constants range) (ranged (all_declared kind signed range more)) e (names_ranged kind signed range more e)

  item_ranged : (item : ItemTree) → is_item_ranged constants item ≡ true → ranged (declarations_of item) ≡ true
  item_ranged (parameters local type settings) e = refl
  item_ranged (declaration (variables word type) list) e = names_ranged (kind_of word) type.signed type.range list e
  item_ranged (declaration (integers long) list) e = names_ranged (integer_kind long) (not long) None list refl
  item_ranged (declaration (directed direction) list) e = refl
  item_ranged (events list) e = refl
  item_ranged (assignments settings) e = refl
  item_ranged (initial statement) e = refl
  item_ranged (always statement) e = refl
  item_ranged (instances name overrides list) e = refl

  items_ranged : (is_port : Text → Bool) (items : List ItemTree) → list_all (is_item_ranged constants) items ≡ true → ranged (flat_map declarations_of (map (own_item is_port) items)) ≡ true
  items_ranged is_port [] e = refl
  items_ranged is_port (item ∷ more) e =
      let one = is_item_ranged constants item in
      let others = list_all (is_item_ranged constants) more in
      let own = own_item is_port item in
      let rest = flat_map declarations_of (map (own_item is_port) more) in
      list_all-append (λ (d : Declaration). is_range constants d.range) (declarations_of own) rest
      ∙ and_both (ranged (declarations_of own)) (ranged rest) (item_ranged own (same_range constants is_port item ∙ and_left one others e)) (items_ranged is_port more (and_right one others e))

  pub names_sized : (m : ModuleTree) → are_ranged constants m ≡ true → AreVectors constants → AreVectors (with_variables constants (all_in m))
  names_sized m e v =
      let ports = list_all (is_port_ranged constants) (ports_of m) in
      let items = list_all (is_item_ranged constants) m.items in
      variables_sized (all_in m)
      (list_all-append (λ (d : Declaration). is_range constants d.range) (map port_declaration (ports_of m)) (declarations m)
      ∙ and_both (ranged (map port_declaration (ports_of m))) (ranged (declarations m)) (ports_ranged (ports_of m) (and_left ports items e)) (items_ranged (is_declared (letters_of (plain_names m.ports))) m.items (and_right ports items e))) v

-- ---- where a design has these variables

module _ (constants : Text → Worth) (path : Text) (m : ModuleTree) (scope : Scope) (agrees : AreWorth true nothing scope constants) (of : IsOf m scope)
    (all : List design.Variable) (made : (k : ℕ) (d : Declaration) → slice_get (all_in m) k ≡ Some d → slice_get all (scope.first + k) ≡ Some (variable_by constants path d)) where
  abbrev named : Text → Worth
  named = with_variables constants (all_in m)

  abbrev others : List Text
  others = letters_of (other_names m)

  module _ (name : Word) where
    abbrev place : ℕ
    place = position_or_len (bytes_eq name.letters) (variables_of m)

    is_variable : list_any (bytes_eq name.letters) (variables_of m) ≡ true → meaning_of scope name ≡ Some (Variable (scope.first + place))
    is_variable any =
        let early = within (bytes_eq name.letters) (variables_of m) others any in
        let at = ap (position_or_len (bytes_eq name.letters)) of.names ∙ place_in_front (bytes_eq name.letters) (variables_of m) others any in
        let count = of.variables in
        let whole = of.whole in
        let here : place < length (variables_of m) = subst (λ (n : ℕ). n < length (variables_of m)) (place_in_front (bytes_eq name.letters) (variables_of m) others any) early in
        looked_up scope name place at (omega (arith, here, count, whole))
        ∙ ap (λ (b : Bool). if b then Some (Variable (scope.first + place)) else slice_get scope.others (place - scope.variables)) (lt-ltb place scope.variables (omega (arith, here, count)))

    abbrev later : ℕ
    later = length (variables_of m) + position_or_len (bytes_eq name.letters) others

    -- it is none of them
    is_another : list_any (bytes_eq name.letters) (variables_of m) ≡ false → (number : ℕ) → meaning_of scope name ≡ Some (Variable number) → ⊥
    is_another none number is = by (nat_lt later (length scope.names)) refl
      where
        at : position_or_len (bytes_eq name.letters) scope.names ≡ later
        at = ap (position_or_len (bytes_eq name.letters)) of.names ∙ place_behind (bytes_eq name.letters) (variables_of m) others none

        by : (b : Bool) → nat_lt later (length scope.names) ≡ b → ⊥
        by true e =
            let count = of.variables in
            let late : nat_lt later scope.variables ≡ false = grind (arith, nat_tests) in
            let early : later < length scope.names = grind (arith, nat_tests) in
            let it : slice_get scope.others (later - scope.variables) ≡ Some (Variable number) =
            sym (ap (λ (b : Bool). if b then Some (Variable (scope.first + later)) else slice_get scope.others (later - scope.variables)) late)
            ∙ sym (looked_up scope name later at early) ∙ is in
            of.others (later - scope.variables) (Variable number) it
        by false e =
            let behind : length scope.names ≤ later = grind (arith, nat_tests) in
            absurd (let no = sym (looked_in_vain scope name later at behind) ∙ is in cc)

    variable_worth : (number : ℕ) → meaning_of scope name ≡ Some (Variable number) →
        (length (value_at (blank_environment all) number).letters ≡ length (named name.letters).value.letters) × (bounds_of (blank_environment all) number ≡ (named name.letters).bounds)
    variable_worth number is = by (list_any (bytes_eq name.letters) (variables_of m)) refl
      where
        by : (b : Bool) → list_any (bytes_eq name.letters) (variables_of m) ≡ b →
            (length (value_at (blank_environment all) number).letters ≡ length (named name.letters).value.letters) × (bounds_of (blank_environment all) number ≡ (named name.letters).bounds)
        by true any =
            let first = found_first constants name.letters (all_in m) (sym (ap (list_any (bytes_eq name.letters)) (all_named m)) ∙ any) in
            let there : slice_get (all_in m) place ≡ Some first.d = ap (λ (l : List Text). slice_get (all_in m) (position_or_len (bytes_eq name.letters) l)) (all_named m) ∙ first.at in
            let it : Some (Variable (scope.first + place)) ≡ Some (Variable number) = sym (is_variable any) ∙ is in
            let same : scope.first + place ≡ number = cc in
            let found = ap (slice_get all) (sym same) ∙ made place first.d there in (
              ap (λ (v : Vector). length v.letters) (value_declared constants path all number first.d found ∙ sym (ap (λ (w : Worth). w.value) first.worth)),
              bounds_declared constants path all number first.d found ∙ sym (ap (λ (w : Worth). w.bounds) first.worth),
            )
        by false none = absurd (is_another none number is)

    parameter_worth : (value : Vector) (bounds : Option Bounds) (before : ℕ) → meaning_of scope name ≡ Some (Parameter value bounds before) →
        named name.letters ≡ record { value = value; bounds = bounds_for value bounds }
    parameter_worth value bounds before is = by (list_any (bytes_eq name.letters) (variables_of m)) refl
      where
        by : (b : Bool) → list_any (bytes_eq name.letters) (variables_of m) ≡ b → named name.letters ≡ record { value = value; bounds = bounds_for value bounds }
        by true any = absurd (let no = sym (is_variable any) ∙ is in cc)
        by false none =
            not_found constants name.letters (all_in m) (sym (ap (list_any (bytes_eq name.letters)) (all_named m)) ∙ none)
            ∙ agrees.of_parameter name value bounds before is

  pub worth_here : AreWorth false (blank_environment all) scope named
  worth_here = record {
    of_parameter = λ name value bounds before is. parameter_worth name value bounds before is;
    of_variable = λ name number fixed is. variable_worth name number is;
  }
