-- The variables that an instance adds to a design: they have the sizes and the bounds that they are declared with.
use Rattle.std.proofs.Common.{◌≡◌, ℕ, Bool, true, List, [], ◌∷◌, ◌++◌, map, slice_get, unwrap_or, option_and_then, Option, None, Some, Result, Ok, Err, refl, sym, ap, ◌∙◌, not}
use Rattle.std.specs.List.{flat_map}
use Rattle.std.proofs.lemmas.List.{map-append}
use Rattle.vbits.specs.declared.bit4.Bit4.TheVariants.{X}
use Rattle.vbits.specs.Vectors.{Vector, filled}
use Rattle.vwords.specs.Words.{Text}
use Rattle.vast.specs.NumberedModules.{RangeTree, DeclarationKind, variables, integers, directed, DeclaredTree, ItemTree, parameters, declaration, events, assignments, initial, always, instances}
use Rattle.vdesign.specs.Design.{Variable}
use Rattle.vdesign.specs.declared.design.Kind.{Kind}
use Rattle.vdesign.specs.declared.expression.Bounds.{Bounds}
use Rattle.vvalue.specs.Value.{value_at, bounds_of, whole_bounds}
use Rattle.vast.specs.declared.module.NetKind.TheVariants as net
use Rattle.vmodules.specs.Ports.{Port, type_in}
use Rattle.velab_expr.specs.declared.fault.ElabFault.{ElabFault}
use Rattle.velab_expr.specs.Answers.{◌>>=◌}
use Rattle.velab_expr.specs.Scopes.{Scope}
use Rattle.velab_expr.specs.Constants.{nothing}
use Rattle.velab_expr.specs.Ranges.{lower_bounds}
use Rattle.velab_expr.specs.Symbols.{behind_item}
use Rattle.velab_declaration.specs.ActionFlaws.{blank, blank_environment}
use Rattle.velab_declaration.specs.Variables.{Declaration, all_declared, kind_of, declared_as, declarations_of, port_declaration, form_of, port_form, variable_in, variables_in, variables_as, lower_again, lower_ports, lower_kind, lower_declaration, lower_variables, integer_kind}
use Rattle.elaboration_law.specs.Widths.{Worth, is_range}
use Rattle.elaboration_law.specs.Worths.{bounds_by, declared_worth}
use Rattle.elaboration_law.proofs.AgainLemmas.{again_keeps}
use Rattle.elaboration_law.proofs.PlaceLemmas.{got_mapped}
use Rattle.elaboration_law.proofs.SizeLemmas.{AreVectors}
use Rattle.elaboration_law.proofs.ExpressionWidths.{AreWorth, IsRange, bounds_sizes}

module _ (named : Text → Worth) (path : Text) where
  -- a variable as it is declared
  abbrev pub variable_by : Declaration → Variable
  variable_by d = variable_in path (record { kind = d.kind; signed = d.signed; bounds = bounds_by named d.range }) d.name.letters

  abbrev pub AreDeclared : List Declaration → Result (List Variable) ElabFault → Type 0
  AreDeclared list (Ok made) = made ≡ map variable_by list
  AreDeclared list (Err fault) = Unit {0}

  list_declared : (kind : Kind) (signed : Bool) (range : Option RangeTree) (bounds : Option Bounds) → bounds ≡ bounds_by named range → (list : List DeclaredTree) →
      variables_in path (record { kind = kind; signed = signed; bounds = bounds }) list ≡ map variable_by (all_declared kind signed range list)
  list_declared kind signed range bounds is [] = refl
  list_declared kind signed range bounds is (one ∷ more) =
      λ i. variable_in path (record { kind = kind; signed = signed; bounds = is i }) one.name.letters ∷ list_declared kind signed range bounds is more i

  pub both_declared : (xs ys : List Declaration) (a b : Result (List Variable) ElabFault) → AreDeclared xs a → AreDeclared ys b →
      AreDeclared (xs ++ ys) (a >>= λ front. b >>= λ others. Ok (front ++ others))
  both_declared xs ys (Ok front) (Ok others) e f = (λ i. e i ++ f i) ∙ sym (map-append variable_by xs ys)
  both_declared xs ys (Ok front) (Err fault) e f = tt
  both_declared xs ys (Err fault) b e f = tt

  module _ (vectors : AreVectors named) where
    pub ports_declared : (scope : Scope) → AreWorth true nothing scope named → (list : List Port) → AreDeclared (map port_declaration list) (lower_ports path scope list)
    ports_declared scope h [] = refl
    ports_declared scope h (p ∷ more) =
        by (lower_bounds scope p.type.range) (lower_ports path scope more) (bounds_sizes scope named vectors h p.type.range) (ports_declared scope h more)
      where
        whole : (bounds : Option Bounds) → bounds ≡ bounds_by named p.type.range → (w : Result (Option Bounds) ElabFault) → ((x : Option Bounds) → w ≡ Ok x → bounds ≡ x) →
            (b : Result (List Variable) ElabFault) → AreDeclared (map port_declaration more) b →
            AreDeclared (map port_declaration (p ∷ more))
            ((w >>= λ same. Ok (variable_in path (port_form p same) p.name.letters)) >>= λ one. b >>= λ others. Ok (one ∷ others))
        whole bounds is (Ok x) keeps (Ok others) e = λ i. variable_in path (port_form p ((sym (keeps x refl) ∙ is) i)) p.name.letters ∷ e i
        whole bounds is (Ok x) keeps (Err fault) e = tt
        whole bounds is (Err fault) keeps b e = tt

        by : (a : Result (Option Bounds) ElabFault) (b : Result (List Variable) ElabFault) → IsRange named p.type.range (is_range named p.type.range) a → AreDeclared (map port_declaration more) b →
            AreDeclared (map port_declaration (p ∷ more))
            ((a >>= λ bounds. lower_again scope p.again bounds >>= λ same. Ok (variable_in path (port_form p same) p.name.letters)) >>= λ one. b >>= λ others. Ok (one ∷ others))
        by (Ok bounds) b r e = whole bounds r.0 (lower_again scope p.again bounds) (again_keeps scope p.again bounds) b e
        by (Err fault) b r e = tt

    kind_declared : (scope : Scope) → AreWorth true nothing scope named → (kind : DeclarationKind) (list : List DeclaredTree) →
        AreDeclared (declared_as kind list) (lower_kind scope kind >>= λ form. Ok (variables_as path form kind list))
    kind_declared scope h (variables word type) list = by (lower_bounds scope type.range) (bounds_sizes scope named vectors h type.range)
      where
        by : (a : Result (Option Bounds) ElabFault) → IsRange named type.range (is_range named type.range) a →
            AreDeclared (declared_as (variables word type) list) ((a >>= λ bounds. Ok (form_of word type.signed bounds)) >>= λ form. Ok (variables_in path form list))
        by (Ok bounds) r = list_declared (kind_of word) type.signed type.range bounds r.0 list
        by (Err fault) r = tt
    kind_declared scope h (integers long) list = list_declared (integer_kind long) (not long) None None refl list
    kind_declared scope h (directed direction) list = by (lower_bounds scope (type_in direction).range)
      where
        by : (a : Result (Option Bounds) ElabFault) → AreDeclared [] ((a >>= λ bounds. Ok (form_of net.Wire (type_in direction).signed bounds)) >>= λ form. Ok (variables_as path form (directed direction) list))
        by (Ok bounds) = refl
        by (Err fault) = tt

    item_declared : (scope : Scope) → AreWorth true nothing scope named → (item : ItemTree) → AreDeclared (declarations_of item) (lower_declaration path scope item)
    item_declared scope h (parameters local type settings) = refl
    item_declared scope h (declaration kind list) = kind_declared scope h kind list
    item_declared scope h (events names) = refl
    item_declared scope h (assignments settings) = refl
    item_declared scope h (initial statement) = refl
    item_declared scope h (always statement) = refl
    item_declared scope h (instances name overrides list) = refl

    pub items_declared : (scope : Scope) → AreWorth true nothing scope named → (items : List ItemTree) → AreDeclared (flat_map declarations_of items) (lower_variables path scope items)
    items_declared scope h [] = refl
    items_declared scope h (item ∷ more) =
        both_declared (declarations_of item) (flat_map declarations_of more) (lower_declaration path scope item) (lower_variables path (behind_item scope item) more)
        (item_declared scope h item) (items_declared (behind_item scope item) (record { of_parameter = h.of_parameter; of_variable = h.of_variable }) more)

  -- ---- in a design

  module _ (all : List Variable) (number : ℕ) (d : Declaration) (is : slice_get all number ≡ Some (variable_by d)) where
    pub value_declared : value_at (blank_environment all) number ≡ (declared_worth named d).value
    value_declared = ap (λ (v : Option Vector). unwrap_or v (filled 1 X)) (got_mapped blank all number (variable_by d) is)

    pub bounds_declared : bounds_of (blank_environment all) number ≡ (declared_worth named d).bounds
    bounds_declared = λ i. unwrap_or (option_and_then (λ (v : Variable). v.bounds) (is i)) (whole_bounds (value_declared i))
