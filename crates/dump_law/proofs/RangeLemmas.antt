-- The variables of an instance have at most 64 bits, and small bounds.
use Rattle.std.proofs.Common.{◌≡◌, ◌≤◌, ℕ, nat_le, Bool, true, false, if◌then◌else◌, List, [], ◌∷◌, ◌++◌, All, Option, Some, None, Result, Ok, refl, subst, arith, not}
use Rattle.std.specs.Prelude.{option_and_then}
use Rattle.std.specs.List.{slice_index_or}
use Rattle.std.proofs.lemmas.List.Elements.{All-nil, All-cons, All-append, All-map}
use Rattle.vwords.specs.Words.{Text}
use Rattle.vast.specs.NumberedExpressions as text
use Rattle.vast.specs.NumberedModules.{RangeTree, DeclarationKind, variables, integers, directed, DeclaredTree, ItemTree, parameters, declaration, events, assignments, initial, always, instances}
use Rattle.vbits.specs.Numbers as numbers
use Rattle.vdesign.specs.Design.{Variable}
use Rattle.vdesign.specs.declared.design.Kind.{Kind}
use Rattle.vdesign.specs.declared.design.Kind.TheVariants.{Reg, Integer, Wire, Time}
use Rattle.vdesign.specs.declared.expression.Bounds.{Bounds}
use Rattle.vexpr_parse.proofs.Turning.{le_so}
use Rattle.vast.specs.declared.module.NetKind.TheVariants as net
use Rattle.vmodules.specs.Ports.{Port, type_in}
use Rattle.velab_expr.specs.declared.fault.ElabFault.{ElabFault}
use Rattle.velab_expr.specs.declared.fault.Rule.TheVariants.{Width}
use Rattle.velab_expr.specs.Answers.{◌>>=◌, value_or_fault}
use Rattle.velab_expr.specs.Constants.{is_negative, bound_in}
use Rattle.velab_expr.specs.FirstWords.{first_in}
use Rattle.velab_expr.specs.Ranges.{span, lower_bound, check_range_size, lower_range, lower_bounds}
use Rattle.velab_expr.specs.Resolved.{lower_value}
use Rattle.velab_expr.specs.Scopes.{Scope}
use Rattle.velab_expr.specs.Symbols.{behind_item}
use Rattle.velab_declaration.specs.declared.variable.Form.{Form}
use Rattle.velab_declaration.specs.Variables.{length_of, variable_in, form_of, port_form, lower_kind, variables_in, variables_as, lower_declaration, lower_variables, lower_again, lower_port, lower_ports, integer_kind}
use Rattle.elaboration_law.proofs.StepLemmas.{same_value, then_ok, required_ok, found_ok}
use Rattle.elaboration_law.proofs.AgainLemmas.{again_keeps}
use Rattle.dump_law.specs.Small.{AreSmallBounds, IsSmallVariable}

-- ---- ranges (4.3.1)

abbrev known_bound : ℕ → Option ℕ
known_bound n = if nat_le n 65535 then Some n else None

known_small : (b : Bool) (m n : ℕ) → nat_le m 65535 ≡ b → (if b then Some m else None) ≡ Some n → n ≤ 65535
known_small true m n few is = let same : m ≡ n = cc in let le = le_so m 65535 few in omega (arith, same, le)
known_small false m n few is = absurd cc

some_small : (value : Option ℕ) (n : ℕ) → option_and_then known_bound value ≡ Some n → n ≤ 65535
some_small None n is = absurd cc
some_small (Some m) n is = known_small (nat_le m 65535) m n refl is

positive_small : (b : Bool) (value : Option ℕ) (n : ℕ) → (if b then None else option_and_then known_bound value) ≡ Some n → n ≤ 65535
positive_small true value n is = absurd cc
positive_small false value n is = some_small value n is

bound_small : (scope : Scope) (tree : text.ExpressionTree) (n : ℕ) → lower_bound scope tree ≡ Ok n → n ≤ 65535
bound_small scope tree n is =
    let value = then_ok (lower_value scope tree) (λ value. value_or_fault (bound_in value) Width (first_in tree)) n is in
    positive_small (is_negative value.0) (numbers.number value.0.letters) n (found_ok (bound_in value.0) Width (first_in tree) n value.2)

-- where there is a range it has at most 64 bits, from one small bound to another
abbrev IsRanged : Option Bounds → Type 0
IsRanged None = Unit {0}
IsRanged (Some bounds) = (span bounds ≤ 64) × (bounds.left ≤ 65535) × (bounds.right ≤ 65535)

range_small : (scope : Scope) (range : RangeTree) (bounds : Bounds) → lower_range scope range ≡ Ok bounds → IsRanged (Some bounds)
range_small scope range bounds is =
    let left = then_ok (lower_bound scope range.left)
    (λ left. lower_bound scope range.right >>= λ right. check_range_size (first_in range.left) (record { left = left; right = right })) bounds is in
    let right = then_ok (lower_bound scope range.right) (λ right. check_range_size (first_in range.left) (record { left = left.0; right = right })) bounds left.2 in
    let both : Bounds = record { left = left.0; right = right.0 } in
    let whole = required_ok (nat_le (span both) 64) Width (first_in range.left) both bounds right.2 in
    let ranged : IsRanged (Some both) = (le_so (span both) 64 whole.0, bound_small scope range.left left.0 left.1, bound_small scope range.right right.0 right.1) in
    subst (λ (b : Bounds). IsRanged (Some b)) whole.1 ranged

bounds_small : (scope : Scope) (range : Option RangeTree) (bounds : Option Bounds) → lower_bounds scope range ≡ Ok bounds → IsRanged bounds
bounds_small scope None bounds is = subst IsRanged (same_value None bounds is) tt
bounds_small scope (Some range) bounds is =
    let one = then_ok (lower_range scope range) (λ b. Ok (Some b)) bounds is in
    subst IsRanged (same_value (Some one.0) bounds one.2) (range_small scope range one.0 one.1)

-- ---- variables

length_small : (kind : Kind) (bounds : Option Bounds) → IsRanged bounds → (length_of kind bounds ≤ 64) × AreSmallBounds bounds
length_small kind (Some bounds) ranged = (ranged.0, (ranged.1, ranged.2))
length_small Reg None ranged = (omega arith, tt)
length_small Integer None ranged = (omega arith, tt)
length_small Time None ranged = (omega arith, tt)
length_small Wire None ranged = (omega arith, tt)

variable_small : (path : Text) (form : Form) (name : Text) → IsRanged form.bounds → IsSmallVariable (variable_in path form name)
variable_small path form name ranged = length_small form.kind form.bounds ranged

module _ (path : Text) where
  pub ports_small : (scope : Scope) (list : List Port) (vs : List Variable) → lower_ports path scope list ≡ Ok vs → All IsSmallVariable vs
  ports_small scope [] vs is = subst (All IsSmallVariable) (same_value [] vs is) (All-nil IsSmallVariable)
  ports_small scope (p ∷ more) vs is =
      let one = then_ok (lower_port path scope p) (λ one. lower_ports path scope more >>= λ others. Ok (one ∷ others)) vs is in
      let others = then_ok (lower_ports path scope more) (λ others. Ok (one.0 ∷ others)) vs one.2 in
      let bounds = then_ok (lower_bounds scope p.type.range) (λ bounds. lower_again scope p.again bounds >>= λ whole. Ok (variable_in path (port_form p whole) p.name.letters)) one.0 one.1 in
      let whole = then_ok (lower_again scope p.again bounds.0) (λ whole. Ok (variable_in path (port_form p whole) p.name.letters)) one.0 bounds.2 in
      let form = port_form p whole.0 in
      let small = subst IsRanged (again_keeps scope p.again bounds.0 whole.0 whole.1) (bounds_small scope p.type.range bounds.0 bounds.1) in
      let here = variable_small path form p.name.letters small in
      subst (All IsSmallVariable) (same_value (one.0 ∷ others.0) vs others.2)
      (All-cons IsSmallVariable one.0 others.0 (subst IsSmallVariable (same_value (variable_in path form p.name.letters) one.0 whole.2) here)
      (ports_small scope more others.0 others.1))

  kind_small : (scope : Scope) (kind : DeclarationKind) (form : Form) → lower_kind scope kind ≡ Ok form → IsRanged form.bounds
  kind_small scope (variables word type) form is =
      let bounds = then_ok (lower_bounds scope type.range) (λ bounds. Ok (form_of word type.signed bounds)) form is in
      subst (λ (f : Form). IsRanged f.bounds) (same_value (form_of word type.signed bounds.0) form bounds.2) (bounds_small scope type.range bounds.0 bounds.1)
  kind_small scope (integers long) form is =
      subst (λ (f : Form). IsRanged f.bounds) (same_value (record { kind = integer_kind long; signed = not long; bounds = None }) form is) tt
  kind_small scope (directed direction) form is =
      let range = (type_in direction).range in
      let bounds = then_ok (lower_bounds scope range) (λ bounds. Ok (form_of net.Wire (type_in direction).signed bounds)) form is in
      subst (λ (f : Form). IsRanged f.bounds) (same_value (form_of net.Wire (type_in direction).signed bounds.0) form bounds.2) (bounds_small scope range bounds.0 bounds.1)

  declared_small : (form : Form) (list : List DeclaredTree) → IsRanged form.bounds → All IsSmallVariable (variables_in path form list)
  declared_small form list ranged =
      All-map IsSmallVariable (λ one. variable_in path form one.name.letters) list (λ k d lt. variable_small path form (slice_index_or list k d).name.letters ranged)

  formed_small : (form : Form) (kind : DeclarationKind) (list : List DeclaredTree) → IsRanged form.bounds → All IsSmallVariable (variables_as path form kind list)
  formed_small form (variables word type) list ranged = declared_small form list ranged
  formed_small form (integers long) list ranged = declared_small form list ranged
  formed_small form (directed direction) list ranged = All-nil IsSmallVariable

  none_small : (vs : List Variable) → (let none : Result (List Variable) ElabFault = Ok [] in none ≡ Ok vs) → All IsSmallVariable vs
  none_small vs is = subst (All IsSmallVariable) (same_value [] vs is) (All-nil IsSmallVariable)

  item_small : (scope : Scope) (item : ItemTree) (vs : List Variable) → lower_declaration path scope item ≡ Ok vs → All IsSmallVariable vs
  item_small scope (parameters local type settings) vs is = none_small vs is
  item_small scope (declaration kind list) vs is =
      let form = then_ok (lower_kind scope kind) (λ form. Ok (variables_as path form kind list)) vs is in
      subst (All IsSmallVariable) (same_value (variables_as path form.0 kind list) vs form.2) (formed_small form.0 kind list (kind_small scope kind form.0 form.1))
  item_small scope (events list) vs is = none_small vs is
  item_small scope (assignments settings) vs is = none_small vs is
  item_small scope (initial statement) vs is = none_small vs is
  item_small scope (always statement) vs is = none_small vs is
  item_small scope (instances letters overrides list) vs is = none_small vs is

  pub variables_small : (scope : Scope) (items : List ItemTree) (vs : List Variable) → lower_variables path scope items ≡ Ok vs → All IsSmallVariable vs
  variables_small scope [] vs is = none_small vs is
  variables_small scope (item ∷ more) vs is =
      let front = then_ok (lower_declaration path scope item) (λ front. lower_variables path (behind_item scope item) more >>= λ others. Ok (front ++ others)) vs is in
      let others = then_ok (lower_variables path (behind_item scope item) more) (λ others. Ok (front.0 ++ others)) vs front.2 in
      subst (All IsSmallVariable) (same_value (front.0 ++ others.0) vs others.2)
      (All-append IsSmallVariable front.0 others.0 (item_small scope item front.0 front.1) (variables_small (behind_item scope item) more others.0 others.1))
