-- Sizes of targets: where they are lowered and have no flaw they are right; and where one is told, they aren't.
use Rattle.std.proofs.Common.{◌≡◌, ℕ, ◌+◌, nat_le, Bool, true, false, ◌&&◌, List, [], ◌∷◌, ◌++◌, length, slice_get, Option, None, Some, Result, Ok, Err, refl, sym, ap, ◌∙◌, subst, arith}
use Rattle.std.specs.Option.{option_or}
use Rattle.vbits.specs.Vectors.{Vector}
use Rattle.vwords.specs.Words.{Text}
use Rattle.vast.specs.NumberedWords.{Word}
use Rattle.vast.specs.NumberedExpressions as text
use Rattle.vast.specs.NumberedStatements.{TargetTree, TargetTrees, whole, bit, part, joined, none, first}
use Rattle.vdesign.specs.Expressions.{ExpressionTree}
use Rattle.vdesign.specs.declared.action.Target.{Target}
use Rattle.vdesign.specs.declared.action.Target.TheVariants as target
use Rattle.vdesign.specs.declared.expression.Bounds.{Bounds}
use Rattle.vvalue.specs.Value.{Environment, bounds_of, part_size}
use Rattle.vvalue.specs.Targets.{targets_size}
use Rattle.vvalue.specs.Flaws.{flaw_of, has_bits, is_part, target_flaw, first_target_flaw, targets_flaw}
use Rattle.vvalue.specs.Flaws as flaws
use Rattle.vvalue.specs.declared.flaw.Flaw.{Flaw}
use Rattle.vvalue.specs.declared.flaw.Flaw.TheVariants.{NoBits, Size}
use Rattle.velab_expr.specs.declared.fault.ElabFault.{ElabFault}
use Rattle.velab_expr.specs.declared.scope.Meaning.{Meaning}
use Rattle.velab_expr.specs.declared.scope.Meaning.TheVariants.{Variable, Parameter, Event, Instance}
use Rattle.velab_expr.specs.Answers.{◌>>=◌, value_unless_flawed}
use Rattle.velab_expr.specs.FirstWords.{first_in}
use Rattle.velab_expr.specs.Scopes.{Scope, meaning_of, variable_by, lower_variable}
use Rattle.velab_expr.specs.Constants.{nothing, constant_value, part_bounds}
use Rattle.velab_expr.specs.Resolved.{lower, lower_value}
use Rattle.velab_expr.specs.Written.{lower_index, lower_target_by, lower_targets_by}
use Rattle.elaboration_law.specs.Widths.{Worth, meant, is_sized, has_sized_parts, have_sized_parts, is_target}
use Rattle.elaboration_law.specs.Widths as widths
use Rattle.elaboration_law.proofs.UseLemmas.{first_false, second_false}
use Rattle.elaboration_law.proofs.SizeLemmas.{AreVectors}
use Rattle.elaboration_law.proofs.ExpressionWidths.{is_width, Says, both_say, unless_says, bits_say, behind_both, AreWorth, worth_of_constants, IsRead, IsLike, Sizes, IsMeasured, lower_sizes, value_sizes}

-- ---- rows of targets

pub or_assoc : (a b c : Option Flaw) → option_or (option_or a b) c ≡ option_or a (option_or b c)
or_assoc None b c = refl
or_assoc (Some flaw) b c = refl

alone_says : (a : Option Flaw) (holds : Bool) → Says a holds → Says (option_or a None) holds
alone_says None holds h = h
alone_says (Some flaw) holds h = h

module _ (now : Environment) where
  size_joined : (xs ys : List Target) → targets_size now (xs ++ ys) ≡ targets_size now xs + targets_size now ys
  size_joined [] ys = omega arith
  size_joined (x ∷ xs) ys = let rest = size_joined xs ys in omega (arith, rest)

  flaw_joined : (xs ys : List Target) → first_target_flaw now (xs ++ ys) ≡ option_or (first_target_flaw now xs) (first_target_flaw now ys)
  flaw_joined [] ys = refl
  flaw_joined (x ∷ xs) ys = ap (option_or (target_flaw now x)) (flaw_joined xs ys) ∙ sym (or_assoc (target_flaw now x) (first_target_flaw now xs) (first_target_flaw now ys))

  -- a row has so many bits, and its parts are right
  record IsRow (row : List Target) (bits : ℕ) (holds : Bool) : Type 0 where
    size : targets_size now row ≡ bits
    says : Says (first_target_flaw now row) holds

  abbrev Rows : ℕ → Bool → Result (List Target) ElabFault → Type 0
  Rows size holds (Ok row) = IsRow row size holds
  Rows size holds (Err fault) = is_width fault.rule ≡ true → holds ≡ false

  -- a variable is written, which has so many bits
  abbrev IsVariable : Worth → Result ℕ ElabFault → Type 0
  IsVariable w (Ok number) = IsRead false now w number
  IsVariable w (Err fault) = is_width fault.rule ≡ false

  whole_rows : (w : Worth) (a : Result ℕ ElabFault) → IsVariable w a → Rows (length w.value.letters) true (a >>= λ number. Ok (target.Whole number ∷ []))
  whole_rows w (Ok number) s = record { size = let long = s.long in omega (arith, long); says = refl }
  whole_rows w (Err fault) s = λ e. absurd cc

  bit_rows : (w : Worth) (meaning : ExpressionTree) (holds : Bool) (a : Result ℕ ElabFault) (b : Result ExpressionTree ElabFault) → IsVariable w a → Sizes false now meaning holds b →
      Rows 1 holds (a >>= λ number. b >>= λ place. Ok (target.Bit number place ∷ []))
  bit_rows w meaning holds (Ok number) (Ok place) s h =
      let bits = has_bits (slice_get now.variables number) in
      let flaw = flaws.unless bits NoBits in
      record { size = refl; says = alone_says (option_or flaw (flaw_of now place)) holds (both_say flaw (flaw_of now place) true holds (bits_say bits) h.says) }
  bit_rows w meaning holds (Ok number) (Err fault) s h = h
  bit_rows w meaning holds (Err fault) b s h = λ e. absurd cc

  selected_row : (w : Worth) (selected : Bounds) (number : ℕ) → IsRead false now w number → IsRow (target.Part number selected ∷ []) (part_size selected) (is_part w.bounds selected)
  selected_row w selected number s =
      let bits = has_bits (slice_get now.variables number) in
      let is = is_part (bounds_of now number) selected in
      let flaw = option_or (flaws.unless bits NoBits) (flaws.unless is Size) in
      record {
        size = omega arith;
        says = subst (λ (b : Bounds). Says (option_or flaw None) (is_part b selected)) s.ranged
            (alone_says flaw is (both_say (flaws.unless bits NoBits) (flaws.unless is Size) true is (bits_say bits) (unless_says is)));
      }

  part_rows : (w : Worth) (left right : ExpressionTree) (one other : Bool) (a : Result ℕ ElabFault) (b c : Result Vector ElabFault) →
      IsVariable w a → IsMeasured left one b → IsMeasured right other c →
      Rows (part_size (part_bounds (constant_value left) (constant_value right))) (one && (other && is_part w.bounds (part_bounds (constant_value left) (constant_value right))))
      (a >>= λ number. (b >>= λ high. c >>= λ low. Ok (part_bounds high low)) >>= λ bounds. Ok (target.Part number bounds ∷ []))
  part_rows w left right one other (Ok number) (Ok high) (Ok low) s h k =
      let selected = part_bounds (constant_value left) (constant_value right) in
      let holds = one && (other && is_part w.bounds selected) in
      let is : selected ≡ part_bounds high low = λ i. part_bounds (sym h.0 i) (sym k.0 i) in
      subst (λ (b : Bounds). IsRow (target.Part number b ∷ []) (part_size selected) holds) is
      (subst (IsRow (target.Part number selected ∷ []) (part_size selected)) (sym (behind_both one other (is_part w.bounds selected) h.1 k.1)) (selected_row w selected number s))
  part_rows w left right one other (Ok number) (Ok high) (Err fault) s h k =
      λ e. second_false one (other && is_part w.bounds (part_bounds (constant_value left) (constant_value right))) (first_false other (is_part w.bounds (part_bounds (constant_value left) (constant_value right))) (k e))
  part_rows w left right one other (Ok number) (Err fault) c s h k =
      λ e. first_false one (other && is_part w.bounds (part_bounds (constant_value left) (constant_value right))) (h e)
  part_rows w left right one other (Err fault) b c s h k = λ e. absurd cc

  further_rows : (m n : ℕ) (one other : Bool) (a b : Result (List Target) ElabFault) → Rows m one a → Rows n other b →
      Rows (m + n) (one && other) (a >>= λ front. b >>= λ others. Ok (front ++ others))
  further_rows m n one other (Ok xs) (Ok ys) h k =
      record {
        size = size_joined xs ys ∙ (λ i. h.size i + k.size i);
        says = subst (λ (flaw : Option Flaw). Says flaw (one && other)) (sym (flaw_joined xs ys))
            (both_say (first_target_flaw now xs) (first_target_flaw now ys) one other h.says k.says);
      }
  further_rows m n one other (Ok xs) (Err fault) h k = λ e. second_false one other (k e)
  further_rows m n one other (Err fault) b h k = λ e. first_false one other (h e)

  abbrev pub IsWritten : Bool → Result (List Target) ElabFault → Type 0
  IsWritten holds (Ok row) = Says (targets_flaw now row) holds
  IsWritten holds (Err fault) = is_width fault.rule ≡ true → holds ≡ false

  written_rows : (size : ℕ) (holds : Bool) (a : Result (List Target) ElabFault) → Rows size holds a → IsWritten (holds && nat_le size 64) a
  written_rows size holds (Ok row) h =
      let few = nat_le (targets_size now row) 64 in
      subst (λ (n : ℕ). Says (targets_flaw now row) (holds && nat_le n 64)) h.size
      (both_say (first_target_flaw now row) (flaws.unless few Size) holds few h.says (unless_says few))
  written_rows size holds (Err fault) h = λ e. first_false holds (nat_le size 64) (h e)

-- ---- targets

module _ (scope : Scope) (named : Text → Worth) (vectors : AreVectors named) (now : Environment) (agrees : AreWorth false now scope named) where
  variable_stands : (name : Word) → IsVariable now (named name.letters) (lower_variable scope name)
  variable_stands name = by (meaning_of scope name) refl
    where
      by : (meaning : Option Meaning) → meaning_of scope name ≡ meaning → IsVariable now (named name.letters) (variable_by name meaning)
      by None is = refl
      by (Some (Variable number)) is = let both = agrees.of_variable name number refl is in record { free = refl; long = both.0; ranged = both.1 }
      by (Some (Parameter value bounds before)) is = refl
      by (Some (Event number)) is = refl
      by (Some Instance) is = refl

  abbrev constants : AreWorth true nothing scope named
  constants = worth_of_constants false now scope named agrees

  -- the place of a bit, a constant or not
  index_sizes : (fixed : Bool) (index : text.ExpressionTree) → Sizes false now (meant named index) (is_sized named index) (lower_index fixed scope index)
  index_sizes false index = lower_sizes scope named vectors false now agrees index
  index_sizes true index =
      by (lower true scope index) (lower_sizes scope named vectors true now (record { of_parameter = agrees.of_parameter; of_variable = λ name number no is. absurd cc }) index)
      (lower_sizes scope named vectors true nothing constants index)
    where
      kept : (e : ExpressionTree) → IsLike true now e (meant named index) (is_sized named index) → (flaw : Option Flaw) → Says flaw (is_sized named index) →
          Sizes false now (meant named index) (is_sized named index) (value_unless_flawed flaw (first_in index) e)
      kept e s None h = record { same = λ no. absurd cc; size = s.size; says = s.says }
      kept e s (Some NoBits) h = λ no. absurd cc
      kept e s (Some Size) h = λ is. h

      by : (a : Result ExpressionTree ElabFault) → Sizes true now (meant named index) (is_sized named index) a → Sizes true nothing (meant named index) (is_sized named index) a →
          Sizes false now (meant named index) (is_sized named index) (a >>= λ e. value_unless_flawed (flaw_of nothing e) (first_in index) e)
      by (Ok e) s h = kept e s (flaw_of nothing e) h.says
      by (Err fault) s h = h

  mutual
    target_rows : (fixed : Bool) (one : TargetTree) → Rows now (widths.target_size named one) (has_sized_parts named one) (lower_target_by fixed scope one)
    target_rows fixed (whole letters) = whole_rows now (named letters.letters) (lower_variable scope letters) (variable_stands letters)
    target_rows fixed (bit letters index) =
        bit_rows now (named letters.letters) (meant named index) (is_sized named index) (lower_variable scope letters) (lower_index fixed scope index)
        (variable_stands letters) (index_sizes fixed index)
    target_rows fixed (part letters left right) =
        part_rows now (named letters.letters) (meant named left) (meant named right) (is_sized named left) (is_sized named right)
        (lower_variable scope letters) (lower_value scope left) (lower_value scope right)
        (variable_stands letters) (value_sizes scope named vectors constants left) (value_sizes scope named vectors constants right)
    target_rows fixed (joined targets) = targets_rows fixed targets

    targets_rows : (fixed : Bool) (targets : TargetTrees) → Rows now (widths.targets_size named targets) (have_sized_parts named targets) (lower_targets_by fixed scope targets)
    targets_rows fixed none = record { size = refl; says = refl }
    targets_rows fixed (first one more) =
        further_rows now (widths.target_size named one) (widths.targets_size named more) (has_sized_parts named one) (have_sized_parts named more)
        (lower_target_by fixed scope one) (lower_targets_by fixed scope more) (target_rows fixed one) (targets_rows fixed more)

  pub target_sizes : (fixed : Bool) (one : TargetTree) → IsWritten now (is_target named one) (lower_target_by fixed scope one)
  target_sizes fixed one = written_rows now (widths.target_size named one) (has_sized_parts named one) (lower_target_by fixed scope one) (target_rows fixed one)
