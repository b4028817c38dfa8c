-- The rules that expressions, ranges, targets and selections tell.
use Rattle.std.proofs.Common.{ℕ, nat_le, nat_lt, Bool, true, false, not, ◌||◌, Option, Some, None, Result, refl}
use Rattle.vast.specs.NumberedWords.{Word}
use Rattle.vast.specs.NumberedExpressions as text
use Rattle.vast.specs.NumberedModules.{RangeTree}
use Rattle.vast.specs.NumberedStatements.{TargetTree, TargetTrees, whole, bit, part, joined, none, first, SelectionTree}
use Rattle.vdesign.specs.Expressions.{ExpressionTree}
use Rattle.vdesign.specs.declared.expression.Bounds.{Bounds}
use Rattle.vvalue.specs.Flaws.{flaw_of, is_part}
use Rattle.vvalue.specs.Value.{part_of, part_size}
use Rattle.vvalue.specs.declared.flaw.Flaw.{Flaw}
use Rattle.vvalue.specs.declared.flaw.Flaw.TheVariants.{NoBits, Size}
use Rattle.velab_expr.specs.declared.fault.Rule.TheVariants.{Unknown, Width, Constant, Kind}
use Rattle.velab_expr.specs.declared.fault.ElabFault.{ElabFault}
use Rattle.velab_expr.specs.declared.scope.Meaning.{Meaning}
use Rattle.velab_expr.specs.declared.scope.Meaning.TheVariants.{Variable, Parameter, Event, Instance}
use Rattle.velab_expr.specs.declared.scope.Operand.{Operand}
use Rattle.velab_expr.specs.declared.scope.Operand.TheVariants as operand
use Rattle.velab_expr.specs.Answers.{◌>>=◌, value_unless_flawed}
use Rattle.velab_expr.specs.FirstWords.{first_in, first_among}
use Rattle.velab_expr.specs.Scopes.{Scope, bounds_for, operand_by, lower_name, variable_by, lower_variable, event_by, lower_event, meaning_of}
use Rattle.velab_expr.specs.Constants.{nothing, constant_value, checked_constant, bound_in, part_bounds}
use Rattle.velab_expr.specs.Resolved.{plain, part_in, count_of, check_part_count, lower, lower_parts, lower_expression, lower_constant, lower_value}
use Rattle.velab_expr.specs.Ranges.{span, lower_bound, lower_range, lower_bounds}
use Rattle.velab_expr.specs.Written as written
use Rattle.velab_expr.specs.Written.{lower_index, lower_target_by, lower_targets_by}
use Rattle.velab_expr.specs.Selections.{levels_in, lower_selection}
use Rattle.elaboration_law.proofs.ToldLemmas.{Tells, is_local, then_tells, required_tells, provided_tells, found_tells}

-- ---- names

operand_tells : (constant : Bool) (known : ℕ) (name : Word) (meaning : Option Meaning) → Tells is_local (operand_by constant known name meaning)
operand_tells constant known name None = refl
operand_tells constant known name (Some (Variable number)) = required_tells is_local (not constant) Constant (Some name) (operand.Variable number) refl
operand_tells constant known name (Some (Parameter value bounds before)) =
    required_tells is_local (not constant || nat_lt before known) Unknown (Some name) (operand.Parameter value (bounds_for value bounds)) refl
operand_tells constant known name (Some (Event number)) = refl
operand_tells constant known name (Some Instance) = refl

name_tells : (constant : Bool) (scope : Scope) (name : Word) → Tells is_local (lower_name constant scope name)
name_tells constant scope name = operand_tells constant scope.known name (meaning_of scope name)

pub variable_tells : (scope : Scope) (name : Word) → Tells is_local (lower_variable scope name)
variable_tells scope name = by (meaning_of scope name)
  where
    by : (meaning : Option Meaning) → Tells is_local (variable_by name meaning)
    by None = refl
    by (Some (Variable number)) = tt
    by (Some (Parameter value bounds before)) = refl
    by (Some (Event number)) = refl
    by (Some Instance) = refl

pub event_tells : (scope : Scope) (name : Word) → Tells is_local (lower_event scope name)
event_tells scope name = by (meaning_of scope name)
  where
    by : (meaning : Option Meaning) → Tells is_local (event_by name meaning)
    by None = refl
    by (Some (Variable number)) = refl
    by (Some (Parameter value bounds before)) = refl
    by (Some (Event number)) = tt
    by (Some Instance) = refl

-- ---- expressions

unflawed_tells : {A : Type 0} (flaw : Option Flaw) (word : Option Word) (x : A) → Tells is_local (value_unless_flawed flaw word x)
unflawed_tells None word x = tt
unflawed_tells (Some NoBits) word x = refl
unflawed_tells (Some Size) word x = refl

checked_tells : (word : Option Word) (tree : ExpressionTree) → Tells is_local (checked_constant word tree)
checked_tells word tree = unflawed_tells (flaw_of nothing tree) word (constant_value tree)

part_tells : (operand : Operand) (bounds : Bounds) (name : Word) → Tells is_local (part_in operand bounds name)
part_tells (operand.Variable number) bounds name = tt
part_tells (operand.Parameter value all) bounds name =
    required_tells is_local (is_part all bounds) Width (Some name) (plain (part_of value all bounds (part_size bounds))) refl

few_tells : (parts : text.ExpressionTrees) (a : Result ExpressionTree ElabFault) → Tells is_local a → Tells is_local (check_part_count parts a)
few_tells parts a h = provided_tells is_local (nat_le (count_of parts) 64) Width (first_among parts) a refl h

mutual
  pub lower_tells : (fixed : Bool) (scope : Scope) (tree : text.ExpressionTree) → Tells is_local (lower fixed scope tree)
  lower_tells fixed scope (text.number digits) = tt
  lower_tells fixed scope (text.name letters) = then_tells is_local (lower_name fixed scope letters) _ (name_tells fixed scope letters) (λ operand. tt)
  lower_tells fixed scope (text.time word) = required_tells is_local (not fixed) Constant (Some word) _ refl
  lower_tells fixed scope (text.bit letters index) =
      then_tells is_local (lower_name fixed scope letters) _ (name_tells fixed scope letters) (λ operand.
      then_tells is_local (lower fixed scope index) _ (lower_tells fixed scope index) (λ place. tt))
  lower_tells fixed scope (text.part letters left right) =
      then_tells is_local (lower_name fixed scope letters) _ (name_tells fixed scope letters) (λ operand.
      then_tells is_local (lower true scope left >>= checked_constant (first_in left)) _
      (then_tells is_local (lower true scope left) _ (lower_tells true scope left) (λ e. checked_tells (first_in left) e)) (λ high.
      then_tells is_local (lower true scope right >>= checked_constant (first_in right)) _
      (then_tells is_local (lower true scope right) _ (lower_tells true scope right) (λ e. checked_tells (first_in right) e)) (λ low.
      part_tells operand (part_bounds high low) letters)))
  lower_tells fixed scope (text.parentheses inner) = lower_tells fixed scope inner
  lower_tells fixed scope (text.concatenation parts) = few_tells parts (lower_parts fixed scope parts) (parts_tell fixed scope parts)
  lower_tells fixed scope (text.replication count parts) =
      then_tells is_local (lower true scope count >>= checked_constant (first_in count)) _
      (then_tells is_local (lower true scope count) _ (lower_tells true scope count) (λ e. checked_tells (first_in count) e)) (λ amount.
      then_tells is_local (check_part_count parts (lower_parts fixed scope parts)) _ (few_tells parts (lower_parts fixed scope parts) (parts_tell fixed scope parts)) (λ e. tt))
  lower_tells fixed scope (text.conversion signed inner) = then_tells is_local (lower fixed scope inner) _ (lower_tells fixed scope inner) (λ operand. tt)
  lower_tells fixed scope (text.apply operator inner) = then_tells is_local (lower fixed scope inner) _ (lower_tells fixed scope inner) (λ operand. tt)
  lower_tells fixed scope (text.combine operator left right) =
      then_tells is_local (lower fixed scope left) _ (lower_tells fixed scope left) (λ one.
      then_tells is_local (lower fixed scope right) _ (lower_tells fixed scope right) (λ other. tt))
  lower_tells fixed scope (text.conditional condition when_true when_false) =
      then_tells is_local (lower fixed scope condition) _ (lower_tells fixed scope condition) (λ test.
      then_tells is_local (lower fixed scope when_true) _ (lower_tells fixed scope when_true) (λ one.
      then_tells is_local (lower fixed scope when_false) _ (lower_tells fixed scope when_false) (λ other. tt)))

  parts_tell : (fixed : Bool) (scope : Scope) (parts : text.ExpressionTrees) → Tells is_local (lower_parts fixed scope parts)
  parts_tell fixed scope text.none = tt
  parts_tell fixed scope (text.first one more) =
      then_tells is_local (lower fixed scope one) _ (lower_tells fixed scope one) (λ front.
      then_tells is_local (lower_parts fixed scope more) _ (parts_tell fixed scope more) (λ others. tt))

pub expression_tells : (scope : Scope) (tree : text.ExpressionTree) → Tells is_local (lower_expression scope tree)
expression_tells scope tree = lower_tells false scope tree

pub constant_tells : (scope : Scope) (tree : text.ExpressionTree) → Tells is_local (lower_constant scope tree)
constant_tells scope tree = then_tells is_local (lower true scope tree) _ (lower_tells true scope tree) (λ e. unflawed_tells (flaw_of nothing e) (first_in tree) e)

value_tells : (scope : Scope) (tree : text.ExpressionTree) → Tells is_local (lower_value scope tree)
value_tells scope tree = then_tells is_local (lower true scope tree) _ (lower_tells true scope tree) (λ e. checked_tells (first_in tree) e)

-- ---- ranges

bound_tells : (scope : Scope) (tree : text.ExpressionTree) → Tells is_local (lower_bound scope tree)
bound_tells scope tree = then_tells is_local (lower_value scope tree) _ (value_tells scope tree) (λ value. found_tells is_local (bound_in value) Width (first_in tree) refl)

pub bounds_tell : (scope : Scope) (range : Option RangeTree) → Tells is_local (lower_bounds scope range)
bounds_tell scope None = tt
bounds_tell scope (Some range) =
    then_tells is_local (lower_range scope range) _
    (then_tells is_local (lower_bound scope range.left) _ (bound_tells scope range.left) (λ left.
    then_tells is_local (lower_bound scope range.right) _ (bound_tells scope range.right) (λ right.
    required_tells is_local (nat_le (span (record { left = left; right = right })) 64) Width (first_in range.left) (record { left = left; right = right }) refl)))
    (λ bounds. tt)

-- ---- targets and selections

index_tells : (fixed : Bool) (scope : Scope) (index : text.ExpressionTree) → Tells is_local (lower_index fixed scope index)
index_tells false scope index = expression_tells scope index
index_tells true scope index = constant_tells scope index

mutual
  pub target_tells : (fixed : Bool) (scope : Scope) (target : TargetTree) → Tells is_local (lower_target_by fixed scope target)
  target_tells fixed scope (whole letters) = then_tells is_local (lower_variable scope letters) _ (variable_tells scope letters) (λ number. tt)
  target_tells fixed scope (bit letters index) =
      then_tells is_local (lower_variable scope letters) _ (variable_tells scope letters) (λ number.
      then_tells is_local (lower_index fixed scope index) _ (index_tells fixed scope index) (λ place. tt))
  target_tells fixed scope (part letters left right) =
      then_tells is_local (lower_variable scope letters) _ (variable_tells scope letters) (λ number.
      then_tells is_local (written.lower_bounds scope left right) _
      (then_tells is_local (lower_value scope left) _ (value_tells scope left) (λ high.
      then_tells is_local (lower_value scope right) _ (value_tells scope right) (λ low. tt))) (λ bounds. tt))
  target_tells fixed scope (joined targets) = targets_tell fixed scope targets

  targets_tell : (fixed : Bool) (scope : Scope) (targets : TargetTrees) → Tells is_local (lower_targets_by fixed scope targets)
  targets_tell fixed scope none = tt
  targets_tell fixed scope (first one more) =
      then_tells is_local (lower_target_by fixed scope one) _ (target_tells fixed scope one) (λ front.
      then_tells is_local (lower_targets_by fixed scope more) _ (targets_tell fixed scope more) (λ others. tt))

pub selection_tells : (scope : Scope) (selection : Option SelectionTree) → Tells is_local (lower_selection scope selection)
selection_tells scope None = tt
selection_tells scope (Some selection) =
    then_tells is_local _ _ (found_tells is_local (levels_in selection.levels) Kind (Some selection.levels) refl) (λ levels. tt)
