-- Names that expressions, ranges and targets use: lowered, a question holds of each; and where its rule is told, it doesn't of one.
use Rattle.std.proofs.Common.{◌+◌, ◌*◌, ◌&&◌, nat_le, Bool, true, false, not, List, [], ◌∷◌, ◌++◌, Option, Some, None, Result, refl}
use Rattle.std.specs.List.{list_all}
use Rattle.std.specs.Option.{option_or}
use Rattle.vast.specs.NumberedWords.{Word}
use Rattle.vast.specs.NumberedExpressions as text
use Rattle.vast.specs.NumberedModules.{RangeTree}
use Rattle.vast.specs.NumberedStatements.{TargetTree, TargetTrees, whole, bit, part, joined, none, first, SelectionTree}
use Rattle.vdesign.specs.Expressions.{ExpressionTree, time}
use Rattle.vdesign.specs.Expressions as design
use Rattle.vdesign.specs.declared.expression.Bounds.{Bounds}
use Rattle.vvalue.specs.Flaws.{flaw_of, is_part}
use Rattle.vvalue.specs.Flaws as flaws
use Rattle.vvalue.specs.Value.{part_of, part_size, bounds_of, size_of}
use Rattle.vvalue.specs.declared.flaw.Flaw.{Flaw}
use Rattle.vvalue.specs.declared.flaw.Flaw.TheVariants.{NoBits, Size}
use Rattle.velab_expr.specs.declared.fault.Rule.TheVariants.{Width, Constant, Kind}
use Rattle.velab_expr.specs.declared.fault.ElabFault.{ElabFault}
use Rattle.velab_expr.specs.declared.scope.Operand.{Operand}
use Rattle.velab_expr.specs.declared.scope.Operand.TheVariants as operand
use Rattle.velab_expr.specs.Answers.{◌>>=◌, require, value_or_fault, value_unless_flawed}
use Rattle.velab_expr.specs.FirstWords.{first_in, first_among}
use Rattle.velab_expr.specs.Scopes.{Scope, lower_name, lower_variable, lower_event}
use Rattle.velab_expr.specs.Constants.{nothing, constant_value, checked_constant, bound_in, part_bounds}
use Rattle.velab_expr.specs.Resolved.{plain, part_in, count_of, check_part_count, lower, lower_parts, lower_expression, lower_constant, lower_value}
use Rattle.velab_expr.specs.Ranges.{span, lower_bound, lower_range, lower_bounds}
use Rattle.velab_expr.specs.Written as written
use Rattle.velab_expr.specs.Written.{lower_index, lower_target_by, lower_targets_by}
use Rattle.velab_expr.specs.Selections.{levels_in, lower_selection}
use Rattle.elaboration_law.specs.Uses.{Use, Read, ReadIn, Written, WrittenIn, Driven, DrivenIn, Triggered, use_of, use_of_time, use_of_levels, way_of_whole, way_of_part, used_in_selection, used_in, used_in_parts, used_in_range, used_in_target_by, used_in_targets_by}
use Rattle.elaboration_law.proofs.UseLemmas.{Judges, required_judges, provided_judges, found_judges, Question, Fits, both, last, single}

-- a constant reads no variable, so that no bits are asked for that there aren't
abbrev IsOfSize : Option Flaw → Type 0
IsOfSize None = Unit {0}
IsOfSize (Some NoBits) = ⊥
IsOfSize (Some Size) = Unit {0}

or_of_size : (a b : Option Flaw) → IsOfSize a → IsOfSize b → IsOfSize (option_or a b)
or_of_size None b h k = k
or_of_size (Some NoBits) b h k = h
or_of_size (Some Size) b h k = h

unless_of_size : (holds : Bool) → IsOfSize (flaws.unless holds Size)
unless_of_size true = tt
unless_of_size false = tt

sizes_only : (e : ExpressionTree) → IsOfSize (flaw_of nothing e)
sizes_only (design.constant c) = tt
sizes_only (design.variable n) = tt
sizes_only (design.bit n index) = or_of_size None (flaw_of nothing index) tt (sizes_only index)
sizes_only (design.bit_of v bounds index) = sizes_only index
sizes_only (design.part n bounds) = or_of_size None _ tt (unless_of_size (is_part (bounds_of nothing n) bounds))
sizes_only design.time = tt
sizes_only (design.conversion signed o) = sizes_only o
sizes_only (design.apply operator o) = sizes_only o
sizes_only (design.combine operator left right) = or_of_size (flaw_of nothing left) (flaw_of nothing right) (sizes_only left) (sizes_only right)
sizes_only (design.conditional test one other) =
    or_of_size (flaw_of nothing test) (option_or (flaw_of nothing one) (flaw_of nothing other)) (sizes_only test) (or_of_size (flaw_of nothing one) (flaw_of nothing other) (sizes_only one) (sizes_only other))
sizes_only (design.joined left right) =
    let size = flaws.unless (nat_le (size_of nothing left + size_of nothing right) 64) Size in
    or_of_size (flaw_of nothing left) (option_or (flaw_of nothing right) size) (sizes_only left)
    (or_of_size (flaw_of nothing right) size (sizes_only right) (unless_of_size (nat_le (size_of nothing left + size_of nothing right) 64)))
sizes_only (design.repeated count o) =
    let is_few = nat_le 1 count && nat_le (count * size_of nothing o) 64 in
    or_of_size (flaw_of nothing o) (flaws.unless is_few Size) (sizes_only o) (unless_of_size is_few)

module _ (q : Question) (scope : Scope) where
  -- ---- names

  value_is_known : (constant : Bool) (name : Word) → Fits q scope (use_of Read constant name ∷ []) (lower_name constant scope name)
  value_is_known constant name = single q scope (use_of Read constant name) (lower_name constant scope name) (q.of_value constant scope name)

  bits_know : (constant : Bool) (name : Word) → Fits q scope (use_of ReadIn constant name ∷ []) (lower_name constant scope name)
  bits_know constant name = single q scope (use_of ReadIn constant name) (lower_name constant scope name) (q.of_bits constant scope name)

  -- written by a process, or driven: the whole of it, and a bit or a part of it
  whole_knows : (drives : Bool) (name : Word) → Fits q scope (use_of (way_of_whole drives) false name ∷ []) (lower_variable scope name)
  whole_knows false name = single q scope (use_of Written false name) (lower_variable scope name) (q.of_written scope name)
  whole_knows true name = single q scope (use_of Driven false name) (lower_variable scope name) (q.of_driven scope name)

  part_of_knows : (drives : Bool) (name : Word) → Fits q scope (use_of (way_of_part drives) false name ∷ []) (lower_variable scope name)
  part_of_knows false name = single q scope (use_of WrittenIn false name) (lower_variable scope name) (q.of_written_in scope name)
  part_of_knows true name = single q scope (use_of DrivenIn false name) (lower_variable scope name) (q.of_driven_in scope name)

  pub event_knows : (name : Word) → Fits q scope (use_of Triggered false name ∷ []) (lower_event scope name)
  event_knows name = single q scope (use_of Triggered false name) (lower_event scope name) (q.of_event scope name)

  -- ---- expressions

  unflawed_knows : {A : Type 0} (e : ExpressionTree) (word : Option Word) (x : A) → Judges q.asked true (value_unless_flawed (flaw_of nothing e) word x)
  unflawed_knows {A = A} e word x = by (flaw_of nothing e) (sizes_only e)
    where
      by : (flaw : Option Flaw) → IsOfSize flaw → Judges q.asked true (value_unless_flawed flaw word x)
      by None h = refl
      by (Some NoBits) h = absurd h
      by (Some Size) h = λ e. absurd (let no = q.no_width in cc)

  part_knows : (operand : Operand) (bounds : Bounds) (name : Word) → Judges q.asked true (part_in operand bounds name)
  part_knows (operand.Variable number) bounds name = refl
  part_knows (operand.Parameter value all) bounds name =
      required_judges q.asked (is_part all bounds) Width (Some name) (plain (part_of value all bounds (part_size bounds))) q.no_width

  few_knows : (uses : List Use) (parts : text.ExpressionTrees) (a : Result ExpressionTree ElabFault) → Fits q scope uses a → Fits q scope uses (check_part_count parts a)
  few_knows uses parts a h = provided_judges q.asked (list_all (q.fits scope) uses) (nat_le (count_of parts) 64) Width (first_among parts) a q.no_width h

  measured_knows : (tree : text.ExpressionTree) → Fits q scope (used_in true tree) (lower true scope tree) → Fits q scope (used_in true tree) (lower true scope tree >>= checked_constant (first_in tree))
  measured_knows tree h = last q scope (used_in true tree) (lower true scope tree) (checked_constant (first_in tree)) h (λ e. unflawed_knows e (first_in tree) (constant_value e))

  mutual
    pub lower_knows : (fixed : Bool) (tree : text.ExpressionTree) → Fits q scope (used_in fixed tree) (lower fixed scope tree)
    lower_knows fixed (text.number digits) = refl
    lower_knows fixed (text.name letters) = last q scope (use_of Read fixed letters ∷ []) (lower_name fixed scope letters) _ (value_is_known fixed letters) (λ operand. refl)
    lower_knows fixed (text.time word) = single q scope (use_of_time fixed) (require (not fixed) Constant (Some word) time) (q.of_time fixed scope (Some word) time)
    lower_knows fixed (text.bit letters index) =
        both q scope (use_of ReadIn fixed letters ∷ []) (used_in fixed index) (lower_name fixed scope letters) _ (bits_know fixed letters) (λ operand.
        last q scope (used_in fixed index) (lower fixed scope index) _ (lower_knows fixed index) (λ place. refl))
    lower_knows fixed (text.part letters left right) =
        both q scope (use_of ReadIn fixed letters ∷ []) (used_in true left ++ used_in true right) (lower_name fixed scope letters) _ (bits_know fixed letters) (λ operand.
        both q scope (used_in true left) (used_in true right) (lower true scope left >>= checked_constant (first_in left)) _ (measured_knows left (lower_knows true left)) (λ high.
        last q scope (used_in true right) (lower true scope right >>= checked_constant (first_in right)) _ (measured_knows right (lower_knows true right)) (λ low.
        part_knows operand (part_bounds high low) letters)))
    lower_knows fixed (text.parentheses inner) = lower_knows fixed inner
    lower_knows fixed (text.concatenation parts) = few_knows (used_in_parts fixed parts) parts (lower_parts fixed scope parts) (parts_know fixed parts)
    lower_knows fixed (text.replication count parts) =
        both q scope (used_in true count) (used_in_parts fixed parts) (lower true scope count >>= checked_constant (first_in count)) _ (measured_knows count (lower_knows true count)) (λ amount.
        last q scope (used_in_parts fixed parts) (check_part_count parts (lower_parts fixed scope parts)) _ (few_knows (used_in_parts fixed parts) parts (lower_parts fixed scope parts) (parts_know fixed parts)) (λ e. refl))
    lower_knows fixed (text.conversion signed inner) = last q scope (used_in fixed inner) (lower fixed scope inner) _ (lower_knows fixed inner) (λ operand. refl)
    lower_knows fixed (text.apply operator inner) = last q scope (used_in fixed inner) (lower fixed scope inner) _ (lower_knows fixed inner) (λ operand. refl)
    lower_knows fixed (text.combine operator left right) =
        both q scope (used_in fixed left) (used_in fixed right) (lower fixed scope left) _ (lower_knows fixed left) (λ one.
        last q scope (used_in fixed right) (lower fixed scope right) _ (lower_knows fixed right) (λ other. refl))
    lower_knows fixed (text.conditional condition when_true when_false) =
        both q scope (used_in fixed condition) (used_in fixed when_true ++ used_in fixed when_false) (lower fixed scope condition) _ (lower_knows fixed condition) (λ test.
        both q scope (used_in fixed when_true) (used_in fixed when_false) (lower fixed scope when_true) _ (lower_knows fixed when_true) (λ one.
        last q scope (used_in fixed when_false) (lower fixed scope when_false) _ (lower_knows fixed when_false) (λ other. refl)))

    parts_know : (fixed : Bool) (parts : text.ExpressionTrees) → Fits q scope (used_in_parts fixed parts) (lower_parts fixed scope parts)
    parts_know fixed text.none = refl
    parts_know fixed (text.first one more) =
        both q scope (used_in fixed one) (used_in_parts fixed more) (lower fixed scope one) _ (lower_knows fixed one) (λ front.
        last q scope (used_in_parts fixed more) (lower_parts fixed scope more) _ (parts_know fixed more) (λ others. refl))

  pub expression_knows : (tree : text.ExpressionTree) → Fits q scope (used_in false tree) (lower_expression scope tree)
  expression_knows tree = lower_knows false tree

  pub constant_knows : (tree : text.ExpressionTree) → Fits q scope (used_in true tree) (lower_constant scope tree)
  constant_knows tree = last q scope (used_in true tree) (lower true scope tree) _ (lower_knows true tree) (λ e. unflawed_knows e (first_in tree) e)

  value_knows : (tree : text.ExpressionTree) → Fits q scope (used_in true tree) (lower_value scope tree)
  value_knows tree = measured_knows tree (lower_knows true tree)

  -- ---- ranges

  bound_knows : (tree : text.ExpressionTree) → Fits q scope (used_in true tree) (lower_bound scope tree)
  bound_knows tree = last q scope (used_in true tree) (lower_value scope tree) _ (value_knows tree) (λ value. found_judges q.asked (bound_in value) Width (first_in tree) q.no_width)

  pub bounds_know : (range : Option RangeTree) → Fits q scope (used_in_range range) (lower_bounds scope range)
  bounds_know None = refl
  bounds_know (Some range) =
      last q scope (used_in_range (Some range)) (lower_range scope range) _
      (both q scope (used_in true range.left) (used_in true range.right) (lower_bound scope range.left) _ (bound_knows range.left) (λ left.
      last q scope (used_in true range.right) (lower_bound scope range.right) _ (bound_knows range.right) (λ right.
      required_judges q.asked (nat_le (span (record { left = left; right = right })) 64) Width (first_in range.left) (record { left = left; right = right }) q.no_width)))
      (λ bounds. refl)

  -- ---- targets and selections

  index_knows : (fixed : Bool) (index : text.ExpressionTree) → Fits q scope (used_in fixed index) (lower_index fixed scope index)
  index_knows false index = expression_knows index
  index_knows true index = constant_knows index

  mutual
    pub target_knows : (drives : Bool) (target : TargetTree) → Fits q scope (used_in_target_by drives target) (lower_target_by drives scope target)
    target_knows drives (whole letters) = last q scope (use_of (way_of_whole drives) false letters ∷ []) (lower_variable scope letters) _ (whole_knows drives letters) (λ number. refl)
    target_knows drives (bit letters index) =
        both q scope (use_of (way_of_part drives) false letters ∷ []) (used_in drives index) (lower_variable scope letters) _ (part_of_knows drives letters) (λ number.
        last q scope (used_in drives index) (lower_index drives scope index) _ (index_knows drives index) (λ place. refl))
    target_knows drives (part letters left right) =
        both q scope (use_of (way_of_part drives) false letters ∷ []) (used_in true left ++ used_in true right) (lower_variable scope letters) _ (part_of_knows drives letters) (λ number.
        last q scope (used_in true left ++ used_in true right) (written.lower_bounds scope left right) _
        (both q scope (used_in true left) (used_in true right) (lower_value scope left) _ (value_knows left) (λ high.
        last q scope (used_in true right) (lower_value scope right) _ (value_knows right) (λ low. refl))) (λ bounds. refl))
    target_knows drives (joined targets) = targets_know drives targets

    targets_know : (drives : Bool) (targets : TargetTrees) → Fits q scope (used_in_targets_by drives targets) (lower_targets_by drives scope targets)
    targets_know drives none = refl
    targets_know drives (first one more) =
        both q scope (used_in_target_by drives one) (used_in_targets_by drives more) (lower_target_by drives scope one) _ (target_knows drives one) (λ front.
        last q scope (used_in_targets_by drives more) (lower_targets_by drives scope more) _ (targets_know drives more) (λ others. refl))

  pub selection_knows : (selection : Option SelectionTree) → Fits q scope (used_in_selection selection) (lower_selection scope selection)
  selection_knows None = refl
  selection_knows (Some selection) =
      last q scope (use_of_levels selection.levels ∷ []) (value_or_fault (levels_in selection.levels) Kind (Some selection.levels)) _
      (single q scope (use_of_levels selection.levels) (value_or_fault (levels_in selection.levels) Kind (Some selection.levels)) (q.of_levels scope selection.levels)) (λ levels. refl)
