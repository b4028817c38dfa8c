-- *trusted*: Ranges (IEEE 1364-2005, 4.3.1): two bounds, with at most 64 bits from one to the other (own).
use Rattle.std.specs.Prelude.{ℕ, ◌+◌, ◌-◌, max, min, nat_le, Option, None, Some, Result, Ok}
use Rattle.vast.specs.NumberedWords.{Word}
use Rattle.vast.specs.NumberedExpressions as text
use Rattle.vast.specs.NumberedModules.{RangeTree}
use Rattle.vdesign.specs.declared.expression.Bounds.{Bounds}
use Rattle.velab_expr.specs.declared.fault.ElabFault.{ElabFault}
use Rattle.velab_expr.specs.declared.fault.Rule.TheVariants as rule
use Rattle.velab_expr.specs.FirstWords.{first_in}
use Rattle.velab_expr.specs.Scopes.{Scope}
use Rattle.velab_expr.specs.Constants.{bound_in}
use Rattle.velab_expr.specs.Answers.{◌>>=◌, require, value_or_fault}
use Rattle.velab_expr.specs.Resolved.{lower_value}

-- rising or falling
abbrev pub span : Bounds → ℕ
span bounds = max bounds.left bounds.right - min bounds.left bounds.right + 1

-- 4.3.1: a bound, told by its first word where it is none
abbrev pub lower_bound : Scope → text.ExpressionTree → Result ℕ ElabFault
lower_bound scope tree = lower_value scope tree >>= λ value. value_or_fault (bound_in value) rule.Width (first_in tree)

-- at most 64 bits from one bound to the other
abbrev pub check_range_size : Option Word → Bounds → Result Bounds ElabFault
check_range_size word bounds = require (nat_le (span bounds) 64) rule.Width word bounds

abbrev pub lower_range : Scope → RangeTree → Result Bounds ElabFault
lower_range scope range =
    lower_bound scope range.left >>= λ left.
    lower_bound scope range.right >>= λ right.
    check_range_size (first_in range.left) (record { left = left; right = right })

-- the bounds of a range, where there is one
abbrev pub lower_bounds : Scope → Option RangeTree → Result (Option Bounds) ElabFault
lower_bounds scope None = Ok None
lower_bounds scope (Some range) = lower_range scope range >>= λ bounds. Ok (Some bounds)
