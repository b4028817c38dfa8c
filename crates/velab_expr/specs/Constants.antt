-- *trusted*: Constants that bounds and counts are (IEEE 1364-2005, 4.3.1, 4.10, 5.1.14, 5.2.1): expressions without variables.
use Rattle.std.specs.Prelude.{ℕ, nat_le, Bool, if◌then◌else◌, [], Option, None, Some, unwrap_or, option_and_then, Result}
use Rattle.vbits.specs.Letters.{is_one}
use Rattle.vbits.specs.Numbers as numbers
use Rattle.vbits.specs.Vectors.{Vector, sign_letter}
use Rattle.vdesign.specs.Expressions.{ExpressionTree}
use Rattle.vdesign.specs.declared.expression.Bounds.{Bounds}
use Rattle.vvalue.specs.Value.{Environment, self_determined_value}
use Rattle.vvalue.specs.Flaws.{flaw_of}
use Rattle.vast.specs.NumberedWords.{Word}
use Rattle.velab_expr.specs.Answers.{value_unless_flawed}
use Rattle.velab_expr.specs.declared.fault.ElabFault.{ElabFault}

-- there are no variables
abbrev pub nothing : Environment
nothing = record { values = []; variables = []; time = 0; factor = 1 }

-- what a constant expression is worth
abbrev pub constant_value : ExpressionTree → Vector
constant_value tree = self_determined_value nothing tree

-- the same where its sizes are right; else this is told by its first word
abbrev pub checked_constant : Option Word → ExpressionTree → Result Vector ElabFault
checked_constant word tree = value_unless_flawed (flaw_of nothing tree) word (constant_value tree)

abbrev pub is_negative : Vector → Bool
is_negative value = is_one (sign_letter value)

-- 0 to 65535, where the value is known; a negative bound (4.3.1) is none here (own)
abbrev pub bound_in : Vector → Option ℕ
bound_in value =
    if is_negative value then None
    else option_and_then (λ n. if nat_le n 65535 then Some n else None) (numbers.number value.letters)

-- of a part: 65536, which is no bound, stands for what is none
abbrev pub part_bounds : Vector → Vector → Bounds
part_bounds left right = record { left = unwrap_or (bound_in left) 65536; right = unwrap_or (bound_in right) 65536 }

-- of a replication: 0, which is no count, stands for what is none
abbrev pub count_in : Vector → ℕ
count_in count = unwrap_or (bound_in count) 0
