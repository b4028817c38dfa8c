-- *internal*: What words begin and join (IEEE 1364-2005, A.8).
use Rattle.std.specs.Prelude.{ℕ, nat_le, Bool, true, false, ◌&&◌, ◌==◌, not, if◌then◌else◌, List, [], ◌∷◌, Option, Some, None, codes}
use Rattle.std.specs.List.{list_any}
use Rattle.std.specs.Str.{bytes_eq}
use Rattle.vwords.specs.Words.{Text, is_name, is_number}
use Rattle.vast.specs.Expressions.{unary_word, binary_word, rank}
use Rattle.vwords.specs.declared.operators.UnaryOperator.{UnaryOperator}
use Rattle.vwords.specs.declared.operators.UnaryOperator.TheVariants as unary
use Rattle.vwords.specs.declared.operators.BinaryOperator.{BinaryOperator}
use Rattle.vwords.specs.declared.operators.BinaryOperator.TheVariants as binary
use Rattle.vexpr_parse.specs.declared.beginning.Beginning.{Beginning}
use Rattle.vexpr_parse.specs.declared.beginning.Beginning.TheVariants as start
use Rattle.vexpr_parse.specs.declared.beginning.Round.TheVariants as round
use Rattle.vexpr_parse.specs.Readers.{is_front}

abbrev pub unary_operators : List UnaryOperator
unary_operators =
    unary.Plus ∷ unary.Minus ∷ unary.Not ∷ unary.Invert ∷ unary.And ∷ unary.Nand ∷ unary.Or ∷ unary.Nor ∷ unary.Xor ∷ unary.Xnor ∷
    unary.XorNot ∷ []

abbrev pub binary_operators : List BinaryOperator
binary_operators =
    binary.Times ∷ binary.Divide ∷ binary.Remainder ∷ binary.Plus ∷ binary.Minus ∷ binary.ShiftLeft ∷ binary.ShiftRight
    ∷ binary.ShiftLeftSigned ∷ binary.ShiftRightSigned ∷ binary.Less ∷ binary.LessOrEqual ∷ binary.Greater ∷ binary.GreaterOrEqual
    ∷ binary.Equal ∷ binary.NotEqual ∷ binary.CaseEqual ∷ binary.CaseNotEqual ∷ binary.And ∷ binary.Xor ∷ binary.Xnor ∷ binary.XorNot
    ∷ binary.Or ∷ binary.LogicalAnd ∷ binary.LogicalOr ∷ []

-- the one that is written so
abbrev pub by_spelling : {A : Type 0} → (A → Text) → List A → Text → Option A
by_spelling spell [] word = None
by_spelling spell (one ∷ more) word = if bytes_eq (spell one) word then Some one else by_spelling spell more word

-- whether one of these bytes stands first
abbrev pub begins_among : List ℕ → Text → Bool
begins_among bytes [] = false
begins_among bytes (c ∷ cs) = list_any (λ byte. byte == c) bytes

unfoldable pub unary_of : Text → Option UnaryOperator
unary_of word = by_spelling unary_word unary_operators word

unfoldable pub binary_of : Text → Option BinaryOperator
binary_of word = by_spelling binary_word binary_operators word

abbrev pub by_operator : Option UnaryOperator → Beginning
by_operator None = start.Other
by_operator (Some operator) = start.Round (round.Operator operator)

-- what an expression's first word begins
unfoldable pub beginning_of : Text → Beginning
beginning_of word =
    if is_name word then start.Name
    else if is_number word then start.Number
    else if bytes_eq (codes "(") word then start.Round round.Parenthesis
    else if bytes_eq (codes "{") word then start.Round round.Brace
    else if bytes_eq (codes "$time") word then start.Time
    else if bytes_eq (codes "$signed") word then start.Round (round.Conversion true)
    else if bytes_eq (codes "$unsigned") word then start.Round (round.Conversion false)
    else by_operator (unary_of word)

abbrev pub is_ranked : ℕ → Option BinaryOperator → Bool
is_ranked least None = false
is_ranked least (Some operator) = nat_le least (rank operator)

-- whether a binary operator of this rank at least stands first
abbrev pub is_joined : ℕ → Option Text → Bool
is_joined least None = false
is_joined least (Some word) = is_ranked least (binary_of word)

-- whether a conditional may go on here, where its rank, 0, is high enough
abbrev pub is_asked : ℕ → Option Text → Bool
is_asked least first = nat_le least 0 && is_front (codes "?") first

-- where a primary ends: no select goes on
abbrev pub ends_primary : Option Text → Bool
ends_primary first = not (is_front (codes "[") first)

-- where operators of this rank at least have ended
abbrev pub ends_operators : ℕ → Option Text → Bool
ends_operators least first = ends_primary first && not (is_joined least first)

-- where an expression of this rank at least ends
abbrev pub ends : ℕ → Option Text → Bool
ends least first = ends_operators least first && not (is_asked least first)
