-- *internal*: Code with its guards: which sizes and signs it takes the values of which variables to have (IEEE 1364-2005, 4.3.1, 4.8). Where
-- a guard doesn't hold, the code has no value.
use Rattle.std.specs.Prelude.{ℕ, ◌==◌, max, min, nat_lt, Bool, true, false, if◌then◌else◌, ◌&&◌, ◌||◌, List, [], ◌∷◌, ◌++◌, length, slice_get, Option, None, Some}
use Rattle.std.specs.Bool.{beq}
use Rattle.vbits.specs.Vectors.{Vector}
use Rattle.vdesign.specs.Design.{Variable}
use Rattle.vdesign.specs.Expressions.{ExpressionTree}
use Rattle.vdesign.specs.declared.expression.Node.{Node}
use Rattle.vdesign.specs.declared.expression.Node.TheVariants as nodes
use Rattle.vdesign.specs.declared.action.Target.{Target}
use Rattle.vdesign.specs.declared.action.Target.TheVariants.{Whole, Bit, Part}
use Rattle.vvalue.specs.Targets.{targets_size}
use Rattle.expression_code.specs.declared.guard.Guard.{Guard}
use Rattle.expression_code.specs.Shapes.{reads, declared}
use Rattle.expression_code.specs.Code.{CodeTree, code_value}
use Rattle.expression_code.specs.CodeOf.{self_determined_code, right_side_code}

pub record GuardedCode : Type 0 where
  pub guards : List Guard
  pub code : CodeTree

-- ---- what guards ask

-- a value has the size and the sign; no value has 0 bits
abbrev pub is_guarded : Guard → Option Vector → Bool
is_guarded guard None = false
is_guarded guard (Some v) = nat_lt 0 guard.size && (length v.letters == guard.size && beq v.signed guard.signed)

abbrev pub holds : List Vector → Guard → Bool
holds values guard = is_guarded guard (slice_get values guard.variable)

abbrev pub all_hold : List Vector → List Guard → Bool
all_hold values [] = true
all_hold values (guard ∷ guards) = holds values guard && all_hold values guards

-- the value of the code, where its guards hold
abbrev pub guarded_value : List Vector → ℕ → GuardedCode → Option Vector
guarded_value values moment guarded = if all_hold values guarded.guards then Some (code_value values moment guarded.code) else None

-- ---- which guards there are

-- how many bits a variable is declared with; none, where there is no variable
abbrev pub length_if : Option Variable → ℕ
length_if None = 0
length_if (Some x) = x.length

abbrev pub sign_if : Option Variable → Bool
sign_if None = false
sign_if (Some x) = x.signed

-- one that asks for what is declared
abbrev pub guard_by : ℕ → Option Variable → Guard
guard_by n x = record { variable = n; size = length_if x; signed = sign_if x }

abbrev pub guard_of : List Variable → ℕ → Guard
guard_of variables n = guard_by n (slice_get variables n)

abbrev pub is_same_guard : Guard → Guard → Bool
is_same_guard a b = a.variable == b.variable && (a.size == b.size && beq a.signed b.signed)

abbrev pub is_among : Guard → List Guard → Bool
is_among guard [] = false
is_among guard (other ∷ guards) = is_same_guard guard other || is_among guard guards

-- one more, unless it is there
abbrev pub with_guard : Guard → List Guard → List Guard
with_guard guard guards = if is_among guard guards then guards else guards ++ guard ∷ []

-- those of these variables, behind others
abbrev pub with_guards : List Variable → List ℕ → List Guard → List Guard
with_guards variables [] guards = guards
with_guards variables (n ∷ numbers) guards = with_guards variables numbers (with_guard (guard_of variables n) guards)

-- the variables whose sizes the targets of an assignment have (6.2)
abbrev pub sized_by : List Target → List ℕ
sized_by [] = []
sized_by (Whole n ∷ more) = n ∷ sized_by more
sized_by (Bit n index ∷ more) = sized_by more
sized_by (Part n selected ∷ more) = sized_by more

-- how many bits the targets have, as their variables are declared; 1 to 64
abbrev pub declared_size : List Variable → List Target → ℕ
declared_size variables targets = max 1 (min 64 (targets_size (declared variables) targets))

-- ---- the code of what actions ask of an expression

-- by itself
abbrev pub guarded_expression : List Variable → ExpressionTree → GuardedCode
guarded_expression variables e = record {
  guards = with_guards variables (reads e) [];
  code = self_determined_code variables e;
}

-- 5.5.3: as the right side of an assignment
abbrev pub guarded_right_side : List Variable → List Target → ExpressionTree → GuardedCode
guarded_right_side variables targets e = record {
  guards = with_guards variables (reads e) (with_guards variables (sized_by targets) []);
  code = right_side_code variables (declared_size variables targets) e;
}

-- ---- the same by nodes

-- the variable that a node names, if it names one
abbrev pub named_by : Node → List ℕ
named_by (nodes.Variable n) = n ∷ []
named_by (nodes.Bit n) = n ∷ []
named_by (nodes.Part n bounds) = n ∷ []
named_by _ = []

abbrev pub named_in : List Node → List ℕ
named_in [] = []
named_in (node ∷ more) = named_by node ++ named_in more
