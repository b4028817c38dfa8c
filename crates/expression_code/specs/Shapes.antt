-- *internal*: Values that have the sizes and signs of their variables (IEEE 1364-2005, 4.3.1, 4.8): what the law of this crate is about.
use Rattle.std.specs.Prelude.{◌≡◌, ℕ, List, [], ◌∷◌, ◌++◌, length, map, replicate, slice_get, Option, Some, None}
use Rattle.std.specs.List.{Contains}
use Rattle.vbits.specs.declared.bit4.Bit4.TheVariants.{X}
use Rattle.vbits.specs.Vectors.{Vector}
use Rattle.vdesign.specs.Design.{Variable}
use Rattle.vdesign.specs.Expressions.{ExpressionTree, constant, variable, bit, bit_of, part, time, conversion, apply, combine, conditional, joined, repeated}
use Rattle.vvalue.specs.Value.{Environment}

-- 4.3.1, and 4.8 for `integer` and `time`: a value of the variable's length and sign
abbrev pub HasShape : Variable → Vector → Type 0
HasShape x value = (length value.letters ≡ x.length) × (value.signed ≡ x.signed)

-- each variable has one
abbrev pub AreShaped : List Variable → List Vector → Type 0
AreShaped [] [] = Unit {0}
AreShaped [] (value ∷ values) = ⊥
AreShaped (x ∷ variables) [] = ⊥
AreShaped (x ∷ variables) (value ∷ values) = HasShape x value × AreShaped variables values

-- the numbers of the variables that an expression names: by themselves, for a bit or for a part
abbrev pub reads : ExpressionTree → List ℕ
reads (constant c) = []
reads (variable n) = n ∷ []
reads (bit n index) = n ∷ reads index
reads (bit_of v bounds index) = reads index
reads (part n bounds) = n ∷ []
reads time = []
reads (conversion signed o) = reads o
reads (apply operator o) = reads o
reads (combine operator left right) = reads left ++ reads right
reads (conditional condition when_true when_false) = reads condition ++ (reads when_true ++ reads when_false)
reads (joined left right) = reads left ++ reads right
reads (repeated count o) = reads o

-- a value of its variable; or neither a variable nor a value
abbrev pub HasDeclaredShape : Option Variable → Option Vector → Type 0
HasDeclaredShape (Some x) (Some value) = HasShape x value
HasDeclaredShape (Some x) None = ⊥
HasDeclaredShape None (Some value) = ⊥
HasDeclaredShape None None = Unit {0}

-- each variable that the expression names has one, and where there is no variable of such a number there is no value either
abbrev pub AreReadShaped : List Variable → List Vector → ExpressionTree → Type 0
AreReadShaped variables values tree = (n : ℕ) → Contains (reads tree) n → HasDeclaredShape (slice_get variables n) (slice_get values n)

-- a value of the variable, with each of its bits x
abbrev pub blank : Variable → Vector
blank x = record { letters = replicate x.length X; signed = x.signed }

-- 5.4.1, 5.5.1: what sizes and signs of expressions depend on: how the variables are declared. They depend on no value
abbrev pub declared : List Variable → Environment
declared variables = record { values = map blank variables; variables = variables; time = 0; factor = 1 }
