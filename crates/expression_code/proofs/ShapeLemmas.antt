-- Sizes and signs of expressions: they depend on the sizes and signs of the values of the variables that they read, and on nothing else.
use Rattle.std.proofs.Common.{◌≡◌, ℕ, zero, suc, ◌+◌, ◌-◌, ◌*◌, max, min, ◌&&◌, List, [], ◌∷◌, ◌++◌, length, map, refl, sym, ap, ◌∙◌, arith}
use Rattle.std.specs.Prelude.{slice_get, unwrap_or, option_and_then}
use Rattle.std.specs.List.{Contains}
use Rattle.std.proofs.lemmas.List.{length-replicate}
use Rattle.std.proofs.lemmas.List.Elements.{Contains-append_left, Contains-append_right}
use Rattle.vbits.specs.declared.bit4.Bit4.TheVariants.{X}
use Rattle.vbits.specs.Vectors.{Vector, filled}
use Rattle.vdesign.specs.Design.{Variable}
use Rattle.vdesign.specs.Expressions.{ExpressionTree, constant, variable, bit, bit_of, part, time, conversion, apply, combine, conditional, joined, repeated}
use Rattle.vvalue.specs.OperandRules.{operand_rule, unary_operand_rule}
use Rattle.vvalue.specs.Value.{Environment, value_at, size_of, is_signed, size_by, unary_size, sign_by, unary_sign, self_determined, bounds_of}
use Rattle.expression_code.specs.Shapes.{HasShape, AreShaped, HasDeclaredShape, AreReadShaped, reads, blank, declared}

-- two values of one size and sign
pub record IsLike (v w : Vector) : Type 0 where
  pub size : length v.letters ≡ length w.letters
  pub sign : v.signed ≡ w.signed

like_blank : (x : Variable) (v : Vector) → HasShape x v → IsLike v (blank x)
like_blank x v h = record { size = h.0 ∙ sym (length-replicate x.length X); sign = h.1 }

pub like_at : (variables : List Variable) (values : List Vector) (n : ℕ) → HasDeclaredShape (slice_get variables n) (slice_get values n) →
    IsLike (unwrap_or (slice_get values n) (filled 1 X)) (unwrap_or (slice_get (map blank variables) n) (filled 1 X))
like_at [] [] n h = record { size = refl; sign = refl }
like_at [] (v ∷ vs) zero h = absurd h
like_at [] (v ∷ vs) (suc n) h = like_at [] vs n h
like_at (x ∷ xs) [] zero h = absurd h
like_at (x ∷ xs) [] (suc n) h = like_at xs [] n h
like_at (x ∷ xs) (v ∷ vs) zero h = like_blank x v h
like_at (x ∷ xs) (v ∷ vs) (suc n) h = like_at xs vs n h

declared_shape : (variables : List Variable) (values : List Vector) (n : ℕ) → AreShaped variables values → HasDeclaredShape (slice_get variables n) (slice_get values n)
declared_shape [] [] n h = h
declared_shape [] (v ∷ vs) n h = absurd h
declared_shape (x ∷ xs) [] n h = absurd h
declared_shape (x ∷ xs) (v ∷ vs) zero h = h.0
declared_shape (x ∷ xs) (v ∷ vs) (suc n) h = declared_shape xs vs n h.1

-- where all values are those of their variables, so are those that an expression reads
pub reads_shaped : (variables : List Variable) (values : List Vector) (tree : ExpressionTree) → AreShaped variables values → AreReadShaped variables values tree
reads_shaped variables values tree h = λ n has. declared_shape variables values n h

pub first_read : (n : ℕ) (others : List ℕ) → Contains (n ∷ others) n
first_read n others = (0, omega arith, refl)

module _ (now : Environment) where
  -- the values that an expression reads are like those that are declared
  abbrev pub AreLike : List ℕ → Type 0
  AreLike numbers = (n : ℕ) → Contains numbers n → IsLike (value_at now n) (value_at (declared now.variables) n)

  pub like_read : (tree : ExpressionTree) → AreReadShaped now.variables now.values tree → AreLike (reads tree)
  like_read tree shaped = λ n has. like_at now.variables now.values n (shaped n has)

  pub like_left : (ms ns : List ℕ) → AreLike (ms ++ ns) → AreLike ms
  like_left ms ns like = λ n has. like n (Contains-append_left ms ns n has)

  pub like_right : (ms ns : List ℕ) → AreLike (ms ++ ns) → AreLike ns
  like_right ms ns like = λ n has. like n (Contains-append_right ms ns n has)

  pub size_same : (tree : ExpressionTree) → AreLike (reads tree) → size_of now tree ≡ size_of (declared now.variables) tree
  size_same (constant c) like = refl
  size_same (variable n) like = (like n (first_read n [])).size
  size_same (bit n index) like = refl
  size_same (bit_of v bounds index) like = refl
  size_same (part n bounds) like = refl
  size_same time like = refl
  size_same (conversion signed o) like = size_same o like
  size_same (apply operator o) like = ap (unary_size (unary_operand_rule operator)) (size_same o like)
  size_same (combine operator left right) like =
      let ones = like_left (reads left) (reads right) like in
      let others = like_right (reads left) (reads right) like in
      λ i. size_by (operand_rule operator) (size_same left ones i) (size_same right others i)
  size_same (conditional condition when_true when_false) like =
      let branches = like_right (reads condition) (reads when_true ++ reads when_false) like in
      let ones = like_left (reads when_true) (reads when_false) branches in
      let others = like_right (reads when_true) (reads when_false) branches in
      λ i. max (size_same when_true ones i) (size_same when_false others i)
  size_same (joined left right) like =
      let ones = like_left (reads left) (reads right) like in
      let others = like_right (reads left) (reads right) like in
      λ i. min 64 (size_same left ones i + size_same right others i)
  size_same (repeated count o) like = ap (λ n. min 64 (max 1 count * n)) (size_same o like)

  pub sign_same : (tree : ExpressionTree) → AreLike (reads tree) → is_signed now tree ≡ is_signed (declared now.variables) tree
  sign_same (constant c) like = refl
  sign_same (variable n) like = (like n (first_read n [])).sign
  sign_same (bit n index) like = refl
  sign_same (bit_of v bounds index) like = refl
  sign_same (part n bounds) like = refl
  sign_same time like = refl
  sign_same (conversion signed o) like = refl
  sign_same (apply operator o) like = ap (unary_sign (unary_operand_rule operator)) (sign_same o like)
  sign_same (combine operator left right) like =
      let ones = like_left (reads left) (reads right) like in
      let others = like_right (reads left) (reads right) like in
      λ i. sign_by (operand_rule operator) (sign_same left ones i) (sign_same right others i)
  sign_same (conditional condition when_true when_false) like =
      let branches = like_right (reads condition) (reads when_true ++ reads when_false) like in
      let ones = like_left (reads when_true) (reads when_false) branches in
      let others = like_right (reads when_true) (reads when_false) branches in
      λ i. sign_same when_true ones i && sign_same when_false others i
  sign_same (joined left right) like = refl
  sign_same (repeated count o) like = refl

  -- what an expression is by itself is settled by the declarations
  pub own_same : (tree : ExpressionTree) → AreLike (reads tree) → self_determined now tree ≡ self_determined (declared now.variables) tree
  own_same tree like = λ i. record { size = size_same tree like i; signed = sign_same tree like i }

  pub bounds_same : (n : ℕ) → IsLike (value_at now n) (value_at (declared now.variables) n) → bounds_of now n ≡ bounds_of (declared now.variables) n
  bounds_same n like =
      ap (λ (count : ℕ). unwrap_or (option_and_then (λ v. v.bounds) (slice_get now.variables n)) (record { left = count - 1; right = 0 })) like.size
