-- Where its guards hold, code stands on values of its variables' sizes and signs.
use Rattle.std.proofs.Common.{◌≡◌, ℕ, zero, suc, ◌+◌, ◌==◌, max, min, nat_lt, Bool, true, false, if◌then◌else◌, ◌&&◌, ◌||◌, List, [], ◌∷◌, ◌++◌, length, Option, Some, None, refl, sym, ap, subst, ◌∙◌, append_assoc, arith}
use Rattle.std.specs.Prelude.{slice_get}
use Rattle.std.specs.Bool.{beq}
use Rattle.std.specs.List.{Contains}
use Rattle.std.proofs.lemmas.Bool.Decides.{nat_tests}
use Rattle.basis.proofs.Bools.{and_left, and_right, and_both, by_if}
use Rattle.vbits.specs.Vectors.{Vector}
use Rattle.vdesign.specs.Design.{Variable}
use Rattle.vdesign.specs.Expressions.{ExpressionTree, constant, variable, bit, bit_of, part, time, conversion, apply, combine, conditional, joined, repeated}
use Rattle.vdesign.specs.Nodes.{nodes_of}
use Rattle.vdesign.specs.declared.expression.Node.{Node}
use Rattle.vdesign.specs.declared.action.Target.{Target}
use Rattle.vdesign.specs.declared.action.Target.TheVariants.{Whole, Bit, Part}
use Rattle.vvalue.specs.Value.{Environment, value_at, self_determined_value, right_side}
use Rattle.vvalue.specs.Targets.{target_size, targets_size}
use Rattle.expression_code.specs.declared.guard.Guard.{Guard}
use Rattle.expression_code.specs.Shapes.{HasDeclaredShape, reads, declared}
use Rattle.expression_code.specs.Code.{code_value}
use Rattle.expression_code.specs.CodeOf.{self_determined_code, right_side_code}
use Rattle.expression_code.specs.Guards.{is_guarded, holds, all_hold, guarded_value, guard_by, guard_of, is_same_guard, is_among, with_guard, with_guards, sized_by, declared_size, guarded_expression, guarded_right_side, named_by, named_in}
use Rattle.expression_code.proofs.ShapeLemmas.{AreLike, IsLike, like_at}
use Rattle.expression_code.proofs.CodeLemmas.{by_itself_is, right_side_is}

-- ---- what is named

named_joined : (ms ns : List Node) → named_in (ms ++ ns) ≡ named_in ms ++ named_in ns
named_joined [] ns = refl
named_joined (node ∷ ms) ns =
    ap (λ rest. named_by node ++ rest) (named_joined ms ns) ∙ sym (append_assoc (named_by node) (named_in ms) (named_in ns))

-- the nodes of an expression name what it reads
pub named_is_read : (tree : ExpressionTree) → named_in (nodes_of tree) ≡ reads tree
named_is_read (constant c) = refl
named_is_read (variable n) = refl
named_is_read (bit n index) = ap (λ rest. n ∷ rest) (named_is_read index)
named_is_read (bit_of v bounds index) = named_is_read index
named_is_read (part n bounds) = refl
named_is_read time = refl
named_is_read (conversion signed o) = named_is_read o
named_is_read (apply operator o) = named_is_read o
named_is_read (combine operator left right) =
    named_joined (nodes_of left) (nodes_of right) ∙ (λ i. named_is_read left i ++ named_is_read right i)
named_is_read (conditional condition when_true when_false) =
    named_joined (nodes_of condition) (nodes_of when_true ++ nodes_of when_false)
    ∙ ap (λ rest. named_in (nodes_of condition) ++ rest) (named_joined (nodes_of when_true) (nodes_of when_false))
    ∙ (λ i. named_is_read condition i ++ (named_is_read when_true i ++ named_is_read when_false i))
named_is_read (joined left right) =
    named_joined (nodes_of left) (nodes_of right) ∙ (λ i. named_is_read left i ++ named_is_read right i)
named_is_read (repeated count o) = named_is_read o

-- ---- which guards there are

module _ (variables : List Variable) where
  pub guards_joined : (ms ns : List ℕ) (guards : List Guard) →
      with_guards variables (ms ++ ns) guards ≡ with_guards variables ns (with_guards variables ms guards)
  guards_joined [] ns guards = refl
  guards_joined (n ∷ ms) ns guards = guards_joined ms ns (with_guard (guard_of variables n) guards)

pub sized_first : (target : Target) (more : List Target) → sized_by (target ∷ more) ≡ sized_by (target ∷ []) ++ sized_by more
sized_first (Whole n) more = refl
sized_first (Bit n index) more = refl
sized_first (Part n selected) more = refl

-- ---- what holds

same_sign : (x y : Bool) → beq x y ≡ true → x ≡ y
same_sign true true e = refl
same_sign true false e = cc
same_sign false true e = cc
same_sign false false e = refl

same_number : (a b : ℕ) → (a == b) ≡ true → a ≡ b
same_number a b e = grind (arith, nat_tests)

-- a value with the size and the sign of its variable
shape_by : (n : ℕ) (x : Option Variable) (v : Option Vector) → is_guarded (guard_by n x) v ≡ true → HasDeclaredShape x v
shape_by n None None h = cc
shape_by n None (Some v) h = absurd cc
shape_by n (Some x) None h = absurd cc
shape_by n (Some x) (Some v) h =
    let same = and_right (nat_lt 0 x.length) (length v.letters == x.length && beq v.signed x.signed) h in (
      same_number (length v.letters) x.length (and_left (length v.letters == x.length) (beq v.signed x.signed) same),
      same_sign v.signed x.signed (and_right (length v.letters == x.length) (beq v.signed x.signed) same),
    )

-- the same guards hold alike
same_guard : (a b : Guard) → is_same_guard a b ≡ true → a ≡ b
same_guard a b h =
    let more = and_right (a.variable == b.variable) (a.size == b.size && beq a.signed b.signed) h in
    let variables : a.variable ≡ b.variable = same_number a.variable b.variable (and_left (a.variable == b.variable) (a.size == b.size && beq a.signed b.signed) h) in
    let sizes : a.size ≡ b.size = same_number a.size b.size (and_left (a.size == b.size) (beq a.signed b.signed) more) in
    let signs : a.signed ≡ b.signed = same_sign a.signed b.signed (and_right (a.size == b.size) (beq a.signed b.signed) more) in
    λ i. record { variable = variables i; size = sizes i; signed = signs i }

module _ (values : List Vector) where
  either_way : (guard other : Guard) (same : Bool) (guards : List Guard) → is_same_guard guard other ≡ same →
      (same || is_among guard guards) ≡ true → (is_among guard guards ≡ true → holds values guard ≡ true) → holds values other ≡ true → holds values guard ≡ true
  either_way guard other true guards is h later first = ap (holds values) (same_guard guard other is) ∙ first
  either_way guard other false guards is h later first = later h

  -- where all hold, one that is among them does
  among_holds : (guard : Guard) (guards : List Guard) → is_among guard guards ≡ true → all_hold values guards ≡ true → holds values guard ≡ true
  among_holds guard [] h all = absurd cc
  among_holds guard (other ∷ guards) h all =
      either_way guard other (is_same_guard guard other) guards refl h
      (λ there. among_holds guard guards there (and_right (holds values other) (all_hold values guards) all))
      (and_left (holds values other) (all_hold values guards) all)

  first_ones : (ones others : List Guard) → all_hold values (ones ++ others) ≡ true → all_hold values ones ≡ true
  first_ones [] others all = refl
  first_ones (guard ∷ ones) others all =
      and_both (holds values guard) (all_hold values ones) (and_left (holds values guard) (all_hold values (ones ++ others)) all)
      (first_ones ones others (and_right (holds values guard) (all_hold values (ones ++ others)) all))

  last_one : (ones : List Guard) (guard : Guard) → all_hold values (ones ++ guard ∷ []) ≡ true → holds values guard ≡ true
  last_one [] guard all = and_left (holds values guard) true all
  last_one (one ∷ ones) guard all = last_one ones guard (and_right (holds values one) (all_hold values (ones ++ guard ∷ [])) all)

  -- with one more: it holds, and so do those that were there
  one_more : (guard : Guard) (guards : List Guard) → all_hold values (with_guard guard guards) ≡ true → (holds values guard ≡ true) × (all_hold values guards ≡ true)
  one_more guard guards =
      by_if (λ made. all_hold values made ≡ true → (holds values guard ≡ true) × (all_hold values guards ≡ true))
      (is_among guard guards) guards (guards ++ guard ∷ [])
      (λ there all. (among_holds guard guards there all, all))
      (λ new all. (last_one guards guard all, first_ones guards (guard ∷ []) all))

  module _ (variables : List Variable) where
    abbrev Guarded : ℕ → Type 0
    Guarded n = holds values (guard_of variables n) ≡ true

    abbrev AllGuarded : List ℕ → Type 0
    AllGuarded numbers = (n : ℕ) → Contains numbers n → Guarded n

    first_or_later : (m : ℕ) (numbers : List ℕ) → Guarded m → AllGuarded numbers → AllGuarded (m ∷ numbers)
    first_or_later m numbers first later n (zero, within, is) = subst Guarded is first
    first_or_later m numbers first later n (suc k, within, is) = later n (k, omega (arith, within), is)

    -- with those of these variables: they hold, and so do those that were there
    pub all_guarded : (numbers : List ℕ) (guards : List Guard) → all_hold values (with_guards variables numbers guards) ≡ true →
        AllGuarded numbers × (all_hold values guards ≡ true)
    all_guarded [] guards all = ((λ n there. absurd (nowhere n there)), all)
      where
        nowhere : (n : ℕ) → Contains [] n → ⊥
        nowhere n (k, within, is) = omega (arith, within)
    all_guarded (m ∷ numbers) guards all =
        let more = all_guarded numbers (with_guard (guard_of variables m) guards) all in
        let this = one_more (guard_of variables m) guards more.1 in
        (first_or_later m numbers this.0 more.0, this.1)

    shaped : (numbers : List ℕ) → AllGuarded numbers → (n : ℕ) → Contains numbers n → HasDeclaredShape (slice_get variables n) (slice_get values n)
    shaped numbers all n there = shape_by n (slice_get variables n) (slice_get values n) (all n there)

-- ---- the law

value_within : (values : List Vector) (guards : List Guard) (made v : Vector) (P : Type 0) →
    (all_hold values guards ≡ true → P) → (if all_hold values guards then Some made else None) ≡ Some v → P × (made ≡ v)
value_within values guards made v P f =
    by_if (λ (value : Option Vector). value ≡ Some v → P × (made ≡ v)) (all_hold values guards) (Some made) None
    (λ all is. (f all, cc)) (λ fails is. absurd cc)

module _ (now : Environment) where
  like_all : (numbers : List ℕ) → AllGuarded now.values now.variables numbers → AreLike now numbers
  like_all numbers all = λ n there. like_at now.variables now.values n (shaped now.values now.variables numbers all n there)

  pub expression_is : (tree : ExpressionTree) (v : Vector) →
      guarded_value now.values now.time (guarded_expression now.variables tree) ≡ Some v → v ≡ self_determined_value now tree
  expression_is tree v h =
      let found = value_within now.values (with_guards now.variables (reads tree) []) (code_value now.values now.time (self_determined_code now.variables tree)) v
      (AllGuarded now.values now.variables (reads tree)) (λ all. (all_guarded now.values now.variables (reads tree) [] all).0) h in
      sym found.1 ∙ by_itself_is now tree (like_all (reads tree) found.0)

  first_sized : (n : ℕ) (numbers : List ℕ) → AreLike now (n ∷ numbers) → IsLike (value_at now n) (value_at (declared now.variables) n)
  first_sized n numbers like = like n (0, omega arith, refl)

  later_sized : (n : ℕ) (numbers : List ℕ) → AreLike now (n ∷ numbers) → AreLike now numbers
  later_sized n numbers like = λ m there. like m (suc there.0, omega (arith, there.1), there.2)

  -- targets have as many bits as are declared
  sizes_same : (targets : List Target) → AreLike now (sized_by targets) → targets_size now targets ≡ targets_size (declared now.variables) targets
  sizes_same [] like = refl
  sizes_same (Whole n ∷ more) like =
      let head = first_sized n (sized_by more) like in
      let tail = sizes_same more (later_sized n (sized_by more) like) in
      λ i. head.size i + tail i
  sizes_same (Bit n index ∷ more) like = ap (λ size. 1 + size) (sizes_same more like)
  sizes_same (Part n selected ∷ more) like = ap (λ size. target_size now (Part n selected) + size) (sizes_same more like)

  pub right_side_guarded : (targets : List Target) (tree : ExpressionTree) (v : Vector) →
      guarded_value now.values now.time (guarded_right_side now.variables targets tree) ≡ Some v → v ≡ right_side now (max 1 (min 64 (targets_size now targets))) tree
  right_side_guarded targets tree v h =
      let count = declared_size now.variables targets in
      let firsts = with_guards now.variables (sized_by targets) [] in
      let found = value_within now.values (with_guards now.variables (reads tree) firsts) (code_value now.values now.time (right_side_code now.variables count tree)) v
      (AllGuarded now.values now.variables (reads tree) × AllGuarded now.values now.variables (sized_by targets))
      (λ all.
      let these = all_guarded now.values now.variables (reads tree) firsts all in
      (these.0, (all_guarded now.values now.variables (sized_by targets) [] these.1).0)) h in
      let sizes = sizes_same targets (like_all (sized_by targets) found.0.1) in
      sym found.1 ∙ right_side_is now count tree (like_all (reads tree) found.0.0)
      ∙ ap (λ size. right_side now (max 1 (min 64 size)) tree) (sym sizes)
