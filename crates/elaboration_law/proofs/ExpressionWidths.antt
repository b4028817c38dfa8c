-- Sizes of expressions: where one is lowered and has no flaw they are right; and where one is told, they aren't.
use Rattle.std.proofs.Common.{◌≡◌, ◌≤◌, ℕ, ◌+◌, ◌*◌, min, max, nat_le, nat_lt, Bool, true, false, not, ◌||◌, ◌&&◌, length, slice_get, unwrap_or, is_some, Option, None, Some, Result, Ok, Err, refl, sym, ap, ◌∙◌, subst, arith}
use Rattle.std.specs.Option.{option_or}
use Rattle.std.proofs.lemmas.Bool.Decides.{nat_tests}
use Rattle.basis.proofs.Bools.{and_left, and_right, and_both, same_truth}
use Rattle.vbits.specs.Vectors.{Vector}
use Rattle.vwords.specs.Words.{Text}
use Rattle.vast.specs.NumberedWords.{Word}
use Rattle.vast.specs.NumberedExpressions as text
use Rattle.vwords.specs.declared.operators.BinaryOperator.{BinaryOperator}
use Rattle.vwords.specs.declared.operators.UnaryOperator.{UnaryOperator}
use Rattle.vdesign.specs.Expressions.{ExpressionTree}
use Rattle.vast.specs.NumberedModules.{RangeTree}
use Rattle.vdesign.specs.Expressions as design
use Rattle.vdesign.specs.declared.expression.Bounds.{Bounds}
use Rattle.vvalue.specs.Value.{Environment, value_at, bounds_of, part_size, part_of, size_of, size_by, unary_size}
use Rattle.vvalue.proofs.SelectLemmas.{part_length}
use Rattle.vvalue.specs.OperandRules.{operand_rule, unary_operand_rule}
use Rattle.vvalue.specs.Flaws.{flaw_of, has_bits, is_part}
use Rattle.vvalue.specs.Flaws as flaws
use Rattle.vvalue.specs.declared.flaw.Flaw.{Flaw}
use Rattle.vvalue.specs.declared.flaw.Flaw.TheVariants.{NoBits, Size}
use Rattle.velab_expr.specs.declared.fault.Rule.{Rule}
use Rattle.velab_expr.specs.declared.fault.Rule.TheVariants.{Top, Doubled, Unknown, Drivers, Ports, Width, Constant, Depth, TooMany, Kind}
use Rattle.velab_expr.specs.declared.fault.ElabFault.{ElabFault}
use Rattle.velab_expr.specs.declared.scope.Meaning.{Meaning}
use Rattle.velab_expr.specs.declared.scope.Meaning.TheVariants.{Variable, Parameter, Event, Instance}
use Rattle.velab_expr.specs.declared.scope.Operand.{Operand}
use Rattle.velab_expr.specs.declared.scope.Operand.TheVariants as operand
use Rattle.velab_expr.specs.Answers.{◌>>=◌, require, answer_if, value_or_fault, value_unless_flawed}
use Rattle.velab_expr.specs.FirstWords.{first_in, first_among}
use Rattle.velab_expr.specs.Scopes.{Scope, meaning_of, bounds_for, operand_by, lower_name}
use Rattle.velab_expr.specs.Constants.{nothing, constant_value, checked_constant, bound_in, part_bounds, count_in}
use Rattle.velab_expr.specs.Resolved.{plain, operand_tree, bit_in, count_of, check_part_count, replicate_by, lower, lower_parts, lower_constant, lower_value}
use Rattle.velab_expr.specs.Resolved as resolved
use Rattle.velab_expr.specs.Ranges.{span, lower_bound, check_range_size, lower_bounds}
use Rattle.elaboration_law.specs.Widths.{Worth, meant, meant_parts, constant_in, selected_by, size_in, joined_size, part_in, can_repeat, is_sized, are_sized, is_bound, is_range}
use Rattle.elaboration_law.specs.Worths.{bounds_by}
use Rattle.elaboration_law.proofs.UseLemmas.{first_false, second_false}
use Rattle.elaboration_law.proofs.SizeLemmas.{AreVectors, sized, joined_is, counted}

abbrev pub is_width : Rule → Bool
is_width Top = false
is_width Doubled = false
is_width Unknown = false
is_width Drivers = false
is_width Ports = false
is_width Width = true
is_width Constant = false
is_width Depth = false
is_width TooMany = false
is_width Kind = false

-- ---- flaws

-- without a flaw this holds, and where a size is one it doesn't
abbrev pub Says : Option Flaw → Bool → Type 0
Says None holds = holds ≡ true
Says (Some NoBits) holds = Unit {0}
Says (Some Size) holds = holds ≡ false

pub both_say : (a b : Option Flaw) (one other : Bool) → Says a one → Says b other → Says (option_or a b) (one && other)
both_say None None one other h k = and_both one other h k
both_say None (Some NoBits) one other h k = tt
both_say None (Some Size) one other h k = second_false one other k
both_say (Some NoBits) b one other h k = tt
both_say (Some Size) b one other h k = first_false one other h

pub unless_says : (holds : Bool) → Says (flaws.unless holds Size) holds
unless_says true = refl
unless_says false = refl

pub bits_say : (holds : Bool) → Says (flaws.unless holds NoBits) true
bits_say true = refl
bits_say false = tt

-- what holds behind two that hold
pub behind_both : (a b c : Bool) → a ≡ true → b ≡ true → (a && (b && c)) ≡ c
behind_both true true c h k = refl
behind_both true false c h k = absurd cc
behind_both false b c h k = absurd cc

pub true_first : (a b : Bool) → a ≡ true → (a && b) ≡ b
true_first true b h = refl
true_first false b h = absurd cc

regrouped : (a b c d : Bool) → (a && ((b && c) && d)) ≡ ((a && b) && (c && d))
regrouped true true c d = refl
regrouped true false c d = refl
regrouped false b c d = refl

-- ---- numbers

within_holds : (n : ℕ) → n ≤ 64 → nat_le n 64 ≡ true
within_holds n h = grind (arith, nat_tests)

pub is_within : (n : ℕ) → nat_le n 64 ≡ true → n ≤ 64
is_within n h = grind (arith, nat_tests)

-- parts in front of others: together few exactly where the others are few, and all with them
joined_within : (front rest : ℕ) → (nat_le rest 64 && nat_le (front + min 64 rest) 64) ≡ nat_le (front + rest) 64
joined_within front rest = same_truth (nat_le rest 64 && nat_le (front + min 64 rest) 64) (nat_le (front + rest) 64) forth back
  where
    forth : (nat_le rest 64 && nat_le (front + min 64 rest) 64) ≡ true → nat_le (front + rest) 64 ≡ true
    forth e =
        let few = is_within rest (and_left (nat_le rest 64) (nat_le (front + min 64 rest) 64) e) in
        let all = is_within (front + min 64 rest) (and_right (nat_le rest 64) (nat_le (front + min 64 rest) 64) e) in
        within_holds (front + rest) (omega (arith, few, all))

    back : nat_le (front + rest) 64 ≡ true → (nat_le rest 64 && nat_le (front + min 64 rest) 64) ≡ true
    back e =
        let all = is_within (front + rest) e in
        and_both (nat_le rest 64) (nat_le (front + min 64 rest) 64) (within_holds rest (omega (arith, all))) (within_holds (front + min 64 rest) (omega (arith, all)))

-- there are more parts than bits that fit
too_many : (count size : ℕ) → nat_le count 64 ≡ false → count ≤ size → nat_le size 64 ≡ false
too_many count size many each = grind (arith, nat_tests)

alone_within : (a : Bool) (n : ℕ) → n ≤ 64 → a ≡ ((a && true) && nat_le (n + 0) 64)
alone_within true n h = sym (within_holds (n + 0) (omega (arith, h)))
alone_within false n h = refl

-- ---- what names are worth, as a scope and an environment have it; in a constant no name is a variable's

pub record AreWorth (fixed : Bool) (now : Environment) (scope : Scope) (named : Text → Worth) : Type 0 where
  pub of_parameter : (name : Word) (value : Vector) (bounds : Option Bounds) (before : ℕ) → meaning_of scope name ≡ Some (Parameter value bounds before) →
      named name.letters ≡ record { value = value; bounds = bounds_for value bounds }
  pub of_variable : (name : Word) (number : ℕ) → fixed ≡ false → meaning_of scope name ≡ Some (Variable number) →
      (length (value_at now number).letters ≡ length (named name.letters).value.letters) × (bounds_of now number ≡ (named name.letters).bounds)

-- as constants they are worth the same
pub worth_of_constants : (fixed : Bool) (now : Environment) (scope : Scope) (named : Text → Worth) → AreWorth fixed now scope named → AreWorth true nothing scope named
worth_of_constants fixed now scope named h = record { of_parameter = h.of_parameter; of_variable = λ name number no is. absurd cc }

module _ (fixed : Bool) (now : Environment) where
  -- a variable is read, which has so many bits
  pub record IsRead (w : Worth) (number : ℕ) : Type 0 where
    pub free : fixed ≡ false
    pub long : length (value_at now number).letters ≡ length w.value.letters
    pub ranged : bounds_of now number ≡ w.bounds

  -- an operand is worth so much
  abbrev Stands : Worth → Operand → Type 0
  Stands w (operand.Variable number) = IsRead w number
  Stands w (operand.Parameter value bounds) = w ≡ record { value = value; bounds = bounds }

  abbrev AnswerStands : Worth → Result Operand ElabFault → Type 0
  AnswerStands w (Ok o) = Stands w o
  AnswerStands w (Err fault) = is_width fault.rule ≡ false

  -- what an expression is lowered to is of its size, and as a constant it is what is meant
  pub record IsLike (e meaning : ExpressionTree) (holds : Bool) : Type 0 where
    pub same : fixed ≡ true → e ≡ meaning
    pub size : size_of now e ≡ size_of nothing meaning
    pub says : Says (flaw_of now e) holds

  -- lowered to what is meant; and where a size is told, it isn't right
  abbrev pub Sizes : ExpressionTree → Bool → Result ExpressionTree ElabFault → Type 0
  Sizes meaning holds (Ok e) = IsLike e meaning holds
  Sizes meaning holds (Err fault) = is_width fault.rule ≡ true → holds ≡ false

-- a constant is worth what is meant, and its sizes are right
abbrev pub IsMeasured : ExpressionTree → Bool → Result Vector ElabFault → Type 0
IsMeasured meaning holds (Ok v) = (v ≡ constant_value meaning) × (holds ≡ true)
IsMeasured meaning holds (Err fault) = is_width fault.rule ≡ true → holds ≡ false

pub measured_is : (word : Option Word) (meaning : ExpressionTree) (holds : Bool) (a : Result ExpressionTree ElabFault) → Sizes true nothing meaning holds a →
    IsMeasured meaning holds (a >>= checked_constant word)
measured_is word meaning holds (Ok e) h = by (flaw_of nothing e) h.says
  where
    by : (flaw : Option Flaw) → Says flaw holds → IsMeasured meaning holds (value_unless_flawed flaw word (constant_value e))
    by None s = (ap constant_value (h.same refl), s)
    by (Some NoBits) s = λ no. absurd cc
    by (Some Size) s = λ is. s
measured_is word meaning holds (Err fault) h = h

abbrev pub IsConstant : ExpressionTree → Bool → Result ExpressionTree ElabFault → Type 0
IsConstant meaning holds (Ok e) = (e ≡ meaning) × (holds ≡ true)
IsConstant meaning holds (Err fault) = is_width fault.rule ≡ true → holds ≡ false

-- a constant is this bound
abbrev pub IsBound : Vector → Bool → Result ℕ ElabFault → Type 0
IsBound value holds (Ok n) = (bound_in value ≡ Some n) × (holds ≡ true)
IsBound value holds (Err fault) = is_width fault.rule ≡ true → holds ≡ false

-- the bounds of a range
abbrev pub IsRange : (Text → Worth) → Option RangeTree → Bool → Result (Option Bounds) ElabFault → Type 0
IsRange named range holds (Ok bounds) = (bounds ≡ bounds_by named range) × (holds ≡ true)
IsRange named range holds (Err fault) = is_width fault.rule ≡ true → holds ≡ false

-- ---- one expression of others

module _ (fixed : Bool) (now : Environment) where
  name_sizes : (w : Worth) (a : Result Operand ElabFault) → AnswerStands fixed now w a → Sizes fixed now (plain w.value) true (a >>= λ o. Ok (operand_tree o))
  name_sizes w (Ok (operand.Variable number)) s = record { same = λ f. absurd (let no = s.free in cc); size = s.long; says = refl }
  name_sizes w (Ok (operand.Parameter value bounds)) s =
      record { same = λ f. ap (λ (x : Worth). plain x.value) (sym s); size = ap (λ (x : Worth). length x.value.letters) (sym s); says = refl }
  name_sizes w (Err fault) s = λ e. absurd cc

  time_sizes : (f : Bool) (word : Word) → Sizes f now design.time true (require (not f) Constant (Some word) design.time)
  time_sizes true word = λ e. absurd cc
  time_sizes false word = record { same = λ f. refl; size = refl; says = refl }

  bit_sizes : (w : Worth) (meaning : ExpressionTree) (holds : Bool) (a : Result Operand ElabFault) (b : Result ExpressionTree ElabFault) →
      AnswerStands fixed now w a → Sizes fixed now meaning holds b →
      Sizes fixed now (design.bit_of w.value w.bounds meaning) holds (a >>= λ o. b >>= λ place. Ok (bit_in o place))
  bit_sizes w meaning holds (Ok (operand.Variable number)) (Ok place) s h =
      let bits = has_bits (slice_get now.variables number) in
      record { same = λ f. absurd (let no = s.free in cc); size = refl; says = both_say (flaws.unless bits NoBits) (flaw_of now place) true holds (bits_say bits) h.says }
  bit_sizes w meaning holds (Ok (operand.Parameter value bounds)) (Ok place) s h =
      record { same = λ f i. design.bit_of (sym s i).value (sym s i).bounds (h.same f i); size = refl; says = h.says }
  bit_sizes w meaning holds (Ok o) (Err fault) s h = h
  bit_sizes w meaning holds (Err fault) b s h = λ e. absurd cc

  selected_sizes : (w : Worth) (selected : Bounds) (name : Word) (o : Operand) → Stands fixed now w o →
      Sizes fixed now (part_in w selected) (is_part w.bounds selected) (resolved.part_in o selected name)
  selected_sizes w selected name (operand.Variable number) s =
      let bits = has_bits (slice_get now.variables number) in
      record {
        same = λ f. absurd (let no = s.free in cc);
        size = sym (part_length w.value w.bounds selected (part_size selected));
        says = subst (λ (b : Bounds). Says (flaw_of now (design.part number selected)) (is_part b selected)) s.ranged
            (both_say (flaws.unless bits NoBits) (flaws.unless (is_part (bounds_of now number) selected) Size) true (is_part (bounds_of now number) selected)
            (bits_say bits) (unless_says (is_part (bounds_of now number) selected)));
      }
  selected_sizes w selected name (operand.Parameter value bounds) s =
      subst (λ (x : Worth). Sizes fixed now (part_in x selected) (is_part x.bounds selected) (resolved.part_in (operand.Parameter value bounds) selected name)) (sym s)
      (by (is_part bounds selected))
    where
      by : (test : Bool) → Sizes fixed now (plain (part_of value bounds selected (part_size selected))) test
          (require test Width (Some name) (plain (part_of value bounds selected (part_size selected))))
      by true = record { same = λ f. refl; size = refl; says = refl }
      by false = λ e. refl

  part_sizes : (w : Worth) (left right : ExpressionTree) (one other : Bool) (name : Word) (a : Result Operand ElabFault) (b c : Result Vector ElabFault) →
      AnswerStands fixed now w a → IsMeasured left one b → IsMeasured right other c →
      Sizes fixed now (part_in w (part_bounds (constant_value left) (constant_value right))) (one && (other && is_part w.bounds (part_bounds (constant_value left) (constant_value right))))
      (a >>= λ o. b >>= λ high. c >>= λ low. resolved.part_in o (part_bounds high low) name)
  part_sizes w left right one other name (Ok o) (Ok high) (Ok low) s h k =
      let selected = part_bounds (constant_value left) (constant_value right) in
      let holds = one && (other && is_part w.bounds selected) in
      let is : selected ≡ part_bounds high low = λ i. part_bounds (sym h.0 i) (sym k.0 i) in
      subst (λ (b : Bounds). Sizes fixed now (part_in w selected) holds (resolved.part_in o b name)) is
      (subst (λ (b : Bool). Sizes fixed now (part_in w selected) b (resolved.part_in o selected name)) (sym (behind_both one other (is_part w.bounds selected) h.1 k.1))
      (selected_sizes w selected name o s))
  part_sizes w left right one other name (Ok o) (Ok high) (Err fault) s h k =
      λ e. second_false one (other && is_part w.bounds (part_bounds (constant_value left) (constant_value right))) (first_false other (is_part w.bounds (part_bounds (constant_value left) (constant_value right))) (k e))
  part_sizes w left right one other name (Ok o) (Err fault) c s h k =
      λ e. first_false one (other && is_part w.bounds (part_bounds (constant_value left) (constant_value right))) (h e)
  part_sizes w left right one other name (Err fault) b c s h k = λ e. absurd cc

  conversion_sizes : (signed : Bool) (meaning : ExpressionTree) (holds : Bool) (a : Result ExpressionTree ElabFault) → Sizes fixed now meaning holds a →
      Sizes fixed now (design.conversion signed meaning) holds (a >>= λ e. Ok (design.conversion signed e))
  conversion_sizes signed meaning holds (Ok e) h = record { same = λ f. ap (design.conversion signed) (h.same f); size = h.size; says = h.says }
  conversion_sizes signed meaning holds (Err fault) h = h

  apply_sizes : (operator : UnaryOperator) (meaning : ExpressionTree) (holds : Bool) (a : Result ExpressionTree ElabFault) → Sizes fixed now meaning holds a →
      Sizes fixed now (design.apply operator meaning) holds (a >>= λ e. Ok (design.apply operator e))
  apply_sizes operator meaning holds (Ok e) h =
      record { same = λ f. ap (design.apply operator) (h.same f); size = ap (unary_size (unary_operand_rule operator)) h.size; says = h.says }
  apply_sizes operator meaning holds (Err fault) h = h

  combine_sizes : (operator : BinaryOperator) (left right : ExpressionTree) (one other : Bool) (a b : Result ExpressionTree ElabFault) →
      Sizes fixed now left one a → Sizes fixed now right other b →
      Sizes fixed now (design.combine operator left right) (one && other) (a >>= λ e. b >>= λ f. Ok (design.combine operator e f))
  combine_sizes operator left right one other (Ok e) (Ok f) h k =
      record {
        same = λ is i. design.combine operator (h.same is i) (k.same is i);
        size = λ i. size_by (operand_rule operator) (h.size i) (k.size i);
        says = both_say (flaw_of now e) (flaw_of now f) one other h.says k.says;
      }
  combine_sizes operator left right one other (Ok e) (Err fault) h k = λ is. second_false one other (k is)
  combine_sizes operator left right one other (Err fault) b h k = λ is. first_false one other (h is)

  conditional_sizes : (test left right : ExpressionTree) (asked one other : Bool) (a b c : Result ExpressionTree ElabFault) →
      Sizes fixed now test asked a → Sizes fixed now left one b → Sizes fixed now right other c →
      Sizes fixed now (design.conditional test left right) (asked && (one && other)) (a >>= λ d. b >>= λ e. c >>= λ f. Ok (design.conditional d e f))
  conditional_sizes test left right asked one other (Ok d) (Ok e) (Ok f) h k l =
      record {
        same = λ is i. design.conditional (h.same is i) (k.same is i) (l.same is i);
        size = λ i. max (k.size i) (l.size i);
        says = both_say (flaw_of now d) (option_or (flaw_of now e) (flaw_of now f)) asked (one && other) h.says
            (both_say (flaw_of now e) (flaw_of now f) one other k.says l.says);
      }
  conditional_sizes test left right asked one other (Ok d) (Ok e) (Err fault) h k l = λ is. second_false asked (one && other) (second_false one other (l is))
  conditional_sizes test left right asked one other (Ok d) (Err fault) c h k l = λ is. second_false asked (one && other) (first_false one other (k is))
  conditional_sizes test left right asked one other (Err fault) b c h k l = λ is. first_false asked (one && other) (h is)

  times_sizes : (count meaning : ExpressionTree) (one other : Bool) (a : Result Vector ElabFault) (b : Result ExpressionTree ElabFault) →
      IsMeasured count one a → Sizes fixed now meaning other b →
      Sizes fixed now (design.repeated (count_in (constant_value count)) meaning) (one && (other && can_repeat (count_in (constant_value count)) (size_of nothing meaning)))
      (a >>= λ amount. replicate_by amount b)
  times_sizes count meaning one other (Ok v) (Ok e) h k =
      let n = count_in (constant_value count) in
      subst (λ (x : Vector). IsLike fixed now (design.repeated (count_in x) e) (design.repeated n meaning) (one && (other && can_repeat n (size_of nothing meaning)))) (sym h.0)
      (record {
        same = λ f. ap (design.repeated n) (k.same f);
        size = ap (λ (size : ℕ). min 64 (max 1 n * size)) k.size;
        says = subst (Says (flaw_of now (design.repeated n e))) (sym (true_first one (other && can_repeat n (size_of nothing meaning)) h.1))
            (subst (λ (size : ℕ). Says (flaw_of now (design.repeated n e)) (other && can_repeat n size)) k.size
            (both_say (flaw_of now e) (flaws.unless (can_repeat n (size_of now e)) Size) other (can_repeat n (size_of now e)) k.says (unless_says (can_repeat n (size_of now e)))));
      })
  times_sizes count meaning one other (Ok v) (Err fault) h k =
      λ e. second_false one (other && can_repeat (count_in (constant_value count)) (size_of nothing meaning)) (first_false other (can_repeat (count_in (constant_value count)) (size_of nothing meaning)) (k e))
  times_sizes count meaning one other (Err fault) b h k = λ e. first_false one (other && can_repeat (count_in (constant_value count)) (size_of nothing meaning)) (h e)

-- ---- parts

module _ (named : Text → Worth) (vectors : AreVectors named) (fixed : Bool) (now : Environment) where
  abbrev are_joined : text.ExpressionTrees → Bool
  are_joined parts = are_sized named parts && nat_le (joined_size named parts) 64

  abbrev PartsSizes : text.ExpressionTrees → Result ExpressionTree ElabFault → Type 0
  PartsSizes parts (Ok e) = IsLike fixed now e (meant_parts named parts) (are_joined parts)
  PartsSizes parts (Err fault) = is_width fault.rule ≡ true → are_sized named parts ≡ false

  few_sizes : (parts : text.ExpressionTrees) (a : Result ExpressionTree ElabFault) → PartsSizes parts a →
      Sizes fixed now (meant_parts named parts) (are_joined parts) (check_part_count parts a)
  few_sizes parts a h = by (nat_le (count_of parts) 64) refl a h
    where
      by : (test : Bool) → nat_le (count_of parts) 64 ≡ test → (a : Result ExpressionTree ElabFault) → PartsSizes parts a →
          Sizes fixed now (meant_parts named parts) (are_joined parts) (answer_if test Width (first_among parts) a)
      by true is (Ok e) h = h
      by true is (Err fault) h = λ e. first_false (are_sized named parts) (nat_le (joined_size named parts) 64) (h e)
      by false is a h =
          λ e. second_false (are_sized named parts) (nat_le (joined_size named parts) 64) (too_many (count_of parts) (joined_size named parts) is (counted named vectors parts))

  last_sizes : (one : text.ExpressionTree) (a : Result ExpressionTree ElabFault) → Sizes fixed now (meant named one) (is_sized named one) a →
      PartsSizes (text.first one text.none) (a >>= λ front. Ok (design.conversion false front))
  last_sizes one (Ok e) h =
      record {
        same = λ f. ap (design.conversion false) (h.same f);
        size = h.size;
        says = subst (Says (flaw_of now e)) (alone_within (is_sized named one) (size_in named one) (sized named vectors one).few) h.says;
      }
  last_sizes one (Err fault) h = λ e. first_false (is_sized named one) true (h e)

  joined_sizes : (one next : text.ExpressionTree) (more : text.ExpressionTrees) (a b : Result ExpressionTree ElabFault) →
      Sizes fixed now (meant named one) (is_sized named one) a → PartsSizes (text.first next more) b →
      PartsSizes (text.first one (text.first next more)) (a >>= λ front. b >>= λ others. Ok (design.joined front others))
  joined_sizes one next more (Ok front) (Ok others) h k =
      let rest = text.first next more in
      let all = joined_size named rest in
      let size = size_of now front + size_of now others in
      let is : size ≡ size_in named one + min 64 all = λ i. h.size i + (k.size ∙ joined_is named vectors next more) i in
      record {
        same = λ f i. design.joined (h.same f i) (k.same f i);
        size = λ i. min 64 (h.size i + k.size i);
        says = subst (Says (flaw_of now (design.joined front others)))
            (ap (λ (n : ℕ). is_sized named one && (are_joined rest && nat_le n 64)) is
            ∙ regrouped (is_sized named one) (are_sized named rest) (nat_le all 64) (nat_le (size_in named one + min 64 all) 64)
            ∙ ap (λ (b : Bool). (is_sized named one && are_sized named rest) && b) (joined_within (size_in named one) all))
            (both_say (flaw_of now front) (option_or (flaw_of now others) (flaws.unless (nat_le size 64) Size)) (is_sized named one) (are_joined rest && nat_le size 64) h.says
            (both_say (flaw_of now others) (flaws.unless (nat_le size 64) Size) (are_joined rest) (nat_le size 64) k.says (unless_says (nat_le size 64))));
      }
  joined_sizes one next more (Ok front) (Err fault) h k = λ e. second_false (is_sized named one) (are_sized named (text.first next more)) (k e)
  joined_sizes one next more (Err fault) b h k = λ e. first_false (is_sized named one) (are_sized named (text.first next more)) (h e)

-- ---- expressions

module _ (scope : Scope) (named : Text → Worth) (vectors : AreVectors named) where
  name_stands : (fixed : Bool) (now : Environment) → AreWorth fixed now scope named → (name : Word) →
      AnswerStands fixed now (named name.letters) (lower_name fixed scope name)
  name_stands fixed now h name = by (meaning_of scope name) refl
    where
      read : (number : ℕ) (f : Bool) → f ≡ fixed → meaning_of scope name ≡ Some (Variable number) →
          AnswerStands fixed now (named name.letters) (require (not f) Constant (Some name) (operand.Variable number))
      read number true e is = refl
      read number false e is =
          let both = h.of_variable name number (sym e) is in record { free = sym e; long = both.0; ranged = both.1 }

      set : (test : Bool) (value : Vector) (bounds : Option Bounds) (before : ℕ) → meaning_of scope name ≡ Some (Parameter value bounds before) →
          AnswerStands fixed now (named name.letters) (require test Unknown (Some name) (operand.Parameter value (bounds_for value bounds)))
      set true value bounds before is = h.of_parameter name value bounds before is
      set false value bounds before is = refl

      by : (meaning : Option Meaning) → meaning_of scope name ≡ meaning → AnswerStands fixed now (named name.letters) (operand_by fixed scope.known name meaning)
      by None is = refl
      by (Some (Variable number)) is = read number fixed refl is
      by (Some (Parameter value bounds before)) is = set (not fixed || nat_lt before scope.known) value bounds before is
      by (Some (Event number)) is = refl
      by (Some Instance) is = refl

  -- lowered as a constant, an expression is worth what is meant
  measured_as : (tree : text.ExpressionTree) → Sizes true nothing (meant named tree) (is_sized named tree) (lower true scope tree) →
      IsMeasured (meant named tree) (is_sized named tree) (lower true scope tree >>= checked_constant (first_in tree))
  measured_as tree h = measured_is (first_in tree) (meant named tree) (is_sized named tree) (lower true scope tree) h

  mutual
    pub lower_sizes : (fixed : Bool) (now : Environment) → AreWorth fixed now scope named → (tree : text.ExpressionTree) →
        Sizes fixed now (meant named tree) (is_sized named tree) (lower fixed scope tree)
    lower_sizes fixed now h (text.number digits) = record { same = λ f. refl; size = refl; says = refl }
    lower_sizes fixed now h (text.name letters) = name_sizes fixed now (named letters.letters) (lower_name fixed scope letters) (name_stands fixed now h letters)
    lower_sizes fixed now h (text.time word) = time_sizes fixed now fixed word
    lower_sizes fixed now h (text.bit letters index) =
        bit_sizes fixed now (named letters.letters) (meant named index) (is_sized named index) (lower_name fixed scope letters) (lower fixed scope index)
        (name_stands fixed now h letters) (lower_sizes fixed now h index)
    lower_sizes fixed now h (text.part letters left right) =
        part_sizes fixed now (named letters.letters) (meant named left) (meant named right) (is_sized named left) (is_sized named right) letters
        (lower_name fixed scope letters) (lower true scope left >>= checked_constant (first_in left)) (lower true scope right >>= checked_constant (first_in right))
        (name_stands fixed now h letters) (measured_as left (lower_sizes true nothing (worth_of_constants fixed now scope named h) left))
        (measured_as right (lower_sizes true nothing (worth_of_constants fixed now scope named h) right))
    lower_sizes fixed now h (text.parentheses inner) = lower_sizes fixed now h inner
    lower_sizes fixed now h (text.concatenation parts) = few_sizes named vectors fixed now parts (lower_parts fixed scope parts) (parts_sizes fixed now h parts)
    lower_sizes fixed now h (text.replication count parts) =
        times_sizes fixed now (meant named count) (meant_parts named parts) (is_sized named count) (are_sized named parts && nat_le (joined_size named parts) 64)
        (lower true scope count >>= checked_constant (first_in count)) (check_part_count parts (lower_parts fixed scope parts))
        (measured_as count (lower_sizes true nothing (worth_of_constants fixed now scope named h) count))
        (few_sizes named vectors fixed now parts (lower_parts fixed scope parts) (parts_sizes fixed now h parts))
    lower_sizes fixed now h (text.conversion signed inner) =
        conversion_sizes fixed now signed (meant named inner) (is_sized named inner) (lower fixed scope inner) (lower_sizes fixed now h inner)
    lower_sizes fixed now h (text.apply operator inner) =
        apply_sizes fixed now operator (meant named inner) (is_sized named inner) (lower fixed scope inner) (lower_sizes fixed now h inner)
    lower_sizes fixed now h (text.combine operator left right) =
        combine_sizes fixed now operator (meant named left) (meant named right) (is_sized named left) (is_sized named right) (lower fixed scope left) (lower fixed scope right)
        (lower_sizes fixed now h left) (lower_sizes fixed now h right)
    lower_sizes fixed now h (text.conditional condition when_true when_false) =
        conditional_sizes fixed now (meant named condition) (meant named when_true) (meant named when_false)
        (is_sized named condition) (is_sized named when_true) (is_sized named when_false)
        (lower fixed scope condition) (lower fixed scope when_true) (lower fixed scope when_false)
        (lower_sizes fixed now h condition) (lower_sizes fixed now h when_true) (lower_sizes fixed now h when_false)

    parts_sizes : (fixed : Bool) (now : Environment) → AreWorth fixed now scope named → (parts : text.ExpressionTrees) →
        PartsSizes named vectors fixed now parts (lower_parts fixed scope parts)
    parts_sizes fixed now h text.none = record { same = λ f. refl; size = refl; says = refl }
    parts_sizes fixed now h (text.first one text.none) = last_sizes named vectors fixed now one (lower fixed scope one) (lower_sizes fixed now h one)
    parts_sizes fixed now h (text.first one (text.first next more)) =
        joined_sizes named vectors fixed now one next more (lower fixed scope one) (lower_parts fixed scope (text.first next more))
        (lower_sizes fixed now h one) (parts_sizes fixed now h (text.first next more))

  -- ---- what the stages ask for

  -- a constant by what it is worth
  pub value_sizes : AreWorth true nothing scope named → (tree : text.ExpressionTree) → IsMeasured (meant named tree) (is_sized named tree) (lower_value scope tree)
  value_sizes h tree = measured_as tree (lower_sizes true nothing h tree)

  -- and as an expression
  pub constant_sizes : AreWorth true nothing scope named → (tree : text.ExpressionTree) → IsConstant (meant named tree) (is_sized named tree) (lower_constant scope tree)
  constant_sizes h tree = by (lower true scope tree) (lower_sizes true nothing h tree)
    where
      told : (e : ExpressionTree) → e ≡ meant named tree → (flaw : Option Flaw) → Says flaw (is_sized named tree) →
          IsConstant (meant named tree) (is_sized named tree) (value_unless_flawed flaw (first_in tree) e)
      told e is None s = (is, s)
      told e is (Some NoBits) s = λ no. absurd cc
      told e is (Some Size) s = λ f. s

      by : (a : Result ExpressionTree ElabFault) → Sizes true nothing (meant named tree) (is_sized named tree) a →
          IsConstant (meant named tree) (is_sized named tree) (a >>= λ e. value_unless_flawed (flaw_of nothing e) (first_in tree) e)
      by (Ok e) k = told e (k.same refl) (flaw_of nothing e) k.says
      by (Err fault) k = k

  -- ---- ranges (4.3.1)

  pub bound_sizes : AreWorth true nothing scope named → (tree : text.ExpressionTree) → IsBound (constant_in named tree) (is_bound named tree) (lower_bound scope tree)
  bound_sizes h tree = by (lower_value scope tree) (value_sizes h tree)
    where
      known : (bound : Option ℕ) → bound_in (constant_in named tree) ≡ bound → is_sized named tree ≡ true → IsBound (constant_in named tree) (is_bound named tree) (value_or_fault bound Width (first_in tree))
      known None is s = λ e. second_false (is_sized named tree) (is_some (bound_in (constant_in named tree))) (ap is_some is)
      known (Some n) is s = (is, and_both (is_sized named tree) (is_some (bound_in (constant_in named tree))) s (ap is_some is))

      by : (a : Result Vector ElabFault) → IsMeasured (meant named tree) (is_sized named tree) a →
          IsBound (constant_in named tree) (is_bound named tree) (a >>= λ value. value_or_fault (bound_in value) Width (first_in tree))
      by (Ok v) k = known (bound_in v) (ap bound_in (sym k.0)) k.1
      by (Err fault) k = λ e. first_false (is_sized named tree) (is_some (bound_in (constant_in named tree))) (k e)

  pub bounds_sizes : AreWorth true nothing scope named → (range : Option RangeTree) → IsRange named range (is_range named range) (lower_bounds scope range)
  bounds_sizes h None = (refl, refl)
  bounds_sizes h (Some range) =
      by (lower_bound scope range.left) (lower_bound scope range.right) (bound_sizes h range.left) (bound_sizes h range.right)
    where
      left : Bool
      left = is_bound named range.left

      right : Bool
      right = is_bound named range.right

      is_few : Bool
      is_few = nat_le (span (selected_by named range.left range.right)) 64

      told : (bounds : Bounds) → bounds ≡ selected_by named range.left range.right → (test : Bool) → nat_le (span bounds) 64 ≡ test → left ≡ true → right ≡ true →
          IsRange named (Some range) (is_range named (Some range)) (require test Width (first_in range.left) bounds >>= λ bounds. Ok (Some bounds))
      told bounds is true e l r = (ap Some is, and_both left (right && is_few) l (and_both right is_few r (ap (λ (b : Bounds). nat_le (span b) 64) (sym is) ∙ e)))
      told bounds is false e l r = λ f. second_false left (right && is_few) (second_false right is_few (ap (λ (b : Bounds). nat_le (span b) 64) (sym is) ∙ e))

      by : (a b : Result ℕ ElabFault) → IsBound (constant_in named range.left) left a → IsBound (constant_in named range.right) right b →
          IsRange named (Some range) (is_range named (Some range))
          ((a >>= λ high. b >>= λ low. check_range_size (first_in range.left) (record { left = high; right = low })) >>= λ bounds. Ok (Some bounds))
      by (Ok high) (Ok low) k l =
          told (record { left = high; right = low })
          (λ i. record { left = unwrap_or (sym k.0 i) 65536; right = unwrap_or (sym l.0 i) 65536 })
          (nat_le (span (record { left = high; right = low })) 64) refl k.1 l.1
      by (Ok high) (Err fault) k l = λ e. second_false left (right && is_few) (first_false right is_few (l e))
      by (Err fault) b k l = λ e. first_false left (right && is_few) (k e)
