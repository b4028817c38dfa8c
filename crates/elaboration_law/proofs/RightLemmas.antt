-- What a finished design is told for: an action writes what it may, and asks for bits that there are.
use Rattle.std.proofs.Common.{◌≡◌, ℕ, ◌+◌, ◌*◌, nat_le, Bool, true, false, ◌&&◌, if◌then◌else◌, List, [], ◌∷◌, slice_get, Option, None, Some, refl, sym, ap, ◌∙◌}
use Rattle.std.proofs.Math.Bool.{and-false}
use Rattle.std.specs.Prelude.{option_map}
use Rattle.std.specs.List.{list_all}
use Rattle.std.specs.Option.{option_or}
use Rattle.vdesign.specs.Design.{Variable}
use Rattle.vdesign.specs.Expressions.{ExpressionTree, constant, variable, bit, bit_of, part, time, conversion, apply, combine, conditional, joined, repeated}
use Rattle.vdesign.specs.declared.action.Action.{Action}
use Rattle.vdesign.specs.declared.action.Action.TheVariants.{Assign, Nonblocking, AssignDelayed, NonblockingDelayed, Trigger, Test, Case, While, Repeat, Forever, Delay, EventControl, Wait, ContinuousAssign, Print, DumpVars, Dump, NoOperation, Finish, Stop}
use Rattle.vdesign.specs.declared.action.Branch.{Branch}
use Rattle.vdesign.specs.declared.action.Target.{Target}
use Rattle.vdesign.specs.declared.action.Target.TheVariants as target
use Rattle.vdesign.specs.declared.print.Piece.{Piece}
use Rattle.vdesign.specs.declared.print.Piece.TheVariants.{Text, Value}
use Rattle.vvalue.specs.Flaws as flaws
use Rattle.vvalue.specs.Flaws.{has_bits, is_part, part_flaw, flaw_of, target_flaw, first_target_flaw, targets_flaw}
use Rattle.vvalue.specs.Targets.{targets_size}
use Rattle.vvalue.specs.Value.{Environment, size_of, bounds_of}
use Rattle.vvalue.specs.declared.flaw.Flaw.{Flaw}
use Rattle.vvalue.specs.declared.flaw.Flaw.TheVariants.{NoBits, Size}
use Rattle.velab_expr.specs.Rules.{rule_of}
use Rattle.velab_expr.specs.declared.fault.Rule.TheVariants.{Kind}
use Rattle.velab_expr.specs.declared.fault.ElabFault.{ElabFault}
use Rattle.velab_declaration.specs.Right.{writes_rightly, kind_rule}
use Rattle.velab_declaration.specs.ActionFlaws.{blank_environment, first_flaw, branch_flaw, piece_flaw, assignment_flaw, action_flaw, flaw_rule, table_fault}
use Rattle.elaboration_law.proofs.PathUses.{JudgesIf, or_judged, rules_judged}
use Rattle.elaboration_law.proofs.KindUses.{is_kind}

-- ---- two tests of each of several things

pub all_of_both : {A : Type 0} (p q : A → Bool) (xs : List A) → list_all (λ x. p x && q x) xs ≡ (list_all p xs && list_all q xs)
all_of_both p q [] = refl
all_of_both p q (x ∷ xs) = ap (λ (b : Bool). (p x && q x) && b) (all_of_both p q xs) ∙ by (p x) (q x) (list_all p xs) (list_all q xs)
  where
    by : (a b c d : Bool) → ((a && b) && (c && d)) ≡ ((a && c) && (b && d))
    by false b c d = refl
    by true true c d = refl
    by true false c d = sym (and-false c)

-- ---- bits

module _ (vs : List Variable) where
  abbrev pub bits_in : ExpressionTree → Bool
  bits_in (constant c) = true
  bits_in (variable n) = true
  bits_in (bit n index) = has_bits (slice_get vs n) && bits_in index
  bits_in (bit_of v bounds index) = bits_in index
  bits_in (part n bounds) = has_bits (slice_get vs n)
  bits_in time = true
  bits_in (conversion signed o) = bits_in o
  bits_in (apply operator o) = bits_in o
  bits_in (combine operator left right) = bits_in left && bits_in right
  bits_in (conditional test one other) = bits_in test && (bits_in one && bits_in other)
  bits_in (joined left right) = bits_in left && bits_in right
  bits_in (repeated count o) = bits_in o

  abbrev pub target_bits : Target → Bool
  target_bits (target.Whole n) = true
  target_bits (target.Bit n index) = has_bits (slice_get vs n) && bits_in index
  target_bits (target.Part n bounds) = has_bits (slice_get vs n)

  abbrev pub branch_bits : Branch → Bool
  branch_bits branch = bits_in branch.item

  abbrev pub piece_bits : Piece → Bool
  piece_bits (Text bytes) = true
  piece_bits (Value form watched value) = bits_in value

  abbrev pub assignment_bits : List Target → ExpressionTree → Bool
  assignment_bits targets value = list_all target_bits targets && bits_in value

  abbrev pub action_bits : Action → Bool
  action_bits (Assign targets value) = assignment_bits targets value
  action_bits (Nonblocking targets value) = assignment_bits targets value
  action_bits (AssignDelayed amount targets value) = bits_in amount && assignment_bits targets value
  action_bits (NonblockingDelayed amount targets value) = bits_in amount && assignment_bits targets value
  action_bits (Trigger event) = true
  action_bits (Test condition when_true otherwise) = bits_in condition
  action_bits (Case kind value branches otherwise) = bits_in value && list_all branch_bits branches
  action_bits (While condition body) = bits_in condition
  action_bits (Repeat count body) = bits_in count
  action_bits (Forever body) = true
  action_bits (Delay amount body) = bits_in amount
  action_bits (EventControl terms body) = true
  action_bits (Wait condition terms body) = bits_in condition
  action_bits (ContinuousAssign targets value terms) = assignment_bits targets value
  action_bits (Print when pieces) = list_all piece_bits pieces
  action_bits (DumpVars selection) = true
  action_bits (Dump switch) = true
  action_bits NoOperation = true
  action_bits Finish = true
  action_bits Stop = true

-- ---- what a flaw says of them

abbrev is_no_bits : Flaw → Bool
is_no_bits NoBits = true
is_no_bits Size = false

abbrev Bits : Bool → Option Flaw → Type 0
Bits holds flaw = JudgesIf is_no_bits holds flaw

unless_bits : (holds : Bool) → Bits holds (flaws.unless holds NoBits)
unless_bits true = refl
unless_bits false = λ e. refl

unless_size : (holds : Bool) → Bits true (flaws.unless holds Size)
unless_size true = refl
unless_size false = λ e. absurd cc

both_bits : (one other : Bool) (a b : Option Flaw) → Bits one a → Bits other b → Bits (one && other) (option_or a b)
both_bits one other a b h k = or_judged is_no_bits one other a b h k

-- behind it only sizes are told
then_size : (one : Bool) (a b : Option Flaw) → Bits one a → Bits true b → Bits one (option_or a b)
then_size one None None h k = h
then_size one None (Some NoBits) h k = λ e. absurd (let it = k refl in cc)
then_size one None (Some Size) h k = λ e. absurd cc
then_size one (Some flaw) b h k = h

module _ (vs : List Variable) where
  abbrev now : Environment
  now = blank_environment vs

  part_judged : (n : ℕ) (selected : _) → Bits (has_bits (slice_get vs n)) (part_flaw now n selected)
  part_judged n selected =
      then_size (has_bits (slice_get vs n)) (flaws.unless (has_bits (slice_get vs n)) NoBits) (flaws.unless (is_part (bounds_of now n) selected) Size)
      (unless_bits (has_bits (slice_get vs n))) (unless_size (is_part (bounds_of now n) selected))

  bits_judged : (e : ExpressionTree) → Bits (bits_in vs e) (flaw_of now e)
  bits_judged (constant c) = refl
  bits_judged (variable n) = refl
  bits_judged (bit n index) = both_bits (has_bits (slice_get vs n)) (bits_in vs index) (flaws.unless (has_bits (slice_get vs n)) NoBits) (flaw_of now index) (unless_bits (has_bits (slice_get vs n))) (bits_judged index)
  bits_judged (bit_of v bounds index) = bits_judged index
  bits_judged (part n bounds) = part_judged n bounds
  bits_judged time = refl
  bits_judged (conversion signed o) = bits_judged o
  bits_judged (apply operator o) = bits_judged o
  bits_judged (combine operator left right) = both_bits (bits_in vs left) (bits_in vs right) (flaw_of now left) (flaw_of now right) (bits_judged left) (bits_judged right)
  bits_judged (conditional test one other) =
      both_bits (bits_in vs test) (bits_in vs one && bits_in vs other) (flaw_of now test) (option_or (flaw_of now one) (flaw_of now other)) (bits_judged test)
      (both_bits (bits_in vs one) (bits_in vs other) (flaw_of now one) (flaw_of now other) (bits_judged one) (bits_judged other))
  bits_judged (joined left right) =
      let few = nat_le (size_of now left + size_of now right) 64 in
      both_bits (bits_in vs left) (bits_in vs right) (flaw_of now left) (option_or (flaw_of now right) (flaws.unless few Size)) (bits_judged left)
      (then_size (bits_in vs right) (flaw_of now right) (flaws.unless few Size) (bits_judged right) (unless_size few))
  bits_judged (repeated count o) =
      let few = nat_le 1 count && nat_le (count * size_of now o) 64 in
      then_size (bits_in vs o) (flaw_of now o) (flaws.unless few Size) (bits_judged o) (unless_size few)

  target_judged : (one : Target) → Bits (target_bits vs one) (target_flaw now one)
  target_judged (target.Whole n) = refl
  target_judged (target.Bit n index) = both_bits (has_bits (slice_get vs n)) (bits_in vs index) (flaws.unless (has_bits (slice_get vs n)) NoBits) (flaw_of now index) (unless_bits (has_bits (slice_get vs n))) (bits_judged index)
  target_judged (target.Part n bounds) = part_judged n bounds

  row_judged : (targets : List Target) → Bits (list_all (target_bits vs) targets) (first_target_flaw now targets)
  row_judged [] = refl
  row_judged (one ∷ more) = both_bits (target_bits vs one) (list_all (target_bits vs) more) (target_flaw now one) (first_target_flaw now more) (target_judged one) (row_judged more)

  first_judged : {A : Type 0} (test : A → Bool) (flaw : A → Option Flaw) → ((x : A) → Bits (test x) (flaw x)) → (list : List A) → Bits (list_all test list) (first_flaw flaw list)
  first_judged test flaw each [] = refl
  first_judged test flaw each (one ∷ more) = both_bits (test one) (list_all test more) (flaw one) (first_flaw flaw more) (each one) (first_judged test flaw each more)

  piece_judged : (piece : Piece) → Bits (piece_bits vs piece) (piece_flaw now piece)
  piece_judged (Text bytes) = refl
  piece_judged (Value form watched value) = bits_judged value

  assignment_judged : (targets : List Target) (value : ExpressionTree) → Bits (assignment_bits vs targets value) (assignment_flaw now targets value)
  assignment_judged targets value =
      let few = nat_le (targets_size now targets) 64 in
      both_bits (list_all (target_bits vs) targets) (bits_in vs value) (targets_flaw now targets) (flaw_of now value)
      (then_size (list_all (target_bits vs) targets) (first_target_flaw now targets) (flaws.unless few Size) (row_judged targets) (unless_size few)) (bits_judged value)

  action_judged : (action : Action) → Bits (action_bits vs action) (action_flaw now action)
  action_judged (Assign targets value) = assignment_judged targets value
  action_judged (Nonblocking targets value) = assignment_judged targets value
  action_judged (AssignDelayed amount targets value) =
      both_bits (bits_in vs amount) (assignment_bits vs targets value) (flaw_of now amount) (assignment_flaw now targets value) (bits_judged amount) (assignment_judged targets value)
  action_judged (NonblockingDelayed amount targets value) =
      both_bits (bits_in vs amount) (assignment_bits vs targets value) (flaw_of now amount) (assignment_flaw now targets value) (bits_judged amount) (assignment_judged targets value)
  action_judged (Trigger event) = refl
  action_judged (Test condition when_true otherwise) = bits_judged condition
  action_judged (Case kind value branches otherwise) =
      both_bits (bits_in vs value) (list_all (branch_bits vs) branches) (flaw_of now value) (first_flaw (branch_flaw now) branches) (bits_judged value)
      (first_judged (branch_bits vs) (branch_flaw now) (λ branch. bits_judged branch.item) branches)
  action_judged (While condition body) = bits_judged condition
  action_judged (Repeat count body) = bits_judged count
  action_judged (Forever body) = refl
  action_judged (Delay amount body) = bits_judged amount
  action_judged (EventControl terms body) = refl
  action_judged (Wait condition terms body) = bits_judged condition
  action_judged (ContinuousAssign targets value terms) = assignment_judged targets value
  action_judged (Print when pieces) = first_judged (piece_bits vs) (piece_flaw now) piece_judged pieces
  action_judged (DumpVars selection) = refl
  action_judged (Dump switch) = refl
  action_judged NoOperation = refl
  action_judged Finish = refl
  action_judged Stop = refl

  -- ---- rules

  flaw_judged : (action : Action) → JudgesIf is_kind (action_bits vs action) (flaw_rule now action)
  flaw_judged action = by (action_bits vs action) (action_flaw now action) (action_judged action)
    where
      by : (holds : Bool) (flaw : Option Flaw) → Bits holds flaw → JudgesIf is_kind holds (option_map rule_of flaw)
      by holds None h = h
      by holds (Some NoBits) h = λ e. h refl
      by holds (Some Size) h = λ e. absurd cc

  writes_judged : (action : Action) → JudgesIf is_kind (writes_rightly vs action) (kind_rule vs action)
  writes_judged action = by (writes_rightly vs action)
    where
      by : (right : Bool) → JudgesIf is_kind right (if right then None else Some Kind)
      by true = refl
      by false = λ e. refl

-- an action that breaks neither
abbrev pub is_right : List Variable → Action → Bool
is_right vs action = writes_rightly vs action && action_bits vs action

pub writes_told : (vs : List Variable) (actions : List Action) (words : List (Option ℕ)) → JudgesIf (λ (f : ElabFault). is_kind f.rule) (list_all (writes_rightly vs) actions) (table_fault (kind_rule vs) actions words)
writes_told vs actions words = rules_judged is_kind (kind_rule vs) (writes_rightly vs) (writes_judged vs) actions words

pub bits_told : (vs : List Variable) (actions : List Action) (words : List (Option ℕ)) →
    JudgesIf (λ (f : ElabFault). is_kind f.rule) (list_all (action_bits vs) actions) (table_fault (flaw_rule (blank_environment vs)) actions words)
bits_told vs actions words = rules_judged is_kind (flaw_rule (blank_environment vs)) (action_bits vs) (flaw_judged vs) actions words
