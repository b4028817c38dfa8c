-- What is used, and what it is lowered to: the bits that are asked for, and what is written, are those of the variables that names stand for.
use Rattle.std.proofs.Common.{◌≡◌, ◌<◌, ℕ, ◌+◌, nat_le, nat_lt, Bool, true, false, not, if◌then◌else◌, ◌&&◌, ◌||◌, List, [], ◌∷◌, ◌++◌, slice_get, Option, None, Some, Result, Ok, Err, refl, sym, ap, subst, ◌∙◌}
use Rattle.std.specs.List.{list_all}
use Rattle.std.proofs.Math.Bool.{or-true}
use Rattle.std.proofs.lemmas.List.Folds.{list_all-append}
use Rattle.basis.proofs.Bools.{and_assoc}
use Rattle.vast.specs.NumberedWords.{Word}
use Rattle.vast.specs.NumberedExpressions as text
use Rattle.vast.specs.NumberedStatements.{TargetTree, TargetTrees, whole, bit, part, joined, none, first}
use Rattle.vdesign.specs.Design.{Variable}
use Rattle.vdesign.specs.Expressions.{ExpressionTree, time}
use Rattle.vdesign.specs.Expressions as design
use Rattle.vdesign.specs.declared.action.Edge.{Edge}
use Rattle.vdesign.specs.declared.action.Target.{Target}
use Rattle.vdesign.specs.declared.expression.Bounds.{Bounds}
use Rattle.vvalue.specs.Flaws.{flaw_of, has_bits, is_part}
use Rattle.vvalue.specs.Value.{part_of, part_size}
use Rattle.vvalue.specs.declared.flaw.Flaw.{Flaw}
use Rattle.velab_expr.specs.declared.fault.Rule.{Rule}
use Rattle.velab_expr.specs.declared.fault.Rule.TheVariants.{Unknown, Constant, Width}
use Rattle.velab_expr.specs.declared.fault.ElabFault.{ElabFault}
use Rattle.velab_expr.specs.declared.scope.Meaning.{Meaning}
use Rattle.velab_expr.specs.declared.scope.Meaning.TheVariants as means
use Rattle.velab_expr.specs.declared.scope.Operand.{Operand}
use Rattle.velab_expr.specs.declared.scope.Operand.TheVariants as operand
use Rattle.velab_expr.specs.Answers.{◌>>=◌, require, answer_if, value_unless_flawed}
use Rattle.velab_expr.specs.FirstWords.{first_in, first_among}
use Rattle.velab_expr.specs.Scopes.{Scope, meaning_of, bounds_for, operand_by, variable_by, lower_name, lower_variable}
use Rattle.velab_expr.specs.Constants.{nothing, checked_constant, part_bounds}
use Rattle.velab_expr.specs.Resolved.{plain, operand_tree, bit_in, part_in, in_front, count_of, check_part_count, lower, lower_parts}
use Rattle.velab_expr.specs.Written as written
use Rattle.velab_expr.specs.Written.{lower_index, lower_target_by, lower_targets_by}
use Rattle.velab_declaration.specs.Right.{is_net, is_some_net, writes_net, writes_nets}
use Rattle.velab_declaration.specs.Variables.{Declaration}
use Rattle.elaboration_law.specs.Uses.{Way, Read, ReadIn, Written, WrittenIn, Driven, DrivenIn, Triggered, Awaited, Use, use_of, use_of_time, use_of_formats, use_of_levels, way_of_whole, way_of_part, used_in, used_in_parts, used_in_target_by, used_in_targets_by}
use Rattle.elaboration_law.specs.Places.{Thing, a_variable, a_parameter, an_event, an_instance, Place, thing_of}
use Rattle.elaboration_law.specs.Kinds.{is_ranged}
use Rattle.elaboration_law.proofs.PlaceLemmas.{IsAt}
use Rattle.elaboration_law.proofs.KindUses.{Alike, stands_alike}
use Rattle.elaboration_law.proofs.RightLemmas.{all_of_both, bits_in, target_bits, assignment_bits}

-- ---- what a finished design is told for

abbrev pub variable_suits_later : Way → Declaration → Bool
variable_suits_later Read d = true
variable_suits_later ReadIn d = is_ranged d
variable_suits_later Written d = not (is_net d.kind)
variable_suits_later WrittenIn d = not (is_net d.kind) && is_ranged d
variable_suits_later Driven d = is_net d.kind
variable_suits_later DrivenIn d = is_net d.kind && is_ranged d
variable_suits_later Triggered d = true
variable_suits_later (Awaited edge) d = true

abbrev pub suits_later : Bool → Way → Option Thing → Bool
suits_later constant way None = true
suits_later constant way (Some (a_variable d)) = constant || variable_suits_later way d
suits_later constant way (Some a_parameter) = true
suits_later constant way (Some an_event) = true
suits_later constant way (Some an_instance) = true

abbrev pub is_suited_later : Place → Use → Bool
is_suited_later place (use_of way constant name) = suits_later constant way (thing_of place name)
is_suited_later place (use_of_time constant) = true
is_suited_later place (use_of_formats arguments) = true
is_suited_later place (use_of_levels levels) = true

-- ---- truths

pub and_true : (b : Bool) → b ≡ (b && true)
and_true true = refl
and_true false = refl

-- ---- whatever a name stands for

pub read_holds : (constant : Bool) (thing : Option Thing) → suits_later constant Read thing ≡ true
read_holds constant None = refl
read_holds constant (Some (a_variable d)) = or-true constant
read_holds constant (Some a_parameter) = refl
read_holds constant (Some an_event) = refl
read_holds constant (Some an_instance) = refl

pub awaited_holds : (edge : Edge) (thing : Option Thing) → suits_later false (Awaited edge) thing ≡ true
awaited_holds edge None = refl
awaited_holds edge (Some (a_variable d)) = refl
awaited_holds edge (Some a_parameter) = refl
awaited_holds edge (Some an_event) = refl
awaited_holds edge (Some an_instance) = refl

pub triggered_holds : (thing : Option Thing) → suits_later false Triggered thing ≡ true
triggered_holds None = refl
triggered_holds (Some (a_variable d)) = refl
triggered_holds (Some a_parameter) = refl
triggered_holds (Some an_event) = refl
triggered_holds (Some an_instance) = refl

-- a constant reads no variable
fixed_holds : (way : Way) (thing : Option Thing) → suits_later true way thing ≡ true
fixed_holds way None = refl
fixed_holds way (Some (a_variable d)) = refl
fixed_holds way (Some a_parameter) = refl
fixed_holds way (Some an_event) = refl
fixed_holds way (Some an_instance) = refl

module _ (place : Place) where
  abbrev pub suit : List Use → Bool
  suit uses = list_all (is_suited_later place) uses

  pub both_hold : (xs ys : List Use) → suit xs ≡ true → suit ys ≡ true → suit (xs ++ ys) ≡ true
  both_hold xs ys e f = list_all-append (is_suited_later place) xs ys ∙ λ i. e i && f i

  mutual
    pub constants_hold : (tree : text.ExpressionTree) → suit (used_in true tree) ≡ true
    constants_hold (text.number digits) = refl
    constants_hold (text.name letters) = λ i. fixed_holds Read (thing_of place letters) i && true
    constants_hold (text.time word) = refl
    constants_hold (text.bit letters index) = λ i. fixed_holds ReadIn (thing_of place letters) i && constants_hold index i
    constants_hold (text.part letters left right) =
        λ i. fixed_holds ReadIn (thing_of place letters) i && both_hold (used_in true left) (used_in true right) (constants_hold left) (constants_hold right) i
    constants_hold (text.parentheses inner) = constants_hold inner
    constants_hold (text.concatenation parts) = all_hold parts
    constants_hold (text.replication count parts) = both_hold (used_in true count) (used_in_parts true parts) (constants_hold count) (all_hold parts)
    constants_hold (text.conversion signed inner) = constants_hold inner
    constants_hold (text.apply operator inner) = constants_hold inner
    constants_hold (text.combine operator left right) = both_hold (used_in true left) (used_in true right) (constants_hold left) (constants_hold right)
    constants_hold (text.conditional condition when_true when_false) =
        both_hold (used_in true condition) (used_in true when_true ++ used_in true when_false) (constants_hold condition)
        (both_hold (used_in true when_true) (used_in true when_false) (constants_hold when_true) (constants_hold when_false))

    all_hold : (parts : text.ExpressionTrees) → suit (used_in_parts true parts) ≡ true
    all_hold text.none = refl
    all_hold (text.first one more) = both_hold (used_in true one) (used_in_parts true more) (constants_hold one) (all_hold more)

-- ---- what an answer says

abbrev pub Says : {A : Type 0} → (A → Bool) → Bool → Result A ElabFault → Type 0
Says view holds (Ok x) = view x ≡ holds
Says view holds (Err fault) = Unit {0}

-- the same truth in another order
pub reorder : {A : Type 0} (view : A → Bool) (a : Result A ElabFault) {x y : Bool} → x ≡ y → Says view x a → Says view y a
reorder view a e s = subst (λ (b : Bool). Says view b a) e s

module _ {A B : Type 0} where
  -- whatever it was answered
  pub silent_says : (view : B → Bool) (b : Bool) (a : Result A ElabFault) (next : A → Result B ElabFault) → ((x : A) → Says view b (next x)) → Says view b (a >>= next)
  silent_says view b (Ok x) next more = more x
  silent_says view b (Err fault) next more = tt

  -- what is said of the first goes on
  pub through : (one : A → Bool) (view : B → Bool) (f : Bool → Bool) (b : Bool) (a : Result A ElabFault) (next : A → Result B ElabFault) → Says one b a → ((x : A) → Says view (f (one x)) (next x)) → Says view (f b) (a >>= next)
  through one view f b (Ok x) next h more = subst (λ (d : Bool). Says view (f d) (next x)) h (more x)
  through one view f b (Err fault) next h more = tt

  pub then_says : (one : A → Bool) (view : B → Bool) (b c : Bool) (a : Result A ElabFault) (next : A → Result B ElabFault) → Says one b a → ((x : A) → Says view (one x && c) (next x)) → Says view (b && c) (a >>= next)
  then_says one view b c a next h more = through one view (λ d. d && c) b a next h more

  pub last_says : (one : A → Bool) (view : B → Bool) (b : Bool) (a : Result A ElabFault) (next : A → Result B ElabFault) → Says one b a → ((x : A) → Says view (one x) (next x)) → Says view b (a >>= next)
  last_says one view b a next h more = through one view (λ d. d) b a next h more

  -- and so does what was said before
  pub front_says : (one : A → Bool) (view : B → Bool) (c b : Bool) (a : Result A ElabFault) (next : A → Result B ElabFault) → Says one b a → ((x : A) → Says view (c && one x) (next x)) → Says view (c && b) (a >>= next)
  front_says one view c b a next h more = through one view (λ d. c && d) b a next h more

pub provided_says : {A : Type 0} (view : A → Bool) (b holds : Bool) (rule : Rule) (word : Option Word) (a : Result A ElabFault) → Says view b a → Says view b (answer_if holds rule word a)
provided_says view b true rule word a h = h
provided_says view b false rule word a h = tt

pub one_right : (b : Bool) → ((b && true) && true) ≡ b
one_right true = refl
one_right false = refl

pub bit_right : (a b c : Bool) → ((a && (b && c)) && true) ≡ ((a && b) && c)
bit_right true b c = sym (and_true (b && c))
bit_right false b c = refl

-- ---- the variables of a finished design

-- those of a scope are those that its module declares
abbrev pub Real : List Variable → Place → Scope → Type 0
Real vs place scope = (k : ℕ) (d : Declaration) → k < scope.variables → slice_get place.things k ≡ Some (a_variable d) →
    (has_bits (slice_get vs (scope.first + k)) ≡ is_ranged d) × (is_some_net (slice_get vs (scope.first + k)) ≡ is_net d.kind)

-- what a process writes is no net, and what is driven is one
abbrev pub may_write : Bool → Bool → Bool
may_write drives net = if drives then net else not net

-- and it has the bits
abbrev pub target_right : List Variable → Bool → Target → Bool
target_right vs drives target = may_write drives (writes_net vs target) && target_bits vs target

abbrev pub row_right : List Variable → Bool → List Target → Bool
row_right vs drives targets = list_all (target_right vs drives) targets

-- what drives is right where its targets are, and what it reads
pub driven_right : (vs : List Variable) (targets : List Target) (e : ExpressionTree) →
    (writes_nets vs targets && assignment_bits vs targets e) ≡ (row_right vs true targets && bits_in vs e)
driven_right vs targets e =
    sym (and_assoc (writes_nets vs targets) (list_all (target_bits vs) targets) (bits_in vs e))
    ∙ ap (λ (b : Bool). b && bits_in vs e) (sym (all_of_both (writes_net vs) (target_bits vs) targets))

module _ (vs : List Variable) (place : Place) (scope : Scope) (h : IsAt place scope) (real : Real vs place scope) where
  abbrev pub holds : List Use → Bool
  holds uses = list_all (is_suited_later place) uses

  -- of a variable
  abbrev OfVariable : ℕ → Option Thing → Type 0
  OfVariable n None = ⊥
  OfVariable n (Some (a_variable d)) = (has_bits (slice_get vs n) ≡ is_ranged d) × (is_some_net (slice_get vs n) ≡ is_net d.kind)
  OfVariable n (Some a_parameter) = ⊥
  OfVariable n (Some an_event) = ⊥
  OfVariable n (Some an_instance) = ⊥

  of_variable : (number : ℕ) (thing : Option Thing) → Alike scope place (Some (means.Variable number)) thing → OfVariable number thing
  of_variable number None a = absurd a
  of_variable number (Some (a_variable d)) (k, same, lt, is) = subst (λ (n : ℕ). (has_bits (slice_get vs n) ≡ is_ranged d) × (is_some_net (slice_get vs n) ≡ is_net d.kind)) (sym same) (real k d lt is)
  of_variable number (Some a_parameter) a = absurd a
  of_variable number (Some an_event) a = absurd a
  of_variable number (Some an_instance) a = absurd a

  -- ---- names

  abbrev operand_bits : Operand → Bool
  operand_bits (operand.Variable number) = has_bits (slice_get vs number)
  operand_bits (operand.Parameter value bounds) = true

  bits_say : (constant : Bool) (name : Word) → Says operand_bits (is_suited_later place (use_of ReadIn constant name)) (lower_name constant scope name)
  bits_say constant name = by constant (meaning_of scope name) (thing_of place name) (stands_alike place scope h name)
    where
      a_parameter_says : (c ok : Bool) (value : _) (bounds : _) → Says operand_bits true (require ok Unknown (Some name) (operand.Parameter value bounds))
      a_parameter_says c true value bounds = refl
      a_parameter_says c false value bounds = tt

      by : (c : Bool) (meaning : Option Meaning) (thing : Option Thing) → Alike scope place meaning thing → Says operand_bits (suits_later c ReadIn thing) (operand_by c scope.known name meaning)
      by c None thing a = tt
      by true (Some (means.Variable number)) thing a = tt
      by false (Some (means.Variable number)) None a = absurd a
      by false (Some (means.Variable number)) (Some (a_variable d)) a = (of_variable number (Some (a_variable d)) a).0
      by false (Some (means.Variable number)) (Some a_parameter) a = absurd a
      by false (Some (means.Variable number)) (Some an_event) a = absurd a
      by false (Some (means.Variable number)) (Some an_instance) a = absurd a
      by c (Some (means.Parameter value bounds before)) None a = absurd a
      by c (Some (means.Parameter value bounds before)) (Some (a_variable d)) a = absurd a
      by c (Some (means.Parameter value bounds before)) (Some a_parameter) a = a_parameter_says c (not c || nat_lt before scope.known) value (bounds_for value bounds)
      by c (Some (means.Parameter value bounds before)) (Some an_event) a = absurd a
      by c (Some (means.Parameter value bounds before)) (Some an_instance) a = absurd a
      by c (Some (means.Event number)) thing a = tt
      by c (Some means.Instance) thing a = tt

  -- a variable that may be written so, and one whose bits may
  abbrev may : Bool → ℕ → Bool
  may drives n = may_write drives (is_some_net (slice_get vs n))

  abbrev may_in : Bool → ℕ → Bool
  may_in drives n = may drives n && has_bits (slice_get vs n)

  -- what a process writes and what a continuous assignment drives, the whole of it, and a part of it or a bit
  module _ (name : Word) where
    abbrev ByVariable : (way : Way) → (ℕ → Bool) → Type 0
    ByVariable way view = Says view (is_suited_later place (use_of way false name)) (lower_variable scope name)

    by_variable : (way : Way) (view : ℕ → Bool) → ((n : ℕ) (d : Declaration) → has_bits (slice_get vs n) ≡ is_ranged d → is_some_net (slice_get vs n) ≡ is_net d.kind → view n ≡ variable_suits_later way d) → ByVariable way view
    by_variable way view each = by (meaning_of scope name) (thing_of place name) (stands_alike place scope h name)
      where
        by : (meaning : Option Meaning) (thing : Option Thing) → Alike scope place meaning thing → Says view (suits_later false way thing) (variable_by name meaning)
        by None thing a = tt
        by (Some (means.Variable number)) None a = absurd a
        by (Some (means.Variable number)) (Some (a_variable d)) a = let it = of_variable number (Some (a_variable d)) a in each number d it.0 it.1
        by (Some (means.Variable number)) (Some a_parameter) a = absurd a
        by (Some (means.Variable number)) (Some an_event) a = absurd a
        by (Some (means.Variable number)) (Some an_instance) a = absurd a
        by (Some (means.Parameter value bounds before)) thing a = tt
        by (Some (means.Event number)) thing a = tt
        by (Some means.Instance) thing a = tt

    whole_says : (drives : Bool) → ByVariable (way_of_whole drives) (λ n. may_write drives (is_some_net (slice_get vs n)))
    whole_says false = by_variable Written (λ n. not (is_some_net (slice_get vs n))) (λ n d bits net. ap not net)
    whole_says true = by_variable Driven (λ n. is_some_net (slice_get vs n)) (λ n d bits net. net)

    part_of_says : (drives : Bool) → ByVariable (way_of_part drives) (λ n. may_write drives (is_some_net (slice_get vs n)) && has_bits (slice_get vs n))
    part_of_says false = by_variable WrittenIn (λ n. not (is_some_net (slice_get vs n)) && has_bits (slice_get vs n)) (λ n d bits net. λ i. not (net i) && bits i)
    part_of_says true = by_variable DrivenIn (λ n. is_some_net (slice_get vs n) && has_bits (slice_get vs n)) (λ n d bits net. λ i. net i && bits i)

  -- ---- expressions

  -- in front of what holds anyway
  with_constants : {A : Type 0} (view : A → Bool) (one : Use) (rest : List Use) (a : Result A ElabFault) → holds rest ≡ true → Says view (is_suited_later place one) a → Says view (holds (one ∷ rest)) a
  with_constants view one rest a e s = subst (λ (b : Bool). Says view b a) (and_true (is_suited_later place one) ∙ ap (λ (b : Bool). is_suited_later place one && b) (sym e)) s

  pub behind_constants : {A : Type 0} (view : A → Bool) (xs ys : List Use) (a : Result A ElabFault) → holds xs ≡ true → Says view (holds ys) a → Says view (holds (xs ++ ys)) a
  behind_constants view xs ys a e s = subst (λ (b : Bool). Says view b a) (ap (λ (b : Bool). b && holds ys) (sym e) ∙ sym (list_all-append (is_suited_later place) xs ys)) s

  pub both_say : {A B : Type 0} (one : A → Bool) (view : B → Bool) (xs ys : List Use) (a : Result A ElabFault) (next : A → Result B ElabFault) → Says one (holds xs) a → ((x : A) → Says view (one x && holds ys) (next x)) → Says view (holds (xs ++ ys)) (a >>= next)
  both_say one view xs ys a next s more = subst (λ (b : Bool). Says view b (a >>= next)) (sym (list_all-append (is_suited_later place) xs ys)) (then_says one view (holds xs) (holds ys) a next s more)

  read_says : (fixed : Bool) (name : Word) → Says (bits_in vs) (holds (use_of Read fixed name ∷ [])) (lower_name fixed scope name >>= λ operand. Ok (operand_tree operand))
  read_says fixed name =
      subst (λ (b : Bool). Says (bits_in vs) b (lower_name fixed scope name >>= λ operand. Ok (operand_tree operand))) (λ i. sym (read_holds fixed (thing_of place name)) i && true)
      (silent_says (bits_in vs) true (lower_name fixed scope name) _ by)
    where
      by : (o : Operand) → bits_in vs (operand_tree o) ≡ true
      by (operand.Variable number) = refl
      by (operand.Parameter value bounds) = refl

  time_says : (fixed : Bool) (word : Word) → Says (bits_in vs) true (require (not fixed) Constant (Some word) time)
  time_says true word = tt
  time_says false word = refl

  bit_is : (o : Operand) (index : ExpressionTree) → bits_in vs (bit_in o index) ≡ (operand_bits o && bits_in vs index)
  bit_is (operand.Variable number) index = refl
  bit_is (operand.Parameter value bounds) index = refl

  part_says : (o : Operand) (bounds : Bounds) (name : Word) → Says (bits_in vs) (operand_bits o) (part_in o bounds name)
  part_says (operand.Variable number) bounds name = refl
  part_says (operand.Parameter value all) bounds name = by (is_part all bounds)
    where
      by : (b : Bool) → Says (bits_in vs) true (require b Width (Some name) (plain (part_of value all bounds (part_size bounds))))
      by true = refl
      by false = tt

  three_say : (test : ExpressionTree) (fixed : Bool) (left right : text.ExpressionTree) → Says (bits_in vs) (holds (used_in fixed left)) (lower fixed scope left) → Says (bits_in vs) (holds (used_in fixed right)) (lower fixed scope right) →
      Says (bits_in vs) (bits_in vs test && (holds (used_in fixed left) && holds (used_in fixed right)))
      (lower fixed scope left >>= λ one. lower fixed scope right >>= λ other. Ok (design.conditional test one other))
  three_say test fixed left right s t =
      through (bits_in vs) (bits_in vs) (λ b. bits_in vs test && (b && holds (used_in fixed right))) (holds (used_in fixed left)) (lower fixed scope left) _ s (λ one.
      through (bits_in vs) (bits_in vs) (λ b. bits_in vs test && (bits_in vs one && b)) (holds (used_in fixed right)) (lower fixed scope right) _ t (λ other. refl))

  front_says_more : (front : ExpressionTree) (fixed : Bool) (more : text.ExpressionTrees) → Says (bits_in vs) (holds (used_in_parts fixed more)) (lower_parts fixed scope more) →
      Says (bits_in vs) (bits_in vs front && holds (used_in_parts fixed more)) (lower_parts fixed scope more >>= λ others. Ok (in_front front more others))
  front_says_more front fixed text.none s = and_true (bits_in vs front)
  front_says_more front fixed (text.first next rest) s =
      front_says (bits_in vs) (bits_in vs) (bits_in vs front) (holds (used_in_parts fixed (text.first next rest))) (lower_parts fixed scope (text.first next rest)) _ s (λ others. refl)

  mutual
    pub lower_says : (fixed : Bool) (tree : text.ExpressionTree) → Says (bits_in vs) (holds (used_in fixed tree)) (lower fixed scope tree)
    lower_says fixed (text.number digits) = refl
    lower_says fixed (text.name letters) = read_says fixed letters
    lower_says fixed (text.time word) = time_says fixed word
    lower_says fixed (text.bit letters index) =
        then_says operand_bits (bits_in vs) (is_suited_later place (use_of ReadIn fixed letters)) (holds (used_in fixed index)) (lower_name fixed scope letters) _ (bits_say fixed letters) (λ operand.
        front_says (bits_in vs) (bits_in vs) (operand_bits operand) (holds (used_in fixed index)) (lower fixed scope index) _ (lower_says fixed index) (λ place. bit_is operand place))
    lower_says fixed (text.part letters left right) =
        with_constants (bits_in vs) (use_of ReadIn fixed letters) (used_in true left ++ used_in true right) _ (both_hold place (used_in true left) (used_in true right) (constants_hold place left) (constants_hold place right))
        (last_says operand_bits (bits_in vs) (is_suited_later place (use_of ReadIn fixed letters)) (lower_name fixed scope letters) _ (bits_say fixed letters) (λ operand.
        silent_says (bits_in vs) (operand_bits operand) (lower true scope left >>= checked_constant (first_in left)) _ (λ high.
        silent_says (bits_in vs) (operand_bits operand) (lower true scope right >>= checked_constant (first_in right)) _ (λ low. part_says operand (part_bounds high low) letters))))
    lower_says fixed (text.parentheses inner) = lower_says fixed inner
    lower_says fixed (text.concatenation parts) =
        provided_says (bits_in vs) (holds (used_in_parts fixed parts)) (nat_le (count_of parts) 64) Width (first_among parts) (lower_parts fixed scope parts) (parts_say fixed parts)
    lower_says fixed (text.replication count parts) =
        behind_constants (bits_in vs) (used_in true count) (used_in_parts fixed parts) _ (constants_hold place count)
        (silent_says (bits_in vs) (holds (used_in_parts fixed parts)) (lower true scope count >>= checked_constant (first_in count)) _ (λ amount.
        last_says (bits_in vs) (bits_in vs) (holds (used_in_parts fixed parts)) (check_part_count parts (lower_parts fixed scope parts)) _
        (provided_says (bits_in vs) (holds (used_in_parts fixed parts)) (nat_le (count_of parts) 64) Width (first_among parts) (lower_parts fixed scope parts) (parts_say fixed parts)) (λ e. refl)))
    lower_says fixed (text.conversion signed inner) = last_says (bits_in vs) (bits_in vs) (holds (used_in fixed inner)) (lower fixed scope inner) _ (lower_says fixed inner) (λ o. refl)
    lower_says fixed (text.apply operator inner) = last_says (bits_in vs) (bits_in vs) (holds (used_in fixed inner)) (lower fixed scope inner) _ (lower_says fixed inner) (λ o. refl)
    lower_says fixed (text.combine operator left right) =
        both_say (bits_in vs) (bits_in vs) (used_in fixed left) (used_in fixed right) (lower fixed scope left) _ (lower_says fixed left) (λ one.
        front_says (bits_in vs) (bits_in vs) (bits_in vs one) (holds (used_in fixed right)) (lower fixed scope right) _ (lower_says fixed right) (λ other. refl))
    lower_says fixed (text.conditional condition when_true when_false) =
        both_say (bits_in vs) (bits_in vs) (used_in fixed condition) (used_in fixed when_true ++ used_in fixed when_false) (lower fixed scope condition) _ (lower_says fixed condition) (λ test.
        reorder (bits_in vs) _ (ap (λ (b : Bool). bits_in vs test && b) (sym (list_all-append (is_suited_later place) (used_in fixed when_true) (used_in fixed when_false))))
        (three_say test fixed when_true when_false (lower_says fixed when_true) (lower_says fixed when_false)))

    parts_say : (fixed : Bool) (parts : text.ExpressionTrees) → Says (bits_in vs) (holds (used_in_parts fixed parts)) (lower_parts fixed scope parts)
    parts_say fixed text.none = refl
    parts_say fixed (text.first one more) =
        both_say (bits_in vs) (bits_in vs) (used_in fixed one) (used_in_parts fixed more) (lower fixed scope one) _ (lower_says fixed one) (λ front.
        front_says_more front fixed more (parts_say fixed more))

  -- ---- targets

  unflawed_says : (flaw : Option Flaw) (word : Option Word) (e : ExpressionTree) → Says (bits_in vs) (bits_in vs e) (value_unless_flawed flaw word e)
  unflawed_says None word e = refl
  unflawed_says (Some flaw) word e = tt

  index_says : (fixed : Bool) (index : text.ExpressionTree) → Says (bits_in vs) (holds (used_in fixed index)) (lower_index fixed scope index)
  index_says false index = lower_says false index
  index_says true index =
      last_says (bits_in vs) (bits_in vs) (holds (used_in true index)) (lower true scope index) _ (lower_says true index) (λ e. unflawed_says (flaw_of nothing e) (first_in index) e)

  mutual
    pub target_says : (drives : Bool) (target : TargetTree) → Says (row_right vs drives) (holds (used_in_target_by drives target)) (lower_target_by drives scope target)
    target_says drives (whole letters) =
        subst (λ (b : Bool). Says (row_right vs drives) b (lower_target_by drives scope (whole letters))) (and_true (is_suited_later place (use_of (way_of_whole drives) false letters)))
        (last_says (may drives) (row_right vs drives) (is_suited_later place (use_of (way_of_whole drives) false letters)) (lower_variable scope letters) _ (whole_says letters drives) (λ n. one_right (may drives n)))
    target_says drives (bit letters index) =
        then_says (may_in drives) (row_right vs drives) (is_suited_later place (use_of (way_of_part drives) false letters)) (holds (used_in drives index)) (lower_variable scope letters) _ (part_of_says letters drives) (λ n.
        front_says (bits_in vs) (row_right vs drives) (may_in drives n) (holds (used_in drives index)) (lower_index drives scope index) _ (index_says drives index) (λ e.
        bit_right (may drives n) (has_bits (slice_get vs n)) (bits_in vs e)))
    target_says drives (part letters left right) =
        with_constants (row_right vs drives) (use_of (way_of_part drives) false letters) (used_in true left ++ used_in true right) _ (both_hold place (used_in true left) (used_in true right) (constants_hold place left) (constants_hold place right))
        (last_says (may_in drives) (row_right vs drives) (is_suited_later place (use_of (way_of_part drives) false letters)) (lower_variable scope letters) _ (part_of_says letters drives) (λ n.
        silent_says (row_right vs drives) (may_in drives n) (written.lower_bounds scope left right) _ (λ bounds. sym (and_true (may_in drives n)))))
    target_says drives (joined targets) = targets_say drives targets

    targets_say : (drives : Bool) (targets : TargetTrees) → Says (row_right vs drives) (holds (used_in_targets_by drives targets)) (lower_targets_by drives scope targets)
    targets_say drives none = refl
    targets_say drives (first one more) =
        both_say (row_right vs drives) (row_right vs drives) (used_in_target_by drives one) (used_in_targets_by drives more) (lower_target_by drives scope one) _ (target_says drives one) (λ front.
        front_says (row_right vs drives) (row_right vs drives) (row_right vs drives front) (holds (used_in_targets_by drives more)) (lower_targets_by drives scope more) _ (targets_say drives more) (λ others. list_all-append (target_right vs drives) front others))
