-- What the scope of an instance says that its parameters are worth; and where a size is told in their declarations, it isn't right.
use Rattle.std.proofs.Common.{◌≡◌, ◌<◌, ◌≤◌, ℕ, ◌+◌, ◌-◌, nat_lt, nat_le, Bool, true, false, not, cond, if◌then◌else◌, ◌&&◌, ◌||◌, List, [], ◌∷◌, ◌++◌, length, slice_get, option_and_then, unwrap_or, Option, None, Some, Result, Ok, Err, refl, sym, ap, ◌∙◌, subst, arith, length-append}
use Rattle.std.specs.List.{list_any, position_or_len}
use Rattle.std.specs.Str.{bytes_eq}
use Rattle.std.proofs.lemmas.Bool.{lt-ltb, ltb-false}
use Rattle.std.proofs.lemmas.List.{append-nil}
use Rattle.std.proofs.lemmas.Bool.Decides.{nat_tests}
use Rattle.std.proofs.lemmas.Slice.Eq.{bytes_eq-Decides}
use Rattle.basis.proofs.Bools.{and_left, and_right, and_both}
use Rattle.vbits.specs.Vectors.{Vector, with_sign}
use Rattle.vwords.specs.Words.{Text}
use Rattle.vast.specs.NumberedWords.{Word}
use Rattle.vast.specs.NumberedExpressions as text
use Rattle.vast.specs.NumberedModules.{ParameterType, integer, typed, RangeTree}
use Rattle.vdesign.specs.Expressions.{ExpressionTree, constant, variable, bit, bit_of, part, time, conversion, apply, combine, conditional, joined, repeated}
use Rattle.vdesign.specs.declared.expression.Bounds.{Bounds}
use Rattle.vvalue.specs.declared.size_and_sign.SizeAndSign.{SizeAndSign}
use Rattle.vvalue.specs.Value.{Environment, size_of, self_determined, value_of}
use Rattle.vvalue.proofs.Lengths.{extended_length, right_side_length}
use Rattle.vmodules.specs.Connected.{NamedConnection, value_for}
use Rattle.vmodules.specs.Names.{is_declared}
use Rattle.velab_expr.specs.declared.fault.Rule.TheVariants.{Doubled, TooMany}
use Rattle.velab_expr.specs.declared.fault.ElabFault.{ElabFault}
use Rattle.velab_expr.specs.declared.scope.Meaning.{Meaning}
use Rattle.velab_expr.specs.declared.scope.Meaning.TheVariants.{Variable, Parameter, Event, Instance}
use Rattle.velab_expr.specs.Answers.{◌>>=◌, require}
use Rattle.velab_expr.specs.Scopes.{Scope, meaning_at, meaning_of, bounds_for}
use Rattle.velab_expr.specs.Constants.{nothing, constant_value}
use Rattle.velab_expr.specs.Resolved.{lower_constant}
use Rattle.velab_expr.specs.Ranges.{span}
use Rattle.velab_expr.specs.Symbols.{Symbol, parameter_symbol, event_symbol, instance_symbol, name_in}
use Rattle.velab_declaration.specs.Parameters.{Overrides, typed_value, integer_length, parameter_by, lower_type, lower_parameter_value, lower_setting, lower_meaning, with_meaning, add_symbols}
use Rattle.elaboration_law.specs.Widths.{Worth, meant, selected_by, is_sized, is_sized_if, is_bound, is_range}
use Rattle.elaboration_law.specs.Worths.{no_worth, with_name, range_of, bounds_by, set_to, worth_as, worth_by, is_set, worths_behind, are_set}
use Rattle.elaboration_law.proofs.UseLemmas.{first_false, second_false}
use Rattle.elaboration_law.proofs.SizeLemmas.{IsSize, AreVectors, none_sized, sized}
use Rattle.elaboration_law.proofs.PlaceLemmas.{there_is, got_in_front, got_behind}
use Rattle.elaboration_law.proofs.ConstantUses.{within}
use Rattle.elaboration_law.proofs.ExpressionWidths.{is_width, is_within, AreWorth, IsConstant, IsRange, constant_sizes, bounds_sizes}

-- ---- a declared parameter

module _ (scope : Scope) (named : Text → Worth) (vectors : AreVectors named) (agrees : AreWorth true nothing scope named) where
  type_sizes : (type : Option ParameterType) → IsRange named (range_of type) (is_range named (range_of type)) (lower_type scope type)
  type_sizes None = (refl, refl)
  type_sizes (Some (integer long)) = (refl, refl)
  type_sizes (Some (typed type)) = bounds_sizes scope named vectors agrees type.range

  module _ (outer : Scope) (outside : Text → Worth) (outer_vectors : AreVectors outside) (outer_agrees : AreWorth true nothing outer outside) (values : List NamedConnection) where
    value_set : (own : text.ExpressionTree) (other : Option text.ExpressionTree) →
        IsConstant (set_to outside values named own other) (is_sized named own && is_sized_if outside other) (lower_parameter_value outer scope own other)
    value_set own None = by (lower_constant scope own) (constant_sizes scope named vectors agrees own)
      where
        by : (a : Result ExpressionTree ElabFault) → IsConstant (meant named own) (is_sized named own) a → IsConstant (meant named own) (is_sized named own && true) a
        by (Ok e) h = (h.0, and_both (is_sized named own) true h.1 refl)
        by (Err fault) h = λ e. first_false (is_sized named own) true (h e)
    value_set own (Some other) =
        by (lower_constant scope own) (lower_constant outer other) (constant_sizes scope named vectors agrees own) (constant_sizes outer outside outer_vectors outer_agrees other)
      where
        by : (a b : Result ExpressionTree ElabFault) → IsConstant (meant named own) (is_sized named own) a → IsConstant (meant outside other) (is_sized outside other) b →
            IsConstant (meant outside other) (is_sized named own && is_sized outside other) (a >>= λ own. b)
        by (Ok e) (Ok f) h k = (k.0, and_both (is_sized named own) (is_sized outside other) h.1 k.1)
        by (Ok e) (Err fault) h k = λ is. second_false (is_sized named own) (is_sized outside other) (k is)
        by (Err fault) b h k = λ is. first_false (is_sized named own) (is_sized outside other) (h is)

-- a name stands for what is worth so much, and for no variable
abbrev pub HasWorth : Worth → Meaning → Type 0
HasWorth w (Variable number) = ⊥
HasWorth w (Parameter value bounds before) = w ≡ record { value = value; bounds = bounds_for value bounds }
HasWorth w (Event number) = Unit {0}
HasWorth w Instance = Unit {0}

abbrev pub Means : Worth → Bool → Result Meaning ElabFault → Type 0
Means w holds (Ok meaning) = HasWorth w meaning × (holds ≡ true)
Means w holds (Err fault) = is_width fault.rule ≡ true → holds ≡ false

-- ---- how many bits a parameter has

value_long : (now : Environment) (e : ExpressionTree) (here : SizeAndSign) → length (value_of now e here).letters ≡ here.size
value_long now (constant c) here = extended_length _ _ here
value_long now (variable n) here = extended_length _ _ here
value_long now (bit n index) here = extended_length _ _ here
value_long now (bit_of v bounds index) here = extended_length _ _ here
value_long now (part n bounds) here = extended_length _ _ here
value_long now time here = extended_length _ _ here
value_long now (conversion signed o) here = extended_length _ _ here
value_long now (apply operator o) here = extended_length _ _ here
value_long now (combine operator left right) here = extended_length _ _ here
value_long now (conditional test one other) here = extended_length _ _ here
value_long now (joined left right) here = extended_length _ _ here
value_long now (repeated count o) here = extended_length _ _ here

worth_long : (e : ExpressionTree) → length (constant_value e).letters ≡ size_of nothing e
worth_long e = value_long nothing e (self_determined nothing e)

-- bounds of a range are at most 64 bits apart
abbrev AreNarrow : Option Bounds → Type 0
AreNarrow None = Unit {0}
AreNarrow (Some bounds) = span bounds ≤ 64

integer_sized : (long : Bool) → IsSize (integer_length long)
integer_sized true = record { some = omega arith; few = omega arith }
integer_sized false = record { some = omega arith; few = omega arith }

parameter_sized : (type : Option ParameterType) (bounds : Option Bounds) (e : ExpressionTree) → AreNarrow bounds → IsSize (size_of nothing e) → IsSize (length (parameter_by type bounds e).letters)
unfolding with_sign
parameter_sized None bounds e narrow h = subst IsSize (sym (worth_long e)) h
parameter_sized (Some (integer long)) bounds e narrow h = subst IsSize (sym (right_side_length nothing (integer_length long) e)) (integer_sized long)
parameter_sized (Some (typed type)) bounds e narrow h = by type.signed bounds narrow
  where
    by : (signed : Bool) (b : Option Bounds) → AreNarrow b → IsSize (length (typed_value signed b e).letters)
    by true None n = subst IsSize (sym (worth_long e)) h
    by false None n = subst IsSize (sym (worth_long e)) h
    by true (Some b) n = subst IsSize (sym (right_side_length nothing (span b) e)) (record { some = omega arith; few = n })
    by false (Some b) n = subst IsSize (sym (right_side_length nothing (span b) e)) (record { some = omega arith; few = n })

-- ---- a name more

module _ (p : Text → Bool) where
  pub place_in_front : (xs ys : List Text) → list_any p xs ≡ true → position_or_len p (xs ++ ys) ≡ position_or_len p xs
  place_in_front [] ys e = absurd cc
  place_in_front (x ∷ xs) ys e = by (p x) (place_in_front xs ys) e
    where
      by : (b : Bool) → (list_any p xs ≡ true → position_or_len p (xs ++ ys) ≡ position_or_len p xs) → (b || list_any p xs) ≡ true →
          cond (not b) (1 + position_or_len p (xs ++ ys)) 0 ≡ cond (not b) (1 + position_or_len p xs) 0
      by true rest e = refl
      by false rest e = ap (λ (n : ℕ). 1 + n) (rest e)

  pub place_behind : (xs ys : List Text) → list_any p xs ≡ false → position_or_len p (xs ++ ys) ≡ length xs + position_or_len p ys
  place_behind [] ys e = omega arith
  place_behind (x ∷ xs) ys e = by (p x) (place_behind xs ys) e
    where
      by : (b : Bool) → (list_any p xs ≡ false → position_or_len p (xs ++ ys) ≡ length xs + position_or_len p ys) → (b || list_any p xs) ≡ false →
          cond (not b) (1 + position_or_len p (xs ++ ys)) 0 ≡ length (x ∷ xs) + position_or_len p ys
      by true rest e = absurd cc
      by false rest e = let h = rest e in omega (arith, h)

module _ (scope : Scope) (name : Word) (k : ℕ) (is : position_or_len (bytes_eq name.letters) scope.names ≡ k) where
  pub looked_up : k < length scope.names → meaning_of scope name ≡ meaning_at scope k
  looked_up lt =
      (λ i. option_and_then (meaning_at scope) (cond (nat_lt (is i) (length scope.names)) (Some (is i)) None))
      ∙ ap (λ (b : Bool). option_and_then (meaning_at scope) (cond b (Some k) None)) (lt-ltb k (length scope.names) lt)

  pub looked_in_vain : length scope.names ≤ k → meaning_of scope name ≡ None
  looked_in_vain le =
      let no : nat_lt k (length scope.names) ≡ false = grind (arith, nat_tests) in
      (λ i. option_and_then (meaning_at scope) (cond (nat_lt (is i) (length scope.names)) (Some (is i)) None))
      ∙ ap (λ (b : Bool). option_and_then (meaning_at scope) (cond b (Some k) None)) no

-- the last meaning, and those before it
module _ (scope : Scope) (whole : length scope.names ≡ scope.variables + length scope.others) (one : Symbol) (meaning : Meaning) where
  abbrev next : Scope
  next = with_meaning scope one meaning

  last_at : (k : ℕ) → k ≡ length scope.names → meaning_at next k ≡ Some meaning
  last_at k is =
      let late : nat_lt k scope.variables ≡ false = grind (arith, nat_tests) in
      ap (λ (b : Bool). if b then Some (Variable (scope.first + k)) else slice_get (scope.others ++ meaning ∷ []) (k - scope.variables)) late
      ∙ got_behind scope.others (meaning ∷ []) 0 (k - scope.variables) (omega (arith, is, whole))

  before_at : (k : ℕ) → k < length scope.names → meaning_at next k ≡ meaning_at scope k
  before_at k lt = by (nat_lt k scope.variables) refl
    where
      by : (b : Bool) → nat_lt k scope.variables ≡ b →
          (if b then Some (Variable (scope.first + k)) else slice_get (scope.others ++ meaning ∷ []) (k - scope.variables))
          ≡ (if b then Some (Variable (scope.first + k)) else slice_get scope.others (k - scope.variables))
      by true e = refl
      by false e =
          let le = ltb-false k scope.variables e in
          let it = there_is scope.others (k - scope.variables) (omega (arith, le, lt, whole)) in
          got_in_front scope.others (meaning ∷ []) (k - scope.variables) it.0 it.1 ∙ sym it.1

  module _ (fresh : is_declared scope.names (name_in one).letters ≡ false) (name : Word) where
    added : bytes_eq name.letters (name_in one).letters ≡ true → meaning_of next name ≡ Some meaning
    added e =
        let same : name.letters ≡ (name_in one).letters = (bytes_eq-Decides name.letters (name_in one).letters).0 e in
        let none : list_any (bytes_eq name.letters) scope.names ≡ false = ap (is_declared scope.names) same ∙ fresh in
        let first : position_or_len (bytes_eq name.letters) ((name_in one).letters ∷ []) ≡ 0 = ap (λ (b : Bool). cond (not b) (1 + 0) 0) e in
        let long = length-append scope.names ((name_in one).letters ∷ []) in
        let is = place_behind (bytes_eq name.letters) scope.names ((name_in one).letters ∷ []) none ∙ ap (λ (n : ℕ). length scope.names + n) first in
        looked_up next name (length scope.names + 0) is (omega (arith, long)) ∙ last_at (length scope.names + 0) (omega arith)

    kept : bytes_eq name.letters (name_in one).letters ≡ false → (found : Meaning) → meaning_of next name ≡ Some found → meaning_of scope name ≡ Some found
    kept e found is = by (list_any (bytes_eq name.letters) scope.names) refl
      where
        by : (b : Bool) → list_any (bytes_eq name.letters) scope.names ≡ b → meaning_of scope name ≡ Some found
        by true any =
            let place = position_or_len (bytes_eq name.letters) scope.names in
            let long = length-append scope.names ((name_in one).letters ∷ []) in
            let more = subst (λ (l : List Text). position_or_len (bytes_eq name.letters) l < length scope.names) (append-nil scope.names) (within (bytes_eq name.letters) scope.names [] any) in
            looked_up scope name place refl more ∙ sym (before_at place more)
            ∙ sym (looked_up next name place (place_in_front (bytes_eq name.letters) scope.names ((name_in one).letters ∷ []) any) (omega (arith, more, long))) ∙ is
        by false none =
            let first : position_or_len (bytes_eq name.letters) ((name_in one).letters ∷ []) ≡ 1 = ap (λ (b : Bool). cond (not b) (1 + 0) 0) e in
            let long = length-append scope.names ((name_in one).letters ∷ []) in
            let at = place_behind (bytes_eq name.letters) scope.names ((name_in one).letters ∷ []) none ∙ ap (λ (n : ℕ). length scope.names + n) first in
            let no = looked_in_vain next name (length scope.names + 1) at (omega (arith, long)) in
            absurd (let it = sym no ∙ is in cc)

  -- what names are worth, with one more
  agrees_behind : (named : Text → Worth) (w : Worth) → AreWorth true nothing scope named → HasWorth w meaning → is_declared scope.names (name_in one).letters ≡ false →
      AreWorth true nothing next (with_name named (name_in one).letters w)
  agrees_behind named w h k fresh = record {
    of_parameter = λ name value bounds before is. by name value bounds before is (bytes_eq name.letters (name_in one).letters) refl;
    of_variable = λ name number no is. absurd cc;
  }
    where
      by : (name : Word) (value : Vector) (bounds : Option Bounds) (before : ℕ) → meaning_of next name ≡ Some (Parameter value bounds before) →
          (b : Bool) → bytes_eq name.letters (name_in one).letters ≡ b → (if b then w else named name.letters) ≡ record { value = value; bounds = bounds_for value bounds }
      by name value bounds before is true e =
          let it : Some meaning ≡ Some (Parameter value bounds before) = sym (added fresh name e) ∙ is in
          let same : meaning ≡ Parameter value bounds before = ap (λ (x : Option Meaning). unwrap_or x meaning) it in
          let worth_so : HasWorth w (Parameter value bounds before) = subst (HasWorth w) same k in worth_so
      by name value bounds before is false e = h.of_parameter name value bounds before (kept fresh name e (Parameter value bounds before) is)

pub vectors_behind : (named : Text → Worth) (name : Text) (w : Worth) → AreVectors named → IsSize (length w.value.letters) → AreVectors (with_name named name w)
vectors_behind named name w h k = λ letters. by letters (bytes_eq letters name)
  where
    by : (letters : Text) (b : Bool) → IsSize (length (if b then w else named letters).value.letters)
    by letters true = k
    by letters false = h letters

-- ---- symbols

module _ (overrides : Overrides) (outside : Text → Worth) (outer_vectors : AreVectors outside) (outer_agrees : AreWorth true nothing overrides.scope outside) where
  meaning_sizes : (scope : Scope) (named : Text → Worth) → AreVectors named → AreWorth true nothing scope named → (one : Symbol) →
      Means (worth_by outside overrides.values named one) (is_set outside overrides.values named one) (lower_meaning overrides scope one)
  meaning_sizes scope named vectors agrees (parameter_symbol type setting) =
      by (lower_type scope type) (lower_setting overrides scope setting) (type_sizes scope named vectors agrees type)
      (value_set scope named vectors agrees overrides.scope outside outer_vectors outer_agrees overrides.values setting.value other)
    where
      other : Option text.ExpressionTree
      other = value_for overrides.values setting.name.letters

      tree : ExpressionTree
      tree = set_to outside overrides.values named setting.value other

      ranged : Bool
      ranged = is_range named (range_of type)

      valued : Bool
      valued = is_sized named setting.value && is_sized_if outside other

      by : (a : Result (Option Bounds) ElabFault) (b : Result ExpressionTree ElabFault) → IsRange named (range_of type) ranged a → IsConstant tree valued b →
          Means (worth_as outside overrides.values named type (bounds_by named (range_of type)) tree) (ranged && valued)
          (a >>= λ bounds. b >>= λ value. Ok (Parameter (parameter_by type bounds value) bounds scope.known))
      by (Ok bounds) (Ok value) h k =
          (λ i. worth_as outside overrides.values named type (sym h.0 i) (sym k.0 i), and_both ranged valued h.1 k.1)
      by (Ok bounds) (Err fault) h k = λ e. second_false ranged valued (k e)
      by (Err fault) b h k = λ e. first_false ranged valued (h e)
  meaning_sizes scope named vectors agrees (event_symbol name) = by (nat_lt scope.events 4294967295)
    where
      by : (few : Bool) → Means no_worth true (require few TooMany (Some name) (Event scope.events))
      by true = (tt, refl)
      by false = λ e. absurd cc
  meaning_sizes scope named vectors agrees (instance_symbol name) = (tt, refl)

  worth_sized : (named : Text → Worth) → AreVectors named → (one : Symbol) → is_set outside overrides.values named one ≡ true →
      IsSize (length (worth_by outside overrides.values named one).value.letters)
  worth_sized named vectors (parameter_symbol type setting) is =
      parameter_sized type (bounds_by named (range_of type)) (set_to outside overrides.values named setting.value other)
      (narrow (range_of type) (and_left (is_range named (range_of type)) (is_sized named setting.value && is_sized_if outside other) is)) (tree_sized other)
    where
      other : Option text.ExpressionTree
      other = value_for overrides.values setting.name.letters

      narrow : (range : Option RangeTree) → is_range named range ≡ true → AreNarrow (bounds_by named range)
      narrow None e = tt
      narrow (Some range) e =
          let few = nat_le (span (selected_by named range.left range.right)) 64 in
          is_within (span (selected_by named range.left range.right))
          (and_right (is_bound named range.right) few (and_right (is_bound named range.left) (is_bound named range.right && few) e))

      tree_sized : (from : Option text.ExpressionTree) → IsSize (size_of nothing (set_to outside overrides.values named setting.value from))
      tree_sized None = sized named vectors setting.value
      tree_sized (Some tree) = sized outside outer_vectors tree
  worth_sized named vectors (event_symbol name) is = none_sized
  worth_sized named vectors (instance_symbol name) is = none_sized

  -- a scope says what names are worth
  pub record IsWorth (scope : Scope) (named : Text → Worth) : Type 0 where
    pub whole : length scope.names ≡ scope.variables + length scope.others
    pub vectors : AreVectors named
    pub agrees : AreWorth true nothing scope named

  abbrev pub AllAdded : (Text → Worth) → Bool → Result Scope ElabFault → Type 0
  AllAdded named holds (Ok next) = IsWorth next named × (holds ≡ true)
  AllAdded named holds (Err fault) = is_width fault.rule ≡ true → holds ≡ false

  then_added : (named : Text → Worth) (one more : Bool) (a : Result Scope ElabFault) → one ≡ true → AllAdded named more a → AllAdded named (one && more) a
  then_added named one more (Ok last) h k = (k.0, and_both one more h k.1)
  then_added named one more (Err fault) h k = λ e. second_false one more (k e)

  pub symbols_sizes : (scope : Scope) (named : Text → Worth) (list : List Symbol) → IsWorth scope named →
      AllAdded (worths_behind outside overrides.values named list) (are_set outside overrides.values named list) (add_symbols overrides scope list)
  symbols_sizes scope named [] h = (h, refl)
  symbols_sizes scope named (one ∷ more) h =
      by (lower_meaning overrides scope one) (meaning_sizes scope named h.vectors h.agrees one)
      (λ meaning s set fresh. symbols_sizes (with_meaning scope one meaning) (with_name named (name_in one).letters w) more (grown meaning s set fresh))
    where
      w : Worth
      w = worth_by outside overrides.values named one

      grown : (meaning : Meaning) → HasWorth w meaning → is_set outside overrides.values named one ≡ true → is_declared scope.names (name_in one).letters ≡ false →
          IsWorth (with_meaning scope one meaning) (with_name named (name_in one).letters w)
      grown meaning s set fresh =
          let names = length-append scope.names ((name_in one).letters ∷ []) in
          let others = length-append scope.others (meaning ∷ []) in
          let all = h.whole in
          record {
            whole = omega (arith, names, others, all);
            vectors = vectors_behind named (name_in one).letters w h.vectors (worth_sized named h.vectors one set);
            agrees = agrees_behind scope h.whole one meaning named w h.agrees s fresh;
          }

      set_one : Bool
      set_one = is_set outside overrides.values named one

      set_more : Bool
      set_more = are_set outside overrides.values (with_name named (name_in one).letters w) more

      all_named : Text → Worth
      all_named = worths_behind outside overrides.values (with_name named (name_in one).letters w) more

      fresh_or : (meaning : Meaning) → set_one ≡ true → (declared : Bool) →
          (declared ≡ false → AllAdded all_named set_more (add_symbols overrides (with_meaning scope one meaning) more)) →
          AllAdded all_named (set_one && set_more) (require (not declared) Doubled (Some (name_in one)) (with_meaning scope one meaning) >>= λ next. add_symbols overrides next more)
      fresh_or meaning set true rest = λ e. absurd cc
      fresh_or meaning set false rest = then_added all_named set_one set_more (add_symbols overrides (with_meaning scope one meaning) more) set (rest refl)

      by : (a : Result Meaning ElabFault) → Means w set_one a →
          ((meaning : Meaning) → HasWorth w meaning → set_one ≡ true → is_declared scope.names (name_in one).letters ≡ false →
          AllAdded all_named set_more (add_symbols overrides (with_meaning scope one meaning) more)) →
          AllAdded all_named (set_one && set_more)
          ((a >>= λ meaning. require (not (is_declared scope.names (name_in one).letters)) Doubled (Some (name_in one)) (with_meaning scope one meaning)) >>= λ next. add_symbols overrides next more)
      by (Ok meaning) k rest = fresh_or meaning k.1 (is_declared scope.names (name_in one).letters) (λ fresh. rest meaning k.0 k.1 fresh)
      by (Err fault) k rest = λ e. first_false set_one set_more (k e)
