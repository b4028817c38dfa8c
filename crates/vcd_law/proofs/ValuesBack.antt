-- What is known of a code behind what a slot tells.
use Rattle.std.proofs.Common.{◌≡◌, ℕ, zero, suc, ◌+◌, ◌<◌, Bool, true, false, ◌&&◌, if◌then◌else◌, List, [], ◌∷◌, ◌++◌, length, map, Option, Some, None, slice_get, refl, ap, sym, ◌∙◌, subst, arith}
use Rattle.std.specs.Prelude.{nat_eq, not, zip}
use Rattle.std.specs.List.{list_all}
use Rattle.std.proofs.lemmas.Bool.{eqb-true}
use Rattle.std.proofs.lemmas.Option.{same_Some}
use Rattle.basis.proofs.Bools.{and_both, and_left, and_right}
use Rattle.vbits.specs.declared.bit4.Bit4.{Bit4}
use Rattle.vbits.specs.Letters.{is_same}
use Rattle.vbits.specs.Equal.{vectors_tell}
use Rattle.vbits.specs.Vectors.{Vector, letters_alike, same_letters}
use Rattle.value_text.specs.ValueText.{binary}
use Rattle.vcd_read.specs.Words.{Text}
use Rattle.vcd_read.specs.Commands.{Item}
use Rattle.vcd_slots.specs.Slots.{digits_behind, digits_by, on_behind, on_by as turned_by}
use Rattle.vcd_text.specs.DumpText.{changes, code, is_kept, is_news, on_after, on_by, selected_values, short_digits, unknown_of}
use Rattle.vdesign.specs.declared.dump.DumpCommand.{DumpCommand}
use Rattle.vdesign.specs.declared.dump.DumpCommand.TheVariants.{Vars, Off, On, All as AllValues}
use Rattle.vcd_law.specs.ReadBack.{unsigned}
use Rattle.vcd_law.proofs.PartsBack.{changed_items, command_items, commands_items, told_items, value_item}
use Rattle.vcd_law.proofs.CodesBack.{code_differs, code_same}

abbrev pub digits_of : Vector → Text
digits_of v = short_digits (binary v)

abbrev pub known : Bool → Text → Option Text
known is_on digits = if is_on then Some digits else None

-- ---- items, one after another

pub on_both : (b : Bool) (xs ys : List Item) → on_behind b (xs ++ ys) ≡ on_behind (on_behind b xs) ys
on_both b [] ys = refl
on_both b (x ∷ xs) ys = on_both (turned_by b x) xs ys

pub digits_both : (name : Text) (b : Bool) (told : Option Text) (xs ys : List Item) →
    digits_behind name b told (xs ++ ys) ≡ digits_behind name (on_behind b xs) (digits_behind name b told xs) ys
digits_both name b told [] ys = refl
digits_both name b told (x ∷ xs) ys = digits_both name (turned_by b x) (digits_by name b told x) xs ys

on_told : (b : Bool) (told : List (ℕ × Vector)) → on_behind b (told_items told) ≡ b
on_told b [] = refl
on_told b (entry ∷ told) = on_told b told

-- while a dump is off no value counts
off_told : (name : Text) (known : Option Text) (told : List (ℕ × Vector)) → digits_behind name false known (told_items told) ≡ known
off_told name known [] = refl
off_told name known (entry ∷ told) = off_told name known told

value_other : (n m : ℕ) (v : Vector) (o : Option Text) → (m ≡ n → ⊥) → digits_by (code n) true o (value_item m v) ≡ o
value_other n m v o ne = ap (λ (b : Bool). if b then Some (digits_of v) else o) (code_differs m n ne)

value_same : (n m : ℕ) (v : Vector) (o : Option Text) → m ≡ n → digits_by (code n) true o (value_item m v) ≡ Some (digits_of v)
value_same n m v o is =
    subst (λ (k : ℕ). digits_by (code n) true o (value_item k v) ≡ Some (digits_of v)) (sym is)
    (ap (λ (b : Bool). if b then Some (digits_of v) else o) (code_same n))

-- ---- all values

untouched : (n m : ℕ) (marks : List Bool) (vs : List Vector) (o : Option Text) → n < m → digits_behind (code n) true o (told_items (selected_values m marks vs)) ≡ o
untouched n m marks [] o lt = refl
untouched n m [] (v ∷ vs) o lt = refl
untouched n m (true ∷ marks) (v ∷ vs) o lt =
    ap (λ (p : Option Text). digits_behind (code n) true p (told_items (selected_values (suc m) marks vs))) (value_other n m v o (λ same. omega arith))
    ∙ untouched n (suc m) marks vs o (omega arith)
untouched n m (false ∷ marks) (v ∷ vs) o lt = untouched n (suc m) marks vs o (omega arith)

told_all : (n m j : ℕ) (marks : List Bool) (vs : List Vector) (v : Vector) (o : Option Text) → n ≡ m + j → slice_get marks j ≡ Some true → slice_get vs j ≡ Some v →
    digits_behind (code n) true o (told_items (selected_values m marks vs)) ≡ Some (digits_of v)
told_all n m j marks [] v o is at_m at_v = absurd cc
told_all n m j [] (w ∷ vs) v o is at_m at_v = absurd cc
told_all n m zero (false ∷ marks) (w ∷ vs) v o is at_m at_v = absurd cc
told_all n m zero (true ∷ marks) (w ∷ vs) v o is at_m at_v =
    ap (λ (p : Option Text). digits_behind (code n) true p (told_items (selected_values (suc m) marks vs))) (value_same n m w o (omega arith))
    ∙ untouched n (suc m) marks vs (Some (digits_of w)) (omega arith) ∙ ap (λ (u : Vector). Some (digits_of u)) (same_Some w v at_v)
told_all n m (suc j) (true ∷ marks) (w ∷ vs) v o is at_m at_v =
    ap (λ (p : Option Text). digits_behind (code n) true p (told_items (selected_values (suc m) marks vs))) (value_other n m w o (λ same. omega arith))
    ∙ told_all n (suc m) j marks vs v o (omega arith) at_m at_v
told_all n m (suc j) (false ∷ marks) (w ∷ vs) v o is at_m at_v = told_all n (suc m) j marks vs v o (omega arith) at_m at_v

-- ---- changes

-- a value of another code, if there is one
skipped : (b : Bool) (n m : ℕ) (v : Vector) (rest : List (ℕ × Vector)) (o p : Option Text) → (m ≡ n → ⊥) →
    digits_behind (code n) true o (told_items rest) ≡ p → digits_behind (code n) true o (told_items (if b then (m, v) ∷ rest else rest)) ≡ p
skipped true n m v rest o p ne later = ap (λ (q : Option Text). digits_behind (code n) true q (told_items rest)) (value_other n m v o ne) ∙ later
skipped false n m v rest o p ne later = later

unchanged : (n m : ℕ) (marks : List Bool) (us vs : List Vector) (o : Option Text) → n < m → digits_behind (code n) true o (told_items (changes m marks us vs)) ≡ o
unchanged n m marks us [] o lt = refl
unchanged n m [] us (v ∷ vs) o lt = refl
unchanged n m (mark ∷ marks) [] (v ∷ vs) o lt = refl
unchanged n m (mark ∷ marks) (u ∷ us) (v ∷ vs) o lt =
    skipped (is_news mark u v) n m v (changes (suc m) marks us vs) o o (λ same. omega arith) (unchanged n (suc m) marks us vs o (omega arith))

-- the letters, one by one
alike_is : (xs ys : List Bit4) → length xs ≡ length ys → list_all (λ pair. is_same pair.0 pair.1) (zip xs ys) ≡ letters_alike xs ys
alike_is [] [] long = refl
alike_is [] (y ∷ ys) long = absurd (omega arith)
alike_is (x ∷ xs) [] long = absurd (omega arith)
alike_is (x ∷ xs) (y ∷ ys) long = ap (λ (b : Bool). is_same x y && b) (alike_is xs ys (omega arith))

kept_digits : (u v : Vector) → is_kept u v ≡ true → digits_of u ≡ digits_of v
unfolding same_letters
kept_digits u v h =
    let long : length u.letters ≡ length v.letters = eqb-true (length u.letters) (length v.letters) (and_left (nat_eq (length u.letters) (length v.letters)) (same_letters u.letters v.letters) h) in
    let same : same_letters u.letters v.letters ≡ true = and_right (nat_eq (length u.letters) (length v.letters)) (same_letters u.letters v.letters) h in
    let one : unsigned u ≡ unsigned v =
    (vectors_tell (unsigned u) (unsigned v)).0 (and_both (letters_alike u.letters v.letters) true (sym (alike_is u.letters v.letters long) ∙ same) refl) in
    ap digits_of one

-- the first of the values changed, or didn't
one_changed : (n m : ℕ) (kept : Bool) (u v : Vector) (rest : List (ℕ × Vector)) → m ≡ n → is_kept u v ≡ kept →
    ((o : Option Text) → digits_behind (code n) true o (told_items rest) ≡ o) →
    digits_behind (code n) true (Some (digits_of u)) (told_items (if not kept then (m, v) ∷ rest else rest)) ≡ Some (digits_of v)
one_changed n m true u v rest is kept later = later (Some (digits_of u)) ∙ ap Some (kept_digits u v kept)
one_changed n m false u v rest is kept later =
    ap (λ (p : Option Text). digits_behind (code n) true p (told_items rest)) (value_same n m v (Some (digits_of u)) is) ∙ later (Some (digits_of v))

told_changes : (n m j : ℕ) (marks : List Bool) (us vs : List Vector) (u v : Vector) → n ≡ m + j → slice_get marks j ≡ Some true → slice_get us j ≡ Some u →
    slice_get vs j ≡ Some v → digits_behind (code n) true (Some (digits_of u)) (told_items (changes m marks us vs)) ≡ Some (digits_of v)
told_changes n m j marks us [] u v is at_m at_u at_v = absurd cc
told_changes n m j [] us (w ∷ vs) u v is at_m at_u at_v = absurd cc
told_changes n m j (mark ∷ marks) [] (w ∷ vs) u v is at_m at_u at_v = absurd cc
told_changes n m zero (false ∷ marks) (t ∷ us) (w ∷ vs) u v is at_m at_u at_v = absurd cc
told_changes n m zero (true ∷ marks) (t ∷ us) (w ∷ vs) u v is at_m at_u at_v =
    ap (λ (x : Vector). digits_behind (code n) true (Some (digits_of x)) (told_items (changes m (true ∷ marks) (t ∷ us) (w ∷ vs)))) (sym (same_Some t u at_u))
    ∙ one_changed n m (is_kept t w) t w (changes (suc m) marks us vs) (omega arith) refl (λ o. unchanged n (suc m) marks us vs o (omega arith))
    ∙ ap (λ (x : Vector). Some (digits_of x)) (same_Some w v at_v)
told_changes n m (suc j) (mark ∷ marks) (t ∷ us) (w ∷ vs) u v is at_m at_u at_v =
    skipped (is_news mark t w) n m w (changes (suc m) marks us vs) (Some (digits_of u)) (Some (digits_of v)) (λ same. omega arith)
    (told_changes n (suc m) j marks us vs u v (omega arith) at_m at_u at_v)

-- ---- commands

module _ (marks : List Bool) (values : List Vector) where
  command_on : (is_on : Bool) (command : DumpCommand) → on_behind is_on (command_items marks values is_on command) ≡ on_by is_on command
  command_on is_on (Vars place) = refl
  command_on true Off = on_told false (selected_values 0 marks (map unknown_of values))
  command_on false Off = refl
  command_on true On = refl
  command_on false On = on_told true (selected_values 0 marks values)
  command_on true AllValues = on_told true (selected_values 0 marks values)
  command_on false AllValues = refl

  pub commands_on : (is_on : Bool) (commands : List DumpCommand) → on_behind is_on (commands_items marks values is_on commands) ≡ on_after is_on commands
  commands_on is_on [] = refl
  commands_on is_on (command ∷ commands) =
      on_both is_on (command_items marks values is_on command) (commands_items marks values (on_by is_on command) commands)
      ∙ ap (λ (b : Bool). on_behind b (commands_items marks values (on_by is_on command) commands)) (command_on is_on command)
      ∙ commands_on (on_by is_on command) commands

  module _ (n : ℕ) (v : Vector) (at_m : slice_get marks n ≡ Some true) (at_v : slice_get values n ≡ Some v) where
    all_known : (o : Option Text) → digits_behind (code n) true o (told_items (selected_values 0 marks values)) ≡ Some (digits_of v)
    all_known o = told_all n 0 n marks values v o (omega arith) at_m at_v

    command_known : (is_on : Bool) (command : DumpCommand) →
        digits_behind (code n) is_on (known is_on (digits_of v)) (command_items marks values is_on command) ≡ known (on_by is_on command) (digits_of v)
    command_known is_on (Vars place) = refl
    command_known true Off = off_told (code n) None (selected_values 0 marks (map unknown_of values))
    command_known false Off = refl
    command_known true On = refl
    command_known false On = all_known None
    command_known true AllValues = all_known (Some (digits_of v))
    command_known false AllValues = refl

    commands_known : (is_on : Bool) (commands : List DumpCommand) →
        digits_behind (code n) is_on (known is_on (digits_of v)) (commands_items marks values is_on commands) ≡ known (on_after is_on commands) (digits_of v)
    commands_known is_on [] = refl
    commands_known is_on (command ∷ commands) =
        let first : List Item = command_items marks values is_on command in
        let rest : List Item = commands_items marks values (on_by is_on command) commands in
        digits_both (code n) is_on (known is_on (digits_of v)) first rest
        ∙ (λ i. digits_behind (code n) (command_on is_on command i) (command_known is_on command i) rest)
        ∙ commands_known (on_by is_on command) commands

    -- the first slot, whose values are all told
    pub start_known : (commands : List DumpCommand) →
        digits_behind (code n) true None (told_items (selected_values 0 marks values) ++ commands_items marks values true commands) ≡ known (on_after true commands) (digits_of v)
    start_known commands =
        let first : List Item = told_items (selected_values 0 marks values) in
        let rest : List Item = commands_items marks values true commands in
        digits_both (code n) true None first rest
        ∙ (λ i. digits_behind (code n) (on_told true (selected_values 0 marks values) i) (all_known None i) rest)
        ∙ commands_known true commands

    -- a later one
    pub slot_known : (before : List Vector) (u : Vector) → slice_get before n ≡ Some u → (is_on : Bool) (commands : List DumpCommand) →
        digits_behind (code n) is_on (known is_on (digits_of u)) (changed_items marks values is_on before ++ commands_items marks values is_on commands)
        ≡ known (on_after is_on commands) (digits_of v)
    slot_known before u at_u false commands = commands_known false commands
    slot_known before u at_u true commands =
        let first : List Item = told_items (changes 0 marks before values) in
        let rest : List Item = commands_items marks values true commands in
        digits_both (code n) true (Some (digits_of u)) first rest
        ∙ (λ i. digits_behind (code n) (on_told true (changes 0 marks before values) i) (told_changes n 0 n marks before values u v (omega arith) at_m at_u at_v i) rest)
        ∙ commands_known true commands

  pub start_on : (commands : List DumpCommand) → on_behind true (told_items (selected_values 0 marks values) ++ commands_items marks values true commands) ≡ on_after true commands
  start_on commands =
      on_both true (told_items (selected_values 0 marks values)) (commands_items marks values true commands)
      ∙ ap (λ (b : Bool). on_behind b (commands_items marks values true commands)) (on_told true (selected_values 0 marks values)) ∙ commands_on true commands

  pub slot_on : (before : List Vector) (is_on : Bool) (commands : List DumpCommand) →
      on_behind is_on (changed_items marks values is_on before ++ commands_items marks values is_on commands) ≡ on_after is_on commands
  slot_on before false commands = commands_on false commands
  slot_on before true commands =
      on_both true (told_items (changes 0 marks before values)) (commands_items marks values true commands)
      ∙ ap (λ (b : Bool). on_behind b (commands_items marks values true commands)) (on_told true (changes 0 marks before values)) ∙ commands_on true commands
