-- A reader of a dump knows the values at each slot's end.
use Rattle.std.proofs.Common.{◌≡◌, ℕ, zero, suc, ◌+◌, Bool, true, false, cond, ◌&&◌, ◌==◌, List, [], ◌∷◌, ◌++◌, Some, length, map, reverse, set, take, refl, sym, ap, subst, ◌∙◌, append_assoc, length-append, add-one, arith}
use Rattle.std.specs.Prelude.{codes, not, slice_get, slice_set, zip}
use Rattle.std.specs.List.{list_all}
use Rattle.std.proofs.Math.Seq.{set-append_seam}
use Rattle.std.proofs.lemmas.Bool.Decides.{nat_tests}
use Rattle.std.proofs.lemmas.List.{length-set}
use Rattle.std.proofs.lemmas.List.Elements.{All-head, All-tail}
use Rattle.std.proofs.lemmas.Option.{none-some}
use Rattle.vbits.specs.declared.bit4.Bit4.{Bit4}
use Rattle.vbits.specs.declared.bit4.Bit4.TheVariants.{Zero, One, X, Z}
use Rattle.vbits.specs.Letters.{is_same}
use Rattle.vbits.specs.Vectors.{Vector, same_letters}
use Rattle.vdesign.specs.declared.dump.DumpCommand.{DumpCommand}
use Rattle.vdesign.specs.declared.dump.DumpCommand.TheVariants.{Vars, Off, On, All as AllValues}
use Rattle.vcd_text.specs.DumpText.{Part, Piece, DumpSlot, all_at, change, changed_part, changes, selected_values, code, command_part, command_parts, text_in_frame, is_kept, is_news, is_nothing, later_parts, later_pieces, line, on_after, on_by, part_text, parts_text, piece_text, pieces, nonempty_pieces, start, value_lines}
use Rattle.vcd_text.specs.Readers.{AllHave, TellsValues, values_after_pieces, values_after_parts, letters_of, on_over, values_after_changes, items_at}
use Rattle.value_text.specs.ValueText.{binary_digit as digit}

-- ---- values that are kept

both : (a b : Bool) → (a && b) ≡ true → (a ≡ true) × (b ≡ true)
both true b e = (refl, e)
both false b e = absurd (apart e)
  where
    apart : false ≡ true → ⊥
    apart e = cc

same_letter : (x y : Bit4) → is_same x y ≡ true → x ≡ y
same_letter Zero Zero e = refl
same_letter One One e = refl
same_letter X X e = refl
same_letter Z Z e = refl
same_letter x y e = cc

same_lists : (xs ys : List Bit4) → length xs ≡ length ys → same_letters xs ys ≡ true → xs ≡ ys
unfolding same_letters
same_lists [] [] long e = refl
same_lists [] (y ∷ ys) long e = absurd (omega arith)
same_lists (x ∷ xs) [] long e = absurd (omega arith)
same_lists (x ∷ xs) (y ∷ ys) long e =
    let parts = both (is_same x y) (list_all (λ pair. is_same pair.0 pair.1) (zip xs ys)) e in
    let first : x ≡ y = same_letter x y parts.0 in
    let rest : xs ≡ ys = same_lists xs ys (omega arith) parts.1 in
    ap (λ (z : Bit4). z ∷ xs) first ∙ ap (λ (zs : List Bit4). y ∷ zs) rest

kept_letters : (u v : Vector) → is_kept u v ≡ true → u.letters ≡ v.letters
kept_letters u v e =
    let parts = both (length u.letters == length v.letters) (same_letters u.letters v.letters) e in
    same_lists u.letters v.letters (grind (arith, nat_tests)) parts.1

-- ---- values told into what is known

cons_head : {A : Type 0} (x y : A) (xs ys : List A) → x ∷ xs ≡ y ∷ ys → x ≡ y
cons_head x y xs ys e = cc

cons_tail : {A : Type 0} (x y : A) (xs ys : List A) → x ∷ xs ≡ y ∷ ys → xs ≡ ys
cons_tail x y xs ys e = cc

length_more : (ps : List Vector) (w : Vector) (n : ℕ) → length ps ≡ n → length (ps ++ w ∷ []) ≡ suc n
length_more ps w n is = let more : length (ps ++ w ∷ []) ≡ length ps + length (w ∷ []) = length-append ps (w ∷ []) in omega arith

seam : (ps cs : List Vector) (c v : Vector) (n : ℕ) → length ps ≡ n → set (ps ++ c ∷ cs) n v ≡ ps ++ v ∷ [] ++ cs
seam ps cs c v n is =
    ap (λ (i : ℕ). set (ps ++ c ∷ cs) i v) (sym is) ∙ set-append_seam ps c cs v ∙ sym (append_assoc ps (v ∷ []) cs)

-- values of which those that are marked are replaced
abbrev pub merged : List Bool → List Vector → List Vector → List Vector
merged marks cs [] = cs
merged [] cs (v ∷ vs) = cs
merged (mark ∷ marks) [] (v ∷ vs) = []
merged (mark ∷ marks) (c ∷ cs) (v ∷ vs) = cond mark v c ∷ merged marks cs vs

-- all values that are marked
over_listed : (marks : List Bool) (vs cs ps : List Vector) (n : ℕ) → length ps ≡ n → length cs ≡ length vs →
    values_after_changes (ps ++ cs) (selected_values n marks vs) ≡ ps ++ merged marks cs vs
over_listed marks [] cs ps n is long = refl
over_listed [] (v ∷ vs) cs ps n is long = refl
over_listed (mark ∷ marks) (v ∷ vs) [] ps n is long = absurd (omega arith)
over_listed (true ∷ marks) (v ∷ vs) (c ∷ cs) ps n is long =
    ap (λ (xs : List Vector). values_after_changes xs (selected_values (suc n) marks vs)) (seam ps cs c v n is)
    ∙ over_listed marks vs cs (ps ++ v ∷ []) (suc n) (length_more ps v n is) (omega arith)
    ∙ append_assoc ps (v ∷ []) (merged marks cs vs)
over_listed (false ∷ marks) (v ∷ vs) (c ∷ cs) ps n is long =
    ap (λ (xs : List Vector). values_after_changes xs (selected_values (suc n) marks vs)) (sym (append_assoc ps (c ∷ []) cs))
    ∙ over_listed marks vs cs (ps ++ c ∷ []) (suc n) (length_more ps c n is) (omega arith)
    ∙ append_assoc ps (c ∷ []) (merged marks cs vs)

picked_merged : (marks : List Bool) (cs vs : List Vector) → length cs ≡ length vs →
    items_at marks (letters_of (merged marks cs vs)) ≡ items_at marks (letters_of vs)
picked_merged marks [] [] long = refl
picked_merged marks (c ∷ cs) [] long = absurd (omega arith)
picked_merged [] [] (v ∷ vs) long = absurd (omega arith)
picked_merged [] (c ∷ cs) (v ∷ vs) long = refl
picked_merged (mark ∷ marks) [] (v ∷ vs) long = absurd (omega arith)
picked_merged (true ∷ marks) (c ∷ cs) (v ∷ vs) long = ap (λ (ls : List (List Bit4)). v.letters ∷ ls) (picked_merged marks cs vs (omega arith))
picked_merged (false ∷ marks) (c ∷ cs) (v ∷ vs) long = picked_merged marks cs vs (omega arith)

-- values of which those are replaced that are marked and have changed
abbrev pub renewed : List Bool → List Vector → List Vector → List Vector → List Vector
renewed marks cs us [] = cs
renewed [] cs us (v ∷ vs) = cs
renewed (mark ∷ marks) cs [] (v ∷ vs) = cs
renewed (mark ∷ marks) [] (u ∷ us) (v ∷ vs) = []
renewed (mark ∷ marks) (c ∷ cs) (u ∷ us) (v ∷ vs) = cond (is_news mark u v) v c ∷ renewed marks cs us vs

-- one value that is told or not, where the later ones are
one_change : (b : Bool) (told : List (ℕ × Vector)) (c v : Vector) (cs ps rest : List Vector) (n : ℕ) → length ps ≡ n →
    ((w : Vector) → values_after_changes (ps ++ w ∷ [] ++ cs) told ≡ ps ++ w ∷ [] ++ rest) →
    values_after_changes (ps ++ c ∷ cs) (cond b ((n, v) ∷ told) told) ≡ ps ++ cond b v c ∷ rest
one_change true told c v cs ps rest n is next =
    ap (λ (xs : List Vector). values_after_changes xs told) (seam ps cs c v n is) ∙ next v ∙ append_assoc ps (v ∷ []) rest
one_change false told c v cs ps rest n is next =
    ap (λ (xs : List Vector). values_after_changes xs told) (sym (append_assoc ps (c ∷ []) cs)) ∙ next c ∙ append_assoc ps (c ∷ []) rest

-- the values that are marked and differ from those that are known
over_changes : (marks : List Bool) (us vs cs ps : List Vector) (n : ℕ) → length ps ≡ n → length us ≡ length vs → length cs ≡ length vs →
    values_after_changes (ps ++ cs) (changes n marks us vs) ≡ ps ++ renewed marks cs us vs
over_changes marks us [] cs ps n is long same = refl
over_changes [] us (v ∷ vs) cs ps n is long same = refl
over_changes (mark ∷ marks) [] (v ∷ vs) cs ps n is long same = absurd (omega arith)
over_changes (mark ∷ marks) (u ∷ us) (v ∷ vs) [] ps n is long same = absurd (omega arith)
over_changes (mark ∷ marks) (u ∷ us) (v ∷ vs) (c ∷ cs) ps n is long same =
    one_change (is_news mark u v) (changes (suc n) marks us vs) c v cs ps (renewed marks cs us vs) n is
    (λ w. over_changes marks us vs cs (ps ++ w ∷ []) (suc n) (length_more ps w n is) (omega arith) (omega arith))

-- a value that is marked, where the one before it was known
one_news : (kept : Bool) (u v c : Vector) → is_kept u v ≡ kept → c.letters ≡ u.letters → (cond (not kept) v c).letters ≡ v.letters
one_news true u v c is same = same ∙ kept_letters u v is
one_news false u v c is same = refl

picked_renewed : (marks : List Bool) (cs us vs : List Vector) → length us ≡ length vs → length cs ≡ length vs →
    items_at marks (letters_of cs) ≡ items_at marks (letters_of us) → items_at marks (letters_of (renewed marks cs us vs)) ≡ items_at marks (letters_of vs)
picked_renewed marks [] us [] many long same = refl
picked_renewed marks (c ∷ cs) us [] many long same = absurd (omega arith)
picked_renewed [] [] us (v ∷ vs) many long same = absurd (omega arith)
picked_renewed [] (c ∷ cs) us (v ∷ vs) many long same = refl
picked_renewed (mark ∷ marks) cs [] (v ∷ vs) many long same = absurd (omega arith)
picked_renewed (mark ∷ marks) [] (u ∷ us) (v ∷ vs) many long same = absurd (omega arith)
picked_renewed (true ∷ marks) (c ∷ cs) (u ∷ us) (v ∷ vs) many long same =
    let first = cons_head c.letters u.letters (items_at marks (letters_of cs)) (items_at marks (letters_of us)) same in
    let rest = cons_tail c.letters u.letters (items_at marks (letters_of cs)) (items_at marks (letters_of us)) same in
    ap (λ (l : List Bit4). l ∷ items_at marks (letters_of (renewed marks cs us vs))) (one_news (is_kept u v) u v c refl first)
    ∙ ap (λ (ls : List (List Bit4)). v.letters ∷ ls) (picked_renewed marks cs us vs (omega arith) (omega arith) rest)
picked_renewed (false ∷ marks) (c ∷ cs) (u ∷ us) (v ∷ vs) many long same = picked_renewed marks cs us vs (omega arith) (omega arith) same

-- ---- pieces that say nothing

line_says : (xs ys : List ℕ) → is_nothing (line xs ++ ys) ≡ false
line_says [] ys = refl
line_says (x ∷ xs) ys = refl

told_nothing : (word : List ℕ) (told : List (ℕ × Vector)) → is_nothing (text_in_frame word (value_lines told)) ≡ true → told ≡ []
told_nothing (c ∷ cs) told e = cc
told_nothing [] [] e = refl
told_nothing [] (entry ∷ told) e =
    let says : is_nothing (value_lines (entry ∷ told)) ≡ false =
    line_says (change (map digit (reverse entry.1.letters)) (code entry.0)) (value_lines told) in
    cc

nothing_parts : (xs ys : List ℕ) → is_nothing (xs ++ ys) ≡ true → (is_nothing xs ≡ true) × (is_nothing ys ≡ true)
nothing_parts [] ys e = (refl, e)
nothing_parts (x ∷ xs) ys e = cc

parts_nothing : (parts : List Part) (values : List Vector) → is_nothing (parts_text parts) ≡ true → values_after_parts values parts ≡ values
parts_nothing [] values e = refl
parts_nothing (part ∷ parts) values e =
    let both = nothing_parts (part_text part) (parts_text parts) e in
    ap (λ (told : List (ℕ × Vector)). values_after_parts (values_after_changes values told) parts) (told_nothing part.word part.told both.0)
    ∙ parts_nothing parts values both.1

by_text : (b : Bool) (p : Piece) (ps : List Piece) (values : List Vector) → is_nothing (piece_text p) ≡ b →
    ((vs : List Vector) → values_after_pieces vs (nonempty_pieces ps) ≡ values_after_pieces vs ps) → values_after_pieces values (nonempty_pieces (p ∷ ps)) ≡ values_after_pieces values (p ∷ ps)
by_text true p ps values e next =
    ap (λ (b : Bool). values_after_pieces values (cond b (nonempty_pieces ps) (p ∷ nonempty_pieces ps))) e
    ∙ next values
    ∙ ap (λ (vs : List Vector). values_after_pieces vs ps) (sym (parts_nothing p.parts values e))
by_text false p ps values e next =
    ap (λ (b : Bool). values_after_pieces values (cond b (nonempty_pieces ps) (p ∷ nonempty_pieces ps))) e ∙ next (values_after_parts values p.parts)

spoken_known : (ps : List Piece) (values : List Vector) → values_after_pieces values (nonempty_pieces ps) ≡ values_after_pieces values ps
spoken_known [] values = refl
spoken_known (p ∷ ps) values = by_text (is_nothing (piece_text p)) p ps values refl (λ vs. spoken_known ps vs)

-- ---- parts

-- no value more and none less
overlaid_length : (values : List Vector) (told : List (ℕ × Vector)) → length (values_after_changes values told) ≡ length values
overlaid_length values [] = refl
overlaid_length values (entry ∷ told) = overlaid_length (slice_set values entry.0 entry.1) told ∙ length-set values entry.0 entry.1

parts_length : (values : List Vector) (parts : List Part) → length (values_after_parts values parts) ≡ length values
parts_length values [] = refl
parts_length values (part ∷ parts) = parts_length (values_after_changes values part.told) parts ∙ overlaid_length values part.told

known_append : (values : List Vector) (xs ys : List Part) → values_after_parts values (xs ++ ys) ≡ values_after_parts (values_after_parts values xs) ys
known_append values [] ys = refl
known_append values (x ∷ xs) ys = known_append (values_after_changes values x.told) xs ys

module _ (marks : List Bool) where
  -- what is known where the dump is on
  abbrev pub KnowsIf : Bool → List Vector → List Vector → Type 0
  KnowsIf on values vs = on ≡ true → items_at marks (letters_of values) ≡ items_at marks (letters_of vs)

  all_known : (word : List ℕ) (values vs : List Vector) → length values ≡ length vs →
      items_at marks (letters_of (values_after_changes values (all_at word marks vs).told)) ≡ items_at marks (letters_of vs)
  all_known word values vs long =
      ap (λ (xs : List Vector). items_at marks (letters_of xs)) (over_listed marks vs values [] 0 refl long) ∙ picked_merged marks values vs long

  by_command : (on : Bool) (command : DumpCommand) (values vs : List Vector) → length values ≡ length vs → KnowsIf on values vs →
      KnowsIf (on_by on command) (values_after_parts values (command_part marks on command vs)) vs
  by_command on (Vars place) values vs long knows = knows
  by_command true Off values vs long knows = λ e. cc
  by_command false Off values vs long knows = λ e. cc
  by_command true On values vs long knows = λ e. knows refl
  by_command false On values vs long knows = λ e. all_known (codes "$dumpon") values vs long
  by_command true AllValues values vs long knows = λ e. all_known (codes "$dumpall") values vs long
  by_command false AllValues values vs long knows = knows

  by_commands : (on : Bool) (commands : List DumpCommand) (values vs : List Vector) → length values ≡ length vs → KnowsIf on values vs →
      KnowsIf (on_after on commands) (values_after_parts values (command_parts marks on commands vs)) vs
  by_commands on [] values vs long knows = knows
  by_commands on (command ∷ commands) values vs long knows =
      subst (λ (values_after_pieces : List Vector). KnowsIf (on_after (on_by on command) commands) values_after_pieces vs)
      (sym (known_append values (command_part marks on command vs) (command_parts marks (on_by on command) commands vs)))
      (by_commands (on_by on command) commands (values_after_parts values (command_part marks on command vs)) vs
      (parts_length values (command_part marks on command vs) ∙ long) (by_command on command values vs long knows))

  by_changes : (on : Bool) (values us vs : List Vector) → length us ≡ length vs → length values ≡ length vs → KnowsIf on values us →
      KnowsIf on (values_after_parts values (changed_part marks on us vs)) vs
  by_changes true values us vs long same knows = λ e.
      ap (λ (xs : List Vector). items_at marks (letters_of xs)) (over_changes marks us vs values [] 0 refl long same)
      ∙ picked_renewed marks values us vs long same (knows refl)
  by_changes false values us vs long same knows = λ e. cc

-- ---- slots

some_is : {A : Type 0} (x y : A) → Some x ≡ Some y → x ≡ y
some_is x y e = cc

module _ (marks : List Bool) (count : ℕ) where
  abbrev pub HasCount : DumpSlot → Type 0
  HasCount slot = length slot.values ≡ count

  start_told : (slot : DumpSlot) (values : List Vector) → length values ≡ count → HasCount slot →
      KnowsIf marks (on_after true slot.commands) (values_after_parts values (start marks slot).parts) slot.values
  start_told slot values many has =
      let all : List Vector = values_after_changes values (all_at (codes "$dumpvars") marks slot.values).told in
      by_commands marks true slot.commands all slot.values (overlaid_length values (all_at (codes "$dumpvars") marks slot.values).told ∙ many ∙ sym has)
      (λ e. all_known marks (codes "$dumpvars") values slot.values (many ∙ sym has))

  later_told : (on : Bool) (before slot : DumpSlot) (values : List Vector) → length values ≡ count → HasCount before → HasCount slot →
      KnowsIf marks on values before.values → KnowsIf marks (on_after on slot.commands) (values_after_parts values (later_parts marks on before.values slot)) slot.values
  later_told on before slot values many had has knows =
      let changed : List Part = changed_part marks on before.values slot.values in
      subst (λ (values_after_pieces : List Vector). KnowsIf marks (on_after on slot.commands) values_after_pieces slot.values)
      (sym (known_append values changed (command_parts marks on slot.commands slot.values)))
      (by_commands marks on slot.commands (values_after_parts values changed) slot.values (parts_length values changed ∙ many ∙ sym has)
      (by_changes marks on values before.values slot.values (had ∙ sym has) (many ∙ sym has) knows))

  known_later : (later : List DumpSlot) (k : ℕ) (on : Bool) (before slot : DumpSlot) (values : List Vector) → length values ≡ count →
      HasCount before → AllHave count later → slice_get later k ≡ Some slot → KnowsIf marks on values before.values →
      KnowsIf marks (on_over on (take (suc k) later)) (values_after_pieces values (take (suc k) (later_pieces marks on before later))) slot.values
  known_later [] k on before slot values many had all is knows = absurd (none-some slot is)
  known_later (next ∷ later) zero on before slot values many had all is knows =
      subst (λ (s : DumpSlot). KnowsIf marks (on_after on next.commands) (values_after_parts values (later_parts marks on before.values next)) s.values) (some_is next slot is)
      (later_told on before next values many had (All-head HasCount next later all) knows)
  known_later (next ∷ later) (suc k) on before slot values many had all is knows =
      let has : HasCount next = All-head HasCount next later all in
      let parts : List Part = later_parts marks on before.values next in
      known_later later k (on_after on next.commands) next slot (values_after_parts values parts) (parts_length values parts ∙ many) has
      (All-tail HasCount next later all) is (later_told on before next values many had has knows)

  known_at : (slots : List DumpSlot) (k : ℕ) (slot : DumpSlot) (values : List Vector) → length values ≡ count → AllHave count slots → slice_get slots k ≡ Some slot →
      KnowsIf marks (on_over true (take (suc k) slots)) (values_after_pieces values (take (suc k) (pieces marks slots))) slot.values
  known_at [] k slot values many all is = absurd (none-some slot is)
  known_at (first ∷ later) zero slot values many all is =
      subst (λ (s : DumpSlot). KnowsIf marks (on_after true first.commands) (values_after_parts values (start marks first).parts) s.values) (some_is first slot is)
      (start_told first values many (All-head HasCount first later all))
  known_at (first ∷ later) (suc k) slot values many all is =
      let has : HasCount first = All-head HasCount first later all in
      known_later later k (on_after true first.commands) first slot (values_after_parts values (start marks first).parts)
      (parts_length values (start marks first).parts ∙ many) has (All-tail HasCount first later all) is (start_told first values many has)

pub slots_told : (marks : List Bool) (slots : List DumpSlot) → TellsValues marks slots
slots_told marks slots values k slot all is on =
    ap (λ (n : ℕ). items_at marks (letters_of (values_after_pieces values (nonempty_pieces (take n (pieces marks slots)))))) (add-one k)
    ∙ ap (λ (xs : List Vector). items_at marks (letters_of xs)) (spoken_known (take (suc k) (pieces marks slots)) values)
    ∙ known_at marks (length values) slots k slot values refl all is (ap (λ (n : ℕ). on_over true (take n slots)) (sym (add-one k)) ∙ on)
