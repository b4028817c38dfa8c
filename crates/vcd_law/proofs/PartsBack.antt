-- What the values and the commands of a slot tell.
use Rattle.std.proofs.Common.{◌≡◌, ℕ, zero, suc, ◌<◌, ◌≤◌, Bool, true, false, ◌==◌, if◌then◌else◌, List, [], ◌∷◌, ◌++◌, length, map, refl, ap, sym, ◌∙◌, subst, inl, arith, append_assoc, append-nil}
use Rattle.std.specs.Prelude.{codes, nat_lt, reverse}
use Rattle.std.specs.List.{list_all}
use Rattle.basis.proofs.Bools.{and_both, clash}
use Rattle.std.proofs.lemmas.List.{length-map, length-reverse, length-replicate}
use Rattle.vbits.specs.declared.bit4.Bit4.{Bit4}
use Rattle.vbits.specs.declared.bit4.Bit4.TheVariants.{Zero, One, X, Z}
use Rattle.vbits.specs.Vectors.{Vector, filled}
use Rattle.value_text.specs.ValueText.{binary, binary_digit}
use Rattle.vcd_read.specs.Words.{Text}
use Rattle.vcd_read.specs.Declarations.{end_word}
use Rattle.vcd_read.specs.Commands.{Item, value, off, on, bit, vector, vars, all, stops, goes_on, ends, is_digit}
use Rattle.vcd_read.specs.Telling.{Tell}
use Rattle.vcd_text.specs.DumpText.{Part, change, changed_part, changes, code, command_part, command_parts, following, is_news, is_nothing, line, named_line, on_by, part_text, parts_text, selected_values, short_digits, unknown_of, value_lines}
use Rattle.vdesign.specs.declared.dump.DumpCommand.{DumpCommand}
use Rattle.vdesign.specs.declared.dump.DumpCommand.TheVariants.{Vars, Off, On, All as AllValues}
use Rattle.vcd_law.specs.Headers.{Plain}
use Rattle.vcd_law.specs.ReadBack.{HaveLetters}
use Rattle.vcd_law.proofs.WordsBack.{TellsText, line_of_one, line_of_two, plain_code, plain_word, text_alone, text_none, text_then}

-- ---- digits

abbrev Written : Text → Type 0
Written [] = Unit {0}
Written (d ∷ ds) = (is_digit d ≡ true) × (33 ≤ d) × Written ds

digit_written : (b : Bit4) → (is_digit (binary_digit b) ≡ true) × (33 ≤ binary_digit b)
digit_written Zero = (refl, omega arith)
digit_written One = (refl, omega arith)
digit_written X = (refl, omega arith)
digit_written Z = (refl, omega arith)

all_written : (bs : List Bit4) → Written (map binary_digit bs)
all_written [] = tt
all_written (b ∷ bs) = ((digit_written b).0, (digit_written b).1, all_written bs)

written_plain : (ds : Text) → Written ds → Plain ds
written_plain [] w = tt
written_plain (d ∷ ds) w = (w.1, written_plain ds w.2)

written_digits : (ds : Text) → Written ds → list_all is_digit ds ≡ true
written_digits [] w = refl
written_digits (d ∷ ds) w = and_both (is_digit d) (list_all is_digit ds) w.0 (written_digits ds w.2)

written_by : (b : Bool) (s t : Text) → Written s → Written t → Written (if b then s else t)
written_by true s t v w = v
written_by false s t v w = w

short_written : (ds : Text) → Written ds → Written (short_digits ds)
short_written [] w = tt
short_written (d ∷ []) w = w
short_written (d ∷ e ∷ ds) w =
    written_by (d == (if e == 49 then 48 else e)) (short_digits (e ∷ ds)) (d ∷ e ∷ ds) (short_written (e ∷ ds) w.2) w

-- ---- values

-- the line of a value
digits_told : (inside : Bool) (digits name : Text) → Written digits → 0 < length digits → Plain name → (c : ℕ) (cs : Text) → name ≡ c ∷ cs →
    TellsText inside inside (line (change digits name)) (value name (short_digits digits) ∷ [])
digits_told inside [] name w some plain c cs is = absurd (omega arith)
digits_told inside (d ∷ []) name w some plain c cs is =
    line_of_one inside inside d name (value name (d ∷ []) ∷ []) (w.1, plain) (λ rest more told. bit inside d name rest more w.0 told)
digits_told inside (d ∷ e ∷ ds) name w some plain c cs is =
    let short : Text = short_digits (d ∷ e ∷ ds) in
    let written : Written short = short_written (d ∷ e ∷ ds) w in
    subst (λ (text : Text). TellsText inside inside (line ((98 ∷ short) ++ 32 ∷ text)) (value text short ∷ [])) (sym is)
    (line_of_two inside inside 98 short c cs (value (c ∷ cs) short ∷ []) (omega arith, written_plain short written) (subst Plain is plain)
    (λ rest more told. vector inside 98 short (c ∷ cs) rest more (inl refl) (written_digits short written) told))

following_some : (cs : Text) → (c : ℕ) × (ds : Text) × (following cs ≡ c ∷ ds)
following_some [] = (33, [], refl)
following_some (c ∷ cs) = by (nat_lt c 126)
  where
    by : (b : Bool) → (d : ℕ) × (ds : Text) × ((if b then suc c ∷ cs else 33 ∷ following cs) ≡ d ∷ ds)
    by true = (suc c, cs, refl)
    by false = (33, following cs, refl)

pub code_some : (n : ℕ) → (c : ℕ) × (cs : Text) × (code n ≡ c ∷ cs)
code_some zero = (33, [], refl)
code_some (suc n) = following_some (code n)

abbrev pub value_item : ℕ → Vector → Item
value_item n v = value (code n) (short_digits (binary v))

pub value_told : (inside : Bool) (n : ℕ) (v : Vector) → 0 < length v.letters → TellsText inside inside (named_line (code n) v) (value_item n v ∷ [])
value_told inside n v some =
    let name = code_some n in
    let long : length (binary v) ≡ length v.letters = length-map (reverse v.letters) binary_digit ∙ length-reverse v.letters in
    digits_told inside (binary v) (code n) (all_written (reverse v.letters)) (omega arith) (plain_code n) name.0 name.1 name.2

abbrev pub told_items : List (ℕ × Vector) → List Item
told_items [] = []
told_items (entry ∷ told) = value_item entry.0 entry.1 ∷ told_items told

abbrev pub HaveBits : List (ℕ × Vector) → Type 0
HaveBits [] = Unit {0}
HaveBits (entry ∷ told) = (0 < length entry.1.letters) × HaveBits told

pub lines_told : (inside : Bool) (told : List (ℕ × Vector)) → HaveBits told → TellsText inside inside (value_lines told) (told_items told)
lines_told inside [] have = text_none inside
lines_told inside (entry ∷ told) have =
    text_then inside inside inside (named_line (code entry.0) entry.1) (value_lines told) (value_item entry.0 entry.1 ∷ []) (told_items told)
    (value_told inside entry.0 entry.1 have.0) (lines_told inside told have.1)

pub selected_have : (n : ℕ) (marks : List Bool) (vs : List Vector) → HaveLetters vs → HaveBits (selected_values n marks vs)
selected_have n marks [] have = tt
selected_have n [] (v ∷ vs) have = tt
selected_have n (true ∷ marks) (v ∷ vs) have = (have.0, selected_have (suc n) marks vs have.1)
selected_have n (false ∷ marks) (v ∷ vs) have = selected_have (suc n) marks vs have.1

bits_by : (b : Bool) (xs ys : List (ℕ × Vector)) → HaveBits xs → HaveBits ys → HaveBits (if b then xs else ys)
bits_by true xs ys v w = v
bits_by false xs ys v w = w

pub changes_have : (n : ℕ) (marks : List Bool) (us vs : List Vector) → HaveLetters vs → HaveBits (changes n marks us vs)
changes_have n marks us [] have = tt
changes_have n [] us (v ∷ vs) have = tt
changes_have n (mark ∷ marks) [] (v ∷ vs) have = tt
changes_have n (mark ∷ marks) (u ∷ us) (v ∷ vs) have =
    bits_by (is_news mark u v) ((n, v) ∷ changes (suc n) marks us vs) (changes (suc n) marks us vs)
    (have.0, changes_have (suc n) marks us vs have.1) (changes_have (suc n) marks us vs have.1)

unknown_letters : (v : Vector) → 0 < length v.letters → 0 < length (unknown_of v).letters
unfolding filled
unknown_letters v some = let same : length (unknown_of v).letters ≡ length v.letters = length-replicate (length v.letters) X in omega arith

pub unknown_have : (vs : List Vector) → HaveLetters vs → HaveLetters (map unknown_of vs)
unknown_have [] have = tt
unknown_have (v ∷ vs) have = (unknown_letters v have.0, unknown_have vs have.1)

-- ---- commands

-- a block of values
frame_told : (word : Text) (c : ℕ) (cs : Text) (items told : List Item) (text : List ℕ) → word ≡ c ∷ cs → Plain word → Tell (word ∷ []) false true items →
    TellsText true true text told → TellsText false false (line word ++ text ++ line end_word) (items ++ told)
frame_told word c cs items told text is plain tell inner =
    let first : TellsText false true (line word) items =
    subst (λ (w : Text). TellsText false true (line w) items) (sym is)
    (line_of_one false true c cs items (subst Plain is plain) (subst (λ (w : Text). Tell (w ∷ []) false true items) is tell)) in
    let last : TellsText true false (line end_word) [] =
    line_of_one true false 36 (codes "end") [] (plain_word end_word refl) (λ rest more d. ends rest more d) in
    subst (λ (list : List Item). TellsText false false (line word ++ text ++ line end_word) list) (append-nil (items ++ told))
    (text_then false true false (line word ++ text) (line end_word) (items ++ told) [] (text_then false true true (line word) text items told first inner) last)

parts_joined : (ps qs : List Part) → parts_text (ps ++ qs) ≡ parts_text ps ++ parts_text qs
parts_joined [] qs = refl
parts_joined (p ∷ ps) qs = ap (λ (text : List ℕ). part_text p ++ text) (parts_joined ps qs) ∙ sym (append_assoc (part_text p) (parts_text ps) (parts_text qs))

module _ (marks : List Bool) (values : List Vector) where
  abbrev pub command_items : Bool → DumpCommand → List Item
  command_items is_on (Vars place) = []
  command_items is_on Off = if is_on then off ∷ told_items (selected_values 0 marks (map unknown_of values)) else []
  command_items is_on On = if is_on then [] else on ∷ told_items (selected_values 0 marks values)
  command_items is_on AllValues = if is_on then told_items (selected_values 0 marks values) else []

  abbrev pub commands_items : Bool → List DumpCommand → List Item
  commands_items is_on [] = []
  commands_items is_on (command ∷ commands) = command_items is_on command ++ commands_items (on_by is_on command) commands

  -- what changed, of a dump that is on
  abbrev pub changed_items : Bool → List Vector → List Item
  changed_items is_on before = if is_on then told_items (changes 0 marks before values) else []

module _ (marks : List Bool) (values : List Vector) (have : HaveLetters values) where
  inner_told : TellsText true true (value_lines (selected_values 0 marks values)) (told_items (selected_values 0 marks values))
  inner_told = lines_told true (selected_values 0 marks values) (selected_have 0 marks values have)

  unknown_told : TellsText true true (value_lines (selected_values 0 marks (map unknown_of values))) (told_items (selected_values 0 marks (map unknown_of values)))
  unknown_told = lines_told true (selected_values 0 marks (map unknown_of values)) (selected_have 0 marks (map unknown_of values) (unknown_have values have))

  pub vars_told : TellsText false false (part_text (record { word = codes "$dumpvars"; told = selected_values 0 marks values })) (told_items (selected_values 0 marks values))
  vars_told =
      frame_told (codes "$dumpvars") 36 (codes "dumpvars") [] (told_items (selected_values 0 marks values)) (value_lines (selected_values 0 marks values)) refl
      (plain_word (codes "$dumpvars") refl) (λ rest more d. vars rest more d) inner_told

  command_told : (is_on : Bool) (command : DumpCommand) → TellsText false false (parts_text (command_part marks is_on command values)) (command_items marks values is_on command)
  command_told is_on (Vars place) = text_none false
  command_told true Off =
      let told : List Item = told_items (selected_values 0 marks (map unknown_of values)) in
      let text : List ℕ = value_lines (selected_values 0 marks (map unknown_of values)) in
      text_alone false false (line (codes "$dumpoff") ++ text ++ line end_word) (off ∷ told)
      (frame_told (codes "$dumpoff") 36 (codes "dumpoff") (off ∷ []) told text refl (plain_word (codes "$dumpoff") refl) (λ rest more d. stops rest more d) unknown_told)
  command_told false Off = text_none false
  command_told true On = text_none false
  command_told false On =
      let told : List Item = told_items (selected_values 0 marks values) in
      let text : List ℕ = value_lines (selected_values 0 marks values) in
      text_alone false false (line (codes "$dumpon") ++ text ++ line end_word) (on ∷ told)
      (frame_told (codes "$dumpon") 36 (codes "dumpon") (on ∷ []) told text refl (plain_word (codes "$dumpon") refl) (λ rest more d. goes_on rest more d) inner_told)
  command_told true AllValues =
      let told : List Item = told_items (selected_values 0 marks values) in
      let text : List ℕ = value_lines (selected_values 0 marks values) in
      text_alone false false (line (codes "$dumpall") ++ text ++ line end_word) told
      (frame_told (codes "$dumpall") 36 (codes "dumpall") [] told text refl (plain_word (codes "$dumpall") refl) (λ rest more d. all rest more d) inner_told)
  command_told false AllValues = text_none false

  pub commands_told : (is_on : Bool) (commands : List DumpCommand) →
      TellsText false false (parts_text (command_parts marks is_on commands values)) (commands_items marks values is_on commands)
  commands_told is_on [] = text_none false
  commands_told is_on (command ∷ commands) =
      subst (λ (text : List ℕ). TellsText false false text (commands_items marks values is_on (command ∷ commands)))
      (sym (parts_joined (command_part marks is_on command values) (command_parts marks (on_by is_on command) commands values)))
      (text_then false false false (parts_text (command_part marks is_on command values)) (parts_text (command_parts marks (on_by is_on command) commands values))
      (command_items marks values is_on command) (commands_items marks values (on_by is_on command) commands) (command_told is_on command) (commands_told (on_by is_on command) commands))

  pub slot_told : (is_on : Bool) (before : List Vector) (commands : List DumpCommand) →
      TellsText false false (parts_text (changed_part marks is_on before values ++ command_parts marks is_on commands values))
      (changed_items marks values is_on before ++ commands_items marks values is_on commands)
  slot_told true before commands =
      text_then false false false (value_lines (changes 0 marks before values)) (parts_text (command_parts marks true commands values))
      (told_items (changes 0 marks before values)) (commands_items marks values true commands) (lines_told false (changes 0 marks before values) (changes_have 0 marks before values have))
      (commands_told true commands)
  slot_told false before commands = commands_told false commands

  pub start_told : (commands : List DumpCommand) →
      TellsText false false (parts_text (record { word = codes "$dumpvars"; told = selected_values 0 marks values } ∷ command_parts marks true commands values))
      (told_items (selected_values 0 marks values) ++ commands_items marks values true commands)
  start_told commands =
      text_then false false false (part_text (record { word = codes "$dumpvars"; told = selected_values 0 marks values })) (parts_text (command_parts marks true commands values))
      (told_items (selected_values 0 marks values)) (commands_items marks values true commands) vars_told (commands_told true commands)

-- ---- where nothing is written nothing is told

nothing_front : (xs ys : List ℕ) → is_nothing (xs ++ ys) ≡ true → is_nothing xs ≡ true
nothing_front [] ys h = refl
nothing_front (x ∷ xs) ys h = h

nothing_back : (xs ys : List ℕ) → is_nothing (xs ++ ys) ≡ true → is_nothing ys ≡ true
nothing_back [] ys h = h
nothing_back (x ∷ xs) ys h = absurd cc

line_written : (text : List ℕ) → is_nothing (line text) ≡ false
line_written [] = refl
line_written (c ∷ cs) = refl

lines_nothing : (told : List (ℕ × Vector)) → is_nothing (value_lines told) ≡ true → told_items told ≡ []
lines_nothing [] h = refl
lines_nothing (entry ∷ told) h =
    let first : List ℕ = change (binary entry.1) (code entry.0) in
    absurd (clash (is_nothing (line first)) (nothing_front (line first) (value_lines told) h) (line_written first))

module _ (marks : List Bool) (values : List Vector) where
  command_nothing : (is_on : Bool) (command : DumpCommand) → is_nothing (parts_text (command_part marks is_on command values)) ≡ true →
      command_items marks values is_on command ≡ []
  command_nothing is_on (Vars place) h = refl
  command_nothing true Off h = absurd cc
  command_nothing false Off h = refl
  command_nothing true On h = refl
  command_nothing false On h = absurd cc
  command_nothing true AllValues h = absurd cc
  command_nothing false AllValues h = refl

  commands_nothing : (is_on : Bool) (commands : List DumpCommand) → is_nothing (parts_text (command_parts marks is_on commands values)) ≡ true →
      commands_items marks values is_on commands ≡ []
  commands_nothing is_on [] h = refl
  commands_nothing is_on (command ∷ commands) h =
      let first : List Part = command_part marks is_on command values in
      let rest : List Part = command_parts marks (on_by is_on command) commands values in
      let none : is_nothing (parts_text first ++ parts_text rest) ≡ true = sym (ap is_nothing (parts_joined first rest)) ∙ h in
      (λ i. command_nothing is_on command (nothing_front (parts_text first) (parts_text rest) none) i
      ++ commands_nothing (on_by is_on command) commands (nothing_back (parts_text first) (parts_text rest) none) i)

  pub slot_nothing : (is_on : Bool) (before : List Vector) (commands : List DumpCommand) →
      is_nothing (parts_text (changed_part marks is_on before values ++ command_parts marks is_on commands values)) ≡ true →
      changed_items marks values is_on before ++ commands_items marks values is_on commands ≡ []
  slot_nothing false before commands h = commands_nothing false commands h
  slot_nothing true before commands h =
      let changed : List ℕ = value_lines (changes 0 marks before values) in
      let rest : List ℕ = parts_text (command_parts marks true commands values) in
      (λ i. lines_nothing (changes 0 marks before values) (nothing_front changed rest h) i ++ commands_nothing true commands (nothing_back changed rest h) i)
