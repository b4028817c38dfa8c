-- Calls of system tasks, behind their first words.
use Rattle.std.proofs.Common.{◌≡◌, ℕ, suc, ◌+◌, ◌<◌, Bool, true, ◌&&◌, nat_le, List, [], ◌∷◌, ◌++◌, Option, None, Some, length, refl, sym, ap, ◌∙◌, arith, codes, zero-lt-suc}
use Rattle.std.specs.List.{list_all}
use Rattle.basis.proofs.Bools.{and_left, and_right}
use Rattle.basis.proofs.Numbers.{one_within}
use Rattle.vwords.specs.Words.{Text, is_number, is_string}
use Rattle.vast.specs.Statements.{ArgumentTree, quoted, printed, left_out, SelectionTree, StatementTree, print_word, idle_word, dump_word, end_word, argument_depth, arguments_depth, fits_argument, fits_print, fits_selection, spell_statement}
use Rattle.vast.specs.declared.statement.Dumping.{Dumping}
use Rattle.vast.specs.declared.statement.Printing.{Printing}
use Rattle.vast.specs.declared.statement.Printing.TheVariants as printing
use Rattle.vast.specs.declared.statement.Base.TheVariants as bases
use Rattle.vast.specs.declared.statement.Idle.{Idle}
use Rattle.vast.proofs.ExpressionLemmas.{depth_positive}
use Rattle.vexpr_parse.specs.Readers.{Reader, front, is_front}
use Rattle.vgrammar.specs.Parts.{Both, both, pair, maybe, roomy}
use Rattle.vgrammar.specs.Statements.{word_only, Arguments, arguments, print_of, optional_print_of, idle_of, dump_file_of, dump_file_parts, selection, dump_vars_of, dump_of, end_of, end_parts}
use Rattle.vgrammar.proofs.Phrases.{Shape, Phrase, Example, Makes, always, past_shape, past_phrase, past_example, nothing_phrase, paired_shape, before_phrase, paired_example, free_phrase}
use Rattle.vgrammar.proofs.PhraseChoices.{maybe_shape, maybe_phrase, roomy_phrase}
use Rattle.vgrammar.proofs.LevelFacts.{one_up, and_true, some_level}
use Rattle.vgrammar.proofs.ValuePhrases.{nothing_example, word_if_phrase, only_shape, only_phrase, only_example, comma_shape, allows_each}
use Rattle.vgrammar.proofs.PartPhrases.{text_shape, a_number, numbered_phrase, ends_argument, argument_shape, arguments_phrase, arguments_example, selection_shape, selection_phrase}
use Rattle.vgrammar.proofs.StatementShapes.{closes_statement, statement_shape, all_within}

abbrev open_next : Option Text → Bool
open_next = is_front (codes "(")

-- something that may be left out, and a semicolon
abbrev pub optional_shape : {A : Type 0} → Shape A → Shape (Both (Option A) (Unit {0}))
optional_shape s = paired_shape (maybe_shape open_next always s) (only_shape (codes ";"))

optional_phrase : {A : Type 0} {read : Reader A} {s : Shape A} → Phrase read always s →
    ((tree : A) → s.valid tree ≡ true → 0 < length (s.spell tree)) →
    ((tree : A) → s.valid tree ≡ true → (rest : List Text) → open_next (front (s.spell tree ++ rest)) ≡ true) →
    Phrase (pair (maybe open_next read) (word_only (codes ";"))) always (optional_shape s)
optional_phrase p some begins = before_phrase (codes ";") (maybe_phrase open_next p some begins)
    (nothing_phrase always) nothing_example refl

pub optional_example : {A : Type 0} (s : Shape A) → Example (optional_shape s)
optional_example s = record { tree = both None tt; valid = refl }

optional_closes : {A : Type 0} (s : Shape A) (tree : Both (Option A) (Unit {0})) (next : Option Text) →
    (optional_shape s).closes tree next ≡ true
optional_closes s (both tree end) next = refl

-- what is printed

arguments_within : (below : ℕ) (one : ArgumentTree) (more : List ArgumentTree) →
    (list_all fits_argument (one ∷ more) && nat_le (1 + arguments_depth (one ∷ more)) (suc below))
    ≡ (((fits_argument one && nat_le (argument_depth one) below) && list_all
    (λ tree. fits_argument tree && nat_le (argument_depth tree) below) more))
arguments_within below one more =
    ap (λ b. list_all fits_argument (one ∷ more) && b) (one_up (arguments_depth (one ∷ more)) below)
    ∙ all_within fits_argument argument_depth (list_all fits_argument) arguments_depth refl refl (λ tree more. refl)
    (λ tree more. refl) below
    (one ∷ more)

some_arguments : (kind : Printing) (one : ArgumentTree) (more : List ArgumentTree) → fits_print kind (one ∷ more) ≡ true
some_arguments (printing.Display base) one more = refl
some_arguments (printing.Write base) one more = refl
some_arguments (printing.Strobe base) one more = refl
some_arguments (printing.Monitor base) one more = one_within (length more)

module _ (below : ℕ) where
  abbrev Out : Shape StatementTree
  Out = statement_shape (suc below)

  abbrev pub Arg : Shape Arguments
  Arg = past_shape (codes "(") (paired_shape (comma_shape ends_argument (argument_shape below)) (only_shape (codes ")")))

  print_valid : (kind : Printing) (one : ArgumentTree) (more : List ArgumentTree) →
      ((fits_print kind (one ∷ more) && list_all fits_argument (one ∷ more)) && nat_le (1 + arguments_depth (one ∷ more))
      (suc below))
      ≡ Arg.valid (both (both one more) tt)
  print_valid kind one more =
      ap (λ b. (b && list_all fits_argument (one ∷ more)) && nat_le (1 + arguments_depth (one ∷ more)) (suc below))
      (some_arguments kind one more)
      ∙ arguments_within below one more
      ∙ ap (λ b. (fits_argument one && nat_le (argument_depth one) below) && b)
      (sym (allows_each (λ tree. fits_argument tree && nat_le (argument_depth tree) below) [] more))
      ∙ sym (and_true _)

  pub arguments_level : (tree : Arguments) → Arg.valid tree ≡ true → nat_le 1 below ≡ true
  arguments_level (both (both one more) end) v =
      some_level (argument_depth one) below (depth_of one) (and_right (fits_argument one) _ (and_left _ _ (and_left _ true v)))
    where
      depth_of : (tree : ArgumentTree) → 0 < argument_depth tree
      depth_of (quoted letters) = omega arith
      depth_of (printed value) = depth_positive value
      depth_of left_out = omega arith

  -- $monitor

  abbrev pub print_shape : Shape (Both Arguments (Unit {0}))
  print_shape = paired_shape Arg (only_shape (codes ";"))

  pub print_phrase : nat_le 1 below ≡ true → Phrase (pair (arguments below) (word_only (codes ";"))) always print_shape
  print_phrase level = free_phrase (arguments_phrase below level) (only_phrase (codes ";")) (only_example (codes ";"))

  pub print_example : nat_le 1 below ≡ true → Example print_shape
  print_example level = paired_example (arguments_example below level) (only_example (codes ";"))

  pub print_makes : (kind : Printing) → Makes (print_of kind) print_shape Out (print_word kind ∷ [])
  print_makes kind = record {
    spelled = spelled;
    valid = valid;
    closes = λ tree next e. closes tree next;
    stops = λ tree next e. stops tree next;
  }
    where
      spelled : (tree : Both Arguments (Unit {0})) → spell_statement (print_of kind tree)
          ≡ print_word kind ∷ print_shape.spell tree
      spelled (both (both (both one more) closing) end) = refl

      valid : (tree : Both Arguments (Unit {0})) → Out.valid (print_of kind tree) ≡ print_shape.valid tree
      valid (both (both (both one more) closing) end) = print_valid kind one more ∙ sym (and_true _)

      closes : (tree : Both Arguments (Unit {0})) (next : Option Text) → print_shape.closes tree next ≡ true
      closes (both tree end) next = refl

      stops : (tree : Both Arguments (Unit {0})) (next : Option Text) → closes_statement (print_of kind tree) next ≡ true
      stops (both (both (both one more) closing) end) next = refl

  -- $display, $strobe

  pub optional_print_phrase : Phrase (pair (maybe open_next (roomy below 1 (arguments below))) (word_only (codes ";"))) always
      (optional_shape Arg)
  optional_print_phrase =
      optional_phrase (roomy_phrase below 1 (λ level. arguments_phrase below level) arguments_level closed)
      (λ tree v. zero-lt-suc _) (λ tree v rest. refl)
    where
      closed : (tree : Arguments) (next : Option Text) → always next ≡ true → Arg.closes tree next ≡ true
      closed (both list end) next e = refl

  pub optional_print_makes : (kind : Printing) → fits_print kind [] ≡ true →
      Makes (optional_print_of kind) (optional_shape Arg) Out
      (print_word kind ∷ [])
  optional_print_makes kind none = record {
    spelled = spelled;
    valid = valid;
    closes = λ tree next e. optional_closes Arg tree next;
    stops = λ tree next e. stops tree next;
  }
    where
      spelled : (tree : Both (Option Arguments) (Unit {0})) →
          spell_statement (optional_print_of kind tree) ≡ print_word kind ∷ (optional_shape Arg).spell tree
      spelled (both None end) = refl
      spelled (both (Some (both (both one more) closing)) end) = refl

      valid : (tree : Both (Option Arguments) (Unit {0})) → Out.valid (optional_print_of kind tree)
          ≡ (optional_shape Arg).valid tree
      valid (both None end) = ap (λ b. (b && true) && nat_le (1 + 0) (suc below)) none ∙ one_within below
      valid (both (Some (both (both one more) closing)) end) = print_valid kind one more ∙ sym (and_true _)

      stops : (tree : Both (Option Arguments) (Unit {0})) (next : Option Text) →
          closes_statement (optional_print_of kind tree) next ≡ true
      stops (both None end) next = refl
      stops (both (Some (both (both one more) closing)) end) next = refl

  -- $fdisplay, and the like

  pub idle_makes : (kind : Idle) → Makes (idle_of kind) (optional_shape Arg) Out (idle_word kind ∷ [])
  idle_makes kind = record {
    spelled = spelled;
    valid = valid;
    closes = λ tree next e. optional_closes Arg tree next;
    stops = λ tree next e. stops tree next;
  }
    where
      spelled : (tree : Both (Option Arguments) (Unit {0})) → spell_statement (idle_of kind tree) ≡ idle_word kind ∷ (optional_shape Arg).spell tree
      spelled (both None end) = refl
      spelled (both (Some (both (both one more) closing)) end) = refl

      valid : (tree : Both (Option Arguments) (Unit {0})) → Out.valid (idle_of kind tree) ≡ (optional_shape Arg).valid tree
      valid (both None end) = one_within below
      valid (both (Some (both (both one more) closing)) end) = print_valid (printing.Display bases.Decimal) one more ∙ sym (and_true _)

      stops : (tree : Both (Option Arguments) (Unit {0})) (next : Option Text) → closes_statement (idle_of kind tree) next ≡ true
      stops (both None end) next = refl
      stops (both (Some (both (both one more) closing)) end) next = refl

  -- $dumpfile

  abbrev pub dump_file_shape : Shape (Both Text (Unit {0}))
  dump_file_shape = past_shape (codes "(") (paired_shape (text_shape is_string) (past_shape (codes ")") (only_shape (codes ";"))))

  a_string : Example (text_shape is_string)
  a_string = record { tree = codes "\""; valid = refl }

  pub dump_file_phrase : Phrase dump_file_parts always dump_file_shape
  dump_file_phrase =
      past_phrase (codes "(") (before_phrase (codes ")") (word_if_phrase is_string) (only_phrase (codes ";"))
      (only_example (codes ";")) refl)
      (paired_example a_string (past_example (codes ")") (only_example (codes ";"))))

  pub dump_file_example : Example dump_file_shape
  dump_file_example = past_example (codes "(") (paired_example a_string (past_example (codes ")") (only_example (codes ";"))))

  pub dump_file_makes : nat_le 1 below ≡ true → Makes dump_file_of dump_file_shape Out (codes "$dumpfile" ∷ [])
  dump_file_makes level = record {
    spelled = spelled;
    valid = valid;
    closes = λ tree next e. closes tree next;
    stops = λ tree next e. stops tree next;
  }
    where
      spelled : (tree : Both Text (Unit {0})) → spell_statement (dump_file_of tree)
          ≡ codes "$dumpfile" ∷ dump_file_shape.spell tree
      spelled (both letters end) = refl

      valid : (tree : Both Text (Unit {0})) → Out.valid (dump_file_of tree) ≡ dump_file_shape.valid tree
      valid (both letters end) = ap (λ b. is_string letters && b) (one_up 1 below ∙ level)

      closes : (tree : Both Text (Unit {0})) (next : Option Text) → dump_file_shape.closes tree next ≡ true
      closes (both letters end) next = refl

      stops : (tree : Both Text (Unit {0})) (next : Option Text) → closes_statement (dump_file_of tree) next ≡ true
      stops (both letters end) next = refl

  -- $dumpvars

  pub dump_vars_phrase : Phrase (pair (maybe open_next selection) (word_only (codes ";"))) always
      (optional_shape selection_shape)
  dump_vars_phrase = optional_phrase selection_phrase (λ tree v. zero-lt-suc _) (λ tree v rest. refl)

  pub dump_vars_makes : Makes dump_vars_of (optional_shape selection_shape) Out (codes "$dumpvars" ∷ [])
  dump_vars_makes = record {
    spelled = spelled;
    valid = valid;
    closes = λ tree next e. optional_closes selection_shape tree next;
    stops = λ tree next e. stops tree next;
  }
    where
      spelled : (tree : Both (Option SelectionTree) (Unit {0})) →
          spell_statement (dump_vars_of tree) ≡ codes "$dumpvars" ∷ (optional_shape selection_shape).spell tree
      spelled (both None end) = refl
      spelled (both (Some selected) end) = refl

      valid : (tree : Both (Option SelectionTree) (Unit {0})) → Out.valid (dump_vars_of tree)
          ≡ (optional_shape selection_shape).valid tree
      valid (both None end) = one_within below
      valid (both (Some selected) end) = ap (λ b. fits_selection (Some selected) && b) (one_within below)

      stops : (tree : Both (Option SelectionTree) (Unit {0})) (next : Option Text) → closes_statement (dump_vars_of tree) next
          ≡ true
      stops (both None end) next = refl
      stops (both (Some selected) end) next = refl

  -- $dumpon, and the like

  pub dump_makes : (kind : Dumping) → Makes (dump_of kind) (only_shape (codes ";")) Out (dump_word kind ∷ [])
  dump_makes kind = record {
    spelled = λ tree. refl;
    valid = λ tree. one_within below;
    closes = λ tree next e. refl;
    stops = λ tree next e. refl;
  }

  -- $stop, $finish

  abbrev pub number_shape : Shape (Both Text (Unit {0}))
  number_shape = past_shape (codes "(") (paired_shape (text_shape is_number) (only_shape (codes ")")))

  pub end_phrase : Phrase end_parts always (optional_shape number_shape)
  end_phrase =
      optional_phrase
      (past_phrase (codes "(") (free_phrase numbered_phrase (only_phrase (codes ")")) (only_example (codes ")")))
      (paired_example a_number (only_example (codes ")"))))
      (λ tree v. zero-lt-suc _) (λ tree v rest. refl)

  pub end_makes : (stop_it : Bool) → Makes (end_of stop_it) (optional_shape number_shape) Out (end_word stop_it ∷ [])
  end_makes stop_it = record {
    spelled = spelled;
    valid = valid;
    closes = λ tree next e. optional_closes number_shape tree next;
    stops = λ tree next e. stops tree next;
  }
    where
      spelled : (tree : Both (Option (Both Text (Unit {0}))) (Unit {0})) →
          spell_statement (end_of stop_it tree) ≡ end_word stop_it ∷ (optional_shape number_shape).spell tree
      spelled (both None end) = refl
      spelled (both (Some (both digits closing)) end) = refl

      valid : (tree : Both (Option (Both Text (Unit {0}))) (Unit {0})) → Out.valid (end_of stop_it tree)
          ≡ (optional_shape number_shape).valid tree
      valid (both None end) = one_within below
      valid (both (Some (both digits closing)) end) =
          ap (λ b. is_number digits && b) (one_within below) ∙ sym (and_true (is_number digits && true))

      stops : (tree : Both (Option (Both Text (Unit {0}))) (Unit {0})) (next : Option Text) →
          closes_statement (end_of stop_it tree) next ≡ true
      stops (both None end) next = refl
      stops (both (Some (both digits closing)) end) next = refl
