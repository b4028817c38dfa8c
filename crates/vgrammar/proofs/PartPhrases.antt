-- Delays, event controls, arguments and what is dumped, behind their first words.
use Rattle.std.proofs.Common.{◌≡◌, ℕ, suc, ◌<◌, Bool, true, false, ◌&&◌, ◌||◌, not, nat_le, List, [], ◌∷◌, ◌++◌, Option, None, Some, length, flat_map, refl, sym, ap, ◌∙◌, codes, zero-lt-suc, subst}
use Rattle.std.specs.List.{list_all}
use Rattle.std.specs.Str.{bytes_eq}
use Rattle.std.proofs.lemmas.Bool.{false_from_ne_true}
use Rattle.basis.proofs.Bools.{and_left, and_both, clash}
use Rattle.basis.proofs.Numbers.{one_within}
use Rattle.vwords.specs.Words.{Text, is_name, is_number, is_string, reserved_words}
use Rattle.vast.specs.Expressions.{ExpressionTree, spell_expression, fits_expression, depth}
use Rattle.vast.specs.Statements.{DelayTree, by_number, by_name, by_value, in_parentheses, spell_delay, delay_depth, fits_delay, TermTree, FurtherTerm, EventTree, by_event, by_any, by_any_enclosed, by_terms, edge_word, spell_edge, spell_term, spell_further_term, fits_event, fits_further_term, ArgumentTree, quoted, printed, left_out, spell_argument, argument_depth, fits_argument, SelectionTree, spell_path, fits_path}
use Rattle.vast.specs.declared.statement.Edge.{Edge}
use Rattle.vast.specs.declared.statement.Edge.TheVariants as edge
use Rattle.vexpr_parse.specs.Readers.{front, is_front, past}
use Rattle.vexpr_parse.specs.Words.{binary_of, unary_of, beginning_of, ends}
use Rattle.vexpr_parse.specs.declared.beginning.Beginning.TheVariants as start
use Rattle.vexpr_parse.specs.Lawful.{Ends}
use Rattle.vexpr_parse.proofs.ReaderRules.{same_text}
use Rattle.vgrammar.specs.Parts.{Both, both, Either, one_way, other_way, pair, word_as, many, either}
use Rattle.vgrammar.specs.Starts.{is_word, meant_if, edge_of, comma_of, comma_word, is_meant, is_some_meaning}
use Rattle.vgrammar.specs.Statements.{value, name_word, number_word, List_of, comma_list, word_only, Amount, delay_of, amount, optional_delay, term_of, term, further_of, further_term, Terms, Event, event_of, enclosed_event, control, begins_argument, argument_of, argument, Arguments, arguments, path_of, path, Selection, selection_of, selection}
use Rattle.vgrammar.proofs.Phrases.{Shape, Phrase, Example, Worded, Makes, From, always, phrase_within, made_phrase, past_shape, past_phrase, nothing_phrase, worded_shape, worded_phrase, paired_shape, before_phrase, paired_example, free_phrase, next_phrase}
use Rattle.vgrammar.proofs.PhraseChoices.{ends_maybe, maybe_shape, maybe_phrase, either_shape, either_phrase, either_tested, either_worded, Tested, allows_all, many_shape, many_phrase}
use Rattle.vgrammar.proofs.LevelFacts.{and_true}
use Rattle.vgrammar.proofs.ValuePhrases.{value_shape, value_phrase, value_example, value_worded, nothing_example, word_if_phrase, only_shape, only_phrase, only_example, comma, comma_shape, more_behind, comma_phrase, allows_each}
use Rattle.vgrammar.proofs.WordPhrases.{name_no_number, as_written, refused_first, value_refuses, string_is_other}

-- Words

abbrev pub text_shape : (Text → Bool) → Shape Text
text_shape test = worded_shape (λ text. text) test always

pub a_name : Example (text_shape is_name)
unfolding reserved_words
a_name = record { tree = codes "a"; valid = refl }

pub a_number : Example (text_shape is_number)
a_number = record { tree = codes "0"; valid = refl }

pub named_phrase : Phrase name_word always (text_shape is_name)
named_phrase = word_if_phrase is_name

pub numbered_phrase : Phrase number_word always (text_shape is_number)
numbered_phrase = word_if_phrase is_number

-- Delays

abbrev pub amount_words : DelayTree → List Text
amount_words (by_number digits) = digits ∷ []
amount_words (by_name letters) = letters ∷ []
amount_words (by_value tree) = in_parentheses (spell_expression tree)

abbrev pub amount_shape : ℕ → Shape DelayTree
amount_shape n = record {
  spell = amount_words;
  valid = λ tree. fits_delay tree && nat_le (delay_depth tree) n;
  closes = λ tree. always;
  stops = λ tree next. true;
}

pub amount_behind : (tree : DelayTree) → spell_delay tree ≡ codes "#" ∷ amount_words tree
amount_behind (by_number digits) = refl
amount_behind (by_name letters) = refl
amount_behind (by_value tree) = refl

module _ (below : ℕ) (level : nat_le 1 below ≡ true) where
  abbrev Enclosed : Shape (Both ExpressionTree (Unit {0}))
  Enclosed = past_shape (codes "(") (paired_shape (value_shape below) (only_shape (codes ")")))

  enclosed_phrase : Phrase (past (codes "(") (pair (value below) (word_only (codes ")")))) always Enclosed
  unfolding binary_of
  enclosed_phrase =
      past_phrase (codes "(") (before_phrase (codes ")") (value_phrase below) (nothing_phrase always) nothing_example refl)
      (paired_example (value_example below level) (only_example (codes ")")))

  abbrev AmountParts : Shape Amount
  AmountParts = either_shape (text_shape is_number) (either_shape (text_shape is_name) Enclosed)

  amount_parts_phrase : Phrase (either (is_word is_number) number_word (either (is_word is_name) name_word
      (past (codes "(") (pair (value below) (word_only (codes ")")))))) always AmountParts
  amount_parts_phrase =
      either_phrase (is_word is_number) numbered_phrase
      (either_phrase (is_word is_name) named_phrase enclosed_phrase (λ tree v. zero-lt-suc 0) (λ tree v. zero-lt-suc _)
      (λ tree v rest. v)
      (λ tree v rest. refl))
      (λ tree v. zero-lt-suc 0) some (λ tree v rest. v) no_number
    where
      some : Worded (either_shape (text_shape is_name) Enclosed)
      some (one_way letters) v = zero-lt-suc 0
      some (other_way tree) v = zero-lt-suc _

      no_number : Tested (is_word is_number) false (either_shape (text_shape is_name) Enclosed)
      no_number (one_way letters) v rest = name_no_number letters v
      no_number (other_way tree) v rest = refl

  amount_makes : Makes delay_of AmountParts (amount_shape below) []
  amount_makes = record {
    spelled = spelled;
    valid = valid;
    closes = λ tree next e. closes tree next;
    stops = λ tree next e. refl;
  }
    where
      spelled : (tree : Amount) → amount_words (delay_of tree) ≡ AmountParts.spell tree
      spelled (one_way digits) = refl
      spelled (other_way (one_way letters)) = refl
      spelled (other_way (other_way (both tree end))) = refl

      valid : (tree : Amount) → (fits_delay (delay_of tree) && nat_le (delay_depth (delay_of tree)) below)
          ≡ AmountParts.valid tree
      valid (one_way digits) = ap (λ b. is_number digits && b) level ∙ and_true (is_number digits)
      valid (other_way (one_way letters)) = ap (λ b. is_name letters && b) level ∙ and_true (is_name letters)
      valid (other_way (other_way (both tree end))) = sym (and_true (fits_expression tree && nat_le (depth tree) below))

      closes : (tree : Amount) (next : Option Text) → AmountParts.closes tree next ≡ true
      closes (one_way digits) next = refl
      closes (other_way (one_way letters)) next = refl
      closes (other_way (other_way (both tree end))) next = refl

  pub amount_phrase : Phrase (amount below) always (amount_shape below)
  amount_phrase = made_phrase delay_of (amount_shape below) back amount_makes (λ tree next e. refl) amount_parts_phrase
    where
      back : (tree : DelayTree) → (fits_delay tree && nat_le (delay_depth tree) below) ≡ true → From delay_of tree
      back (by_number digits) v = record { parts = one_way digits; is = refl }
      back (by_name letters) v = record { parts = other_way (one_way letters); is = refl }
      back (by_value tree) v = record { parts = other_way (other_way (both tree tt)); is = refl }

  pub amount_example : Example (amount_shape below)
  amount_example = record { tree = by_number (codes "0"); valid = level }

  pub optional_delay_phrase : Phrase (optional_delay below) (ends_maybe (is_front (codes "#")) always)
      (maybe_shape (is_front (codes "#")) always (past_shape (codes "#") (amount_shape below)))
  optional_delay_phrase = maybe_phrase (is_front (codes "#")) (past_phrase (codes "#") amount_phrase amount_example)
      (λ tree v. zero-lt-suc _) (λ tree v rest. refl)

-- Event controls

abbrev pub edge_shape : Shape Edge
edge_shape = worded_shape edge_word (λ kind. true) always

edge_phrase : Phrase (word_as edge_of) always edge_shape
edge_phrase = worded_phrase edge_of edge_word (λ kind. true) always
    (λ text kind e. (as_written edge_word (edge.Rising ∷ edge.Falling ∷ []) text kind e, refl)) meant
  where
    meant : (kind : Edge) → true ≡ true → edge_of (edge_word kind) ≡ Some kind
    meant edge.Rising e = refl
    meant edge.Falling e = refl

-- a name isn't a word that means something else
no_meaning : {A : Type 0} (m : Option A) → ((tree : A) → m ≡ Some tree → ⊥) → is_some_meaning m ≡ false
no_meaning None f = refl
no_meaning (Some tree) f = absurd (f tree refl)

no_edge : (letters : Text) → is_name letters ≡ true → is_some_meaning (edge_of letters) ≡ false
unfolding reserved_words
no_edge letters is = no_meaning (edge_of letters)
    (λ kind e. reserved kind (as_written edge_word (edge.Rising ∷ edge.Falling ∷ []) letters kind e))
  where
    edges_reserved : (kind : Edge) → is_name (edge_word kind) ≡ false
    edges_reserved edge.Rising = refl
    edges_reserved edge.Falling = refl

    reserved : (kind : Edge) → edge_word kind ≡ letters → ⊥
    reserved kind e = clash (is_name letters) is (sym (ap is_name e) ∙ edges_reserved kind)

abbrev pub term_parts_shape : Shape (Both (Option Edge) Text)
term_parts_shape = paired_shape (maybe_shape (is_meant edge_of) always edge_shape) (text_shape is_name)

abbrev pub term_shape : Shape TermTree
term_shape = record { spell = spell_term; valid = λ tree. is_name tree.name; closes = λ tree. always; stops = λ tree next. true }

term_makes : Makes term_of term_parts_shape term_shape []
term_makes = record { spelled = spelled; valid = valid; closes = λ tree next e. closes tree next; stops = λ tree next e. refl }
  where
    spelled : (tree : Both (Option Edge) Text) → spell_term (term_of tree) ≡ term_parts_shape.spell tree
    spelled (both None letters) = refl
    spelled (both (Some kind) letters) = refl

    valid : (tree : Both (Option Edge) Text) → is_name ((term_of tree).name) ≡ term_parts_shape.valid tree
    valid (both None letters) = refl
    valid (both (Some kind) letters) = refl

    closes : (tree : Both (Option Edge) Text) (next : Option Text) → term_parts_shape.closes tree next ≡ true
    closes (both kind letters) next = refl

term_phrase : Phrase term always term_shape
term_phrase =
    made_phrase term_of term_shape (λ tree v. record { parts = both tree.edge tree.name; is = refl }) term_makes
    (λ tree next e. refl)
    (next_phrase (maybe_phrase (is_meant edge_of) edge_phrase (λ kind v. zero-lt-suc 0) begins) named_phrase a_name
    (λ letters v. zero-lt-suc 0)
    (λ letters v rest c. ap not (no_edge letters v)))
  where
    begins : Tested (is_meant edge_of) true edge_shape
    begins edge.Rising v rest = refl
    begins edge.Falling v rest = refl

a_term : Example term_shape
unfolding reserved_words
a_term = record { tree = record { edge = None; name = codes "a" }; valid = refl }

abbrev pub comma_kind_shape : Shape Bool
comma_kind_shape = worded_shape comma_word (λ kind. true) always

comma_kind_phrase : Phrase (word_as comma_of) always comma_kind_shape
comma_kind_phrase = worded_phrase comma_of comma_word (λ kind. true) always
    (λ text kind e. (as_written comma_word (true ∷ false ∷ []) text kind e, refl)) meant
  where
    meant : (kind : Bool) → true ≡ true → comma_of (comma_word kind) ≡ Some kind
    meant true e = refl
    meant false e = refl

abbrev pub further_shape : Shape FurtherTerm
further_shape = record {
  spell = spell_further_term;
  valid = fits_further_term;
  closes = λ tree. always;
  stops = λ tree next. true;
}

further_makes : Makes further_of (paired_shape comma_kind_shape term_shape) further_shape []
further_makes = record { spelled = spelled; valid = valid; closes = λ tree next e. closes tree next; stops = λ tree next e. refl }
  where
    spelled : (tree : Both Bool TermTree) → spell_further_term (further_of tree)
        ≡ (paired_shape comma_kind_shape term_shape).spell tree
    spelled (both kind tree) = refl

    valid : (tree : Both Bool TermTree) → fits_further_term (further_of tree)
        ≡ (paired_shape comma_kind_shape term_shape).valid tree
    valid (both kind tree) = refl

    closes : (tree : Both Bool TermTree) (next : Option Text) → (paired_shape comma_kind_shape term_shape).closes tree next ≡ true
    closes (both kind tree) next = refl

pub further_phrase : Phrase further_term always further_shape
further_phrase = made_phrase further_of further_shape
    (λ tree v. record { parts = both tree.by_comma tree.term; is = refl }) further_makes
    (λ tree next e. refl) (free_phrase comma_kind_phrase term_phrase a_term)

abbrev further : Option Text → Bool
further = is_meant comma_of

abbrev pub terms_shape : Shape Terms
terms_shape =
    paired_shape (paired_shape term_shape (many_shape further always further_shape (λ list. fits_further_term)))
    (only_shape (codes ")"))

terms_phrase : Phrase (pair (pair term (many further (λ list. further_term))) (word_only (codes ")"))) always terms_shape
terms_phrase =
    before_phrase (codes ")")
    (free_phrase term_phrase
    (many_phrase further (λ list. further_term) always further_shape (λ list. fits_further_term) (λ list. further_phrase)
    (λ list tree v. zero-lt-suc _) (λ list tree rest v. begins tree.by_comma) (λ list tree rest v. refl))
    (record { tree = []; valid = refl }))
    (nothing_phrase always) nothing_example refl
  where
    begins : (kind : Bool) → is_some_meaning (comma_of (comma_word kind)) ≡ true
    begins true = refl
    begins false = refl

abbrev pub enclosed_event_shape : Shape (Either (Unit {0}) Terms)
enclosed_event_shape = either_shape (past_shape (codes "*") (only_shape (codes ")"))) terms_shape

terms_example : Example terms_shape
terms_example = record { tree = both (both a_term.tree []) tt; valid = and_both _ true (and_both _ true a_term.valid refl) refl }

abbrev star : Option Text → Bool
star = is_front (codes "*")

no_star : (letters : Text) → is_name letters ≡ true → bytes_eq (codes "*") letters ≡ false
no_star letters is = false_from_ne_true (bytes_eq (codes "*") letters)
    (λ e. clash (is_name letters) is (sym (ap is_name (same_text (codes "*") letters e))))

enclosed_event_phrase : Phrase enclosed_event always enclosed_event_shape
enclosed_event_phrase =
    either_phrase star (past_phrase (codes "*") (only_phrase (codes ")")) (only_example (codes ")"))) terms_phrase
    (λ tree v. zero-lt-suc _)
    some (λ tree v rest. refl) no_stars
  where
    some : Worded terms_shape
    some (both (both tree more) end) v = by_edge tree.edge
      where
        by_edge : (kind : Option Edge) →
            0 < length (((spell_edge kind ++ tree.name ∷ []) ++ flat_map spell_further_term more) ++ codes ")" ∷ [])
        by_edge None = zero-lt-suc _
        by_edge (Some kind) = zero-lt-suc _

    no_stars : Tested star false terms_shape
    no_stars (both (both tree more) end) v rest = by_edge tree.edge
      where
        by_edge : (kind : Option Edge) →
            star (front ((((spell_edge kind ++ tree.name ∷ []) ++ flat_map spell_further_term more)
            ++ codes ")" ∷ []) ++ rest)) ≡ false
        by_edge None = no_star tree.name (and_left (is_name tree.name) _ (and_left _ true v))
        by_edge (Some edge.Rising) = refl
        by_edge (Some edge.Falling) = refl

-- an event control, behind @
abbrev pub event_words : EventTree → List Text
event_words (by_event letters) = letters ∷ []
event_words by_any = codes "*" ∷ []
event_words by_any_enclosed = in_parentheses (codes "*" ∷ [])
event_words (by_terms tree more) = in_parentheses (spell_term tree ++ flat_map spell_further_term more)

abbrev pub event_shape : Shape EventTree
event_shape = record { spell = event_words; valid = fits_event; closes = λ tree. always; stops = λ tree next. true }

abbrev EventParts : Shape Event
EventParts = either_shape (text_shape is_name)
    (either_shape (only_shape (codes "*")) (past_shape (codes "(") enclosed_event_shape))

event_makes : Makes event_of EventParts event_shape []
event_makes = record { spelled = spelled; valid = valid; closes = λ tree next e. closes tree next; stops = λ tree next e. refl }
  where
    spelled : (tree : Event) → event_words (event_of tree) ≡ EventParts.spell tree
    spelled (one_way letters) = refl
    spelled (other_way (one_way end)) = refl
    spelled (other_way (other_way (one_way end))) = refl
    spelled (other_way (other_way (other_way (both (both tree more) end)))) = refl

    valid : (tree : Event) → fits_event (event_of tree) ≡ EventParts.valid tree
    valid (one_way letters) = refl
    valid (other_way (one_way end)) = refl
    valid (other_way (other_way (one_way end))) = refl
    valid (other_way (other_way (other_way (both (both tree more) end)))) =
        ap (λ b. is_name tree.name && b) (sym (allows_each fits_further_term [] more))
        ∙ sym (and_true (is_name tree.name && allows_all (λ list. fits_further_term) [] more))

    closes : (tree : Event) (next : Option Text) → EventParts.closes tree next ≡ true
    closes (one_way letters) next = refl
    closes (other_way (one_way end)) next = refl
    closes (other_way (other_way (one_way end))) next = refl
    closes (other_way (other_way (other_way (both (both tree more) end)))) next = refl

pub control_phrase : Phrase control always event_shape
control_phrase =
    made_phrase event_of event_shape back event_makes (λ tree next e. refl)
    (either_phrase (is_word is_name) named_phrase
    (either_phrase star (only_phrase (codes "*"))
    (past_phrase (codes "(") enclosed_event_phrase (record { tree = other_way terms_example.tree; valid = terms_example.valid }))
    (λ tree v. zero-lt-suc _) (λ tree v. zero-lt-suc _) (λ tree v rest. refl) (λ tree v rest. refl))
    (λ tree v. zero-lt-suc 0) some (λ tree v rest. v) no_name)
  where
    back : (tree : EventTree) → fits_event tree ≡ true → From event_of tree
    back (by_event letters) v = record { parts = one_way letters; is = refl }
    back by_any v = record { parts = other_way (one_way tt); is = refl }
    back by_any_enclosed v = record { parts = other_way (other_way (one_way tt)); is = refl }
    back (by_terms tree more) v = record { parts = other_way (other_way (other_way (both (both tree more) tt))); is = refl }

    some : Worded (either_shape (only_shape (codes "*")) (past_shape (codes "(") enclosed_event_shape))
    some (one_way end) v = zero-lt-suc _
    some (other_way tree) v = zero-lt-suc _

    no_name : Tested (is_word is_name) false (either_shape (only_shape (codes "*")) (past_shape (codes "(") enclosed_event_shape))
    no_name (one_way end) v rest = refl
    no_name (other_way tree) v rest = refl

-- Arguments

-- where an argument ends, that may be left out
abbrev pub ends_argument : Ends
ends_argument = ends_maybe begins_argument (ends 0)

abbrev pub argument_shape : ℕ → Shape ArgumentTree
argument_shape n = record {
  spell = spell_argument;
  valid = λ tree. fits_argument tree && nat_le (argument_depth tree) n;
  closes = λ tree. ends_argument;
  stops = λ tree next. true;
}

module _ (below : ℕ) (level : nat_le 1 below ≡ true) where
  abbrev SomeArgument : Shape (Either Text ExpressionTree)
  SomeArgument = either_shape (text_shape is_string) (value_shape below)

  abbrev ArgumentParts : Shape (Option (Either Text ExpressionTree))
  ArgumentParts = maybe_shape begins_argument (ends 0) SomeArgument

  argument_makes : Makes argument_of ArgumentParts (argument_shape below) []
  argument_makes = record { spelled = spelled; valid = valid; closes = closes; stops = λ tree next e. refl }
    where
      spelled : (tree : Option (Either Text ExpressionTree)) → spell_argument (argument_of tree) ≡ ArgumentParts.spell tree
      spelled None = refl
      spelled (Some (one_way letters)) = refl
      spelled (Some (other_way tree)) = refl

      valid : (tree : Option (Either Text ExpressionTree)) →
          (fits_argument (argument_of tree) && nat_le (argument_depth (argument_of tree)) below) ≡ ArgumentParts.valid tree
      valid None = level
      valid (Some (one_way letters)) = ap (λ b. is_string letters && b) level ∙ and_true (is_string letters)
      valid (Some (other_way tree)) = refl

      closes : (tree : Option (Either Text ExpressionTree)) (next : Option Text) → ends_argument next ≡ true → ArgumentParts.closes tree next
          ≡ true
      closes None next e = e
      closes (Some (one_way letters)) next e = refl
      closes (Some (other_way tree)) next e = and_left (ends 0 next) (not (begins_argument next)) e

  -- a comma or a parenthesis begins no argument
  some_phrase : Phrase (either (is_word is_string) (word_as (meant_if is_string)) (value below)) (ends 0) SomeArgument
  some_phrase =
      either_phrase (is_word is_string) (phrase_within (ends 0) (word_if_phrase is_string) (λ next e. refl)) (value_phrase below)
      (λ tree v. zero-lt-suc 0) (value_worded below) (λ tree v rest. v)
      (refused_first (is_word is_string) (value_phrase below) (value_worded below) refl
      (λ word words tree left is e. value_refuses below word (string_is_other word is) words tree left e))

  some_worded : Worded SomeArgument
  some_worded = either_worded (text_shape is_string) (value_shape below) (λ tree v. zero-lt-suc 0) (value_worded below)

  begins_not : (text : Text) → is_string text ≡ false → beginning_of text ≡ start.Other → Tested (is_front text) false SomeArgument
  begins_not text no_string other =
      either_tested (is_front text) false (text_shape is_string) (value_shape below)
      (λ letters v rest. no_text letters v)
      (refused_first (is_front text) (value_phrase below) (value_worded below) refl
      (λ word words tree left is e. value_refuses below word (subst (λ w. beginning_of w ≡ start.Other) (same_text text word is) other) words tree left e))
    where
      by : (b : Bool) (letters : Text) → bytes_eq text letters ≡ b → is_string letters ≡ true → b ≡ false
      by true letters is v = let no : true ≡ false = sym v ∙ ap is_string (sym (same_text text letters is)) ∙ no_string in absurd cc
      by false letters is v = refl

      no_text : (letters : Text) → is_string letters ≡ true → bytes_eq text letters ≡ false
      no_text letters v = by (bytes_eq text letters) letters refl v

  comma_begins_not : Tested (is_front (codes ",")) false SomeArgument
  unfolding beginning_of unary_of reserved_words
  comma_begins_not = begins_not (codes ",") refl refl

  parenthesis_begins_not : Tested (is_front (codes ")")) false SomeArgument
  unfolding beginning_of unary_of reserved_words
  parenthesis_begins_not = begins_not (codes ")") refl refl

  some_begins : Tested begins_argument true SomeArgument
  some_begins tree v rest =
      ap (λ b. not (b || is_front (codes ")") (front (SomeArgument.spell tree ++ rest)))) (comma_begins_not tree v rest)
      ∙ ap not (parenthesis_begins_not tree v rest)

  pub argument_phrase : Phrase (argument below) ends_argument (argument_shape below)
  argument_phrase =
      made_phrase argument_of (argument_shape below) back argument_makes (λ tree next e. e)
      (maybe_phrase begins_argument some_phrase some_worded some_begins)
    where
      back : (tree : ArgumentTree) → (fits_argument tree && nat_le (argument_depth tree) below) ≡ true → From argument_of tree
      back (quoted letters) v = record { parts = Some (one_way letters); is = refl }
      back (printed tree) v = record { parts = Some (other_way tree); is = refl }
      back left_out v = record { parts = None; is = refl }

  argument_example : Example (argument_shape below)
  argument_example = record { tree = quoted (codes "\""); valid = level }

  abbrev pub arguments_shape : Shape Arguments
  arguments_shape = past_shape (codes "(") (paired_shape (comma_shape ends_argument (argument_shape below)) (only_shape (codes ")")))

  pub arguments_example : Example arguments_shape
  arguments_example = record {
    tree = both (both argument_example.tree []) tt;
    valid = and_both _ true (and_both _ true argument_example.valid refl) refl;
  }

  pub arguments_inner_phrase : Phrase (pair (comma_list (argument below)) (word_only (codes ")"))) always
      (paired_shape (comma_shape ends_argument (argument_shape below)) (only_shape (codes ")")))
  unfolding binary_of
  arguments_inner_phrase =
      before_phrase (codes ")") (comma_phrase argument_phrase argument_example refl) (nothing_phrase always) nothing_example refl

  pub arguments_phrase : Phrase (arguments below) always arguments_shape
  arguments_phrase =
      past_phrase (codes "(") arguments_inner_phrase
      (record {
        tree = both (both argument_example.tree []) tt;
        valid = and_both _ true
            (and_both _ true argument_example.valid refl) refl;
      })

-- Paths and selections

abbrev pub path_shape : Shape (List Text)
path_shape = record {
  spell = spell_path;
  valid = fits_path;
  closes = λ tree next. not
      (is_front (codes ".") next);
  stops = λ tree next. true;
}

abbrev PathParts : Shape (List_of Text)
PathParts = paired_shape (text_shape is_name)
    (many_shape (is_front (codes ".")) always (past_shape (codes ".") (text_shape is_name)) (λ list. is_name))

path_makes : Makes path_of PathParts path_shape []
path_makes = record { spelled = spelled; valid = valid; closes = closes; stops = λ tree next e. refl }
  where
    spelled : (tree : List_of Text) → spell_path (path_of tree) ≡ PathParts.spell tree
    spelled (both letters more) = refl

    some : (n : ℕ) → nat_le 1 (suc n) ≡ true
    some n = one_within n

    valid : (tree : List_of Text) → fits_path (path_of tree) ≡ PathParts.valid tree
    valid (both letters more) =
        ap (λ b. b && (is_name letters && list_all is_name more)) (some (length more))
        ∙ ap (λ b. is_name letters && b) (sym (allows_each is_name [] more))

    closes : (tree : List_of Text) (next : Option Text) → not (is_front (codes ".") next) ≡ true → PathParts.closes tree next
        ≡ true
    closes (both letters more) next e = e

pub path_phrase : Phrase path (λ next. not (is_front (codes ".") next)) path_shape
path_phrase =
    made_phrase path_of path_shape back path_makes (λ tree next e. e)
    (free_phrase named_phrase (more_behind (codes ".") named_phrase a_name refl) (record { tree = []; valid = refl }))
  where
    back : (tree : List Text) → fits_path tree ≡ true → From path_of tree
    back [] v = let no : false ≡ true = v in absurd cc
    back (letters ∷ more) v = record { parts = both letters more; is = refl }

a_path : Example path_shape
unfolding reserved_words
a_path = record { tree = codes "a" ∷ []; valid = refl }

abbrev SelectionParts : Shape Selection
SelectionParts =
    past_shape (codes "(") (paired_shape (text_shape is_number)
    (paired_shape (many_shape comma (λ next. not (is_front (codes ".") next)) (past_shape (codes ",") path_shape)
    (λ list. fits_path))
    (only_shape (codes ")"))))

abbrev pub selection_shape : Shape SelectionTree
selection_shape = record {
  spell = λ tree. in_parentheses (tree.levels ∷ flat_map (λ path. codes "," ∷ spell_path path) tree.paths);
  valid = λ tree. is_number tree.levels && list_all fits_path tree.paths;
  closes = λ tree. always;
  stops = λ tree next. true;
}

selection_makes : Makes selection_of SelectionParts selection_shape []
selection_makes = record {
  spelled = spelled;
  valid = valid;
  closes = λ tree next e. closes tree next;
  stops = λ tree next e. refl;
}
  where
    spelled : (tree : Selection) → selection_shape.spell (selection_of tree) ≡ SelectionParts.spell tree
    spelled (both digits (both paths end)) = refl

    valid : (tree : Selection) → selection_shape.valid (selection_of tree) ≡ SelectionParts.valid tree
    valid (both digits (both paths end)) =
        ap (λ b. is_number digits && b)
        (sym (allows_each fits_path [] paths) ∙ sym (and_true (allows_all (λ list. fits_path) [] paths)))

    closes : (tree : Selection) (next : Option Text) → SelectionParts.closes tree next ≡ true
    closes (both digits (both paths end)) next = refl

pub selection_phrase : Phrase selection always selection_shape
selection_phrase =
    made_phrase selection_of selection_shape
    (λ tree v. record { parts = both tree.levels (both tree.paths tt); is = refl }) selection_makes
    (λ tree next e. refl)
    (past_phrase (codes "(")
    (free_phrase numbered_phrase
    (before_phrase (codes ")") (more_behind (codes ",") path_phrase a_path refl) (nothing_phrase always) nothing_example refl)
    (record { tree = both [] tt; valid = refl }))
    (record { tree = both (codes "0") (both [] tt); valid = refl }))
