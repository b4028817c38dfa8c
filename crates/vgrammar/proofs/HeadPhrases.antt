-- Types, settings, connections and other parts of modules.
use Rattle.std.proofs.Common.{◌≡◌, ℕ, suc, ◌<◌, Bool, true, false, ◌&&◌, not, List, [], ◌∷◌, ◌++◌, Option, None, Some, length, refl, sym, ap, ◌∙◌, codes, zero-lt-suc}
use Rattle.std.specs.List.{list_all}
use Rattle.std.specs.Str.{bytes_eq}
use Rattle.std.proofs.lemmas.Bool.{false_from_ne_true}
use Rattle.basis.proofs.Bools.{and_left, and_right, and_both, clash}
use Rattle.basis.proofs.Numbers.{one_within}
use Rattle.vwords.specs.Words.{Text, is_name, reserved_words}
use Rattle.vast.specs.Expressions.{ExpressionTree}
use Rattle.vast.specs.Statements.{TargetTree}
use Rattle.vast.specs.Modules.{RangeTree, TypeTree, ParameterType, integer, typed, SettingTree, DeclaredTree, spell_range, spell_signed, spell_type, integer_word, spell_parameter_type, spell_setting, spell_value, spell_declared, fits_value, fits_range, fits_type, fits_parameter_type, fits_setting, fits_declared, are_some, NetAssignment, spell_net_assignment, fits_net_assignment}
use Rattle.vexpr_parse.specs.Readers.{Reader, front, is_front}
use Rattle.vexpr_parse.specs.Words.{binary_of, by_spelling, ends}
use Rattle.vexpr_parse.specs.Lawful.{Ends}
use Rattle.vexpr_parse.proofs.ReaderRules.{same_text}
use Rattle.vgrammar.specs.Parts.{Both, both, Either, one_way, other_way, pair, word_as}
use Rattle.vgrammar.specs.Starts.{is_meant, is_some_meaning}
use Rattle.vgrammar.specs.Statements.{word_only, List_of}
use Rattle.vgrammar.specs.Modules.{free_value, range_of, range, type_of, type, integer_of, parameter_type_of, parameter_type, setting_of, setting, declared_of, declarator, list_and_semicolon, net_assignment_of, net_assignment}
use Rattle.vgrammar.proofs.Phrases.{Shape, Phrase, Example, Worded, Opens, Makes, From, always, phrase_within, made_phrase, past_shape, past_phrase, past_example, nothing_phrase, worded_shape, worded_phrase, paired_shape, paired_phrase, before_phrase, paired_example, free_phrase}
use Rattle.vgrammar.proofs.PhraseChoices.{ends_maybe, maybe_shape, maybe_phrase, either_shape, either_open_phrase, Tested, allows_all}
use Rattle.vgrammar.proofs.LevelFacts.{and_true}
use Rattle.vgrammar.proofs.ValuePhrases.{value_shape, value_phrase, value_example, nothing_example, only_shape, only_phrase, only_example, comma_shape, comma_phrase, allows_each}
use Rattle.vgrammar.proofs.TargetPhrases.{target_shape, target_phrase, target_example}
use Rattle.vgrammar.proofs.WordPhrases.{as_written}
use Rattle.vgrammar.proofs.PartPhrases.{text_shape, a_name, named_phrase}

-- a name is no reserved word
pub name_isnt : (text : Text) → is_name text ≡ false → (letters : Text) → is_name letters ≡ true → bytes_eq text letters ≡ false
name_isnt text none letters is =
    false_from_ne_true (bytes_eq text letters) (λ e. clash (is_name letters) is (sym (ap is_name (same_text text letters e)) ∙ none))

-- a name means nothing else
pub name_means_not : {A : Type 0} (spell : A → Text) (all : List A) → ((tree : A) → is_name (spell tree) ≡ false) →
    (letters : Text) →
    is_name letters ≡ true → is_some_meaning (by_spelling spell all letters) ≡ false
name_means_not spell all none letters is = by_meaning (by_spelling spell all letters) (as_written spell all letters)
  where
    by_meaning : (m : Option _) → ((tree : _) → m ≡ Some tree → spell tree ≡ letters) → is_some_meaning m ≡ false
    by_meaning None f = refl
    by_meaning (Some tree) f = absurd (clash (is_name letters) is (sym (ap is_name (f tree refl)) ∙ none tree))

pub phrase_closing : {A : Type 0} {read : Reader A} {ends : Ends} {s : Shape A} (closes : A → Ends) → Phrase read ends s →
    ((tree : A) (next : Option Text) → closes tree next ≡ true → s.closes tree next ≡ true) →
    ((tree : A) (next : Option Text) → ends next ≡ true → closes tree next ≡ true) →
    Phrase read ends (record { spell = s.spell; valid = s.valid; closes = closes; stops = s.stops })
phrase_closing closes p enough closed = record {
  lawful = p.lawful;
  sound = λ words tree left e. let g = p.sound words tree left e in
      record { whole = g.whole; valid = g.valid; stopped = g.stopped };
  complete = λ tree rest v c. p.complete tree rest v (enough tree (front rest) c);
  closed = closed;
}

abbrev signed_next : Option Text → Bool
signed_next = is_front (codes "signed")

abbrev bracket : Option Text → Bool
bracket = is_front (codes "[")

abbrev not_signed : Ends
not_signed next = not (signed_next next)

abbrev pub ends_type : Ends
ends_type next = not_signed next && not (bracket next)

-- what may follow the type of a parameter
abbrev pub integer_next : Option Text → Bool
integer_next = is_meant integer_of

abbrev pub ends_parameter_type : Ends
ends_parameter_type next = ends_type next && not (integer_next next)

-- integer, or time
abbrev pub integer_shape : Shape Bool
integer_shape = worded_shape integer_word (λ long. true) always

pub integer_phrase : Phrase (word_as integer_of) always integer_shape
integer_phrase = worded_phrase integer_of integer_word (λ long. true) always
    (λ text long e. (as_written integer_word (false ∷ true ∷ []) text long e, refl)) meant
  where
    meant : (long : Bool) → true ≡ true → integer_of (integer_word long) ≡ Some long
    meant true e = refl
    meant false e = refl

pub integer_begins : Tested integer_next true integer_shape
integer_begins true v rest = refl
integer_begins false v rest = refl

no_integer_name : (long : Bool) → is_name (integer_word long) ≡ false
unfolding reserved_words
no_integer_name true = refl
no_integer_name false = refl

-- a name ends a type
pub name_ends_type : (letters : Text) → is_name letters ≡ true → ends_parameter_type (Some letters) ≡ true
unfolding reserved_words
name_ends_type letters is =
    and_both (ends_type (Some letters)) (not (integer_next (Some letters)))
    (and_both (not (bytes_eq (codes "signed") letters)) (not (bytes_eq (codes "[") letters))
    (ap not (name_isnt (codes "signed") refl letters is)) (ap not (name_isnt (codes "[") refl letters is)))
    (ap not (name_means_not integer_word (false ∷ true ∷ []) no_integer_name letters is))

abbrev equals : Option Text → Bool
equals = is_front (codes "=")

-- Lists to a semicolon

abbrev pub ended_shape : {A : Type 0} → Ends → Shape A → Shape (Both (List_of A) (Unit {0}))
ended_shape ends s = paired_shape (comma_shape ends s) (only_shape (codes ";"))

pub ended_phrase : {A : Type 0} {read : Reader A} {ends : Ends} {s : Shape A} → Phrase read ends s → Example s →
    ends (Some (codes ",")) ≡ true → ends (Some (codes ";")) ≡ true → Phrase (list_and_semicolon read) always (ended_shape ends s)
ended_phrase {ends = ends} p e opens ending =
    before_phrase (codes ";") (comma_phrase p e opens) (nothing_phrase always) nothing_example
    (and_both (ends (Some (codes ";"))) true ending refl)

pub ended_example : {A : Type 0} (ends : Ends) {s : Shape A} → Example s → Example (ended_shape ends s)
ended_example ends {s = s} e = record {
  tree = both (both e.tree []) tt;
  valid = and_both _ true (and_both (s.valid e.tree) true e.valid refl) refl;
}

-- a list that isn't empty
pub some_valid : {A : Type 0} (fits : A → Bool) (one : A) (more : List A) →
    are_some fits (one ∷ more) ≡ ((fits one && allows_all (λ list. fits) [] more) && true)
some_valid fits one more =
    ap (λ b. b && (fits one && list_all fits more)) (one_within (length more))
    ∙ ap (λ b. fits one && b) (sym (allows_each fits [] more))
    ∙ sym (and_true _)

module _ (below : ℕ) where
  abbrev levels : ℕ
  levels = suc below

  -- Ranges and types

  abbrev pub Free : Shape ExpressionTree
  Free = value_shape levels

  pub free_phrase_value : Phrase (free_value levels) (ends 0) Free
  free_phrase_value = value_phrase levels

  pub free_example : Example Free
  free_example = value_example levels (one_within below)

  abbrev RangeParts : Shape (Both ExpressionTree (Both ExpressionTree (Unit {0})))
  RangeParts = past_shape (codes "[") (paired_shape Free (past_shape (codes ":") (paired_shape Free (only_shape (codes "]")))))

  abbrev pub range_shape : Shape RangeTree
  range_shape = record {
    spell = λ tree. spell_range (Some tree);
    valid = λ tree. fits_range levels (Some tree);
    closes = λ tree. always;
    stops = λ tree next. true;
  }

  range_makes : Makes range_of RangeParts range_shape []
  range_makes = record { spelled = spelled; valid = valid; closes = λ tree next e. closes tree next; stops = λ tree next e. refl }
    where
      spelled : (tree : Both ExpressionTree (Both ExpressionTree (Unit {0}))) → spell_range (Some (range_of tree))
          ≡ RangeParts.spell tree
      spelled (both left (both right end)) = refl

      valid : (tree : Both ExpressionTree (Both ExpressionTree (Unit {0}))) → fits_range levels (Some (range_of tree))
          ≡ RangeParts.valid tree
      valid (both left (both right end)) = ap (λ b. fits_value levels left && b) (sym (and_true (fits_value levels right)))

      closes : (tree : Both ExpressionTree (Both ExpressionTree (Unit {0}))) (next : Option Text) → RangeParts.closes tree next
          ≡ true
      closes (both left (both right end)) next = refl

  right_bound : Phrase (pair (free_value levels) (word_only (codes "]"))) always (paired_shape Free (only_shape (codes "]")))
  unfolding binary_of
  right_bound = before_phrase (codes "]") free_phrase_value (nothing_phrase always) nothing_example refl

  range_phrase : Phrase (range levels) always range_shape
  unfolding binary_of
  range_phrase =
      made_phrase range_of range_shape (λ tree v. record { parts = both tree.left (both tree.right tt); is = refl }) range_makes
      (λ tree next e. refl)
      (past_phrase (codes "[")
      (before_phrase (codes ":") free_phrase_value right_bound (paired_example free_example (only_example (codes "]"))) refl)
      (paired_example free_example (past_example (codes ":") (paired_example free_example (only_example (codes "]"))))))

  abbrev TypeParts : Shape (Both (Option (Unit {0})) (Option RangeTree))
  TypeParts = paired_shape (maybe_shape signed_next always (only_shape (codes "signed")))
      (maybe_shape bracket not_signed range_shape)

  abbrev pub type_shape : Shape TypeTree
  type_shape = record { spell = spell_type; valid = fits_type levels; closes = λ tree. ends_type; stops = λ tree next. true }

  type_makes : Makes type_of TypeParts type_shape []
  type_makes = record { spelled = spelled; valid = valid; closes = closes; stops = λ tree next e. refl }
    where
      spelled : (tree : Both (Option (Unit {0})) (Option RangeTree)) → spell_type (type_of tree) ≡ TypeParts.spell tree
      spelled (both None None) = refl
      spelled (both None (Some tree)) = refl
      spelled (both (Some end) None) = refl
      spelled (both (Some end) (Some tree)) = refl

      valid : (tree : Both (Option (Unit {0})) (Option RangeTree)) → fits_type levels (type_of tree) ≡ TypeParts.valid tree
      valid (both None None) = refl
      valid (both None (Some tree)) = refl
      valid (both (Some end) None) = refl
      valid (both (Some end) (Some tree)) = refl

      closes : (tree : Both (Option (Unit {0})) (Option RangeTree)) (next : Option Text) → ends_type next ≡ true →
          TypeParts.closes tree next ≡ true
      closes (both sign None) next e = e
      closes (both sign (Some tree)) next e = refl

  no_type : Example TypeParts
  no_type = record { tree = both None None; valid = refl }

  pub type_phrase : Phrase (type levels) ends_type type_shape
  type_phrase =
      made_phrase type_of type_shape back type_makes (λ tree next e. e)
      (paired_phrase (maybe_phrase signed_next (only_phrase (codes "signed")) (λ tree v. zero-lt-suc _) (λ tree v rest. refl))
      (maybe_phrase bracket (phrase_within not_signed range_phrase (λ next e. refl)) (λ tree v. zero-lt-suc _) (λ tree v rest. refl))
      no_range opens (λ y v none next f. and_left (not_signed next) _ f))
    where
      no_range : Example (maybe_shape bracket not_signed range_shape)
      no_range = record { tree = None; valid = refl }

      opens : Opens (ends_maybe signed_next always) (maybe_shape bracket not_signed range_shape)
      opens None v rest c = and_left (not_signed (front rest)) _ c
      opens (Some tree) v rest c = refl

      sign_of_type : Bool → Option (Unit {0})
      sign_of_type true = Some tt
      sign_of_type false = None

      back : (tree : TypeTree) → fits_type levels tree ≡ true → From type_of tree
      back tree v = by_sign tree.signed refl
        where
          by_sign : (b : Bool) → tree.signed ≡ b → From type_of tree
          by_sign true e = record { parts = both (Some tt) tree.range; is = λ i. record { signed = sym e i; range = tree.range } }
          by_sign false e = record { parts = both None tree.range; is = λ i. record { signed = sym e i; range = tree.range } }

  abbrev pub parameter_type_shape : Shape ParameterType
  parameter_type_shape = record {
    spell = spell_parameter_type;
    valid = fits_parameter_type levels;
    closes = λ tree. ends_parameter_type;
    stops = λ tree next. true;
  }

  abbrev ClosingType : Shape TypeTree
  ClosingType = record {
    spell = spell_type;
    valid = fits_type levels;
    closes = λ tree. ends_parameter_type;
    stops = λ tree next. true;
  }

  pub parameter_type_phrase : Phrase (parameter_type levels) ends_parameter_type parameter_type_shape
  parameter_type_phrase =
      made_phrase parameter_type_of parameter_type_shape back makes (λ tree next e. e)
      (either_open_phrase integer_next (phrase_within ends_parameter_type integer_phrase (λ next e. refl))
      (phrase_closing (λ tree. ends_parameter_type)
      (phrase_within ends_parameter_type type_phrase (λ next e. and_left (ends_type next) _ e))
      (λ tree next e. and_left (ends_type next) _ e)
      (λ tree next e. e))
      (λ tree v. zero-lt-suc _) (λ tree words is e. no_integer (front words) e) integer_begins fails)
    where
      no_integer : (next : Option Text) → ends_parameter_type next ≡ true → integer_next next ≡ false
      no_integer next e = false_from_ne_true (integer_next next)
          (λ f. clash (not (integer_next next)) (and_right (ends_type next) _ e) (ap not f))

      by_parts : (sign : Bool) (bounds : Option RangeTree) (rest : List Text) → ends_parameter_type (front rest) ≡ true →
          integer_next (front ((spell_signed sign ++ spell_range bounds) ++ rest)) ≡ false
      by_parts true bounds rest e = refl
      by_parts false None rest e = no_integer (front rest) e
      by_parts false (Some tree) rest e = refl

      fails : (tree : TypeTree) → fits_type levels tree ≡ true → (rest : List Text) → ends_parameter_type (front rest) ≡ true →
          integer_next (front (spell_type tree ++ rest)) ≡ false
      fails tree v rest c = by_parts tree.signed tree.range rest c

      back : (tree : ParameterType) → fits_parameter_type levels tree ≡ true → From parameter_type_of tree
      back (integer long) v = record { parts = one_way long; is = refl }
      back (typed tree) v = record { parts = other_way tree; is = refl }

      makes : Makes parameter_type_of (either_shape integer_shape ClosingType) parameter_type_shape []
      makes = record { spelled = spelled; valid = valid; closes = closes; stops = λ tree next e. refl }
        where
          spelled : (tree : Either Bool TypeTree) →
              spell_parameter_type (parameter_type_of tree) ≡ (either_shape integer_shape ClosingType).spell tree
          spelled (one_way long) = refl
          spelled (other_way tree) = refl

          valid : (tree : Either Bool TypeTree) →
              fits_parameter_type levels (parameter_type_of tree) ≡ (either_shape integer_shape ClosingType).valid tree
          valid (one_way long) = refl
          valid (other_way tree) = refl

          closes : (tree : Either Bool TypeTree) (next : Option Text) → ends_parameter_type next ≡ true →
              (either_shape integer_shape ClosingType).closes tree next ≡ true
          closes (one_way long) next e = refl
          closes (other_way tree) next e = e

  -- Settings

  abbrev pub setting_shape : Shape SettingTree
  setting_shape = record {
    spell = spell_setting;
    valid = fits_setting levels;
    closes = λ tree. ends 0;
    stops = λ tree next. true;
  }

  abbrev SettingParts : Shape (Both Text ExpressionTree)
  SettingParts = paired_shape (text_shape is_name) (past_shape (codes "=") Free)

  pub setting_phrase : Phrase (setting levels) (ends 0) setting_shape
  setting_phrase =
      made_phrase setting_of setting_shape (λ tree v. record { parts = both tree.name tree.value; is = refl }) makes
      (λ tree next e. e)
      (free_phrase named_phrase (past_phrase (codes "=") free_phrase_value free_example) (past_example (codes "=") free_example))
    where
      makes : Makes setting_of SettingParts setting_shape []
      makes = record { spelled = spelled; valid = valid; closes = closes; stops = λ tree next e. refl }
        where
          spelled : (tree : Both Text ExpressionTree) → spell_setting (setting_of tree) ≡ SettingParts.spell tree
          spelled (both letters tree) = refl

          valid : (tree : Both Text ExpressionTree) → fits_setting levels (setting_of tree) ≡ SettingParts.valid tree
          valid (both letters tree) = refl

          closes : (tree : Both Text ExpressionTree) (next : Option Text) → ends 0 next ≡ true → SettingParts.closes tree next
              ≡ true
          closes (both letters tree) next e = e

  pub a_setting : Example setting_shape
  a_setting = record {
    tree = record {
      name = a_name.tree;
      value = free_example.tree;
    };
    valid = and_both _ _ a_name.valid free_example.valid;
  }

  -- Net assignments

  abbrev pub net_assignment_shape : Shape NetAssignment
  net_assignment_shape = record {
    spell = spell_net_assignment;
    valid = fits_net_assignment levels;
    closes = λ tree. ends 0;
    stops = λ tree next. true;
  }

  abbrev AssignmentParts : Shape (Both TargetTree ExpressionTree)
  AssignmentParts = paired_shape (target_shape levels) (past_shape (codes "=") Free)

  pub net_assignment_phrase : Phrase (net_assignment levels) (ends 0) net_assignment_shape
  net_assignment_phrase =
      made_phrase net_assignment_of net_assignment_shape (λ tree v. record { parts = both tree.target tree.value; is = refl }) makes
      (λ tree next e. e)
      (before_phrase (codes "=") (target_phrase levels) free_phrase_value free_example refl)
    where
      makes : Makes net_assignment_of AssignmentParts net_assignment_shape []
      makes = record { spelled = spelled; valid = valid; closes = closes; stops = λ tree next e. refl }
        where
          spelled : (tree : Both TargetTree ExpressionTree) → spell_net_assignment (net_assignment_of tree) ≡ AssignmentParts.spell tree
          spelled (both target value) = refl

          valid : (tree : Both TargetTree ExpressionTree) → fits_net_assignment levels (net_assignment_of tree) ≡ AssignmentParts.valid tree
          valid (both target value) = refl

          closes : (tree : Both TargetTree ExpressionTree) (next : Option Text) → ends 0 next ≡ true → AssignmentParts.closes tree next
              ≡ true
          closes (both target value) next e = e

  pub a_net_assignment : Example net_assignment_shape
  a_net_assignment = record {
    tree = record {
      target = (target_example levels (one_within below)).tree;
      value = free_example.tree;
    };
    valid = and_both _ _ (target_example levels (one_within below)).valid free_example.valid;
  }

  abbrev pub declared_shape : Shape DeclaredTree
  declared_shape = record {
    spell = spell_declared;
    valid = fits_declared levels;
    closes = λ tree. ends_maybe equals (ends 0);
    stops = λ tree next. true;
  }

  abbrev DeclaredParts : Shape (Both Text (Option ExpressionTree))
  DeclaredParts = paired_shape (text_shape is_name) (maybe_shape equals (ends 0) (past_shape (codes "=") Free))

  pub declared_phrase : Phrase (declarator levels) (ends_maybe equals (ends 0)) declared_shape
  declared_phrase =
      made_phrase declared_of declared_shape (λ tree v. record { parts = both tree.name tree.value; is = refl }) makes
      (λ tree next e. e)
      (free_phrase named_phrase
      (maybe_phrase equals (past_phrase (codes "=") free_phrase_value free_example) (λ tree v. zero-lt-suc _) (λ tree v rest. refl))
      (record { tree = None; valid = refl }))
    where
      makes : Makes declared_of DeclaredParts declared_shape []
      makes = record { spelled = spelled; valid = valid; closes = closes; stops = λ tree next e. refl }
        where
          spelled : (tree : Both Text (Option ExpressionTree)) → spell_declared (declared_of tree) ≡ DeclaredParts.spell tree
          spelled (both letters None) = refl
          spelled (both letters (Some tree)) = refl

          valid : (tree : Both Text (Option ExpressionTree)) → fits_declared levels (declared_of tree) ≡ DeclaredParts.valid tree
          valid (both letters None) = refl
          valid (both letters (Some tree)) = refl

          closes : (tree : Both Text (Option ExpressionTree)) (next : Option Text) → ends_maybe equals (ends 0) next ≡ true →
              DeclaredParts.closes tree next ≡ true
          closes (both letters None) next e = e
          closes (both letters (Some tree)) next e = and_left (ends 0 next) _ e

  pub declared_worded : Worded declared_shape
  declared_worded tree v = by_value tree.value
    where
      by_value : (o : Option ExpressionTree) → 0 < length (spell_value tree.name o)
      by_value None = zero-lt-suc _
      by_value (Some one) = zero-lt-suc _

  -- what is declared begins with a name
  pub declared_opens : (here : Ends) → ((letters : Text) → is_name letters ≡ true → here (Some letters) ≡ true) → Opens here declared_shape
  declared_opens here named tree v rest c = by_value tree.value
    where
      by_value : (o : Option ExpressionTree) → here (front (spell_value tree.name o ++ rest)) ≡ true
      by_value None = named tree.name (and_left (is_name tree.name) _ v)
      by_value (Some one) = named tree.name (and_left (is_name tree.name) _ v)

  pub a_declared : Example declared_shape
  a_declared = record { tree = record { name = a_name.tree; value = None }; valid = and_both _ true a_name.valid refl }
