-- Which way ports go.
use Rattle.std.proofs.Common.{◌≡◌, ℕ, suc, Bool, true, false, ◌&&◌, not, List, [], ◌∷◌, ◌++◌, Option, None, Some, refl, sym, ap, ◌∙◌, subst, codes, zero-lt-suc}
use Rattle.std.specs.Str.{bytes_eq}
use Rattle.std.proofs.lemmas.Bool.{false_from_ne_true, not-true}
use Rattle.basis.proofs.Bools.{and_left, and_right, and_both, clash}
use Rattle.vwords.specs.Words.{Text, is_name, reserved_words}
use Rattle.vast.specs.Modules.{RangeTree, TypeTree, DirectionTree, input, output, output_integer, spell_range, spell_signed, spell_type, spell_direction, fits_type, fits_direction, net_word}
use Rattle.vast.specs.declared.module.NetKind.{NetKind}
use Rattle.vast.specs.declared.module.NetKind.TheVariants as net
use Rattle.vexpr_parse.specs.Readers.{front, is_front, past}
use Rattle.vexpr_parse.specs.Words.{by_spelling}
use Rattle.vexpr_parse.specs.Lawful.{Ends}
use Rattle.vexpr_parse.proofs.ReaderRules.{same_text}
use Rattle.vgrammar.specs.Parts.{Both, both, one_way, other_way, pair, word_as, maybe}
use Rattle.vgrammar.specs.Starts.{is_meant, is_some_meaning}
use Rattle.vgrammar.specs.Statements.{word_only}
use Rattle.vgrammar.specs.Modules.{type, net_of, Output, output_behind, Direction, direction_of, direction, is_direction}
use Rattle.vgrammar.proofs.Phrases.{Shape, Phrase, Example, Opens, Makes, From, always, phrase_within, made_phrase, past_shape, past_phrase, worded_shape, worded_phrase, paired_shape, paired_phrase, paired_example}
use Rattle.vgrammar.proofs.PhraseChoices.{maybe_shape, maybe_phrase, either_shape, either_phrase, either_open_phrase, Tested}
use Rattle.vgrammar.proofs.ValuePhrases.{only_shape, only_phrase}
use Rattle.vgrammar.proofs.WordPhrases.{as_written}
use Rattle.vgrammar.proofs.HeadPhrases.{name_means_not, phrase_closing, ends_type, ends_parameter_type, integer_next, integer_shape, integer_phrase, integer_begins, type_phrase, name_ends_type}

abbrev pub net_shape : Shape NetKind
net_shape = worded_shape net_word (λ kind. true) always

pub net_phrase : Phrase (word_as net_of) always net_shape
net_phrase = worded_phrase net_of net_word (λ kind. true) always
    (λ text kind e. (as_written net_word (net.Wire ∷ net.Reg ∷ []) text kind e, refl)) meant
  where
    meant : (kind : NetKind) → true ≡ true → net_of (net_word kind) ≡ Some kind
    meant net.Wire e = refl
    meant net.Reg e = refl

abbrev net_next : Option Text → Bool
net_next = is_meant net_of

abbrev wire_next : Option Text → Bool
wire_next = is_front (codes "wire")

abbrev pub ends_direction : Ends
ends_direction next = ends_parameter_type next && not (net_next next)

type_ends : (next : Option Text) → ends_direction next ≡ true → ends_type next ≡ true
type_ends next e = and_left (ends_type next) _ (and_left (ends_parameter_type next) _ e)

net_ends : (next : Option Text) → ends_direction next ≡ true → not (net_next next) ≡ true
net_ends next e = and_right (ends_parameter_type next) _ e

integer_ends : (next : Option Text) → ends_direction next ≡ true → not (integer_next next) ≡ true
integer_ends next e = and_right (ends_type next) _ (and_left (ends_parameter_type next) _ e)

no_wire : (next : Option Text) → not (net_next next) ≡ true → not (wire_next next) ≡ true
no_wire None e = refl
no_wire (Some word) e =
    ap not (false_from_ne_true (bytes_eq (codes "wire") word)
    (λ f. false_true (subst (λ w. not (net_next (Some w)) ≡ true) (sym (same_text (codes "wire") word f)) e)))
  where
    false_true : false ≡ true → ⊥
    false_true e = cc

no_wire_part : Example (maybe_shape wire_next always (only_shape (codes "wire")))
no_wire_part = record { tree = None; valid = refl }

no_net_part : Example (maybe_shape net_next always net_shape)
no_net_part = record { tree = None; valid = refl }

-- a name stands behind a direction
pub name_ends_direction : (letters : Text) → is_name letters ≡ true → ends_direction (Some letters) ≡ true
unfolding reserved_words
name_ends_direction letters is =
    and_both (ends_parameter_type (Some letters)) (not (net_next (Some letters))) (name_ends_type letters is)
    (ap not (name_means_not net_word (net.Wire ∷ net.Reg ∷ []) no_net_name letters is))
  where
    no_net_name : (kind : NetKind) → is_name (net_word kind) ≡ false
    no_net_name net.Wire = refl
    no_net_name net.Reg = refl

pub no_direction : (letters : Text) → is_name letters ≡ true → is_direction (Some letters) ≡ false
unfolding reserved_words
no_direction letters is = by_meaning (by_spelling (λ text. text) (codes "input" ∷ codes "output" ∷ []) letters) refl
  where
    by_meaning : (m : Option Text) → by_spelling (λ text. text) (codes "input" ∷ codes "output" ∷ []) letters ≡ m →
        is_some_meaning m ≡ false
    by_meaning None e = refl
    by_meaning (Some text) e = by_tests (bytes_eq (codes "input") letters) (bytes_eq (codes "output") letters) refl refl e
      where
        by_tests : (a b : Bool) → bytes_eq (codes "input") letters ≡ a → bytes_eq (codes "output") letters ≡ b →
            by_spelling (λ text. text) (codes "input" ∷ codes "output" ∷ []) letters ≡ Some text → true ≡ false
        by_tests true b p q e = absurd (clash (is_name letters) is (sym (ap is_name (same_text (codes "input") letters p))))
        by_tests false true p q e = absurd (clash (is_name letters) is (sym (ap is_name (same_text (codes "output") letters q))))
        by_tests false false p q e =
            let none : None ≡ Some text = sym (nothing_written p q) ∙ e in absurd cc
          where
            nothing_written : bytes_eq (codes "input") letters ≡ false → bytes_eq (codes "output") letters ≡ false →
                by_spelling (λ text. text) (codes "input" ∷ codes "output" ∷ []) letters ≡ None
            nothing_written p q = rw p (rw q refl)

module _ (below : ℕ) where
  abbrev levels : ℕ
  levels = suc below

  abbrev LastType : Shape TypeTree
  LastType = record { spell = spell_type; valid = fits_type levels; closes = λ tree. ends_direction; stops = λ tree next. true }

  last_type_phrase : Phrase (type levels) ends_direction LastType
  last_type_phrase =
      phrase_closing (λ tree. ends_direction)
      (phrase_within ends_direction (type_phrase below) type_ends)
      (λ tree next e. type_ends next e) (λ tree next e. e)

  plain_type : Example LastType
  plain_type = record { tree = record { signed = false; range = None }; valid = refl }

  -- what ends before a type: what doesn't begin one, and what ends it
  type_opens : (here : Ends) → here (Some (codes "signed")) ≡ true → here (Some (codes "[")) ≡ true →
      ((next : Option Text) → ends_direction next ≡ true → here next ≡ true) → Opens here LastType
  type_opens here a b c tree v rest e = by_parts tree.signed tree.range
    where
      by_parts : (sign : Bool) (bounds : Option RangeTree) →
          here (front ((spell_signed sign ++ spell_range bounds) ++ rest)) ≡ true
      by_parts true bounds = a
      by_parts false None = c (front rest) e
      by_parts false (Some tree) = b

  abbrev InputParts : Shape (Both (Option (Unit {0})) TypeTree)
  InputParts = past_shape (codes "input") (paired_shape (maybe_shape wire_next always (only_shape (codes "wire"))) LastType)

  abbrev TypedOutput : Shape (Both (Option NetKind) TypeTree)
  TypedOutput = paired_shape (maybe_shape net_next always net_shape) LastType

  abbrev OutputParts : Shape Output
  OutputParts = past_shape (codes "output") (either_shape integer_shape TypedOutput)

  input_phrase : Phrase (past (codes "input")
      (pair (maybe wire_next (word_only (codes "wire"))) (type levels))) ends_direction InputParts
  input_phrase =
      past_phrase (codes "input")
      (paired_phrase (maybe_phrase wire_next (only_phrase (codes "wire")) (λ tree v. zero-lt-suc _)
      (λ tree v rest. refl)) last_type_phrase
      plain_type
      (type_opens (λ next. not (wire_next next)) refl refl (λ next e. no_wire next (net_ends next e)))
      (λ y v none next e. no_wire next (net_ends next e)))
      (paired_example no_wire_part plain_type)

  typed_output_phrase : Phrase (pair (maybe net_next (word_as net_of)) (type levels)) ends_direction TypedOutput
  typed_output_phrase =
      paired_phrase (maybe_phrase net_next net_phrase (λ tree v. zero-lt-suc 0) begins) last_type_phrase plain_type
      (type_opens (λ next. not (net_next next)) refl refl net_ends)
      (λ y v none next e. net_ends next e)
    where
      begins : Tested net_next true net_shape
      begins net.Wire v rest = refl
      begins net.Reg v rest = refl

  output_phrase : Phrase (past (codes "output") (output_behind levels)) ends_direction OutputParts
  output_phrase =
      past_phrase (codes "output")
      (either_open_phrase integer_next (phrase_within ends_direction integer_phrase (λ next e. refl)) typed_output_phrase
      (λ tree v. zero-lt-suc _) (λ tree words is e. not-true (integer_next (front words)) (integer_ends (front words) e))
      integer_begins fails)
      (record { tree = one_way false; valid = refl })
    where
      fails : (tree : Both (Option NetKind) TypeTree) → TypedOutput.valid tree ≡ true → (rest : List Text) →
          TypedOutput.closes tree (front rest) ≡ true → integer_next (front (TypedOutput.spell tree ++ rest)) ≡ false
      fails (both None tree) v rest c =
          not-true (integer_next (front (spell_type tree ++ rest)))
          (type_opens (λ next. not (integer_next next)) refl refl integer_ends tree v rest c)
      fails (both (Some net.Wire) tree) v rest c = refl
      fails (both (Some net.Reg) tree) v rest c = refl

  abbrev pub direction_shape : Shape DirectionTree
  direction_shape = record {
    spell = λ tree. spell_direction (Some tree);
    valid = λ tree. fits_direction levels (Some tree);
    closes = λ tree. ends_direction;
    stops = λ tree next. true;
  }

  pub direction_phrase : Phrase (direction levels) ends_direction direction_shape
  direction_phrase =
      made_phrase direction_of direction_shape back makes (λ tree next e. e)
      (either_phrase (is_front (codes "input")) input_phrase output_phrase (λ tree v. zero-lt-suc _) (λ tree v. zero-lt-suc _)
      (λ tree v rest. refl)
      (λ tree v rest. refl))
    where
      back : (tree : DirectionTree) → fits_direction levels (Some tree) ≡ true → From direction_of tree
      back (input true tree) v = record { parts = one_way (both (Some tt) tree); is = refl }
      back (input false tree) v = record { parts = one_way (both None tree); is = refl }
      back (output kind tree) v = record { parts = other_way (other_way (both kind tree)); is = refl }
      back (output_integer long) v = record { parts = other_way (one_way long); is = refl }

      makes : Makes direction_of (either_shape InputParts OutputParts) direction_shape []
      makes = record { spelled = spelled; valid = valid; closes = closes; stops = λ tree next e. refl }
        where
          spelled : (tree : Direction) → spell_direction (Some (direction_of tree))
              ≡ (either_shape InputParts OutputParts).spell tree
          spelled (one_way (both None tree)) = refl
          spelled (one_way (both (Some end) tree)) = refl
          spelled (other_way (one_way long)) = refl
          spelled (other_way (other_way (both None tree))) = refl
          spelled (other_way (other_way (both (Some kind) tree))) = refl

          valid : (tree : Direction) → fits_direction levels (Some (direction_of tree))
              ≡ (either_shape InputParts OutputParts).valid tree
          valid (one_way (both None tree)) = refl
          valid (one_way (both (Some end) tree)) = refl
          valid (other_way (one_way long)) = refl
          valid (other_way (other_way (both None tree))) = refl
          valid (other_way (other_way (both (Some kind) tree))) = refl

          closes : (tree : Direction) (next : Option Text) → ends_direction next ≡ true →
              (either_shape InputParts OutputParts).closes tree next ≡ true
          closes (one_way (both wire tree)) next e = e
          closes (other_way (one_way long)) next e = refl
          closes (other_way (other_way (both kind tree))) next e = e
