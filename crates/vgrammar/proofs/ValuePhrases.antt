-- Expressions, words and lists with commas, as parts of statements.
use Rattle.std.proofs.Common.{◌≡◌, ℕ, zero, suc, ◌<◌, Bool, true, false, ◌&&◌, not, nat_le, if◌then◌else◌, List, [], ◌∷◌, ◌++◌, Option, None, Some, length, flat_map, refl, sym, ap, ◌∙◌, arith, subst, codes}
use Rattle.std.specs.List.{list_all}
use Rattle.std.proofs.lemmas.Bool.Decides.{nat_tests}
use Rattle.basis.proofs.Bools.{and_left, and_right, and_both}
use Rattle.vwords.specs.Words.{Text, reserved_words}
use Rattle.vast.specs.Expressions.{ExpressionTree, name, spell_expression, fits_expression, depth, rank_of}
use Rattle.vast.proofs.ExpressionLemmas.{depth_positive}
use Rattle.vexpr_parse.specs.Readers.{got, Reader, front, is_front, past}
use Rattle.vexpr_parse.specs.Words.{ends}
use Rattle.vexpr_parse.specs.Reading.{expression}
use Rattle.vexpr_parse.specs.Found.{IsExpression}
use Rattle.vexpr_parse.specs.Lawful.{Ends, Lawful}
use Rattle.vexpr_parse.proofs.ReaderRules.{text_same, stop_got}
use Rattle.vexpr_parse.proofs.ExpressionRules.{expression_rule}
use Rattle.vexpr_parse.proofs.Sound.{Found, expression_found}
use Rattle.vexpr_parse.proofs.Complete.{expression_complete}
use Rattle.vgrammar.specs.Parts.{word_as, many, pair}
use Rattle.vgrammar.specs.Starts.{meant_if}
use Rattle.vgrammar.specs.Statements.{value, List_of, comma_list, word_only}
use Rattle.vgrammar.proofs.Phrases.{Shape, Sound, Phrase, Example, Worded, always, past_shape, past_phrase, past_example, nothing_shape, nothing_phrase, worded_shape, worded_phrase, paired_shape, paired_phrase}
use Rattle.vgrammar.proofs.PhraseChoices.{ends_many, allows_all, many_shape, many_phrase}
use Rattle.vgrammar.proofs.LevelFacts.{some_level}

-- An expression

abbrev pub value_shape : ℕ → Shape ExpressionTree
value_shape n = record {
  spell = spell_expression;
  valid = λ tree. fits_expression tree && nat_le (depth tree) n;
  closes = λ tree. ends 0;
  stops = λ tree next. true;
}

value_lawful : (n : ℕ) → Lawful (value n) (ends 0)
unfolding expression
value_lawful zero = λ words. record { before = []; whole = refl; near = λ other e. refl; more = λ e. absurd (below_zero 0 e) }
  where
    below_zero : (n : ℕ) → n < n → ⊥
    below_zero n e = omega (arith, e)
value_lawful (suc below) = (expression_rule below 0).lawful

value_sound : (n : ℕ) → Sound (value n) (value_shape n)
value_sound n words tree left e =
    let f : Found (IsExpression n 0) words (got tree left) = subst (Found (IsExpression n 0) words) e
    (expression_found n 0 refl words) in
    record {
      whole = f.1 ∙ ap (λ ws. ws ++ left) (sym f.2.spelled);
      valid = and_both (fits_expression tree) (nat_le (depth tree) n) f.2.fitting f.2.within;
      stopped = refl;
    }

pub value_phrase : (n : ℕ) → Phrase (value n) (ends 0) (value_shape n)
value_phrase n = record {
  lawful = value_lawful n;
  sound = value_sound n;
  complete = λ tree rest v c. expression_complete tree n 0 rest (and_left (fits_expression tree) (nat_le (depth tree) n) v)
      (and_right (fits_expression tree) (nat_le (depth tree) n) v) (at_least (rank_of tree)) c;
  closed = λ tree next e. e;
}
  where
    at_least : (r : ℕ) → nat_le 0 r ≡ true
    at_least r = grind (arith, nat_tests)

pub value_example : (n : ℕ) → nat_le 1 n ≡ true → Example (value_shape n)
unfolding reserved_words
value_example n e = record { tree = name (codes "a"); valid = e }

-- where an expression stands, a level is left
pub value_level : (n : ℕ) (tree : ExpressionTree) → (fits_expression tree && nat_le (depth tree) n) ≡ true → nat_le 1 n ≡ true
value_level n tree v = some_level (depth tree) n (depth_positive tree)
    (and_right (fits_expression tree) (nat_le (depth tree) n) v)

-- an expression has words
pub value_worded : (n : ℕ) → Worded (value_shape n)
unfolding expression
value_worded n tree v = by_words (spell_expression tree) (λ rest c. (value_phrase n).complete tree rest v c)
  where
    positive : (n : ℕ) → 0 < suc n
    positive n = omega arith

    no_words : (n : ℕ) → value n [] ≡ got tree [] → ⊥
    no_words zero e = stop_got e
    no_words (suc below) e = stop_got e

    by_words : (words : List Text) → ((rest : List Text) → ends 0 (front rest) ≡ true → value n (words ++ rest) ≡ got tree rest) →
        0 < length words
    by_words [] e = absurd (no_words n (e [] refl))
    by_words (word ∷ words) e = positive (length words)

-- Words

pub word_if_phrase : (test : Text → Bool) → Phrase (word_as (meant_if test)) always (worded_shape (λ text. text) test always)
word_if_phrase test = worded_phrase (meant_if test) (λ text. text) test always written meant
  where
    by_test : (b : Bool) (text tree : Text) → test text ≡ b → (if b then Some text else None) ≡ Some tree →
        (tree ≡ text) × (test tree ≡ true)
    by_test true text tree is e =
        let same : Some text ≡ Some tree = e in
        let eq : text ≡ tree = cc in
        (sym eq, subst (λ t. test t ≡ true) eq is)
    by_test false text tree is e = let no : None ≡ Some tree = e in absurd cc

    written : (text : Text) (tree : Text) → meant_if test text ≡ Some tree → (tree ≡ text) × (test tree ≡ true)
    written text tree e = by_test (test text) text tree refl e

    meant : (tree : Text) → test tree ≡ true → meant_if test tree ≡ Some tree
    meant tree v = ap (λ (b : Bool). if b then Some tree else None) v

abbrev pub only_shape : Text → Shape (Unit {0})
only_shape text = past_shape text (nothing_shape always)

pub nothing_example : Example (nothing_shape always)
nothing_example = record { tree = tt; valid = refl }

pub only_phrase : (text : Text) → Phrase (word_only text) always (only_shape text)
only_phrase text = past_phrase text (nothing_phrase always) nothing_example

pub only_example : (text : Text) → Example (only_shape text)
only_example text = past_example text nothing_example

-- Lists with commas

abbrev pub comma : Option Text → Bool
comma = is_front (codes ",")

abbrev pub comma_shape : {A : Type 0} → Ends → Shape A → Shape (List_of A)
comma_shape ends s = paired_shape s (many_shape comma ends (past_shape (codes ",") s) (λ list. s.valid))

pub more_behind : {A : Type 0} (text : Text) {read : Reader A} {ends : Ends} {s : Shape A} → Phrase read ends s → Example s →
    ends (Some text) ≡ true →
    Phrase (many (is_front text) (λ list. past text read)) (ends_many (is_front text) ends)
    (many_shape (is_front text) ends (past_shape text s) (λ list. s.valid))
more_behind text {read = read} {ends = ends} {s = s} p e opens =
    many_phrase (is_front text) (λ list. past text read) ends (past_shape text s) (λ list. s.valid) (λ list. past_phrase text p e)
    (λ list tree v. positive (length (s.spell tree))) (λ list tree rest v. same text) (λ list tree rest v. opens)
  where
    positive : (n : ℕ) → 0 < suc n
    positive n = omega arith

    same : (text : Text) → is_front text (Some text) ≡ true
    same text = text_same text

-- one, and others behind commas
pub list_phrase : {A B : Type 0} {read : Reader A} {more : Reader B} {ends : Ends} {s : Shape A} {t : Shape B} → Phrase read ends s →
    Phrase more ends t →
    Example t →
    ends (Some (codes ",")) ≡ true →
    Phrase (pair read (many comma (λ list. past (codes ",") more))) (ends_many comma ends)
    (paired_shape s (many_shape comma ends (past_shape (codes ",") t) (λ list. t.valid)))
list_phrase {ends = ends} {t = t} p q e opens =
    paired_phrase p (more_behind (codes ",") q e opens) (record { tree = []; valid = refl })
    (λ list v rest c. follows list rest v c)
    (λ list v none next f. and_left (ends next) (not (comma next)) f)
  where
    follows : (list : List _) (rest : List Text) → allows_all (λ list. t.valid) [] list ≡ true →
        ends_many comma ends (front rest) ≡ true →
        ends (front (flat_map (λ tree. codes "," ∷ t.spell tree) list ++ rest)) ≡ true
    follows [] rest v c = and_left (ends (front rest)) (not (comma (front rest))) c
    follows (tree ∷ more) rest v c = opens

pub comma_phrase : {A : Type 0} {read : Reader A} {ends : Ends} {s : Shape A} → Phrase read ends s → Example s →
    ends (Some (codes ",")) ≡ true → Phrase (comma_list read) (ends_many comma ends) (comma_shape ends s)
comma_phrase p e opens = list_phrase p p e opens

pub allows_each : {A : Type 0} (valid : A → Bool) (so_far list : List A) → allows_all (λ l. valid) so_far list
    ≡ list_all valid list
allows_each valid so_far [] = refl
allows_each valid so_far (tree ∷ more) = ap (λ b. valid tree && b) (allows_each valid (so_far ++ tree ∷ []) more)
