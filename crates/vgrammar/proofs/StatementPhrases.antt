-- Statements round others, behind their first words.
use Rattle.std.proofs.Common.{◌≡◌, ℕ, suc, ◌+◌, ◌<◌, Bool, true, false, ◌&&◌, not, max, nat_le, List, [], ◌∷◌, ◌++◌, Option, None, Some, length, flat_map, refl, sym, ap, ◌∙◌, arith, subst, codes, zero-lt-suc, append_assoc}
use Rattle.std.proofs.lemmas.List.{append-nil}
use Rattle.std.proofs.lemmas.Bool.Decides.{nat_tests}
use Rattle.basis.proofs.Bools.{and_left, and_right, and_both, and_assoc}
use Rattle.vwords.specs.Words.{Text, is_name, reserved_words}
use Rattle.vast.specs.Expressions.{ExpressionTree, spell_expression, fits_expression, depth}
use Rattle.vast.specs.Statements.{TargetTree, DelayTree, EventTree, by_event, by_any, by_any_enclosed, by_terms, spell_target, spell_optional_delay, spell_event, delay_depth, optional_delay_depth, event_depth, target_depth, fits_target, fits_delay, fits_optional_delay, fits_event, StatementTree, empty, forever, spell_statement, spell_statements, statement_depth, statements_depth, ends_in_if, fits_statement, fits_statements, fits_block_name}
use Rattle.vexpr_parse.specs.declared.beginning.Beginning.TheVariants as start
use Rattle.vexpr_parse.specs.Readers.{got, Reader, front, is_front}
use Rattle.vexpr_parse.specs.Words.{binary_of, unary_of, beginning_of, ends, ends_primary}
use Rattle.vexpr_parse.specs.Lawful.{Ends}
use Rattle.vexpr_parse.proofs.ReaderRules.{same_text, parts_of}
use Rattle.vgrammar.specs.declared.start.Guard.{Guard}
use Rattle.vgrammar.specs.declared.start.Guard.TheVariants as guard
use Rattle.vgrammar.specs.Parts.{Both, both, map_tree, pair, word_as}
use Rattle.vgrammar.specs.Starts.{sign_of, sign_word, guard_word}
use Rattle.vgrammar.specs.Statements.{value, name_word, word_only, amount, optional_delay, Assignment, assignment_of, assignment_parts, guard_then, if_of, branches_of_if, guarded_of, setting, For, for_of, for_parts, delayed_of, control, event_body_of, statements_in, block_of, block_parts, trigger_of, ends_statement, Block, block_name, ended_statements}
use Rattle.vgrammar.proofs.Phrases.{Shape, Phrase, Example, Worded, Opens, Makes, AreLinked, always, phrase_within, past_shape, past_phrase, past_example, nothing_phrase, worded_shape, worded_phrase, linked_shape, linked_phrase, paired_shape, before_phrase, paired_example, free_phrase, next_phrase}
use Rattle.vgrammar.proofs.PhraseChoices.{maybe_shape, maybe_phrase, Tested, many_shape, many_phrase, ends_maybe, allows_all}
use Rattle.vgrammar.proofs.LevelFacts.{one_up, and_true}
use Rattle.vgrammar.proofs.ValuePhrases.{value_shape, value_phrase, value_example, value_worded, nothing_example, only_shape, only_phrase, only_example, allows_each}
use Rattle.vgrammar.proofs.TargetPhrases.{target_shape, target_phrase, target_example}
use Rattle.vgrammar.proofs.WordPhrases.{as_written, refused_first, value_refuses}
use Rattle.vgrammar.proofs.PartPhrases.{text_shape, a_name, named_phrase, amount_shape, amount_behind, amount_phrase, amount_example, optional_delay_phrase, event_words, event_shape, control_phrase}
use Rattle.vgrammar.proofs.StatementShapes.{closes_statement, statement_shape, statement_closed, behind_condition, two_valid, three_valid, else_valid, for_valid, all_within}

abbrev pub else_next : Option Text → Bool
else_next = is_front (codes "else")

-- ( value ) and what is read behind it

abbrev pub guarded_shape : {A : Type 0} → ℕ → Shape A → Shape (Both ExpressionTree A)
guarded_shape below s = past_shape (codes "(") (paired_shape (value_shape below) (past_shape (codes ")") s))

pub guarded_phrase : {A : Type 0} (below : ℕ) → nat_le 1 below ≡ true → {read : Reader A} {ends : Ends} {s : Shape A} →
    Phrase read ends s →
    Example s → Phrase (guard_then below read) ends (guarded_shape below s)
unfolding binary_of
guarded_phrase below level p e =
    past_phrase (codes "(") (before_phrase (codes ")") (value_phrase below) p e refl)
    (paired_example (value_example below level) (past_example (codes ")") e))

pub guarded_example : {A : Type 0} (below : ℕ) → nat_le 1 below ≡ true → {s : Shape A} → Example s →
    Example (guarded_shape below s)
guarded_example below level e = past_example (codes "(") (paired_example (value_example below level) (past_example (codes ")") e))

-- Assignments

abbrev pub sign_shape : Shape Bool
sign_shape = worded_shape sign_word (λ later. true) always

sign_phrase : Phrase (word_as sign_of) always sign_shape
sign_phrase = worded_phrase sign_of sign_word (λ later. true) always
    (λ text later e. (as_written sign_word (false ∷ true ∷ []) text later e, refl)) meant
  where
    meant : (later : Bool) → true ≡ true → sign_of (sign_word later) ≡ Some later
    meant true e = refl
    meant false e = refl

abbrev pub hash : Option Text → Bool
hash = is_front (codes "#")

abbrev pub delay_part_shape : ℕ → Shape (Option DelayTree)
delay_part_shape below = maybe_shape hash always (past_shape (codes "#") (amount_shape below))

abbrev pub right_side_shape : ℕ → Shape (Both ExpressionTree (Unit {0}))
right_side_shape below = paired_shape (value_shape below) (only_shape (codes ";"))

abbrev pub assignment_shape : ℕ → Shape Assignment
assignment_shape below =
    paired_shape (target_shape below) (paired_shape sign_shape (paired_shape (delay_part_shape below) (right_side_shape below)))

delay_part_spelled : (below : ℕ) (wait : Option DelayTree) → spell_optional_delay wait ≡ (delay_part_shape below).spell wait
delay_part_spelled below None = refl
delay_part_spelled below (Some tree) = amount_behind tree

delay_part_valid : (below : ℕ) (wait : Option DelayTree) →
    (fits_optional_delay wait && nat_le (optional_delay_depth wait) below) ≡ (delay_part_shape below).valid wait
delay_part_valid below None = no_deeper below
  where
    no_deeper : (n : ℕ) → nat_le 0 n ≡ true
    no_deeper n = grind (arith, nat_tests)
delay_part_valid below (Some tree) = refl

pub assignment_makes : (below : ℕ) → Makes assignment_of (assignment_shape below) (statement_shape (suc below)) []
assignment_makes below = record {
  spelled = spelled;
  valid = valid;
  closes = λ tree next e. closes tree next;
  stops = λ tree next e. stops tree next;
}
  where
    spelled : (tree : Assignment) → spell_statement (assignment_of tree) ≡ (assignment_shape below).spell tree
    spelled (both tree (both true (both wait (both right end)))) =
        ap (λ ws. spell_target tree ++ codes "<=" ∷ (ws ++ (spell_expression right ++ codes ";" ∷ [])))
        (delay_part_spelled below wait)
    spelled (both tree (both false (both wait (both right end)))) =
        ap (λ ws. spell_target tree ++ codes "=" ∷ (ws ++ (spell_expression right ++ codes ";" ∷ [])))
        (delay_part_spelled below wait)

    parts_valid : (tree : TargetTree) (wait : Option DelayTree) (right : ExpressionTree) →
        (((fits_target tree && fits_optional_delay wait) && fits_expression right)
        && nat_le (1 + max (target_depth tree) (max (optional_delay_depth wait) (depth right))) (suc below))
        ≡ ((fits_target tree && nat_le (target_depth tree) below)
        && ((delay_part_shape below).valid wait && ((fits_expression right && nat_le (depth right) below) && true)))
    parts_valid tree wait right =
        three_valid (fits_target tree) (fits_optional_delay wait) (fits_expression right) (target_depth tree)
        (optional_delay_depth wait)
        (depth right) below
        ∙ ap (λ b. (fits_target tree && nat_le (target_depth tree) below) &&
        (b && (fits_expression right && nat_le (depth right) below)))
        (delay_part_valid below wait)
        ∙ ap (λ b. (fits_target tree && nat_le (target_depth tree) below) && ((delay_part_shape below).valid wait && b))
        (sym (and_true (fits_expression right && nat_le (depth right) below)))

    valid : (tree : Assignment) →
        (fits_statement (assignment_of tree) && nat_le (statement_depth (assignment_of tree)) (suc below))
        ≡ (assignment_shape below).valid tree
    valid (both tree (both true (both wait (both right end)))) = parts_valid tree wait right
    valid (both tree (both false (both wait (both right end)))) = parts_valid tree wait right

    closes : (tree : Assignment) (next : Option Text) → (assignment_shape below).closes tree next ≡ true
    closes (both tree (both later (both wait (both right end)))) next = refl

    stops : (tree : Assignment) (next : Option Text) → closes_statement (assignment_of tree) next ≡ true
    stops (both tree (both true (both wait (both right end)))) next = refl
    stops (both tree (both false (both wait (both right end)))) next = refl

module _ (below : ℕ) (level : nat_le 1 below ≡ true) where
  right_side_phrase : Phrase (pair (value below) (word_only (codes ";"))) always (right_side_shape below)
  unfolding binary_of
  right_side_phrase = before_phrase (codes ";") (value_phrase below) (nothing_phrase always) nothing_example refl

  right_side_example : Example (right_side_shape below)
  right_side_example = paired_example (value_example below level) (only_example (codes ";"))

  right_side_worded : Worded (right_side_shape below)
  right_side_worded (both tree end) v = longer (spell_expression tree) (value_worded below tree (and_left _ true v))
    where
      longer : (words : List Text) → 0 < length words → 0 < length (words ++ codes ";" ∷ [])
      longer [] e = zero-lt-suc _
      longer (word ∷ words) e = zero-lt-suc _

  no_hash : Tested hash false (right_side_shape below)
  unfolding beginning_of unary_of reserved_words
  no_hash = refused_first hash right_side_phrase right_side_worded refl refuses
    where
      refuses : (word : Text) (words : List Text) (tree : Both ExpressionTree (Unit {0})) (left : List Text) → hash (Some word)
          ≡ true →
          pair (value below) (word_only (codes ";")) (word ∷ words) ≡ got tree left → ⊥
      refuses word words tree left is e =
          let a = parts_of (value below (word ∷ words)) (λ t. map_tree (both t) (word_only (codes ";"))) tree left e in
          value_refuses below word
          (subst (λ w. beginning_of w ≡ start.Other) (same_text (codes "#") word is) refl) words a.one a.between a.first

  no_wait : Example (delay_part_shape below)
  no_wait = record { tree = None; valid = refl }

  a_sign : Example sign_shape
  a_sign = record { tree = false; valid = refl }

  delayed_right_example : Example (paired_shape (delay_part_shape below) (right_side_shape below))
  delayed_right_example = paired_example no_wait right_side_example

  signed_example : Example (paired_shape sign_shape (paired_shape (delay_part_shape below) (right_side_shape below)))
  signed_example = paired_example a_sign delayed_right_example

  delayed_right_phrase : Phrase (pair (optional_delay below) (pair (value below) (word_only (codes ";")))) always
      (paired_shape (delay_part_shape below) (right_side_shape below))
  delayed_right_phrase =
      next_phrase (optional_delay_phrase below level) right_side_phrase right_side_example right_side_worded
      (λ tree v rest c. ap not (no_hash tree v rest))

  -- what stands behind a target
  pub signed_phrase : Phrase
      (pair (word_as sign_of) (pair (optional_delay below) (pair (value below) (word_only (codes ";"))))) always
      (paired_shape sign_shape (paired_shape (delay_part_shape below) (right_side_shape below)))
  signed_phrase = free_phrase sign_phrase delayed_right_phrase delayed_right_example

  pub assignment_phrase : Phrase (assignment_parts below) always (assignment_shape below)
  assignment_phrase = next_phrase (target_phrase below) signed_phrase signed_example some opens
    where
      some : Worded (paired_shape sign_shape (paired_shape (delay_part_shape below) (right_side_shape below)))
      some (both later more) v = zero-lt-suc _

      opens : Opens ends_primary (paired_shape sign_shape (paired_shape (delay_part_shape below) (right_side_shape below)))
      opens (both true more) v rest c = refl
      opens (both false more) v rest c = refl

  pub assignment_example : Example (assignment_shape below)
  assignment_example = paired_example (target_example below level) signed_example

  -- Triggers

  pub trigger_phrase : Phrase (pair name_word (word_only (codes ";"))) always
      (paired_shape (text_shape is_name) (only_shape (codes ";")))
  trigger_phrase = free_phrase named_phrase (only_phrase (codes ";")) (only_example (codes ";"))

  pub trigger_example : Example (paired_shape (text_shape is_name) (only_shape (codes ";")))
  trigger_example = paired_example a_name (only_example (codes ";"))

  pub trigger_makes : Makes trigger_of (paired_shape (text_shape is_name) (only_shape (codes ";")))
      (statement_shape (suc below)) (codes "->" ∷ [])
  trigger_makes = record {
    spelled = spelled;
    valid = valid;
    closes = λ tree next e. closes tree next;
    stops = λ tree next e. stops tree next;
  }
    where
      spelled : (tree : Both Text (Unit {0})) →
          spell_statement (trigger_of tree) ≡ codes "->" ∷ (paired_shape (text_shape is_name) (only_shape (codes ";"))).spell tree
      spelled (both letters end) = refl

      valid : (tree : Both Text (Unit {0})) → (statement_shape (suc below)).valid (trigger_of tree)
          ≡ (paired_shape (text_shape is_name) (only_shape (codes ";"))).valid tree
      valid (both letters end) = ap (λ b. is_name letters && b) (one_up 1 below ∙ level)

      closes : (tree : Both Text (Unit {0})) (next : Option Text) →
          (paired_shape (text_shape is_name) (only_shape (codes ";"))).closes tree next ≡ true
      closes (both letters end) next = refl

      stops : (tree : Both Text (Unit {0})) (next : Option Text) → closes_statement (trigger_of tree) next ≡ true
      stops (both letters end) next = refl

-- Round a statement with a level less

module _ (below : ℕ) (read : Reader StatementTree) (p : Phrase read ends_statement (statement_shape below)) where
  abbrev S : Shape StatementTree
  S = statement_shape below

  abbrev Out : Shape StatementTree
  Out = statement_shape (suc below)

  pub inner_example : nat_le 1 below ≡ true → Example S
  inner_example level = record { tree = empty; valid = level }

  -- if

  abbrev pub valid_if : Both StatementTree (Option StatementTree) → Bool
  valid_if (both body None) = S.valid body
  valid_if (both body (Some otherwise)) = (S.valid body && S.valid otherwise) && not (ends_in_if body)

  abbrev Otherwise : Shape (Option StatementTree)
  Otherwise = maybe_shape else_next ends_statement (past_shape (codes "else") S)

  abbrev pub if_shape : Shape (Both StatementTree (Option StatementTree))
  if_shape = linked_shape S Otherwise valid_if

  branches_phrase : nat_le 1 below ≡ true → Phrase (branches_of_if read) ends_statement if_shape
  branches_phrase level =
      phrase_within ends_statement
      (linked_phrase Otherwise (λ x. Otherwise.valid) p
      (λ x. maybe_phrase else_next (past_phrase (codes "else") p (inner_example level)) (λ tree v. zero-lt-suc _)
      (λ tree v rest. refl))
      None (λ x. refl) valid_if (λ rest e. and_left (ends_statement (front rest)) _ e)
      (λ x y v none next e. and_left (ends_statement next) _ e) join split)
      (λ next e. and_both (ends_statement next) (not (else_next next)) e e)
    where
      join : (x : StatementTree) (y : Option StatementTree) (rest : List Text) → S.valid x ≡ true → Otherwise.valid y ≡ true →
          closes_statement x (front (Otherwise.spell y ++ rest)) ≡ true → valid_if (both x y) ≡ true
      join x None rest v w f = v
      join x (Some y) rest v w f =
          and_both (S.valid x && S.valid y) (not (ends_in_if x)) (and_both (S.valid x) (S.valid y) v w)
          (ap not (sym (and_true (ends_in_if x))) ∙ f)

      split : (x : StatementTree) (y : Option StatementTree) → valid_if (both x y) ≡ true → AreLinked S Otherwise x y
      split x None v = record {
        first = v;
        second = refl;
        meets = λ rest c. statement_closed x (front rest) (and_left (ends_statement (front rest)) _ c);
      }
      split x (Some y) v = record {
        first = and_left (S.valid x) (S.valid y) (and_left (S.valid x && S.valid y) (not (ends_in_if x)) v);
        second = and_right (S.valid x) (S.valid y) (and_left (S.valid x && S.valid y) (not (ends_in_if x)) v);
        meets = λ rest c. ap not (and_true (ends_in_if x)) ∙ and_right (S.valid x && S.valid y) (not (ends_in_if x)) v;
      }

  if_branches_example : nat_le 1 below ≡ true → Example if_shape
  if_branches_example level = record { tree = both empty None; valid = level }

  pub if_phrase : nat_le 1 below ≡ true →
      Phrase (guard_then below (branches_of_if read)) ends_statement (guarded_shape below if_shape)
  if_phrase level = guarded_phrase below level (branches_phrase level) (if_branches_example level)

  pub if_example : nat_le 1 below ≡ true → Example (guarded_shape below if_shape)
  if_example level = guarded_example below level (if_branches_example level)

  pub if_makes : Makes if_of (guarded_shape below if_shape) Out (codes "if" ∷ [])
  if_makes = record { spelled = spelled; valid = valid; closes = closes; stops = stops }
    where
      spelled : (tree : Both ExpressionTree (Both StatementTree (Option StatementTree))) →
          spell_statement (if_of tree) ≡ codes "if" ∷ (guarded_shape below if_shape).spell tree
      spelled (both condition (both body None)) =
          ap (λ ws. codes "if" ∷ ws) (behind_condition condition (spell_statement body)
          ∙ ap (λ ws. codes "(" ∷ (spell_expression condition ++ codes ")" ∷ ws)) (sym (append-nil (spell_statement body))))
      spelled (both condition (both body (Some otherwise))) =
          ap (λ ws. codes "if" ∷ ws)
          (behind_condition condition (spell_statement body ++ codes "else" ∷ spell_statement otherwise))

      valid : (tree : Both ExpressionTree (Both StatementTree (Option StatementTree))) → Out.valid (if_of tree)
          ≡ (guarded_shape below if_shape).valid tree
      valid (both condition (both body None)) =
          two_valid (fits_expression condition) (fits_statement body) (depth condition) (statement_depth body) below
      valid (both condition (both body (Some otherwise))) =
          else_valid (fits_expression condition) (not (ends_in_if body)) (fits_statement body) (fits_statement otherwise)
          (depth condition)
          (statement_depth body) (statement_depth otherwise) below

      closes : (tree : Both ExpressionTree (Both StatementTree (Option StatementTree))) (next : Option Text) →
          closes_statement (if_of tree) next ≡ true → (guarded_shape below if_shape).closes tree next ≡ true
      closes (both condition (both body None)) next e = and_both (ends_statement next) (not (else_next next)) e e
      closes (both condition (both body (Some otherwise))) next e = e

      stops : (tree : Both ExpressionTree (Both StatementTree (Option StatementTree))) (next : Option Text) →
          (guarded_shape below if_shape).stops tree next ≡ true → closes_statement (if_of tree) next ≡ true
      stops (both condition (both body None)) next e = e
      stops (both condition (both body (Some otherwise))) next e = e

  -- while, repeat, wait

  pub loop_phrase : nat_le 1 below ≡ true → Phrase (guard_then below read) ends_statement (guarded_shape below S)
  loop_phrase level = guarded_phrase below level p (inner_example level)

  pub loop_example : nat_le 1 below ≡ true → Example (guarded_shape below S)
  loop_example level = guarded_example below level (inner_example level)

  pub loop_makes : (kind : Guard) → Makes (guarded_of kind) (guarded_shape below S) Out (guard_word kind ∷ [])
  loop_makes kind = record { spelled = spelled kind; valid = valid kind; closes = closes kind; stops = stops kind }
    where
      spelled : (kind : Guard) (tree : Both ExpressionTree StatementTree) →
          spell_statement (guarded_of kind tree) ≡ guard_word kind ∷ (guarded_shape below S).spell tree
      spelled guard.While (both tree body) = ap (λ ws. codes "while" ∷ ws) (behind_condition tree (spell_statement body))
      spelled guard.Repeat (both tree body) = ap (λ ws. codes "repeat" ∷ ws) (behind_condition tree (spell_statement body))
      spelled guard.Wait (both tree body) = ap (λ ws. codes "wait" ∷ ws) (behind_condition tree (spell_statement body))

      valid : (kind : Guard) (tree : Both ExpressionTree StatementTree) → Out.valid (guarded_of kind tree)
          ≡ (guarded_shape below S).valid tree
      valid guard.While (both tree body) = two_valid (fits_expression tree) (fits_statement body) (depth tree)
          (statement_depth body) below
      valid guard.Repeat (both tree body) = two_valid (fits_expression tree) (fits_statement body) (depth tree)
          (statement_depth body) below
      valid guard.Wait (both tree body) = two_valid (fits_expression tree) (fits_statement body) (depth tree)
          (statement_depth body) below

      closes : (kind : Guard) (tree : Both ExpressionTree StatementTree) (next : Option Text) →
          closes_statement (guarded_of kind tree) next ≡ true → (guarded_shape below S).closes tree next ≡ true
      closes guard.While (both tree body) next e = e
      closes guard.Repeat (both tree body) next e = e
      closes guard.Wait (both tree body) next e = e

      stops : (kind : Guard) (tree : Both ExpressionTree StatementTree) (next : Option Text) →
          (guarded_shape below S).stops tree next ≡ true → closes_statement (guarded_of kind tree) next ≡ true
      stops guard.While (both tree body) next e = e
      stops guard.Repeat (both tree body) next e = e
      stops guard.Wait (both tree body) next e = e

  -- forever

  pub forever_makes : Makes forever S Out (codes "forever" ∷ [])
  forever_makes = record {
    spelled = λ tree. refl;
    valid = λ tree. ap (λ b. fits_statement tree && b) (one_up (statement_depth tree) below);
    closes = λ tree next e. e;
    stops = λ tree next e. e;
  }

  -- for

  abbrev Setting : Shape (Both TargetTree ExpressionTree)
  Setting = paired_shape (target_shape below) (past_shape (codes "=") (value_shape below))

  abbrev pub for_shape : Shape For
  for_shape =
      past_shape (codes "(")
      (paired_shape Setting (past_shape (codes ";") (paired_shape (value_shape below) (past_shape (codes ";")
      (paired_shape Setting (past_shape (codes ")") S))))))

  setting_phrase : nat_le 1 below ≡ true → Phrase (setting below) (ends 0) Setting
  setting_phrase level = before_phrase (codes "=") (target_phrase below) (value_phrase below) (value_example below level) refl

  setting_example : nat_le 1 below ≡ true → Example Setting
  setting_example level = paired_example (target_example below level) (past_example (codes "=") (value_example below level))

  body_example : nat_le 1 below ≡ true → Example (paired_shape Setting (past_shape (codes ")") S))
  body_example level = paired_example (setting_example level) (past_example (codes ")") (inner_example level))

  test_example : nat_le 1 below ≡ true →
      Example (paired_shape (value_shape below) (past_shape (codes ";") (paired_shape Setting (past_shape (codes ")") S))))
  test_example level = paired_example (value_example below level) (past_example (codes ";") (body_example level))

  pub for_example : nat_le 1 below ≡ true → Example for_shape
  for_example level = past_example
      (codes "(") (paired_example (setting_example level) (past_example (codes ";") (test_example level)))

  pub for_phrase : nat_le 1 below ≡ true → Phrase (for_parts below read) ends_statement for_shape
  unfolding binary_of
  for_phrase level =
      past_phrase (codes "(")
      (before_phrase (codes ";") (setting_phrase level)
      (before_phrase (codes ";") (value_phrase below)
      (before_phrase (codes ")") (setting_phrase level) p (inner_example level) refl)
      (body_example level) refl)
      (test_example level) refl)
      (paired_example (setting_example level) (past_example (codes ";") (test_example level)))

  pub for_makes : Makes for_of for_shape Out (codes "for" ∷ [])
  for_makes = record { spelled = spelled; valid = valid; closes = closes; stops = stops }
    where
      spelled : (tree : For) → spell_statement (for_of tree) ≡ codes "for" ∷ for_shape.spell tree
      spelled (both (both tree right) (both condition (both (both next next_right) body))) = refl

      valid : (tree : For) → Out.valid (for_of tree) ≡ for_shape.valid tree
      valid (both (both tree right) (both condition (both (both next next_right) body))) =
          for_valid (fits_target tree) (fits_expression right) (fits_expression condition) (fits_target next)
          (fits_expression next_right)
          (fits_statement body) (target_depth tree) (depth right) (depth condition) (target_depth next) (depth next_right)
          (statement_depth body) below

      closes : (tree : For) (next : Option Text) → closes_statement (for_of tree) next ≡ true → for_shape.closes tree next ≡ true
      closes (both (both tree right) (both condition (both (both again next_right) body))) next e = e

      stops : (tree : For) (next : Option Text) → for_shape.stops tree next ≡ true → closes_statement (for_of tree) next ≡ true
      stops (both (both tree right) (both condition (both (both again next_right) body))) next e = e

  -- # and @

  pub delayed_phrase : nat_le 1 below ≡ true →
      Phrase (pair (amount below) read) ends_statement (paired_shape (amount_shape below) S)
  delayed_phrase level = free_phrase (amount_phrase below level) p (inner_example level)

  pub delayed_example : nat_le 1 below ≡ true → Example (paired_shape (amount_shape below) S)
  delayed_example level = paired_example (amount_example below level) (inner_example level)

  pub delayed_makes : Makes delayed_of (paired_shape (amount_shape below) S) Out (codes "#" ∷ [])
  delayed_makes = record { spelled = spelled; valid = valid; closes = closes; stops = stops }
    where
      spelled : (tree : Both DelayTree StatementTree) →
          spell_statement (delayed_of tree) ≡ codes "#" ∷ (paired_shape (amount_shape below) S).spell tree
      spelled (both wait body) = ap (λ ws. ws ++ spell_statement body) (amount_behind wait)

      valid : (tree : Both DelayTree StatementTree) → Out.valid (delayed_of tree)
          ≡ (paired_shape (amount_shape below) S).valid tree
      valid (both wait body) = two_valid (fits_delay wait) (fits_statement body) (delay_depth wait) (statement_depth body) below

      closes : (tree : Both DelayTree StatementTree) (next : Option Text) → closes_statement (delayed_of tree) next ≡ true →
          (paired_shape (amount_shape below) S).closes tree next ≡ true
      closes (both wait body) next e = e

      stops : (tree : Both DelayTree StatementTree) (next : Option Text) →
          (paired_shape (amount_shape below) S).stops tree next ≡ true →
          closes_statement (delayed_of tree) next ≡ true
      stops (both wait body) next e = e

  pub event_phrase : nat_le 1 below ≡ true → Phrase (pair control read) ends_statement (paired_shape event_shape S)
  event_phrase level = free_phrase control_phrase p (inner_example level)

  pub event_example : nat_le 1 below ≡ true → Example (paired_shape event_shape S)
  event_example level = paired_example any_event (inner_example level)
    where
      any_event : Example event_shape
      any_event = record { tree = by_any; valid = refl }

  pub event_makes : nat_le 1 below ≡ true → Makes event_body_of (paired_shape event_shape S) Out (codes "@" ∷ [])
  event_makes level = record { spelled = spelled; valid = valid; closes = closes; stops = stops }
    where
      event_behind : (tree : EventTree) → spell_event tree ≡ codes "@" ∷ event_words tree
      event_behind (by_event letters) = refl
      event_behind by_any = refl
      event_behind by_any_enclosed = refl
      event_behind (by_terms tree more) = refl

      no_deeper : (n : ℕ) → nat_le 0 n ≡ true
      no_deeper n = grind (arith, nat_tests)

      shallow : (tree : EventTree) → nat_le (event_depth tree) below ≡ true
      shallow (by_event letters) = level
      shallow by_any = no_deeper below
      shallow by_any_enclosed = no_deeper below
      shallow (by_terms tree more) = level

      spelled : (tree : Both EventTree StatementTree) → spell_statement (event_body_of tree)
          ≡ codes "@" ∷ (paired_shape event_shape S).spell tree
      spelled (both kind body) = ap (λ ws. ws ++ spell_statement body) (event_behind kind)

      valid : (tree : Both EventTree StatementTree) → Out.valid (event_body_of tree) ≡ (paired_shape event_shape S).valid tree
      valid (both kind body) =
          two_valid (fits_event kind) (fits_statement body) (event_depth kind) (statement_depth body) below
          ∙ ap (λ b. (fits_event kind && b) && (fits_statement body && nat_le (statement_depth body) below)) (shallow kind)
          ∙ ap (λ b. b && (fits_statement body && nat_le (statement_depth body) below)) (and_true (fits_event kind))

      closes : (tree : Both EventTree StatementTree) (next : Option Text) → closes_statement (event_body_of tree) next ≡ true →
          (paired_shape event_shape S).closes tree next ≡ true
      closes (both kind body) next e = e

      stops : (tree : Both EventTree StatementTree) (next : Option Text) → (paired_shape event_shape S).stops tree next ≡ true →
          closes_statement (event_body_of tree) next ≡ true
      stops (both kind body) next e = e

  -- begin .. end

  abbrev not_end : Option Text → Bool
  not_end next = not (is_front (codes "end") next)

  abbrev colon_next : Option Text → Bool
  colon_next = is_front (codes ":")

  abbrev block_name_shape : Shape (Option Text)
  block_name_shape = maybe_shape colon_next always (past_shape (codes ":") (text_shape is_name))

  block_name_phrase : Phrase block_name (ends_maybe colon_next always) block_name_shape
  block_name_phrase =
      maybe_phrase colon_next (past_phrase (codes ":") named_phrase a_name) (λ letters v. zero-lt-suc _) (λ letters v rest. refl)

  abbrev ended_shape : Shape (Both (List StatementTree) (Unit {0}))
  ended_shape = paired_shape (many_shape not_end ends_statement S (λ list. S.valid)) (only_shape (codes "end"))

  abbrev pub block_shape : Shape Block
  block_shape = paired_shape block_name_shape ended_shape

  ended_example : Example ended_shape
  ended_example = record { tree = both [] tt; valid = refl }

  ended_worded : Worded ended_shape
  ended_worded (both list end) v = longer (flat_map spell_statement list)
    where
      longer : (words : List Text) → 0 < length (words ++ codes "end" ∷ [])
      longer [] = zero-lt-suc _
      longer (word ∷ words) = zero-lt-suc _

  ended_opens : Tested colon_next false S → Opens (ends_maybe colon_next always) ended_shape
  ended_opens no_colon (both [] end) v rest c = refl
  ended_opens no_colon (both (tree ∷ more) end) v rest c =
      let others = flat_map spell_statement more in
      ap (λ words. not (colon_next (front words)))
      (append_assoc (spell_statement tree ++ others) (codes "end" ∷ []) rest ∙ append_assoc (spell_statement tree) others (codes "end" ∷ rest))
      ∙ ap not (no_colon tree (and_left (S.valid tree) _ (and_left _ true v)) (others ++ codes "end" ∷ rest))

  ended_phrase : Worded S → Tested (is_front (codes "end")) false S → Tested else_next false S →
      Phrase (ended_statements read) always ended_shape
  ended_phrase some no_end no_else =
      before_phrase (codes "end")
      (many_phrase not_end (λ list. read) ends_statement S (λ list. S.valid) (λ list. p) (λ list tree v. some tree v)
      (λ list tree rest v. ap not (no_end tree v rest)) (λ list tree rest v. ap not (no_else tree v rest)))
      (nothing_phrase always) nothing_example refl

  pub block_phrase : Worded S → Tested (is_front (codes "end")) false S → Tested else_next false S → Tested colon_next false S →
      Phrase (block_parts read) always block_shape
  block_phrase some no_end no_else no_colon =
      next_phrase block_name_phrase (ended_phrase some no_end no_else) ended_example ended_worded (ended_opens no_colon)

  pub block_example : Example block_shape
  block_example = record { tree = both None (both [] tt); valid = refl }

  pub block_makes : Makes block_of block_shape Out (codes "begin" ∷ [])
  block_makes = record {
    spelled = spelled;
    valid = valid;
    closes = λ tree next e. closes tree next;
    stops = λ tree next e. stops tree next;
  }
    where
      all_spelled : (list : List StatementTree) → spell_statements (statements_in list) ≡ flat_map spell_statement list
      all_spelled [] = refl
      all_spelled (tree ∷ more) = ap (λ ws. spell_statement tree ++ ws) (all_spelled more)

      spelled : (tree : Block) → spell_statement (block_of tree) ≡ codes "begin" ∷ block_shape.spell tree
      spelled (both None (both list end)) = ap (λ ws. codes "begin" ∷ (ws ++ codes "end" ∷ [])) (all_spelled list)
      spelled (both (Some letters) (both list end)) =
          ap (λ ws. codes "begin" ∷ codes ":" ∷ letters ∷ (ws ++ codes "end" ∷ [])) (all_spelled list)

      named_first : (label : Option Text) → fits_block_name label ≡ block_name_shape.valid label
      named_first None = refl
      named_first (Some letters) = refl

      listed : (list : List StatementTree) →
          (fits_statements (statements_in list) && nat_le (1 + statements_depth (statements_in list)) (suc below))
          ≡ (allows_all (λ l. S.valid) [] list && true)
      listed list =
          ap (λ b. fits_statements (statements_in list) && b) (one_up (statements_depth (statements_in list)) below)
          ∙ all_within fits_statement statement_depth (λ l. fits_statements (statements_in l))
          (λ l. statements_depth (statements_in l)) refl refl
          (λ tree more. refl) (λ tree more. refl) below list
          ∙ sym (allows_each S.valid [] list)
          ∙ sym (and_true _)

      valid : (tree : Block) → Out.valid (block_of tree) ≡ block_shape.valid tree
      valid (both label (both list end)) =
          and_assoc (fits_block_name label) (fits_statements (statements_in list)) _
          ∙ (λ i. named_first label i && listed list i)

      closes : (tree : Block) (next : Option Text) → block_shape.closes tree next ≡ true
      closes (both label (both list end)) next = refl

      stops : (tree : Block) (next : Option Text) → closes_statement (block_of tree) next ≡ true
      stops (both label (both list end)) next = refl
