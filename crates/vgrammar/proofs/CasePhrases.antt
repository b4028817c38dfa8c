-- Cases and their branches, of which one at most is a default.
use Rattle.std.proofs.Common.{◌≡◌, ℕ, suc, ◌+◌, ◌<◌, Bool, true, false, ◌&&◌, ◌||◌, not, max, nat_le, if◌then◌else◌, List, [], ◌∷◌, ◌++◌, Option, None, Some, length, flat_map, refl, sym, ap, ◌∙◌, arith, subst, append_assoc, codes, zero-lt-suc}
use Rattle.std.specs.List.{list_all}
use Rattle.std.proofs.lemmas.Bool.Decides.{nat_tests}
use Rattle.basis.proofs.Bools.{and_left, and_right, and_both, and_false, and_assoc}
use Rattle.basis.proofs.Lists.{longer}
use Rattle.vwords.specs.Words.{Text, reserved_words}
use Rattle.vast.specs.Expressions.{ExpressionTree, ExpressionTrees, none, spell_expression, spell_parts, fits_expression, fits_parts, depth, greatest_depth}
use Rattle.vast.specs.Expressions.{first as first_part}
use Rattle.vast.specs.Statements.{StatementTree, empty, BranchTree, labelled, default, case_word, spell_statement, spell_branch, spell_branches, statement_depth, branch_depth, branches_depth, fits_statement, fits_branch, fits_branches, is_default, defaults}
use Rattle.vwords.specs.declared.cases.CaseKind.{CaseKind}
use Rattle.vexpr_parse.specs.declared.beginning.Beginning.TheVariants as start
use Rattle.vexpr_parse.specs.Readers.{got, Reader, front, is_front, past}
use Rattle.vexpr_parse.specs.Words.{beginning_of, binary_of, unary_of, ends}
use Rattle.vexpr_parse.specs.Reading.{trees_in}
use Rattle.vexpr_parse.specs.Lawful.{Ends}
use Rattle.vexpr_parse.proofs.ReaderRules.{passed_over, same_text, stop_got, parts_of}
use Rattle.vgrammar.specs.Parts.{Both, both, one_way, other_way, map_tree, pair, many, maybe, either}
use Rattle.vgrammar.specs.Statements.{value, List_of, comma_list, word_only, has_default, Branch, branch_of, default_branch, branch, branches_in, Case, case_parts_of, branches, case_parts, ends_statement}
use Rattle.vgrammar.proofs.Phrases.{Shape, Phrase, Example, Worded, Makes, From, AreLinked, always, of_these, made_phrase, past_shape, past_phrase, nothing_phrase, linked_shape, linked_phrase, paired_shape, before_phrase, paired_example, next_phrase}
use Rattle.vgrammar.proofs.PhraseChoices.{maybe_shape, maybe_phrase, either_shape, either_phrase, Tested, ends_many, allows_all, many_shape, many_phrase}
use Rattle.vgrammar.proofs.LevelFacts.{larger_two, two_up, and_true, pair_valid}
use Rattle.vgrammar.proofs.ValuePhrases.{value_shape, value_phrase, value_example, nothing_example, only_shape, only_phrase, only_example, comma_shape, comma_phrase, allows_each}
use Rattle.vgrammar.proofs.WordPhrases.{refused_first, value_refuses}
use Rattle.vgrammar.proofs.StatementShapes.{closes_statement, statement_shape, statement_closed, behind_condition, all_within, parts_spelled, parts_within}
use Rattle.vgrammar.proofs.StatementPhrases.{guarded_shape, guarded_phrase, guarded_example}

pub phrase_of_these : {A : Type 0} {read : Reader A} {ends : Ends} (s : Shape A) (valid : A → Bool) →
    ((tree : A) → valid tree ≡ s.valid tree) →
    Phrase read ends s → Phrase read ends (of_these s valid)
phrase_of_these s valid same p = record {
  lawful = p.lawful;
  sound = λ words tree left e. let g = p.sound words tree left e in
      record { whole = g.whole; valid = same tree ∙ g.valid; stopped = g.stopped };
  complete = λ tree rest v c. p.complete tree rest (sym (same tree) ∙ v) c;
  closed = p.closed;
}

-- A branch

abbrev pub closes_branch : BranchTree → Ends
closes_branch (labelled labels body) = closes_statement body
closes_branch (default colon body) = closes_statement body

abbrev pub branch_shape : ℕ → Shape BranchTree
branch_shape n = record {
  spell = spell_branch;
  valid = λ tree. fits_branch tree && nat_le (branch_depth tree) n;
  closes = closes_branch;
  stops = closes_branch;
}

-- a branch behind others
abbrev pub allow : ℕ → List BranchTree → BranchTree → Bool
allow n list tree = (fits_branch tree && nat_le (branch_depth tree) n) && not (is_default tree && has_default list)

branch_closed : (tree : BranchTree) (next : Option Text) → ends_statement next ≡ true → closes_branch tree next ≡ true
branch_closed (labelled labels body) next e = statement_closed body next e
branch_closed (default colon body) next e = statement_closed body next e

branch_worded : (tree : BranchTree) → 0 < length (spell_branch tree)
branch_worded (labelled labels body) = longer (spell_parts labels) (codes ":") (spell_statement body)
branch_worded (default true body) = zero-lt-suc _
branch_worded (default false body) = zero-lt-suc _

module _ (below : ℕ) (level : nat_le 1 below ≡ true) (read : Reader StatementTree)
    (p : Phrase read ends_statement (statement_shape below))
    (some : Worded (statement_shape below)) (no_colon : Tested (is_front (codes ":")) false (statement_shape below)) where
  abbrev S : Shape StatementTree
  S = statement_shape below

  abbrev Out : Shape StatementTree
  Out = statement_shape (suc below)

  abbrev colon_next : Option Text → Bool
  colon_next = is_front (codes ":")

  abbrev default_next : Option Text → Bool
  default_next = is_front (codes "default")

  abbrev Default : Shape (Both (Option (Unit {0})) StatementTree)
  Default = past_shape (codes "default") (paired_shape (maybe_shape colon_next always (only_shape (codes ":"))) S)

  abbrev Labelled : Shape (Both (List_of ExpressionTree) StatementTree)
  Labelled = paired_shape (comma_shape (ends 0) (value_shape below)) (past_shape (codes ":") S)

  a_statement : Example S
  a_statement = record { tree = empty; valid = level }

  new_default_phrase : Phrase
      (past (codes "default") (pair (maybe colon_next (word_only (codes ":"))) read)) ends_statement Default
  new_default_phrase =
      past_phrase (codes "default")
      (next_phrase (maybe_phrase colon_next (only_phrase (codes ":")) (λ tree v. zero-lt-suc _)
      (λ tree v rest. refl)) p a_statement some
      (λ tree v rest c. ap not (no_colon tree v rest)))
      (paired_example no_colons a_statement)
    where
      no_colons : Example (maybe_shape colon_next always (only_shape (codes ":")))
      no_colons = record { tree = None; valid = refl }

  default_phrase : (seen : Bool) →
      Phrase (default_branch read seen) ends_statement (of_these Default (λ tree. Default.valid tree && not seen))
  default_phrase false = phrase_of_these Default (λ tree. Default.valid tree && true)
      (λ tree. and_true (Default.valid tree)) new_default_phrase
  default_phrase true = record {
    lawful = λ words. record { before = []; whole = refl; near = λ other e. refl; more = λ e. absurd (below_zero 0 e) };
    sound = λ words tree left e. absurd (stop_got e);
    complete = λ tree rest v c. absurd (false_true (and_right (Default.valid tree) false v));
    closed = new_default_phrase.closed;
  }
    where
      below_zero : (n : ℕ) → n < n → ⊥
      below_zero n e = omega (arith, e)

      false_true : false ≡ true → ⊥
      false_true e = cc

  labelled_phrase : Phrase (pair (comma_list (value below)) (past (codes ":") read)) ends_statement Labelled
  unfolding binary_of
  labelled_phrase = before_phrase (codes ":")
      (comma_phrase (value_phrase below) (value_example below level) refl) p a_statement refl

  labelled_worded : Worded Labelled
  labelled_worded (both (both label more) body) v =
      longer (spell_expression label ++ flat_map (λ tree. codes "," ∷ spell_expression tree) more) (codes ":")
      (spell_statement body)

  -- a word that begins no expression begins no labels
  labels_refuse : (word : Text) → beginning_of word ≡ start.Other →
      (words : List Text) (tree : Both (List_of ExpressionTree) StatementTree)
      (left : List Text) → pair (comma_list (value below)) (past (codes ":") read) (word ∷ words) ≡ got tree left → ⊥
  labels_refuse word is words tree left e =
      let a = parts_of (comma_list (value below) (word ∷ words)) (λ t. map_tree (both t) (past (codes ":") read)) tree left e in
      let b = parts_of (value below (word ∷ words))
      (λ t. map_tree (both t) (many (is_front (codes ",")) (λ list. past (codes ",") (value below))))
      a.one a.between a.first in
      value_refuses below word is words b.one b.between b.first

  other_beginnings : (beginning_of (codes "default") ≡ start.Other) × (beginning_of (codes "endcase") ≡ start.Other)
      × (beginning_of (codes "else") ≡ start.Other)
  unfolding beginning_of unary_of reserved_words
  other_beginnings = (refl, refl, refl)

  abbrev Parts : List BranchTree → Shape Branch
  Parts list = either_shape (of_these Default (λ tree. Default.valid tree && not (has_default list))) Labelled

  parts_phrase : (list : List BranchTree) →
      Phrase (either default_next (default_branch read (has_default list))
      (pair (comma_list (value below)) (past (codes ":") read)))
      ends_statement (Parts list)
  parts_phrase list =
      either_phrase default_next (default_phrase (has_default list)) labelled_phrase (λ tree v. zero-lt-suc _) labelled_worded
      (λ tree v rest. refl)
      (refused_first default_next labelled_phrase labelled_worded refl
      (λ word words tree left is e. labels_refuse word
      (subst (λ w. beginning_of w ≡ start.Other) (same_text (codes "default") word is) other_beginnings.0) words tree left e))

  branch_makes : (list : List BranchTree) → Makes branch_of (Parts list) (of_these (branch_shape below) (allow below list)) []
  branch_makes list = record { spelled = spelled; valid = valid; closes = closes; stops = stops }
    where
      spelled : (tree : Branch) → spell_branch (branch_of tree) ≡ (Parts list).spell tree
      spelled (one_way (both None body)) = refl
      spelled (one_way (both (Some end) body)) = refl
      spelled (other_way (both (both label more) body)) =
          ap (λ ws. (spell_expression label ++ ws) ++ codes ":" ∷ spell_statement body) (parts_spelled more)

      labels_valid : (label : ExpressionTree) (more : List ExpressionTree) (body : StatementTree) →
          ((((true && fits_parts (first_part label (trees_in more))) && fits_statement body)
          && nat_le (max (greatest_depth (first_part label (trees_in more))) (statement_depth body)) below) && true)
          ≡ Labelled.valid (both (both label more) body)
      labels_valid label more body =
          and_true _
          ∙ ap (λ b. (fits_parts (trees_in (label ∷ more)) && fits_statement body) && b)
          (larger_two (greatest_depth (trees_in (label ∷ more))) (statement_depth body) below)
          ∙ pair_valid (fits_parts (trees_in (label ∷ more))) (fits_statement body)
          (nat_le (greatest_depth (trees_in (label ∷ more))) below) (nat_le (statement_depth body) below)
          ∙ ap (λ b. b && (fits_statement body && nat_le (statement_depth body) below))
          (parts_within below (label ∷ more)
          ∙ ap (λ b. (fits_expression label && nat_le (depth label) below) && b)
          (sym (allows_each (λ tree. fits_expression tree && nat_le (depth tree) below) [] more)))

      valid : (tree : Branch) → allow below list (branch_of tree) ≡ (Parts list).valid tree
      valid (one_way (both None body)) = refl
      valid (one_way (both (Some end) body)) = refl
      valid (other_way (both (both label more) body)) = labels_valid label more body

      closes : (tree : Branch) (next : Option Text) → closes_branch (branch_of tree) next ≡ true →
          (Parts list).closes tree next ≡ true
      closes (one_way (both None body)) next e = e
      closes (one_way (both (Some end) body)) next e = e
      closes (other_way (both (both label more) body)) next e = e

      stops : (tree : Branch) (next : Option Text) → (Parts list).stops tree next ≡ true → closes_branch (branch_of tree) next
          ≡ true
      stops (one_way (both None body)) next e = e
      stops (one_way (both (Some end) body)) next e = e
      stops (other_way (both (both label more) body)) next e = e

  list_of : ExpressionTrees → List ExpressionTree
  list_of none = []
  list_of (first_part tree more) = tree ∷ list_of more

  list_back : (trees : ExpressionTrees) → trees_in (list_of trees) ≡ trees
  unfolding list_of
  list_back none = refl
  list_back (first_part tree more) = ap (first_part tree) (list_back more)

  pub branch_phrase : (list : List BranchTree) →
      Phrase (branch below read list) ends_statement (of_these (branch_shape below) (allow below list))
  branch_phrase list =
      made_phrase branch_of (of_these (branch_shape below) (allow below list)) back (branch_makes list) branch_closed
      (parts_phrase list)
    where
      no_labels : (a b c : Bool) → (((false && a) && b) && c) ≡ true → ⊥
      no_labels a b c e = let no : false ≡ true = e in cc

      back : (tree : BranchTree) → allow below list tree ≡ true → From branch_of tree
      back (default true body) v = record { parts = one_way (both (Some tt) body); is = refl }
      back (default false body) v = record { parts = one_way (both None body); is = refl }
      back (labelled (first_part label more) body) v = record {
        parts = other_way (both (both label (list_of more)) body);
        is = ap (λ ts. labelled (first_part label ts) body) (list_back more);
      }
      back (labelled none body) v = absurd
          (no_labels (fits_parts none) (fits_statement body) (nat_le (branch_depth (labelled none body)) below)
          (and_left _ true v))

  -- a word that begins neither an expression nor a default begins no branch
  branch_refuses : (list : List BranchTree) (word : Text) → beginning_of word ≡ start.Other → default_next (Some word) ≡ false →
      (words : List Text) (tree : BranchTree) (left : List Text) → branch below read list (word ∷ words) ≡ got tree left → ⊥
  branch_refuses list word is other_word words tree left e =
      let a = parts_of (either default_next (default_branch read (has_default list))
      (pair (comma_list (value below)) (past (codes ":") read))
      (word ∷ words)) (λ t. got (branch_of t)) tree left e in
      let b = parts_of (pair (comma_list (value below)) (past (codes ":") read) (word ∷ words))
      (λ t. got (other_way t)) a.one a.between
      (sym (passed_over (default_next (Some word))
      (map_tree one_way (default_branch read (has_default list)) (word ∷ words)) _ other_word) ∙ a.first) in
      labels_refuse word is words b.one b.between b.first

  abbrev endcase_next : Option Text → Bool
  endcase_next = is_front (codes "endcase")

  abbrev not_endcase : Option Text → Bool
  not_endcase next = not (endcase_next next)

  no_endcase : (list : List BranchTree) → Tested endcase_next false (of_these (branch_shape below) (allow below list))
  no_endcase list = refused_first endcase_next (branch_phrase list) (λ tree v. branch_worded tree) refl
      (λ word words tree left is e. branch_refuses list word
      (subst (λ w. beginning_of w ≡ start.Other) (same_text (codes "endcase") word is) other_beginnings.1)
      (subst (λ w. default_next (Some w) ≡ false) (same_text (codes "endcase") word is) refl) words tree left e)

  no_else : (list : List BranchTree) → Tested (is_front (codes "else")) false (of_these (branch_shape below) (allow below list))
  no_else list = refused_first (is_front (codes "else")) (branch_phrase list) (λ tree v. branch_worded tree) refl
      (λ word words tree left is e. branch_refuses list word
      (subst (λ w. beginning_of w ≡ start.Other) (same_text (codes "else") word is) other_beginnings.2)
      (subst (λ w. default_next (Some w) ≡ false) (same_text (codes "else") word is) refl) words tree left e)

  -- one branch and more

  abbrev behind : BranchTree → List BranchTree → Bool
  behind one more = allows_all (λ list. allow below (one ∷ list)) [] more

  abbrev More : Shape (List BranchTree)
  More = many_shape not_endcase ends_statement (branch_shape below) (allow below)

  abbrev pub valid_branches : List_of BranchTree → Bool
  valid_branches (both one more) = allow below [] one && behind one more

  abbrev Branches : Shape (List_of BranchTree)
  Branches = linked_shape (of_these (branch_shape below) (allow below [])) More valid_branches

  branches_phrase : Phrase (branches below read) (ends_many not_endcase ends_statement) Branches
  branches_phrase =
      linked_phrase More behind (branch_phrase [])
      (λ one. many_phrase not_endcase (λ list. branch below read (one ∷ list)) ends_statement (branch_shape below)
      (λ list. allow below (one ∷ list)) (λ list. branch_phrase (one ∷ list)) (λ list tree v. branch_worded tree)
      (λ list tree rest v. ap not (no_endcase (one ∷ list) tree v rest))
      (λ list tree rest v. ap not (no_else (one ∷ list) tree v rest)))
      [] (λ one. refl) valid_branches (λ rest e. and_left (ends_statement (front rest)) _ e)
      (λ one more v none next e. and_left (ends_statement next) _ e)
      (λ one more rest v w f. and_both (allow below [] one) (behind one more) v w) split
    where
      ended : (one : BranchTree) (more : List BranchTree) → behind one more ≡ true → (rest : List Text) →
          ends_many not_endcase ends_statement (front rest) ≡ true →
          ends_statement (front (flat_map spell_branch more ++ rest)) ≡ true
      ended one [] v rest c = and_left (ends_statement (front rest)) _ c
      ended one (tree ∷ more) v rest c =
          ap (λ ws. ends_statement (front ws)) (append_assoc (spell_branch tree) (flat_map spell_branch more) rest)
          ∙ ap not (no_else (one ∷ []) tree (and_left (allow below (one ∷ []) tree) _ v) (flat_map spell_branch more ++ rest))

      split : (one : BranchTree) (more : List BranchTree) → valid_branches (both one more) ≡ true →
          AreLinked (of_these (branch_shape below) (allow below [])) (of_these More (behind one)) one more
      split one more v = record {
        first = and_left (allow below [] one) (behind one more) v;
        second = and_right (allow below [] one) (behind one more) v;
        meets = λ rest c. branch_closed one (front (flat_map spell_branch more ++ rest))
            (ended one more (and_right (allow below [] one) (behind one more) v) rest c);
      }

  abbrev a_default : BranchTree
  a_default = default false empty

  branches_example : Example Branches
  branches_example = record {
    tree = both a_default [];
    valid = and_both (allow below [] a_default) true
        (and_both _ true level refl) refl;
  }

  abbrev pub case_shape : Shape Case
  case_shape = guarded_shape below (paired_shape Branches (only_shape (codes "endcase")))

  pub case_phrase : Phrase (case_parts below read) always case_shape
  case_phrase =
      guarded_phrase below level (before_phrase (codes "endcase") branches_phrase (nothing_phrase always) nothing_example refl)
      (paired_example branches_example (only_example (codes "endcase")))

  pub case_example : Example case_shape
  case_example = guarded_example below level (paired_example branches_example (only_example (codes "endcase")))

  -- one default at most

  abbrev counted : Bool → ℕ
  counted seen = if seen then 1 else 0

  one_at_most : (d s : Bool) (k : ℕ) → (not (d && s) && nat_le (counted (s || d) + k) 1) ≡ nat_le (counted s + (counted d + k)) 1
  one_at_most false false k = ap (λ n. nat_le n 1) (same k)
    where
      same : (k : ℕ) → 0 + k ≡ 0 + (0 + k)
      same k = omega arith
  one_at_most false true k = ap (λ n. nat_le n 1) (same k)
    where
      same : (k : ℕ) → 1 + k ≡ 1 + (0 + k)
      same k = omega arith
  one_at_most true false k = ap (λ n. nat_le n 1) (same k)
    where
      same : (k : ℕ) → 1 + k ≡ 0 + (1 + k)
      same k = omega arith
  one_at_most true true k = sym (too_many k)
    where
      too_many : (k : ℕ) → nat_le (1 + (1 + k)) 1 ≡ false
      too_many k = grind (arith, nat_tests)

  seen_behind : (so_far : List BranchTree) (tree : BranchTree) → has_default (so_far ++ tree ∷ [])
      ≡ (has_default so_far || is_default tree)
  seen_behind [] tree = or_none (is_default tree)
    where
      or_none : (b : Bool) → (b || false) ≡ b
      or_none true = refl
      or_none false = refl
  seen_behind (one ∷ more) tree = ap (λ b. is_default one || b) (seen_behind more tree)
      ∙ or_assoc (is_default one) (has_default more) (is_default tree)
    where
      or_assoc : (a b c : Bool) → (a || (b || c)) ≡ ((a || b) || c)
      or_assoc true b c = refl
      or_assoc false b c = refl

  abbrev Fits : BranchTree → Bool
  Fits tree = fits_branch tree && nat_le (branch_depth tree) below

  abbrev few : Bool → List BranchTree → Bool
  few seen list = nat_le (counted seen + defaults (branches_in list)) 1

  behind_valid : (one : BranchTree) (so_far more : List BranchTree) → allows_all (λ list. allow below (one ∷ list)) so_far more
      ≡ (list_all (λ tree. fits_branch tree && nat_le (branch_depth tree) below) more && few (has_default (one ∷ so_far)) more)
  behind_valid one so_far [] = none_more (has_default (one ∷ so_far))
    where
      none_more : (s : Bool) → true ≡ nat_le (counted s + 0) 1
      none_more true = refl
      none_more false = refl
  behind_valid one so_far (tree ∷ more) =
      let seen = has_default (one ∷ so_far) in
      ap (λ b. (Fits tree && not (is_default tree && seen)) && b)
      (behind_valid one (so_far ++ tree ∷ []) more
      ∙ ap (λ s. list_all (λ t. fits_branch t && nat_le (branch_depth t) below) more && few s more)
      (seen_behind (one ∷ so_far) tree))
      ∙ pair_valid (Fits tree) (not (is_default tree && seen))
      (list_all (λ t. fits_branch t && nat_le (branch_depth t) below) more)
      (few (seen || is_default tree) more)
      ∙ ap (λ b. (Fits tree && list_all (λ t. fits_branch t && nat_le (branch_depth t) below) more) && b)
      (one_at_most (is_default tree) seen (defaults (branches_in more)))

  pub case_makes : (kind : CaseKind) → Makes (case_parts_of kind) case_shape Out (case_word kind ∷ [])
  case_makes kind = record {
    spelled = spelled;
    valid = valid;
    closes = λ tree next e. closes tree next;
    stops = λ tree next e. stops tree next;
  }
    where
      all_spelled : (list : List BranchTree) → spell_branches (branches_in list) ≡ flat_map spell_branch list
      all_spelled [] = refl
      all_spelled (tree ∷ more) = ap (λ ws. spell_branch tree ++ ws) (all_spelled more)

      spelled : (tree : Case) → spell_statement (case_parts_of kind tree) ≡ case_word kind ∷ case_shape.spell tree
      spelled (both tree (both (both one more) end)) =
          ap (λ ws. case_word kind ∷ ws)
          (behind_condition tree ((spell_branch one ++ spell_branches (branches_in more)) ++ codes "endcase" ∷ [])
          ∙ ap (λ ws. codes "(" ∷ (spell_expression tree ++ codes ")" ∷ ((spell_branch one ++ ws) ++ codes "endcase" ∷ [])))
          (all_spelled more))

      regroup : (f d g p q : Bool) → ((((f && true) && d) && g) && (p && q)) ≡ ((f && p) && ((g && q) && d))
      regroup false d g p q = refl
      regroup true false g p q = sym (ap (λ b. p && b) (and_false (g && q)) ∙ and_false p)
      regroup true true g false q = and_false g
      regroup true true g true q = sym (and_true (g && q))

      or_none : (b : Bool) → (b || false) ≡ b
      or_none true = refl
      or_none false = refl

      valid : (tree : Case) → Out.valid (case_parts_of kind tree) ≡ case_shape.valid tree
      valid (both tree (both (both one more) end)) =
          let most = defaults (branches_in (one ∷ more)) in
          let all = list_all (λ t. fits_branch t && nat_le (branch_depth t) below) more in
          ap (λ b. (((fits_expression tree && true) && nat_le most 1) && fits_branches (branches_in (one ∷ more))) && b)
          (two_up (depth tree) (branches_depth (branches_in (one ∷ more))) below)
          ∙ regroup (fits_expression tree) (nat_le most 1) (fits_branches (branches_in (one ∷ more))) (nat_le (depth tree) below)
          (nat_le (branches_depth (branches_in (one ∷ more))) below)
          ∙ ap (λ b. (fits_expression tree && nat_le (depth tree) below) && (b && nat_le most 1))
          (all_within fits_branch branch_depth (λ l. fits_branches (branches_in l))
          (λ l. branches_depth (branches_in l)) refl refl
          (λ t ts. refl) (λ t ts. refl) below (one ∷ more))
          ∙ ap (λ b. (fits_expression tree && nat_le (depth tree) below) && b)
          (and_assoc (Fits one) all (nat_le most 1)
          ∙ ap (λ s. Fits one && (all && nat_le (counted s + defaults (branches_in more)) 1)) (sym (or_none (is_default one)))
          ∙ ap (λ b. Fits one && b) (sym (behind_valid one [] more))
          ∙ ap (λ b. b && behind one more) (sym (ap (λ b. Fits one && not b) (and_false (is_default one)) ∙ and_true (Fits one)))
          ∙ sym (and_true (allow below [] one && behind one more)))

      closes : (tree : Case) (next : Option Text) → case_shape.closes tree next ≡ true
      closes (both tree (both list end)) next = refl

      stops : (tree : Case) (next : Option Text) → closes_statement (case_parts_of kind tree) next ≡ true
      stops (both tree (both (both one more) end)) next = refl
