-- What the code that reads a case goes on from.
use Rattle.std.specs.Str.{bytes_eq}
use Rattle.std.proofs.Common.{◌≡◌, ℕ, zero, suc, ◌<◌, arith, length, Bool, true, false, ◌||◌, Option, Some, None, not, if◌then◌else◌, codes, Result, subst, List, [], ◌∷◌, ◌++◌, map, Box, Vec, Global, refl, sym, ap, ◌∙◌}
use Rattle.std.proofs.lemmas.List.{map-append}
use Rattle.vwords.specs.Words.{Text, reserved_words}
use Rattle.vast.specs.Expressions.{ExpressionTree, spell_parts}
use Rattle.vast.specs.ExpressionTrees.{tree_of, boxed_tree}
use Rattle.vast.specs.Statements.{StatementTree, BranchTree, labelled, default, is_default, first_branch, spell_branch, spell_statement, case_of}
use Rattle.vast.specs.StatementTrees.{statement_tree, branch_tree, branch_trees}
use Rattle.vast.specs.declared.expression.Expression.{Expression}
use Rattle.vast.specs.declared.statement.Branch.{Branch as BranchWords, Labelled}
use Rattle.vwords.specs.declared.cases.CaseKind.{CaseKind}
use Rattle.vast.specs.declared.statement.Statement.{Statement, Case as CaseWords}
use Rattle.vast.proofs.WholeTreeLemmas.{tree_of_case}
use Rattle.basis.specs.declared.memory.OrMemory.{OrMemory}
use Rattle.vexpr_parse.specs.declared.stop.Stop.{Stop}
use Rattle.vexpr_parse.specs.declared.stop.Stop.TheVariants.{NoTree}
use Rattle.vexpr_parse.specs.Readers.{Answer, Reader, got, stop, and_then, past, follow, goes, refused, front, is_front, rounds}
use Rattle.vexpr_parse.specs.Reading.{trees_in}
use Rattle.vexpr_parse.proofs.ReaderRules.{Eats, same_text, got_tree, stop_got}
use Rattle.vexpr_parse.proofs.Turning.{trees_same}
use Rattle.vgrammar.specs.Parts.{Both, both, one_way, other_way, map_tree, pair, many, maybe, one_behind}
use Rattle.vgrammar.specs.Starts.{begins_target, start_of}
use Rattle.vgrammar.specs.Statements.{statement, begins_statement, value, List_of, comma_list, word_only, has_default, branch_of, branches, branches_in, default_branch, case_parts_of}
use Rattle.vgrammar.proofs.Phrases.{of_these, sound_eats}
use Rattle.vgrammar.proofs.PhraseChoices.{Tested}
use Rattle.vgrammar.proofs.ManyTurns.{goes_on_first, one_more, stopped_at, no_more, past_eats_too, goes_on}
use Rattle.vgrammar.proofs.ValuePhrases.{value_shape, value_phrase, value_worded}
use Rattle.vgrammar.proofs.WordPhrases.{refused_first}
use Rattle.vgrammar.proofs.StatementShapes.{statement_shape, statement_worded}
use Rattle.vgrammar.proofs.StatementLevels.{statement_phrase, statement_refuses}
use Rattle.vgrammar.proofs.CasePhrases.{branch_shape, allow, branch_phrase}
use Rattle.vstatement_parse.specs.Gives.{Answered}
use Rattle.vstatement_parse.proofs.StatementTurns.{twice, level_of}
use Rattle.vstatement_parse.specs.Cases.{labels_within, labelled_at, default_at, branch_at, later_branch, not_endcase, branches_from, later_branches, case_behind, case_inner, case_whole, case_at}

-- labels

pub label_eats : (below : ℕ) → Eats (past (codes ",") (value below))
label_eats below =
    past_eats_too (codes ",") (value below) (sound_eats (value below) (value_shape below) (value_phrase below).sound (value_worded below))

pub labelled_got : (text : List Text) (below : ℕ) (labels : Vec Expression Global) (body : Statement) (words between left : List Text) →
    labels_within below words ≡ got (map (tree_of text) labels.items) between → statement below between ≡ got (statement_tree text body) left →
    labelled_at below words ≡ got (branch_tree text (Labelled labels body)) left
labelled_got text below labels body words between left e f =
    ap (λ a. and_then a (λ all. map_tree (labelled (trees_in all)) (statement below))) e
    ∙ ap (λ a. and_then a (λ tree. got (labelled (trees_in (map (tree_of text) labels.items)) tree))) f
    ∙ ap (λ ts. got (labelled ts (statement_tree text body)) left) (trees_same text labels.items)

-- labels and their colon, and then the statement: the colon with the one, or with the other
labelled_is : (below : ℕ) (words : List Text) →
    map_tree (λ parts. branch_of (other_way parts)) (pair (comma_list (value below)) (past (codes ":") (statement below))) words
    ≡ labelled_at below words
labelled_is below words = by_first (value below words)
  where
    by_test : (one : ExpressionTree) (list : List ExpressionTree) (word : Text) (words : List Text) (b : Bool) →
        and_then (and_then (follow (if b then goes (statement below) else refused) word words) (λ body. got (both (both one list) body)))
        (λ parts. got (branch_of (other_way parts)))
        ≡ and_then (follow (if b then goes (got (one ∷ list)) else refused) word words) (λ all. map_tree (labelled (trees_in all)) (statement below))
    by_test one list word words true = twice (both (both one list)) (λ parts. branch_of (other_way parts)) (statement below words)
    by_test one list word words false = refl

    by_colon : (one : ExpressionTree) (list : List ExpressionTree) (words : List Text) →
        and_then (and_then (past (codes ":") (statement below) words) (λ body. got (both (both one list) body)))
        (λ parts. got (branch_of (other_way parts)))
        ≡ and_then (past (codes ":") (got (one ∷ list)) words) (λ all. map_tree (labelled (trees_in all)) (statement below))
    by_colon one list [] = refl
    by_colon one list (word ∷ words) = by_test one list word words (bytes_eq (codes ":") word)

    by_more : (one : ExpressionTree) (a : Answer (List ExpressionTree)) →
        and_then (and_then (and_then a (λ list. got (both one list))) (λ labels. map_tree (both labels) (past (codes ":") (statement below))))
        (λ parts. got (branch_of (other_way parts)))
        ≡ and_then (and_then (and_then a (λ list. got (one ∷ list))) (λ all. past (codes ":") (got all)))
        (λ all. map_tree (labelled (trees_in all)) (statement below))
    by_more one (got list left) = by_colon one list left
    by_more one (stop why left) = refl

    by_first : (a : Answer ExpressionTree) →
        and_then (and_then (and_then a (λ one. map_tree (both one) (many (is_front (codes ",")) (λ list. past (codes ",") (value below)))))
        (λ labels. map_tree (both labels) (past (codes ":") (statement below)))) (λ parts. got (branch_of (other_way parts)))
        ≡ and_then (and_then a (λ one left. and_then (goes_on (is_front (codes ",")) (λ list. past (codes ",") (value below)) (one ∷ []) left)
        (λ all. past (codes ":") (got all)))) (λ all. map_tree (labelled (trees_in all)) (statement below))
    by_first (got one left) =
        by_more one (many (is_front (codes ",")) (λ list. past (codes ",") (value below)) left)
        ∙ ap (λ a. and_then (and_then a (λ all. past (codes ":") (got all))) (λ all. map_tree (labelled (trees_in all)) (statement below)))
        (sym (goes_on_first (is_front (codes ",")) (past (codes ",") (value below)) one [] left))
    by_first (stop why left) = refl

-- branches

module _ (below : ℕ) (words : List Text) where
  abbrev by_default : Bool → Bool → Answer BranchTree
  by_default here seen =
      and_then (if here then map_tree one_way (default_branch (statement below) seen) words
      else map_tree other_way (pair (comma_list (value below)) (past (codes ":") (statement below))) words) (λ parts. got (branch_of parts))

  default_is : (seen : Bool) → is_front (codes "default") (front words) ≡ true → seen ≡ false →
      later_branch below seen words ≡ default_at below words
  default_is seen here new =
      ap (λ b. by_default b seen) here ∙ ap (λ s. by_default true s) new
      ∙ twice one_way branch_of (past (codes "default") (pair (maybe (is_front (codes ":")) (word_only (codes ":"))) (statement below)) words)

  no_default : (seen : Bool) → is_front (codes "default") (front words) ≡ false → later_branch below seen words ≡ labelled_at below words
  no_default seen here =
      ap (λ b. by_default b seen) here
      ∙ twice other_way branch_of (pair (comma_list (value below)) (past (codes ":") (statement below)) words)
      ∙ labelled_is below words

  pub second_default : (here seen : Bool) → here ≡ is_front (codes "default") (front words) → here ≡ true →
      seen ≡ true → later_branch below seen words ≡ stop NoTree words
  second_default here seen is met old = ap (λ b. by_default b seen) (sym is ∙ met) ∙ ap (λ s. by_default true s) old

  pub gives_default : (text : List Text) (left : List Text) (result : Result BranchWords (OrMemory Stop)) (here seen : Bool) →
      here ≡ is_front (codes "default") (front words) → here ≡ true → seen ≡ false →
      Answered (branch_tree text) (default_at below words) left result → Answered (branch_tree text) (later_branch below seen words) left result
  gives_default text left result here seen is met new given =
      subst (λ a. Answered (branch_tree text) a left result) (sym (default_is seen (sym is ∙ met) new)) given

  pub gives_labelled : (text : List Text) (left : List Text) (result : Result BranchWords (OrMemory Stop)) (here seen : Bool) →
      here ≡ is_front (codes "default") (front words) → here ≡ false →
      Answered (branch_tree text) (labelled_at below words) left result → Answered (branch_tree text) (later_branch below seen words) left result
  gives_labelled text left result here seen is none given =
      subst (λ a. Answered (branch_tree text) a left result) (sym (no_default seen (sym is ∙ none))) given

  -- a branch is a default where the word stands first
  by_parts : (here seen : Bool) (tree : BranchTree) (left : List Text) → by_default here seen ≡ got tree left → is_default tree ≡ here
  by_parts true seen tree left e = of_default (default_branch (statement below) seen words) e
    where
      of_default : (a : Answer (Both (Option (Unit {0})) StatementTree)) →
          and_then (and_then a (λ parts. got (one_way parts))) (λ parts. got (branch_of parts)) ≡ got tree left → is_default tree ≡ true
      of_default (got (both None body) after) e = sym (ap is_default (got_tree e))
      of_default (got (both (Some end) body) after) e = sym (ap is_default (got_tree e))
      of_default (stop why after) e = absurd (stop_got e)
  by_parts false seen tree left e = of_labels (pair (comma_list (value below)) (past (codes ":") (statement below)) words) e
    where
      of_labels : (a : Answer (Both (List_of ExpressionTree) StatementTree)) →
          and_then (and_then a (λ parts. got (other_way parts))) (λ parts. got (branch_of parts)) ≡ got tree left → is_default tree ≡ false
      of_labels (got (both (both label more) body) after) e = sym (ap is_default (got_tree e))
      of_labels (stop why after) e = absurd (stop_got e)

  pub default_seen : (seen here : Bool) (tree : BranchTree) (left : List Text) → here ≡ is_front (codes "default") (front words) →
      later_branch below seen words ≡ got tree left → here ≡ is_default tree
  default_seen seen here tree left is e = is ∙ sym (by_parts (is_front (codes "default") (front words)) seen tree left e)

  pub first_seen : (here : Bool) (tree : BranchTree) (left : List Text) → here ≡ is_front (codes "default") (front words) →
      later_branch below false words ≡ got tree left → here ≡ has_default (tree ∷ [])
  first_seen here tree left is e = default_seen false here tree left is e ∙ or_none (is_default tree)
    where
      or_none : (b : Bool) → b ≡ (b || false)
      or_none true = refl
      or_none false = refl

seen_behind : (so_far : List BranchTree) (tree : BranchTree) → has_default (so_far ++ tree ∷ []) ≡ (has_default so_far || is_default tree)
seen_behind [] tree = or_none (is_default tree)
  where
    or_none : (b : Bool) → (b || false) ≡ b
    or_none true = refl
    or_none false = refl
seen_behind (one ∷ more) tree = ap (λ b. is_default one || b) (seen_behind more tree)
    ∙ or_assoc (is_default one) (has_default more) (is_default tree)
  where
    or_assoc : (a b c : Bool) → (a || (b || c)) ≡ ((a || b) || c)
    or_assoc true b c = refl
    or_assoc false b c = refl

-- the loop over branches

no_colon_word : begins_statement (codes ":") ≡ false
unfolding begins_target start_of reserved_words
no_colon_word = refl

no_colon : (below : ℕ) → Tested (is_front (codes ":")) false (statement_shape below)
no_colon below =
    refused_first (is_front (codes ":")) (statement_phrase below) (λ tree v. statement_worded tree) refl
    (λ word words tree left is e. statement_refuses below word
    (subst (λ w. begins_statement w ≡ false) (same_text (codes ":") word is) no_colon_word) words tree left e)

branch_worded : (tree : BranchTree) → 0 < length (spell_branch tree)
branch_worded (labelled labels body) = longer (spell_parts labels) (codes ":") (spell_statement body)
  where
    longer : (words : List Text) (word : Text) (more : List Text) → 0 < length (words ++ word ∷ more)
    longer [] word more = omega arith
    longer (one ∷ words) word more = omega arith
branch_worded (default true body) = omega arith
branch_worded (default false body) = omega arith

pub branch_eats : (below : ℕ) → 0 < below → (list : List BranchTree) → Eats (branch_at below list)
branch_eats below some list =
    sound_eats (branch_at below list) (of_these (branch_shape below) (allow below list))
    (branch_phrase below (level_of below some) (statement below) (statement_phrase below) (λ tree v. statement_worded tree)
    (no_colon below) list).sound
    (λ tree v. branch_worded tree)

-- the branches so far, and those that are read of the words that are left, are all; and whether a default is among them
pub record IsSoFar (text : List Text) (below : ℕ) (items : List BranchWords) (seen : Bool) (words : List Text) (all : Answer (List BranchTree)) : Type 0 where
  pub branches : branches_from below (map (branch_tree text) items) words ≡ all
  pub seen_is : seen ≡ has_default (map (branch_tree text) items)

pub so_far_first : (text : List Text) (below : ℕ) (one : BranchWords) (items : List BranchWords) (seen : Bool) (words : List Text) →
    items ≡ one ∷ [] → seen ≡ has_default (branch_tree text one ∷ []) → IsSoFar text below items seen words (later_branches below (branch_tree text one) words)
so_far_first text below one items seen words is e = record {
  branches = ap (λ ts. branches_from below (map (branch_tree text) ts) words) is;
  seen_is = e ∙ ap (λ ts. has_default (map (branch_tree text) ts)) (sym is);
}

pub so_far_more : (text : List Text) (below : ℕ) → 0 < below → (words : List Text) → not_endcase (front words) ≡ true →
    (items after : List BranchWords) (one : BranchWords) (left : List Text) (all : Answer (List BranchTree)) (seen here both_seen : Bool) →
    after ≡ items ++ one ∷ [] → here ≡ is_front (codes "default") (front words) → both_seen ≡ (seen || here) →
    later_branch below seen words ≡ got (branch_tree text one) left → IsSoFar text below items seen words all →
    IsSoFar text below after both_seen left all
so_far_more text below some words here items after one left all seen this both_seen same is or e before = record {
  branches = ap (λ ts. branches_from below ts left) trees
      ∙ sym (one_more not_endcase (branch_at below) (branch_eats below some) (map (branch_tree text) items) words (branch_tree text one) left here
      (ap (λ s. later_branch below s words) (sym before.seen_is) ∙ e))
      ∙ before.branches;
  seen_is = or ∙ ap (λ s. s || this) before.seen_is
      ∙ ap (λ b. has_default (map (branch_tree text) items) || b) (default_seen below words seen this (branch_tree text one) left is e)
      ∙ sym (seen_behind (map (branch_tree text) items) (branch_tree text one)) ∙ ap has_default (sym trees);
}
  where
    trees : map (branch_tree text) after ≡ map (branch_tree text) items ++ branch_tree text one ∷ []
    trees = ap (map (branch_tree text)) same ∙ map-append (branch_tree text) items (one ∷ [])

pub branch_fewer : (text : List Text) (below : ℕ) → 0 < below → (items : List BranchWords) (seen : Bool) (words : List Text) (all : Answer (List BranchTree)) →
    IsSoFar text below items seen words all → (tree : BranchTree) (left : List Text) → later_branch below seen words ≡ got tree left →
    length left < length words
branch_fewer text below some items seen words all before tree left e =
    branch_eats below some (map (branch_tree text) items) words tree left (ap (λ s. later_branch below s words) (sym before.seen_is) ∙ e)

pub so_far_stopped : (text : List Text) (below : ℕ) → 0 < below → (items : List BranchWords) (seen : Bool) (words : List Text) (all : Answer (List BranchTree)) →
    IsSoFar text below items seen words all → (ends : Bool) → ends ≡ is_front (codes "endcase") (front words) → ends ≡ false →
    (why : Stop) (left : List Text) → later_branch below seen words ≡ stop why left → all ≡ stop why left
so_far_stopped text below some items seen words all before ends is none why left e =
    sym before.branches
    ∙ stopped_at not_endcase (branch_at below) (branch_eats below some) (map (branch_tree text) items) words left why (ap not (sym is ∙ none))
    (ap (λ s. later_branch below s words) (sym before.seen_is) ∙ e)

pub so_far_ended : (text : List Text) (below : ℕ) → 0 < below → (items : List BranchWords) (seen : Bool) (words : List Text) (all : Answer (List BranchTree)) →
    IsSoFar text below items seen words all → (ends : Bool) → ends ≡ is_front (codes "endcase") (front words) → ends ≡ true →
    all ≡ got (map (branch_tree text) items) words
so_far_ended text below some items seen words all before ends is met =
    sym before.branches ∙ no_more not_endcase (branch_at below) (branch_eats below some) (map (branch_tree text) items) words (ap not (sym is ∙ met))

-- what is read behind the first branch, with it and without it

module _ (below : ℕ) (x : BranchTree) where
  abbrev with_first : Answer (List BranchTree) → Answer (List BranchTree)
  with_first a = and_then a (λ list. got (x ∷ list))

  abbrev behind : List BranchTree → Reader BranchTree
  behind list = branch_at below (x ∷ list)

  abbrev First : ℕ → Type 0
  First fuel = (list : List BranchTree) (words : List Text) →
      rounds (one_behind (branch_at below)) not_endcase fuel (x ∷ list) words
      ≡ with_first (rounds (one_behind behind) not_endcase fuel list words)

  by_answer : (fuel : ℕ) → First fuel → (list : List BranchTree) (a : Answer BranchTree) →
      and_then (and_then a (λ tree. got ((x ∷ list) ++ tree ∷ []))) (λ next left. rounds (one_behind (branch_at below)) not_endcase fuel next left)
      ≡ with_first (and_then (and_then a (λ tree. got (list ++ tree ∷ []))) (λ next left. rounds (one_behind behind) not_endcase fuel next left))
  by_answer fuel so list (got tree left) = so (list ++ tree ∷ []) left
  by_answer fuel so list (stop why left) = refl

  by_test : (fuel : ℕ) → First fuel → (list : List BranchTree) (words : List Text) (b : Bool) →
      (if b then and_then (one_behind (branch_at below) (x ∷ list) words) (λ next left. rounds (one_behind (branch_at below)) not_endcase fuel next left)
      else got (x ∷ list) words)
      ≡ with_first (if b then and_then (one_behind behind list words) (λ next left. rounds (one_behind behind) not_endcase fuel next left)
      else got list words)
  by_test fuel so list words true = by_answer fuel so list (behind list words)
  by_test fuel so list words false = refl

  rounds_first : (fuel : ℕ) → First fuel
  rounds_first zero list words = refl
  rounds_first (suc fuel) list words = by_test fuel (rounds_first fuel) list words (not_endcase (front words))

  first_too : (words : List Text) → later_branches below x words ≡ with_first (many not_endcase behind words)
  first_too words = rounds_first (suc (length words)) [] words

-- the whole case

made_past : {A B : Type 0} (make : A → B) (text : Text) (read : Reader A) (other : Reader B) →
    ((words : List Text) → map_tree make read words ≡ other words) → (words : List Text) →
    map_tree make (past text read) words ≡ past text other words
made_past make text read other same [] = refl
made_past make text read other same (word ∷ words) = by_test (bytes_eq text word)
  where
    by_test : (b : Bool) → and_then (follow (if b then goes read else refused) word words) (λ tree. got (make tree))
        ≡ follow (if b then goes other else refused) word words
    by_test true = same words
    by_test false = refl

module _ (below : ℕ) (kind : CaseKind) where
  abbrev Rest : Reader (Both (List_of BranchTree) (Unit {0}))
  Rest = pair (branches below (statement below)) (word_only (codes "endcase"))

  module _ (tree : ExpressionTree) where
    abbrev of_all : List BranchTree → StatementTree
    of_all all = case_of kind tree (branches_in all)

    by_word : (one : BranchTree) (more : List BranchTree) (word : Text) (words : List Text) (b : Bool) →
        and_then (and_then (follow (if b then goes (got tt) else refused) word words) (λ end. got (both (both one more) end)))
        (λ list. got (case_parts_of kind (both tree list)))
        ≡ and_then (follow (if b then goes (got (one ∷ more)) else refused) word words) (λ all. got (of_all all))
    by_word one more word words true = refl
    by_word one more word words false = refl

    by_end : (one : BranchTree) (more : List BranchTree) (words : List Text) →
        and_then (and_then (word_only (codes "endcase") words) (λ end. got (both (both one more) end)))
        (λ list. got (case_parts_of kind (both tree list)))
        ≡ and_then (past (codes "endcase") (got (one ∷ more)) words) (λ all. got (of_all all))
    by_end one more [] = refl
    by_end one more (word ∷ words) = by_word one more word words (bytes_eq (codes "endcase") word)

    by_more : (one : BranchTree) (a : Answer (List BranchTree)) →
        and_then (and_then (and_then a (λ more. got (both one more))) (λ list. map_tree (both list) (word_only (codes "endcase"))))
        (λ list. got (case_parts_of kind (both tree list)))
        ≡ and_then (and_then (and_then a (λ more. got (one ∷ more))) (λ all. past (codes "endcase") (got all))) (λ all. got (of_all all))
    by_more one (got more left) = by_end one more left
    by_more one (stop why left) = refl

    by_first : (a : Answer BranchTree) →
        and_then (and_then (and_then a (λ one. map_tree (both one) (many not_endcase (λ list. branch_at below (one ∷ list)))))
        (λ list. map_tree (both list) (word_only (codes "endcase")))) (λ list. got (case_parts_of kind (both tree list)))
        ≡ and_then (and_then a (λ one left. and_then (later_branches below one left) (λ all. past (codes "endcase") (got all))))
        (λ all. got (of_all all))
    by_first (got one left) =
        by_more one (many not_endcase (λ list. branch_at below (one ∷ list)) left)
        ∙ ap (λ a. and_then (and_then a (λ all. past (codes "endcase") (got all))) (λ all. got (of_all all))) (sym (first_too below one left))
    by_first (stop why left) = refl

    rest_is : (words : List Text) → map_tree (λ list. case_parts_of kind (both tree list)) Rest words ≡ case_behind below kind tree words
    rest_is words = by_first (branch_at below [] words)

    closed_is : (words : List Text) →
        and_then (and_then (past (codes ")") Rest words) (λ list. got (both tree list))) (λ parts. got (case_parts_of kind parts))
        ≡ past (codes ")") (case_behind below kind tree) words
    closed_is words =
        twice (both tree) (case_parts_of kind) (past (codes ")") Rest words)
        ∙ made_past (λ list. case_parts_of kind (both tree list)) (codes ")") Rest (case_behind below kind tree) rest_is words

  by_value : (a : Answer ExpressionTree) →
      and_then (and_then a (λ tree. map_tree (both tree) (past (codes ")") Rest))) (λ parts. got (case_parts_of kind parts))
      ≡ and_then a (λ tree. past (codes ")") (case_behind below kind tree))
  by_value (got tree left) = closed_is tree left
  by_value (stop why left) = refl

  inner_is : (words : List Text) → map_tree (case_parts_of kind) (pair (value below) (past (codes ")") Rest)) words ≡ case_inner below kind words
  inner_is words = by_value (value below words)

  case_is : (words : List Text) → case_at below kind words ≡ case_whole below kind words
  case_is words = made_past (case_parts_of kind) (codes "(") (pair (value below) (past (codes ")") Rest)) (case_inner below kind) inner_is words

  pub gives_case : (text : List Text) (words left : List Text) (result : Result Statement (OrMemory Stop)) →
      Answered (statement_tree text) (case_whole below kind words) left result → Answered (statement_tree text) (case_at below kind words) left result
  gives_case text words left result given = subst (λ a. Answered (statement_tree text) a left result) (sym (case_is words)) given

-- the statement that stands for it

branches_same : (text : List Text) (list : List BranchWords) → branches_in (map (branch_tree text) list) ≡ branch_trees text list
branches_same text [] = refl
branches_same text (one ∷ more) = ap (first_branch (branch_tree text one)) (branches_same text more)

pub case_made : (text : List Text) (at : ℕ) (kind : CaseKind) (value : Box Expression Global) (list : Vec BranchWords Global) →
    statement_tree text (CaseWords at kind value list) ≡ case_of kind (boxed_tree text value) (branches_in (map (branch_tree text) list.items))
case_made text at kind value list = tree_of_case text at kind value list ∙ ap (case_of kind (boxed_tree text value)) (sym (branches_same text list.items))
