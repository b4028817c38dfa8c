-- The words of lists, of concatenations, of blocks and of cases.
use Rattle.std.proofs.Common.{◌≡◌, ℕ, Bool, true, false, List, [], ◌∷◌, ◌++◌, codes, Result, OnOk, Vec, Box, Global, refl, sym, ap, ◌∙◌, Option}
use Rattle.vwords.specs.Words.{Text}
use Rattle.vast.specs.Expressions.{ExpressionTree, ExpressionTrees, first, spell_expression}
use Rattle.vast.specs.Statements.{TargetTree, TargetTrees, spell_target, spell_statement}
use Rattle.vast.specs.StatementTrees.{target_tree, target_trees, statement_tree, statement_trees, branch_trees}
use Rattle.vwords.specs.declared.cases.CaseKind.{CaseKind}
use Rattle.vast.specs.declared.statement.Branch.{Branch}
use Rattle.vast.specs.declared.statement.Target.{Target, Joined}
use Rattle.vast.specs.declared.statement.Statement.{Statement, Block, Case}
use Rattle.vast.proofs.WholeTreeLemmas.{tree_of_whole_block, tree_of_case}
use Rattle.vspell.proofs.StatementFitLemmas.{tree_of_joined}
use Rattle.basis.proofs.Results.{on_ok}
use Rattle.vast.specs.Statements as statements
use Rattle.vast.specs.ExpressionTrees.{tree_of, trees_of}
use Rattle.vspell.specs.Inner.{comma_words, parts_from, targets_from, listed_from, braces_words, doubled_words, joined_words, block_words, case_head_words, case_words}
use Rattle.vast.specs.declared.expression.Expression.{Expression, Concatenation, Replication}
use Rattle.vast.proofs.ExpressionLemmas.{tree_of_concatenation, tree_of_replication}
use Rattle.std.specs.Option.{option_map}
use Rattle.vast.specs.declared.token.Token.{Token}
use Rattle.vast.specs.TokenTexts.{token_text}

pub parts_first : (is_first : Bool) (one : ExpressionTree) (more : ExpressionTrees) →
    parts_from is_first (first one more) ≡ comma_words is_first ++ (spell_expression one ++ parts_from false more)
parts_first true one more = refl
parts_first false one more = refl

pub targets_first : (is_first : Bool) (one : TargetTree) (more : TargetTrees) →
    targets_from is_first (statements.first one more) ≡ comma_words is_first ++ (spell_target one ++ targets_from false more)
targets_first true one more = refl
targets_first false one more = refl

pub listed_first : {A : Type 0} (spell : A → List Text) (is_first : Bool) (one : A) (more : List A) →
    listed_from is_first spell (one ∷ more) ≡ comma_words is_first ++ (spell one ++ listed_from false spell more)
listed_first spell true one more = refl
listed_first spell false one more = refl

append_assoc : {A : Type 0} (a b c : List A) → (a ++ b) ++ c ≡ a ++ (b ++ c)
append_assoc [] b c = refl
append_assoc (x ∷ xs) b c = ap (λ l. x ∷ l) (append_assoc xs b c)

-- what was put in two steps, and in three
pub put_twice : (old middle new a b : List Text) → middle ≡ old ++ a → new ≡ middle ++ b → new ≡ old ++ (a ++ b)
put_twice old middle new a b one two = two ∙ ap (λ l. l ++ b) one ∙ append_assoc old a b

pub put_thrice : (old middle next new a b c : List Text) → middle ≡ old ++ a → next ≡ middle ++ b → new ≡ next ++ c → new ≡ old ++ (a ++ (b ++ c))
put_thrice old middle next new a b c one two three = put_twice old middle new a (b ++ c) one (put_twice middle next new b c two three)

-- the same words in other terms, and what was put in two steps or in three where nothing was refused
pub puts_as : {T E : Type 0} (r : Result T E) (old new a b : List Text) → a ≡ b → OnOk r (new ≡ old ++ a) → OnOk r (new ≡ old ++ b)
puts_as r old new a b same put = on_ok r (λ e. e ∙ ap (λ l. old ++ l) same) put

pub puts_twice : {T E : Type 0} (r : Result T E) (old middle new a b d : List Text) → middle ≡ old ++ a → a ++ b ≡ d → OnOk r (new ≡ middle ++ b) →
    OnOk r (new ≡ old ++ d)
puts_twice r old middle new a b d one same put = on_ok r (λ two. put_twice old middle new a b one two ∙ ap (λ l. old ++ l) same) put

pub puts_thrice : {T E : Type 0} (r : Result T E) (old middle next new a b c d : List Text) → middle ≡ old ++ a → next ≡ middle ++ b →
    a ++ (b ++ c) ≡ d → OnOk r (new ≡ next ++ c) → OnOk r (new ≡ old ++ d)
puts_thrice r old middle next new a b c d one two same put =
    on_ok r (λ three. put_thrice old middle next new a b c one two three ∙ ap (λ l. old ++ l) same) put

module _ (words : List Text) (e : Expression) where
  pub concatenation_spelled : (at : ℕ) (parts : Vec Expression Global) (items : List Expression) → e ≡ Concatenation at parts → items ≡ parts.items →
      braces_words (trees_of words items) ≡ spell_expression (tree_of words e)
  concatenation_spelled at parts items is same =
      ap (λ (xs : List Expression). braces_words (trees_of words xs)) same
      ∙ sym (ap spell_expression (ap (tree_of words) is ∙ tree_of_concatenation words at parts))

  pub replication_spelled : (at : ℕ) (count : Box Expression Global) (parts : Vec Expression Global) (amount : Expression) (items : List Expression) →
      e ≡ Replication at count parts → amount ≡ count.value → items ≡ parts.items →
      (codes "{" ∷ []) ++ (spell_expression (tree_of words amount) ++ doubled_words (trees_of words items)) ≡ spell_expression (tree_of words e)
  replication_spelled at count parts amount items is counted same =
      (λ i. codes "{" ∷ (spell_expression (tree_of words (counted i)) ++ doubled_words (trees_of words (same i))))
      ∙ sym (ap spell_expression (ap (tree_of words) is ∙ tree_of_replication words at count parts))

module _ (words : List Text) where
  pub joined_spelled : (e : Target) (at : ℕ) (targets : Vec Target Global) (items : List Target) → e ≡ Joined at targets → items ≡ targets.items →
      joined_words (target_trees words items) ≡ spell_target (target_tree words e)
  joined_spelled e at targets items is same =
      ap (λ (xs : List Target). joined_words (target_trees words xs)) same
      ∙ sym (ap spell_target (ap (target_tree words) is ∙ tree_of_joined words at targets))

  pub block_spelled : (e : Statement) (label : Option Token) (list : Vec Statement Global) (items : List Statement) → e ≡ Block label list →
      items ≡ list.items →
      block_words (option_map (token_text words) label) (statement_trees words items) ≡ spell_statement (statement_tree words e)
  block_spelled e label list items is same =
      ap (λ (xs : List Statement). block_words (option_map (token_text words) label) (statement_trees words xs)) same
      ∙ sym (ap spell_statement (ap (statement_tree words) is ∙ tree_of_whole_block words label list))

  pub case_spelled : (e : Statement) (at : ℕ) (kind : CaseKind) (value : Box Expression Global) (branches : Vec Branch Global) (amount : Expression)
      (items : List Branch) → e ≡ Case at kind value branches → amount ≡ value.value → items ≡ branches.items →
      case_head_words kind (tree_of words amount) ++ case_words (branch_trees words items) ≡ spell_statement (statement_tree words e)
  case_spelled e at kind value branches amount items is valued same =
      (λ i. case_head_words kind (tree_of words (valued i)) ++ case_words (branch_trees words (same i)))
      ∙ sym (ap spell_statement (ap (statement_tree words) is ∙ tree_of_case words at kind value branches))
