-- Names of blocks, where a statement has others in a list, and which name stands again.
use Rattle.std.proofs.Common.{◌≡◌, ℕ, List, [], ◌∷◌, ◌++◌, Option, Some, option_map, if◌then◌else◌, Box, Vec, Global, refl, sym, ap, ◌∙◌}
use Rattle.std.specs.List.{flat_map}
use Rattle.vwords.specs.Words.{Text}
use Rattle.vast.specs.NumberedWords.{Word, word_of}
use Rattle.vast.specs.NumberedTrees.{module_tree, statement_tree, statement_trees, branch_trees}
use Rattle.vast.specs.declared.token.Token.{Token}
use Rattle.vast.specs.declared.expression.Expression.{Expression}
use Rattle.vwords.specs.declared.cases.CaseKind.{CaseKind}
use Rattle.vast.specs.declared.statement.Branch.{Branch}
use Rattle.vast.specs.declared.statement.Statement.{Statement, Block, Case}
use Rattle.vast.specs.declared.module.ModuleTree.{ModuleTree as Parsed}
use Rattle.vast.proofs.ToldTrees.{told_block, told_case}
use Rattle.vmodules.specs.Names.{is_declared, letters_of, again_behind}
use Rattle.vmodules.specs.Blocks.{block_names, blocks_in, blocks_in_all, blocks_in_branches, blocks_by, named_in, doubled_block}
use Rattle.vmodules.specs.Inner.{words_told, HoldSame}
use Rattle.vmodules.proofs.HierarchyLemmas.{same_front}

module _ (words : List Text) (s : Statement) where
  pub blocks_block : (label : Option Token) (list : Vec Statement Global) (items : List Statement) → s ≡ Block label list → items ≡ list.items →
      block_names (option_map (word_of words) label) (blocks_in_all (statement_trees words items)) ≡ blocks_in (statement_tree words s)
  blocks_block label list items is same =
      sym
      (
      ap (λ (one : Statement). blocks_in (statement_tree words one)) is
      ∙ ap blocks_in (told_block (word_of words) label list)
      ∙ ap (λ (xs : List Statement). block_names (option_map (word_of words) label) (blocks_in_all (statement_trees words xs))) (sym same)
      )

  pub blocks_case : (at : ℕ) (kind : CaseKind) (value : Box Expression Global) (branches : Vec Branch Global) (items : List Branch) →
      s ≡ Case at kind value branches → items ≡ branches.items → blocks_in_branches (branch_trees words items) ≡ blocks_in (statement_tree words s)
  blocks_case at kind value branches items is same =
      sym
      (
      ap (λ (one : Statement). blocks_in (statement_tree words one)) is
      ∙ ap blocks_in (told_case (word_of words) at kind value branches)
      ∙ ap (λ (xs : List Branch). blocks_in_branches (branch_trees words xs)) (sym same)
      )

-- behind names that hold the same
pub again_same : (xs ys : List Text) (words : List Word) → HoldSame xs ys → again_behind xs words ≡ again_behind ys words
again_same xs ys [] same = refl
again_same xs ys (word ∷ more) same =
    let others = again_same (xs ++ word.letters ∷ []) (ys ++ word.letters ∷ []) more (same_front xs ys (word.letters ∷ []) same) in
    (λ i. if same word.letters i then Some word else others i)

-- what was collected of a module tells of its blocks
pub blocks_are : (words : List Text) (unit : Parsed) (names : List Text) (named blocks these those : List Token) → these ≡ named → those ≡ blocks →
    words_told words named ≡ named_in (module_tree words unit) → words_told words blocks ≡ flat_map blocks_by (module_tree words unit).items →
    HoldSame names (letters_of (words_told words these)) → again_behind names (words_told words those) ≡ doubled_block (module_tree words unit)
blocks_are words unit names named blocks these those e f is all same =
    let exact = letters_of (named_in (module_tree words unit)) in
    again_same names exact (words_told words those)
    (λ text. same text ∙ ap (λ (ws : List Word). is_declared (letters_of ws) text) (ap (words_told words) e ∙ is))
    ∙ ap (again_behind exact) (ap (words_told words) f ∙ all)
