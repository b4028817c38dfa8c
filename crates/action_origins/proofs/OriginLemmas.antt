-- Where the actions of statements begin, one behind another.
use Rattle.std.proofs.Common.{◌≡◌, ℕ, suc, ◌+◌, ◌-◌, List, [], ◌∷◌, ◌++◌, Vec, Global, Box, sym, ap, ◌∙◌, append_assoc, arith, Option}
use Rattle.std.specs.List.{flat_map}
use Rattle.vwords.specs.Words.{Text}
use Rattle.vast.specs.NumberedWords.{word_of, Word}
use Rattle.vast.specs.NumberedStatements.{StatementTree, block, case_of}
use Rattle.vast.specs.NumberedModules.{ModuleTree, SourceTree}
use Rattle.vast.specs.NumberedTrees.{tree_of, statement_tree, statement_trees, branch_trees}
use Rattle.vast.specs.declared.expression.Expression.{Expression}
use Rattle.vwords.specs.declared.cases.CaseKind.{CaseKind}
use Rattle.vast.specs.declared.statement.Branch.{Branch}
use Rattle.vast.specs.declared.statement.Statement.{Statement, Block, Case}
use Rattle.vast.proofs.ToldTrees.{told_block, told_case}
use Rattle.vmodules.specs.Ports.{ports_declared}
use Rattle.action_origins.specs.Lengths.{head_length, statement_length, statements_length, branches_length, begin_length}
use Rattle.action_origins.specs.Origins.{number_of, statement_origins, statements_origins, branches_origins, declared_origins, items_origins, items_left, origins_below, module_origins}
use Rattle.std.specs.Option.{option_map}
use Rattle.vast.specs.declared.token.Token.{Token}

module _ (words : List Text) where
  module _ (s : Statement) (label : Option Token) (list : Vec Statement Global) (items : List Statement) (is : s ≡ Block label list) (same : items ≡ list.items) where
    abbrev own : Option Word
    own = option_map (word_of words) label

    block_is : block own (statement_trees words items) ≡ statement_tree words s
    block_is =
        sym (ap (statement_tree words) is ∙ told_block (word_of words) label list ∙ ap (λ (xs : List Statement). block own (statement_trees words xs)) (sym same))

    pub block_put : (old new : List ℕ) (left middle : ℕ) → middle ≡ left - begin_length own → new ≡ old ++ statements_origins words middle (statement_trees words items) →
        new ≡ old ++ statement_origins words left (statement_tree words s)
    block_put old new left middle one put =
        put ∙ ap (λ (n : ℕ). old ++ statements_origins words n (statement_trees words items)) one ∙ ap (λ (t : StatementTree). old ++ statement_origins words left t) block_is

    pub block_past : (left middle behind result : ℕ) → middle ≡ left - begin_length own → behind ≡ middle - statements_length (statement_trees words items) → result ≡ behind - 1 →
        result ≡ left - statement_length (statement_tree words s)
    block_past left middle behind result one h end =
        let size : statement_length (statement_tree words s) ≡ begin_length own + (statements_length (statement_trees words items) + 1) = ap statement_length (sym block_is) in
        omega (arith, one, h, end, size)

  module _ (s : Statement) (at : ℕ) (kind : CaseKind) (value : Box Expression Global) (branches : Vec Branch Global) (amount : Expression) (items : List Branch)
      (is : s ≡ Case at kind value branches) (same : amount ≡ value.value) (these : items ≡ branches.items) where
    case_is : case_of kind (tree_of words amount) (branch_trees words items) ≡ statement_tree words s
    case_is =
        sym
        (
        ap (statement_tree words) is ∙ told_case (word_of words) at kind value branches
        ∙ ap (λ (v : Expression). case_of kind (tree_of words v) (branch_trees words branches.items)) (sym same)
        ∙ ap (λ (bs : List Branch). case_of kind (tree_of words amount) (branch_trees words bs)) (sym these)
        )

    pub case_put : (old between new : List ℕ) (left middle : ℕ) → middle ≡ left - head_length (tree_of words amount) →
        between ≡ old ++ branches_origins words middle (branch_trees words items) → new ≡ between ++ number_of words left ∷ [] →
        new ≡ old ++ statement_origins words left (statement_tree words s)
    case_put old between new left middle head put end =
        end ∙ ap (λ (l : List ℕ). l ++ number_of words left ∷ []) (put ∙ ap (λ (n : ℕ). old ++ branches_origins words n (branch_trees words items)) head)
        ∙ append_assoc old (branches_origins words (left - head_length (tree_of words amount)) (branch_trees words items)) (number_of words left ∷ [])
        ∙ ap (λ (t : StatementTree). old ++ statement_origins words left t) case_is

    pub case_past : (left middle behind result : ℕ) → middle ≡ left - head_length (tree_of words amount) → behind ≡ middle - branches_length (branch_trees words items) → result ≡ behind - 1 →
        result ≡ left - statement_length (statement_tree words s)
    case_past left middle behind result head h end =
        let size : statement_length (statement_tree words s) ≡ head_length (tree_of words amount) + (branches_length (branch_trees words items) + 1) = ap statement_length (sym case_is) in
        omega (arith, head, h, end, size)

  -- the values of the ports of a module, its items, and then what stands below it
  pub module_put : (modules : SourceTree) (m : ModuleTree) (levels below : ℕ) (old first between new : List ℕ) → levels ≡ suc below →
      first ≡ old ++ declared_origins (ports_declared m.ports) → between ≡ first ++ items_origins words (items_left words m) m.items →
      new ≡ between ++ flat_map (origins_below (module_origins words below modules) modules) m.items → new ≡ old ++ module_origins words levels modules m
  module_put modules m levels below old first between new is ports own put =
      let values : List ℕ = declared_origins (ports_declared m.ports) in
      let items : List ℕ = items_origins words (items_left words m) m.items in
      let others : List ℕ = flat_map (origins_below (module_origins words below modules) modules) m.items in
      put ∙ ap (λ (l : List ℕ). l ++ others) (own ∙ ap (λ (l : List ℕ). l ++ items) ports)
      ∙ append_assoc (old ++ values) items others
      ∙ append_assoc old values (items ++ others)
      ∙ ap (λ (n : ℕ). old ++ module_origins words n modules m) (sym is)
