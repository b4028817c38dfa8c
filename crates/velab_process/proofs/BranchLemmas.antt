-- What the branches of a `case` put on the table, one behind another.
use Rattle.std.proofs.Common.{◌≡◌, ℕ, List, [], ◌++◌, Vec, Global, Result, Ok, Err, refl, sym, ap, ◌∙◌, append_assoc, append-nil}
use Rattle.std.specs.Prelude.{Box}
use Rattle.basis.specs.declared.memory.OrMemory.{OrMemory}
use Rattle.basis.specs.declared.memory.OrMemory.TheVariants.{Fault, Memory}
use Rattle.vwords.specs.Words.{Text}
use Rattle.vast.specs.NumberedTrees.{tree_of, statement_tree, branch_trees}
use Rattle.vast.specs.NumberedStatements.{case_of}
use Rattle.vast.specs.declared.expression.Expression.{Expression}
use Rattle.vwords.specs.declared.cases.CaseKind.{CaseKind}
use Rattle.vast.specs.declared.statement.Branch.{Branch as WrittenBranch}
use Rattle.vast.specs.declared.statement.Statement.{Statement, Case}
use Rattle.vast.specs.NumberedWords.{word_of}
use Rattle.vast.proofs.ToldTrees.{told_case}
use Rattle.vdesign.specs.declared.action.Branch.{Branch}
use Rattle.velab_expr.specs.declared.fault.ElabFault.{ElabFault}
use Rattle.velab_expr.specs.Answers.{◌>>=◌, behind, Makes}
use Rattle.velab_process.specs.Statements.{Table, Lowered, with_places_before, LoweredBranches, with_branches_before}

-- the tree of a `case`
pub case_tree : (words : List Text) (statement : Statement) (at : ℕ) (kind : CaseKind) (value : Box Expression Global) (branches : Vec WrittenBranch Global)
    (amount : Expression) (items : List WrittenBranch) → statement ≡ Case at kind value branches → amount ≡ value.value → items ≡ branches.items →
    case_of kind (tree_of words amount) (branch_trees words items) ≡ statement_tree words statement
case_tree words statement at kind value branches amount items is same these =
    sym
    (
    ap (statement_tree words) is ∙ told_case (word_of words) at kind value branches
    ∙ ap (λ (v : Expression). case_of kind (tree_of words v) (branch_trees words branches.items)) (sym same)
    ∙ ap (λ (bs : List WrittenBranch). case_of kind (tree_of words amount) (branch_trees words bs)) (sym these)
    )

module _ (before : List Branch) (default_before : List ℕ) where
  -- a branch, and then those behind it on the table that it leaves
  module _ (rest : Table → Result LoweredBranches ElabFault) where
    both_behind : (branches : List Branch) (places : List ℕ) (answer : Result LoweredBranches ElabFault) →
        with_branches_before (before ++ branches) (default_before ++ places) answer ≡ with_branches_before before default_before (with_branches_before branches places answer)
    both_behind branches places (Ok l) =
        ap (λ (all : List Branch). Ok (record { table = l.table; branches = all; otherwise = (default_before ++ places) ++ l.otherwise })) (append_assoc before branches l.branches)
        ∙ ap (λ (all : List ℕ). Ok (record { table = l.table; branches = before ++ (branches ++ l.branches); otherwise = all })) (append_assoc default_before places l.otherwise)
    both_behind branches places (Err fault) = refl

    pub branch_put : (front : Result LoweredBranches ElabFault) (table : Table) (branches : List Branch) (places : List ℕ) →
        with_branches_before before default_before front ≡ Ok (record { table = table; branches = branches; otherwise = places }) →
        with_branches_before branches places (rest table) ≡ with_branches_before before default_before (front >>= λ one. with_branches_before one.branches one.otherwise (rest one.table))
    branch_put (Ok one) table branches places is =
        let same : record { table = one.table; branches = before ++ one.branches; otherwise = default_before ++ one.otherwise }
        ≡ record { table = table; branches = branches; otherwise = places } = cc in
        sym (ap (λ (l : LoweredBranches). with_branches_before l.branches l.otherwise (rest l.table)) same) ∙ both_behind one.branches one.otherwise (rest one.table)
    branch_put (Err fault) table branches places is = absurd cc

  -- the items in front of a statement, which begins at these places
  pub labels_made : {T : Type 0} (result : Result T (OrMemory ElabFault)) (answer : Result (List Branch) ElabFault) (table : Table) (after : List Branch) →
      Makes result after (behind before answer) →
      Makes result (record { table = table; branches = after; otherwise = default_before })
      (with_branches_before before default_before (answer >>= λ branches. Ok (record { table = table; branches = branches; otherwise = [] })))
  labels_made (Ok t) (Ok branches) table after is =
      let same : before ++ branches ≡ after = cc in
      ap (λ (bs : List Branch). Ok (record { table = table; branches = bs; otherwise = default_before ++ [] })) same
      ∙ ap (λ (ps : List ℕ). Ok (record { table = table; branches = after; otherwise = ps })) (append-nil default_before)
  labels_made (Ok t) (Err fault) table after is = absurd cc
  labels_made (Err (Fault f)) (Ok branches) table after is = absurd cc
  labels_made (Err (Fault f)) (Err fault) table after is = ap Err cc
  labels_made (Err (Memory m)) answer table after is = tt

  -- the statement of a `default`
  pub default_made : {T : Type 0} (result : Result T (OrMemory ElabFault)) (answer : Result Lowered ElabFault) (table : Table) (after : List ℕ) →
      Makes result (record { table = table; places = after }) (with_places_before default_before answer) →
      Makes result (record { table = table; branches = before; otherwise = after })
      (with_branches_before before default_before (answer >>= λ inner. Ok (record { table = inner.table; branches = []; otherwise = inner.places })))
  default_made (Ok t) (Ok inner) table after is =
      let same : record { table = inner.table; places = default_before ++ inner.places } ≡ record { table = table; places = after } = cc in
      ap (λ (bs : List Branch). Ok (record { table = inner.table; branches = bs; otherwise = default_before ++ inner.places })) (append-nil before)
      ∙ ap (λ (l : Lowered). Ok (record { table = l.table; branches = before; otherwise = l.places })) same
  default_made (Ok t) (Err fault) table after is = absurd cc
  default_made (Err (Fault f)) (Ok inner) table after is = absurd cc
  default_made (Err (Fault f)) (Err fault) table after is = ap Err cc
  default_made (Err (Memory m)) answer table after is = tt
