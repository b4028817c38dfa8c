-- What statements put on the table, one behind another.
use Rattle.std.proofs.Common.{◌≡◌, ℕ, List, [], ◌++◌, Vec, Global, Result, Ok, Err, refl, sym, ap, ◌∙◌, append_assoc, Option}
use Rattle.basis.specs.declared.memory.OrMemory.{OrMemory}
use Rattle.basis.specs.declared.memory.OrMemory.TheVariants.{Fault, Memory}
use Rattle.vwords.specs.Words.{Text}
use Rattle.vast.specs.NumberedStatements.{block}
use Rattle.vast.specs.NumberedTrees.{statement_tree, statement_trees}
use Rattle.vast.specs.declared.statement.Statement.{Statement, Block}
use Rattle.vast.specs.NumberedWords.{word_of}
use Rattle.vast.proofs.ToldTrees.{told_block}
use Rattle.velab_expr.specs.declared.fault.ElabFault.{ElabFault}
use Rattle.velab_expr.specs.Answers.{◌>>=◌, Makes}
use Rattle.velab_process.specs.Statements.{Table, Lowered, with_places_before}
use Rattle.velab_process.specs.Inner.{Begins}
use Rattle.std.specs.Option.{option_map}
use Rattle.vast.specs.declared.token.Token.{Token}

-- the statements of a block
module _ (words : List Text) (statement : Statement) (label : Option Token) (statements : Vec Statement Global) (items : List Statement) (is : statement ≡ Block label statements) (same : items ≡ statements.items) where
  pub block_trees : block (option_map (word_of words) label) (statement_trees words items) ≡ statement_tree words statement
  block_trees =
      sym (ap (statement_tree words) is ∙ told_block (word_of words) label statements
      ∙ ap (λ (xs : List Statement). block (option_map (word_of words) label) (statement_trees words xs)) (sym same))

-- nothing stands in front
pub none_in_front : (answer : Result Lowered ElabFault) → with_places_before [] answer ≡ answer
none_in_front (Ok lowered) = refl
none_in_front (Err fault) = refl

-- a statement, and then what stands behind it on the table that it leaves
module _ (before : List ℕ) (rest : Table → Result Lowered ElabFault) where
  both_behind : (places : List ℕ) (answer : Result Lowered ElabFault) → with_places_before (before ++ places) answer ≡ with_places_before before (with_places_before places answer)
  both_behind places (Ok l) = ap (λ (all : List ℕ). Ok (record { table = l.table; places = all })) (append_assoc before places l.places)
  both_behind places (Err fault) = refl

  pub statement_put : (front : Result Lowered ElabFault) (table : Table) (places : List ℕ) → with_places_before before front ≡ Ok (record { table = table; places = places }) →
      with_places_before places (rest table) ≡ with_places_before before (front >>= λ one. with_places_before one.places (rest one.table))
  statement_put (Ok one) table places is =
      let same : record { table = one.table; places = before ++ one.places } ≡ record { table = table; places = places } = cc in
      sym (ap (λ (l : Lowered). with_places_before l.places (rest l.table)) same) ∙ both_behind one.places (rest one.table)
  statement_put (Err fault) table places is = absurd cc
