-- What event controls listen to, and what a block reads.
use Rattle.std.proofs.Common.{◌≡◌, List, ◌∷◌, ◌++◌, map, Vec, Global, None, Result, Ok, Err, refl, sym, ap, ◌∙◌, append_assoc, append-nil, Option}
use Rattle.std.proofs.lemmas.Grind.{flat_map-append}
use Rattle.vwords.specs.Words.{Text}
use Rattle.vast.specs.NumberedTrees.{statement_tree, statement_trees}
use Rattle.vast.specs.NumberedStatements.{StatementTree, empty, block, assign, nonblocking, trigger, if_true, if_else, case_of, while_true, repeat_times, forever, for_loop, wait_for, delay, event, task}
use Rattle.vast.specs.declared.statement.Statement.{Statement, Block}
use Rattle.vast.specs.NumberedWords.{Word, word_of}
use Rattle.vast.specs.NumberedTrees.{further_term}
use Rattle.vast.specs.declared.statement.FurtherTerm.{FurtherTerm}
use Rattle.vdesign.specs.declared.action.Term.{Term}
use Rattle.velab_expr.specs.declared.fault.ElabFault.{ElabFault}
use Rattle.velab_expr.specs.Answers.{◌>>=◌, behind}
use Rattle.velab_expr.specs.Scopes.{Scope}
use Rattle.velab_expr.proofs.AnswerLemmas.{goes_behind}
use Rattle.velab_process.specs.Inner.{own_read, inner_read}
use Rattle.velab_process.specs.Waits.{edge_of, lower_term, lower_further, names_in, read_by, read_by_all, read_by_assignment, read_by_task, heard_by, any_of}
use Rattle.velab_process.proofs.StatementLemmas.{block_trees}
use Rattle.vast.specs.declared.token.Token.{Token}

module _ (words : List Text) (statement : Statement) (label : Option Token) (statements : Vec Statement Global) (items : List Statement) (is : statement ≡ Block label statements) (same : items ≡ statements.items) where
  pub block_reads : read_by_all (statement_trees words items) ≡ inner_read (statement_tree words statement)
  block_reads = ap inner_read (block_trees words statement label statements items is same)

-- a statement reads what it reads itself, and then what the statements in it read
both_parts : (s : StatementTree) → own_read s ++ inner_read s ≡ read_by s
both_parts empty = refl
both_parts (block label statements) = refl
both_parts (assign target amount value) = append-nil (read_by_assignment target amount value)
both_parts (nonblocking target amount value) = append-nil (read_by_assignment target amount value)
both_parts (trigger letters) = refl
both_parts (if_true condition body) = refl
both_parts (if_else condition body other) = refl
both_parts (case_of kind value branches) = refl
both_parts (while_true condition body) = refl
both_parts (repeat_times count body) = refl
both_parts (forever body) = refl
both_parts (for_loop target value condition next_target next_value body) =
    let first = read_by_assignment target None value in
    let next = read_by_assignment next_target None next_value in
    append_assoc first (names_in condition ++ next) (read_by body) ∙ ap (λ (l : List Word). first ++ l) (append_assoc (names_in condition) next (read_by body))
both_parts (wait_for condition body) = refl
both_parts (delay amount body) = refl
both_parts (event control body) = refl
both_parts (task call) = append-nil (read_by_task call)

pub parts_read : (scope : Scope) (s : StatementTree) (before after : List Term) → after ≡ before ++ any_of scope (own_read s) →
    after ++ any_of scope (inner_read s) ≡ before ++ any_of scope (read_by s)
parts_read scope s before after is =
    ap (λ (l : List Term). l ++ any_of scope (inner_read s)) is
    ∙ append_assoc before (any_of scope (own_read s)) (any_of scope (inner_read s))
    ∙ ap (λ (l : List Term). before ++ l) (sym (flat_map-append (heard_by scope) (own_read s) (inner_read s)) ∙ ap (any_of scope) (both_parts s))

-- the fault of the first list is one of both
pub refused_behind : {A F : Type 0} (done : List A) (front : Result (List A) F) (rest : List A → Result (List A) F) (fault : F) → behind done front ≡ Err fault →
    behind done (front >>= rest) ≡ Err fault
refused_behind done (Ok x) rest fault is = absurd cc
refused_behind done (Err other) rest fault is = let same : other ≡ fault = cc in ap Err same

-- the terms behind the first, one after another
module _ (words : List Text) (scope : Scope) (left rest : List FurtherTerm) (x : FurtherTerm) (is : left ≡ x ∷ rest) (done : List Term) (all : Result (List Term) ElabFault) (same : behind done (lower_further scope (map (further_term words) left)) ≡ all) where
  opened : behind done (lower_further scope (map (further_term words) left))
      ≡ behind done (lower_term scope (edge_of x.term.edge) (word_of words x.term.name) >>= λ front. lower_further scope (map (further_term words) rest) >>= λ others. Ok (front ++ others))
  opened = ap (λ (l : List FurtherTerm). behind done (lower_further scope (map (further_term words) l))) is

  pub further_put : (next : List Term) → behind done (lower_term scope (edge_of x.term.edge) (word_of words x.term.name)) ≡ Ok next →
      behind next (lower_further scope (map (further_term words) rest)) ≡ all
  further_put next put =
      goes_behind done (lower_term scope (edge_of x.term.edge) (word_of words x.term.name)) (lower_further scope (map (further_term words) rest)) next put
      ∙ sym opened ∙ same

  pub further_refused : (fault : ElabFault) → behind done (lower_term scope (edge_of x.term.edge) (word_of words x.term.name)) ≡ Err fault → all ≡ Err fault
  further_refused fault put = sym same ∙ opened ∙ refused_behind done (lower_term scope (edge_of x.term.edge) (word_of words x.term.name)) _ fault put
