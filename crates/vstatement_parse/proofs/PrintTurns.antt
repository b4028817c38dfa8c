-- What the code that reads printing tasks goes on from.
use Rattle.std.specs.Str.{bytes_eq}
use Rattle.std.proofs.Common.{◌≡◌, ℕ, nat_le, Bool, true, false, if◌then◌else◌, Some, None, codes, Result, subst, List, [], ◌∷◌, refl, sym, ap, ◌∙◌}
use Rattle.vwords.specs.Words.{Text, is_string}
use Rattle.vast.specs.Expressions.{ExpressionTree}
use Rattle.vast.specs.Statements.{StatementTree, ArgumentTree, left_out, task, print, idle}
use Rattle.vast.specs.StatementTrees.{statement_tree, argument_tree}
use Rattle.vast.specs.declared.statement.Argument.{Argument}
use Rattle.vast.specs.declared.statement.Printing.{Printing}
use Rattle.vast.specs.declared.statement.Idle.{Idle}
use Rattle.vast.specs.declared.statement.Statement.{Statement}
use Rattle.basis.specs.declared.memory.OrMemory.{OrMemory}
use Rattle.vexpr_parse.specs.declared.stop.Stop.{Stop}
use Rattle.vexpr_parse.specs.declared.stop.Stop.TheVariants.{TooDeep}
use Rattle.vexpr_parse.specs.Readers.{Answer, Reader, got, stop, and_then, past, follow, goes, refused, front, is_front}
use Rattle.vgrammar.specs.Parts.{Both, both, Either, either, map_tree, pair, roomy, word_as}
use Rattle.vgrammar.specs.Starts.{is_word, meant_if}
use Rattle.vgrammar.specs.Statements.{comma_list, word_only, argument, Arguments, arguments, print_of, optional_print_of, idle_of, begins_argument, argument_of, value}
use Rattle.vgrammar.proofs.ManyTurns.{until_is}
use Rattle.vstatement_parse.specs.Gives.{Answered, arguments_within, argument_kind, some_argument}
use Rattle.vstatement_parse.specs.Begun.{print_at, monitor_at, required_arguments, optional_arguments, printed_with, idle_at, idle_with}

abbrev list_of : Arguments → List ArgumentTree
list_of (both (both one more) closing) = one ∷ more

-- behind the parenthesis
within_is : (below : ℕ) (words : List Text) →
    map_tree list_of (pair (comma_list (argument below)) (word_only (codes ")"))) words ≡ arguments_within below words
within_is below words = until_is (codes ")") (argument below) list_of (λ all. all) (λ one list. refl) words ∙ as_it_is (arguments_within below words)
  where
    as_it_is : (a : Answer (List ArgumentTree)) → and_then a (λ all. got all) ≡ a
    as_it_is (got all left) = refl
    as_it_is (stop why left) = refl

required_is : (below : ℕ) (words : List Text) → map_tree list_of (arguments below) words ≡ required_arguments below words
required_is below [] = refl
required_is below (word ∷ words) = by_test (bytes_eq (codes "(") word)
  where
    by_test : (b : Bool) →
        and_then (follow (if b then goes (pair (comma_list (argument below)) (word_only (codes ")"))) else refused) word words)
        (λ tree. got (list_of tree))
        ≡ follow (if b then goes (arguments_within below) else refused) word words
    by_test true = within_is below words
    by_test false = refl

-- the semicolon, and the statement
ended : {E : Type 0} (e : E) (make : Both E (Unit {0}) → StatementTree) (tree : StatementTree) → make (both e tt) ≡ tree →
    (words : List Text) →
    and_then (and_then (word_only (codes ";") words) (λ end. got (both e end))) (λ parts. got (make parts))
    ≡ past (codes ";") (got tree) words
ended e make tree same [] = refl
ended e make tree same (word ∷ words) = by_test (bytes_eq (codes ";") word)
  where
    by_test : (b : Bool) →
        and_then (and_then (follow (if b then goes (got tt) else refused) word words) (λ end. got (both e end))) (λ parts. got (make parts))
        ≡ follow (if b then goes (got tree) else refused) word words
    by_test true = ap (λ t. got t words) same
    by_test false = refl

module _ (kind : Printing) where
  abbrev printed : List ArgumentTree → Reader StatementTree
  printed all = past (codes ";") (got (task (print kind all)))

  by_some : (a : Answer Arguments) →
      and_then (and_then a (λ some. map_tree (both some) (word_only (codes ";")))) (λ parts. got (print_of kind parts))
      ≡ and_then (and_then a (λ some. got (list_of some))) printed
  by_some (got (both (both one more) closing) left) =
      ended (both (both one more) closing) (print_of kind) (task (print kind (one ∷ more))) refl left
  by_some (stop why left) = refl

  by_optional : (a : Answer Arguments) →
      and_then (and_then (and_then a (λ some. got (Some some))) (λ some. map_tree (both some) (word_only (codes ";"))))
      (λ parts. got (optional_print_of kind parts))
      ≡ and_then (and_then a (λ some. got (list_of some))) printed
  by_optional (got (both (both one more) closing) left) =
      ended (Some (both (both one more) closing)) (optional_print_of kind) (task (print kind (one ∷ more))) refl left
  by_optional (stop why left) = refl

  module _ (below : ℕ) (words : List Text) where
    by_room : (b : Bool) →
        and_then (and_then (and_then (if b then arguments below words else stop TooDeep words) (λ some. got (Some some)))
        (λ some. map_tree (both some) (word_only (codes ";")))) (λ parts. got (optional_print_of kind parts))
        ≡ and_then (if b then required_arguments below words else stop TooDeep words) printed
    by_room true = by_optional (arguments below words) ∙ ap (λ a. and_then a printed) (required_is below words)
    by_room false = refl

    by_bracket : (b : Bool) →
        and_then (and_then (if b then map_tree Some (roomy below 1 (arguments below)) words else got None words)
        (λ some. map_tree (both some) (word_only (codes ";")))) (λ parts. got (optional_print_of kind parts))
        ≡ and_then (if b then roomy below 1 (required_arguments below) words else got [] words) printed
    by_bracket true = by_room (nat_le 1 below)
    by_bracket false = ended None (optional_print_of kind) (task (print kind [])) refl words

    print_is : print_at kind below words ≡ printed_with kind (optional_arguments below) words
    print_is = by_bracket (is_front (codes "(") (front words))

    pub gives_print : (text : List Text) (left : List Text) (result : Result Statement (OrMemory Stop)) →
        Answered (statement_tree text) (printed_with kind (optional_arguments below) words) left result →
        Answered (statement_tree text) (print_at kind below words) left result
    gives_print text left result given = subst (λ a. Answered (statement_tree text) a left result) (sym print_is) given

module _ (kind : Idle) where
  abbrev idled : List ArgumentTree → Reader StatementTree
  idled all = past (codes ";") (got (task (idle kind all)))

  idle_by_optional : (a : Answer Arguments) →
      and_then (and_then (and_then a (λ some. got (Some some))) (λ some. map_tree (both some) (word_only (codes ";"))))
      (λ parts. got (idle_of kind parts))
      ≡ and_then (and_then a (λ some. got (list_of some))) idled
  idle_by_optional (got (both (both one more) closing) left) =
      ended (Some (both (both one more) closing)) (idle_of kind) (task (idle kind (one ∷ more))) refl left
  idle_by_optional (stop why left) = refl

  module _ (below : ℕ) (words : List Text) where
    idle_by_room : (b : Bool) →
        and_then (and_then (and_then (if b then arguments below words else stop TooDeep words) (λ some. got (Some some)))
        (λ some. map_tree (both some) (word_only (codes ";")))) (λ parts. got (idle_of kind parts))
        ≡ and_then (if b then required_arguments below words else stop TooDeep words) idled
    idle_by_room true = idle_by_optional (arguments below words) ∙ ap (λ a. and_then a idled) (required_is below words)
    idle_by_room false = refl

    idle_by_bracket : (b : Bool) →
        and_then (and_then (if b then map_tree Some (roomy below 1 (arguments below)) words else got None words)
        (λ some. map_tree (both some) (word_only (codes ";")))) (λ parts. got (idle_of kind parts))
        ≡ and_then (if b then roomy below 1 (required_arguments below) words else got [] words) idled
    idle_by_bracket true = idle_by_room (nat_le 1 below)
    idle_by_bracket false = ended None (idle_of kind) (task (idle kind [])) refl words

    pub gives_idle : (text : List Text) (left : List Text) (result : Result Statement (OrMemory Stop)) →
        Answered (statement_tree text) (idle_with kind (optional_arguments below) words) left result →
        Answered (statement_tree text) (idle_at kind below words) left result
    gives_idle text left result given =
        subst (λ a. Answered (statement_tree text) a left result) (sym (idle_by_bracket (is_front (codes "(") (front words)))) given

pub gives_monitor : (kind : Printing) (text : List Text) (below : ℕ) (words left : List Text) (result : Result Statement (OrMemory Stop)) →
    Answered (statement_tree text) (printed_with kind (required_arguments below) words) left result →
    Answered (statement_tree text) (monitor_at kind below words) left result
gives_monitor kind text below words left result given =
    subst (λ a. Answered (statement_tree text) a left result)
    (sym (by_some kind (arguments below words) ∙ ap (λ a. and_then a (printed kind)) (required_is below words))) given

-- an argument: one that isn't left out, where one begins, and else nothing

module _ (below : ℕ) (words : List Text) where
  as_kind : (a : Answer (Either Text ExpressionTree)) →
      and_then (and_then a (λ parts. got (Some parts))) (λ parts. got (argument_of parts)) ≡ and_then a (λ parts. got (argument_kind parts))
  as_kind (got parts left) = refl
  as_kind (stop why left) = refl

  pub argument_is : argument below words ≡ (if begins_argument (front words) then some_argument below words else got left_out words)
  argument_is = by (begins_argument (front words))
    where
      parts : Reader (Either Text ExpressionTree)
      parts = either (is_word is_string) (word_as (meant_if is_string)) (value below)

      by : (b : Bool) → and_then (if b then map_tree Some parts words else got None words) (λ tree. got (argument_of tree))
          ≡ (if b then some_argument below words else got left_out words)
      by true = as_kind (parts words)
      by false = refl

  pub gives_some : (text left : List Text) (result : Result Argument (OrMemory Stop)) → begins_argument (front words) ≡ true →
      Answered (argument_tree text) (some_argument below words) left result → Answered (argument_tree text) (argument below words) left result
  gives_some text left result begins given =
      subst (λ a. Answered (argument_tree text) a left result)
      (sym (argument_is ∙ ap (λ b. if b then some_argument below words else got left_out words) begins)) given

  pub gives_nothing : begins_argument (front words) ≡ false → argument below words ≡ got left_out words
  gives_nothing none = argument_is ∙ ap (λ b. if b then some_argument below words else got left_out words) none
