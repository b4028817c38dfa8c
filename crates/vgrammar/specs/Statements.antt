-- *internal*: Reading of statements: one at the front of the words, of so many levels at most, one word at a time (IEEE 1364-2005, A.6).
use Rattle.std.specs.Prelude.{ℕ, zero, suc, Bool, true, false, ◌&&◌, ◌||◌, not, if◌then◌else◌, List, [], ◌∷◌, Option, Some, None, codes}
use Rattle.std.specs.Str.{bytes_eq}
use Rattle.vwords.specs.Words.{Text, is_name, is_number, is_string}
use Rattle.vast.specs.Expressions.{ExpressionTree}
use Rattle.vast.specs.Expressions.{first as first_part}
use Rattle.vast.specs.Statements.{TargetTree, whole, bit, part, joined, TargetTrees, none, first as first_target, DelayTree, by_number, by_name, by_value, TermTree, FurtherTerm, EventTree, by_event, by_any, by_any_enclosed, by_terms, ArgumentTree, quoted, printed, left_out, SelectionTree, print, idle, dump_file, dump_vars, dump, end_run, StatementTree, empty, block, assign, nonblocking, trigger, if_true, if_else, case_of, while_true, repeat_times, forever, for_loop, wait_for, delay, event, task, StatementTrees, no_statement, first_statement, BranchTree, labelled, default, BranchTrees, no_branch, first_branch, is_default, ends_in_if}
use Rattle.vwords.specs.declared.cases.CaseKind.{CaseKind}
use Rattle.vast.specs.declared.statement.Dumping.{Dumping}
use Rattle.vast.specs.declared.statement.Edge.{Edge}
use Rattle.vast.specs.declared.statement.Printing.{Printing}
use Rattle.vast.specs.declared.statement.Idle.{Idle}
use Rattle.vast.specs.declared.statement.Printing.TheVariants as printing
use Rattle.vexpr_parse.specs.declared.stop.Stop.TheVariants.{NoTree}
use Rattle.vexpr_parse.specs.Readers.{Reader, Lead, goes, refused, lower, got, stop, by_word, room, past, choose, is_front}
use Rattle.vexpr_parse.specs.Reading.{expression, trees_in}
use Rattle.vgrammar.specs.declared.start.Guard.{Guard}
use Rattle.vgrammar.specs.declared.start.Guard.TheVariants as guard
use Rattle.vgrammar.specs.declared.start.StatementStart.{StatementStart}
use Rattle.vgrammar.specs.declared.start.StatementStart.TheVariants as start
use Rattle.vgrammar.specs.Parts.{Both, both, Either, one_way, other_way, map_tree, pair, bind, word_as, many, maybe, either, roomy}
use Rattle.vgrammar.specs.Starts.{start_of, begins_target, is_target, meant_if, is_word, sign_of, edge_of, comma_of, is_meant}

-- an expression
abbrev pub value : ℕ → Reader ExpressionTree
value levels = expression levels 0

abbrev pub name_word : Reader Text
name_word = word_as (meant_if is_name)

abbrev pub number_word : Reader Text
number_word = word_as (meant_if is_number)

-- this very word, and no more
abbrev pub word_only : Text → Reader (Unit {0})
word_only text = past text (got tt)

-- one, and more behind a comma each
abbrev pub List_of : Type 0 → Type 0
List_of A = Both A (List A)

abbrev pub comma_list : {A : Type 0} → Reader A → Reader (List_of A)
comma_list read = pair read (many (is_front (codes ",")) (λ list. past (codes ",") read))

-- What an assignment writes to

-- behind [
abbrev pub Select : Type 0
Select = Both ExpressionTree (Either (Both ExpressionTree (Unit {0})) (Unit {0}))

abbrev pub select : ℕ → Reader Select
select below =
    pair (value below) (either (is_front (codes ":")) (past (codes ":") (pair (value below) (word_only (codes "]"))))
    (word_only (codes "]")))

abbrev pub target_of : Text → Option Select → TargetTree
target_of letters None = whole letters
target_of letters (Some (both left (one_way (both right end)))) = part letters left right
target_of letters (Some (both index (other_way end))) = bit letters index

abbrev pub named_target : ℕ → Text → Reader TargetTree
named_target below letters = map_tree (target_of letters)
    (maybe (is_front (codes "[")) (roomy below 1 (past (codes "[") (select below))))

abbrev pub targets_in : List TargetTree → TargetTrees
targets_in [] = none
targets_in (tree ∷ more) = first_target tree (targets_in more)

abbrev pub joined_of : Both (List_of TargetTree) (Unit {0}) → TargetTree
joined_of (both (both tree more) end) = joined (first_target tree (targets_in more))

abbrev pub joined_targets : Reader TargetTree → Reader TargetTree
joined_targets read = map_tree joined_of (pair (comma_list read) (word_only (codes "}")))

abbrev pub target_lead : ℕ → Reader TargetTree → Text → Lead TargetTree
target_lead below read word =
    if is_name word then goes (named_target below word)
    else if bytes_eq (codes "{") word then room below 1 (goes (joined_targets read))
    else refused

unfoldable pub target : ℕ → Reader TargetTree
target zero = by_word (λ word. if begins_target word then lower else refused)
target (suc below) = by_word (target_lead below (target below))

-- Delays and assignments

abbrev pub Amount : Type 0
Amount = Either Text (Either Text (Both ExpressionTree (Unit {0})))

abbrev pub delay_of : Amount → DelayTree
delay_of (one_way digits) = by_number digits
delay_of (other_way (one_way letters)) = by_name letters
delay_of (other_way (other_way (both amount end))) = by_value amount

-- behind #
abbrev pub amount : ℕ → Reader DelayTree
amount below =
    map_tree delay_of (either (is_word is_number) number_word (either (is_word is_name) name_word
    (past (codes "(") (pair (value below) (word_only (codes ")"))))))

abbrev pub optional_delay : ℕ → Reader (Option DelayTree)
optional_delay below = maybe (is_front (codes "#")) (past (codes "#") (amount below))

abbrev pub Assignment : Type 0
Assignment = Both TargetTree (Both Bool (Both (Option DelayTree) (Both ExpressionTree (Unit {0}))))

abbrev pub assignment_of : Assignment → StatementTree
assignment_of (both tree
    (both later (both wait (both right end)))) = if later then nonblocking tree wait right else assign tree wait right

abbrev pub assignment_parts : ℕ → Reader Assignment
assignment_parts below =
    pair (target below) (pair (word_as sign_of) (pair (optional_delay below) (pair (value below) (word_only (codes ";")))))

abbrev pub assignment : ℕ → Reader StatementTree
assignment below = map_tree assignment_of (assignment_parts below)

-- Statements round others. Each stands behind its first word.

-- ( value ) and what is read behind it
abbrev pub guard_then : {A : Type 0} → ℕ → Reader A → Reader (Both ExpressionTree A)
guard_then below read = past (codes "(") (pair (value below) (past (codes ")") read))

abbrev pub if_of : Both ExpressionTree (Both StatementTree (Option StatementTree)) → StatementTree
if_of (both condition (both body None)) = if_true condition body
if_of (both condition (both body (Some otherwise))) = if_else condition body otherwise

abbrev pub branches_of_if : Reader StatementTree → Reader (Both StatementTree (Option StatementTree))
branches_of_if read = pair read (maybe (is_front (codes "else")) (past (codes "else") read))

abbrev pub guarded_of : Guard → Both ExpressionTree StatementTree → StatementTree
guarded_of guard.While (both condition body) = while_true condition body
guarded_of guard.Repeat (both count body) = repeat_times count body
guarded_of guard.Wait (both condition body) = wait_for condition body

abbrev pub setting : ℕ → Reader (Both TargetTree ExpressionTree)
setting below = pair (target below) (past (codes "=") (value below))

abbrev pub For : Type 0
For = Both (Both TargetTree ExpressionTree) (Both ExpressionTree (Both (Both TargetTree ExpressionTree) StatementTree))

abbrev pub for_of : For → StatementTree
for_of (both (both tree right)
    (both condition (both (both next next_right) body))) = for_loop tree right condition next next_right body

abbrev pub for_parts : ℕ → Reader StatementTree → Reader For
for_parts below read =
    past (codes "(") (pair (setting below) (past (codes ";") (pair (value below) (past (codes ";")
    (pair (setting below) (past (codes ")") read))))))

abbrev pub delayed_of : Both DelayTree StatementTree → StatementTree
delayed_of (both wait body) = delay wait body

-- Events

abbrev pub term_of : Both (Option Edge) Text → TermTree
term_of (both kind letters) = record { edge = kind; name = letters }

abbrev pub term : Reader TermTree
term = map_tree term_of (pair (maybe (is_meant edge_of) (word_as edge_of)) name_word)

abbrev pub further_of : Both Bool TermTree → FurtherTerm
further_of (both comma tree) = record { by_comma = comma; term = tree }

abbrev pub further_term : Reader FurtherTerm
further_term = map_tree further_of (pair (word_as comma_of) term)

abbrev pub Terms : Type 0
Terms = Both (Both TermTree (List FurtherTerm)) (Unit {0})

abbrev pub Event : Type 0
Event = Either Text (Either (Unit {0}) (Either (Unit {0}) Terms))

abbrev pub event_of : Event → EventTree
event_of (one_way letters) = by_event letters
event_of (other_way (one_way end)) = by_any
event_of (other_way (other_way (one_way end))) = by_any_enclosed
event_of (other_way (other_way (other_way (both (both tree more) end)))) = by_terms tree more

-- behind @ (
abbrev pub enclosed_event : Reader (Either (Unit {0}) Terms)
enclosed_event =
    either (is_front (codes "*")) (past (codes "*") (word_only (codes ")")))
    (pair (pair term (many (is_meant comma_of) (λ list. further_term))) (word_only (codes ")")))

-- behind @
abbrev pub control : Reader EventTree
control =
    map_tree event_of (either (is_word is_name) name_word (either (is_front (codes "*")) (word_only (codes "*"))
    (past (codes "(") enclosed_event)))

abbrev pub event_body_of : Both EventTree StatementTree → StatementTree
event_body_of (both kind body) = event kind body

-- Blocks

abbrev pub statements_in : List StatementTree → StatementTrees
statements_in [] = no_statement
statements_in (tree ∷ more) = first_statement tree (statements_in more)

-- the name of a block, and its statements before end
abbrev pub Block : Type 0
Block = Both (Option Text) (Both (List StatementTree) (Unit {0}))

abbrev pub block_of : Block → StatementTree
block_of (both label (both list end)) = block label (statements_in list)

abbrev pub block_name : Reader (Option Text)
block_name = maybe (is_front (codes ":")) (past (codes ":") name_word)

abbrev pub ended_statements : Reader StatementTree → Reader (Both (List StatementTree) (Unit {0}))
ended_statements read = pair (many (λ next. not (is_front (codes "end") next)) (λ list. read)) (word_only (codes "end"))

abbrev pub block_parts : Reader StatementTree → Reader Block
block_parts read = pair block_name (ended_statements read)

-- Cases

abbrev pub has_default : List BranchTree → Bool
has_default [] = false
has_default (tree ∷ more) = is_default tree || has_default more

abbrev pub Branch : Type 0
Branch = Either (Both (Option (Unit {0})) StatementTree) (Both (List_of ExpressionTree) StatementTree)

abbrev pub branch_of : Branch → BranchTree
branch_of (one_way (both None body)) = default false body
branch_of (one_way (both (Some end) body)) = default true body
branch_of (other_way (both (both label more) body)) = labelled (first_part label (trees_in more)) body

-- default, colon, statement; none where one stands already
abbrev pub default_branch : Reader StatementTree → Bool → Reader (Both (Option (Unit {0})) StatementTree)
default_branch read true words = stop NoTree words
default_branch read false words =
    past (codes "default") (pair (maybe (is_front (codes ":")) (word_only (codes ":"))) read) words

-- a branch behind others
abbrev pub branch : ℕ → Reader StatementTree → List BranchTree → Reader BranchTree
branch below read list =
    map_tree branch_of (either (is_front (codes "default")) (default_branch read (has_default list))
    (pair (comma_list (value below)) (past (codes ":") read)))

abbrev pub branches_in : List BranchTree → BranchTrees
branches_in [] = no_branch
branches_in (tree ∷ more) = first_branch tree (branches_in more)

abbrev pub Case : Type 0
Case = Both ExpressionTree (Both (List_of BranchTree) (Unit {0}))

abbrev pub case_parts_of : CaseKind → Case → StatementTree
case_parts_of kind (both tree (both (both one more) end)) = case_of kind tree (first_branch one (branches_in more))

abbrev pub branches : ℕ → Reader StatementTree → Reader (List_of BranchTree)
branches below read =
    bind (branch below read [])
    (λ one. many (λ next. not (is_front (codes "endcase") next)) (λ list. branch below read (one ∷ list)))

abbrev pub case_parts : ℕ → Reader StatementTree → Reader Case
case_parts below read = guard_then below (pair (branches below read) (word_only (codes "endcase")))

-- Tasks

-- 17.1.1: an argument may be left out
abbrev pub begins_argument : Option Text → Bool
begins_argument next = not (is_front (codes ",") next || is_front (codes ")") next)

abbrev pub argument_of : Option (Either Text ExpressionTree) → ArgumentTree
argument_of None = left_out
argument_of (Some (one_way letters)) = quoted letters
argument_of (Some (other_way tree)) = printed tree

abbrev pub argument : ℕ → Reader ArgumentTree
argument below = map_tree argument_of (maybe begins_argument (either (is_word is_string) (word_as (meant_if is_string)) (value below)))

abbrev pub Arguments : Type 0
Arguments = Both (List_of ArgumentTree) (Unit {0})

-- ( argument, .. )
abbrev pub arguments : ℕ → Reader Arguments
arguments below = past (codes "(") (pair (comma_list (argument below)) (word_only (codes ")")))

abbrev pub print_of : Printing → Both Arguments (Unit {0}) → StatementTree
print_of kind (both (both (both one more) closing) end) = task (print kind (one ∷ more))

abbrev pub optional_print_of : Printing → Both (Option Arguments) (Unit {0}) → StatementTree
optional_print_of kind (both None end) = task (print kind [])
optional_print_of kind (both (Some (both (both one more) closing)) end) = task (print kind (one ∷ more))

abbrev pub optional_print : ℕ → Printing → Lead StatementTree
optional_print below kind =
    goes (map_tree (optional_print_of kind) (pair (maybe (is_front (codes "(")) (roomy below 1 (arguments below))) (word_only (codes ";"))))

abbrev pub print_lead : ℕ → Printing → Lead StatementTree
print_lead below (printing.Display base) = optional_print below (printing.Display base)
print_lead below (printing.Write base) = optional_print below (printing.Write base)
print_lead below (printing.Strobe base) = optional_print below (printing.Strobe base)
print_lead below (printing.Monitor base) = room below 1
    (goes (map_tree (print_of (printing.Monitor base)) (pair (arguments below) (word_only (codes ";")))))

abbrev pub idle_of : Idle → Both (Option Arguments) (Unit {0}) → StatementTree
idle_of kind (both None end) = task (idle kind [])
idle_of kind (both (Some (both (both one more) closing)) end) = task (idle kind (one ∷ more))

abbrev pub dump_file_of : Both Text (Unit {0}) → StatementTree
dump_file_of (both letters end) = task (dump_file letters)

abbrev pub dump_file_parts : Reader (Both Text (Unit {0}))
dump_file_parts = past (codes "(") (pair (word_as (meant_if is_string)) (past (codes ")") (word_only (codes ";"))))

abbrev pub path_of : List_of Text → List Text
path_of (both letters more) = letters ∷ more

abbrev pub path : Reader (List Text)
path = map_tree path_of (pair name_word (many (is_front (codes ".")) (λ list. past (codes ".") name_word)))

abbrev pub Selection : Type 0
Selection = Both Text (Both (List (List Text)) (Unit {0}))

abbrev pub selection_of : Selection → SelectionTree
selection_of (both digits (both paths end)) = record { levels = digits; paths = paths }

abbrev pub selection : Reader SelectionTree
selection =
    map_tree selection_of (past (codes "(") (pair number_word (pair (many (is_front (codes ",")) (λ list. past (codes ",") path))
    (word_only (codes ")")))))

abbrev pub dump_vars_of : Both (Option SelectionTree) (Unit {0}) → StatementTree
dump_vars_of (both selected end) = task (dump_vars selected)

abbrev pub end_of : Bool → Both (Option (Both Text (Unit {0}))) (Unit {0}) → StatementTree
end_of stops (both None end) = task (end_run stops None)
end_of stops (both (Some (both digits closing)) end) = task (end_run stops (Some digits))

abbrev pub end_parts : Reader (Both (Option (Both Text (Unit {0}))) (Unit {0}))
end_parts = pair (maybe (is_front (codes "(")) (past (codes "(") (pair number_word (word_only (codes ")")))))
    (word_only (codes ";"))

abbrev pub dump_of : Dumping → Unit {0} → StatementTree
dump_of kind end = task (dump kind)

abbrev pub trigger_of : Both Text (Unit {0}) → StatementTree
trigger_of (both letters end) = trigger letters

-- The statement that a word begins

abbrev pub statement_by : ℕ → Reader StatementTree → StatementStart → Lead StatementTree
statement_by below read start.Empty = goes (got empty)
statement_by below read start.Begin = goes (map_tree block_of (block_parts read))
statement_by below read start.Trigger = room below 1 (goes (map_tree trigger_of (pair name_word (word_only (codes ";")))))
statement_by below read start.If = room below 1 (goes (map_tree if_of (guard_then below (branches_of_if read))))
statement_by below read (start.Case kind) = room below 1 (goes (map_tree (case_parts_of kind) (case_parts below read)))
statement_by below read (start.Guarded kind) = room below 1 (goes (map_tree (guarded_of kind) (guard_then below read)))
statement_by below read start.Forever = room below 1 (goes (map_tree forever read))
statement_by below read start.For = room below 1 (goes (map_tree for_of (for_parts below read)))
statement_by below read start.Delay = room below 1 (goes (map_tree delayed_of (pair (amount below) read)))
statement_by below read start.Event = room below 1 (goes (map_tree event_body_of (pair control read)))
statement_by below read (start.Print kind) = print_lead below kind
statement_by below read (start.Idle kind) =
    goes (map_tree (idle_of kind) (pair (maybe (is_front (codes "(")) (roomy below 1 (arguments below))) (word_only (codes ";"))))
statement_by below read start.DumpFile = room below 1 (goes (map_tree dump_file_of dump_file_parts))
statement_by below read start.DumpVars =
    goes (map_tree dump_vars_of (pair (maybe (is_front (codes "(")) selection) (word_only (codes ";"))))
statement_by below read (start.Dump kind) = goes (map_tree (dump_of kind) (word_only (codes ";")))
statement_by below read (start.End stops) = goes (map_tree (end_of stops) end_parts)

abbrev pub lead_by : ℕ → Reader StatementTree → Option StatementStart → Lead StatementTree
lead_by below read None = refused
lead_by below read (Some kind) = statement_by below read kind

abbrev pub begins_statement : Text → Bool
begins_statement word = begins_target word || is_meant start_of (Some word)

-- a statement of so many levels at most
unfoldable pub statement : ℕ → Reader StatementTree
statement zero = by_word (λ word. if begins_statement word then lower else refused)
statement (suc below) =
    choose is_target (roomy below 1 (assignment below)) (by_word (λ word. lead_by below (statement below) (start_of word)))

-- where a statement ends: an else goes on
abbrev pub ends_statement : Option Text → Bool
ends_statement next = not (is_front (codes "else") next)

-- where this one ends: an else goes on from an if without one
abbrev pub ends_tree : StatementTree → Option Text → Bool
ends_tree tree next = not (ends_in_if tree && is_front (codes "else") next)
