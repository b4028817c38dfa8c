-- *internal*: What is read after the first words of statements.
use Rattle.std.specs.Prelude.{ℕ, List, [], codes}
use Rattle.vast.specs.Statements.{StatementTree, ArgumentTree, empty, task, print, idle}
use Rattle.vast.specs.declared.statement.Printing.{Printing}
use Rattle.vast.specs.declared.statement.Printing.TheVariants as printing
use Rattle.vast.specs.declared.statement.Idle.{Idle}
use Rattle.vexpr_parse.specs.Readers.{Reader, got, and_then, by_word, past, choose, is_front}
use Rattle.vgrammar.specs.declared.start.StatementStart.{StatementStart}
use Rattle.vgrammar.specs.Parts.{map_tree, pair, maybe, roomy}
use Rattle.vgrammar.specs.Starts.{start_of, is_target}
use Rattle.vgrammar.specs.Statements.{word_only, arguments, print_of, optional_print_of, idle_of, statement, statement_by, lead_by, assignment}
use Rattle.vgrammar.specs.declared.start.StatementStart.TheVariants as start
use Rattle.vstatement_parse.specs.Gives.{arguments_within, trigger_at, dump_at, dump_file_at, dump_vars_at, end_at, guarded_at, forever_at, delayed_at, event_at, block_at}
use Rattle.vstatement_parse.specs.Rounds.{if_at, for_at}
use Rattle.vstatement_parse.specs.Cases.{case_at}

-- behind $display, $write, or $strobe
abbrev pub print_at : Printing → ℕ → Reader StatementTree
print_at kind below =
    map_tree (optional_print_of kind)
    (pair (maybe (is_front (codes "(")) (roomy below 1 (arguments below))) (word_only (codes ";")))

-- behind $monitor
abbrev pub monitor_at : Printing → ℕ → Reader StatementTree
monitor_at kind below = map_tree (print_of kind) (pair (arguments below) (word_only (codes ";")))

-- the arguments as a list: of a task that wants some, and of one that doesn't
abbrev pub required_arguments : ℕ → Reader (List ArgumentTree)
required_arguments below = past (codes "(") (arguments_within below)

abbrev pub optional_arguments : ℕ → Reader (List ArgumentTree)
optional_arguments below = choose (is_front (codes "(")) (roomy below 1 (required_arguments below)) (got [])

abbrev pub printed_with : Printing → Reader (List ArgumentTree) → Reader StatementTree
printed_with kind read words = and_then (read words) (λ all. past (codes ";") (got (task (print kind all))))

-- behind a task without effect
abbrev pub idle_at : Idle → ℕ → Reader StatementTree
idle_at kind below =
    map_tree (idle_of kind)
    (pair (maybe (is_front (codes "(")) (roomy below 1 (arguments below))) (word_only (codes ";")))

abbrev pub idle_with : Idle → Reader (List ArgumentTree) → Reader StatementTree
idle_with kind read words = and_then (read words) (λ all. past (codes ";") (got (task (idle kind all))))

-- a statement that begins so
abbrev pub begun_at : ℕ → StatementStart → Reader StatementTree
begun_at below start = by_word (λ word. statement_by below (statement below) start)

-- a statement that begins with no target
abbrev pub other_at : ℕ → Reader StatementTree
other_at below = by_word (λ word. lead_by below (statement below) (start_of word))

-- a statement with so many levels below it
abbrev pub statement_at : ℕ → Reader StatementTree
statement_at below = choose is_target (roomy below 1 (assignment below)) (other_at below)

-- how many levels must be left below the first word
abbrev pub levels_of : StatementStart → ℕ
levels_of start.Empty = 0
levels_of start.Begin = 0
levels_of start.Trigger = 1
levels_of start.If = 1
levels_of (start.Case kind) = 1
levels_of (start.Guarded kind) = 1
levels_of start.Forever = 1
levels_of start.For = 1
levels_of start.Delay = 1
levels_of start.Event = 1
levels_of (start.Print (printing.Display base)) = 0
levels_of (start.Print (printing.Write base)) = 0
levels_of (start.Print (printing.Strobe base)) = 0
levels_of (start.Print (printing.Monitor base)) = 1
levels_of (start.Idle kind) = 0
levels_of start.DumpFile = 1
levels_of start.DumpVars = 0
levels_of (start.Dump kind) = 0
levels_of (start.End stops) = 0

-- behind the first word
abbrev pub behind_word : ℕ → StatementStart → Reader StatementTree
behind_word below start.Empty = got empty
behind_word below start.Begin = block_at below
behind_word below start.Trigger = trigger_at
behind_word below start.If = if_at below
behind_word below (start.Case kind) = case_at below kind
behind_word below (start.Guarded kind) = guarded_at below kind
behind_word below start.Forever = forever_at below
behind_word below start.For = for_at below
behind_word below start.Delay = delayed_at below
behind_word below start.Event = event_at below
behind_word below (start.Print (printing.Display base)) = print_at (printing.Display base) below
behind_word below (start.Print (printing.Write base)) = print_at (printing.Write base) below
behind_word below (start.Print (printing.Strobe base)) = print_at (printing.Strobe base) below
behind_word below (start.Print (printing.Monitor base)) = monitor_at (printing.Monitor base) below
behind_word below (start.Idle kind) = idle_at kind below
behind_word below start.DumpFile = dump_file_at
behind_word below start.DumpVars = dump_vars_at
behind_word below (start.Dump kind) = dump_at kind
behind_word below (start.End stops) = end_at stops
