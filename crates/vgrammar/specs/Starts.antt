-- *internal*: What the first word of a statement begins (IEEE 1364-2005, A.6).
use Rattle.std.specs.Prelude.{Bool, true, false, ◌||◌, if◌then◌else◌, List, [], ◌∷◌, Option, Some, None, codes}
use Rattle.std.specs.Str.{bytes_eq}
use Rattle.vwords.specs.Words.{Text, is_name}
use Rattle.vast.specs.Statements.{case_word, edge_word, print_word, idle_word, dump_word, end_word}
use Rattle.vwords.specs.declared.cases.CaseKind.TheVariants as case_kind
use Rattle.vast.specs.declared.statement.Edge.{Edge}
use Rattle.vast.specs.declared.statement.Edge.TheVariants as edge
use Rattle.vast.specs.declared.statement.Base.TheVariants as bases
use Rattle.vast.specs.declared.statement.Printing.TheVariants as printing
use Rattle.vast.specs.declared.statement.Idle.TheVariants as idles
use Rattle.vast.specs.declared.statement.Dumping.TheVariants as dumping
use Rattle.vexpr_parse.specs.Words.{by_spelling}
use Rattle.vgrammar.specs.declared.start.Guard.{Guard}
use Rattle.vgrammar.specs.declared.start.Guard.TheVariants as guard
use Rattle.vgrammar.specs.declared.start.StatementStart.{StatementStart}
use Rattle.vgrammar.specs.declared.start.StatementStart.TheVariants as start

abbrev pub guard_word : Guard → Text
guard_word guard.While = codes "while"
guard_word guard.Repeat = codes "repeat"
guard_word guard.Wait = codes "wait"

abbrev pub start_word : StatementStart → Text
start_word start.Empty = codes ";"
start_word start.Begin = codes "begin"
start_word start.Trigger = codes "->"
start_word start.If = codes "if"
start_word (start.Case kind) = case_word kind
start_word (start.Guarded kind) = guard_word kind
start_word start.Forever = codes "forever"
start_word start.For = codes "for"
start_word start.Delay = codes "#"
start_word start.Event = codes "@"
start_word (start.Print kind) = print_word kind
start_word (start.Idle kind) = idle_word kind
start_word start.DumpFile = codes "$dumpfile"
start_word start.DumpVars = codes "$dumpvars"
start_word (start.Dump kind) = dump_word kind
start_word (start.End stops) = end_word stops

abbrev pub statement_starts : List StatementStart
statement_starts =
    start.Empty ∷ start.Begin ∷ start.Trigger ∷ start.If ∷ start.Case case_kind.Exact
    ∷ start.Case case_kind.Z ∷ start.Case case_kind.X
    ∷ start.Guarded guard.While ∷ start.Guarded guard.Repeat ∷ start.Guarded guard.Wait ∷ start.Forever ∷ start.For ∷ start.Delay
    ∷ start.Event
    ∷ start.Print (printing.Display bases.Decimal) ∷ start.Print (printing.Display bases.Binary)
    ∷ start.Print (printing.Display bases.Octal) ∷ start.Print (printing.Display bases.Hexadecimal)
    ∷ start.Print (printing.Write bases.Decimal) ∷ start.Print (printing.Write bases.Binary)
    ∷ start.Print (printing.Write bases.Octal) ∷ start.Print (printing.Write bases.Hexadecimal)
    ∷ start.Print (printing.Strobe bases.Decimal) ∷ start.Print (printing.Strobe bases.Binary)
    ∷ start.Print (printing.Strobe bases.Octal) ∷ start.Print (printing.Strobe bases.Hexadecimal)
    ∷ start.Print (printing.Monitor bases.Decimal) ∷ start.Print (printing.Monitor bases.Binary)
    ∷ start.Print (printing.Monitor bases.Octal) ∷ start.Print (printing.Monitor bases.Hexadecimal)
    ∷ start.Idle (idles.File (printing.Display bases.Decimal)) ∷ start.Idle (idles.File (printing.Display bases.Binary))
    ∷ start.Idle (idles.File (printing.Display bases.Octal)) ∷ start.Idle (idles.File (printing.Display bases.Hexadecimal))
    ∷ start.Idle (idles.File (printing.Write bases.Decimal)) ∷ start.Idle (idles.File (printing.Write bases.Binary))
    ∷ start.Idle (idles.File (printing.Write bases.Octal)) ∷ start.Idle (idles.File (printing.Write bases.Hexadecimal))
    ∷ start.Idle (idles.File (printing.Strobe bases.Decimal)) ∷ start.Idle (idles.File (printing.Strobe bases.Binary))
    ∷ start.Idle (idles.File (printing.Strobe bases.Octal)) ∷ start.Idle (idles.File (printing.Strobe bases.Hexadecimal))
    ∷ start.Idle (idles.File (printing.Monitor bases.Decimal)) ∷ start.Idle (idles.File (printing.Monitor bases.Binary))
    ∷ start.Idle (idles.File (printing.Monitor bases.Octal)) ∷ start.Idle (idles.File (printing.Monitor bases.Hexadecimal))
    ∷ start.Idle idles.Open ∷ start.Idle idles.Close ∷ start.Idle idles.Flush ∷ start.Idle idles.TimeFormat
    ∷ start.Idle idles.PrintTimescale
    ∷ start.DumpFile ∷ start.DumpVars
    ∷ start.Dump dumping.On ∷ start.Dump dumping.Off ∷ start.Dump dumping.All ∷ start.Dump dumping.Flush
    ∷ start.End true ∷ start.End false ∷ []

-- what a statement's first word begins, if it isn't an assignment
unfoldable pub start_of : Text → Option StatementStart
start_of word = by_spelling start_word statement_starts word

-- A.8.5: whether the word begins what an assignment writes to
unfoldable pub begins_target : Text → Bool
begins_target word = is_name word || bytes_eq (codes "{") word

abbrev pub is_target : Option Text → Bool
is_target None = false
is_target (Some word) = begins_target word

-- what a word that passes the test means
abbrev pub meant_if : (Text → Bool) → Text → Option Text
meant_if test word = if test word then Some word else None

abbrev pub is_word : (Text → Bool) → Option Text → Bool
is_word test None = false
is_word test (Some word) = test word

-- the sign of an assignment; whether it is a nonblocking one
abbrev pub sign_word : Bool → Text
sign_word later = if later then codes "<=" else codes "="

abbrev pub sign_of : Text → Option Bool
sign_of word = by_spelling sign_word (false ∷ true ∷ []) word

abbrev pub edge_of : Text → Option Edge
edge_of word = by_spelling edge_word (edge.Rising ∷ edge.Falling ∷ []) word

-- what stands between two terms; whether it is a comma
abbrev pub comma_word : Bool → Text
comma_word comma = if comma then codes "," else codes "or"

abbrev pub comma_of : Text → Option Bool
comma_of word = by_spelling comma_word (true ∷ false ∷ []) word

-- whether the word means something
abbrev pub is_some_meaning : {A : Type 0} → Option A → Bool
is_some_meaning None = false
is_some_meaning (Some meaning) = true

abbrev pub is_meant : {A : Type 0} → (Text → Option A) → Option Text → Bool
is_meant meaning None = false
is_meant meaning (Some word) = is_some_meaning (meaning word)
