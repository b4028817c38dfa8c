-- *product rule*: What a step reads and what it changes (crates/cause/README.md): it reads the variables that are named in what its action
-- evaluates; it changes a variable that has another value after it than before, a wait that it wakes, and the end of the run where it ends it.
use Rattle.std.specs.Prelude.{◌==◌, ◌||◌, ◌&&◌, Bool, true, false, if◌then◌else◌, List, [], ◌∷◌, ◌++◌, Option, Some, None}
use Rattle.std.specs.List.{flat_map, list_any}
use Rattle.vdesign.specs.Expressions.{ExpressionTree, constant, variable, bit, bit_of, part, time, conversion, apply, combine, conditional, joined, repeated}
use Rattle.vdesign.specs.declared.action.Action.{Action}
use Rattle.vdesign.specs.declared.action.Action.TheVariants.{Assign, Nonblocking, AssignDelayed, NonblockingDelayed, Trigger, Test, Case, While, Repeat, Forever, Delay, EventControl, Wait as WaitFor, ContinuousAssign, Print, DumpVars, Dump, NoOperation, Finish, Stop}
use Rattle.vdesign.specs.declared.action.Branch.{Branch}
use Rattle.vdesign.specs.declared.action.Target.{Target}
use Rattle.vdesign.specs.declared.action.Target.TheVariants.{Whole, Bit, Part}
use Rattle.vdesign.specs.declared.action.Edge.TheVariants.{Any}
use Rattle.vbits.specs.Vectors.{Vector}
use Rattle.sched_core.specs.declared.end.Cause.{Cause}
use Rattle.vmodel.specs.declared.part.Part.{Part as Written}
use Rattle.vmodel.specs.Inner.{variable_of}
use Rattle.vmodel.specs.Parts.{value_in}
use Rattle.vmodel.specs.Waking.{is_edge}
use Rattle.vdesign.specs.declared.print.Piece.{Piece}
use Rattle.vdesign.specs.declared.print.Piece.TheVariants as pieces
use Rattle.vdesign.specs.declared.print.When.{When}
use Rattle.vdesign.specs.declared.print.When.TheVariants.{Now, AtSlotEnd, AtChange}
use Rattle.footprints.specs.declared.thing.Thing.{Thing}
use Rattle.footprints.specs.declared.thing.Thing.TheVariants.{Variable, Wait, End}
use Rattle.footprints.specs.declared.thing.Awaited.{Awaited}
use Rattle.footprints.specs.declared.thing.Awaited.TheVariants as awaited
use Rattle.footprints.specs.declared.footprint.Footprint.{Footprint}

-- ---- what is named

-- clause 5: the variables that an expression names
abbrev pub named_in : ExpressionTree → List Thing
named_in (constant c) = []
named_in (variable n) = Variable n ∷ []
named_in (bit n index) = Variable n ∷ named_in index
named_in (bit_of value bounds index) = named_in index
named_in (part n bounds) = Variable n ∷ []
named_in time = []
named_in (conversion signed operand) = named_in operand
named_in (apply operator operand) = named_in operand
named_in (combine operator left right) = named_in left ++ named_in right
named_in (conditional condition when_true when_false) = named_in condition ++ (named_in when_true ++ named_in when_false)
named_in (joined left right) = named_in left ++ named_in right
named_in (repeated count operand) = named_in operand

-- 6.2: what the index of a target names
abbrev pub named_in_target : Target → List Thing
named_in_target (Whole n) = []
named_in_target (Bit n index) = named_in index
named_in_target (Part n bounds) = []

-- 9.5: what the item of a branch names
abbrev pub named_in_branch : Branch → List Thing
named_in_branch branch = named_in branch.item

-- 17.1: what a piece of a line shows
abbrev pub named_in_piece : Piece → List Thing
named_in_piece (pieces.Text text) = []
named_in_piece (pieces.Value form watched value) = named_in value

-- 17.1: `$display` alone evaluates its arguments in its step
abbrev pub named_in_print : When → List Piece → List Thing
named_in_print Now list = flat_map named_in_piece list
named_in_print AtSlotEnd list = []
named_in_print AtChange list = []

-- ---- what a step of an action reads

-- 6.2, 9.2: what names these things and goes to targets
abbrev pub with_indices : List Thing → List Target → List Thing
with_indices things targets = things ++ flat_map named_in_target targets

-- 9.7.7: a suspended assignment takes its value in its first step, which holds it from then on, and writes in its second
abbrev pub reads_of_suspended : Bool → List Thing → List Target → List Thing
reads_of_suspended holds things targets = if holds then things else with_indices [] targets

-- clause 9: what a step of an action evaluates; `holds`: the process holds a value after it. Of a nonblocking assignment its value, its delay
-- and its indices (9.2.2). What a wait waits for isn't evaluated (9.7.2), but the condition of `wait` is (9.7.6). Each turn of a `repeat` is a
-- step of it. What prints reads that the run goes on
abbrev pub reads_of : Action → Bool → List Thing
reads_of (Assign targets value) holds = with_indices (named_in value) targets
reads_of (Nonblocking targets value) holds = with_indices (named_in value) targets
reads_of (AssignDelayed amount targets value) holds = reads_of_suspended holds (named_in amount ++ named_in value) targets
reads_of (NonblockingDelayed amount targets value) holds = with_indices (named_in amount ++ named_in value) targets
reads_of (Trigger event) holds = []
reads_of (Test condition when_true otherwise) holds = named_in condition
reads_of (Case kind value branches otherwise) holds = named_in value ++ flat_map named_in_branch branches
reads_of (While condition body) holds = named_in condition
reads_of (Repeat count body) holds = named_in count
reads_of (Forever body) holds = []
reads_of (Delay amount body) holds = named_in amount
reads_of (EventControl list body) holds = []
reads_of (WaitFor condition list body) holds = named_in condition
reads_of (ContinuousAssign targets value list) holds = with_indices (named_in value) targets
reads_of (Print when list) holds = End ∷ named_in_print when list
reads_of (DumpVars selection) holds = []
reads_of (Dump asked) holds = []
reads_of NoOperation holds = []
reads_of Finish holds = []
reads_of Stop holds = []

-- of the action at a place of the design's table, if there is one
abbrev pub reads_at : Option Action → Bool → List Thing
reads_at None holds = []
reads_at (Some action) holds = reads_of action holds

-- ---- what a step changes

-- of the variables of these parts those that have another value after it than before
abbrev pub changed_by : List Vector → List Vector → List Written → List Thing
changed_by before after [] = []
changed_by before after (one ∷ parts) =
    if is_edge Any (value_in before (variable_of one)) (value_in after (variable_of one)) then Variable (variable_of one) ∷ changed_by before after parts
    else changed_by before after parts

-- what changes something reads that the run goes on
abbrev pub while_it_goes : List Thing → List Thing
while_it_goes [] = []
while_it_goes (thing ∷ things) = End ∷ []

-- 17.4: `$finish` and `$stop` end the run
abbrev pub ended_by : Option Cause → List Thing
ended_by None = []
ended_by (Some cause) = End ∷ []

-- ---- what touches

abbrev pub same_awaited : Awaited → Awaited → Bool
same_awaited (awaited.Variable n) (awaited.Variable m) = n == m
same_awaited (awaited.Event n) (awaited.Event m) = n == m
same_awaited _ _ = false

abbrev pub same_thing : Thing → Thing → Bool
same_thing (Variable n) (Variable m) = n == m
same_thing (Wait process number of) (Wait same other what) = (process == same && number == other) && same_awaited of what
same_thing End End = true
same_thing _ _ = false

abbrev pub is_in : Thing → List Thing → Bool
is_in thing things = list_any (same_thing thing) things

-- something stands in both lists
abbrev pub meet : List Thing → List Thing → Bool
meet things others = list_any (λ thing. is_in thing others) things

-- one of them changes something that the other reads or changes
abbrev pub touch : Footprint → Footprint → Bool
touch one other = (meet one.changes other.reads || meet one.changes other.changes) || meet other.changes one.reads

-- of these things those that stand in another list
abbrev pub common : List Thing → List Thing → List Thing
common [] others = []
common (thing ∷ things) others = if is_in thing others then thing ∷ common things others else common things others

-- what one changes and the other reads or changes
abbrev pub shared_things : Footprint → Footprint → List Thing
shared_things one other = common one.changes other.reads ++ (common one.changes other.changes ++ common other.changes one.reads)
