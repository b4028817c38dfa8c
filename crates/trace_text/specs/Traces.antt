-- *product rule*: `Traces` (docs/FORMATS.md, "Traces"): the trace of a run, a line for each step, each slot end and the run's end.
use Rattle.std.specs.Prelude.{◌≡◌, ◌≤◌, ◌⊎◌, ℕ, zero, suc, ◌==◌, ◌&&◌, is_none, Bool, if◌then◌else◌, List, [], ◌∷◌, ◌++◌, Option, None, Some, length, slice_get, codes, decimal}
use Rattle.std.specs.List.{list_any}
use Rattle.vsrc.specs.declared.expanded.Place.{Place}
use Rattle.vbits.specs.Vectors.{Vector}
use Rattle.vdesign.specs.Design.{Variable, Design}
use Rattle.vdesign.specs.declared.dump.DumpCommand.{DumpCommand}
use Rattle.vdesign.specs.declared.dump.DumpCommand.TheVariants.{Vars, Off, On, All}
use Rattle.sched_core.specs.Rules.{choice_at, IsRun}
use Rattle.sched_core.specs.declared.end.Cause.{Cause}
use Rattle.sched_core.specs.declared.end.Cause.TheVariants as cause
use Rattle.sched_core.specs.declared.end.End.{End}
use Rattle.vmodel.specs.declared.choice.Choice.{Choice}
use Rattle.vmodel.specs.declared.choice.Choice.TheVariants.{Run, Update, Advance}
use Rattle.vmodel.specs.declared.effect.Disposition.{Disposition}
use Rattle.vmodel.specs.declared.effect.Disposition.TheVariants.{Runnable, Delayed, Waiting}
use Rattle.vmodel.specs.Effects.{Effect}
use Rattle.vmodel.specs.declared.effect.Post.{Post}
use Rattle.vmodel.specs.declared.effect.Shown.{Shown}
use Rattle.vmodel.specs.declared.effect.Shown.TheVariants.{Commands, Prints, Watches}
use Rattle.vmodel.specs.declared.part.Part.{Part}
use Rattle.vmodel.specs.declared.part.Part.TheVariants.{Whole, Bits}
use Rattle.vmodel.specs.declared.frame.Frame.{Frame}
use Rattle.vmodel.specs.State.{State}
use Rattle.vmodel.specs.Choices.{choices}
use Rattle.vmodel.specs.Holding.{held_by_choice}
use Rattle.vmodel.specs.Parts.{value_in, with_parts}
use Rattle.vmodel.specs.Step.{Transition, place_of, continuation_of, next}
use Rattle.vmodel.specs.Run.{Setting, rules_of, opening_of, state_after, is_mark, end_of}
use Rattle.vcd_text.specs.DumpText.{line}
use Rattle.value_text.specs.ValueText.{binary}

-- a word and a number behind it
abbrev pub word_and_number : List ℕ → ℕ → List ℕ
word_and_number word n = word ++ decimal n

-- ---- who takes a step

-- where the statement of an action begins, if that is known
abbrev pub known_place : Option (Option Place) → Option Place
known_place None = None
known_place (Some place) = place

-- of the action that a process comes to first; the places go by those of the actions in the design's table
abbrev pub first_origin : List (Option Place) → List Frame → Option Place
first_origin origins [] = None
first_origin origins (frame ∷ after) = known_place (slice_get origins (place_of frame))

abbrev pub origin_of : List (Option Place) → State → Choice → Option Place
origin_of origins s (Run p) = first_origin origins (continuation_of (slice_get s.processes p))
origin_of origins s Update = None
origin_of origins s Advance = None

abbrev pub place_text : Option Place → List ℕ
place_text None = []
place_text (Some place) = word_and_number (codes " at ") place.file ++ word_and_number (codes ":") place.line

abbrev pub choice_text : Choice → Option Place → List ℕ
choice_text (Run p) place = word_and_number (codes " process ") p ++ place_text place
choice_text Update place = codes " update"
choice_text Advance place = []

abbrev pub numbers_text : List ℕ → List ℕ
numbers_text [] = []
numbers_text (p ∷ ps) = word_and_number (codes " ") p ++ numbers_text ps

-- the processes that a choice holds back, where it holds back one or more
abbrev pub held_text : List ℕ → List ℕ
held_text [] = []
held_text (p ∷ ps) = codes " holding" ++ numbers_text (p ∷ ps)

-- the front of the line of step n, of choice i, which is c
abbrev pub front_text : List (Option Place) → ℕ → State → ℕ → Choice → List ℕ
front_text origins n s i c =
    word_and_number (codes "step ") n ++ word_and_number (codes " time ") s.queue.time ++ word_and_number (codes " choice ") i ++ word_and_number (codes " of ") (length (choices s))
    ++ held_text (held_by_choice s.held_back s.queue i) ++ choice_text c (origin_of origins s c)

-- ---- what a step does

abbrev pub name_of : Option Variable → List ℕ
name_of None = []
name_of (Some variable) = variable.name

abbrev pub name_text : Design → ℕ → List ℕ
name_text design n = codes " " ++ name_of (slice_get design.variables n)

abbrev pub value_text : List Vector → ℕ → List ℕ
value_text values n = codes " " ++ binary (value_in values n)

-- variable n gets a value in place of the one before
abbrev pub write_text : Design → List Vector → List Part → ℕ → List ℕ
write_text design values parts n = codes " write" ++ name_text design n ++ value_text values n ++ value_text (with_parts parts values) n

-- it would get this one, if the update were written now
abbrev pub post_text : Design → List Vector → List Part → ℕ → List ℕ
post_text design values parts n = codes " post" ++ name_text design n ++ value_text (with_parts parts values) n

abbrev pub variable_of : Part → ℕ
variable_of (Whole n value) = n
variable_of (Bits n low value) = n

abbrev pub has_part : List Part → ℕ → Bool
has_part parts n = list_any (λ part. variable_of part == n) parts

-- what is told of each variable once, in the order of their first parts; the others came before
abbrev pub each_text : (ℕ → List ℕ) → List Part → List Part → List ℕ
each_text told others [] = []
each_text told others (part ∷ parts) =
    (if has_part others (variable_of part) then [] else told (variable_of part)) ++ each_text told (others ++ part ∷ []) parts

abbrev pub writes_text : Design → List Vector → List Part → List ℕ
writes_text design values parts = each_text (write_text design values parts) [] parts

abbrev pub posts_text : Design → List Vector → List Part → List ℕ
posts_text design values parts = each_text (post_text design values parts) [] parts

abbrev pub posted_text : Design → List Vector → Option Post → List ℕ
posted_text design values None = []
posted_text design values (Some post) = posts_text design values post.parts

abbrev pub triggered_text : Option ℕ → List ℕ
triggered_text None = []
triggered_text (Some event) = codes " trigger"

abbrev pub disposition_text : Disposition → List ℕ
disposition_text Runnable = []
disposition_text (Delayed amount) = word_and_number (codes " delay ") amount
disposition_text (Waiting place) = codes " wait"

abbrev pub command_word : DumpCommand → List ℕ
command_word (Vars place) = codes " dumpvars"
command_word Off = codes " dumpoff"
command_word On = codes " dumpon"
command_word All = codes " dumpall"

abbrev pub shown_word : Shown → List ℕ
shown_word (Commands command) = command_word command
shown_word (Prints place) = codes " display"
shown_word (Watches place) = codes " monitor"

abbrev pub shown_text : Option Shown → List ℕ
shown_text None = []
shown_text (Some shown) = shown_word shown

abbrev pub strobed_text : Option ℕ → List ℕ
strobed_text None = []
strobed_text (Some place) = codes " strobe"

abbrev pub cause_word : Cause → List ℕ
cause_word cause.Finish = codes " finish"
cause_word cause.Stop = codes " stop"
cause_word cause.Quiet = codes " quiet"
cause_word cause.Limit = codes " limit"

abbrev pub cause_text : Option Cause → List ℕ
cause_text None = []
cause_text (Some cause) = cause_word cause

-- what a step did, from these values on
abbrev pub effect_text : Design → List Vector → Effect → List ℕ
effect_text design values effect =
    writes_text design values effect.wrote ++ posted_text design values effect.posted ++ triggered_text effect.triggered
    ++ disposition_text effect.disposition ++ shown_text effect.shown ++ strobed_text effect.strobed ++ cause_text effect.cause

-- the same of an advance: the time from here on
abbrev pub done_text : Design → List Vector → Choice → Effect → ℕ → List ℕ
done_text design values (Run p) effect time = effect_text design values effect
done_text design values Update effect time = effect_text design values effect
done_text design values Advance effect time = word_and_number (codes " advance ") time

-- ---- lines

-- step n, from a state on, of choice i, which is c
abbrev pub step_line : Design → List (Option Place) → ℕ → State → ℕ → Choice → Transition → List ℕ
step_line design origins n s i c transition =
    line (front_text origins n s i c ++ done_text design s.values c transition.effect transition.state.queue.time)

-- where the slot has ended in a state, and not the run
abbrev pub slot_line : State → List ℕ
slot_line s = if is_mark s && is_none s.cause then line (word_and_number (codes "slot ") s.queue.time) else []

abbrev pub end_line : End → List ℕ
end_line end = line (word_and_number (codes "end ") end.time ++ cause_word end.cause)

-- ---- the trace

-- the lines of step n, of choice i, if there is such a choice
abbrev pub choice_lines : Design → List (Option Place) → ℕ → State → ℕ → Option Choice → Transition → List ℕ
choice_lines design origins n s i None transition = []
choice_lines design origins n s i (Some c) transition = step_line design origins n s i c transition ++ slot_line transition.state

abbrev pub step_lines : Design → List (Option Place) → ℕ → State → ℕ → List ℕ
step_lines design origins n s i = choice_lines design origins n s i (slice_get (choices s) i) (next design s i)

-- the lines of the first n steps of the run under the log
abbrev pub steps_text : Setting → List (Option Place) → List (ℕ × ℕ) → ℕ → List ℕ
steps_text setting origins log zero = []
steps_text setting origins log (suc n) =
    steps_text setting origins log n ++ step_lines setting.design origins n (state_after setting log n) (choice_at log n)

-- the trace of the run under the log, of n steps
abbrev pub trace : Setting → List (Option Place) → List (ℕ × ℕ) → ℕ → List ℕ
trace setting origins log n = slot_line (opening_of setting) ++ steps_text setting origins log n ++ end_line (end_of (state_after setting log n))

-- the run under the log is told so far: it takes n steps, no more than allowed, and then as many are taken, or there is no such choice
pub record IsTold (setting : Setting) (log : List (ℕ × ℕ)) (steps n : ℕ) : Type 0 where
  pub within : n ≤ steps
  pub run : IsRun (rules_of setting) log n
  pub last : (n ≡ steps) ⊎ (length (choices (state_after setting log n)) ≤ choice_at log n)
