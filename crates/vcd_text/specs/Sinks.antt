-- *internal*: A sink that writes the dump: what it keeps from item to item, and what taking them makes of it.
use Rattle.std.specs.Prelude.{◌≡◌, ℕ, ◌==◌, if◌then◌else◌, List, [], ◌∷◌, ◌++◌, codes, true, Bool, Option, Some, None}
use Rattle.vbits.specs.Vectors.{Vector}
use Rattle.vdesign.specs.Design.{Design}
use Rattle.vmodel.specs.History.{History}
use Rattle.vmodel.specs.declared.history.Item.{Item}
use Rattle.vmodel.specs.declared.history.Item.TheVariants.{SlotEnd, Dump, Line, Monitor}
use Rattle.vdesign.specs.declared.dump.DumpCommand.{DumpCommand}
use Rattle.vcd_text.specs.DumpText.{all_at, changed_part, command_parts, has_start, header, on_after, parts_text, scope_marks, time_line, variable_marks, vcd}
use Rattle.byte_sinks.specs.ByteSinks.{Stopped}
use Rattle.basis.specs.declared.memory.OrMemory.{OrMemory}
use Rattle.basis.specs.declared.memory.OrMemory.TheVariants.{Fault, Memory}
use Rattle.vcd_text.specs.declared.progress.Progress.{Progress}
use Rattle.vcd_text.specs.declared.progress.Progress.TheVariants.{Waiting, Started, Failed}
use Rattle.vcd_text.specs.declared.sink.DumpSink.{DumpSink}

-- ---- from item to item

-- a text behind its time, where there is one
abbrev pub text_at_time : ℕ → List ℕ → List ℕ
text_at_time t [] = []
text_at_time t (c ∷ cs) = time_line t ++ (c ∷ cs)

-- the last time line after it
abbrev pub last_line : ℕ → ℕ → List ℕ → ℕ
last_line old t [] = old
last_line old t (c ∷ cs) = t

-- a header and the first slot's end, of the variables that are marked
abbrev pub started_text : List ℕ → List Bool → List DumpCommand → ℕ → List Vector → List ℕ
started_text head marks commands t values =
    head ++ time_line t ++ parts_text (all_at (codes "$dumpvars") marks values ∷ command_parts marks true commands values)

-- below any header this is the text of the start
abbrev pub IsStart : List ℕ → List Bool → List DumpCommand → ℕ → List Vector → Type 0
IsStart text marks commands t values = (head : List ℕ) → head ++ text ≡ started_text head marks commands t values

-- the header and the first slot's end, of what its commands select
abbrev pub start_text : Design → List DumpCommand → ℕ → List Vector → List ℕ
start_text design commands t values =
    started_text (header design (scope_marks design commands)) (variable_marks design commands) commands t values

-- the lines of a later slot's end, of a dump that was on or off before it
abbrev pub slot_lines : Bool → List Bool → List Vector → List DumpCommand → List Vector → List ℕ
slot_lines on marks old commands new = parts_text (changed_part marks on old new ++ command_parts marks on commands new)

-- what a later slot's end adds
abbrev pub slot_text : ℕ → Bool → List Bool → List Vector → List DumpCommand → List Vector → List ℕ
slot_text t on marks old commands new = text_at_time t (slot_lines on marks old commands new)

-- the last time line after it
abbrev pub line_after_slot : ℕ → ℕ → Bool → List Bool → List Vector → List DumpCommand → List Vector → ℕ
line_after_slot last t on marks old commands new = last_line last t (slot_lines on marks old commands new)

-- what the first slot ends add: nothing before a $dumpvars
abbrev pub begun_text : Design → List DumpCommand → ℕ → List Vector → List ℕ
begun_text design commands t values = if has_start commands then start_text design commands t values else []

-- what a slot end adds to the dump of a design; nothing is written once a text failed
abbrev pub ended_text : Design → Progress → ℕ → List Vector → List ℕ
ended_text design (Waiting commands) t values = begun_text design commands t values
ended_text design (Started last on marks old commands) t values = slot_text t on marks old commands values
ended_text design Failed t values = []

-- what an item adds; printed lines are no part of it
abbrev pub item_text : Design → Progress → Item → List ℕ
item_text design p (SlotEnd t values) = ended_text design p t values
item_text design p (Dump command) = []
item_text design p (Line text) = []
item_text design p (Monitor place) = []

-- the slot ended that asked for the dump, or one before it
abbrev pub progress_at_start : Design → List DumpCommand → ℕ → List Vector → Progress
progress_at_start design commands t values =
    if has_start commands then Started t (on_after true commands) (variable_marks design commands) values []
    else Waiting []

abbrev pub progress_at_slot_end : Design → Progress → ℕ → List Vector → Progress
progress_at_slot_end design (Waiting commands) t values = progress_at_start design commands t values
progress_at_slot_end design (Started last on marks old commands) t values =
    Started (line_after_slot last t on marks old commands values) (on_after on commands) marks values []
progress_at_slot_end design Failed t values = Failed

abbrev pub progress_at_command : Progress → DumpCommand → Progress
progress_at_command (Waiting commands) command = Waiting (commands ++ command ∷ [])
progress_at_command (Started last on marks old commands) command = Started last on marks old (commands ++ command ∷ [])
progress_at_command Failed command = Failed

abbrev pub progress_after : Design → Progress → Item → Progress
progress_after design p (SlotEnd t values) = progress_at_slot_end design p t values
progress_after design p (Dump command) = progress_at_command p command
progress_after design p (Line text) = p
progress_after design p (Monitor place) = p

-- what items add, one after another
abbrev pub items_text : Design → Progress → List Item → List ℕ
items_text design p [] = []
items_text design p (item ∷ items) = item_text design p item ++ items_text design (progress_after design p item) items

abbrev pub progress_over : Design → Progress → List Item → Progress
progress_over design p [] = p
progress_over design p (item ∷ items) = progress_over design (progress_after design p item) items

-- the values at the end of the last slot, once the dump has started
abbrev pub kept_of : Progress → Option (List Vector)
kept_of (Waiting commands) = None
kept_of (Started last on marks values commands) = Some values
kept_of Failed = None

-- the time of the end, unless the last time line is that
abbrev pub end_line : ℕ → ℕ → List ℕ
end_line last t = if last == t then [] else time_line t

-- what the end adds
abbrev pub end_text : Progress → ℕ → List ℕ
end_text (Waiting commands) t = []
end_text (Started last on marks old commands) t = end_line last t
end_text Failed t = []

-- what a history adds to a dump of which nothing has come yet
abbrev pub history_text : Design → History → List ℕ
history_text design history =
    items_text design (Waiting []) history.items ++ end_text (progress_over design (Waiting []) history.items) history.end.time

-- after it the last time line is that of the end, and the same end adds nothing more
abbrev pub progress_at_end : Progress → ℕ → Progress
progress_at_end (Waiting commands) t = Waiting commands
progress_at_end (Started last on marks old commands) t = Started t on marks old commands
progress_at_end Failed t = Failed

-- ---- what the program keeps

-- what these items add to the dump
abbrev pub text_of : {O : Type 0} → DumpSink O → List Item → List ℕ
text_of sink items = items_text sink.design.now sink.progress items

-- the values that it keeps
abbrev pub kept_in : {O : Type 0} → DumpSink O → Option (List Vector)
kept_in sink = kept_of sink.progress

-- it is the same borrowed byte sink and the same design
abbrev pub IsSameDump : {O : Type 0} → DumpSink O → DumpSink O → Type 0
IsSameDump old new = (new.byte_sink.ghost_name ≡ old.byte_sink.ghost_name) × (new.design.now ≡ old.design.now)

-- the byte sink took what the items add, and the dump has come as far as they lead
abbrev pub Takes : {O : Type 0} → (O → List ℕ → O → Type 0) → DumpSink O → List Item → DumpSink O → Type 0
Takes takes old items new =
    IsSameDump old new
    × (new.progress ≡ progress_over old.design.now old.progress items)
    × takes old.byte_sink.now (text_of old items) new.byte_sink.now

-- this was done with a dump that failed before: nothing was written
abbrev pub IsPassedOver : {O : Type 0} → DumpSink O → DumpSink O → Type 0
IsPassedOver old new = old.progress ≡ Failed → new.byte_sink.now ≡ old.byte_sink.now

-- the byte sink stopped somewhere in what the items add
abbrev pub StopsIn : {O F : Type 0} → (O → List ℕ → O → Type 0) → (O → List ℕ → F → O → Type 0) → DumpSink O → List Item → OrMemory F → DumpSink O → Type 0
StopsIn takes fails old items fault new =
    IsSameDump old new × Stopped takes fails old.byte_sink.now (text_of old items) fault new.byte_sink.now

-- once the byte sink has failed nothing more is written; want of memory may come between two items too
abbrev pub IsOver : {F : Type 0} → OrMemory F → Progress → Type 0
IsOver (Fault fault) progress = progress ≡ Failed
IsOver (Memory m) progress = Unit {0}

-- the fault came somewhere in what the items add
abbrev pub Fails : {O F : Type 0} → (O → List ℕ → O → Type 0) → (O → List ℕ → F → O → Type 0) → DumpSink O → List Item → OrMemory F → DumpSink O → Type 0
Fails takes fails old items fault new =
    IsSameDump old new
    × Stopped takes fails old.byte_sink.now (text_of old items) fault new.byte_sink.now
    × IsOver fault new.progress

-- ---- the end, and a whole history

-- the dump has come to its end at this time
abbrev pub IsAtEnd : {O : Type 0} → DumpSink O → ℕ → DumpSink O → Type 0
IsAtEnd old t new = new.progress ≡ progress_at_end old.progress t

-- the byte sink took what the end at this time adds
abbrev pub TakesEnd : {O : Type 0} → (O → List ℕ → O → Type 0) → DumpSink O → ℕ → DumpSink O → Type 0
TakesEnd takes old t new = takes old.byte_sink.now (end_text old.progress t) new.byte_sink.now

-- it stopped somewhere in that
abbrev pub FailsEnd : {O F : Type 0} → (O → List ℕ → O → Type 0) → (O → List ℕ → F → O → Type 0) → DumpSink O → ℕ → OrMemory F → DumpSink O → Type 0
FailsEnd takes fails old t fault new = Stopped takes fails old.byte_sink.now (end_text old.progress t) fault new.byte_sink.now

-- it took the dump of a history
abbrev pub TakesDump : {O : Type 0} → (O → List ℕ → O → Type 0) → DumpSink O → History → DumpSink O → Type 0
TakesDump takes old history new = takes old.byte_sink.now (vcd old.design.now history) new.byte_sink.now

-- it stopped somewhere in that
abbrev pub FailsDump : {O F : Type 0} → (O → List ℕ → O → Type 0) → (O → List ℕ → F → O → Type 0) → DumpSink O → History → OrMemory F → DumpSink O → Type 0
FailsDump takes fails old history fault new = Stopped takes fails old.byte_sink.now (vcd old.design.now history) fault new.byte_sink.now
