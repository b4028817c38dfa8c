-- *trusted*: `DumpText` (IEEE 1364-2005, clause 18; docs/FORMATS.md): the value change dump of a design and a history.
use Rattle.std.specs.Prelude.{ℕ, zero, suc, ◌+◌, ◌-◌, ◌==◌, nat_lt, ◌&&◌, ◌||◌, not, length, Bool, true, false, if◌then◌else◌, List, [], ◌∷◌, ◌++◌, Option, Some, None, map, replicate, reverse, take, drop, slice_get, codes, decimal}
use Rattle.std.specs.List.{after_last, list_all, list_any}
use Rattle.basis.specs.Letters.{begins_name, is_in_name}
use Rattle.vbits.specs.declared.bit4.Bit4.TheVariants.{X}
use Rattle.vbits.specs.Vectors.{Vector, filled, same_letters}
use Rattle.value_text.specs.ValueText.{binary}
use Rattle.basis.specs.declared.timescale.Span.{Span}
use Rattle.basis.specs.Timescales.{count_number, unit_word}
use Rattle.vdesign.specs.declared.expression.Bounds.{Bounds}
use Rattle.vdesign.specs.declared.design.Kind.{Kind}
use Rattle.vdesign.specs.declared.design.Kind.TheVariants.{Reg, Integer, Wire, Time}
use Rattle.vdesign.specs.Design.{Variable, Scope, Design}
use Rattle.vdesign.specs.declared.action.Action.{Action}
use Rattle.vdesign.specs.declared.action.Action.TheVariants.{DumpVars}
use Rattle.vdesign.specs.declared.dump.Chosen.{Chosen}
use Rattle.vdesign.specs.declared.dump.DumpCommand.{DumpCommand}
use Rattle.vdesign.specs.declared.dump.DumpCommand.TheVariants.{Vars, Off, On, All}
use Rattle.vmodel.specs.History.{History}
use Rattle.vmodel.specs.declared.history.Item.{Item}
use Rattle.vmodel.specs.declared.history.Item.TheVariants.{SlotEnd, Dump, Line, Monitor}
use Rattle.byte_sinks.specs.Comparing.{rest_behind}

abbrev pub line : List ℕ → List ℕ
line text = text ++ 10 ∷ []

-- ---- codes (18.2.1): `!` to `~`, then `!!`, `"!` and so on: the lowest digit first, and each after the one before

abbrev pub following : List ℕ → List ℕ
following [] = 33 ∷ []
following (c ∷ cs) = if nat_lt c 126 then suc c ∷ cs else 33 ∷ following cs

abbrev pub code : ℕ → List ℕ
code zero = 33 ∷ []
code (suc n) = following (code n)

-- ---- values (18.2.2), by their binary digits, leftmost first

-- what a digit is extended with on the left: 0 and 1 with 0, x with x, z with z
abbrev pub extension : ℕ → ℕ
extension d = if d == 49 then 48 else d

-- leftmost digits are dropped while the extension of the next one gives them back
abbrev pub short_digits : List ℕ → List ℕ
short_digits [] = []
short_digits (d ∷ []) = d ∷ []
short_digits (d ∷ e ∷ ds) = if d == extension e then short_digits (e ∷ ds) else d ∷ e ∷ ds

-- one digit and the code, or b, digits, a space and the code
abbrev pub change : List ℕ → List ℕ → List ℕ
change [] name = name
change (d ∷ []) name = d ∷ name
change (d ∷ e ∷ ds) name = 98 ∷ (short_digits (d ∷ e ∷ ds) ++ 32 ∷ name)

-- the line that says what the variable of a code is worth
abbrev pub named_line : List ℕ → Vector → List ℕ
named_line name v = line (change (binary v) name)

abbrev pub value_line : ℕ → Vector → List ℕ
value_line n = named_line (code n)

-- ---- what is selected (18.1.2)

abbrev pub dots : List ℕ → ℕ
dots [] = 0
dots (c ∷ cs) = if c == 46 then suc (dots cs) else dots cs

-- what stands in a scope's path behind that of another one, where it begins with that: with as many dots the scope stands so many
-- levels below it. Of n levels are the scope itself and those up to n - 1 levels below it, of 0 levels all below it
abbrev pub is_near : ℕ → Option (List ℕ) → Bool
is_near levels None = false
is_near levels (Some []) = true
is_near levels (Some (c ∷ cs)) = c == 46 && (levels == 0 || nat_lt (dots (c ∷ cs)) levels)

-- the scope of this path is of the levels of a chosen one: `top.a` of `top` with 0 levels, or with 2
abbrev pub is_chosen : List ℕ → Chosen → Bool
is_chosen path chosen = is_near chosen.levels (rest_behind chosen.path (Some path))

-- a selection has the scope; the empty one is everything
abbrev pub has_scope : List Chosen → List ℕ → Bool
has_scope [] path = true
has_scope (chosen ∷ more) path = list_any (is_chosen path) (chosen ∷ more)

abbrev pub is_asked_by : Option Action → List ℕ → Bool
is_asked_by (Some (DumpVars selection)) path = has_scope selection path
is_asked_by other path = false

-- a $dumpvars asks for the scope
abbrev pub asks_for : List Action → List ℕ → DumpCommand → Bool
asks_for actions path (Vars place) = is_asked_by (slice_get actions place) path
asks_for actions path Off = false
asks_for actions path On = false
asks_for actions path All = false

-- one of them does: several $dumpvars are joined
abbrev pub is_selected : List Action → List DumpCommand → List ℕ → Bool
is_selected actions commands path = list_any (asks_for actions path) commands

-- for each scope whether it is selected by these commands
abbrev pub marks_in : List Action → List DumpCommand → List Scope → List Bool
marks_in actions commands scopes = map (λ scope. is_selected actions commands scope.path) scopes

abbrev pub scope_marks : Design → List DumpCommand → List Bool
scope_marks design commands = marks_in design.actions commands design.scopes

-- for each variable whether its scope is selected: those of the first scope come first, then those of the second, and so on
abbrev pub spread : List Bool → List Scope → List Bool
spread marks [] = []
spread [] (scope ∷ scopes) = []
spread (mark ∷ marks) (scope ∷ scopes) = replicate scope.variables mark ++ spread marks scopes

abbrev pub variable_marks : Design → List DumpCommand → List Bool
variable_marks design commands = spread (scope_marks design commands) design.scopes

-- ---- what is told (18.2.1): values with the numbers of their variables

abbrev pub value_lines : List (ℕ × Vector) → List ℕ
value_lines [] = []
value_lines (entry ∷ told) = value_line entry.0 entry.1 ++ value_lines told

-- the values of the selected variables, the first of which has number n
abbrev pub selected_values : ℕ → List Bool → List Vector → List (ℕ × Vector)
selected_values n marks [] = []
selected_values n [] (v ∷ vs) = []
selected_values n (mark ∷ marks) (v ∷ vs) = if mark then (n, v) ∷ selected_values (suc n) marks vs else selected_values (suc n) marks vs

-- those from variable 0 on
abbrev pub all_lines : List Bool → List Vector → List ℕ
all_lines marks values = value_lines (selected_values 0 marks values)

-- the letters are the same
abbrev pub is_kept : Vector → Vector → Bool
is_kept u v = length u.letters == length v.letters && same_letters u.letters v.letters

-- a variable is selected, and its value has changed
abbrev pub is_news : Bool → Vector → Vector → Bool
is_news mark u v = mark && not (is_kept u v)

-- those values of selected variables, the first of which has number n, that differ from earlier ones
abbrev pub changes : ℕ → List Bool → List Vector → List Vector → List (ℕ × Vector)
changes n marks us [] = []
changes n [] us (v ∷ vs) = []
changes n (mark ∷ marks) [] (v ∷ vs) = []
changes n (mark ∷ marks) (u ∷ us) (v ∷ vs) =
    if is_news mark u v then (n, v) ∷ changes (suc n) marks us vs
    else changes (suc n) marks us vs

abbrev pub time_line : ℕ → List ℕ
time_line t = line (35 ∷ decimal t)

-- ---- the header (18.2.3)

abbrev pub kind_word : Kind → List ℕ
kind_word Reg = codes "reg"
kind_word Integer = codes "integer"
kind_word Time = codes "time"
kind_word Wire = codes "wire"

-- the range of what was declared with one
abbrev pub bounds_text : Option Bounds → List ℕ
bounds_text None = []
bounds_text (Some bounds) = codes " [" ++ decimal bounds.left ++ codes ":" ++ decimal bounds.right ++ codes "]"

-- a letter or `_`, then letters, digits, `_` and `$` (3.7)
abbrev pub is_simple : List ℕ → Bool
is_simple [] = false
is_simple (c ∷ cs) = begins_name c && list_all is_in_name cs

-- 18.2.3.8: the identifier of a name, which is an escaped one where the name isn't so (3.7.1)
abbrev pub identifier : List ℕ → List ℕ
identifier name = if is_simple name then name else 92 ∷ name

-- $var KIND WIDTH CODE NAME $end, with the name without its scopes
abbrev pub named_variable_line : List ℕ → Variable → List ℕ
named_variable_line name variable =
    line (codes "$var " ++ kind_word variable.kind ++ codes " " ++ decimal variable.length ++ codes " " ++ name ++ codes " "
    ++ identifier (after_last (λ c. c == 46) variable.name) ++ bounds_text variable.bounds ++ codes " $end")

abbrev pub variable_line : ℕ → Variable → List ℕ
variable_line n = named_variable_line (code n)

abbrev pub variable_lines : ℕ → List Variable → List ℕ
variable_lines n [] = []
variable_lines n (v ∷ vs) = variable_line n v ++ variable_lines (suc n) vs

abbrev pub scope_line : List ℕ → List ℕ
scope_line name = line (codes "$scope module " ++ name ++ codes " $end")

abbrev pub closings : ℕ → List ℕ
closings zero = []
closings (suc n) = line (codes "$upscope $end") ++ closings n

-- of the scopes behind one of this depth, those that are deeper stand below it: whether one of them is selected
abbrev pub is_any_below : ℕ → List Bool → List Scope → Bool
is_any_below depth marks [] = false
is_any_below depth [] (s ∷ scopes) = false
is_any_below depth (mark ∷ marks) (s ∷ scopes) = nat_lt depth s.depth && (mark || is_any_below depth marks scopes)

-- a scope, before those behind it, is written where it or one below it is selected
abbrev pub is_written : Bool → Scope → List Bool → List Scope → Bool
is_written mark s marks scopes = mark || is_any_below s.depth marks scopes

-- a scope that is written, with its variables, of which the first is n, where it is selected; so many scopes are open before it
abbrev pub scope_text : ℕ → ℕ → Bool → Scope → List Variable → List ℕ
scope_text around n mark s variables =
    closings (around - s.depth) ++ scope_line s.name ++ (if mark then variable_lines n variables else [])

-- scopes depth first: so many are open, the next variable is n, and these are left
abbrev pub scope_lines : ℕ → ℕ → List Bool → List Scope → List Variable → List ℕ
scope_lines around n marks [] variables = closings around
scope_lines around n [] (s ∷ scopes) variables = closings around
scope_lines around n (mark ∷ marks) (s ∷ scopes) variables =
    (if is_written mark s marks scopes then scope_text around n mark s (take s.variables variables) else [])
    ++ scope_lines (if is_written mark s marks scopes then suc s.depth else around) (n + s.variables) marks scopes (drop s.variables variables)

-- the unit in which times are counted (19.8)
abbrev pub timescale_line : Span → List ℕ
timescale_line precision =
    line (codes "$timescale " ++ decimal (count_number precision.count) ++ codes " " ++ unit_word precision.unit ++ codes " $end")

-- of a dump of the scopes that are marked
abbrev pub header : Design → List Bool → List ℕ
header design marks =
    line (codes "$version vrace $end")
    ++ timescale_line design.scale.precision
    ++ scope_lines 0 0 marks design.scopes design.variables
    ++ line (codes "$enddefinitions $end")

-- ---- slots

-- a slot that ended: the dump commands given in it, its time, and the values at its end
pub record DumpSlot : Type 0 where
  pub commands : List DumpCommand
  pub time : ℕ
  pub values : List Vector

-- the slots of a history, the first of which was given these commands before; one that $finish cuts short has no end
abbrev pub slots_after : List DumpCommand → List Item → List DumpSlot
slots_after commands [] = []
slots_after commands (Dump command ∷ items) = slots_after (commands ++ command ∷ []) items
slots_after commands (Line text ∷ items) = slots_after commands items
slots_after commands (Monitor place ∷ items) = slots_after commands items
slots_after commands (SlotEnd t values ∷ items) = record { commands = commands; time = t; values = values } ∷ slots_after [] items

-- $dumpvars is one (18.1.2)
abbrev pub is_start : DumpCommand → Bool
is_start (Vars place) = true
is_start Off = false
is_start On = false
is_start All = false

abbrev pub has_start : List DumpCommand → Bool
has_start = list_any is_start

-- the slots from the first one with a $dumpvars on: at its end the dump starts (18.1.2)
abbrev pub dump_slots : List DumpSlot → List DumpSlot
dump_slots [] = []
dump_slots (slot ∷ slots) = if has_start slot.commands then slot ∷ slots else dump_slots slots

-- ---- the body (18.2.1)

-- values that are told, and the word of the command that asked for them; no command asks for changes
pub record Part : Type 0 where
  pub word : List ℕ
  pub told : List (ℕ × Vector)

-- what is told at a time
pub record Piece : Type 0 where
  pub time : ℕ
  pub parts : List Part

-- all values of the variables that are marked, after a command's word
abbrev pub all_at : List ℕ → List Bool → List Vector → Part
all_at word marks values = record { word = word; told = selected_values 0 marks values }

-- each as x
abbrev pub unknown_of : Vector → Vector
unknown_of v = filled (length v.letters) X

-- whether a dump is on after a command, and after several (18.1.3)
abbrev pub on_by : Bool → DumpCommand → Bool
on_by on (Vars place) = on
on_by on Off = false
on_by on On = true
on_by on All = on

abbrev pub on_after : Bool → List DumpCommand → Bool
on_after on [] = on
on_after on (command ∷ commands) = on_after (on_by on command) commands

-- 18.1.3, 18.1.4: a dump that is on lists all as x where it goes off, one that is off all values where it goes on; $dumpall lists all
-- values where it is on
abbrev pub command_part : List Bool → Bool → DumpCommand → List Vector → List Part
command_part marks on (Vars place) values = []
command_part marks on Off values = if on then all_at (codes "$dumpoff") marks (map unknown_of values) ∷ [] else []
command_part marks on On values = if on then [] else all_at (codes "$dumpon") marks values ∷ []
command_part marks on All values = if on then all_at (codes "$dumpall") marks values ∷ [] else []

-- what the commands of a slot list, in order, with the values at its end
abbrev pub command_parts : List Bool → Bool → List DumpCommand → List Vector → List Part
command_parts marks on [] values = []
command_parts marks on (command ∷ commands) values = command_part marks on command values ++ command_parts marks (on_by on command) commands values

-- the values that differ from those at the end of the slot before, where the slots before left the dump on
abbrev pub changed_part : List Bool → Bool → List Vector → List Vector → List Part
changed_part marks on before values = if on then record { word = []; told = changes 0 marks before values } ∷ [] else []

-- at the first slot's end all values (18.1.2)
abbrev pub start : List Bool → DumpSlot → Piece
start marks slot =
    record { time = slot.time; parts = all_at (codes "$dumpvars") marks slot.values ∷ command_parts marks true slot.commands slot.values }

-- at the end of each later one what changed, and what its commands ask for
abbrev pub later_parts : List Bool → Bool → List Vector → DumpSlot → List Part
later_parts marks on before slot = changed_part marks on before slot.values ++ command_parts marks on slot.commands slot.values

abbrev pub later_pieces : List Bool → Bool → DumpSlot → List DumpSlot → List Piece
later_pieces marks on before [] = []
later_pieces marks on before (slot ∷ slots) =
    record { time = slot.time; parts = later_parts marks on before.values slot } ∷ later_pieces marks (on_after on slot.commands) slot slots

-- what is told of the variables that are marked
abbrev pub pieces : List Bool → List DumpSlot → List Piece
pieces marks [] = []
pieces marks (first ∷ later) = start marks first ∷ later_pieces marks (on_after true first.commands) first later

-- between the command's word and $end (18.2.3)
abbrev pub text_in_frame : List ℕ → List ℕ → List ℕ
text_in_frame [] text = text
text_in_frame (c ∷ cs) text = line (c ∷ cs) ++ text ++ line (codes "$end")

abbrev pub part_text : Part → List ℕ
part_text part = text_in_frame part.word (value_lines part.told)

abbrev pub parts_text : List Part → List ℕ
parts_text [] = []
parts_text (part ∷ parts) = part_text part ++ parts_text parts

abbrev pub piece_text : Piece → List ℕ
piece_text piece = parts_text piece.parts

abbrev pub is_nothing : List ℕ → Bool
is_nothing [] = true
is_nothing (c ∷ cs) = false

-- the pieces that say something
abbrev pub nonempty_pieces : List Piece → List Piece
nonempty_pieces [] = []
nonempty_pieces (p ∷ ps) = if is_nothing (piece_text p) then nonempty_pieces ps else p ∷ nonempty_pieces ps

-- each after its time, and last the time of the run's end, unless the last one stands there (docs/FORMATS.md)
abbrev pub body : List Piece → ℕ → List ℕ
body [] end = []
body (p ∷ []) end = time_line p.time ++ piece_text p ++ (if p.time == end then [] else time_line end)
body (p ∷ q ∷ ps) end = time_line p.time ++ piece_text p ++ body (q ∷ ps) end

-- ---- the whole

-- of these slots, the first of which starts the dump and selects what it is of; where there is none no byte
abbrev pub dump_of : Design → List DumpSlot → ℕ → List ℕ
dump_of design [] end = []
dump_of design (first ∷ later) end =
    header design (scope_marks design first.commands)
    ++ body (nonempty_pieces (pieces (variable_marks design first.commands) (first ∷ later))) end

-- the dump of a design and a history (18.2)
abbrev pub vcd : Design → History → List ℕ
vcd design history = dump_of design (dump_slots (slots_after [] history.items)) history.end.time
