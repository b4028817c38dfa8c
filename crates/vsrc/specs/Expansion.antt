-- *trusted*: What directives and macros make of the files: a text and a timescale, or a fault (IEEE 1364-2005, clause 19).
--
-- The files are joined, with a line feed between each two (`join_files`). Then one walk goes over them, piece by piece
-- (`step`). A piece is a comment, a string, a backtick with the name after it, or one byte more. What is known between
-- two pieces is a `State`: the place, whether the line is fresh there, the macros, the open conditionals, the timescale,
-- and what was made.
--
-- Comments, strings and bytes stay as they are (`copy_stretch`), backticks in comments and strings too. A comment ends with its
-- line or with the first */, a string with its quote or its line (`stretch_len`).
--
-- A name after a backtick is a directive if it is a word of one (`directive_of`), or of one that is passed over and of
-- no macro (`ignored_of`), and else the use of a macro (`word_in`). A directive stands first on its line, after blanks alone:
-- only a line feed outside comments makes a line fresh, and any piece but a blank ends that, a directive and a use too.
-- E110 is for one that isn't first, is ill formed, or is without its open conditional, and for a backtick without a name.
-- What a directive takes of its line is left out of the text, and what stands after that is read as any text (`obey`):
--   define          its name, blanks, and the rest of the line, which goes on after a backslash. Comments to the end of
--                   the line are cut (`macro_text`). No word of a directive is given a text, and none with a
--                   parenthesis at once after it.
--   undef, ifdef, ifndef, elsif, default_nettype        a name after blanks of the same line
--   timescale       two lengths of time and a slash, blanks between or not
--   else, endif     nothing
--   those that are passed over      what `ignored_len` says; an `end_keywords also an open `begin_keywords, of which there
--                   may be 32 (`keywords_behind`)
--
-- Conditionals nest (`Open`, innermost first). Each has a part that is read, is sought, or is past; what stands in a part
-- that isn't read is left out, and of its directives only the conditional ones are heeded. They must be well formed and
-- first on their lines there too, and count for the 32 that may be open; a backtick without a name is passed over. No
-- part of a conditional in a part that is skipped is read (`first_part`).
--
-- The use of a macro makes its text, in which uses are replaced in turn by the macros of that time (`make_use`): at most 32
-- levels of them and 1,000,000 in all, or E112. A name without a macro is E111, and a directive in a macro's text is E110.
-- The text is searched for itself: a comment or string that it leaves open ends with it. All that is made in this way
-- comes from the place of the use in the files. More than 33,554,432 bytes, of the joined files or of what is made, are
-- E112.
--
-- At the end no conditional may be open: E113, at the innermost. A timescale holds for the whole text, and a second that
-- differs is E114; without one it is 1 ns and 1 ns.
--
-- So there is one expansion of files, or one fault: `expansion` is a function.
use Rattle.std.specs.Prelude.{ℕ, Bool, false, List, [], ◌∷◌, length, map, Option, None, Some, is_some, unwrap_or, Result, Ok, Err}
use Rattle.basis.specs.declared.timescale.Timescale.{Timescale}
use Rattle.vsrc.specs.declared.expanded.Place.{Place}
use Rattle.vsrc.specs.declared.conditionals.Open.{Open}
use Rattle.vsrc.specs.declared.refusal.Refusal.{Refusal}
use Rattle.vsrc.specs.declared.refusal.Why.{Why}
use Rattle.vsrc.specs.declared.refusal.Why.TheVariants as why
use Rattle.vsrc.specs.declared.fault.SrcFault.{SrcFault}
use Rattle.vsrc.specs.declared.fault.SrcFault.TheVariants.{Directive, NoMacro, Growth, LeftOpen, Timescales}
use Rattle.vsrc.specs.Source.{Source, join_files, place_in, too_long}
use Rattle.basis.specs.Timescales.{usual_timescale}
use Rattle.vsrc.specs.Macros.{and_then, refused_at}
use Rattle.vsrc.specs.Walk.{State, start, walk}

-- at the end no conditional is open
abbrev pub left_open : List Open → State → Result State Refusal
left_open [] state = Ok state
left_open (inner ∷ opens) state = Err (refused_at inner.at why.Open)

abbrev pub end_of_walk : State → Result State Refusal
end_of_walk state = left_open state.opens state

-- the walk over a text, from its first byte to its end
abbrev pub walk_text : List ℕ → Result State Refusal
walk_text text = and_then (walk text (length text) start) end_of_walk

-- a refusal as the fault of these numbers, E110 to E114, with its file and line
abbrev pub fault_at : Why → Place → SrcFault
fault_at why.Directive place = Directive place
fault_at why.Macro place = NoMacro place
fault_at why.Limit place = Growth place
fault_at why.Open place = LeftOpen place
fault_at why.Timescales place = Timescales place

abbrev pub source_of : List (List ℕ) → State → Source
source_of files state = record {
  text = state.made.text;
  places = map (place_in files) state.made.origins;
  end = place_in files (length (join_files files));
  timescale = unwrap_or state.timescale usual_timescale;
  timed = is_some state.timescale;
}

-- the walk's result, told by files and lines
abbrev pub with_places : List (List ℕ) → Result State Refusal → Result Source SrcFault
with_places files (Ok state) = Ok (source_of files state)
with_places files (Err refusal) = Err (fault_at refusal.why (place_in files refusal.at))

-- files that are too long by themselves are refused at the first line of the file with which they get so
abbrev pub unless_long : Option ℕ → Result Source SrcFault → Result Source SrcFault
unless_long None result = result
unless_long (Some number) result = Err (Growth (record { file = number; line = 1; column = 0 }))

-- what the files are expanded to, or why not
unfoldable pub expansion : List (List ℕ) → Result Source SrcFault
expansion files = unless_long (too_long files) (with_places files (walk_text (join_files files)))

-- the text of an expansion, empty where there is a fault
abbrev pub text_of : Result Source SrcFault → List ℕ
text_of (Ok source) = source.text
text_of (Err fault) = []

abbrev pub expanded_text : List (List ℕ) → List ℕ
expanded_text files = text_of (expansion files)

-- its timescale, the usual one where there is a fault
abbrev pub timescale_of : Result Source SrcFault → Timescale
timescale_of (Ok source) = source.timescale
timescale_of (Err fault) = usual_timescale

abbrev pub expanded_timescale : List (List ℕ) → Timescale
expanded_timescale files = timescale_of (expansion files)

-- 19.8: whether a timescale stands in the files; not where there is a fault
abbrev pub timed_of : Result Source SrcFault → Bool
timed_of (Ok source) = source.timed
timed_of (Err fault) = false

abbrev pub are_timed : List (List ℕ) → Bool
are_timed files = timed_of (expansion files)
