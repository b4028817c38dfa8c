-- *product rule*: What a replay writes, from the bytes of the files to the dump or the lines of the run.
use Rattle.std.specs.Prelude.{◌≡◌, ℕ, ◌≤◌, List, Option, Ok, length, map, sum_by}
use Rattle.basis.specs.declared.timescale.Timescale.{Timescale}
use Rattle.vsrc.specs.Source.{Source}
use Rattle.vsrc.specs.Expansion.{expansion, expanded_text, expanded_timescale}
use Rattle.vlex.specs.Lexed.{Lexed, Piece}
use Rattle.vlex.specs.Tokenized.{Tokenized, pieces_of, AreWordSpans}
use Rattle.vwords.specs.Words.{Text}
use Rattle.vast.specs.Modules.{DerivesText, SourceTree as PlainTree}
use Rattle.vast.specs.NumberedModules.{SourceTree}
use Rattle.vast.specs.NumberedTexts.{IsNumbered}
use Rattle.vdesign.specs.Design.{Design}
use Rattle.vhierarchy.specs.Instances.{Elaborates}
use Rattle.sched_core.specs.Logs.{IsLog}
use Rattle.sched_core.specs.LogText.{named_log_text}
use Rattle.sched_core.specs.declared.log.LogHead.{LogHead}
use Rattle.sched_core.specs.declared.log.LogHead.TheVariants as head
use Rattle.sched_core.specs.declared.end.End.{End}
use Rattle.sched_core.specs.declared.setting.Departures.{Departures}
use Rattle.sched_core.specs.declared.setting.Looked.TheVariants.{Values}
use Rattle.sched_core.specs.declared.setting.Grain.{Grain}
use Rattle.vmodel.specs.Run.{Setting, history_after}
use Rattle.vmodel.specs.RunProgress.{Finishes}
use Rattle.vmodel.specs.History.{History}
use Rattle.vcd_text.specs.DumpText.{vcd}
use Rattle.lines_text.specs.LinesText.{lines}
use Rattle.vreport.specs.Dumps.{EndsAs}
use Rattle.vrace.specs.declared.replay.Show.{Show}
use Rattle.vrace.specs.declared.replay.Show.TheVariants.{Dump, Lines}
use Rattle.vrace.specs.Request.{Request}

-- the most bytes that the files may have together
abbrev pub limit : ℕ
limit = 16777216

abbrev pub total : List (List ℕ) → ℕ
total = sum_by length

-- The files make a text that is read: they aren't too long, and their directives and macros have no fault.
pub record AreRead (files : List (List ℕ)) : Type 0 where
  pub within : total files ≤ limit
  pub source : Source
  pub expanded : expansion files ≡ Ok source

abbrev pub texts_of : List Piece → List Text
texts_of = map (λ piece. piece.text)

-- the most words that a text may have
abbrev pub most_words : ℕ
most_words = 4194304

-- A text stands for a tree: its tokens, of which there aren't too many, derive it, and its words have their numbers among them.
pub record IsTreeOf (text : List ℕ) (tree : SourceTree) : Type 0 where
  pub pieces : List Piece
  pub lexed : Lexed text pieces
  pub few : length pieces ≤ most_words
  pub plain : PlainTree
  pub derived : DerivesText (texts_of pieces) plain
  pub numbered : IsNumbered (texts_of pieces) plain tree

-- these are the words of a text, each told where it stands
pub record AreTokens (source : Source) (tokens : Tokenized) : Type 0 where
  pub source_is : tokens.source ≡ source
  pub lexed : Lexed source.text (pieces_of tokens)
  pub placed : AreWordSpans source.text tokens.spans

-- A text stands for a design: that of the top module in its tree, under its timescale.
pub record IsDesignOf (text : List ℕ) (scale : Timescale) (top : Option Text) (design : Design) : Type 0 where
  pub tree : SourceTree
  pub is_tree : IsTreeOf text tree
  pub elaborated : Elaborates tree top scale design

-- and so do files, by the text and the timescale that they are expanded to
abbrev pub IsDesignOfFiles : List (List ℕ) → Option Text → Design → Type 0
IsDesignOfFiles files = IsDesignOf (expanded_text files) (expanded_timescale files)

-- the grain that the log names, or else the one that is asked for
abbrev pub grain_under : LogHead → Grain → Grain
grain_under head.Plain grain = grain
grain_under (head.Named named departures) grain = named

-- the departures that the log names, or else those that are asked for
abbrev pub departures_under : LogHead → Departures → Departures
departures_under head.Plain departures = departures
departures_under (head.Named grain named) departures = named

-- What is run: the design of the files, under the log that the log's text writes.
pub record Replayed (files : List (List ℕ)) (asked : Request) (log : List ℕ) : Type 0 where
  pub are_read : AreRead files
  pub design : Design
  pub is_design : IsDesignOfFiles files asked.top design
  pub head : LogHead
  pub members : List (ℕ × ℕ)
  pub is_log : IsLog members
  pub written : log ≡ named_log_text head members

abbrev pub setting_of : (files : List (List ℕ)) (asked : Request) (log : List ℕ) → Replayed files asked log → Setting
setting_of files asked log replayed = record {
  design = replayed.design;
  until = asked.until;
  grain = grain_under replayed.head asked.grain;
  departures = departures_under replayed.head asked.departures;
  looked = Values;
}

-- what is run: this setting, under this log
abbrev pub IsReplayInput : List (List ℕ) → Request → List ℕ → Setting → List (ℕ × ℕ) → Type 0
IsReplayInput files asked log setting members =
    (replayed : Replayed files asked log) × (setting ≡ setting_of files asked log replayed) × (members ≡ replayed.members)

-- what is shown of a run: its value change dump (clause 18), or its printed lines (17.1)
abbrev pub text_of_run : Show → Design → History → List ℕ
text_of_run Dump design history = vcd design history
text_of_run Lines design history = lines design history.items

-- What is shown of the files under the log: the text of the run to its end.
pub record IsShown (show : Show) (files : List (List ℕ)) (asked : Request) (log : List ℕ) (text : List ℕ) : Type 0 where
  pub replayed : Replayed files asked log
  pub steps : ℕ
  pub end : End
  pub finishes : Finishes (setting_of files asked log replayed) replayed.members asked.steps steps end
  pub is_text : text ≡ text_of_run show replayed.design (history_after (setting_of files asked log replayed) replayed.members steps)

-- the run of the files under the log ends so
pub record EndsSo (files : List (List ℕ)) (asked : Request) (log : List ℕ) (end : End) : Type 0 where
  pub replayed : Replayed files asked log
  pub ends : EndsAs (setting_of files asked log replayed) replayed.members asked.steps end

-- their dump
abbrev pub IsDump : List (List ℕ) → Request → List ℕ → List ℕ → Type 0
IsDump files asked log dump = IsShown Dump files asked log dump
