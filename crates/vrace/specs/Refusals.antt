-- *product rule*: When a replay is refused, and what then stands written.
use Rattle.std.specs.Prelude.{◌≡◌, ℕ, ◌<◌, ◌≤◌, nat_le, if◌then◌else◌, ◌⊎◌, List, length, Option, None, Some, option_and_then, Err, take}
use Rattle.std.specs.Io.KnownBytes.{Appends}
use Rattle.basis.specs.declared.timescale.Timescale.{Timescale}
use Rattle.vsrc.specs.Source.{Source, place_of}
use Rattle.vsrc.specs.Expansion.{expansion}
use Rattle.vsrc.specs.declared.fault.SrcFault.{SrcFault}
use Rattle.vsrc.specs.declared.fault.SrcFault.TheVariants as source
use Rattle.vsrc.specs.declared.expanded.Place.{Place}
use Rattle.vlex.specs.Lexed.{HasNoTokens, IsTokenReason}
use Rattle.vlex.specs.Tokenized.{Tokenized, pieces_of, start_of}
use Rattle.vexpr_parse.specs.Texts.{words_of}
use Rattle.vlex.specs.declared.fault.LexFault.TheVariants as pieces
use Rattle.vast.specs.NumberedModules.{SourceTree}
use Rattle.vdesign.specs.Design.{Design}
use Rattle.vparse.specs.Refusals.{IsRefusal}
use Rattle.vparse.specs.declared.fault.SyntaxFault.{SyntaxFault}
use Rattle.vparse.specs.declared.fault.SyntaxFault.TheVariants as words
use Rattle.vhierarchy.specs.Instances.{broken_rule}
use Rattle.sched_core.specs.LogText.{IsNoNamedLogText}
use Rattle.sched_core.specs.Replay.{IsMissing, TakesMore}
use Rattle.vmodel.specs.Run.{rules_of}
use Rattle.byte_sinks.specs.declared.metered.Metered.{Metered}
use Rattle.vrace.specs.Request.{Request}
use Rattle.vrace.specs.Replays.{limit, total, AreRead, AreTokens, most_words, IsTreeOf, IsDesignOf, IsDesignOfFiles, Replayed, setting_of, IsShown, IsDump}
use Rattle.vrace.specs.declared.replay.Show.{Show}
use Rattle.vrace.specs.declared.fault.At.{At}
use Rattle.velab_expr.specs.declared.fault.Rule.{Rule}
use Rattle.vrace.specs.declared.fault.Fault.{Fault}
use Rattle.vrace.specs.declared.fault.Fault.TheVariants.{NotEnded, BadToken, Directive, NoMacro, TooLarge, LeftOpen, Timescales, NoTree, Outside, TooDeep, NoDesign, BadLog, NoSuchChoice, TooManySteps, Memory, Write, TooLong}

-- where a fault was found is told: this holds of its place
abbrev pub IsAt : At → (Place → Type 0) → Type 0
IsAt at P = (place : Place) × (at ≡ record { 0 = Some place }) × P place

abbrev pub IsTreeless : List ℕ → Type 0
IsTreeless text = (tree : SourceTree) → IsTreeOf text tree → ⊥

abbrev pub IsDesignless : List ℕ → Option (List ℕ) → Type 0
IsDesignless text top = (scale : Timescale) (design : Design) → IsDesignOf text scale top design → ⊥

-- the first word of the text that can't follow those before it is refused so
abbrev pub HasRefusal : Source → SyntaxFault → Type 0
HasRefusal source fault = (tokens : Tokenized) × AreTokens source tokens × IsRefusal tokens fault

-- the text has too many words, and the first that is too much stands here
pub record HasManyWords (source : Source) (place : Place) : Type 0 where
  pub tokens : Tokenized
  pub are_tokens : AreTokens source tokens
  pub many : most_words < length (pieces_of tokens)
  pub placed : place ≡ place_of tokens.source (start_of tokens most_words)

-- where the word of this number stands, or the text's end after the last
abbrev pub word_place : Tokenized → ℕ → Option Place
word_place tokens number =
    if nat_le number (length (words_of tokens)) then Some (place_of tokens.source (start_of tokens number)) else None

-- the text has a tree, of which this is the first rule that is broken, at the place of the word where it is, if there is one
pub record IsBroken (source : Source) (top : Option (List ℕ)) (rule : Rule) (at : At) : Type 0 where
  pub tokens : Tokenized
  pub are_tokens : AreTokens source tokens
  pub tree : SourceTree
  pub is_tree : IsTreeOf source.text tree
  pub word : Option ℕ
  pub broken : broken_rule tree top ≡ Some (record { rule = rule; at = word })
  pub place : at ≡ record { 0 = option_and_then (word_place tokens) word }

abbrev pub Breaks : Source → Option (List ℕ) → Rule → At → Type 0
Breaks source top rule at = IsDesignless source.text top × IsBroken source top rule at

-- the directives and macros of the files have this fault, at this place
abbrev pub IsRefusedBy : (Place → SrcFault) → List (List ℕ) → At → Type 0
IsRefusedBy fault files at = (total files ≤ limit) × IsAt at (λ place. expansion files ≡ Err (fault place))

-- what a fault of the files says of them
abbrev pub IsFileReason : List (List ℕ) → Fault → Type 0
IsFileReason files (Directive at) = IsRefusedBy source.Directive files at
IsFileReason files (NoMacro at) = IsRefusedBy source.NoMacro files at
IsFileReason files (TooLarge at) = IsRefusedBy source.Growth files at
IsFileReason files (LeftOpen at) = IsRefusedBy source.LeftOpen files at
IsFileReason files (Timescales at) = IsRefusedBy source.Timescales files at
IsFileReason files (Memory m) = Unit {0}
IsFileReason files TooLong = limit < total files
IsFileReason files other = ⊥

-- What a fault of the text says of it. The place of E101, E102 and E2xx is that of what can't be read; that of E112 is of the first word that
-- is too much, that of E3xx of the word at which the rule is broken.
abbrev pub IsTextReason : Source → Option (List ℕ) → Fault → Type 0
IsTextReason source top (NotEnded at) = HasNoTokens source.text × IsAt at (λ place. IsTokenReason source (pieces.NotEnded place))
IsTextReason source top (BadToken at) = HasNoTokens source.text × IsAt at (λ place. IsTokenReason source (pieces.BadToken place))
IsTextReason source top (TooLarge at) = IsTreeless source.text × IsAt at (HasManyWords source)
IsTextReason source top (NoTree at) = IsTreeless source.text × IsAt at (λ place. HasRefusal source (words.NoTree place))
IsTextReason source top (Outside at) = IsTreeless source.text × IsAt at (λ place. HasRefusal source (words.Outside place))
IsTextReason source top (TooDeep at) = IsTreeless source.text × IsAt at (λ place. HasRefusal source (words.TooDeep place))
IsTextReason source top (NoDesign rule at) = Breaks source top rule at
IsTextReason source top (Memory m) = Unit {0}
IsTextReason source top other = ⊥

-- what a fault of the log's text says
abbrev pub IsLogFault : List ℕ → Fault → Type 0
IsLogFault log BadLog = IsNoNamedLogText log
IsLogFault log (Memory m) = Unit {0}
IsLogFault log other = ⊥

-- what a fault of the log or of its run says; where a writer failed there was a run to show, which has a dump
abbrev pub IsRunReason : List (List ℕ) → Request → List ℕ → Fault → Type 0
IsRunReason files asked log BadLog =
    AreRead files × ((design : Design) × IsDesignOfFiles files asked.top design) × IsNoNamedLogText log
IsRunReason files asked log NoSuchChoice = (replayed : Replayed files asked log) × IsMissing (rules_of (setting_of files asked log replayed)) replayed.members asked.steps
IsRunReason files asked log TooManySteps = (replayed : Replayed files asked log) × TakesMore (rules_of (setting_of files asked log replayed)) replayed.members asked.steps
IsRunReason files asked log (Memory m) = Unit {0}
IsRunReason files asked log Write = (dump : List ℕ) × IsDump files asked log dump
IsRunReason files asked log other = ⊥

-- a fault of the files, or of the text that they make
abbrev pub IsDesignFault : List (List ℕ) → Option (List ℕ) → Fault → Type 0
IsDesignFault files top fault = IsFileReason files fault ⊎ ((read : AreRead files) × IsTextReason read.source top fault)

-- why a replay is refused: for its files or their text, or for the log and its run
abbrev pub IsReason : List (List ℕ) → Request → List ℕ → Fault → Type 0
IsReason files asked log fault = IsDesignFault files asked.top fault ⊎ IsRunReason files asked log fault

-- want of memory
abbrev pub IsOfMemory : Fault → Type 0
IsOfMemory (Memory m) = Unit {0}
IsOfMemory other = ⊥

-- a fault that may come while the dump goes out
abbrev pub IsOfWriting : Fault → Type 0
IsOfWriting (Memory m) = Unit {0}
IsOfWriting Write = Unit {0}
IsOfWriting other = ⊥

-- a front of what is shown stands written
pub record IsBegun (show : Show) (files : List (List ℕ)) (asked : Request) (log : List ℕ) (old new : Option (List ℕ)) : Type 0 where
  pub text : List ℕ
  pub is_text : IsShown show files asked log text
  pub len : ℕ
  pub front : Appends old new (take len text)

-- what a refusal leaves: the writer as it was, or a front of what is shown in it, where memory or the writer failed as it went out
abbrev pub Leaves : {W : Type 0} → (W → Option (List ℕ)) → Show → List (List ℕ) → Request → List ℕ → Fault → Metered W → Metered W → Type 0
Leaves contents show files asked log fault old new =
    (new ≡ old) ⊎ (IsOfWriting fault × IsBegun show files asked log (contents old.inner) (contents new.inner))
