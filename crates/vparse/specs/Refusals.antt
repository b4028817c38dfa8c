-- *product rule*: What a fault says of a text (docs/LANGUAGE.md, "Grammar").
use Rattle.std.specs.Prelude.{◌≡◌, ℕ, ◌≤◌, Bool, true, false, List, length, drop, slice_get}
use Rattle.vsrc.specs.Source.{place_of}
use Rattle.vsrc.specs.declared.expanded.Place.{Place}
use Rattle.vlex.specs.Tokenized.{Tokenized, start_of}
use Rattle.vwords.specs.Words.{Text}
use Rattle.vast.specs.Modules.{SourceTree, DerivesText}
use Rattle.vexpr_parse.specs.Texts.{words_of}
use Rattle.vgrammar.specs.SourcePlaces.{IsPlace, IsRefused, IsDeeper}
use Rattle.vparse.specs.declared.fault.SyntaxFault.{SyntaxFault}
use Rattle.vparse.specs.declared.fault.SyntaxFault.TheVariants.{NoTree, Outside, TooDeep}
use Rattle.vparse.specs.Profile.{is_any_outside}

-- a tree is the words' only one
abbrev pub IsOnlyText : List Text → SourceTree → Type 0
IsOnlyText words tree = (other : SourceTree) → DerivesText words other → other ≡ tree

-- no tree derives the words
abbrev pub HasNoText : List Text → Type 0
HasNoText words = (tree : SourceTree) → DerivesText words tree → ⊥

-- The token of this number begins at the place, or the text ends there. With its word those before it begin no text, and
-- without it they begin one. The word stands outside the profile or not, and more levels help or they don't.
pub record IsRefusedAt (tokens : Tokenized) (place : Place) (outside : Bool) (helps : List Text → List Text → Type 0) : Type 0 where
  pub index : ℕ
  pub within : index ≤ length (words_of tokens)
  pub placed : place ≡ place_of tokens.source (start_of tokens index)
  pub refused : IsPlace 64 (words_of tokens) (drop index (words_of tokens))
  pub with_more : helps (words_of tokens) (drop index (words_of tokens))
  pub judged : is_any_outside (slice_get (words_of tokens) index) ≡ outside

-- E203 comes where the refused word would go on to a text of more levels. Where no number of levels helps E202 comes if it
-- stands outside the profile, else E201.
abbrev pub IsRefusal : Tokenized → SyntaxFault → Type 0
IsRefusal tokens (NoTree place) = IsRefusedAt tokens place false (IsRefused 64)
IsRefusal tokens (Outside place) = IsRefusedAt tokens place true (IsRefused 64)
IsRefusal tokens (TooDeep place) = IsRefusedAt tokens place false (IsDeeper 64)
