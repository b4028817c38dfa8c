-- *product rule*: What `parse_expr` answers: the longest expression at a token (docs/LANGUAGE.md, "Grammar" and "Depth"), for that call alone.
use Rattle.std.specs.Prelude.{◌≡◌, ℕ, ◌≤◌, true, false, List, ◌++◌, Option, length, drop, slice_get}
use Rattle.vsrc.specs.Source.{place_of}
use Rattle.vsrc.specs.declared.expanded.Place.{Place}
use Rattle.vlex.specs.Tokenized.{Tokenized, start_of}
use Rattle.vwords.specs.Words.{Text}
use Rattle.vast.specs.ExpressionTrees.{tree_of}
use Rattle.vast.specs.Leaves.{leaves_of}
use Rattle.vast.specs.TokenTexts.{leaves_from}
use Rattle.vast.specs.declared.expression.Expression.{Expression}
use Rattle.vexpr_parse.specs.Texts.{words_of}
use Rattle.vexpr_parse.specs.Places.{IsFound, IsPlace, IsRefused, IsDeeper}
use Rattle.vexpr_parse.specs.Readers.{got, stop}
use Rattle.vexpr_parse.specs.Reading.{expression}
use Rattle.vexpr_parse.specs.declared.stop.Stop.{Stop}
use Rattle.vexpr_parse.specs.declared.stop.Stop.TheVariants as why
use Rattle.vparse.specs.declared.fault.SyntaxFault.{SyntaxFault}
use Rattle.vparse.specs.declared.fault.SyntaxFault.TheVariants.{NoTree, Outside, TooDeep}
use Rattle.vparse.specs.Profile.{is_any_outside}

-- The words from token `at` up to token `end` are those of the tree, and of no other. No more of the words are an expression. Reading
-- them word by word gives the tree and ends there. The tree keeps the tokens of its names, its numbers and each `$time`, each by its own
-- number.
pub record IsLongest (tokens : Tokenized) (at end : ℕ) (tree : Expression) : Type 0 where
  pub within : end ≤ length (words_of tokens)
  pub found : IsFound 64 (drop at (words_of tokens)) (drop end (words_of tokens)) (tree_of (words_of tokens) tree)
  pub read : expression 64 0 (drop at (words_of tokens)) ≡ got (tree_of (words_of tokens) tree) (drop end (words_of tokens))
  pub leaves : leaves_from at (drop at (words_of tokens)) ≡ leaves_of tree ++ leaves_from end (drop end (words_of tokens))

-- The words from token `at` up to token `index` begin an expression, and with the next word they begin none. The token of that word
-- begins at the place, or the text ends there. Reading the words one by one stops there: it has given no expression yet.
pub record IsStoppedFrom (tokens : Tokenized) (at : ℕ) (place : Place) (reason : Stop) (outside : Option Text → Type 0)
    (helps : List Text → List Text → Type 0) : Type 0 where
  pub index : ℕ
  pub within : index ≤ length (words_of tokens)
  pub placed : place ≡ place_of tokens.source (start_of tokens index)
  pub read : expression 64 0 (drop at (words_of tokens)) ≡ stop reason (drop index (words_of tokens))
  pub refused : IsPlace 64 0 (drop at (words_of tokens)) (drop index (words_of tokens))
  pub with_more : helps (drop at (words_of tokens)) (drop index (words_of tokens))
  pub judged : outside (slice_get (words_of tokens) index)

-- E203 comes where the refused word would go on to an expression of more levels. Where no number of levels helps E202 comes if it
-- stands outside the profile, else E201.
abbrev pub IsStoppedBy : Tokenized → ℕ → SyntaxFault → Type 0
IsStoppedBy tokens at (NoTree place) = IsStoppedFrom tokens at place why.NoTree (λ word. is_any_outside word ≡ false) (IsRefused 64 0)
IsStoppedBy tokens at (Outside place) = IsStoppedFrom tokens at place why.NoTree (λ word. is_any_outside word ≡ true) (IsRefused 64 0)
IsStoppedBy tokens at (TooDeep place) = IsStoppedFrom tokens at place why.TooDeep (λ word. Unit {0}) (IsDeeper 64 0)
