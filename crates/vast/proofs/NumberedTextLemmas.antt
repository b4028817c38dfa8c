-- Each text of the program has its tree with numbered words, and it is the only one.
use Rattle.std.proofs.Common.{◌≡◌, ℕ, suc, ◌+◌, Bool, true, false, if◌then◌else◌, List, [], ◌∷◌, ◌++◌, map, refl, sym, ap, ◌∙◌, arith}
use Rattle.std.specs.List.{slice_get}
use Rattle.vwords.specs.Words.{Text, is_leaf, without_backslash}
use Rattle.vast.specs.TokenTexts.{letters, token_text, leaves_from}
use Rattle.vast.specs.Leaves.{text_leaves}
use Rattle.vast.specs.Modules.{SourceTree, SourceOf}
use Rattle.vast.specs.ModuleTrees.{source_told, source_tree}
use Rattle.vast.specs.NumberedWords.{Word, word_of, words_from}
use Rattle.vast.specs.NumberedTexts.{IsNumbered}
use Rattle.vast.specs.TreeWords.{source_with}
use Rattle.vast.specs.declared.token.Token.{Token}
use Rattle.vast.specs.declared.module.TextTree.{TextTree}
use Rattle.vast.proofs.ModuleWordLemmas.{source_with_told, source_words_told}
use Rattle.vast.proofs.RefilledModules.{source_once}

module _ (words : List Text) where
  -- one word, if trees keep it, and those after it
  one_leaf : (kept : Bool) (t : Token) (w : Word) (ts : List Token) (ws : List Word) → word_of words t ≡ w → map (word_of words) ts ≡ ws →
      map (word_of words) ((if kept then t ∷ [] else []) ++ ts) ≡ (if kept then w ∷ ws else ws)
  one_leaf true t w ts ws same more = λ i. same i ∷ more i
  one_leaf false t w ts ws same more = more

  -- the tokens of the words from a place on, with their letters and numbers
  numbered_rest : (n : ℕ) (rest : List Text) → ((i : ℕ) → slice_get words (n + i) ≡ slice_get rest i) →
      map (word_of words) (leaves_from n rest) ≡ words_from n rest
  numbered_rest n [] here = refl
  numbered_rest n (word ∷ rest) here =
      let at : n ≡ n + 0 = omega arith in
      let word_at = ap (λ found. without_backslash (letters found)) (ap (slice_get words) at ∙ here 0) in
      let after : (i : ℕ) → suc n + i ≡ n + suc i = λ i. omega arith in
      one_leaf (is_leaf word) (record { number = n }) (record { letters = without_backslash word; number = n; path = [] }) (leaves_from (suc n) rest) (words_from (suc n) rest)
      (λ i. record { letters = word_at i; number = n; path = [] })
      (numbered_rest (suc n) rest (λ i. ap (slice_get words) (after i) ∙ here (suc i)))

  -- the tokens that trees keep are those words, with their letters and numbers
  pub numbered_leaves : map (word_of words) (leaves_from 0 words) ≡ words_from 0 words
  numbered_leaves =
      let here : (i : ℕ) → 0 + i ≡ i = λ i. omega arith in
      numbered_rest 0 words (λ i. ap (slice_get words) (here i))

  -- without its numbers it is the tree of letters, without backslashes
  pub numbered_letters : (text : TextTree) → source_with (λ word. word.letters) (source_told (word_of words) text)
      ≡ source_with without_backslash (source_tree words text)
  numbered_letters text = source_with_told (λ word. word.letters) (word_of words) text ∙ sym (source_with_told without_backslash (token_text words) text)

-- a text of the program that keeps the words of a text in their order has its tree with numbered words
pub numbered_text : (words : List Text) (text : TextTree) → text_leaves text ≡ leaves_from 0 words →
    IsNumbered words (source_tree words text) (source_told (word_of words) text)
numbered_text words text same = record {
  is_tree = numbered_letters words text;
  are_words = source_words_told (word_of words) text ∙ ap (map (word_of words)) same ∙ numbered_leaves words;
}

-- and no other tree is it
pub numbered_once : (words : List Text) (tree : SourceTree) (m n : SourceOf Word) →
    IsNumbered words tree m → IsNumbered words tree n → m ≡ n
numbered_once words tree m n one other =
    source_once (λ word. word.letters) (record { letters = []; number = 0; path = [] }) m n (one.is_tree ∙ sym other.is_tree) (one.are_words ∙ sym other.are_words)
