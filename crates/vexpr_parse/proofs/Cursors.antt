-- What is left at a place of the tokens.
use Rattle.std.proofs.Common.{◌≡◌, ℕ, zero, suc, ◌+◌, ◌-◌, ◌≤◌, true, false, List, [], ◌∷◌, ◌++◌, length, Some, slice_get, drop, take, map, option_map, refl, sym, ap, ◌∙◌, arith, subst}
use Rattle.std.proofs.lemmas.List.{length-drop, length-map, append-nil}
use Rattle.std.proofs.Math.ListN.{drop_of_length-le}
use Rattle.basis.proofs.Lists.{passed}
use Rattle.vlex.specs.Lexed.{Piece}
use Rattle.vlex.specs.Tokenized.{Tokenized, pieces_of, text_at}
use Rattle.vwords.specs.Words.{Text, is_leaf}
use Rattle.vast.specs.TokenTexts.{letters, leaf_at, leaves_from}
use Rattle.vast.specs.declared.token.Token.{Token}
use Rattle.vexpr_parse.specs.Texts.{words_of}
use Rattle.vexpr_parse.specs.declared.cursor.Cursor.{Cursor}
use Rattle.vexpr_parse.specs.Answers.{ahead, leaves_ahead, leaf_here}
use Rattle.vexpr_parse.specs.Readers.{front, is_front}
use Rattle.vexpr_parse.proofs.ReaderRules.{chosen, passed_over, same_text}

-- the text at a place stands before what is left behind it
text_here : (pieces : List Piece) (at : ℕ) (text : Text) → option_map (λ piece. piece.text) (slice_get pieces at) ≡ Some text →
    drop at (map (λ piece. piece.text) pieces) ≡ text ∷ drop 1 (drop at (map (λ piece. piece.text) pieces))
text_here [] at text e = cc
text_here (piece ∷ pieces) zero text e = grind arith
text_here (piece ∷ pieces) (suc at) text e = text_here pieces at text e

-- and is that of the token
letters_here : (pieces : List Piece) (at : ℕ) (text : Text) → option_map (λ piece. piece.text) (slice_get pieces at) ≡ Some text →
    letters (slice_get (map (λ piece. piece.text) pieces) at) ≡ text
letters_here [] at text e = cc
letters_here (piece ∷ pieces) zero text e = cc
letters_here (piece ∷ pieces) (suc at) text e = letters_here pieces at text e

-- by the tokens

pub ahead_text : (tokens : Tokenized) (cursor : Cursor) (text : Text) → text_at tokens cursor.at ≡ Some text →
    ahead tokens cursor ≡ text ∷ drop 1 (ahead tokens cursor)
unfolding ahead
ahead_text tokens cursor text e = text_here (pieces_of tokens) cursor.at text e

pub token_letters : (tokens : Tokenized) (at : ℕ) (text : Text) → text_at tokens at ≡ Some text →
    letters (slice_get (words_of tokens) at) ≡ text
token_letters tokens at text e = letters_here (pieces_of tokens) at text e

pub ahead_length : (tokens : Tokenized) (cursor : Cursor) → length (ahead tokens cursor) ≡ length (pieces_of tokens) - cursor.at
unfolding ahead
ahead_length tokens cursor =
    length-drop cursor.at (words_of tokens) ∙ ap (λ n. n - cursor.at) (length-map (pieces_of tokens) (λ piece. piece.text))

pub ahead_none : (tokens : Tokenized) (cursor : Cursor) → length (pieces_of tokens) ≤ cursor.at → ahead tokens cursor ≡ []
unfolding ahead
ahead_none tokens cursor e =
    drop_of_length-le (words_of tokens)
    (subst (λ n. n ≤ cursor.at) (sym (length-map (pieces_of tokens) (λ piece. piece.text))) e)

pub ahead_passed : (tokens : Tokenized) (cursor next : Cursor) → next.at ≡ cursor.at + 1 → ahead tokens next ≡ drop 1 (ahead tokens cursor)
unfolding ahead
ahead_passed tokens cursor next e = ap (λ n. drop n (words_of tokens)) e ∙ passed cursor.at (words_of tokens)

-- nothing is passed where nothing is left
pub ahead_ended : (tokens : Tokenized) (cursor : Cursor) → length (pieces_of tokens) ≤ cursor.at → ahead tokens cursor ≡ drop 1 (ahead tokens cursor)
ahead_ended tokens cursor e = ended (ahead tokens cursor) (ahead_none tokens cursor e)
  where
    ended : (words : List Text) → words ≡ [] → words ≡ drop 1 words
    ended words none = subst (λ ws. ws ≡ drop 1 ws) (sym none) refl

pub ahead_start : (tokens : Tokenized) (cursor : Cursor) → cursor.at ≡ 0 → ahead tokens cursor ≡ words_of tokens
unfolding ahead
ahead_start tokens cursor e = ap (λ n. drop n (words_of tokens)) e

pub ahead_at : (tokens : Tokenized) (cursor : Cursor) (number : ℕ) → cursor.at ≡ number → ahead tokens cursor ≡ drop number (words_of tokens)
unfolding ahead
ahead_at tokens cursor number e = ap (λ n. drop n (words_of tokens)) e

pub ahead_past : (tokens : Tokenized) (cursor : Cursor) (number : ℕ) → cursor.at ≡ length (pieces_of tokens) → length (pieces_of tokens) ≤ number →
    ahead tokens cursor ≡ drop number (words_of tokens)
ahead_past tokens cursor number e past =
    ahead_none tokens cursor (omega (arith, e))
    ∙ sym (drop_of_length-le (words_of tokens) (subst (λ n. n ≤ number) (sym (length-map (pieces_of tokens) (λ piece. piece.text))) past))

-- the tokens that trees keep

-- those of all words are that of the first one, and those of the words behind it
one_on : (n : ℕ) (words : List Text) → leaves_from n words ≡ leaves_from n (take 1 words) ++ leaves_from (suc n) (drop 1 words)
one_on n [] = refl
one_on n (word ∷ words) = ap (λ ts. ts ++ leaves_from (suc n) words) (sym (append-nil (leaf_at n word)))

pub leaves_passed : (tokens : Tokenized) (cursor next : Cursor) → next.at ≡ cursor.at + 1 →
    leaves_ahead tokens cursor ≡ leaf_here tokens cursor ++ leaves_ahead tokens next
unfolding leaves_ahead leaf_here
leaves_passed tokens cursor next e =
    one_on cursor.at (drop cursor.at (words_of tokens))
    ∙ ap (λ ts. leaves_from cursor.at (take 1 (drop cursor.at (words_of tokens))) ++ ts)
    (sym (ap (λ n. leaves_from n (drop n (words_of tokens))) e
    ∙ ap (λ ws. leaves_from (cursor.at + 1) ws) (passed cursor.at (words_of tokens))
    ∙ ap (λ n. leaves_from n (drop 1 (drop cursor.at (words_of tokens)))) (one_more cursor.at)))
  where
    one_more : (n : ℕ) → n + 1 ≡ suc n
    one_more n = omega arith

-- nothing is passed where nothing is left
pub leaves_ended : (tokens : Tokenized) (cursor : Cursor) → length (pieces_of tokens) ≤ cursor.at →
    leaves_ahead tokens cursor ≡ leaf_here tokens cursor ++ leaves_ahead tokens cursor
unfolding leaves_ahead leaf_here ahead
leaves_ended tokens cursor e = ended (drop cursor.at (words_of tokens)) (ahead_none tokens cursor e)
  where
    ended : (words : List Text) → words ≡ [] → leaves_from cursor.at words ≡ leaves_from cursor.at (take 1 words) ++ leaves_from cursor.at words
    ended words none =
        subst (λ ws. leaves_from cursor.at ws ≡ leaves_from cursor.at (take 1 ws) ++ leaves_from cursor.at ws) (sym none) refl

pub leaf_none : (tokens : Tokenized) (cursor : Cursor) → length (pieces_of tokens) ≤ cursor.at → leaf_here tokens cursor ≡ []
unfolding leaf_here ahead
leaf_none tokens cursor e = ap (λ ws. leaves_from cursor.at (take 1 ws)) (ahead_none tokens cursor e)

pub leaf_text : (tokens : Tokenized) (cursor : Cursor) (text : Text) → text_at tokens cursor.at ≡ Some text →
    leaf_here tokens cursor ≡ leaf_at cursor.at text
unfolding leaf_here
leaf_text tokens cursor text e =
    ap (λ ws. leaves_from cursor.at (take 1 ws)) (text_here (pieces_of tokens) cursor.at text e) ∙ append-nil (leaf_at cursor.at text)

-- a word that no tree keeps

pub no_leaf : (n : ℕ) (word : Text) → is_leaf word ≡ false → leaf_at n word ≡ []
no_leaf n word e = passed_over (is_leaf word) (record { number = n } ∷ []) [] e

blank : (n : ℕ) (text : Text) (words : List Text) → is_front text (front words) ≡ true → is_leaf text ≡ false →
    leaves_from n (take 1 words) ≡ []
blank n text [] e f = refl
blank n text (word ∷ words) e f =
    append-nil (leaf_at n word) ∙ no_leaf n word (subst (λ t. is_leaf t ≡ false) (same_text text word e) f)

pub leaf_blank : (tokens : Tokenized) (cursor : Cursor) (text : Text) → is_front text (front (ahead tokens cursor)) ≡ true →
    is_leaf text ≡ false → leaf_here tokens cursor ≡ []
unfolding leaf_here ahead
leaf_blank tokens cursor text e f = blank cursor.at text (drop cursor.at (words_of tokens)) e f
