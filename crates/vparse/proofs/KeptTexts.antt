-- What is kept of a whole text: all of it is left at its start, and nothing at its end.
use Rattle.std.proofs.Common.{◌≡◌, ℕ, zero, suc, ◌-◌, Bool, false, List, [], ◌∷◌, ◌++◌, length, drop, refl, sym, ap, ◌∙◌, arith}
use Rattle.std.specs.List.{flat_map}
use Rattle.std.proofs.lemmas.List.{length-drop, append-nil}
use Rattle.vwords.specs.Words.{Text}
use Rattle.vast.specs.TokenTexts.{leaves_from}
use Rattle.vast.specs.declared.token.Token.{Token}
use Rattle.vlex.specs.Tokenized.{Tokenized}
use Rattle.vexpr_parse.specs.declared.cursor.Cursor.{Cursor}
use Rattle.vexpr_parse.specs.Texts.{words_of}
use Rattle.vexpr_parse.specs.Readers.{front}
use Rattle.vexpr_parse.specs.Answers.{ahead, leaves_ahead}
use Rattle.vgrammar.specs.Modules.{is_some_word}

too_long : (n left all : ℕ) → left ≡ all - n → left ≡ suc all → ⊥
too_long n left all e f = omega arith

-- where all words are left none was passed
all_left : (n : ℕ) (words : List Text) → drop n words ≡ words → leaves_from n (drop n words) ≡ leaves_from 0 words
all_left zero words e = refl
all_left (suc n) [] e = refl
all_left (suc n) (word ∷ words) e = absurd (too_long n (length (drop n words)) (length words) (length-drop n words) (ap length e))

pub leaves_start : (tokens : Tokenized) (cursor : Cursor) → ahead tokens cursor ≡ words_of tokens →
    leaves_ahead tokens cursor ≡ leaves_from 0 (words_of tokens)
unfolding ahead leaves_ahead
leaves_start tokens cursor e = all_left cursor.at (words_of tokens) e

-- where no word is left
none_left : (n : ℕ) (words : List Text) → is_some_word (front words) ≡ false → leaves_from n words ≡ []
none_left n [] e = refl
none_left n (word ∷ words) e = cc

pub leaves_end : (tokens : Tokenized) (cursor : Cursor) (seen : Bool) → seen ≡ is_some_word (front (ahead tokens cursor)) →
    seen ≡ false → leaves_ahead tokens cursor ≡ []
unfolding ahead leaves_ahead
leaves_end tokens cursor seen is e = none_left cursor.at (drop cursor.at (words_of tokens)) (sym is ∙ e)

-- all of them are kept
pub all_kept : {T : Type 0} (leaves : T → List Token) (list : List T) (start left : List Token) →
    start ≡ flat_map leaves list ++ left → left ≡ [] → start ≡ flat_map leaves list
all_kept leaves list start left e none = e ∙ ap (λ l. flat_map leaves list ++ l) none ∙ append-nil (flat_map leaves list)
