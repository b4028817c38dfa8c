-- Words that are told apart: by their first byte, by what they mean, by what no reader takes.
use Rattle.std.proofs.Common.{◌≡◌, ℕ, zero, suc, ◌<◌, Bool, true, false, ◌&&◌, ◌||◌, ◌==◌, not, if◌then◌else◌, List, [], ◌∷◌, ◌++◌, Option, None, Some, length, refl, sym, ap, ◌∙◌, arith, subst}
use Rattle.std.specs.List.{list_all}
use Rattle.std.specs.Str.{bytes_eq}
use Rattle.std.specs.Char.{is_ascii_digit}
use Rattle.std.proofs.lemmas.Bool.Decides.{nat_tests}
use Rattle.std.proofs.lemmas.Bool.{false_from_ne_true}
use Rattle.basis.specs.Letters.{begins_name, is_in_name}
use Rattle.vwords.specs.Words.{Text, is_name, is_number, is_string, is_reserved, are_printable}
use Rattle.vast.specs.Expressions.{ExpressionTree}
use Rattle.vexpr_parse.specs.declared.beginning.Beginning.TheVariants as start
use Rattle.vexpr_parse.specs.Readers.{got, Reader, front, and_then, follow}
use Rattle.vexpr_parse.specs.Words.{by_spelling, beginning_of, unary_of}
use Rattle.vexpr_parse.specs.Reading.{primary_by, onward, expression}
use Rattle.vexpr_parse.specs.Lawful.{Ends}
use Rattle.vexpr_parse.proofs.ReaderRules.{same_text, stop_got}
use Rattle.vgrammar.specs.Statements.{value}
use Rattle.vgrammar.proofs.Phrases.{Shape, Phrase, Worded}
use Rattle.vgrammar.proofs.PhraseChoices.{Tested}

pub name_no_number : (word : Text) → is_name word ≡ true → is_number word ≡ false
name_no_number [] e = refl
name_no_number (c ∷ cs) e = by_first (begins_name c) (c == 92) refl refl e
  where
    no_digit : (c : ℕ) → begins_name c ≡ true → (is_ascii_digit c || (c == 39)) ≡ false
    no_digit c e = grind (arith, nat_tests)

    backslash_no_digit : (c : ℕ) → (c == 92) ≡ true → (is_ascii_digit c || (c == 39)) ≡ false
    backslash_no_digit c e = grind (arith, nat_tests)

    by_first : (letter backslash : Bool) → begins_name c ≡ letter → (c == 92) ≡ backslash →
        ((letter && list_all is_in_name cs && not (is_reserved (c ∷ cs))) || (backslash && are_printable cs)) ≡ true → is_number (c ∷ cs) ≡ false
    by_first true backslash is_letter is_backslash e = no_digit c is_letter
    by_first false true is_letter is_backslash e = backslash_no_digit c is_backslash
    by_first false false is_letter is_backslash e = let no : false ≡ true = e in absurd cc

pub as_written : {A : Type 0} (spell : A → Text) (all : List A) (word : Text) (tree : A) → by_spelling spell all word ≡ Some tree →
    spell tree ≡ word
as_written spell [] word tree e = let no : None ≡ Some tree = e in absurd cc
as_written spell (one ∷ more) word tree e = by_test (bytes_eq (spell one) word) refl (as_written spell more word tree) e
  where
    by_test : (b : Bool) → bytes_eq (spell one) word ≡ b → (by_spelling spell more word ≡ Some tree → spell tree ≡ word) →
        (if b then Some one else by_spelling spell more word) ≡ Some tree → spell tree ≡ word
    by_test true is later e =
        let same : Some one ≡ Some tree = e in
        let eq : one ≡ tree = cc in
        sym (ap spell eq) ∙ same_text (spell one) word is
    by_test false is later e = later e

-- a word that the reader refuses begins no tree
pub refused_first : {A : Type 0} (test : Option Text → Bool) {read : Reader A} {ends : Ends} {s : Shape A} →
    Phrase read ends s → Worded s →
    ends None ≡ true →
    ((word : Text) (words : List Text) (tree : A) (left : List Text) → test (Some word) ≡ true → read (word ∷ words)
    ≡ got tree left → ⊥) →
    Tested test false s
refused_first test {read = read} {s = s} p some end refuses tree v rest = by_words (s.spell tree) (some tree v)
    (p.complete tree [] v (p.closed tree None end))
  where
    by_words : (words : List Text) → 0 < length words → read (words ++ []) ≡ got tree [] → test (front (words ++ rest)) ≡ false
    by_words [] e f = absurd (below_zero e)
      where
        below_zero : 0 < 0 → ⊥
        below_zero e = omega (arith, e)
    by_words (word ∷ words) e f = false_from_ne_true (test (Some word)) (λ g. refuses word (words ++ []) tree [] g f)

-- an expression begins with no word that begins none
pub value_refuses : (n : ℕ) (word : Text) → beginning_of word ≡ start.Other → (words : List Text) (tree : ExpressionTree)
    (left : List Text) → value n (word ∷ words) ≡ got tree left → ⊥
unfolding expression
value_refuses zero word is words tree left e = stop_got e
value_refuses (suc below) word is words tree left e =
    stop_got (sym (ap (λ b. and_then (follow (primary_by below (expression below) word b) word words)
    (onward below (expression below) 0)) is) ∙ e)

pub string_is_other : (word : Text) → is_string word ≡ true → beginning_of word ≡ start.Other
unfolding beginning_of unary_of
string_is_other [] e = let no : false ≡ true = e in absurd cc
string_is_other (c ∷ cs) e = subst (λ d. beginning_of (d ∷ cs) ≡ start.Other) (sym (is_quote c e)) refl
  where
    is_quote : (c : ℕ) → (c == 34) ≡ true → c ≡ 34
    is_quote c e = grind (arith, nat_tests)
