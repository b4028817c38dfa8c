-- Which of the words that statements are told by a tree keeps: names, numbers and strings, and no others.
use Rattle.std.specs.Str.{bytes_eq}
use Rattle.std.proofs.Common.{◌≡◌, Bool, true, false, ◌||◌, if◌then◌else◌, List, [], ◌∷◌, None, Some, codes, refl, ap, subst, ◌∙◌}
use Rattle.basis.proofs.Bools.{by_if}
use Rattle.vwords.specs.Words.{Text, reserved_words, is_name, is_number, is_string, is_time, is_leaf}
use Rattle.vast.specs.declared.token.Token.{Token}
use Rattle.vwords.specs.declared.cases.CaseKind.TheVariants as case_kind
use Rattle.vast.specs.declared.statement.Base.TheVariants as bases
use Rattle.vast.specs.declared.statement.Printing.TheVariants as printing
use Rattle.vast.specs.declared.statement.Idle.TheVariants as idles
use Rattle.vast.specs.declared.statement.Dumping.TheVariants as dumping
use Rattle.vexpr_parse.specs.Words.{by_spelling}
use Rattle.vexpr_parse.proofs.ReaderRules.{same_text, chosen, passed_over}
use Rattle.vgrammar.specs.declared.start.Guard.TheVariants as guard
use Rattle.vgrammar.specs.declared.start.StatementStart.{StatementStart}
use Rattle.vgrammar.specs.declared.start.StatementStart.TheVariants as start
use Rattle.vgrammar.specs.Starts.{start_word, statement_starts, start_of}

-- ---- reserved words

pub posedge_plain : is_leaf (codes "posedge") ≡ false
unfolding reserved_words
posedge_plain = refl

pub negedge_plain : is_leaf (codes "negedge") ≡ false
unfolding reserved_words
negedge_plain = refl

pub or_plain : is_leaf (codes "or") ≡ false
unfolding reserved_words
or_plain = refl

pub else_plain : is_leaf (codes "else") ≡ false
unfolding reserved_words
else_plain = refl

pub default_plain : is_leaf (codes "default") ≡ false
unfolding reserved_words
default_plain = refl

pub endcase_plain : is_leaf (codes "endcase") ≡ false
unfolding reserved_words
endcase_plain = refl

pub end_plain : is_leaf (codes "end") ≡ false
unfolding reserved_words
end_plain = refl

-- ---- words that are kept

either_way : (b : Bool) → (b || true) ≡ true
either_way true = refl
either_way false = refl

name_kept : (word : Text) → is_name word ≡ true → is_leaf word ≡ true
name_kept word e = ap (λ b. b || (is_number word || (is_string word || is_time word))) e

number_kept : (word : Text) → is_number word ≡ true → is_leaf word ≡ true
number_kept word e = ap (λ b. is_name word || (b || (is_string word || is_time word))) e ∙ either_way (is_name word)

string_kept : (word : Text) → is_string word ≡ true → is_leaf word ≡ true
string_kept word e =
    ap (λ b. is_name word || (is_number word || (b || is_time word))) e ∙ ap (λ b. is_name word || b) (either_way (is_number word))
    ∙ either_way (is_name word)

module _ (word : Text) (token : Token) (here : List Token) (is : here ≡ (if is_leaf word then token ∷ [] else [])) where
  pub name_leaf : is_name word ≡ true → here ≡ token ∷ []
  name_leaf e = is ∙ chosen (is_leaf word) (token ∷ []) [] (name_kept word e)

  pub number_leaf : is_number word ≡ true → here ≡ token ∷ []
  number_leaf e = is ∙ chosen (is_leaf word) (token ∷ []) [] (number_kept word e)

  pub string_leaf : is_string word ≡ true → here ≡ token ∷ []
  string_leaf e = is ∙ chosen (is_leaf word) (token ∷ []) [] (string_kept word e)

-- ---- first words of statements

start_word_plain : (kind : StatementStart) → is_leaf (start_word kind) ≡ false
unfolding reserved_words
start_word_plain start.Empty = refl
start_word_plain start.Begin = refl
start_word_plain start.Trigger = refl
start_word_plain start.If = refl
start_word_plain (start.Case case_kind.Exact) = refl
start_word_plain (start.Case case_kind.Z) = refl
start_word_plain (start.Case case_kind.X) = refl
start_word_plain (start.Guarded guard.While) = refl
start_word_plain (start.Guarded guard.Repeat) = refl
start_word_plain (start.Guarded guard.Wait) = refl
start_word_plain start.Forever = refl
start_word_plain start.For = refl
start_word_plain start.Delay = refl
start_word_plain start.Event = refl
start_word_plain (start.Print (printing.Display bases.Decimal)) = refl
start_word_plain (start.Print (printing.Display bases.Binary)) = refl
start_word_plain (start.Print (printing.Display bases.Octal)) = refl
start_word_plain (start.Print (printing.Display bases.Hexadecimal)) = refl
start_word_plain (start.Print (printing.Write bases.Decimal)) = refl
start_word_plain (start.Print (printing.Write bases.Binary)) = refl
start_word_plain (start.Print (printing.Write bases.Octal)) = refl
start_word_plain (start.Print (printing.Write bases.Hexadecimal)) = refl
start_word_plain (start.Print (printing.Strobe bases.Decimal)) = refl
start_word_plain (start.Print (printing.Strobe bases.Binary)) = refl
start_word_plain (start.Print (printing.Strobe bases.Octal)) = refl
start_word_plain (start.Print (printing.Strobe bases.Hexadecimal)) = refl
start_word_plain (start.Print (printing.Monitor bases.Decimal)) = refl
start_word_plain (start.Print (printing.Monitor bases.Binary)) = refl
start_word_plain (start.Print (printing.Monitor bases.Octal)) = refl
start_word_plain (start.Print (printing.Monitor bases.Hexadecimal)) = refl
start_word_plain (start.Idle (idles.File (printing.Display bases.Decimal))) = refl
start_word_plain (start.Idle (idles.File (printing.Display bases.Binary))) = refl
start_word_plain (start.Idle (idles.File (printing.Display bases.Octal))) = refl
start_word_plain (start.Idle (idles.File (printing.Display bases.Hexadecimal))) = refl
start_word_plain (start.Idle (idles.File (printing.Write bases.Decimal))) = refl
start_word_plain (start.Idle (idles.File (printing.Write bases.Binary))) = refl
start_word_plain (start.Idle (idles.File (printing.Write bases.Octal))) = refl
start_word_plain (start.Idle (idles.File (printing.Write bases.Hexadecimal))) = refl
start_word_plain (start.Idle (idles.File (printing.Strobe bases.Decimal))) = refl
start_word_plain (start.Idle (idles.File (printing.Strobe bases.Binary))) = refl
start_word_plain (start.Idle (idles.File (printing.Strobe bases.Octal))) = refl
start_word_plain (start.Idle (idles.File (printing.Strobe bases.Hexadecimal))) = refl
start_word_plain (start.Idle (idles.File (printing.Monitor bases.Decimal))) = refl
start_word_plain (start.Idle (idles.File (printing.Monitor bases.Binary))) = refl
start_word_plain (start.Idle (idles.File (printing.Monitor bases.Octal))) = refl
start_word_plain (start.Idle (idles.File (printing.Monitor bases.Hexadecimal))) = refl
start_word_plain (start.Idle idles.Open) = refl
start_word_plain (start.Idle idles.Close) = refl
start_word_plain (start.Idle idles.Flush) = refl
start_word_plain (start.Idle idles.TimeFormat) = refl
start_word_plain (start.Idle idles.PrintTimescale) = refl
start_word_plain start.DumpFile = refl
start_word_plain start.DumpVars = refl
start_word_plain (start.Dump dumping.On) = refl
start_word_plain (start.Dump dumping.Off) = refl
start_word_plain (start.Dump dumping.All) = refl
start_word_plain (start.Dump dumping.Flush) = refl
start_word_plain (start.End true) = refl
start_word_plain (start.End false) = refl

among_starts : (all : List StatementStart) (word : Text) (kind : StatementStart) → by_spelling start_word all word ≡ Some kind → is_leaf word ≡ false
among_starts [] word kind e = absurd (nothing e)
  where
    nothing : None ≡ Some kind → ⊥
    nothing e = cc
among_starts (first ∷ more) word kind e =
    by_if (λ o. o ≡ Some kind → is_leaf word ≡ false) (bytes_eq (start_word first) word) (Some first) (by_spelling start_word more word)
    (λ same f. subst (λ w. is_leaf w ≡ false) (same_text (start_word first) word same) (start_word_plain first))
    (λ differs f. among_starts more word kind f) e

start_plain : (word : Text) (kind : StatementStart) → start_of word ≡ Some kind → is_leaf word ≡ false
unfolding start_of
start_plain word kind e = among_starts statement_starts word kind e

-- a word that begins a statement is none that is kept
pub start_leaf : (word : Text) (token : Token) (here : List Token) → here ≡ (if is_leaf word then token ∷ [] else []) →
    (kind : StatementStart) → start_of word ≡ Some kind → here ≡ []
start_leaf word token here is kind e = is ∙ passed_over (is_leaf word) (token ∷ []) [] (start_plain word kind e)
