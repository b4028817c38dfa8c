-- Which of the words that begin or join an expression a tree keeps: names, numbers and `$time`, and no others.
use Rattle.std.proofs.Common.{◌≡◌, ℕ, true, false, if◌then◌else◌, List, [], ◌∷◌, ◌||◌, Option, None, Some, codes, drop, take, nat_le, ◌++◌, refl, sym, ap, subst, ◌∙◌}
use Rattle.std.specs.Str.{bytes_eq}
use Rattle.vwords.specs.Words.{Text, is_name, is_number, is_string, is_time, is_leaf}
use Rattle.vast.specs.Expressions.{unary_word, binary_word}
use Rattle.vwords.specs.declared.operators.UnaryOperator.{UnaryOperator}
use Rattle.vwords.specs.declared.operators.UnaryOperator.TheVariants as unary
use Rattle.vwords.specs.declared.operators.BinaryOperator.{BinaryOperator}
use Rattle.vwords.specs.declared.operators.BinaryOperator.TheVariants as binary
use Rattle.vexpr_parse.specs.declared.beginning.Beginning.{Beginning}
use Rattle.vexpr_parse.specs.declared.beginning.Beginning.TheVariants as start
use Rattle.vexpr_parse.specs.declared.beginning.Round.{Round}
use Rattle.vexpr_parse.specs.declared.beginning.Round.TheVariants as round
use Rattle.vexpr_parse.specs.Readers.{front, is_front}
use Rattle.vexpr_parse.specs.Words.{by_spelling, unary_of, unary_operators, binary_of, binary_operators, by_operator, beginning_of, is_asked}
use Rattle.vexpr_parse.specs.Answers.{operator_of_rank, joining, ahead, leaf_here}
use Rattle.basis.proofs.Bools.{and_right, by_if}
use Rattle.std.proofs.lemmas.List.{append-nil}
use Rattle.vast.specs.TokenTexts.{leaf_at, leaves_from}
use Rattle.vast.specs.declared.token.Token.{Token}
use Rattle.vlex.specs.Tokenized.{Tokenized}
use Rattle.vexpr_parse.specs.Texts.{words_of}
use Rattle.vexpr_parse.specs.declared.cursor.Cursor.{Cursor}
use Rattle.vexpr_parse.proofs.Cursors.{leaf_blank, no_leaf}
use Rattle.vexpr_parse.proofs.ReaderRules.{same_text, chosen, passed_over}

-- what is written so is no leaf, where nothing that is written is one
none_written : {A : Type 0} (spell : A → Text) (plain : (one : A) → is_leaf (spell one) ≡ false) (all : List A) (word : Text) (one : A) →
    by_spelling spell all word ≡ Some one → is_leaf word ≡ false
none_written spell plain [] word one e = absurd (nothing e)
  where
    nothing : None ≡ Some one → ⊥
    nothing e = cc
none_written spell plain (first ∷ more) word one e =
    by_if (λ o. o ≡ Some one → is_leaf word ≡ false) (bytes_eq (spell first) word) (Some first) (by_spelling spell more word)
    (λ same f. subst (λ w. is_leaf w ≡ false) (same_text (spell first) word same) (plain first))
    (λ differs f. none_written spell plain more word one f) e

unary_plain : (operator : UnaryOperator) → is_leaf (unary_word operator) ≡ false
unary_plain unary.Plus = refl
unary_plain unary.Minus = refl
unary_plain unary.Not = refl
unary_plain unary.Invert = refl
unary_plain unary.And = refl
unary_plain unary.Nand = refl
unary_plain unary.Or = refl
unary_plain unary.Nor = refl
unary_plain unary.Xor = refl
unary_plain unary.Xnor = refl
unary_plain unary.XorNot = refl

binary_plain : (operator : BinaryOperator) → is_leaf (binary_word operator) ≡ false
binary_plain binary.Times = refl
binary_plain binary.Divide = refl
binary_plain binary.Remainder = refl
binary_plain binary.Plus = refl
binary_plain binary.Minus = refl
binary_plain binary.ShiftLeft = refl
binary_plain binary.ShiftRight = refl
binary_plain binary.ShiftLeftSigned = refl
binary_plain binary.ShiftRightSigned = refl
binary_plain binary.Less = refl
binary_plain binary.LessOrEqual = refl
binary_plain binary.Greater = refl
binary_plain binary.GreaterOrEqual = refl
binary_plain binary.Equal = refl
binary_plain binary.NotEqual = refl
binary_plain binary.CaseEqual = refl
binary_plain binary.CaseNotEqual = refl
binary_plain binary.And = refl
binary_plain binary.Xor = refl
binary_plain binary.Xnor = refl
binary_plain binary.XorNot = refl
binary_plain binary.Or = refl
binary_plain binary.LogicalAnd = refl
binary_plain binary.LogicalOr = refl

-- ---- first words of expressions

abbrev Leads : Text → Beginning → Type 0
Leads word start.Name = is_leaf word ≡ true
Leads word start.Number = is_leaf word ≡ true
Leads word start.Time = is_leaf word ≡ true
Leads word (start.Round kind) = is_leaf word ≡ false
Leads word start.Other = Unit {0}

leads_operator : (word : Text) (operator : Option UnaryOperator) → unary_of word ≡ operator → Leads word (by_operator operator)
unfolding unary_of
leads_operator word None e = tt
leads_operator word (Some operator) e = none_written unary_word unary_plain unary_operators word operator e

named_so : (word : Text) → is_name word ≡ true → is_leaf word ≡ true
named_so word e = ap (λ b. b || (is_number word || (is_string word || is_time word))) e

numbered_so : (word : Text) → is_name word ≡ false → is_number word ≡ true → is_leaf word ≡ true
numbered_so word e f =
    ap (λ b. b || (is_number word || (is_string word || is_time word))) e ∙ ap (λ b. b || (is_string word || is_time word)) f

timed_so : (word : Text) → is_time word ≡ true → is_leaf word ≡ true
timed_so word e = subst (λ w. is_leaf w ≡ true) (same_text (codes "$time") word e) refl

-- this very word, where it is no leaf
plain_word : (text word : Text) → is_leaf text ≡ false → bytes_eq text word ≡ true → is_leaf word ≡ false
plain_word text word plain e = subst (λ w. is_leaf w ≡ false) (same_text text word e) plain

leads : (word : Text) → Leads word (beginning_of word)
unfolding beginning_of
leads word =
    by_if (Leads word) (is_name word) _ _ (named_so word)
    (λ no_name. by_if (Leads word) (is_number word) _ _ (numbered_so word no_name)
    (λ no_number. by_if (Leads word) (bytes_eq (codes "(") word) _ _ (plain_word (codes "(") word refl)
    (λ a. by_if (Leads word) (bytes_eq (codes "{") word) _ _ (plain_word (codes "{") word refl)
    (λ b. by_if (Leads word) (is_time word) _ _ (timed_so word)
    (λ c. by_if (Leads word) (bytes_eq (codes "$signed") word) _ _ (plain_word (codes "$signed") word refl)
    (λ d. by_if (Leads word) (bytes_eq (codes "$unsigned") word) _ _ (plain_word (codes "$unsigned") word refl)
    (λ e. leads_operator word (unary_of word) refl)))))))

pub name_leads : (word : Text) → beginning_of word ≡ start.Name → is_leaf word ≡ true
name_leads word e = subst (Leads word) e (leads word)

pub number_leads : (word : Text) → beginning_of word ≡ start.Number → is_leaf word ≡ true
number_leads word e = subst (Leads word) e (leads word)

pub time_leads : (word : Text) → beginning_of word ≡ start.Time → is_leaf word ≡ true
time_leads word e = subst (Leads word) e (leads word)

pub round_leads : (word : Text) (kind : Round) → beginning_of word ≡ start.Round kind → is_leaf word ≡ false
round_leads word kind e = subst (Leads word) e (leads word)

-- ---- words that go on

pub joining_leaf : (word : Text) (least : ℕ) (operator : BinaryOperator) → joining least (Some word) ≡ Some operator → is_leaf word ≡ false
unfolding binary_of
joining_leaf word least operator e = by (binary_of word) refl e
  where
    by : (o : Option BinaryOperator) → binary_of word ≡ o → operator_of_rank least o ≡ Some operator → is_leaf word ≡ false
    by None is e = absurd (nothing e)
      where
        nothing : None ≡ Some operator → ⊥
        nothing e = cc
    by (Some one) is e = none_written binary_word binary_plain binary_operators word one is

-- ---- the token at a place

pub kept_leaf : (word : Text) (token : Token) (here : List Token) → here ≡ (if is_leaf word then token ∷ [] else []) →
    is_leaf word ≡ true → here ≡ token ∷ []
kept_leaf word token here e f = e ∙ chosen (is_leaf word) (token ∷ []) [] f

pub no_kept_leaf : (word : Text) (token : Token) (here : List Token) → here ≡ (if is_leaf word then token ∷ [] else []) →
    is_leaf word ≡ false → here ≡ []
no_kept_leaf word token here e f = e ∙ passed_over (is_leaf word) (token ∷ []) [] f

-- where an operator goes on
pub operator_leaf : (tokens : Tokenized) (cursor : Cursor) (least : ℕ) (operator : BinaryOperator) →
    joining least (front (ahead tokens cursor)) ≡ Some operator → leaf_here tokens cursor ≡ []
unfolding leaf_here ahead
operator_leaf tokens cursor least operator e = by (drop cursor.at (words_of tokens)) e
  where
    by : (words : List Text) → joining least (front words) ≡ Some operator → leaves_from cursor.at (take 1 words) ≡ []
    by [] e = refl
    by (word ∷ words) e = append-nil (leaf_at cursor.at word) ∙ no_leaf cursor.at word (joining_leaf word least operator e)

-- where a conditional does
pub asked_leaf : (tokens : Tokenized) (cursor : Cursor) (least : ℕ) → is_asked least (front (ahead tokens cursor)) ≡ true →
    leaf_here tokens cursor ≡ []
asked_leaf tokens cursor least e =
    leaf_blank tokens cursor (codes "?") (and_right (nat_le least 0) (is_front (codes "?") (front (ahead tokens cursor))) e) refl
