-- What the code that reads a statement by its first word goes on from.
use Rattle.std.specs.Str.{bytes_eq}
use Rattle.std.proofs.Common.{◌≡◌, ◌≢◌, ℕ, zero, suc, ◌-◌, ◌<◌, arith, nat_le, Bool, true, false, if◌then◌else◌, None, codes, Result, subst, List, [], ◌∷◌, length, drop, refl, sym, ap, ◌∙◌}
use Rattle.vwords.specs.Words.{Text}
use Rattle.vast.specs.Statements.{StatementTree, task, dump}
use Rattle.vast.specs.StatementTrees.{statement_tree}
use Rattle.vast.specs.declared.statement.Dumping.{Dumping}
use Rattle.vast.specs.declared.statement.Printing.TheVariants as printing
use Rattle.vast.specs.declared.statement.Statement.{Statement}
use Rattle.basis.specs.declared.memory.OrMemory.{OrMemory}
use Rattle.vexpr_parse.specs.declared.stop.Stop.{Stop}
use Rattle.vexpr_parse.specs.declared.stop.Stop.TheVariants.{NoTree, TooDeep}
use Rattle.vexpr_parse.specs.Readers.{Reader, got, stop, and_then, follow, goes, refused, lower, room, front}
use Rattle.std.proofs.lemmas.Bool.Decides.{nat_tests}
use Rattle.vexpr_parse.proofs.ReaderRules.{chosen, passed_over}
use Rattle.vgrammar.specs.declared.start.StatementStart.{StatementStart}
use Rattle.vgrammar.specs.declared.start.StatementStart.TheVariants as start
use Rattle.vgrammar.specs.Parts.{map_tree, roomy}
use Rattle.vgrammar.specs.Starts.{begins_target, is_target, start_of}
use Rattle.vgrammar.specs.Statements.{statement, statement_by, lead_by, begins_statement, assignment, word_only, dump_of}
use Rattle.vstatement_parse.specs.Gives.{Answered, dump_at}
use Rattle.vstatement_parse.specs.Begun.{begun_at, behind_word, levels_of, other_at, statement_at}

-- behind the first word

dumped : (kind : Dumping) (words : List Text) → map_tree (dump_of kind) (word_only (codes ";")) words ≡ dump_at kind words
dumped kind [] = refl
dumped kind (word ∷ words) = by_test (bytes_eq (codes ";") word)
  where
    by_test : (b : Bool) → and_then (follow (if b then goes (got tt) else refused) word words) (λ end. got (dump_of kind end))
        ≡ follow (if b then goes (got (task (dump kind))) else refused) word words
    by_test true = refl
    by_test false = refl

zero_within : (n : ℕ) → nat_le 0 n ≡ true
zero_within n = grind (arith, nat_tests)

-- where no level is asked for
at_once : (below : ℕ) (read : Reader StatementTree) (word : Text) (words : List Text) →
    read words ≡ follow (room below 0 (goes read)) word words
at_once below read word words = sym (ap (λ l. follow l word words) (chosen (nat_le 0 below) (goes read) lower (zero_within below)))

leads : (below : ℕ) (kind : StatementStart) (word : Text) (words : List Text) →
    follow (statement_by below (statement below) kind) word words
    ≡ follow (room below (levels_of kind) (goes (behind_word below kind))) word words
leads below start.Empty word words = at_once below (behind_word below start.Empty) word words
leads below start.Begin word words = at_once below (behind_word below start.Begin) word words
leads below start.Trigger word words = refl
leads below start.If word words = refl
leads below (start.Case kind) word words = refl
leads below (start.Guarded kind) word words = refl
leads below start.Forever word words = refl
leads below start.For word words = refl
leads below start.Delay word words = refl
leads below start.Event word words = refl
leads below (start.Print (printing.Display base)) word words = at_once below (behind_word below (start.Print (printing.Display base))) word words
leads below (start.Print (printing.Write base)) word words = at_once below (behind_word below (start.Print (printing.Write base))) word words
leads below (start.Print (printing.Strobe base)) word words = at_once below (behind_word below (start.Print (printing.Strobe base))) word words
leads below (start.Print (printing.Monitor base)) word words = refl
leads below (start.Idle kind) word words = at_once below (behind_word below (start.Idle kind)) word words
leads below start.DumpFile word words = refl
leads below start.DumpVars word words = at_once below (behind_word below start.DumpVars) word words
leads below (start.Dump kind) word words = dumped kind words ∙ at_once below (dump_at kind) word words
leads below (start.End stops) word words = at_once below (behind_word below (start.End stops)) word words

no_words : (n : ℕ) → n < 0 → ⊥
no_words n e = omega (arith, e)

pub gives_begun : (text : List Text) (below : ℕ) (kind : StatementStart) (words after left : List Text) (result : Result Statement (OrMemory Stop)) (n : ℕ) →
    0 < length words → n ≡ levels_of kind → after ≡ drop 1 words → nat_le n below ≡ true →
    Answered (statement_tree text) (behind_word below kind after) left result → Answered (statement_tree text) (begun_at below kind words) left result
gives_begun text below kind [] after left result n some is e f given = absurd (no_words 0 some)
gives_begun text below kind (word ∷ words) after left result n some is e f given =
    subst (λ a. Answered (statement_tree text) a left result)
    (ap (behind_word below kind) e
    ∙ sym (leads below kind word words ∙ ap (λ l. follow l word words) (chosen (nat_le (levels_of kind) below) _ lower (ap (λ m. nat_le m below) (sym is) ∙ f))))
    given

pub too_low : (below : ℕ) (kind : StatementStart) (words : List Text) (n : ℕ) → 0 < length words → n ≡ levels_of kind →
    nat_le n below ≡ false → begun_at below kind words ≡ stop TooDeep words
too_low below kind [] n some is f = absurd (no_words 0 some)
too_low below kind (word ∷ words) n some is f =
    leads below kind word words
    ∙ ap (λ l. follow l word words) (passed_over (nat_le (levels_of kind) below) (goes (behind_word below kind)) lower
    (ap (λ m. nat_le m below) (sym is) ∙ f))

-- by the first word

pub nothing_at : (below : ℕ) (words : List Text) → words ≡ [] → statement_at below words ≡ stop NoTree words
nothing_at below words e = subst (λ ws. statement_at below ws ≡ stop NoTree ws) (sym e) refl

module _ (below : ℕ) (words : List Text) (word : Text) (is : words ≡ word ∷ drop 1 words) where
  starts : is_target (front words) ≡ begins_target word
  starts = ap (λ ws. is_target (front ws)) is

  abbrev rest : List Text
  rest = drop 1 words

  target_first : begins_target word ≡ true → statement_at below words ≡ roomy below 1 (assignment below) words
  target_first e = chosen (is_target (front words)) _ _ (starts ∙ e)

  other_first : begins_target word ≡ false → statement_at below words ≡ follow (lead_by below (statement below) (start_of word)) word rest
  other_first e = passed_over (is_target (front words)) _ _ (starts ∙ e) ∙ ap (other_at below) is

  pub low_target : begins_target word ≡ true → below ≡ 0 → statement_at below words ≡ stop TooDeep words
  low_target e low = target_first e ∙ ap (λ n. if nat_le 1 n then assignment below words else stop TooDeep words) low

  pub no_start : begins_target word ≡ false → start_of word ≡ None → statement_at below words ≡ stop NoTree words
  no_start e none =
      other_first e ∙ ap (λ o. follow (lead_by below (statement below) o) word rest) none ∙ ap (stop NoTree) (sym is)

-- where no level is left

pub nothing_there : (words : List Text) → words ≡ [] → statement 0 words ≡ stop NoTree words
unfolding statement
nothing_there words e = ap (λ ws. statement 0 ws) e ∙ ap (stop NoTree) (sym e)

low_word : (word : Text) (words : List Text) → begins_statement word ≡ true → statement 0 (word ∷ words) ≡ stop TooDeep (word ∷ words)
unfolding statement
low_word word words e = ap (λ l. follow l word words) (chosen (begins_statement word) lower refused e)

no_word : (word : Text) (words : List Text) → begins_statement word ≡ false → statement 0 (word ∷ words) ≡ stop NoTree (word ∷ words)
unfolding statement
no_word word words e = ap (λ l. follow l word words) (passed_over (begins_statement word) lower refused e)

pub too_deep_there : (words : List Text) (word : Text) → words ≡ word ∷ drop 1 words → begins_statement word ≡ true →
    statement 0 words ≡ stop TooDeep words
too_deep_there words word is e = subst (λ ws. statement 0 ws ≡ stop TooDeep ws) (sym is) (low_word word (drop 1 words) e)

pub no_tree_there : (words : List Text) (word : Text) → words ≡ word ∷ drop 1 words → begins_statement word ≡ false →
    statement 0 words ≡ stop NoTree words
no_tree_there words word is e = subst (λ ws. statement 0 ws ≡ stop NoTree ws) (sym is) (no_word word (drop 1 words) e)

-- where one is

up : (levels : ℕ) (words : List Text) → levels ≢ 0 → statement levels words ≡ statement_at (levels - 1) words
unfolding statement
up zero words e = absurd (e refl)
up (suc below) words e = ap (λ n. statement_at n words) (sym (one_less below))
  where
    one_less : (n : ℕ) → suc n - 1 ≡ n
    one_less n = omega arith

pub gives_up : (text : List Text) (levels : ℕ) (words left : List Text) (result : Result Statement (OrMemory Stop)) → levels ≢ 0 →
    Answered (statement_tree text) (statement_at (levels - 1) words) left result → Answered (statement_tree text) (statement levels words) left result
gives_up text levels words left result some given =
    subst (λ a. Answered (statement_tree text) a left result) (sym (up levels words some)) given
