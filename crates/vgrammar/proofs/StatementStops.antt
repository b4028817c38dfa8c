-- Reading of statements stops at the place from which the words begin none.
use Rattle.std.proofs.Common.{◌≡◌, ℕ, zero, suc, ◌+◌, ◌*◌, ◌≤◌, nat_le, List, [], ◌∷◌, ◌++◌, refl, sym, ap, ◌∙◌, arith, subst}
use Rattle.basis.proofs.Bools.{and_left, and_right, and_both}
use Rattle.basis.proofs.Numbers.{one_within}
use Rattle.vwords.specs.Words.{Text}
use Rattle.vast.specs.Statements.{empty, statement_depth, fits_statement}
use Rattle.vexpr_parse.specs.declared.stop.Stop.TheVariants.{NoTree}
use Rattle.vexpr_parse.specs.Readers.{stop, front}
use Rattle.vexpr_parse.specs.Lawful.{Sees}
use Rattle.vexpr_parse.proofs.ReaderRules.{stop_got}
use Rattle.vexpr_parse.proofs.Grows.{Grows}
use Rattle.vgrammar.specs.Statements.{statement, ends_statement}
use Rattle.vgrammar.specs.StatementPlaces.{BeginsOne, BeginsNone, StopsAtPlace, StopsForGood, StopsTooDeep}
use Rattle.vgrammar.proofs.Phrases.{Example}
use Rattle.vgrammar.proofs.Growth.{up, phrase_keep}
use Rattle.vgrammar.proofs.PhrasePlaces.{IsBegun, stopped, passed}
use Rattle.vgrammar.proofs.LevelFacts.{within_more}
use Rattle.vgrammar.proofs.StatementShapes.{statement_shape}
use Rattle.vgrammar.proofs.StatementLevels.{statement_phrase}
use Rattle.vgrammar.proofs.StatementReads.{read_whole}
use Rattle.vgrammar.proofs.StatementGrowth.{statement_grows}

an_example : (below : ℕ) → Example (statement_shape (suc below))
an_example below = record { tree = empty; valid = one_within below }

begins_one : (levels : ℕ) (words : List Text) → IsBegun (statement_shape levels) words → BeginsOne levels words
begins_one levels words b = (
  b.after,
  b.tree,
  record {
    spelled = b.spelled;
    fitting = and_left (fits_statement b.tree) (nat_le (statement_depth b.tree) levels) b.valid;
    within = and_right (fits_statement b.tree) (nat_le (statement_depth b.tree) levels) b.valid;
  },
)

pub stops_at_place : StopsAtPlace
stops_at_place below words left why e =
    let s = stopped (statement_phrase (suc below)) refl (an_example below) words left why e in
    record {
      before = s.before;
      whole = s.whole;
      viable = begins_one (suc below) s.before s.viable;
      refused = λ other tree same x. s.refused other tree same
          (and_both (fits_statement tree) (nat_le (statement_depth tree) (suc below)) x.fitting x.within) x.spelled;
    }

pub stops_too_deep : StopsTooDeep
stops_too_deep below words left e =
    let s = passed (statement_phrase (suc below)) (statement_phrase (up (suc below))) refl (an_example (suc (suc (suc below))))
    (record { rises = statement_grows (suc below); keep = phrase_keep (statement_phrase (up (suc below))) }) words left e in
    record {
      before = s.before;
      word = s.word;
      behind = s.behind;
      at = s.at;
      whole = s.whole;
      viable = begins_one (up (suc below)) (s.before ++ s.word ∷ []) s.viable;
    }

-- what is refused for good is so with three levels more, and so with any number more
stays : (n below : ℕ) (words left : List Text) → statement (suc below) words ≡ stop NoTree left →
    statement (suc (n * 3 + below)) words ≡ stop NoTree left
stays zero below words left e = ap (λ k. statement (suc k) words) (none below) ∙ e
  where
    none : (b : ℕ) → 0 * 3 + b ≡ b
    none b = omega arith
stays (suc n) below words left e =
    ap (λ k. statement k words) (three_more n below)
    ∙ subst (λ a. Grows a (statement (up (suc (n * 3 + below))) words)) (stays n below words left e)
    (statement_grows (suc (n * 3 + below)) words)
  where
    three_more : (n b : ℕ) → suc (suc n * 3 + b) ≡ suc (suc (suc (suc (n * 3 + b))))
    three_more n b = omega arith

pub stops_for_good : StopsForGood
stops_for_good below words left e =
    let s = subst (Sees (statement (suc below)) ends_statement words) e ((statement_phrase (suc below)).lawful words) in
    record {
      before = s.before;
      whole = s.whole;
      none = λ more above other tree same x. none_more s.before (λ o f. s.near o f) more above other tree same x;
    }
  where
    none_more : (before : List Text) →
        ((other : List Text) → front other ≡ front left → statement (suc below) (before ++ other) ≡ stop NoTree other) →
        (more : ℕ) → suc below ≤ more → BeginsNone more before left
    none_more before near more above other tree same x =
        stop_got (sym (stays more below (before ++ other) other (near other same))
        ∙ read_whole (suc (more * 3 + below)) tree (before ++ other)
        (record {
          spelled = x.spelled;
          fitting = x.fitting;
          within = within_more (statement_depth tree) more (suc (more * 3 + below)) (enough more below) x.within;
        }))
      where
        enough : (m b : ℕ) → m ≤ suc (m * 3 + b)
        enough m b = omega arith
