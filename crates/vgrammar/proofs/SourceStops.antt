-- Reading of whole texts stops at the place from which the words begin none.
use Rattle.std.proofs.Common.{◌≡◌, ℕ, zero, suc, ◌+◌, ◌*◌, ◌≤◌, List, [], ◌∷◌, ◌++◌, refl, sym, ap, ◌∙◌, arith, subst}
use Rattle.vwords.specs.Words.{Text}
use Rattle.vast.specs.Modules.{fits_module}
use Rattle.vexpr_parse.specs.declared.stop.Stop.TheVariants.{NoTree}
use Rattle.vexpr_parse.specs.Readers.{stop, front}
use Rattle.vexpr_parse.specs.Lawful.{Sees}
use Rattle.vexpr_parse.proofs.ReaderRules.{stop_got}
use Rattle.vexpr_parse.proofs.Grows.{Grows}
use Rattle.vgrammar.specs.Modules.{is_some_word, source}
use Rattle.vgrammar.specs.SourcePlaces.{BeginsOne, BeginsNone, StopsAtPlace, StopsForGood, StopsTooDeep}
use Rattle.vgrammar.proofs.Phrases.{Example, always}
use Rattle.vgrammar.proofs.PhraseChoices.{ends_many}
use Rattle.vgrammar.proofs.PhrasePlaces.{IsBegun, stopped, passed}
use Rattle.vgrammar.proofs.Growth.{up}
use Rattle.vgrammar.proofs.ValuePhrases.{allows_each}
use Rattle.vgrammar.proofs.ModulePhrases.{source_shape, source_phrase}
use Rattle.vgrammar.proofs.ModuleGrowth.{source_growth}
use Rattle.vgrammar.proofs.MoreLevels.{derives_more}
use Rattle.vgrammar.proofs.SourceReads.{reads_completely}

no_modules : (below : ℕ) → Example (source_shape below)
no_modules below = record { tree = []; valid = refl }

begins_one : (below : ℕ) (words : List Text) → IsBegun (source_shape below) words → BeginsOne (suc below) words
begins_one below words b = (
  b.after,
  b.tree,
  record { spelled = b.spelled; fitting = sym (allows_each (fits_module (suc below)) [] b.tree) ∙ b.valid },
)

pub stops_at_place : StopsAtPlace
stops_at_place below words left why e =
    let s = stopped (source_phrase below) refl (no_modules below) words left why e in
    record {
      before = s.before;
      whole = s.whole;
      viable = begins_one below s.before s.viable;
      refused = λ other tree same d. s.refused other tree same
          (allows_each (fits_module (suc below)) [] tree ∙ d.fitting) d.spelled;
    }

pub stops_too_deep : StopsTooDeep
stops_too_deep below words left e =
    let s = passed (source_phrase below) (source_phrase (up below)) refl (no_modules (up below))
    (source_growth below) words left e in
    record {
      before = s.before;
      word = s.word;
      behind = s.behind;
      at = s.at;
      whole = s.whole;
      viable = begins_one (up below) (s.before ++ s.word ∷ []) s.viable;
    }

-- what is refused for good is so with three levels more, and so with any number more
stays : (n below : ℕ) (words left : List Text) → source (suc below) words ≡ stop NoTree left →
    source (suc (n * 3 + below)) words ≡ stop NoTree left
stays zero below words left e = ap (λ k. source (suc k) words) (none below) ∙ e
  where
    none : (b : ℕ) → 0 * 3 + b ≡ b
    none b = omega arith
stays (suc n) below words left e =
    ap (λ k. source k words) (three_more n below)
    ∙ subst (λ a. Grows a (source (up (suc (n * 3 + below))) words)) (stays n below words left e)
    ((source_growth (n * 3 + below)).rises words)
  where
    three_more : (n b : ℕ) → suc (suc n * 3 + b) ≡ suc (suc (suc (suc (n * 3 + b))))
    three_more n b = omega arith

pub stops_for_good : StopsForGood
stops_for_good below words left e =
    let s = subst (Sees (source (suc below)) (ends_many is_some_word always) words) e ((source_phrase below).lawful words) in
    record {
      before = s.before;
      whole = s.whole;
      none = λ more above other tree same d. none_more s.before (λ o f. s.near o f) more other tree same d;
    }
  where
    enough : (m b : ℕ) → m ≤ suc (m * 3 + b)
    enough m b = omega arith

    none_more : (before : List Text) →
        ((other : List Text) → front other ≡ front left → source (suc below) (before ++ other) ≡ stop NoTree other) →
        (more : ℕ) → BeginsNone more before left
    none_more before near more other tree same d =
        stop_got (sym (stays more below (before ++ other) other (near other same))
        ∙ reads_completely (more * 3 + below) (before ++ other) tree
        (derives_more more (suc (more * 3 + below)) (enough more below) (before ++ other) tree d))
