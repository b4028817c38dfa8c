-- Reading gives the one tree of the words of a text.
use Rattle.std.proofs.Common.{◌≡◌, ℕ, suc, ◌+◌, ◌≤◌, true, false, not, List, [], ◌∷◌, ◌++◌, refl, sym, ap, ◌∙◌, arith}
use Rattle.std.proofs.lemmas.List.{append-nil}
use Rattle.vwords.specs.Words.{Text}
use Rattle.vast.specs.Modules.{fits_module, spell}
use Rattle.vexpr_parse.specs.Readers.{front}
use Rattle.vexpr_parse.proofs.ReaderRules.{got_tree}
use Rattle.vgrammar.specs.Modules.{is_some_word, source}
use Rattle.vgrammar.specs.SourcePlaces.{ReadsSoundly, ReadsCompletely, IsOnly}
use Rattle.vgrammar.proofs.ValuePhrases.{allows_each}
use Rattle.vgrammar.proofs.MoreLevels.{derives_more}
use Rattle.vgrammar.proofs.ModulePhrases.{source_phrase}

no_word : (words : List Text) → not (is_some_word (front words)) ≡ true → words ≡ []
no_word [] e = refl
no_word (word ∷ words) e = let none : false ≡ true = e in absurd cc

pub reads_soundly : ReadsSoundly
reads_soundly below words tree left e =
    let g = (source_phrase below).sound words tree left e in
    let end = no_word left g.stopped in (
      end,
      record {
        spelled = sym (append-nil (spell tree)) ∙ ap (λ ws. spell tree ++ ws) (sym end) ∙ sym g.whole;
        fitting = sym (allows_each (fits_module (suc below)) [] tree) ∙ g.valid;
      },
    )

pub reads_completely : ReadsCompletely
reads_completely below words tree d =
    ap (source (suc below)) (sym (append-nil words) ∙ ap (λ ws. ws ++ []) (sym d.spelled))
    ∙ (source_phrase below).complete tree [] (allows_each (fits_module (suc below)) [] tree ∙ d.fitting) refl

pub is_only : IsOnly
is_only levels others words tree other d e =
    got_tree (sym (reads_completely (levels + others) words tree
    (derives_more levels (suc (levels + others)) (left_within levels others) words tree d))
    ∙ reads_completely (levels + others) words other
    (derives_more others (suc (levels + others)) (right_within levels others) words other e))
  where
    left_within : (a b : ℕ) → a ≤ suc (a + b)
    left_within a b = omega arith

    right_within : (a b : ℕ) → b ≤ suc (a + b)
    right_within a b = omega arith
