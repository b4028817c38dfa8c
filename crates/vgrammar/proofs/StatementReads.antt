-- Reading gives the one tree of the words of a statement.
use Rattle.std.proofs.Common.{◌≡◌, ℕ, Bool, true, false, ◌&&◌, not, nat_le, List, [], ◌++◌, None, refl, sym, ap, ◌∙◌}
use Rattle.std.proofs.lemmas.List.{append-nil}
use Rattle.basis.proofs.Bools.{and_left, and_right, and_both}
use Rattle.vwords.specs.Words.{Text}
use Rattle.vast.specs.Statements.{StatementTree, spell_statement, statement_depth, fits_statement, ends_in_if}
use Rattle.vexpr_parse.specs.Readers.{got}
use Rattle.vexpr_parse.proofs.ReaderRules.{got_tree}
use Rattle.vgrammar.specs.Statements.{statement, ends_tree}
use Rattle.vgrammar.specs.StatementPlaces.{IsStatement, ReadsSoundly, ReadsCompletely, IsOnly}
use Rattle.vgrammar.proofs.StatementLevels.{statement_phrase}

pub reads_soundly : ReadsSoundly
reads_soundly levels words tree left e =
    let g = (statement_phrase levels).sound words tree left e in (
      spell_statement tree,
      g.whole,
      record {
        spelled = refl;
        fitting = and_left (fits_statement tree) (nat_le (statement_depth tree) levels) g.valid;
        within = and_right (fits_statement tree) (nat_le (statement_depth tree) levels) g.valid;
      },
      g.stopped,
    )

pub reads_completely : ReadsCompletely
reads_completely levels tree before left x e =
    ap (λ ws. statement levels (ws ++ left)) (sym x.spelled)
    ∙ (statement_phrase levels).complete tree left
    (and_both (fits_statement tree) (nat_le (statement_depth tree) levels) x.fitting x.within) e

-- the text's end ends a statement
pub end_ends : (tree : StatementTree) → ends_tree tree None ≡ true
end_ends tree = by_test (ends_in_if tree)
  where
    by_test : (b : Bool) → not (b && false) ≡ true
    by_test true = refl
    by_test false = refl

pub read_whole : (levels : ℕ) (tree : StatementTree) (words : List Text) → IsStatement levels tree words →
    statement levels words ≡ got tree []
read_whole levels tree words x =
    ap (statement levels) (sym (append-nil words)) ∙ reads_completely levels tree words [] x (end_ends tree)

pub is_only : IsOnly
is_only levels words tree other x y = got_tree (sym (read_whole levels tree words x) ∙ read_whole levels other words y)
