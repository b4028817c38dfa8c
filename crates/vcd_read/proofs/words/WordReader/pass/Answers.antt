use Rattle.std.proofs.Common.{[], ◌∷◌, ◌++◌, subst, arith}
use Rattle.vcd_read.specs.Words.{Text}
use Rattle.vcd_read.specs.Bytes.{left, Come}
use Rattle.vcd_read.specs.Declarations.{end_word}
use Rattle.vcd_read.proofs.WordLemmas.{more_come, no_end_more}
use Rattle.vcd_read.proofs.words.WordReader.pass.Goals as goal

pub returns-then-is_end-clause-words : goal.returns-then-is_end-clause-words
returns-then-is_end-clause-words g c =
    let (words, without, come) = c.words.invariant.come in
    let first = left g.R.Read.remaining c.args.self.now.bytes in
    let old = left g.R.Read.remaining c.words.self.bytes in
    let new = left g.R.Read.remaining c.must.new.self.bytes in (
      words,
      without,
      more_come words (end_word ∷ []) first old new come
          (subst (λ (word : Text). Come (word ∷ []) old new) (c.is_end.ensures.yes c.if-is_end.true) c.in_ok-must.ensures.word),
    )

pub words-preserved : goal.words-preserved
words-preserved g c =
    let (words, without, come) = c.words.invariant.come in
    let first = left g.R.Read.remaining c.args.self.now.bytes in
    let old = left g.R.Read.remaining c.words.self.bytes in
    let new = left g.R.Read.remaining c.must.new.self.bytes in
    record {
      ready = c.must.ensures.ready;
      budget = omega (arith, c.words.invariant.budget, c.in_ok-must.ensures.budget);
      come = (
        words ++ c.must.new.self.word.items ∷ [],
        no_end_more words c.must.new.self.word.items without (c.is_end.ensures.no c.if-is_end.false),
        more_come words (c.must.new.self.word.items ∷ []) first old new come c.in_ok-must.ensures.word,
      );
    }
