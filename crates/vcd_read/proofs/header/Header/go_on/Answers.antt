use Rattle.std.proofs.Common.{◌≡◌, true, ◌∷◌, ◌++◌, [], sym, ap, ◌∙◌}
use Rattle.vcd_read.specs.Bytes.{left}
use Rattle.vcd_read.specs.Declarations.{is_note, end_word}
use Rattle.vcd_read.proofs.WordLemmas.{more_come}
use Rattle.vcd_read.proofs.HeaderLemmas.{lead_note}
use Rattle.vcd_read.proofs.header.Header.go_on.Goals as goal

pub returns-in_ok-pass-clause-more : goal.returns-in_ok-pass-clause-more
returns-in_ok-pass-clause-more g c _ =
    let keyword = c.must.new.self.word.items in
    let (words, without, passed) = c.in_ok-pass.ensures.words in
    let is : is_note keyword ≡ true = ap is_note (sym c.word-keyword.ensures) ∙ sym c.is_note.ensures ∙ c.if-is_note.true in (
      keyword ∷ (words ++ end_word ∷ []),
      more_come (keyword ∷ []) (words ++ end_word ∷ []) (left g.R.Read.remaining c.args.words.now.bytes) (left g.R.Read.remaining c.must.new.self.bytes)
          (left g.R.Read.remaining c.pass.new.self.bytes) c.in_ok-must.ensures.word passed,
      lead_note c.args.self.now keyword words is without,
    )
