use Rattle.std.specs.Fmt.{decimal}
use Rattle.std.proofs.lemmas.Option.{same_Some, none-some}
use Rattle.report_text.proofs.LineLemmas.{number_cut}
use Rattle.report_text.proofs.reader.Reader.number.Goals as goal

pub returns-in-Some-clause-each : goal.returns-in-Some-clause-each
returns-in-Some-clause-each c = λ n rest ok h.
    let w = c.word-word.ensures.each (decimal n) rest ok (number_cut c.args.byte n c.args.self.now.rest rest c.requires h) in
    (same_Some c.in-Some.n n (c.in-Some.ensures.each n (h.0, w.0)), w.1)

pub returns-in-None-clause-each : goal.returns-in-None-clause-each
returns-in-None-clause-each c = λ n rest ok h.
    let w = c.word-word.ensures.each (decimal n) rest ok (number_cut c.args.byte n c.args.self.now.rest rest c.requires h) in
    absurd (none-some n (c.in-None.ensures.each n (h.0, w.0)))
