use Rattle.std.proofs.Common.{ℕ, List, ◌∷◌, ◌++◌, [], ap, ◌∙◌}
use Rattle.vcd_read.specs.Bytes.{left}
use Rattle.vcd_read.specs.Declarations.{end_word}
use Rattle.vcd_read.proofs.WordLemmas.{more_come}
use Rattle.vcd_read.proofs.HeaderLemmas.{lead_scope}
use Rattle.vcd_read.proofs.header.Header.open.Goals as goal

pub returns-clause-lead : goal.returns-clause-lead
returns-clause-lead g c =
    let kind = c.must.new.self.word.items in
    let name = c.in_ok-name.name.items in
    let first = left g.R.Read.remaining c.args.words.now.bytes in
    let second = left g.R.Read.remaining c.must.new.self.bytes in
    let third = left g.R.Read.remaining c.take.new.self.bytes in
    let last = left g.R.Read.remaining c.expect.new.self.bytes in (
      kind ∷ name ∷ end_word ∷ [],
      more_come (kind ∷ []) (name ∷ end_word ∷ []) first second last c.in_ok-must.ensures.word
          (more_come (name ∷ []) (end_word ∷ []) second third last c.in_ok-name.ensures.word c.in_ok-expect.ensures.word),
      lead_scope c.args.self.now c.enter.new.self kind name (c.in_ok-enter.ensures.prefix ∙ ap (λ (text : List ℕ). c.args.self.now.prefix.items ++ (text ++ 46 ∷ [])) c.deref.ensures.value) c.in_ok-enter.ensures.outer c.in_ok-enter.ensures.unit c.in_ok-enter.ensures.variables,
    )
