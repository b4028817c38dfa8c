use Rattle.std.proofs.Common.{ℕ, List, ◌∷◌, ◌++◌, [], ap, subst, ◌∙◌}
use Rattle.vcd_read.specs.Words.{Text}
use Rattle.vcd_read.specs.Numbers.{IsDecimal}
use Rattle.vcd_read.specs.Bytes.{left}
use Rattle.vcd_read.specs.Declarations.{end_word, declared_variable}
use Rattle.vcd_read.specs.Declaring.{all_seen}
use Rattle.vcd_read.proofs.WordLemmas.{more_come}
use Rattle.vcd_read.proofs.HeaderLemmas.{lead_variable}
use Rattle.vcd_read.proofs.header.Header.declare.Goals as goal

pub returns-clause-lead : goal.returns-clause-lead
returns-clause-lead g c =
    let kind = c.must.new.self.word.items in
    let size = c.must-2.new.self.word.items in
    let code = c.in_ok-code.code.items in
    let reference = c.in_ok-reference.reference.items in
    let (range, without, passed) = c.in_ok-pass.ensures.words in
    let first = left g.R.Read.remaining c.args.words.now.bytes in
    let second = left g.R.Read.remaining c.must.new.self.bytes in
    let third = left g.R.Read.remaining c.must-2.new.self.bytes in
    let fourth = left g.R.Read.remaining c.take.new.self.bytes in
    let fifth = left g.R.Read.remaining c.take_inner.new.self.bytes in
    let last = left g.R.Read.remaining c.pass.new.self.bytes in
    let ending : List Text = range ++ end_word ∷ [] in
    let number : IsDecimal size c.in-Some.width = subst (λ (text : Text). IsDecimal text c.in-Some.width) c.word.ensures c.in-Some.ensures in (
      kind ∷ size ∷ code ∷ reference ∷ ending,
      more_come (kind ∷ []) (size ∷ code ∷ reference ∷ ending) first second last c.in_ok-must.ensures.word
          (more_come (size ∷ []) (code ∷ reference ∷ ending) second third last c.in_ok-must-2.ensures.word
          (more_come (code ∷ []) (reference ∷ ending) third fourth last c.in_ok-code.ensures.word
          (more_come (reference ∷ []) ending fourth fifth last c.in_ok-reference.ensures.word passed))),
      lead_variable c.args.self.now c.add.new.self kind size code reference range c.in-Some.width number c.in_ok-reference.ensures.inner without c.in_ok-add.ensures.prefix c.in_ok-add.ensures.outer c.in_ok-add.ensures.unit
          (c.in_ok-add.ensures.variables ∙ ap (λ (text : List ℕ). all_seen c.args.self.now.variables.items
          ++ declared_variable c.args.self.now.prefix.items text c.in-Some.width code ∷ []) c.deref.ensures.value),
    )
