use Rattle.std.proofs.Common.{ℕ, List, [], ◌∷◌, ◌++◌, ap, sym, ◌∙◌}
use Rattle.vcd_read.proofs.TellLemmas.{tell_vector}
use Rattle.vcd_read.proofs.commands.Commands.vector.Goals as goal

pub returns-clause-tell : goal.returns-clause-tell
returns-clause-tell g c = (
  c.in_ok-code.code.items ∷ [],
  c.in_ok-code.ensures.word,
  λ letter is. tell_vector c.args.self.now.inside letter c.args.digits.now c.in_ok-code.code.items c.extend_from_slice.new.self.items
      (sym c.are_digits.ensures ∙ c.if-not-are_digits.false)
      (c.in_ok-extend_from_slice.ensures.items ∙ ap (λ (list : List ℕ). list ++ c.args.digits.now) c.new-kept.ensures.items) is,
)
