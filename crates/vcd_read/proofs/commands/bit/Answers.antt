use Rattle.std.proofs.Common.{ℕ, List, [], ◌∷◌, ◌++◌, ap, ◌∙◌}
use Rattle.vcd_read.proofs.TellLemmas.{tell_bit}
use Rattle.vcd_read.proofs.commands.bit.Goals as goal

pub returns : goal.returns
returns c inside =
    tell_bit inside c.args.digit c.args.code.now c.extend_from_slice.new.self.items c.push.new.self.items c.requires
    (c.in_ok-extend_from_slice.ensures.items ∙ ap (λ (list : List ℕ). list ++ c.args.code.now) c.new-name.ensures.items)
    (c.in_ok-push.ensures.items ∙ ap (λ (list : List ℕ). list ++ c.args.digit ∷ []) c.new-digits.ensures.items)
