use Rattle.std.proofs.Common.{◌∷◌, []}
use Rattle.vcd_read.specs.Declarations.{end_word}
use Rattle.vcd_read.proofs.HeaderLemmas.{lead_upscope}
use Rattle.vcd_read.proofs.header.Header.close.Goals as goal

pub returns-then-leave-clause-lead : goal.returns-then-leave-clause-lead
returns-then-leave-clause-lead g c =
    (end_word ∷ [], c.in_ok-expect.ensures.word, lead_upscope c.args.self.now c.leave.new.self (c.leave.ensures.outer c.if-leave.true) c.leave.ensures.unit c.leave.ensures.variables)
