use Rattle.vcd_read.proofs.TellLemmas.{tell_time}
use Rattle.vcd_read.proofs.commands.Commands.time.Goals as goal

pub returns-in-Some-clause-tell : goal.returns-in-Some-clause-tell
returns-in-Some-clause-tell g c = tell_time c.args.self.now.inside c.args.digits.now c.in-Some.time c.in-Some.ensures c.if-not-self.true
