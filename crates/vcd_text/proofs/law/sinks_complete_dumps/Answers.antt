use Rattle.vcd_text.specs.DumpLaws.{whole_text}
use Rattle.vcd_text.proofs.law.sinks_complete_dumps.Goals as goal

pub returns : goal.returns
returns c = whole_text
