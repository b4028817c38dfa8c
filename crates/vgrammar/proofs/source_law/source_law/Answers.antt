use Rattle.vgrammar.proofs.SourceReads.{reads_soundly, reads_completely, is_only}
use Rattle.vgrammar.proofs.source_law.source_law.Goals as goal

pub returns-clause-sound : goal.returns-clause-sound
returns-clause-sound c = reads_soundly

pub returns-clause-complete : goal.returns-clause-complete
returns-clause-complete c = reads_completely

pub returns-clause-only : goal.returns-clause-only
returns-clause-only c = is_only
