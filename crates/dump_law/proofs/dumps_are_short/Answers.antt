use Rattle.dump_law.proofs.DesignLemmas.{designs_small}
use Rattle.dump_law.proofs.RunLemmas.{run_short}
use Rattle.dump_law.proofs.dumps_are_short.Goals as goal

pub returns : goal.returns
returns c = record {
  small = designs_small;
  short = run_short c.run_law.ensures.kept c.run_law.ensures.values c.run_law.ensures.shapes c.run_law.ensures.ended;
}
