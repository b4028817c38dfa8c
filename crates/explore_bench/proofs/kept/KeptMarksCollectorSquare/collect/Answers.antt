use Rattle.explore_bench.proofs.KeptLemmas.{collects_more, collects_same}
use Rattle.explore_bench.proofs.kept.KeptMarksCollectorSquare.collect.Goals as goal

pub returns-clause-ok : goal.returns-clause-ok
returns-clause-ok c = collects_more c.args.self.now (record { ranks = c.push.new.self }) c.args.closed c.in_ok-push.ensures.items

pub returns-in_err-push-clause-err : goal.returns-in_err-push-clause-err
returns-in_err-push-clause-err c = collects_same c.args.self.now (record { ranks = c.push.new.self }) c.from_residual.result c.in_err-push.ensures.items
