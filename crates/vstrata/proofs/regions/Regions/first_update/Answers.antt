use Rattle.std.proofs.Common.{sym, ◌∙◌}
use Rattle.vstrata.proofs.QueueLemmas.{some_first}
use Rattle.vstrata.proofs.regions.Regions.first_update.Goals as goal

pub unreachable-requires : goal.unreachable-requires
unreachable-requires g c = some_first c.args.self.now.activated c.requires (sym c.in-None.is ∙ c.take_update.ensures.taken)
