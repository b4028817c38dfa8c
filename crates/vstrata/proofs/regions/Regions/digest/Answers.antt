use Rattle.std.proofs.Common.{ap, ◌∙◌}
use Rattle.vmodel.specs.Queue.{Queue}
use Rattle.vstrata.proofs.DigestLemmas.{parts_mixed}
use Rattle.vstrata.proofs.regions.Regions.digest.Goals as goal

pub returns : goal.returns
returns g c =
    parts_mixed c.args.self.now _ _ _ _ _ _ (c.time.ensures ∙ ap (λ (q : Queue). q.time) c.self.view_is)
    (ap (λ (q : Queue). q.future) c.self.view_is) c.mix.ensures c.mix_processes-processes.ensures c.mix_events-events.ensures
    c.digest_after.ensures
