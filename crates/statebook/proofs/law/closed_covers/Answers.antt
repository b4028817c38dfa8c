use Rattle.statebook.proofs.CoreLemmas.{sound_events, closed_listed}
use Rattle.statebook.proofs.law.closed_covers.Goals as goal

pub returns : goal.returns
returns g c = record {
  sound = λ k limit workers seats events allowed. sound_events _ k limit workers seats events allowed;
  covered = λ k limit workers seats root events all allowed closed.
      closed_listed _ k limit _ root all (g.met.P.Space.lawful c.args.space.now) (sound_events _ k limit workers seats events allowed) closed;
}
