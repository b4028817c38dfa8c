use Rattle.vparse.specs.Profile.{left_out}
use Rattle.vparse.proofs.profile.is_left_out.Goals as goal

pub returns : goal.returns
unfolding left_out
returns c = c.is_among.ensures
