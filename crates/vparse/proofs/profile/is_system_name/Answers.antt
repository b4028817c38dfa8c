use Rattle.vparse.specs.Profile.{system_names}
use Rattle.vparse.proofs.profile.is_system_name.Goals as goal

pub returns : goal.returns
unfolding system_names
returns c = c.is_among.ensures
