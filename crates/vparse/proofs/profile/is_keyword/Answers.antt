use Rattle.vparse.specs.Profile.{keywords}
use Rattle.vparse.proofs.profile.is_keyword.Goals as goal

pub returns : goal.returns
unfolding keywords
returns c = c.is_among.ensures
