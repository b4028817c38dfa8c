use Rattle.elaboration_law.proofs.DepthLemmas.{depth_meant}
use Rattle.elaboration_law.proofs.DriverLemmas.{drivers_meant}
use Rattle.elaboration_law.proofs.NameLemmas.{names_meant}
use Rattle.elaboration_law.proofs.CountLemmas.{counts_meant}
use Rattle.elaboration_law.proofs.TopLemmas.{tops_meant}
use Rattle.elaboration_law.proofs.MisfitLemmas.{misfits_meant}
use Rattle.elaboration_law.proofs.UnknownLemmas.{unknown_meant}
use Rattle.elaboration_law.proofs.WidthLemmas.{widths_meant}
use Rattle.elaboration_law.proofs.ConstantLemmas.{constants_meant}
use Rattle.elaboration_law.proofs.KindLemmas.{kinds_meant}
use Rattle.elaboration_law.proofs.elaboration_rules.Goals as goal

pub returns : goal.returns
returns c = record { tops = tops_meant; names = names_meant; known = unknown_meant; drivers = drivers_meant; connections = misfits_meant; widths = widths_meant; constants = constants_meant; depth = depth_meant; counts = counts_meant; kinds = kinds_meant }
