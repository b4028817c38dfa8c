use Rattle.vgrammar.proofs.SourceStops.{stops_at_place, stops_for_good, stops_too_deep}
use Rattle.vgrammar.proofs.source_law.source_place_law.Goals as goal

pub returns-clause-place : goal.returns-clause-place
returns-clause-place c = stops_at_place

pub returns-clause-good : goal.returns-clause-good
returns-clause-good c = stops_for_good

pub returns-clause-deeper : goal.returns-clause-deeper
returns-clause-deeper c = stops_too_deep
