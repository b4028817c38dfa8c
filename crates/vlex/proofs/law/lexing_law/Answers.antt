use Rattle.vlex.proofs.Cuts.{one_lexed}
use Rattle.vlex.proofs.Places.{one_words}
use Rattle.vlex.proofs.law.lexing_law.Goals as goal

pub returns : goal.returns
returns c = record { one = one_lexed; places = one_words }
