use Rattle.vlex.specs.Lexed.{lead_words}
use Rattle.vlex.proofs.attributes.is_lead_word.Goals as goal

pub returns : goal.returns
unfolding lead_words
returns c = c.is_among.ensures
