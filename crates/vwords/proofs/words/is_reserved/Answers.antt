use Rattle.vwords.specs.Words.{reserved_words}
use Rattle.vwords.proofs.words.is_reserved.Goals as goal

pub returns : goal.returns
unfolding reserved_words
returns c = c.is_among.ensures
