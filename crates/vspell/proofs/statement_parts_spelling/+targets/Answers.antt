use Rattle.vast.specs.TokenTexts.{texts}
use Rattle.vspell.specs.Spellings.{texts_of}
use Rattle.vspell.proofs.SpellLemmas.{puts_as, joined_spelled}
use Rattle.vspell.proofs.statement_parts_spelling.+targets.Goals as goal

pub put_target-returns-in-Joined : goal.put_target-returns-in-Joined
put_target-returns-in-Joined t c =
    puts_as c.put_joined.result (texts_of c.args.out.now.items) (texts_of c.put_joined.new.out.items) _ _
    (joined_spelled (texts c.args.words.now) c.args.target.now c.in-Joined.at c.in-Joined.targets c.deref-in-Joined.result.now
    c.in-Joined.is c.deref-in-Joined.ensures.value)
    c.put_joined.ensures
