use Rattle.std.proofs.Common.{[], ◌∷◌, ◌++◌}
use Rattle.vcd_read.specs.Declarations.{end_word}
use Rattle.vcd_read.proofs.TellLemmas.{tell_comment}
use Rattle.vcd_read.proofs.commands.Commands.comment.Goals as goal

pub returns-clause-tell : goal.returns-clause-tell
returns-clause-tell g c =
    let (words, without, passed) = c.in_ok-pass.ensures.words in
    (words ++ end_word ∷ [], passed, tell_comment c.args.self.now.inside words c.if-self.false without)
