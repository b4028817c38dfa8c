use Rattle.std.proofs.Common.{[], ◌∷◌, subst, sym}
use Rattle.vcd_read.specs.Words.{Text}
use Rattle.vcd_read.specs.Bytes.{left, Come}
use Rattle.vcd_read.specs.Telling.{Tell}
use Rattle.vcd_read.proofs.WordLemmas.{none_come}
use Rattle.vcd_read.proofs.TellLemmas.{tell_ends}
use Rattle.vcd_read.proofs.commands.Commands.keyword.Goals as goal

pub returns-then-is_same-2-clause-tell : goal.returns-then-is_same-2-clause-tell
returns-then-is_same-2-clause-tell g c = (
  [],
  subst (λ w. Come [] (left g.R.Read.remaining c.args.self.now.words.bytes) (left g.R.Read.remaining w.bytes)) (sym c.in_ok-turn.ensures.words) (none_come (left g.R.Read.remaining c.args.self.now.words.bytes)),
  subst (λ (word : Text). Tell (word ∷ []) c.args.self.now.inside c.turn.new.self.inside []) (sym (c.is_same-2.ensures.same c.if-is_same-2.true))
      (tell_ends c.args.self.now.inside c.turn.new.self.inside c.in_ok-turn.ensures.inside.0 c.in_ok-turn.ensures.inside.1),
)
