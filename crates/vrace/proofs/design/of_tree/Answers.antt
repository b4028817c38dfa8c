use Rattle.std.proofs.Common.{subst}
use Rattle.vparse.specs.Refusals.{IsRefusal}
use Rattle.vrace.proofs.DesignLemmas.{treeless}
use Rattle.vrace.proofs.design.of_tree.Goals as goal

pub returns-in-NoTree : goal.returns-in-NoTree
returns-in-NoTree c = λ source tokens top cut none refused. (
  treeless source tokens cut none,
  (c.in-NoTree.place, c.at.ensures, (tokens, cut.are_tokens, subst (IsRefusal tokens) c.in-NoTree.is refused)),
)

pub returns-in-Outside : goal.returns-in-Outside
returns-in-Outside c = λ source tokens top cut none refused. (
  treeless source tokens cut none,
  (c.in-Outside.place, c.at-in-Outside.ensures, (tokens, cut.are_tokens, subst (IsRefusal tokens) c.in-Outside.is refused)),
)

pub returns-in-TooDeep : goal.returns-in-TooDeep
returns-in-TooDeep c = λ source tokens top cut none refused. (
  treeless source tokens cut none,
  (c.in-TooDeep.place, c.at-in-TooDeep.ensures, (tokens, cut.are_tokens, subst (IsRefusal tokens) c.in-TooDeep.is refused)),
)
