use Rattle.std.proofs.Common.{ap, sym, ◌∙◌, Option, Bor}
use Rattle.std.specs.Prelude.{option_and_then}
use Rattle.std.specs.Option.{option_copied}
use Rattle.vast.specs.declared.expression.Expression.{Expression}
use Rattle.vmodules.specs.Inner.{value_tree}
use Rattle.vmodules.proofs.ConnectLemmas.{value_is}
use Rattle.vmodules.proofs.connect.ConnectionMap.value.Goals as goal

pub returns-in-None : goal.returns-in-None
returns-in-None c words =
    ap (λ (r : Option (Bor (Option (Bor Expression)))). option_and_then (value_tree words) (option_copied r)) (sym c.in-None.is)
    ∙ value_is words c.args.name.now c.self.inside.entries.entries c.args.self.now (option_copied c.get.result) c.self.view_is c.get.ensures.value

pub returns-in-Some : goal.returns-in-Some
returns-in-Some c words =
    ap (λ (r : Option (Bor (Option (Bor Expression)))). option_and_then (value_tree words) (option_copied r)) (sym c.in-Some.is)
    ∙ value_is words c.args.name.now c.self.inside.entries.entries c.args.self.now (option_copied c.get.result) c.self.view_is c.get.ensures.value
