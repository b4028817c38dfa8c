use Rattle.std.proofs.Common.{◌≡◌, List, IfOk, ap, subst, ◌∙◌}
use Rattle.vast.specs.declared.module.ModuleTree.{ModuleTree}
use Rattle.vexpr_parse.specs.Texts.{words_of}
use Rattle.vmodules.specs.Inner.{Units, named_text, units_tree}
use Rattle.action_origins.specs.Origins.{design_origins}
use Rattle.action_origins.proofs.units.origins_of.Goals as goal

pub returns-in-Ok : goal.returns-in-Ok
returns-in-Ok c =
    let words = words_of c.args.tokens.now in
    let whole : List ModuleTree → Units = λ list. record { words = words; list = list } in
    let same : c.in-Ok.modules ≡ whole c.args.text.now.modules.items = c.in-Ok.ensures.ok ∙ ap whole c.deref.ensures.value in
    subst (λ (m : Units). IfOk c.origins_in.result (λ list. list.items ≡ design_origins m.words (units_tree m) (named_text c.args.top))) same c.origins_in.ensures
