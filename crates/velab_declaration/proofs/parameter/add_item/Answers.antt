use Rattle.std.proofs.Common.{List, sym, ap, subst, ◌∙◌}
use Rattle.vast.specs.NumberedTrees.{item_tree}
use Rattle.vast.specs.declared.module.ModuleItem.{ModuleItem}
use Rattle.vast.specs.declared.module.Setting.{Setting}
use Rattle.vexpr_parse.specs.Texts.{words_of}
use Rattle.velab_expr.specs.Answers.{Makes}
use Rattle.velab_expr.specs.Symbols.{Symbol, symbols_by}
use Rattle.velab_declaration.specs.Parameters.{add_symbols}
use Rattle.velab_declaration.specs.Inner.{symbols_of, overrides_tree}
use Rattle.velab_declaration.proofs.parameter.add_item.Goals as goal

pub returns-in-Parameters-clause-makes : goal.returns-in-Parameters-clause-makes
returns-in-Parameters-clause-makes c =
    let words = words_of c.args.tokens.now in
    subst (λ (list : List Symbol). Makes c.add_all.result c.add_all.new.into (add_symbols (overrides_tree words c.args.overrides.now) c.args.into.now list))
    (ap (λ (list : List Setting). symbols_of words c.in-Parameters.kind list) c.deref.ensures.value
    ∙ sym (ap (λ (item : ModuleItem). symbols_by (item_tree words item)) c.in-Parameters.is))
    c.add_all.ensures.makes
