use Rattle.std.proofs.Common.{◌-◌, List, map, ap, ◌∙◌}
use Rattle.vast.specs.NumberedTrees.{item_tree}
use Rattle.vast.specs.declared.module.ModuleItem.{ModuleItem}
use Rattle.vexpr_parse.specs.Texts.{words_of}
use Rattle.module_size.specs.Sizes.{item_size, size_of}
use Rattle.module_size.proofs.SizeLemmas.{in_turn}
use Rattle.module_size.proofs.modules.take_module.Goals as goal

pub returns : goal.returns
returns c =
    let words = words_of c.args.tokens.now in
    let ports = c.take_all_ports-left.result in
    in_turn c.args.left c.take_head_parameters.result ports c.take_items.result _ _ _
    (c.take_head_parameters.ensures words) (c.take_all_ports-left.ensures words)
    (c.take_items.ensures ∙ ap (λ (items : List ModuleItem). ports - size_of (item_size c.args.path) (map (item_tree words) items)) c.deref.ensures.value)
