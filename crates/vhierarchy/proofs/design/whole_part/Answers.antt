use Rattle.std.proofs.Common.{List, ap, sym, ◌∙◌}
use Rattle.vwords.specs.Words.{Text, without_backslash}
use Rattle.vast.specs.NumberedModules.{ModuleTree, SourceTree}
use Rattle.vast.specs.NumberedTrees.{module_tree}
use Rattle.vast.specs.TokenTexts.{token_text}
use Rattle.vmodules.specs.Inner.{entries_tree, units_tree}
use Rattle.vhierarchy.proofs.StepLemmas.{hands_over, same_refused}
use Rattle.vhierarchy.proofs.DesignLemmas.{top_elaborated, top_is}
use Rattle.vhierarchy.proofs.design.whole_part.Goals as goal

pub returns-in_err-put_unit : goal.returns-in_err-put_unit
returns-in_err-put_unit c =
    let words : List Text = c.args.modules.now.words in
    let modules : SourceTree = units_tree c.args.modules.now in
    let m : ModuleTree = module_tree words c.args.unit.now in
    let is_top = top_is m c.letters-name.result.now c.new-names.result (entries_tree words c.new-connections.result)
    (c.letters-name.ensures ∙ ap (λ (ws : List Text). without_backslash (token_text ws c.args.unit.now.name)) c.tokens.ensures) c.new-names.ensures (ap (entries_tree words) c.new-connections.ensures) in
    hands_over c.from_residual.result c.in_err-put_unit.field-0.0 _ c.from_residual.ensures.1
    (same_refused _ _ (top_elaborated modules m c.most_levels.result c.new-part.result _ c.most_levels.ensures c.new-part.ensures is_top) c.in_err-put_unit.field-0.0 c.in_err-put_unit.ensures)

pub returns : goal.returns
returns c =
    let words : List Text = c.args.modules.now.words in
    let modules : SourceTree = units_tree c.args.modules.now in
    let m : ModuleTree = module_tree words c.args.unit.now in
    let is_top = top_is m c.letters-name.result.now c.new-names.result (entries_tree words c.new-connections.result)
    (c.letters-name.ensures ∙ ap (λ (ws : List Text). without_backslash (token_text ws c.args.unit.now.name)) c.tokens.ensures) c.new-names.ensures (ap (entries_tree words) c.new-connections.ensures) in
    sym (top_elaborated modules m c.most_levels.result c.new-part.result _ c.most_levels.ensures c.new-part.ensures is_top) ∙ c.in_ok-put_unit.ensures
