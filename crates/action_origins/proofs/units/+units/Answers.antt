use Rattle.std.proofs.Common.{◌≡◌, ◌-◌, ◌++◌, List, ℕ, map, ap, ◌∙◌, arith}
use Rattle.std.specs.List.{flat_map}
use Rattle.basis.proofs.Results.{on_ok}
use Rattle.vwords.specs.Words.{Text}
use Rattle.vast.specs.NumberedTrees.{item_tree, module_tree}
use Rattle.vast.specs.declared.module.ModuleItem.{ModuleItem}
use Rattle.vexpr_parse.specs.Texts.{words_of}
use Rattle.vmodules.specs.Inner.{units_tree}
use Rattle.action_origins.specs.Origins.{items_left, items_origins, module_origins, origins_below}
use Rattle.action_origins.proofs.OriginLemmas.{module_put}
use Rattle.action_origins.proofs.units.+units.Goals as goal

pub put_module-returns : goal.put_module-returns
put_module-returns t c =
    let words : List Text = c.args.modules.now.words in
    let modules = units_tree c.args.modules.now in
    let unit = c.args.unit.now in
    let old = c.args.into.now.items in
    let first = c.put_ports.new.into.items in
    let between = c.put_items.new.into.items in
    let told : List Text = words_of c.tokens-tokens.result.now in
    let own : between ≡ first ++ items_origins words (items_left words (module_tree words unit)) (map (item_tree words) unit.items.items) =
    c.in_ok-put_items.ensures
    ∙ ap (λ (n : ℕ). first ++ items_origins told n (map (item_tree told) c.deref.result.now)) c.items_left.ensures
    ∙ (λ i. first ++ items_origins (c.tokens-tokens.ensures i) (items_left (c.tokens-tokens.ensures i) (module_tree (c.tokens-tokens.ensures i) unit))
    (map (item_tree (c.tokens-tokens.ensures i)) (c.deref.ensures.value i))) in
    let below : List ModuleItem → List ℕ = λ items.
    flat_map (origins_below (module_origins words (c.args.levels - 1) modules) modules) (map (item_tree words) items) in
    on_ok c.put_below.result
    (λ e. module_put words modules (module_tree words unit) c.args.levels (c.args.levels - 1) old first between c.put_below.new.into.items (omega arith) (c.in_ok-put_ports.ensures words) own
    (e ∙ ap (λ (items : List ModuleItem). between ++ below items) c.deref-2.ensures.value))
    c.put_below.ensures
