use Rattle.std.proofs.Common.{◌≡◌, List, Option, None, map, subst, sym, ap, ◌∙◌}
use Rattle.std.specs.List.{flat_map}
use Rattle.basis.proofs.Results.{on_ok}
use Rattle.vast.specs.NumberedWords.{Word}
use Rattle.vast.specs.NumberedTrees.{item_tree, module_tree}
use Rattle.vast.specs.declared.module.ModuleItem.{ModuleItem}
use Rattle.vexpr_parse.specs.Texts.{words_of}
use Rattle.vmodules.specs.Names.{again_behind}
use Rattle.vmodules.specs.Blocks.{blocks_by, doubled_block}
use Rattle.vmodules.specs.Inner.{words_told, IsTold}
use Rattle.vmodules.proofs.BlockLemmas.{blocks_are}
use Rattle.vmodules.proofs.FlawLemmas.{told_still}
use Rattle.vmodules.proofs.blocks.check_blocks.Goals as goal

pub returns-clause-none : goal.returns-clause-none
returns-clause-none c =
    let words = words_of c.args.tokens.now in
    on_ok c.check_new.result
    (λ none. sym (blocks_are words c.args.unit.now c.in_ok-names.names c.in_ok-named.named.items c.in_ok-blocks.blocks.items
    c.deref-2.result.now c.deref-3.result.now c.deref-2.ensures.value c.deref-3.ensures.value c.in_ok-named.ensures
    (c.in_ok-blocks.ensures ∙ ap (λ (items : List ModuleItem). flat_map blocks_by (map (item_tree words) items)) c.deref.ensures.value)
    c.in_ok-names.ensures) ∙ none)
    c.check_new.ensures.none

pub returns-clause-err : goal.returns-clause-err
returns-clause-err c =
    let words = words_of c.args.tokens.now in
    told_still (λ f. IsTold (again_behind c.in_ok-names.names (words_told words c.deref-3.result.now)) f.at)
    (λ f. IsTold (doubled_block (module_tree words c.args.unit.now)) f.at) c.check_new.result
    (λ f told. subst (λ (o : Option Word). IsTold o f.at)
    (blocks_are words c.args.unit.now c.in_ok-names.names c.in_ok-named.named.items c.in_ok-blocks.blocks.items
    c.deref-2.result.now c.deref-3.result.now c.deref-2.ensures.value c.deref-3.ensures.value c.in_ok-named.ensures
    (c.in_ok-blocks.ensures ∙ ap (λ (items : List ModuleItem). flat_map blocks_by (map (item_tree words) items)) c.deref.ensures.value)
    c.in_ok-names.ensures) told)
    c.check_new.ensures.err
