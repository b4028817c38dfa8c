use Rattle.std.proofs.Common.{List, ℕ, ◌∷◌, ◌++◌, [], ap, ◌∙◌, sym}
use Rattle.vast.specs.NumberedTrees.{item_tree}
use Rattle.vast.specs.declared.module.ModuleItem.{ModuleItem}
use Rattle.vexpr_parse.specs.Texts.{words_of}
use Rattle.vmodules.specs.Names.{is_declared}
use Rattle.vmodules.specs.Hierarchy.{instantiated_by}
use Rattle.vmodules.proofs.HierarchyLemmas.{holds_added}
use Rattle.vmodules.proofs.hierarchy.add_item.Goals as goal

pub returns-in_ok-add-in-Instances : goal.returns-in_ok-add-in-Instances
returns-in_ok-add-in-Instances c text =
    holds_added c.args.into.now c.add.new.self c.letters.result.now c.in_ok-add-in-Instances.field-0 c.in_ok-add-in-Instances.ensures.new c.in_ok-add-in-Instances.ensures.added text
    ∙ ap (λ (name : List ℕ). is_declared (c.args.into.now ++ name ∷ []) text) c.letters.ensures
    ∙ sym (ap (λ (item : ModuleItem). is_declared (c.args.into.now ++ instantiated_by (item_tree (words_of c.args.tokens.now) item)) text) c.in-Instances.is)
