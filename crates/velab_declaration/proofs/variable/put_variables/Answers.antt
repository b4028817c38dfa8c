use Rattle.std.proofs.Common.{◌<◌, ◌+◌, ◌^◌, List, length, sym, subst}
use Rattle.vast.specs.NumberedModules.{ItemTree}
use Rattle.vast.specs.declared.module.ModuleItem.{ModuleItem}
use Rattle.vexpr_parse.specs.Texts.{words_of}
use Rattle.velab_expr.specs.Answers.{Makes, behind}
use Rattle.velab_expr.specs.Inner.{symbols_in}
use Rattle.velab_declaration.specs.Variables.{lower_variables}
use Rattle.velab_declaration.proofs.VariableLemmas.{items_are}
use Rattle.velab_declaration.proofs.variable.put_variables.Goals as goal

pub put_items-requires : goal.put_items-requires
put_items-requires c = record {
  small = subst (λ (l : List ModuleItem). c.args.scope.now.known + length (symbols_in (words_of c.args.tokens.now) l) < 2 ^ 64) (sym c.deref.ensures.value) c.requires.small;
}

pub returns : goal.returns
returns c =
    subst (λ (l : List ItemTree). Makes c.put_items.result c.put_items.new.into.items (behind c.args.into.now.items (lower_variables c.args.path.now c.args.scope.now l)))
    (items_are (words_of c.args.tokens.now) c.in_ok-made.made c.args.unit.now c.deref.result.now c.deref.ensures.value c.in_ok-made.ensures)
    c.put_items.ensures
