use Rattle.std.proofs.Common.{subst}
use Rattle.vast.specs.NumberedModules.{ItemTree}
use Rattle.vexpr_parse.specs.Texts.{words_of}
use Rattle.velab_expr.specs.Answers.{Makes, behind}
use Rattle.velab_declaration.specs.Variables.{lower_declaration}
use Rattle.velab_declaration.proofs.VariableLemmas.{declaration_is}
use Rattle.velab_declaration.proofs.variable.put_item.Goals as goal

pub returns-in-Declaration : goal.returns-in-Declaration
returns-in-Declaration c =
    subst (λ (item : ItemTree). Makes c.put_names.result c.put_names.new.into.items (behind c.args.into.now.items (lower_declaration c.args.path.now c.args.scope.now item)))
    (declaration_is (words_of c.args.tokens.now) c.args.made.now c.args.item.now c.in-Declaration.at c.in-Declaration.kind c.in-Declaration.declared c.deref.result.now c.in-Declaration.is c.deref.ensures.value)
    c.put_names.ensures
