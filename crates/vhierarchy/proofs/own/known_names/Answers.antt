use Rattle.std.proofs.Common.{List, ap, sym, ◌∙◌}
use Rattle.vast.specs.declared.module.ModuleItem.{ModuleItem}
use Rattle.vexpr_parse.specs.Texts.{words_of}
use Rattle.velab_expr.specs.Scopes.{Scope}
use Rattle.velab_expr.specs.Inner.{symbols_in}
use Rattle.vhierarchy.proofs.OwnLemmas.{few_known}
use Rattle.vhierarchy.proofs.own.known_names.Goals as goal

pub returns-clause-small : goal.returns-clause-small
returns-clause-small c =
    few_known _ c.add_head.new.into c.add_items.new.into _ (symbols_in (words_of c.args.tokens.now) c.args.context.now.unit.now.items.items) c.len-head.result c.len-whole.result _
    c.in_ok-add_items.ensures.makes
    (c.len-head.ensures ∙ c.growing-2.inside.others.ok.0 ∙ ap (λ (s : Scope). s.known) c.growing-2.view_is)
    (c.len-whole.ensures ∙ c.growing-3.inside.others.ok.0 ∙ ap (λ (s : Scope). s.known) c.growing-3.view_is)
    c.len-whole.type_inv
    (ap (λ (items : List ModuleItem). symbols_in (words_of c.args.tokens.now) items) (sym c.deref-2.ensures.value))
