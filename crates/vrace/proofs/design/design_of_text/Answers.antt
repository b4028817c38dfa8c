use Rattle.std.proofs.Common.{option_map, subst}
use Rattle.std.proofs.lemmas.Result.{err_from_is_err_and}
use Rattle.vast.specs.NumberedTrees.{source_tree}
use Rattle.vexpr_parse.specs.Texts.{words_of}
use Rattle.vhierarchy.specs.Instances.{Elaborates}
use Rattle.vrace.proofs.DesignLemmas.{names_once}
use Rattle.vrace.proofs.design.design_of_text.Goals as goal

pub returns-in_err-tokens-clause-err : goal.returns-in_err-tokens-clause-err
returns-in_err-tokens-clause-err c =
    let p = err_from_is_err_and c.from_residual.result c.from_residual.ensures.1 in
    rw (p.1, p.2) (c.in_err-tokens.ensures.err (option_map (λ name. name.now) c.args.top))

pub returns-in_err-tree-clause-err : goal.returns-in_err-tree-clause-err
returns-in_err-tree-clause-err c =
    let p = err_from_is_err_and c.from_residual-in_err-tree.result c.from_residual-in_err-tree.ensures.1 in
    rw (p.1, p.2) (c.in_err-tree.ensures.err c.args.text.now (option_map (λ name. name.now) c.args.top) c.in_ok-tokens.ensures.ok)

pub returns-in_err-design-clause-err : goal.returns-in_err-design-clause-err
returns-in_err-design-clause-err c =
    let p = err_from_is_err_and c.from_residual-in_err-design.result c.from_residual-in_err-design.ensures.1 in
    rw (p.1, p.2) (c.in_err-design.ensures.err c.args.text.now c.in_ok-tokens.ensures.ok (c.in_ok-tree.ensures.ok c.args.text.now c.in_ok-tokens.ensures.ok))

pub placed_origins-requires : goal.placed_origins-requires
placed_origins-requires c =
    let tree = source_tree (words_of c.in_ok-tokens.tokens) c.in_ok-tree.tree in
    record { once = names_once tree (option_map (λ name. name.now) c.args.top) c.timescale.result c.in_ok-design.design c.in_ok-design.ensures.ok }

pub returns-in_err-origins-clause-err : goal.returns-in_err-origins-clause-err
returns-in_err-origins-clause-err c =
    let p = err_from_is_err_and c.from_residual-in_err-origins.result c.from_residual-in_err-origins.ensures.1 in
    rw (p.1, p.2) (c.in_err-origins.ensures.err c.args.text.now (option_map (λ name. name.now) c.args.top))

pub returns-clause-placed : goal.returns-clause-placed
returns-clause-placed c = c.in_ok-origins.ensures.placed c.args.text.now c.in_ok-tokens.ensures.ok (c.in_ok-tree.ensures.ok c.args.text.now c.in_ok-tokens.ensures.ok)

pub returns-clause-ok : goal.returns-clause-ok
returns-clause-ok c =
    let tree = source_tree (words_of c.in_ok-tokens.tokens) c.in_ok-tree.tree in
    let top = option_map (λ name. name.now) c.args.top in
    record {
      tree = tree;
      is_tree = (c.in_ok-tree.ensures.ok c.args.text.now c.in_ok-tokens.ensures.ok).is_tree;
      elaborated = subst (λ scale. Elaborates tree top scale c.in_ok-design.design) c.timescale.ensures c.in_ok-design.ensures.ok;
    }
