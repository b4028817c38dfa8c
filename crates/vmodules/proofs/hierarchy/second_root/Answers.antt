use Rattle.vexpr_parse.specs.Texts.{words_of}
use Rattle.vmodules.proofs.HierarchyLemmas.{second_is}
use Rattle.vmodules.proofs.hierarchy.second_root.Goals as goal

pub returns : goal.returns
returns c =
    second_is c.args.modules.now.words (words_of c.tokens-tokens.result.now) c.args.modules.now.list c.list-list.result.now c.in_ok-names.names c.second_outside.result
    c.tokens-tokens.ensures c.list-list.ensures.list c.in_ok-names.ensures c.second_outside.ensures
