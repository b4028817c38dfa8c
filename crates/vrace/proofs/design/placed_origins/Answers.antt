use Rattle.vast.specs.NumberedTrees.{source_tree}
use Rattle.vexpr_parse.specs.Texts.{words_of}
use Rattle.vrace.proofs.design.placed_origins.Goals as goal

pub returns-in-Ok-clause-placed : goal.returns-in-Ok-clause-placed
returns-in-Ok-clause-placed c = λ source cut read. record {
  tokens = c.args.tokens.now;
  are_tokens = cut.are_tokens;
  tree = source_tree (words_of c.args.tokens.now) c.args.tree.now;
  is_tree = read.is_tree;
  places_are = c.in-Ok.ensures;
}
