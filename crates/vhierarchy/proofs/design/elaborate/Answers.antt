use Rattle.vast.specs.NumberedTrees.{source_tree}
use Rattle.vexpr_parse.specs.Texts.{words_of}
use Rattle.vmodules.specs.Inner.{named_text}
use Rattle.vhierarchy.proofs.DesignLemmas.{says_design, says_only, says_reason, says_none}
use Rattle.vhierarchy.proofs.design.elaborate.Goals as goal

pub returns-clause-design : goal.returns-clause-design
returns-clause-design c = says_design (source_tree (words_of c.args.tokens.now) c.args.text.now) (named_text c.args.top) c.args.scale c.elaborate_design.result c.elaborate_design.ensures

pub returns-clause-only : goal.returns-clause-only
returns-clause-only c = says_only (source_tree (words_of c.args.tokens.now) c.args.text.now) (named_text c.args.top) c.args.scale c.elaborate_design.result c.elaborate_design.ensures

pub returns-clause-reason : goal.returns-clause-reason
returns-clause-reason c = says_reason (source_tree (words_of c.args.tokens.now) c.args.text.now) (named_text c.args.top) c.args.scale c.elaborate_design.result c.elaborate_design.ensures

pub returns-clause-none : goal.returns-clause-none
returns-clause-none c = says_none (source_tree (words_of c.args.tokens.now) c.args.text.now) (named_text c.args.top) c.args.scale c.elaborate_design.result c.elaborate_design.ensures
