use Rattle.std.proofs.Common.{◌≡◌, drop}
use Rattle.vexpr_parse.specs.Texts.{words_of}
use Rattle.vmodules.specs.Names.{again_behind}
use Rattle.vmodules.specs.Inner.{head_names, with_words}
use Rattle.vmodules.proofs.parameters.add_head.Given as goal

abbrev pub invariant-loop-head : goal.invariant-loop-head
invariant-loop-head l = record {
  names : with_words l.into (head_names (words_of l.tokens) (drop l.head-index l.list)) ≡ with_words l.initial.into (head_names (words_of l.tokens) l.list);
  again : again_behind l.into (head_names (words_of l.tokens) (drop l.head-index l.list)) ≡ again_behind l.initial.into (head_names (words_of l.tokens) l.list);
}
