use Rattle.std.proofs.Common.{◌≡◌, drop}
use Rattle.vexpr_parse.specs.Texts.{words_of}
use Rattle.vmodules.specs.Names.{again_behind}
use Rattle.vmodules.specs.Inner.{open_in, with_words}
use Rattle.vmodules.proofs.parameters.add_items.Given as goal

abbrev pub invariant-loop-item : goal.invariant-loop-item
invariant-loop-item l = record {
  names : with_words l.into (open_in (words_of l.tokens) (drop l.item-index l.items)) ≡ with_words l.initial.into (open_in (words_of l.tokens) l.items);
  again : again_behind l.into (open_in (words_of l.tokens) (drop l.item-index l.items)) ≡ again_behind l.initial.into (open_in (words_of l.tokens) l.items);
}
