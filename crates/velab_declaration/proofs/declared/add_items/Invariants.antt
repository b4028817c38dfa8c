use Rattle.std.proofs.Common.{◌≡◌, drop}
use Rattle.vexpr_parse.specs.Texts.{words_of}
use Rattle.vmodules.specs.Names.{again_behind}
use Rattle.vmodules.specs.Inner.{own_in, with_words}
use Rattle.velab_declaration.specs.Inner.{declared_in}
use Rattle.velab_declaration.proofs.declared.add_items.Given as goal

abbrev pub invariant-loop-item : goal.invariant-loop-item
invariant-loop-item l = record {
  names : with_words l.into (declared_in (own_in (words_of l.tokens) l.made (drop l.item-index l.items))) ≡ with_words l.initial.into (declared_in (own_in (words_of l.tokens) l.made l.items));
  again : again_behind l.into (declared_in (own_in (words_of l.tokens) l.made (drop l.item-index l.items))) ≡ again_behind l.initial.into (declared_in (own_in (words_of l.tokens) l.made l.items));
}
