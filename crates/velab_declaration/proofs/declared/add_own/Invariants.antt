use Rattle.std.proofs.Common.{◌≡◌, drop}
use Rattle.vexpr_parse.specs.Texts.{words_of}
use Rattle.vmodules.specs.Names.{again_behind}
use Rattle.vmodules.specs.Inner.{with_words}
use Rattle.velab_declaration.specs.Inner.{own_texts}
use Rattle.velab_declaration.proofs.declared.add_own.Given as goal

abbrev pub invariant-loop-one : goal.invariant-loop-one
invariant-loop-one l = record {
  names : with_words l.into (own_texts (words_of l.tokens) l.made (drop l.one-index l.list)) ≡ with_words l.initial.into (own_texts (words_of l.tokens) l.made l.list);
  again : again_behind l.into (own_texts (words_of l.tokens) l.made (drop l.one-index l.list)) ≡ again_behind l.initial.into (own_texts (words_of l.tokens) l.made l.list);
}
