use Rattle.std.proofs.Common.{◌≡◌, drop}
use Rattle.vexpr_parse.specs.Texts.{words_of}
use Rattle.vmodules.specs.Names.{again_behind, first_again, letters_of}
use Rattle.vmodules.specs.Inner.{unit_names, with_words}
use Rattle.vmodules.proofs.hierarchy.names_of.Given as goal

abbrev pub invariant-loop-unit : goal.invariant-loop-unit
invariant-loop-unit l = record {
  names : with_words l.names (unit_names (words_of l.tokens) (drop l.unit-index l.list)) ≡ letters_of (unit_names (words_of l.tokens) l.list);
  again : again_behind l.names (unit_names (words_of l.tokens) (drop l.unit-index l.list)) ≡ first_again (unit_names (words_of l.tokens) l.list);
}
