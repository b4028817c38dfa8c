use Rattle.std.proofs.Common.{◌≡◌, ◌-◌, drop, length}
use Rattle.vexpr_parse.specs.Texts.{words_of}
use Rattle.velab_expr.proofs.PartLemmas.{parts_behind}
use Rattle.velab_expr.proofs.expression.+expressions.Given as goal

abbrev pub invariant-put_parts-loop-one : goal.invariant-put_parts-loop-one
invariant-put_parts-loop-one l = record {
  left : l.left ≡ length l.parts - l.one-index;
  same : parts_behind (words_of l.tokens) l.fixed l.scope l.nodes.items (drop l.one-index l.parts)
      ≡ parts_behind (words_of l.tokens) l.fixed l.scope l.initial.nodes.items l.parts;
}
