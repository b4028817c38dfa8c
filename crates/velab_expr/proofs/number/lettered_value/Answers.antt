use Rattle.std.proofs.Common.{◌++◌, ap, ◌∙◌, length, take, get_or, arith}
use Rattle.vbits.specs.Vectors.{Vector}
use Rattle.velab_expr.specs.Literals.{spelled_letters}
use Rattle.velab_expr.proofs.NumberLemmas.{length_filled, filled_letters, length_shifted, shifted_step, lettered_from}
use Rattle.velab_expr.proofs.number.lettered_value.Goals as goal

pub loop-c-init : goal.loop-c-init
loop-c-init c = record {
  whole = ap (λ (v : Vector). length v.letters) c.fill_of-value.ensures ∙ length_filled 64 _;
  same = ap (λ (v : Vector). take 64 (spelled_letters c.args.count c.args.digits.now ++ v.letters)) c.fill_of-value.ensures
      ∙ ap (λ l. take 64 (spelled_letters c.args.count c.args.digits.now ++ l)) (filled_letters 64 _);
}

pub loop-c-preserved : goal.loop-c-preserved
loop-c-preserved c = record {
  whole = ap length c.shifted_in-value.ensures ∙ length_shifted c.args.count (get_or c.args.digits.now c.loop-c.c-index 0) c.loop-c.value.letters (omega arith) c.loop-c.invariant.whole;
  same = shifted_step c.args.count c.args.digits.now c.loop-c.c-index c.loop-c.value.letters c.shifted_in-value.result.letters _ (omega arith) (omega arith) c.shifted_in-value.ensures c.loop-c.invariant.same;
}

pub returns : goal.returns
returns c =
    c.select.ensures
    ∙ lettered_from c.args.size c.args.count c.args.digits.now c.loop-c.c-index c.loop-c.value c.requires.some c.requires.few (omega arith) c.loop-c.invariant.whole c.loop-c.invariant.same
