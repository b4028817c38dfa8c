use Rattle.std.proofs.Common.{ap, ◌∙◌, arith}
use Rattle.vbits.specs.Vectors.{concat}
use Rattle.velab_expr.proofs.NumberLemmas.{concat_shifted, length_both, is_other}
use Rattle.velab_expr.proofs.number.shifted_in.Goals as goal

pub concat-requires : goal.concat-requires
concat-requires c = length_both c.args.count c.args.c c.args.value c.select.result c.digit.result (omega arith) c.requires.whole c.select.ensures c.digit.ensures

pub returns : goal.returns
returns c =
    ap (λ v. v.letters) (c.concat.ensures ∙ ap (λ v. concat v c.digit.result) c.select.ensures)
    ∙ concat_shifted c.args.count c.args.c c.args.value c.digit.result (omega arith) (is_other c.args.c c.if-c-eq95.false) c.digit.ensures
