use Rattle.std.proofs.Common.{ap, ◌∙◌}
use Rattle.vvalue.specs.Value.{bit_letter}
use Rattle.vvalue.proofs.SelectLemmas.{part_starts, part_goes_on, part_fits}
use Rattle.vvalue.proofs.select.part_of.Goals as goal

pub loop-place-init : goal.loop-place-init
loop-place-init c =
    part_starts c.args.value c.args.bounds c.args.part c.of_bit-read.result c.bit_letter.result
    (c.bit_letter.ensures ∙ ap (bit_letter c.args.value c.args.bounds) c.number_of_bit.ensures) c.of_bit-read.ensures

pub concat-read-requires : goal.concat-read-requires
concat-read-requires c =
    part_fits c.args.value c.args.bounds c.args.part c.loop-place.read c.of_bit.result c.bit_letter-letter.result
    c.loop-place.place c.part_size-place-end.result c.loop-place.invariant c.of_bit.ensures c.loop-place-test.true c.part_size-place-end.ensures.few

pub loop-place-preserved : goal.loop-place-preserved
loop-place-preserved c =
    part_goes_on c.args.value c.args.bounds c.args.part c.loop-place.read c.of_bit.result c.concat-read.result
    c.bit_letter-letter.result c.loop-place.place c.loop-place.invariant
    (c.bit_letter-letter.ensures ∙ ap (bit_letter c.args.value c.args.bounds) c.number_of_bit-in-loop-place.ensures)
    c.of_bit.ensures c.concat-read.ensures
