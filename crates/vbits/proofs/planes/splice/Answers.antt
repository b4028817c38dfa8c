use Rattle.std.proofs.Common.{◌-◌, ◌+◌}
use Rattle.vbits.proofs.Parts.{field_whole, part_whole, field_within, spliced-at, spliced_below}
use Rattle.vbits.proofs.planes.splice.Goals as goal

pub overflow_sub-result : goal.overflow_sub-result
overflow_sub-result c =
    rw (c.ones.ensures, field_whole c.args.plane c.args.high c.args.low c.requires.order c.requires.few)
    (field_within c.args.plane c.args.low (c.args.high + 1 - c.args.low))

pub overflow_add-result : goal.overflow_add-result
overflow_add-result c =
    rw (
      c.ones.ensures,
      field_whole c.args.plane c.args.high c.args.low c.requires.order c.requires.few,
      part_whole c.args.part c.args.high c.args.low c.requires.order c.requires.few c.requires.within,
      spliced-at c.args.plane c.args.high c.args.low c.args.part c.requires.order,
    )
    (record { fits = spliced_below c.args.plane c.args.high c.args.low c.args.part 64 c.requires.order c.requires.few c.ranges.plane.fits c.requires.within })

pub returns : goal.returns
returns c =
    rw (
      c.ones.ensures,
      field_whole c.args.plane c.args.high c.args.low c.requires.order c.requires.few,
      part_whole c.args.part c.args.high c.args.low c.requires.order c.requires.few c.requires.within,
    )
    (spliced-at c.args.plane c.args.high c.args.low c.args.part c.requires.order)
