use Rattle.std.proofs.Common.{◌≡◌, ◌<◌, length, Option, Some, None, slice_get, refl, subst, arith}
use Rattle.std.proofs.lemmas.List.{get_or_read}
use Rattle.std.proofs.lemmas.Option.{slice_get_read}
use Rattle.vbits.specs.Vectors.{Vector}
use Rattle.vcd_slots.specs.Following.{Puts}
use Rattle.vcd_slots.proofs.PutLemmas.{put_all, put_at_first, put_so}
use Rattle.vcd_slots.proofs.columns.put_each.Goals as goal

pub loop-at-init : goal.loop-at-init
loop-at-init c = put_at_first c.args.watched.now c.args.is_on c.args.told.now c.args.code.now c.args.digits.now

pub put-requires : goal.put-requires
put-requires c =
    let here : slice_get c.args.watched.now c.loop-at.at ≡ Some c.index-watched-at.result =
    slice_get_read c.args.watched.now (length c.args.watched.now) c.loop-at.at c.index-watched-at.result refl c.loop-at-test.true c.index-watched-at.is in
    (c.requires.widths c.loop-at.at c.index-watched-at.result here).1

pub loop-at-preserved : goal.loop-at-preserved
loop-at-preserved c =
    let lt : c.loop-at.at < length c.loop-at.told = omega arith in
    put_so c.args.watched.now c.args.is_on c.args.told.now c.loop-at.told c.args.code.now c.args.digits.now c.loop-at.at c.index-watched-at.result c.in-Some.after
    c.loop-at.invariant lt
    (slice_get_read c.args.watched.now (length c.args.watched.now) c.loop-at.at c.index-watched-at.result refl c.loop-at-test.true c.index-watched-at.is)
    (subst (λ (o : Option Vector). Puts c.index-watched-at.result c.args.is_on o c.in-Some.after c.args.code.now c.args.digits.now)
    (get_or_read c.loop-at.told c.loop-at.at c.index-told-at.result lt c.index-told-at.is None) c.in-Some.ensures)

pub returns : goal.returns
returns c _ =
    put_all c.args.watched.now c.args.is_on c.args.told.now c.loop-at.told c.args.code.now c.args.digits.now c.loop-at.at (omega arith) c.loop-at.invariant
