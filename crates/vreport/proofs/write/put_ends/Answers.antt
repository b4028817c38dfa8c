use Rattle.std.proofs.Common.{arith, refl}
use Rattle.std.proofs.lemmas.List.{drop_all}
use Rattle.std.proofs.lemmas.Option.{slice_get_read}
use Rattle.std.proofs.lemmas.Result.{err_from_is_err_and}
use Rattle.vreport.proofs.HeldLemmas.{held_at, held_len}
use Rattle.vreport.proofs.WriteLemmas.{ends_first, ends_on, ends_over, ends_stop}
use Rattle.vreport.proofs.write.put_ends.Goals as goal

pub bounds-held-place : goal.bounds-held-place
bounds-held-place g c = omega (arith, held_len c.args.machine.now c.args.steps c.args.ends.now c.args.held.now c.requires.held, c.loop-place-test.true)

pub put_end-requires-clause-bytes : goal.put_end-requires-clause-bytes
put_end-requires-clause-bytes g c =
    c.requires.bytes c.loop-place.place c.index-ends-place.result
    (slice_get_read c.args.ends.now _ c.loop-place.place c.index-ends-place.result refl c.loop-place-test.true c.index-ends-place.is)

pub put_end-requires-clause-held : goal.put_end-requires-clause-held
put_end-requires-clause-held g c =
    held_at c.args.machine.now c.args.steps c.args.ends.now c.args.held.now c.loop-place.place c.index-ends-place.result c.index-held-place.result c.requires.held
    (slice_get_read c.args.ends.now _ c.loop-place.place c.index-ends-place.result refl c.loop-place-test.true c.index-ends-place.is)
    (slice_get_read c.args.held.now _ c.loop-place.place c.index-held-place.result refl
    (omega (arith, held_len c.args.machine.now c.args.steps c.args.ends.now c.args.held.now c.requires.held, c.loop-place-test.true)) c.index-held-place.is)

pub loop-place-init : goal.loop-place-init
loop-place-init g c = ends_first g.O.ByteSink.takes g.O.ByteSink.fails g.met.O.ByteSink.lawful c.args.machine.now c.args.steps c.args.ends.now c.args.byte_sink.now

pub returns-in_err-put_end-clause-err : goal.returns-in_err-put_end-clause-err
returns-in_err-put_end-clause-err g c =
    let p = err_from_is_err_and c.from_residual.result c.from_residual.ensures.1 in
    rw (p.1, p.2) (ends_stop g.O.ByteSink.takes g.O.ByteSink.fails g.met.O.ByteSink.lawful c.args.machine.now c.args.steps c.args.ends.now c.loop-place.place c.index-ends-place.result c.args.byte_sink.now c.loop-place.byte_sink c.put_end.new.byte_sink c.in_err-put_end.field-0.0
    (slice_get_read c.args.ends.now _ c.loop-place.place c.index-ends-place.result refl c.loop-place-test.true c.index-ends-place.is) c.loop-place.invariant c.in_err-put_end.ensures.err)

pub loop-place-preserved : goal.loop-place-preserved
loop-place-preserved g c =
    ends_on g.O.ByteSink.takes g.O.ByteSink.fails g.met.O.ByteSink.lawful c.args.machine.now c.args.steps c.args.ends.now c.loop-place.place c.index-ends-place.result c.args.byte_sink.now c.loop-place.byte_sink c.put_end.new.byte_sink
    (slice_get_read c.args.ends.now _ c.loop-place.place c.index-ends-place.result refl c.loop-place-test.true c.index-ends-place.is) c.loop-place.invariant c.in_ok-put_end.ensures.ok

pub returns-clause-ok : goal.returns-clause-ok
returns-clause-ok g c =
    ends_over g.O.ByteSink.takes g.O.ByteSink.fails g.met.O.ByteSink.lawful c.args.machine.now c.args.steps c.args.ends.now c.loop-place.place c.args.byte_sink.now c.loop-place.byte_sink (drop_all c.loop-place.place c.args.ends.now (omega (arith, c.loop-place-test.false))) c.loop-place.invariant
