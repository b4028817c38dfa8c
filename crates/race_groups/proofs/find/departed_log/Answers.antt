use Rattle.std.proofs.Common.{◌≡◌, length, refl, sym, ◌∙◌, arith}
use Rattle.std.proofs.lemmas.Option.{slice_get_read}
use Rattle.std.proofs.lemmas.Result.{IfOk-weaker}
use Rattle.basis.proofs.Lists.{empty_from_test, some_from_test}
use Rattle.explore.specs.Ranked.{pairs_of}
use Rattle.race_groups.specs.Inner.{IsLogOfEnds}
use Rattle.race_groups.proofs.SideLemmas.{ends_log, no_ends_log, one_more_end}
use Rattle.race_groups.proofs.find.departed_log.Goals as goal

pub returns-then-not-is_empty : goal.returns-then-not-is_empty
returns-then-not-is_empty c =
    let ends = c.args.ends.now in
    let i = c.loop-found.found-index in
    let item = c.found-item.result in
    IfOk-weaker c.copy.result (λ log. log ≡ item.log) (λ log. IsLogOfEnds (pairs_of ends) log)
    (λ log is. ends_log ends i item log (slice_get_read ends (length ends) i item refl c.loop-found-test.true c.found-item.is)
    (λ none. some_from_test c.members.result.now (sym c.if-not-is_empty.ensures) (c.members.ensures.list ∙ none)) is) c.copy.ensures.equal

pub loop-found-preserved : goal.loop-found-preserved
loop-found-preserved c =
    let ends = c.args.ends.now in
    let i = c.loop-found.found-index in
    let item = c.found-item.result in
    one_more_end ends i item (slice_get_read ends (length ends) i item refl c.loop-found-test.true c.found-item.is) c.loop-found.invariant
    (sym c.members.ensures.list ∙ empty_from_test c.members.result.now (sym c.if-not-is_empty.ensures))

pub returns : goal.returns
returns c = no_ends_log c.args.ends.now c.loop-found.found-index c.new.result
    (omega (arith, c.loop-found-test.false)) c.loop-found.invariant c.new.ensures
