use Rattle.std.proofs.Common.{◌≡◌, ℕ, ◌+◌, ◌<◌, length, arith}
use Rattle.std.proofs.lemmas.List.{length-append}
use Rattle.std.proofs.lemmas.Result.{IfOk-weaker}
use Rattle.cause.specs.Behind.{IsEnd, behind}
use Rattle.cause.specs.Inner.{whole}
use Rattle.cause.proofs.BehindLemmas.{way_ends}
use Rattle.cause.proofs.behind.end_of_way.Goals as goal

pub returns-clause-end : goal.returns-clause-end
returns-clause-end c =
    let slot = c.args.slot.now in
    let design = c.args.design.now in
    let most : ℕ = c.len.result + c.len-2.result in
    let sum : length (whole slot) ≡ length slot.earlier.items + length slot.visits.items = length-append slot.earlier.items slot.visits.items in
    let few : c.args.i < most = omega (arith, c.requires, sum, c.len.ensures, c.len-2.ensures) in
    IfOk-weaker c.behind.result (λ found. found ≡ behind design (whole slot) most c.args.i) (IsEnd design (whole slot))
    (λ found is. way_ends design (whole slot) most c.args.i found is few) c.behind.ensures
