use Rattle.std.proofs.Common.{ℕ, ◌≡◌, ◌≤◌, arith, sym, ◌∙◌}
use Rattle.std.proofs.lemmas.Option.{same_Some}
use Rattle.matching.proofs.PieceLemmas.{read_more}
use Rattle.matching.proofs.reading.read_to.Goals as goal

pub loop-next-preserved : goal.loop-next-preserved
loop-next-preserved g c =
    let from : ℕ = (g.R.Reference.piece c.advance.new.self).from in
    let is : c.in-Some.next ≡ from = same_Some c.in-Some.next from
    (sym c.in-Some.is ∙ c.next_time.ensures.upcoming ∙ c.in_ok-advance-in-Some.ensures.time) in
    let within : from ≤ c.args.time = omega (arith, is, c.if-next-time.true) in
    read_more g.R.Reference.piece g.R.Reference.reads c.args.reference.now c.args.time c.args.time c.args.time c.loop-next.reference
    c.advance.new.self c.loop-next.invariant c.in_ok-advance-in-Some.ensures.reads (omega arith) within
