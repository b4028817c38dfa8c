use Rattle.std.proofs.Common.{◌≡◌, ◌+◌, ◌-◌, ◌∙◌, suc, sym, subst, arith, ℕ, false}
use Rattle.statebook.specs.Stations.{is_station}
use Rattle.statebook.specs.Inner.Forced.{Passes}
use Rattle.statebook.proofs.WayLemmas.{passes_one}
use Rattle.statebook.proofs.way.walk.Goals as goal

pub loop-taken-preserved : goal.loop-taken-preserved
loop-taken-preserved g c =
    let r = g.P.Space.rules c.args.space.now in
    let m : ℕ = c.loop-taken.n - c.args.taken in
    let P : ℕ → Type 0 = λ k. Passes r c.args.state.now c.step.new.s k in
    let one : suc m ≡ c.loop-taken.n + 1 - c.args.taken = omega (arith, c.loop-taken.invariant.low) in
    let open_way : is_station r c.loop-taken.state ≡ false = sym c.stops_at.ensures ∙ c.if-stops_at.false in
    record {
      low = omega (arith, c.loop-taken.invariant.low);
      high = omega (arith, c.loop-taken.invariant.high);
      way = subst P one (passes_one r (g.met.P.Space.lawful c.args.space.now) c.args.state.now c.loop-taken.state c.step.new.s m c.loop-taken.invariant.way open_way c.in_ok-step.ensures.ok);
    }
