use Rattle.std.proofs.Common.{◌≡◌, ℕ, ◌+◌, ◌-◌, drop, sym, ap, subst, ◌∙◌, arith}
use Rattle.vmodel.specs.Inner.{place_of_time}
use Rattle.vstrata.proofs.PlaceLemmas.{placed_within}
use Rattle.vstrata.proofs.MarkLemmas.{ones_below, ones_near, place_skip}
use Rattle.vstrata.proofs.ring_times.place_near.Goals as goal

pub returns-then-ahead-lt64-clause-exact : goal.returns-then-ahead-lt64-clause-exact
returns-then-ahead-lt64-clause-exact c =
    let sum : c.args.now + (c.args.time - c.args.now) ≡ c.args.time = omega (arith, c.requires.after) in
    c.marks_below.ensures
    ∙ ones_below c.args.now c.args.near c.args.entries.now.items c.requires.rises c.requires.marks (c.args.time - c.args.now)
    (omega (arith, c.if-ahead-lt64.true))
    ∙ ap (λ (t : ℕ). place_of_time t c.args.entries.now.items) sum

pub returns-then-ahead-lt64-clause-within : goal.returns-then-ahead-lt64-clause-within
returns-then-ahead-lt64-clause-within c =
    placed_within c.args.time c.marks_below.result c.args.entries.now.items (returns-then-ahead-lt64-clause-exact c)

pub place_from-requires : goal.place_from-requires
place_from-requires c =
    let from = ones_near c.args.now c.args.near c.args.entries.now.items c.requires.rises c.requires.marks c.ranges.near.fits in
    subst (λ (k : ℕ). k + place_of_time c.args.time (drop k c.args.entries.now.items) ≡ place_of_time c.args.time c.args.entries.now.items) (sym from)
    (place_skip (c.args.now + 64) c.args.time c.args.entries.now.items (omega (arith, c.if-ahead-lt64.false)))
