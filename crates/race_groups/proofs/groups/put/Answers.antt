use Rattle.std.proofs.Common.{◌≡◌, List, Some, refl, subst, ◌∙◌, arith}
use Rattle.std.proofs.lemmas.Result.{on_ok_weaker}
use Rattle.race_groups.specs.Found.{logs_of, name_of}
use Rattle.race_groups.specs.declared.group.Group.{Group}
use Rattle.race_groups.specs.Inner.{Counts, ExplainsOne, group_heads, tracing_of}
use Rattle.race_groups.proofs.AddsLemmas.{adds_none, adds_then}
use Rattle.race_groups.proofs.CountLemmas.{explained_by, side_more, still_none, still_on}
use Rattle.race_groups.proofs.SideLemmas.{no_departed_log, none_looked_at, one_more}
use Rattle.race_groups.proofs.groups.put.Goals as goal

pub put_side-requires : goal.put_side-requires
put_side-requires g c = record {
  log = no_departed_log (g.R.SlotRace.difference c.args.race.now) c.loop-side.side c.new-none.result
      (omega (arith, c.loop-side-test.false, c.sides-side-end.ensures)) (c.loop-side.invariant.4 c.if-counted.false) c.new-none.ensures;
}

pub loop-side-init : goal.loop-side-init
loop-side-init g c =
    let groups = c.args.groups.now.items in (
      refl,
      adds_none (tracing_of c.args.causes.now) (λ d. d ≡ g.R.SlotRace.difference c.args.race.now) (group_heads groups) (group_heads groups) refl,
      still_none c.args.names groups groups refl,
      λ e. absurd (cc),
      λ e. none_looked_at (logs_of (g.R.SlotRace.difference c.args.race.now)) 0 refl,
      λ e. refl,
    )

pub returns-in_err-counted-clause-adds : goal.returns-in_err-counted-clause-adds
returns-in_err-counted-clause-adds g c =
    adds_then (tracing_of c.args.causes.now) (tracing_of c.loop-side.causes) (λ d. d ≡ g.R.SlotRace.difference c.args.race.now)
    (group_heads c.args.groups.now.items) (group_heads c.loop-side.groups.items)
    (group_heads c.put_departed.new.groups.items) c.loop-side.invariant.0 c.loop-side.invariant.1 c.put_departed.ensures.adds

pub returns-in_err-counted-clause-still : goal.returns-in_err-counted-clause-still
returns-in_err-counted-clause-still g c =
    still_on c.args.names c.args.groups.now.items c.loop-side.groups.items c.put_departed.new.groups.items c.loop-side.invariant.2
    c.put_departed.ensures.still

pub loop-side-preserved : goal.loop-side-preserved
loop-side-preserved g c =
    let d = g.R.SlotRace.difference c.args.race.now in
    let groups = c.args.groups.now.items in
    let mid = c.loop-side.groups.items in
    let new = c.put_departed.new.groups.items in (
      c.put_departed.ensures.traced ∙ c.loop-side.invariant.0,
      adds_then (tracing_of c.args.causes.now) (tracing_of c.loop-side.causes) (λ d. d ≡ g.R.SlotRace.difference c.args.race.now)
          (group_heads groups) (group_heads mid)
          (group_heads new) c.loop-side.invariant.0 c.loop-side.invariant.1 c.put_departed.ensures.adds,
      still_on c.args.names groups mid new c.loop-side.invariant.2 c.put_departed.ensures.still,
      λ e. side_more c.args.names d (ExplainsOne (tracing_of c.args.causes.now) (λ e. e ≡ d)) groups mid new c.loop-side.counted
          c.loop-side.invariant.3 c.loop-side.invariant.5 c.in_ok-counted.ensures.widens
          (λ f. explained_by c.args.names (λ n. name_of d ≡ Some n) (tracing_of c.loop-side.causes) (tracing_of c.args.causes.now)
          (λ e. e ≡ d) (λ e. e ≡ d) mid new c.loop-side.invariant.0 (λ e p. p) (c.in_ok-counted.ensures.counts e f)),
      λ e. (let was = c.in_ok-counted.ensures.default e in
          one_more (logs_of (g.R.SlotRace.difference c.args.race.now)) c.loop-side.side (c.loop-side.invariant.4 was.0) was.1),
      λ e. (let was = c.in_ok-counted.ensures.default e in was.2 ∙ c.loop-side.invariant.5 was.0),
    )

pub returns-then-counted-clause-counts : goal.returns-then-counted-clause-counts
returns-then-counted-clause-counts g c = c.loop-side.invariant.3 c.if-counted.true

pub returns-clause-adds : goal.returns-clause-adds
returns-clause-adds g c =
    adds_then (tracing_of c.args.causes.now) (tracing_of c.loop-side.causes) (λ d. d ≡ g.R.SlotRace.difference c.args.race.now)
    (group_heads c.args.groups.now.items) (group_heads c.loop-side.groups.items)
    (group_heads c.put_side.new.groups.items) c.loop-side.invariant.0 c.loop-side.invariant.1 c.put_side.ensures.adds

pub returns-clause-still : goal.returns-clause-still
returns-clause-still g c = still_on c.args.names c.args.groups.now.items c.loop-side.groups.items c.put_side.new.groups.items
    c.loop-side.invariant.2 c.put_side.ensures.still

pub returns-clause-counts : goal.returns-clause-counts
returns-clause-counts g c =
    let d = g.R.SlotRace.difference c.args.race.now in
    let new = c.put_side.new.groups.items in
    let Fits = ExplainsOne (tracing_of c.args.causes.now) (λ e. e ≡ d) in
    on_ok_weaker c.put_side.result
    (λ so. subst (λ (l : List Group). Counts c.args.names (λ n. name_of d ≡ Some n) Fits l new) (c.loop-side.invariant.5 c.if-counted.false)
    (explained_by c.args.names (λ n. name_of d ≡ Some n) (tracing_of c.loop-side.causes) (tracing_of c.args.causes.now) (λ e. e ≡ d)
    (λ e. e ≡ d) c.loop-side.groups.items new c.loop-side.invariant.0 (λ e p. p) (so refl))) c.put_side.ensures.counts
