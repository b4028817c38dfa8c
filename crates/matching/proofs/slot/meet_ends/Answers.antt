use Rattle.std.proofs.Common.{arith, ap, refl}
use Rattle.std.proofs.lemmas.List.{nil_from_length}
use Rattle.std.specs.Vec.Iter.{into_iter_items}
use Rattle.matching.specs.Inner.Candidates.{EndsNear, IsFittingEnd}
use Rattle.matching.specs.Inner.FoundEnds.{ends_of}
use Rattle.matching.proofs.Ends.{all_taken, extends_none, extends_on, nothing_taken, one_taken}
use Rattle.matching.proofs.Kept.{in_first}
use Rattle.matching.proofs.NearLemmas.{near_on, near_same}
use Rattle.matching.proofs.slot.meet_ends.Goals as goal

pub loop-found-init : goal.loop-found-init
loop-found-init g c = record {
  search = c.requires.search;
  extends = extends_none (g.P.Space.rules c.args.space.now)
      (IsFittingEnd (g.P.Space.rules c.args.space.now) (g.P.Ranked.ranks c.args.space.now)
      (g.R.Reference.piece c.args.reference.now).differ c.args.limits.now.depart c.args.start.now)
      c.args.search.now;
  near = near_same (EndsNear (g.P.Space.rules c.args.space.now) c.args.limits.now.depart c.args.start.now) c.args.search.now
      c.args.search.now refl refl;
  taken = nothing_taken (g.P.Space.rules c.args.space.now) c.args.limits.now (g.R.Reference.piece c.args.reference.now).differ
      c.args.start.now (ends_of c.args.ends.items)
      (ends_of (into_iter_items c.into_iter-found-iterator.result)) c.args.search.now.candidates.entries
      (ap ends_of c.into_iter-found-iterator.ensures.into_iter_gives.0) c.requires.found;
}

pub meet_end-requires-clause-found : goal.meet_end-requires-clause-found
meet_end-requires-clause-found g c κs within =
    c.loop-found.invariant.taken.found (c.in-Some.found.state.state, c.in-Some.found.log)
    (in_first (ends_of (into_iter_items c.loop-found.found-iterator)) (ends_of (into_iter_items c.next.new.self))
    (c.in-Some.found.state.state, c.in-Some.found.log)
    (ap ends_of c.in-Some.ensures.steps.0))

pub loop-found-preserved : goal.loop-found-preserved
loop-found-preserved g c =
    let r = g.P.Space.rules c.args.space.now in
    let differ = (g.R.Reference.piece c.args.reference.now).differ in
    record {
      search = c.in_ok-meet_end.ensures.search;
      extends = extends_on r (IsFittingEnd r (g.P.Ranked.ranks c.args.space.now) differ c.args.limits.now.depart c.args.start.now)
          c.args.search.now c.loop-found.search c.meet_end.new.search c.loop-found.invariant.extends c.in_ok-meet_end.ensures.extends;
      near = near_on (EndsNear r c.args.limits.now.depart c.args.start.now) c.args.search.now c.loop-found.search c.meet_end.new.search
          c.loop-found.invariant.near c.in_ok-meet_end.ensures.near;
      taken = one_taken r c.args.limits.now differ c.args.start.now (ends_of c.args.ends.items)
          (ends_of (into_iter_items c.loop-found.found-iterator)) (ends_of (into_iter_items c.next.new.self))
          c.in-Some.found.state.state c.in-Some.found.log c.loop-found.search.candidates.entries c.meet_end.new.search.candidates.entries
          c.loop-found.invariant.taken (ap ends_of c.in-Some.ensures.steps.0) c.in_ok-meet_end.ensures.extends.all
          c.in_ok-meet_end.ensures.kept;
    }

pub returns-clause-kept : goal.returns-clause-kept
returns-clause-kept g c =
    all_taken (g.P.Space.rules c.args.space.now) c.args.limits.now (g.R.Reference.piece c.args.reference.now).differ c.args.start.now
    (ends_of c.args.ends.items) (ends_of (into_iter_items c.loop-found.found-iterator)) c.loop-found.search.candidates.entries
    c.loop-found.invariant.taken
    (ap ends_of (nil_from_length (into_iter_items c.loop-found.found-iterator)
    (omega (arith, c.loop-found.found-iterator.rest.ok.0, c.in-None.ensures.steps.0))))
