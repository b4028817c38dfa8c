use Rattle.std.proofs.Common.{◌≡◌, ◌+◌, List, length, Some, slice_get, refl, sym, ap, ◌∙◌, arith}
use Rattle.std.proofs.lemmas.Option.{slice_get_read}
use Rattle.footprints.specs.declared.visit.Visit.{Visit}
use Rattle.footprints.proofs.LatestLemmas.{clear_on, covers_on}
use Rattle.footprints.proofs.swap.known_of.Goals as goal

pub loop-visit-preserved : goal.loop-visit-preserved
loop-visit-preserved c =
    let run : List Visit = c.args.run.now in
    let parent : List Visit = c.args.parent.now in
    let theirs : List Visit = c.visits-theirs.result.now in
    let so = c.loop-visit in
    let place = c.place_of-place in
    let at : slice_get parent so.visit-index ≡ Some c.visit-item.result =
    ap (λ (list : List Visit). slice_get list so.visit-index) (sym c.visits-theirs.ensures)
    ∙ slice_get_read theirs (length theirs) so.visit-index c.visit-item.result refl (omega (arith, c.loop-visit-test.true)) c.visit-item.is in
    record {
      clear = clear_on run parent so.visit-index place.result c.visit-item.result at place.ensures.there place.ensures.within so.latest so.invariant.latest
          so.clear.items c.clear_at.new.clear.items so.invariant.clear c.clear_at.ensures;
      latest = covers_on run parent so.visit-index place.result c.visit-item.result at place.ensures.there place.ensures.within so.latest so.invariant.latest
          c.put_both.new.latest (so.visit-index + 1) refl c.in_ok-put_both.ensures.kept c.in_ok-put_both.ensures.put;
    }
