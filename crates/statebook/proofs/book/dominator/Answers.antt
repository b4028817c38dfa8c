use Rattle.std.proofs.Common.{◌≡◌, ◌∙◌, refl, ap, not, arith, is_some, false}
use Rattle.statebook.proofs.BookLemmas.{probed, none_lower, none_so_far}
use Rattle.statebook.proofs.book.dominator.Goals as goal

pub loop-found-init : goal.loop-found-init
loop-found-init g c =
    probed g.S.PartialEq.eq g.met.S.Eq.laws c.args.entries.now.keys c.args.entry.now c.args.entry.now c.place_of_equal-found.result
    refl refl refl (omega arith) (none_lower g.S.PartialEq.eq c.args.entries.now.keys c.args.entry.now) c.place_of_equal-found.ensures.found c.place_of_equal-found.ensures.none

pub loop-found-preserved : goal.loop-found-preserved
loop-found-preserved g c =
    let i = c.loop-found.invariant in
    let nothing : is_some c.loop-found.found ≡ false = c.is_none.ensures ∙ ap not c.loop-found-test.true in
    probed g.S.PartialEq.eq g.met.S.Eq.laws c.args.entries.now.keys c.args.entry.now _ c.place_of_equal-found-in-loop-found.result
    i.state i.log i.steps (omega (arith, i.from)) (none_so_far _ _ _ c.loop-found.entry c.loop-found.found i nothing)
    c.place_of_equal-found-in-loop-found.ensures.found c.place_of_equal-found-in-loop-found.ensures.none
