use Rattle.std.proofs.Common.{◌∙◌, sym, ap, subst}
use Rattle.sched_core.specs.Bags.{with_line, pieces_of, AreLinesInOrder}
use Rattle.sched_core.proofs.BagLemmas.{inserted, with_line-order, pieces-with_line}
use Rattle.sched_core.proofs.bag.Bag.insert.Goals as goal

pub invariant_of-self-then-not-is_ended : goal.invariant_of-self-then-not-is_ended
invariant_of-self-then-not-is_ended c =
    let put = inserted c.args.line.now c.in_ok-new.field-0 c.self.inside.lines.items c.deref.result.now c.insert.new.self.items c.place_among-place.result
    c.in_ok-insert.ensures.items c.in_ok-new.ensures c.deref.ensures.value c.self.invariant.0 c.place_among-place.ensures.within c.place_among-place.ensures.behind c.place_among-place.ensures.before in
    (subst AreLinesInOrder (sym put) (with_line-order c.args.line.now c.self.inside.lines.items c.self.invariant.0), λ wrong. cc)

pub invariant_of-self-else-not-is_ended : goal.invariant_of-self-else-not-is_ended
invariant_of-self-else-not-is_ended c =
    let put = inserted c.args.line.now c.in_ok-new.field-0 c.self.inside.lines.items c.deref.result.now c.insert.new.self.items c.place_among-place.result
    c.in_ok-insert.ensures.items c.in_ok-new.ensures c.deref.ensures.value c.self.invariant.0 c.place_among-place.ensures.within c.place_among-place.ensures.behind c.place_among-place.ensures.before in (
      subst AreLinesInOrder (sym put) (with_line-order c.args.line.now c.self.inside.lines.items c.self.invariant.0),
      λ none.
          ap pieces_of put
          ∙ pieces-with_line c.args.line.now c.self.inside.lines.items (sym c.is_ended.ensures ∙ c.if-not-is_ended.false)
          ∙ c.self.invariant.1 none,
    )

pub returns-then-not-is_ended : goal.returns-then-not-is_ended
returns-then-not-is_ended c =
    inserted c.args.line.now c.in_ok-new.field-0 c.self.inside.lines.items c.deref.result.now c.insert.new.self.items c.place_among-place.result
    c.in_ok-insert.ensures.items c.in_ok-new.ensures c.deref.ensures.value c.self.invariant.0 c.place_among-place.ensures.within c.place_among-place.ensures.behind c.place_among-place.ensures.before
    ∙ ap (with_line c.args.line.now) c.self.view_is

pub returns-else-not-is_ended : goal.returns-else-not-is_ended
returns-else-not-is_ended c =
    inserted c.args.line.now c.in_ok-new.field-0 c.self.inside.lines.items c.deref.result.now c.insert.new.self.items c.place_among-place.result
    c.in_ok-insert.ensures.items c.in_ok-new.ensures c.deref.ensures.value c.self.invariant.0 c.place_among-place.ensures.within c.place_among-place.ensures.behind c.place_among-place.ensures.before
    ∙ ap (with_line c.args.line.now) c.self.view_is
