use Rattle.std.proofs.Common.{◌≡◌, ◌∙◌, sym, ap, subst}
use Rattle.sched_core.specs.Bags.{whole_lines, pieces_of, AreLinesInOrder}
use Rattle.sched_core.proofs.BagLemmas.{whole-order, whole-no_piece}
use Rattle.sched_core.proofs.bag.Bag.take_piece.Goals as goal

pub invariant_of-self-2 : goal.invariant_of-self-2
invariant_of-self-2 c =
    let left : c.in_ok-self-inside.field-0.items ≡ whole_lines c.self.inside.lines.items = c.in_ok-self-inside.ensures ∙ (λ i. whole_lines (c.replace-lines.ensures.value i).items) in
    (subst AreLinesInOrder (sym left) (whole-order c.self.inside.lines.items c.self.invariant.0), λ none. ap pieces_of left ∙ whole-no_piece c.self.inside.lines.items)
