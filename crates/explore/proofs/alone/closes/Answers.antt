use Rattle.std.proofs.Common.{◌≡◌, ◌∙◌, sym, subst, arith, List, ℕ, length}
use Rattle.explore.proofs.CloseLemmas.{ListsAll, complete_closes}
use Rattle.explore.proofs.VisitLemmas.{true_not_false}
use Rattle.explore.proofs.alone.closes.Goals as goal

pub returns-clause-open : goal.returns-clause-open
returns-clause-open g c = λ open_book k.
    let count : c.loop-place.place ≡ length c.args.book.now.entries = omega (arith, c.loop-place-test.false, c.loop-place.auto.place-end, c.len-place-end.ensures.count) in
    let P : ℕ → Type 0 = λ n. ListsAll c.loop-place.all.items n in
    let Q : List ℕ → Type 0 = λ l. ListsAll l (length c.args.book.now.entries) in
    let all = subst Q (sym c.deref.ensures.value) (subst P count c.loop-place.invariant) in
    true_not_false (sym (c.closed.ensures.1 (complete_closes c.args.book.now c.deref.result.now k all)) ∙ open_book)
