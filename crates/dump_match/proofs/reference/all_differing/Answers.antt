use Rattle.std.proofs.Common.{arith, ℕ, suc, ◌≡◌, ◌+◌, ◌∷◌, drop, subst, get_or, option_to_list, sym}
use Rattle.basis.proofs.Lists.{drop_at_place}
use Rattle.dump_match.specs.Comparison.{all_told_apart}
use Rattle.dump_match.specs.declared.comparison.Pair.{Pair}
use Rattle.dump_match.proofs.CountLemmas.{at_place, told_more}
use Rattle.dump_match.proofs.reference.all_differing.Goals as goal

pub loop-one-preserved : goal.loop-one-preserved
loop-one-preserved g c =
    let told = c.args.slots.now.columns.told.items in
    let values = c.args.values.now in
    let pairs = c.args.pairs.now in
    let i = c.loop-one.one-index in
    let pair : Pair = get_or pairs i (record { column = 0; variable = 0 }) in
    let next : suc i ≡ i + 1 = omega arith in
    let is = subst (λ (n : ℕ). pair ∷ drop n pairs ≡ drop i pairs) next
    (sym (drop_at_place pairs i pair (at_place pairs i (record { column = 0; variable = 0 }) c.loop-one-test.true))) in
    told_more told values pair (drop i pairs) (drop (i + 1) pairs) c.loop-one.list.items (option_to_list c.differing_of.result) c.push_if.new.list.items
    (all_told_apart told values pairs) is c.loop-one.invariant c.differing_of.ensures c.in_ok-push_if.ensures
