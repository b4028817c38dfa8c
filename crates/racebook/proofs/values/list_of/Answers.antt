use Rattle.std.proofs.Common.{◌≡◌, ℕ, suc, ◌∷◌, map, slice_get, refl, sym, ◌∙◌, ap, arith}
use Rattle.std.proofs.lemmas.Option.{slice_get_within}
use Rattle.vbits.specs.declared.bit4.Bit4.TheVariants.{X}
use Rattle.vbits.specs.Vectors.{filled}
use Rattle.racebook.specs.Inner.{rows_of, row_by, row_of_entry, value_in}
use Rattle.racebook.proofs.ListLemmas.{contains_at}
use Rattle.racebook.proofs.RaceLemmas.{row_at, length_rows}
use Rattle.racebook.proofs.BestLemmas.{best_entry, first_of, list_best, list_done, list_start, list_step, next_of, row_of_entry_is, value_keys}
use Rattle.racebook.proofs.values.list_of.Goals as goal

pub loop-key-init : goal.loop-key-init
loop-key-init c =
    let rows = rows_of c.args.variable c.args.slot.now in
    let start : c.into_iter-key-iterator.result ≡ c.args.best.now.entries = c.into_iter-key-iterator.ensures.into_iter_gives ∙ c.iter-key-items.ensures.rest in
    record {
      list = list_start value_keys rows c.new-values.result.items (map (row_of_entry (filled 1 X) rows) c.args.best.now.entries) c.into_iter-key-iterator.result c.args.best.now.entries c.new-values.ensures.items start refl;
      left = λ i e at. best_entry value_keys rows c.args.best.now c.requires.best c.iter-key-items.ensures.ordered i e (ap (λ es. slice_get es i) (sym start) ∙ at);
    }

pub slot_state_at-slot_state-requires : goal.slot_state_at-slot_state-requires
slot_state_at-slot_state-requires c =
    let rows = rows_of c.args.variable c.args.slot.now in
    let b = c.loop-key.invariant.left 0 (c.in-Some._key.now, c.in-Some.place.now) (first_of c.loop-key._key-iterator c.next.new.self (c.in-Some._key.now, c.in-Some.place.now) c.in-Some.ensures.steps) in
    let lt = slice_get_within rows c.in-Some.place.now b.row b.at in
    let e = length_rows (value_in c.args.variable) c.args.slot.now in
    omega arith

pub value_at-requires : goal.value_at-requires
value_at-requires c = c.requires.have c.slot_state_at-slot_state.result.now (contains_at c.args.slot.now c.in-Some.place.now c.slot_state_at-slot_state.result.now c.slot_state_at-slot_state.ensures)

pub loop-key-preserved : goal.loop-key-preserved
loop-key-preserved c =
    let rows = rows_of c.args.variable c.args.slot.now in
    let slot_state = c.slot_state_at-slot_state.result.now in
    let row = row_by (value_in c.args.variable) slot_state in
    let e : (ℕ × ℕ) × ℕ = (c.in-Some._key.now, c.in-Some.place.now) in
    let head : c.loop-key._key-iterator ≡ e ∷ c.next.new.self = c.in-Some.ensures.steps in
    let is : row_of_entry (filled 1 X) rows e ≡ row = row_of_entry_is value_keys rows e row (row_at (value_in c.args.variable) c.args.slot.now c.in-Some.place.now slot_state c.slot_state_at-slot_state.ensures) in
    let pushed : (c.value_at.result, c.in_ok-copy.field-0) ≡ row = λ i. (c.value_at.ensures i, c.in_ok-copy.ensures.equal i) in
    record {
      list = list_step value_keys rows c.loop-key.values.items c.push.new.self.items (map (row_of_entry (filled 1 X) rows) c.args.best.now.entries) c.loop-key._key-iterator c.next.new.self e
          (c.value_at.result, c.in_ok-copy.field-0) head c.loop-key.invariant.list (is ∙ sym pushed) c.in_ok-push.ensures.items;
      left = λ i f at. c.loop-key.invariant.left (suc i) f (next_of c.loop-key._key-iterator c.next.new.self e head i ∙ at);
    }

pub returns : goal.returns
returns c =
    let rows = rows_of c.args.variable c.args.slot.now in
    let all = list_done value_keys rows c.loop-key.values.items (map (row_of_entry (filled 1 X) rows) c.args.best.now.entries) c.loop-key._key-iterator c.in-None.ensures.steps.0 c.loop-key.invariant.list in
    list_best value_keys rows c.args.best.now c.loop-key.values.items all c.requires.best c.iter-key-items.ensures.ordered
