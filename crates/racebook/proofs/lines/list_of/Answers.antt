use Rattle.std.proofs.Common.{◌≡◌, ℕ, suc, List, [], ◌∷◌, map, slice_get, refl, sym, ◌∙◌, ap, arith}
use Rattle.std.proofs.lemmas.Option.{slice_get_within, same_Some}
use Rattle.racebook.specs.LineRaces.{Texts}
use Rattle.racebook.specs.Inner.{lines_in, row_by, row_of_entry, rows_of_lines}
use Rattle.racebook.proofs.RaceLemmas.{row_at, length_rows}
use Rattle.racebook.proofs.BestLemmas.{best_entry, first_of, line_keys, list_best, list_done, list_start, list_step, next_of, row_of_entry_is}
use Rattle.racebook.proofs.lines.list_of.Goals as goal

pub loop-lines-init : goal.loop-lines-init
loop-lines-init c =
    let rows = rows_of_lines c.args.slot.now in
    let gives = c.into_iter-lines-iterator.ensures.into_iter_gives in
    record {
      list = list_start line_keys rows c.new-sides.result.items (map (row_of_entry [] rows) c.args.best.entries) c.into_iter-lines-iterator.result c.args.best.entries c.new-sides.ensures.items gives.0 refl;
      left = λ i e at. best_entry line_keys rows c.args.best c.requires gives.5 i e (ap (λ es. slice_get es i) (sym gives.0) ∙ at);
    }

pub slot_state_at-slot_state-requires : goal.slot_state_at-slot_state-requires
slot_state_at-slot_state-requires c =
    let rows = rows_of_lines c.args.slot.now in
    let e : Texts × ℕ = (c.in-Some.lines, c.in-Some.place) in
    let b = c.loop-lines.invariant.left 0 e (first_of c.loop-lines.lines-iterator c.next.new.self e c.in-Some.ensures.steps) in
    let lt = slice_get_within rows c.in-Some.place b.row b.at in
    let same = length_rows lines_in c.args.slot.now in
    omega arith

pub loop-lines-preserved : goal.loop-lines-preserved
loop-lines-preserved c =
    let slot = c.args.slot.now in
    let rows = rows_of_lines slot in
    let e : Texts × ℕ = (c.in-Some.lines, c.in-Some.place) in
    let head : c.loop-lines.lines-iterator ≡ e ∷ c.next.new.self = c.in-Some.ensures.steps in
    let b = c.loop-lines.invariant.left 0 e (first_of c.loop-lines.lines-iterator c.next.new.self e head) in
    let row = row_by lines_in c.slot_state_at-slot_state.result.now in
    let here : row ≡ b.row = same_Some row b.row (sym (row_at lines_in slot c.in-Some.place c.slot_state_at-slot_state.result.now c.slot_state_at-slot_state.ensures) ∙ b.at) in
    let log : c.in_ok-copy.field-0 ≡ b.row.1 = c.in_ok-copy.ensures.equal ∙ ap (λ (x : Texts × List (ℕ × ℕ)). x.1) here in
    let lines : c.in-Some.lines ≡ b.row.0 = sym b.key_is in
    let pushed : (c.in-Some.lines, c.in_ok-copy.field-0) ≡ b.row = λ i. (lines i, log i) in
    record {
      list = list_step line_keys rows c.loop-lines.sides.items c.push.new.self.items (map (row_of_entry [] rows) c.args.best.entries) c.loop-lines.lines-iterator c.next.new.self e
          (c.in-Some.lines, c.in_ok-copy.field-0) head c.loop-lines.invariant.list (row_of_entry_is line_keys rows e b.row b.at ∙ sym pushed) c.in_ok-push.ensures.items;
      left = λ i f at. c.loop-lines.invariant.left (suc i) f (next_of c.loop-lines.lines-iterator c.next.new.self e head i ∙ at);
    }

pub returns : goal.returns
returns c =
    let rows = rows_of_lines c.args.slot.now in
    let all = list_done line_keys rows c.loop-lines.sides.items (map (row_of_entry [] rows) c.args.best.entries) c.loop-lines.lines-iterator c.in-None.ensures.steps.0 c.loop-lines.invariant.list in
    list_best line_keys rows c.args.best c.loop-lines.sides.items all c.requires c.into_iter-lines-iterator.ensures.into_iter_gives.5
