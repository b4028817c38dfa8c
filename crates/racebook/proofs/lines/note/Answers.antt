use Rattle.std.proofs.Common.{◌≡◌, ℕ, ◌≤◌, List, length, slice_get, cond, is_eq, Some, sym, ◌∙◌, ap, subst, arith}
use Rattle.std.specs.BTreeMap.{get}
use Rattle.std.proofs.lemmas.Option.{same_Some}
use Rattle.sched_core.specs.Bags.{bag_cmp}
use Rattle.racebook.specs.LineRaces.{Texts}
use Rattle.racebook.specs.Inner.{lines_in, row_by, rows_of_lines}
use Rattle.racebook.proofs.RaceLemmas.{row_at, length_rows}
use Rattle.racebook.proofs.BestLemmas.{best_kept, best_put, line_keys, noted_within}
use Rattle.racebook.proofs.lines.note.Goals as goal
use Rattle.racebook.proofs.lines.note.Goals.{in-Some+else-departures, in_default}

pub slot_state_at-other-requires : goal.slot_state_at-other-requires
slot_state_at-other-requires c =
    let noted : get bag_cmp c.args.best.now c.lines_at-lines.result.now ≡ Some c.in-Some.noted = sym c.get.ensures.value ∙ sym c.copied.ensures ∙ c.in-Some.is in
    let lt = noted_within line_keys (rows_of_lines c.args.slot.now) c.args.place (get bag_cmp c.args.best.now) c.lines_at-lines.result.now c.in-Some.noted c.requires.best noted in
    let e = length_rows lines_in c.args.slot.now in
    omega arith

pub returns-then-departures : goal.returns-then-departures
returns-then-departures c =
    let slot = c.args.slot.now in
    let slot_state = c.slot_state_at-slot_state.result.now in
    let other = c.slot_state_at-other.result.now in
    let noted : get bag_cmp c.args.best.now c.lines_at-lines.result.now ≡ Some c.in-Some.noted = sym c.get.ensures.value ∙ sym c.copied.ensures ∙ c.in-Some.is in
    best_kept line_keys (rows_of_lines slot) c.args.place (row_by lines_in slot_state) (row_by lines_in other) (get bag_cmp c.args.best.now) c.in-Some.noted
    (row_at lines_in slot c.args.place slot_state c.slot_state_at-slot_state.ensures) c.requires.best (ap (get bag_cmp c.args.best.now) (sym c.lines_at-lines.ensures) ∙ noted)
    (row_at lines_in slot c.in-Some.noted other c.slot_state_at-other.ensures) (omega (arith, c.departures.ensures, c.departures-in-Some.ensures, c.if-departures.true))

pub returns : goal.returns
returns c =
    let slot = c.args.slot.now in
    let rows = rows_of_lines slot in
    let slot_state = c.slot_state_at-slot_state.result.now in
    let row = row_by lines_in slot_state in
    let found : get bag_cmp c.args.best.now (lines_in slot_state) ≡ c.copied.result = ap (get bag_cmp c.args.best.now) (sym c.lines_at-lines.ensures) ∙ sym c.get.ensures.value ∙ sym c.copied.ensures in
    let fewer : (p : ℕ) (h : Texts × List (ℕ × ℕ)) → get bag_cmp c.args.best.now (lines_in slot_state) ≡ Some p → slice_get rows p ≡ Some h → length row.1 ≤ length h.1 =
    elim c.match-copied.branch [
      | in-Some+else-departures w ↦ λ p h noted there.
          (let other = w.slot_state_at-other.result.now in
          let n : p ≡ w.in-Some.noted = same_Some p w.in-Some.noted (sym noted ∙ found ∙ w.in-Some.is) in
          let is : row_by lines_in other ≡ h = same_Some (row_by lines_in other) h (sym (row_at lines_in slot w.in-Some.noted other w.slot_state_at-other.ensures) ∙ sym (ap (slice_get rows) n) ∙ there) in
          let le : length row.1 ≤ length (row_by lines_in other).1 = omega (arith, w.departures.ensures, w.departures-in-Some.ensures, w.if-departures.false) in
          subst (λ (x : Texts × List (ℕ × ℕ)). length row.1 ≤ length x.1) is le)
      | in_default w ↦ λ p h noted there. absurd (w.in_default.not-Some p (sym found ∙ noted))
    ] in
    let key : c.in_ok-copy.field-0 ≡ lines_in slot_state = c.in_ok-copy.ensures ∙ c.lines_at-lines.ensures in
    best_put line_keys rows c.args.place row (get bag_cmp c.args.best.now) (get bag_cmp c.insert.new.self) (row_at lines_in slot c.args.place slot_state c.slot_state_at-slot_state.ensures) c.requires.best fewer
    (λ q. c.in_ok-insert.ensures.updates.0 q ∙ ap (λ (k : Texts). cond (is_eq (bag_cmp k q)) (Some c.args.place) (get bag_cmp c.args.best.now q)) key)
