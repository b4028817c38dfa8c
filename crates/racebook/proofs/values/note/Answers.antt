use Rattle.std.proofs.Common.{◌≡◌, ℕ, ◌≤◌, List, length, slice_get, cond, is_eq, Some, sym, ◌∙◌, ap, subst, arith}
use Rattle.std.specs.BTreeMap.{get}
use Rattle.std.proofs.lemmas.Option.{same_Some}
use Rattle.vbits.specs.Vectors.{Vector}
use Rattle.racebook.specs.Inner.{key_cmp, key_of, rows_of, row_by, value_in}
use Rattle.racebook.proofs.RaceLemmas.{row_at, length_rows}
use Rattle.racebook.proofs.BestLemmas.{best_kept, best_put, noted_within, value_keys}
use Rattle.racebook.proofs.values.note.Goals as goal
use Rattle.racebook.proofs.values.note.Goals.{in-Some+else-departures, in_default}

pub slot_state_at-other-requires : goal.slot_state_at-other-requires
slot_state_at-other-requires c =
    let noted : get key_cmp c.args.best.now c.key-key.result ≡ Some c.in-Some.noted = sym c.get.ensures.value ∙ sym c.copied.ensures ∙ c.in-Some.is in
    let lt = noted_within value_keys (rows_of c.args.variable c.args.slot.now) c.args.place (get key_cmp c.args.best.now) c.key-key.result c.in-Some.noted c.requires.best noted in
    let e = length_rows (value_in c.args.variable) c.args.slot.now in
    omega arith

pub returns-then-departures : goal.returns-then-departures
returns-then-departures c =
    let slot = c.args.slot.now in
    let variable = c.args.variable in
    let slot_state = c.slot_state_at-slot_state.result.now in
    let other = c.slot_state_at-other.result.now in
    let key : c.key-key.result ≡ key_of (value_in variable slot_state) = c.key-key.ensures ∙ ap key_of c.value_at.ensures in
    let noted : get key_cmp c.args.best.now c.key-key.result ≡ Some c.in-Some.noted = sym c.get.ensures.value ∙ sym c.copied.ensures ∙ c.in-Some.is in
    best_kept value_keys (rows_of variable slot) c.args.place (row_by (value_in variable) slot_state) (row_by (value_in variable) other) (get key_cmp c.args.best.now) c.in-Some.noted
    (row_at (value_in variable) slot c.args.place slot_state c.slot_state_at-slot_state.ensures) c.requires.best (ap (get key_cmp c.args.best.now) (sym key) ∙ noted)
    (row_at (value_in variable) slot c.in-Some.noted other c.slot_state_at-other.ensures) (omega (arith, c.departures.ensures, c.departures-in-Some.ensures, c.if-departures.true))

pub returns : goal.returns
returns c =
    let slot = c.args.slot.now in
    let variable = c.args.variable in
    let rows = rows_of variable slot in
    let slot_state = c.slot_state_at-slot_state.result.now in
    let row = row_by (value_in variable) slot_state in
    let key : c.key-key.result ≡ key_of row.0 = c.key-key.ensures ∙ ap key_of c.value_at.ensures in
    let found : get key_cmp c.args.best.now (key_of row.0) ≡ c.copied.result = ap (get key_cmp c.args.best.now) (sym key) ∙ sym c.get.ensures.value ∙ sym c.copied.ensures in
    let fewer : (p : ℕ) (h : Vector × List (ℕ × ℕ)) → get key_cmp c.args.best.now (key_of row.0) ≡ Some p → slice_get rows p ≡ Some h → length row.1 ≤ length h.1 =
    elim c.match-copied.branch [
      | in-Some+else-departures w ↦ λ p h noted there.
          (let other = w.slot_state_at-other.result.now in
          let n : p ≡ w.in-Some.noted = same_Some p w.in-Some.noted (sym noted ∙ found ∙ w.in-Some.is) in
          let is : row_by (value_in variable) other ≡ h = same_Some (row_by (value_in variable) other) h (sym (row_at (value_in variable) slot w.in-Some.noted other w.slot_state_at-other.ensures) ∙ sym (ap (slice_get rows) n) ∙ there) in
          let le : length row.1 ≤ length (row_by (value_in variable) other).1 = omega (arith, w.departures.ensures, w.departures-in-Some.ensures, w.if-departures.false) in
          subst (λ (x : Vector × List (ℕ × ℕ)). length row.1 ≤ length x.1) is le)
      | in_default w ↦ λ p h noted there. absurd (w.in_default.not-Some p (sym found ∙ noted))
    ] in
    best_put value_keys rows c.args.place row (get key_cmp c.args.best.now) (get key_cmp c.insert.new.self) (row_at (value_in variable) slot c.args.place slot_state c.slot_state_at-slot_state.ensures) c.requires.best fewer
    (λ q. c.in_ok-insert.ensures.updates.0 q ∙ ap (λ (k : ℕ × ℕ). cond (is_eq (key_cmp k q)) (Some c.args.place) (get key_cmp c.args.best.now q)) key)
