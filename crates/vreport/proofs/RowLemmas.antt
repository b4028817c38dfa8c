-- The rows of marks at which runs end.
use Rattle.std.proofs.Common.{◌≡◌, ℕ, ◌+◌, ◌<◌, ◌⊎◌, List, [], ◌∷◌, ◌++◌, slice_get, Some, None, sym, ap, ◌∙◌, subst, inl, inr, arith}
use Rattle.std.specs.List.Sorted.{IsPermutation}
use Rattle.std.proofs.lemmas.Bool.{cases_lt}
use Rattle.std.proofs.lemmas.List.Elements.{Contains-append_left, Contains-push, Contains-push_cases}
use Rattle.std.proofs.lemmas.List.Sorted.{Contains-permutation, IsPermutation-sym}
use Rattle.std.proofs.lemmas.Option.{same_Some}
use Rattle.vmodel.specs.Run.{Setting}
use Rattle.vmachine.specs.declared.machine_state.MachineState.{MachineState}
use Rattle.vreport.specs.declared.row.Row.{Row}
use Rattle.vreport.specs.Inner.{AreRows, AreRowsBelow, HasRow, IsNoEnd, IsRow, IsRowOfSome}

module _ (setting : Setting) (marks : List (MachineState × List (ℕ × ℕ))) where
  same_found : (i place : ℕ) (f g : MachineState × List (ℕ × ℕ)) → i ≡ place → slice_get marks i ≡ Some f → slice_get marks place ≡ Some g → g ≡ f
  same_found i place f g here at at' = same_Some g f (sym at' ∙ ap (slice_get marks) (sym here) ∙ at)

  -- the next mark, of which the rows say enough
  whole_next : (rows : List Row) (place : ℕ) → AreRowsBelow setting marks place rows →
      ((found : MachineState × List (ℕ × ℕ)) → slice_get marks place ≡ Some found → HasRow setting found place rows ⊎ IsNoEnd setting found.0) →
      (i : ℕ) (found : MachineState × List (ℕ × ℕ)) → i < place + 1 → slice_get marks i ≡ Some found → HasRow setting found i rows ⊎ IsNoEnd setting found.0
  whole_next rows place below here i found lt at = elim (cases_lt i place) [
    | inl before ↦ below.whole i found before at
    | inr from ↦
        let e : i ≡ place = omega arith in
        subst (λ k. HasRow setting found k rows ⊎ IsNoEnd setting found.0) (sym e) (here found (ap (slice_get marks) (sym e) ∙ at))
  ]

  pub rows_none : (rows new : List Row) (place : ℕ) → new ≡ rows → slice_get marks place ≡ None → AreRowsBelow setting marks place rows → AreRowsBelow setting marks (place + 1) new
  rows_none rows new place is none below = subst (AreRowsBelow setting marks (place + 1)) (sym is) (record {
    each = below.each;
    whole = whole_next rows place below (λ found at. absurd (cc));
  })

  pub rows_skip : (rows new : List Row) (place : ℕ) (mark : MachineState × List (ℕ × ℕ)) → new ≡ rows → slice_get marks place ≡ Some mark → IsNoEnd setting mark.0 →
      AreRowsBelow setting marks place rows → AreRowsBelow setting marks (place + 1) new
  rows_skip rows new place mark is mark_at bare below = subst (AreRowsBelow setting marks (place + 1)) (sym is) (record {
    each = below.each;
    whole = whole_next rows place below (λ found at.
        inr (subst (λ (x : MachineState × List (ℕ × ℕ)). IsNoEnd setting x.0) (same_Some mark found (sym mark_at ∙ at)) bare));
  })

  earlier_has : (rows : List Row) (row : Row) (found : MachineState × List (ℕ × ℕ)) (i : ℕ) → HasRow setting found i rows ⊎ IsNoEnd setting found.0 →
      HasRow setting found i (rows ++ row ∷ []) ⊎ IsNoEnd setting found.0
  earlier_has rows row found i (inl has) = inl (record { row = has.row; among = Contains-append_left rows (row ∷ []) has.row has.among; of = has.of })
  earlier_has rows row found i (inr bare) = inr bare

  pub rows_more : (rows new : List Row) (place : ℕ) (mark : MachineState × List (ℕ × ℕ)) (row : Row) → new ≡ rows ++ row ∷ [] → slice_get marks place ≡ Some mark →
      IsRow setting mark place row → AreRowsBelow setting marks place rows → AreRowsBelow setting marks (place + 1) new
  rows_more rows new place mark row is mark_at of below = subst (AreRowsBelow setting marks (place + 1)) (sym is) (record {
    each = λ r has. elim (Contains-push_cases rows row r has) [
      | inl old ↦ below.each r old
      | inr fresh ↦ subst (IsRowOfSome setting marks) fresh (record {
        found = mark;
        at = ap (slice_get marks) of.place_is ∙ mark_at;
        of = subst (λ k. IsRow setting mark k row) (sym of.place_is) of;
      })
    ];
    whole = λ i found lt at. elim (cases_lt i place) [
      | inl before ↦ earlier_has rows row found i (below.whole i found before at)
      | inr from ↦
          let e : place ≡ i = omega arith in
          let f : mark ≡ found = same_found i place found mark (sym e) at mark_at in
          inl (record {
            row = row;
            among = Contains-push rows row;
            of = subst (λ k. IsRow setting found k row) e (subst (λ (x : MachineState × List (ℕ × ℕ)). IsRow setting x place row) f of);
          })
    ];
  })

  moved_has : (rows others : List Row) (found : MachineState × List (ℕ × ℕ)) (i : ℕ) → IsPermutation rows others → HasRow setting found i rows ⊎ IsNoEnd setting found.0 →
      HasRow setting found i others ⊎ IsNoEnd setting found.0
  moved_has rows others found i moved (inl has) = inl (record { row = has.row; among = Contains-permutation rows others has.row moved has.among; of = has.of })
  moved_has rows others found i moved (inr bare) = inr bare

  -- in any order
  pub rows_moved : (rows others : List Row) → IsPermutation rows others → AreRows setting marks rows → AreRows setting marks others
  rows_moved rows others moved are = record {
    each = λ r has. are.each r (Contains-permutation others rows r (IsPermutation-sym rows others moved) has);
    whole = λ i found lt at. moved_has rows others found i moved (are.whole i found lt at);
  }
