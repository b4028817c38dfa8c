-- Rows that stand in order, gone through to list each end once.
use Rattle.std.proofs.Common.{◌≡◌, ℕ, ◌+◌, ◌-◌, ◌<◌, ◌≤◌, ◌⊎◌, List, [], ◌∷◌, ◌++◌, length, slice_get, Option, Some, None, refl, sym, ap, ◌∙◌, subst, inl, inr, arith}
use Rattle.std.specs.declared.cmp.Ordering.TheVariants.{Less, Equal}
use Rattle.std.proofs.lemmas.Bool.{cases_lt}
use Rattle.basis.proofs.Lists.{last_or_before, listed_place, place_within, stands_in_front, stands_last}
use Rattle.std.proofs.lemmas.Option.{same_Some}
use Rattle.statebook.specs.declared.limits.Limits.{Limits}
use Rattle.sched_core.specs.declared.end.Cause.{Cause}
use Rattle.sched_core.specs.declared.end.Cause.TheVariants.{Finish, Stop, Quiet, Limit}
use Rattle.vmodel.specs.Run.{Setting}
use Rattle.vmachine.specs.declared.machine_state.MachineState.{MachineState}
use Rattle.report_text.specs.Report.{End as ReportEnd}
use Rattle.report_text.specs.ReportText.{cause_word}
use Rattle.report_text.specs.WellFormed.{IsEndBefore, IsPrintedLess, IsTextLess}
use Rattle.std.specs.Option.{option_cmp}
use Rattle.sched_core.specs.Bags.{bag_cmp, HasLines}
use Rattle.sched_core.specs.declared.setting.Looked.{Looked}
use Rattle.sched_core.specs.declared.setting.Looked.TheVariants.{Values, Lines}
use Rattle.vreport.specs.declared.row.Row.{Row}
use Rattle.vreport.specs.Inner.{AreEndsBelow, AreSortedRows, HasEnd, IsEndOfRow, IsEndOfSome, IsNotAfter, Repeats, key_cmp, order_of}
use Rattle.vreport.proofs.OrderLemmas.{key_before, key_between, same_key}

-- ---- the order of causes is that of their words

later_cause : (c d : Cause) → order_of c < order_of d → IsTextLess (cause_word c) (cause_word d)
later_cause Finish Finish lt = absurd (omega arith)
later_cause Finish Limit lt = refl
later_cause Finish Quiet lt = refl
later_cause Finish Stop lt = refl
later_cause Limit Finish lt = absurd (omega arith)
later_cause Limit Limit lt = absurd (omega arith)
later_cause Limit Quiet lt = refl
later_cause Limit Stop lt = refl
later_cause Quiet Finish lt = absurd (omega arith)
later_cause Quiet Limit lt = absurd (omega arith)
later_cause Quiet Quiet lt = absurd (omega arith)
later_cause Quiet Stop lt = refl
later_cause Stop Finish lt = absurd (omega arith)
later_cause Stop Limit lt = absurd (omega arith)
later_cause Stop Quiet lt = absurd (omega arith)
later_cause Stop Stop lt = absurd (omega arith)

pub cause_exact : (c d : Cause) → order_of c ≡ order_of d → c ≡ d
cause_exact Finish Finish e = refl
cause_exact Limit Limit e = refl
cause_exact Quiet Quiet e = refl
cause_exact Stop Stop e = refl
cause_exact Finish Limit e = absurd (omega arith)
cause_exact Finish Quiet e = absurd (omega arith)
cause_exact Finish Stop e = absurd (omega arith)
cause_exact Limit Finish e = absurd (omega arith)
cause_exact Limit Quiet e = absurd (omega arith)
cause_exact Limit Stop e = absurd (omega arith)
cause_exact Quiet Finish e = absurd (omega arith)
cause_exact Quiet Limit e = absurd (omega arith)
cause_exact Quiet Stop e = absurd (omega arith)
cause_exact Stop Finish e = absurd (omega arith)
cause_exact Stop Limit e = absurd (omega arith)
cause_exact Stop Quiet e = absurd (omega arith)

-- of lines that are there, or not, as they are looked at
less_printed : (looked : Looked) (a b : Option (List (List ℕ))) → HasLines looked a → HasLines looked b → option_cmp bag_cmp a b ≡ Less → IsPrintedLess a b
less_printed Values None None h k less = absurd (cc)
less_printed Values None (Some b) h k less = absurd k
less_printed Values (Some a) b h k less = absurd h
less_printed Lines None b h k less = absurd h
less_printed Lines (Some a) None h k less = absurd k
less_printed Lines (Some a) (Some b) h k less = less

module _ (setting : Setting) (limits : Limits) (marks : List (MachineState × List (ℕ × ℕ))) (rows : List Row) (sorted : AreSortedRows rows) where
  -- ends of rows that stand in order
  in_order : (r s : Row) (e f : ReportEnd) → IsEndOfRow setting limits marks r e → IsEndOfRow setting limits marks s f → key_cmp r s ≡ Less → IsEndBefore e f
  in_order r s e f of of' less = elim (key_before r s less) [
    | inl time ↦ inl (subst (λ n. n < f.time) (sym of.time_is) (subst (λ n. r.time < n) (sym of'.time_is) time))
    | inr same ↦ inr (
      of.time_is ∙ same.0 ∙ sym of'.time_is,
      elim same.1 [
        | inl cause ↦ inl (later_cause e.cause f.cause (subst (λ n. n < order_of f.cause) of.cause_is (subst (λ n. r.cause < n) of'.cause_is cause)))
        | inr alike ↦ inr (
          cause_exact e.cause f.cause (sym of.cause_is ∙ alike.0 ∙ of'.cause_is),
          elim alike.1 [
            | inl lines ↦ inl (subst (λ (text : List ℕ). IsTextLess text f.line) (sym of.line_is) (subst (λ (text : List ℕ). IsTextLess r.line.items text) (sym of'.line_is) lines))
            | inr by ↦ inr (
              of.line_is ∙ by.0 ∙ sym of'.line_is,
              less_printed setting.looked e.printed f.printed of.kept.lines of'.kept.lines ((λ i. option_cmp bag_cmp (of.printed_is i) (of'.printed_is i)) ∙ by.1),
            )
          ],
        )
      ],
    )
  ]

  -- no earlier row is of the end of one that doesn't repeat the row before it
  earlier_differs : (place j : ℕ) (r s : Row) → (Repeats rows place → ⊥) → j < place → slice_get rows j ≡ Some r → slice_get rows place ≡ Some s → key_cmp r s ≡ Less
  earlier_differs place j r s begins lt at at' = elim (sorted j place r s lt at at') [
    | inl less ↦ less
    | inr alike ↦ absurd (begins (repeat place j r s lt at at' alike.0))
  ]
    where
      repeat : (place j : ℕ) (r s : Row) → j < place → slice_get rows j ≡ Some r → slice_get rows place ≡ Some s → key_cmp r s ≡ Equal → Repeats rows place
      repeat place j r s lt at at' alike = elim (cases_lt (j + 1) place) [
        | inl before ↦
            let within : place - 1 < length rows = (let w = place_within rows place s at' in omega arith) in
            let p : (t : Row) × (slice_get rows (place - 1) ≡ Some t) = listed_place rows (place - 1) within in
            let is : (place - 1) + 1 ≡ place = omega arith in
            record {
              before = place - 1;
              first = p.0;
              second = s;
              is_before = is;
              first_at = p.1;
              second_at = at';
              alike = key_between r p.0 s alike (sorted j (place - 1) r p.0 (omega arith) at p.1) (sorted (place - 1) place p.0 s (omega arith) p.1 at');
            }
        | inr here ↦ record { before = j; first = r; second = s; is_before = omega arith; first_at = at; second_at = at'; alike = alike }
      ]

  below_next : (j place : ℕ) → j < place + 1 → (j < place) ⊎ (j ≡ place)
  below_next j place lt = elim (cases_lt j place) [
    | inl before ↦ inl before
    | inr from ↦ inr (omega arith)
  ]

  kept_some : (place : ℕ) (e : ReportEnd) → IsEndOfSome setting limits marks rows place e → IsEndOfSome setting limits marks rows (place + 1) e
  kept_some place e of = record { place = of.place; row = of.row; below = (let b = of.below in omega arith); at = of.at; of = of.of }

  -- an end more, or none
  pub skips : (ends new : List ReportEnd) (place : ℕ) → new ≡ ends → Repeats rows place → AreEndsBelow setting limits marks rows place ends → AreEndsBelow setting limits marks rows (place + 1) new
  skips ends new place is again below = subst (AreEndsBelow setting limits marks rows (place + 1)) (sym is) (record {
    each = λ i e at. kept_some place e (below.each i e at);
    whole = λ j row lt at. elim (below_next j place lt) [
      | inl before ↦ below.whole j row before at
      | inr here ↦ (
          let same : again.second ≡ row = same_Some again.second row (sym again.second_at ∙ ap (slice_get rows) (sym here) ∙ at) in
          let alike : key_cmp again.first row ≡ Equal = subst (λ (x : Row). key_cmp again.first x ≡ Equal) same again.alike in
          let near : again.before < place = (let b = again.is_before in omega arith) in
          let has = below.whole again.before again.first near again.first_at in
          let k = same_key again.first row alike in
          let le : again.first.departures ≤ row.departures = fewer again.first row alike (sorted again.before j again.first row (subst (λ n. again.before < n) (sym here) near) again.first_at at) in
          record {
            place = has.place;
            end = has.end;
            at = has.at;
            time_is = has.time_is ∙ k.time_same;
            cause_is = sym k.cause_same ∙ has.cause_is;
            line_is = has.line_is ∙ k.line_same;
            printed_is = has.printed_is ∙ k.printed_same;
            fewest = (let f = has.fewest in omega arith);
          })
    ];
    order = below.order;
  })
    where
      fewer : (r s : Row) → key_cmp r s ≡ Equal → IsNotAfter r s → r.departures ≤ s.departures
      fewer r s alike (inl less) = absurd (let bad : Less ≡ Equal = sym less ∙ alike in cc)
      fewer r s alike (inr same) = same.1

  pub lists : (ends new : List ReportEnd) (place : ℕ) (row : Row) (end : ReportEnd) → new ≡ ends ++ end ∷ [] → slice_get rows place ≡ Some row → (Repeats rows place → ⊥) →
      IsEndOfRow setting limits marks row end → AreEndsBelow setting limits marks rows place ends → AreEndsBelow setting limits marks rows (place + 1) new
  lists ends new place row end is row_at begins of below = subst (AreEndsBelow setting limits marks rows (place + 1)) (sym is) (record {
    each = λ i e at. elim (last_or_before ends end i e at) [
      | inl old ↦ kept_some place e (below.each i e old)
      | inr last ↦ subst (IsEndOfSome setting limits marks rows (place + 1)) last.1 (record { place = place; row = row; below = omega arith; at = row_at; of = of })
    ];
    whole = λ j r lt at. elim (below_next j place lt) [
      | inl before ↦ (let has = below.whole j r before at in record {
        place = has.place;
        end = has.end;
        at = stands_in_front ends (end ∷ []) has.place has.end has.at;
        time_is = has.time_is;
        cause_is = has.cause_is;
        line_is = has.line_is;
        printed_is = has.printed_is;
        fewest = has.fewest;
      })
      | inr here ↦ (let same : row ≡ r = same_Some row r (sym row_at ∙ ap (slice_get rows) (sym here) ∙ at) in
          subst (HasEnd (ends ++ end ∷ [])) same (record {
            place = length ends;
            end = end;
            at = stands_last ends end;
            time_is = of.time_is;
            cause_is = of.cause_is;
            line_is = of.line_is;
            printed_is = of.printed_is;
            fewest = (let a = of.of.departures_are in let b = ap length of.log_is in omega arith);
          }))
    ];
    order = λ i j e f lt at at'. elim (last_or_before ends end j f at') [
      | inl old ↦ (elim (last_or_before ends end i e at) [
        | inl old' ↦ below.order i j e f lt old' old
        | inr last ↦ absurd (let w = place_within ends j f old in let p = last.0 in omega arith)
      ])
      | inr last ↦ (elim (last_or_before ends end i e at) [
        | inl old' ↦ (let o = below.each i e old' in
            let less : key_cmp o.row row ≡ Less = earlier_differs place o.place o.row row begins o.below o.at row_at in
            subst (IsEndBefore e) last.1 (in_order o.row row e end o.of of less))
        | inr last' ↦ absurd (let p = last.0 in let q = last'.0 in omega arith)
      ])
    ];
  })
