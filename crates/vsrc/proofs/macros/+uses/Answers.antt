use Rattle.std.proofs.Common.{◌≡◌, ◌-◌, ℕ, List, [], Result, Ok, Err, OnOk, length, sym, ap, subst, ◌∙◌, arith}
use Rattle.std.proofs.lemmas.Result.{err_from_is_err_and}
use Rattle.basis.specs.Reasons.{Because, IfFault}
use Rattle.basis.specs.declared.memory.OrMemory.{OrMemory}
use Rattle.basis.specs.declared.memory.OrMemory.TheVariants.{Fault}
use Rattle.vsrc.specs.declared.refusal.Refusal.{Refusal}
use Rattle.vsrc.specs.declared.refusal.Why.TheVariants.{Directive, Limit}
use Rattle.vsrc.specs.declared.pieces.Piece.{Piece}
use Rattle.vsrc.specs.Macros.{Macros, Made, count_use, expand_text, piece, refused_at, make_use, why_unknown}
use Rattle.vsrc.specs.Pieces.{AreUses, macros_of, names_of, of_text, used_name}
use Rattle.vsrc.proofs.MacroText.{Gives, gives_begins, gives_ends, gives_more, gives_stop, of_text_deep, of_text_full, of_text_gives}
use Rattle.vsrc.proofs.Whole.{because_so}
use Rattle.vsrc.proofs.Cutting.{Turn, step_is, turn_is, piece_found, piece_missing, piece_refused}
use Rattle.vsrc.proofs.macros.+uses.Goals as goal

-- a refusal that is answered
refuses : (result : OrMemory Refusal) (refusal : Refusal) (whole : Result Made Refusal) → result ≡ Fault refusal → whole ≡ Err refusal → Because (λ r. whole ≡ Err r) result
refuses result refusal whole is h = subst (λ (e : OrMemory Refusal). Because (λ r. whole ≡ Err r) e) (sym is) h

pub put_macro-returns-then-levels-eq0-clause-err : goal.put_macro-returns-then-levels-eq0-clause-err
put_macro-returns-then-levels-eq0-clause-err t c =
    refuses c.refuse.result (refused_at c.args.at Limit) _ c.refuse.ensures
    (of_text_deep c.args.levels (macros_of c.args.texts.now.entries) c.args.at c.args.found.now.text.items c.args.made.now c.if-levels-eq0.true)

pub put_macro-returns-then-is_used_up-clause-err : goal.put_macro-returns-then-is_used_up-clause-err
put_macro-returns-then-is_used_up-clause-err t c =
    refuses c.refuse-then-is_used_up.result (refused_at c.args.at Limit) _ c.refuse-then-is_used_up.ensures
    (of_text_full c.args.levels (macros_of c.args.texts.now.entries) c.args.at c.args.found.now.text.items c.args.made.now (sym c.is_used_up.ensures ∙ c.if-is_used_up.true))

pub put_macro-loop-from-init : goal.put_macro-loop-from-init
put_macro-loop-from-init t c =
    let macros : Macros = macros_of c.args.texts.now.entries in
    let names : List (List ℕ) = names_of c.args.texts.now.entries in
    let nested : List ℕ → Made → Result Made Refusal = make_use (c.args.levels - 1) macros c.args.at in
    let text : List ℕ = c.as_slice-text.result.now in
    let whole : expand_text nested c.args.at (length text) text (count_use c.args.made.now) ≡ of_text c.args.levels macros c.args.at text c.args.made.now =
    of_text_gives c.args.levels macros c.args.at text c.args.made.now (omega arith) (sym c.is_used_up.ensures ∙ c.if-is_used_up.false) in
    record {
      within = omega arith;
      left = subst (λ (us : List Piece). AreUses names text us []) (sym c.as_slice-uses.ensures.value)
          (subst (λ (l : List ℕ). AreUses names l c.args.found.now.uses.items []) (sym c.as_slice-text.ensures.value) c.requires.found);
      gives = subst (λ (m : Made). Gives nested c.args.at text 0 m (of_text c.args.levels macros c.args.at text c.args.made.now)) (sym c.count.ensures)
          (subst (λ (w : Result Made Refusal). Gives nested c.args.at text 0 (count_use c.args.made.now) w) whole (gives_begins nested c.args.at text (count_use c.args.made.now)));
    }

pub put_macro-head_of-after-requires-clause-within : goal.put_macro-head_of-after-requires-clause-within
put_macro-head_of-after-requires-clause-within t c =
    (step_is (names_of c.args.texts.now.entries) c.as_slice-text.result.now c.split_at.result.1.now c.loop-from.from c.as_slice-uses.result.now c.loop-from.next
    c.split_at.ensures.back c.loop-from-test.true c.loop-from.invariant.left).within

pub put_macro-put_piece-requires : goal.put_macro-put_piece-requires
put_macro-put_piece-requires t c = (
  omega (arith, c.decreases),
  (
    c.requires.place,
    (
      c.requires.texts,
      (turn_is (names_of c.args.texts.now.entries) c.as_slice-text.result.now c.split_at.result.1.now c.loop-from.from c.as_slice-uses.result.now c.loop-from.next c.head_of-after.result.0 c.head_of-after.result.1
          c.split_at.ensures.back c.loop-from-test.true c.loop-from.invariant.left c.head_of-after.ensures.head c.head_of-after.ensures.next).here,
    ),
  ),
)

pub put_macro-overflow_add-from : goal.put_macro-overflow_add-from
put_macro-overflow_add-from t c =
    let turn : Turn (names_of c.args.texts.now.entries) c.as_slice-text.result.now c.split_at.result.1.now c.loop-from.from c.as_slice-uses.result.now c.head_of-after.result.0 c.head_of-after.result.1 =
    turn_is (names_of c.args.texts.now.entries) c.as_slice-text.result.now c.split_at.result.1.now c.loop-from.from c.as_slice-uses.result.now c.loop-from.next c.head_of-after.result.0 c.head_of-after.result.1
    c.split_at.ensures.back c.loop-from-test.true c.loop-from.invariant.left c.head_of-after.ensures.head c.head_of-after.ensures.next in
    omega (arith, turn.here.within, c.split_at.ensures.back_len)

pub put_macro-loop-from-smaller : goal.put_macro-loop-from-smaller
put_macro-loop-from-smaller t c =
    let turn : Turn (names_of c.args.texts.now.entries) c.as_slice-text.result.now c.split_at.result.1.now c.loop-from.from c.as_slice-uses.result.now c.head_of-after.result.0 c.head_of-after.result.1 =
    turn_is (names_of c.args.texts.now.entries) c.as_slice-text.result.now c.split_at.result.1.now c.loop-from.from c.as_slice-uses.result.now c.loop-from.next c.head_of-after.result.0 c.head_of-after.result.1
    c.split_at.ensures.back c.loop-from-test.true c.loop-from.invariant.left c.head_of-after.ensures.head c.head_of-after.ensures.next in
    omega (arith, turn.here.some, turn.here.within, c.split_at.ensures.back_len, c.loop-from-test.true)

pub put_macro-loop-from-preserved : goal.put_macro-loop-from-preserved
put_macro-loop-from-preserved t c =
    let turn : Turn (names_of c.args.texts.now.entries) c.as_slice-text.result.now c.split_at.result.1.now c.loop-from.from c.as_slice-uses.result.now c.head_of-after.result.0 c.head_of-after.result.1 =
    turn_is (names_of c.args.texts.now.entries) c.as_slice-text.result.now c.split_at.result.1.now c.loop-from.from c.as_slice-uses.result.now c.loop-from.next c.head_of-after.result.0 c.head_of-after.result.1
    c.split_at.ensures.back c.loop-from-test.true c.loop-from.invariant.left c.head_of-after.ensures.head c.head_of-after.ensures.next in
    record {
      within = omega (arith, turn.here.within, c.split_at.ensures.back_len);
      left = turn.left;
      gives = gives_more (make_use (c.args.levels - 1) (macros_of c.args.texts.now.entries) c.args.at) c.args.at c.as_slice-text.result.now c.split_at.result.1.now
          c.loop-from.from c.head_of-after.result.0.len c.loop-from.made c.put_piece.new.made _
          c.loop-from-test.true c.split_at.ensures.back turn.here.value turn.here.some c.in_ok-put_piece.ensures.ok c.loop-from.invariant.gives;
    }

pub put_macro-returns-clause-ok : goal.put_macro-returns-clause-ok
put_macro-returns-clause-ok t c =
    ap (λ (l : List ℕ). of_text c.args.levels (macros_of c.args.texts.now.entries) c.args.at l c.args.made.now) (sym c.as_slice-text.ensures.value)
    ∙ gives_ends (make_use (c.args.levels - 1) (macros_of c.args.texts.now.entries) c.args.at) c.args.at c.as_slice-text.result.now c.loop-from.from c.loop-from.made _
    c.loop-from-test.false c.loop-from.invariant.gives

pub put_macro-returns-in_err-put_piece-clause-err : goal.put_macro-returns-in_err-put_piece-clause-err
put_macro-returns-in_err-put_piece-clause-err t c =
    let macros : Macros = macros_of c.args.texts.now.entries in
    let nested : List ℕ → Made → Result Made Refusal = make_use (c.args.levels - 1) macros c.args.at in
    let text : List ℕ = c.as_slice-text.result.now in
    let rest : List ℕ = c.split_at.result.1.now in
    let p = err_from_is_err_and c.from_residual.result c.from_residual.ensures.1 in
    rw (p.1, p.2) (because_so (λ (r : Refusal). piece nested c.args.at rest c.loop-from.made ≡ Err r)
    (λ (r : Refusal). of_text c.args.levels macros c.args.at c.args.found.now.text.items c.args.made.now ≡ Err r) c.in_err-put_piece.field-0.0
    (λ r h. ap (λ (l : List ℕ). of_text c.args.levels macros c.args.at l c.args.made.now) (sym c.as_slice-text.ensures.value)
    ∙ gives_stop nested c.args.at text rest c.loop-from.from c.loop-from.made r _ c.loop-from-test.true c.split_at.ensures.back h c.loop-from.invariant.gives) c.in_err-put_piece.ensures.err)

pub put_piece-returns-in-Refused-clause-err : goal.put_piece-returns-in-Refused-clause-err
put_piece-returns-in-Refused-clause-err t c =
    refuses c.refuse.result (refused_at c.args.at Directive) _ c.refuse.ensures
    (piece_refused (names_of c.args.texts.now.entries) c.args.rest.now c.args.head c.args.levels (macros_of c.args.texts.now.entries) c.args.at c.args.made.now c.requires.head c.in-Refused.is)

pub put_piece-returns-in-None-clause-err : goal.put_piece-returns-in-None-clause-err
put_piece-returns-in-None-clause-err t c =
    refuses c.refuse-in-None.result (refused_at c.args.at (why_unknown (used_name c.args.rest.now))) _
    (c.refuse-in-None.ensures ∙ ap (λ w. Fault (refused_at c.args.at w)) (c.why_unknown.ensures ∙ ap why_unknown c.used_name.ensures))
    (piece_missing (names_of c.args.texts.now.entries) c.args.rest.now c.args.head c.args.levels (macros_of c.args.texts.now.entries) c.args.at c.args.made.now c.requires.head
    c.in-Use.index c.in-Use.is (λ name named. c.in-None.ensures.text name named))

-- what a name's use makes is what its text makes
found : (t : ℕ) (c : goal.put_piece-After-put_macro t)
    → piece (make_use c.args.levels (macros_of c.args.texts.now.entries) c.args.at) c.args.at c.args.rest.now c.args.made.now
    ≡ of_text c.args.levels (macros_of c.args.texts.now.entries) c.args.at c.in-Some.found.now.text.items c.args.made.now
found t c =
    piece_found (names_of c.args.texts.now.entries) c.args.rest.now c.args.head c.args.levels (macros_of c.args.texts.now.entries) c.args.at c.args.made.now c.requires.head
    c.in-Use.index c.in-Some.found.now.text.items c.in-Use.is (λ name named. c.in-Some.ensures.text name named)

pub put_piece-returns-in-Some-clause-ok : goal.put_piece-returns-in-Some-clause-ok
put_piece-returns-in-Some-clause-ok t c =
    subst (λ (whole : Result Made Refusal). OnOk c.put_macro.result (whole ≡ Ok c.put_macro.new.made)) (sym (found t c)) c.put_macro.ensures.ok

pub put_piece-returns-in-Some-clause-err : goal.put_piece-returns-in-Some-clause-err
put_piece-returns-in-Some-clause-err t c =
    subst (λ (whole : Result Made Refusal). IfFault c.put_macro.result (λ r. whole ≡ Err r)) (sym (found t c)) c.put_macro.ensures.err
