use Rattle.std.proofs.Common.{◌≡◌, ◌+◌, ◌++◌, ◌∷◌, [], ◌∙◌, refl, ap, sym, map, arith, length, length-append}
use Rattle.std.proofs.lemmas.List.{map-append}
use Rattle.report_text.specs.Inner.Ends.{Ended, ended_text, IsEnded, IsEndedBefore}
use Rattle.report_text.proofs.ListLemmas.{has_none, has_lost}
use Rattle.report_text.proofs.EndedLemmas.{ended_step, parts_more}
use Rattle.report_text.proofs.ends.read_ends.Goals as goal

pub loop-place-init : goal.loop-place-init
loop-place-init c = (
  [],
  record {
    read = has_none ended_text (IsEnded c.args.looked c.args.columns.now) IsEndedBefore c.args.count c.args.reader.now;
    ends = c.new-ends.ensures.items;
    dumps = ap (map (λ dump. dump.now)) c.new-dumps.ensures.items;
    len = refl;
  },
)

pub loop-place-preserved : goal.loop-place-preserved
loop-place-preserved c =
    let inv = c.loop-place.invariant in
    let ended : Ended = (c.in_ok-end.end, c.in_ok-end.dump.now) in
    let l : length (inv.0 ++ ended ∷ []) ≡ length inv.0 + 1 = length-append inv.0 (ended ∷ []) in
    let shown = c.deref.ensures.value ∙ inv.1.ends in (
      inv.0 ++ ended ∷ [],
      record {
        read = ended_step c.args.looked c.args.columns.now c.args.count c.args.reader.now c.loop-place.reader c.take_end.new.reader c.require.new.self inv.0 ended c.deref.result.now c.may_follow.result
            inv.1.read (omega (arith, inv.1.len, c.loop-place-test.true)) shown c.in_ok-end.ensures.read c.in_ok-end.ensures.each c.may_follow.ensures c.require.ensures.ok c.require.ensures.rest;
        ends = parts_more (λ (e : Ended). e.0) inv.0 ended c.loop-place.ends.items c.push.new.self.items c.in_ok-end.end inv.1.ends c.in_ok-push.ensures.items refl;
        dumps = ap (map (λ dump. dump.now)) c.in_ok-push-2.ensures.items ∙ map-append (λ dump. dump.now) c.loop-place.dumps.items (c.in_ok-end.dump ∷ []) ∙ parts_more (λ (e : Ended). e.1) inv.0 ended _ _ c.in_ok-end.dump.now inv.1.dumps refl refl;
        len = omega (arith, l, inv.1.len);
      },
    )

pub returns-then-not-is_ok-clause-each : goal.returns-then-not-is_ok-clause-each
returns-then-not-is_ok-clause-each c = λ all rest ok h n e.
    let inv = c.loop-place.invariant in
    let ended : Ended = (c.in_ok-end.end, c.in_ok-end.dump.now) in
    absurd (has_lost ended_text (IsEnded c.args.looked c.args.columns.now) IsEndedBefore c.args.count c.args.reader.now c.require.new.self (inv.0 ++ ended ∷ [])
    (ended_step c.args.looked c.args.columns.now c.args.count c.args.reader.now c.loop-place.reader c.take_end.new.reader c.require.new.self inv.0 ended c.deref.result.now c.may_follow.result
    inv.1.read (omega (arith, inv.1.len, c.loop-place-test.true)) (c.deref.ensures.value ∙ inv.1.ends) c.in_ok-end.ensures.read c.in_ok-end.ensures.each c.may_follow.ensures c.require.ensures.ok c.require.ensures.rest)
    (sym c.is_ok.ensures ∙ c.if-not-is_ok.true) all rest ok h n e)
