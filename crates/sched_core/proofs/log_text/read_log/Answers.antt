use Rattle.std.proofs.Common.{◌≡◌, [], ◌∙◌, sym, subst, List, ℕ, true}
use Rattle.sched_core.specs.Inner.Reading.{IsMemberFront}
use Rattle.sched_core.specs.LogText.{IsNoLogText}
use Rattle.basis.proofs.Lists.{empty_from_test, some_from_test}
use Rattle.sched_core.proofs.ReadingLemmas.{no_member, no_next, no_comma, only_log, one_more}
use Rattle.sched_core.proofs.log_text.read_log.Goals as goal
use Rattle.sched_core.proofs.log_text.read_log.Goals.{After-takes}

no_front : (c : goal.After-drop-log-inside) → IsNoLogText c.args.text.now
no_front c = no_member _ _ _ c.loop-member.invariant c.in_default.ensures.none

pub returns-in_default-clause-ill_formed : goal.returns-in_default-clause-ill_formed
returns-in_default-clause-ill_formed c = no_front c

pub returns-in_default-clause-accepts : goal.returns-in_default-clause-accepts
returns-in_default-clause-accepts c = λ log h e. absurd (no_front c log h e)

no_place : (c : goal.After-drop-log-inside-then-not-takes) → IsNoLogText c.args.text.now
no_place c = no_next _ _ _ _ _ c.loop-member.invariant c.in-Some.ensures.read (λ l. let t : c.takes.result ≡ true = c.takes.ensures.1 l in cc)

pub returns-then-not-takes-clause-ill_formed : goal.returns-then-not-takes-clause-ill_formed
returns-then-not-takes-clause-ill_formed c = no_place c

pub returns-then-not-takes-clause-accepts : goal.returns-then-not-takes-clause-accepts
returns-then-not-takes-clause-accepts c = λ log h e. absurd (no_place c log h e)

pub returns-then-is_empty-clause-accepts : goal.returns-then-is_empty-clause-accepts
returns-then-is_empty-clause-accepts c = λ log h e.
    let end : c.in-Some.after_member.now ≡ [] = empty_from_test _ (sym c.is_empty.ensures ∙ c.if-is_empty.true) in
    let P : List ℕ → Type 0 = λ t. IsMemberFront c.loop-member.rest.now c.in-Some.member t in
    rw c.in_ok-push.ensures.ok (only_log _ _ _ _ c.loop-member.invariant (subst P end c.in-Some.ensures.read) log h e)

no_separator : (c : goal.After-drop-log-inside-in_default-after_byte) → IsNoLogText c.args.text.now
no_separator c =
    no_comma _ _ _ _ _ c.loop-member.invariant c.in-Some.ensures.read
    (some_from_test _ (sym c.is_empty.ensures ∙ c.if-is_empty.false))
    c.in_default-after_byte.ensures.none

pub returns-in_default-after_byte-clause-ill_formed : goal.returns-in_default-after_byte-clause-ill_formed
returns-in_default-after_byte-clause-ill_formed c = no_separator c

pub returns-in_default-after_byte-clause-accepts : goal.returns-in_default-after_byte-clause-accepts
returns-in_default-after_byte-clause-accepts c = λ log h e. absurd (no_separator c log h e)

pub loop-member-preserved : goal.loop-member-preserved
loop-member-preserved c = rw c.in_ok-push.ensures.ok (one_more _ _ _ _ _ _ c.loop-member.invariant c.in-Some.ensures.read c.in-Some-after_byte.ensures.some)
