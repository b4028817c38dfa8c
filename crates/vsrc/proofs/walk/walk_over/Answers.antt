use Rattle.std.proofs.Common.{◌≡◌, ℕ, List, Err, ap, sym, ◌∙◌, subst, arith}
use Rattle.std.proofs.lemmas.Result.{err_from_is_err_and}
use Rattle.basis.specs.declared.memory.OrMemory.{OrMemory}
use Rattle.basis.specs.Reasons.{Because}
use Rattle.vsrc.specs.declared.refusal.Refusal.{Refusal}
use Rattle.vsrc.specs.Walk.{State, step}
use Rattle.vsrc.specs.Expansion.{walk_text}
use Rattle.vsrc.specs.Walking.{state_of}
use Rattle.vsrc.proofs.Whole.{comes_begins, comes_on, comes_stop, comes_end, none_open, some_open, because_so}
use Rattle.vsrc.proofs.walk.walk_over.Goals as goal

pub loop-walk-init : goal.loop-walk-init
loop-walk-init c = record {
  within = omega (arith, ap (λ (s : State). s.at) c.new-walk.ensures);
  comes = comes_begins c.args.text.now (state_of c.new-walk.result) c.new-walk.ensures;
}

pub loop-walk-preserved : goal.loop-walk-preserved
loop-walk-preserved c = record {
  within = omega (arith, c.in_ok-step.ensures.within, c.split_at.ensures.back_len);
  comes = comes_on c.args.text.now c.split_at.result.1.now (state_of c.loop-walk.walk) (state_of c.step.new.self) c.loop-walk-test.true c.split_at.ensures.back
      c.in_ok-step.ensures.on c.in_ok-step.ensures.ok c.loop-walk.invariant.comes;
}

pub returns-in_err-step-clause-err : goal.returns-in_err-step-clause-err
returns-in_err-step-clause-err c =
    let text : List ℕ = c.args.text.now in
    let rest : List ℕ = c.split_at.result.1.now in
    let state : State = state_of c.loop-walk.walk in
    let p = err_from_is_err_and c.from_residual.result c.from_residual.ensures.1 in
    rw (p.1, p.2) (because_so (λ (r : Refusal). step rest state ≡ Err r) (λ (r : Refusal). walk_text text ≡ Err r) c.in_err-step.field-0.0
    (λ r h. comes_stop text rest state r c.loop-walk-test.true c.split_at.ensures.back h c.loop-walk.invariant.comes) c.in_err-step.ensures.err)

pub returns-in-None-clause-ok : goal.returns-in-None-clause-ok
returns-in-None-clause-ok c =
    let state : State = state_of c.loop-walk.walk in
    comes_end c.args.text.now state c.loop-walk-test.false c.loop-walk.invariant.comes ∙ none_open state.opens state c.in-None.ensures

pub returns-in-Some-clause-err : goal.returns-in-Some-clause-err
returns-in-Some-clause-err c =
    let text : List ℕ = c.args.text.now in
    let state : State = state_of c.loop-walk.walk in
    subst (λ (e : OrMemory Refusal). Because (λ (r : Refusal). walk_text text ≡ Err r) e) (sym c.refuse.ensures)
    (comes_end text state c.loop-walk-test.false c.loop-walk.invariant.comes ∙ some_open state.opens c.in-Some.inner state c.in-Some.ensures)
