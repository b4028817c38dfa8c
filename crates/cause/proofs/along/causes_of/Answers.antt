use Rattle.std.proofs.Common.{◌≡◌, ℕ, suc, List, Option, Some, slice_get, length, take, arith, sym, ap, subst, ◌∙◌, add-one}
use Rattle.std.proofs.lemmas.Option.{slice_get-get_or}
use Rattle.sched_core.specs.Logs.{IsLogFrom}
use Rattle.cause.specs.Causes.{AreCauses, IsTold}
use Rattle.cause.specs.declared.cause.Cause.{Cause}
use Rattle.cause.proofs.AgreeLemmas.{last_of_front, of_front}
use Rattle.cause.proofs.RestLemmas.{member_below, next_later}
use Rattle.cause.proofs.SlotLemmas.{log_front, where_none, where_some}
use Rattle.cause.proofs.ToldLemmas.{one_more, told_more}
use Rattle.cause.proofs.along.causes_of.Goals as goal

pub cause_from-requires-clause-lawful : goal.cause_from-requires-clause-lawful
cause_from-requires-clause-lawful c =
    let members = c.members-members.result.now in
    let place : ℕ = c.loop-place.place in
    let front_is = c.split_at.ensures.front ∙ ap (λ (n : ℕ). take n members) (add-one place) in
    subst (IsLogFrom 0) (sym front_is) (log_front 0 (suc place) members (subst (IsLogFrom 0) (sym c.members-members.ensures.list) c.members-members.ensures.lawful))

pub cause_from-requires-clause-named : goal.cause_from-requires-clause-named
cause_from-requires-clause-named c =
    let members = c.members-members.result.now in
    let place : ℕ = c.loop-place.place in
    let front_is = c.split_at.ensures.front ∙ ap (λ (n : ℕ). take n members) (add-one place) in
    last_of_front place members c.split_at.result.0.now _ (slice_get-get_or members place (0, 0) c.loop-place-test.true) front_is

pub cause_from-requires-clause-start : goal.cause_from-requires-clause-start
cause_from-requires-clause-start c =
    let members = c.members-members.result.now in
    let place : ℕ = c.loop-place.place in
    let front_is = c.split_at.ensures.front ∙ ap (λ (n : ℕ). take n members) (add-one place) in
    of_front c.args.machine.now members c.split_at.result.0.now place _ c.in_ok-copy.field-0
    (subst (IsLogFrom 0) (sym c.members-members.ensures.list) c.members-members.ensures.lawful)
    (slice_get-get_or members place (0, 0) c.loop-place-test.true) front_is
    (omega (arith, where_some _ c.in-Some.is c.in_ok-nearest.ensures.before, c.in_ok-copy.ensures.step))
    (c.in_ok-copy.ensures.is c.args.machine.now members (where_some _ c.in-Some.is c.in_ok-nearest.ensures.is))

pub returns-in_default : goal.returns-in_default
returns-in_default c =
    let members = c.members-members.result.now in
    let place : ℕ = c.loop-place.place in
    let there = slice_get-get_or members place (0, 0) c.loop-place-test.true in
    let told : AreCauses c.args.machine.now members c.args.steps c.loop-place.causes.items = record {
      each = c.loop-place.invariant.each;
      whole = λ n run below. absurd (where_none _ c.in_default.is c.in_ok-nearest.ensures.none n (member_below n place members _ there below) run);
    } in
    subst (λ (log : List (ℕ × ℕ)). AreCauses c.args.machine.now log c.args.steps c.loop-place.causes.items) c.members-members.ensures.list told

pub loop-place-preserved : goal.loop-place-preserved
loop-place-preserved c =
    let setting = c.args.machine.now in
    let members = c.members-members.result.now in
    let place : ℕ = c.loop-place.place in
    let there = slice_get-get_or members place (0, 0) c.loop-place-test.true in
    let front_is = c.split_at.ensures.front ∙ ap (λ (n : ℕ). take n members) (add-one place) in
    let Told : List (Option Cause) → Type 0 = λ list.
    (k : ℕ) (told : Option Cause) → slice_get list k ≡ Some told → IsTold setting (take (suc k) members) c.args.steps told in
    record {
      is = where_some _ c.in-Some.is c.in_ok-nearest.ensures.is;
      before = λ m e.
          (let lawful = subst (IsLogFrom 0) (sym c.members-members.ensures.list) c.members-members.ensures.lawful in
          let later = next_later 0 place members _ m lawful there (subst (λ (n : ℕ). slice_get members n ≡ Some m) (add-one place) e) in
          omega (arith, later, where_some _ c.in-Some.is c.in_ok-nearest.ensures.before));
      many = ap length c.in_ok-push.ensures.items ∙ one_more c.loop-place.causes.items c.in_ok-cause.cause ∙ ap suc c.loop-place.invariant.many ∙ sym (add-one place);
      each = subst Told (sym c.in_ok-push.ensures.items)
          (told_more setting members c.split_at.result.0.now c.args.steps place c.loop-place.causes.items c.in_ok-cause.cause c.loop-place.invariant.many front_is
          c.in_ok-cause.ensures.cause c.in_ok-cause.ensures.none c.loop-place.invariant.each);
    }

pub returns : goal.returns
returns c =
    let members = c.members-members.result.now in
    let told : AreCauses c.args.machine.now members c.args.steps c.loop-place.causes.items = record {
      each = c.loop-place.invariant.each;
      whole = λ n run below. omega (arith, c.loop-place.invariant.many, c.loop-place-test.false, c.loop-place.auto.place-end);
    } in
    subst (λ (log : List (ℕ × ℕ)). AreCauses c.args.machine.now log c.args.steps c.loop-place.causes.items) c.members-members.ensures.list told
