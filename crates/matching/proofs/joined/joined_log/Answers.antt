use Rattle.std.proofs.Common.{◌≡◌, ℕ, ◌+◌, ◌≤◌, List, [], ◌∷◌, ◌++◌, Option, IfSome, IfNone, ap, sym, ◌∙◌, subst}
use Rattle.basis.proofs.Bools.{clash}
use Rattle.sched_core.specs.Logs.{IsLog}
use Rattle.matching.specs.Inner.Slots.{log_later}
use Rattle.matching.proofs.Cuts.{is_beyond, is_beyond_all}
use Rattle.matching.proofs.joined.joined_log.Goals as goal
use Rattle.matching.proofs.joined.joined_log.Goals.{in_default-later-via-in-Some-later+else-takes, in_default-later-via-in_default-later}

pub returns-in_default-later-clause-none : goal.returns-in_default-later-clause-none
returns-in_default-later-clause-none c =
    let n : ℕ = c.args.steps in
    let put : List (ℕ × ℕ) = c.loop-member.joined in
    let m : ℕ × ℕ = c.in-Some.member.now in
    let after : List (ℕ × ℕ) = c.in-Some.after.now in
    let whole : put ++ log_later n (m ∷ after) ≡ c.args.log.now ++ log_later n c.args.slot.now = ap (λ l. put ++ log_later n l)
    (sym c.in-Some.ensures.cases.0) ∙ c.loop-member.invariant in
    elim c.in_default-later.branch [
      | in_default-later-via-in-Some-later+else-takes w ↦ is_beyond n c.args.log.now c.args.slot.now put after m whole
          c.copy.ensures.lawful c.members-rest.ensures.lawful
          (λ lawful.
          (let L : Option (ℕ × ℕ) → Type 0 = λ o. IfSome o (λ x. x ≡ (n + m.0, m.1)) in
          let next : w.in-Some-later.next ≡ (n + m.0, m.1) = subst L w.in-Some-later.is c.later.ensures.later in
          let P : ℕ × ℕ → Type 0 = λ x. IsLog (put ++ x ∷ []) in
          clash w.takes.result (w.takes.ensures.1 (subst P (sym next) lawful)) w.if-takes.false))
      | in_default-later-via-in_default-later w ↦ is_beyond_all n c.args.log.now c.args.slot.now put after m whole c.copy.ensures.lawful
          c.members-rest.ensures.lawful
          (let N : Option (ℕ × ℕ) → Type 0 = λ o. IfNone o (4294967296 ≤ n + m.0) in
          subst N w.in_default-later.is c.later.ensures.none)
    ]
