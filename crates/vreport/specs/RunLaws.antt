-- *internal*: A run under a log that ends is the only one, and what it gives on the way stands at the front of what it gives in all.
use Rattle.std.proofs.Common.{◌≡◌, ℕ, zero, suc, ◌≤◌, List, [], ◌++◌, inl, inr, sym, ap, subst, ◌∙◌, append_assoc, arith}
use Rattle.std.proofs.lemmas.Bool.{cases_lt}
use Rattle.std.proofs.lemmas.List.{append-nil}
use Rattle.sched_core.specs.Rules.{Rules, stands, choice_at, IsRun, NamesBelow}
use Rattle.sched_core.specs.Replay.{EndsAfter, IsMissing, TakesMore}
use Rattle.vmodel.specs.declared.history.Item.{Item}
use Rattle.vmodel.specs.Step.{next, items_of}
use Rattle.vmodel.specs.Run.{Setting, state_after, items_after}

-- no run goes on behind its end
pub not_behind : {S : Type 0} (r : Rules S) (log : List (ℕ × ℕ)) (n end : ℕ) → IsRun r log n → EndsAfter r log end → n ≤ end
not_behind r log n end run ends =
    elim (cases_lt end n) [
      | inl behind ↦ let more = run end behind in absurd (omega (arith, ends.end, more))
      | inr within ↦ within
    ]

-- the two ends are one
pub same_end : {S : Type 0} (r : Rules S) (log : List (ℕ × ℕ)) (n end : ℕ) → IsRun r log n → r.width (stands r log n) ≡ 0 → EndsAfter r log end → n ≡ end
same_end r log n end run none ends =
    let within = not_behind r log n end run ends in
    elim (cases_lt n end) [
      | inl before ↦ let more = ends.run n before in absurd (omega (arith, none, more))
      | inr behind ↦ omega (arith, within, behind)
    ]

pub never_missing : {S : Type 0} (r : Rules S) (log : List (ℕ × ℕ)) (limit end : ℕ) → EndsAfter r log end → IsMissing r log limit → ⊥
never_missing r log limit end ends (n, within, inl early) =
    early.named (subst (NamesBelow log) (sym (same_end r log n end early.run early.end ends)) ends.names)
never_missing r log limit end ends (n, within, inr (before, stuck)) =
    let reached = not_behind r log n end stuck.run ends in
    elim (cases_lt n end) [
      | inl below ↦ let more = ends.run n below in absurd (omega (arith, stuck.missing, more))
      | inr behind ↦
          let last : n ≡ end = omega (arith, reached, behind) in
          let none : r.width (stands r log n) ≡ 0 = ap (λ k. r.width (stands r log k)) last ∙ ends.end in
          absurd (omega (arith, none, stuck.goes_on))
    ]

pub never_more : {S : Type 0} (r : Rules S) (log : List (ℕ × ℕ)) (limit end : ℕ) → EndsAfter r log end → end ≤ limit → TakesMore r log limit → ⊥
never_more r log limit end ends within more =
    let reached = not_behind r log limit end more.run ends in
    let last : limit ≡ end = omega (arith, reached, within) in
    let none : r.width (stands r log limit) ≡ 0 = ap (λ k. r.width (stands r log k)) last ∙ ends.end in
    omega (arith, none, more.goes_on)

-- what is given after n steps stands at the front of what is given after more
pub given_front : (setting : Setting) (log : List (ℕ × ℕ)) (n end : ℕ) → n ≤ end → (more : List Item) × (items_after setting log end ≡ items_after setting log n ++ more)
given_front setting log n zero within =
    let same : zero ≡ n = omega (arith, within) in
    ([], ap (items_after setting log) same ∙ sym (append-nil (items_after setting log n)))
given_front setting log n (suc end) within =
    elim (cases_lt end n) [
      | inl behind ↦
          let same : suc end ≡ n = omega (arith, within, behind) in
          ([], ap (items_after setting log) same ∙ sym (append-nil (items_after setting log n)))
      | inr below ↦ last (given_front setting log n end below)
    ]
  where
    last : ((more : List Item) × (items_after setting log end ≡ items_after setting log n ++ more)) →
        (more : List Item) × (items_after setting log (suc end) ≡ items_after setting log n ++ more)
    last (more, same) =
        let items : List Item = items_of setting.design (next setting.design (state_after setting log end) (choice_at log end)) in
        (more ++ items, ap (λ (xs : List Item). xs ++ items) same ∙ append_assoc (items_after setting log n) more items)
