-- *internal*: Where a run under a log ends, it is told to its end.
use Rattle.std.proofs.Common.{◌≡◌, ℕ, ◌<◌, ◌≤◌, List, inl, inr, arith}
use Rattle.std.proofs.lemmas.Bool.{cases_lt}
use Rattle.sched_core.specs.declared.end.End.{End}
use Rattle.vmodel.specs.Run.{Setting, state_after}
use Rattle.vmodel.specs.RunProgress.{Finishes, width_is}
use Rattle.trace_text.specs.Traces.{IsTold}

module _ (setting : Setting) (log : List (ℕ × ℕ)) (steps n end_at : ℕ) (end : End) (told : IsTold setting log steps n) (finishes : Finishes setting log steps end_at end) where
  not_past : end_at < n → n ≡ end_at
  not_past lt = absurd (omega (arith, told.run end_at lt, finishes.ends.end))

  not_short : n < end_at → n ≡ end_at
  not_short lt =
      let within : end_at ≤ steps = finishes.within in
      elim told.last [
        | inl all ↦ absurd (omega (arith, within, all, lt))
        | inr none ↦ absurd (omega (arith, none, finishes.ends.run n lt, width_is setting (state_after setting log n)))
      ]

  pub told_to_end : n ≡ end_at
  told_to_end = elim (cases_lt n end_at) [
    | inl lt ↦ not_short lt
    | inr ge ↦ elim (cases_lt end_at n) [ inl past ↦ not_past past | inr le ↦ omega (arith, ge, le) ]
  ]
