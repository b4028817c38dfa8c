use mathlib.Core.Option.{some-injective}
use lib.ListN.{get_elem?}
use Rattle.std.proofs.Common.{◌≡◌, ℕ, ◌%◌, ◌^◌, List, ap, sym, ◌∙◌}
use Rattle.workpool.specs.Tallies.{Seated}
use Rattle.workpool.proofs.RuleLemmas.{settled}
use Rattle.workpool.proofs.tally.Tally.totals.Goals as goal

pub returns-clause-opens : goal.returns-clause-opens
returns-clause-opens c =
    let parts : c.seat.inside.seat.me.0.parts ≡ 65 = ap (λ (s : Seated). s.parts) c.seat.view_is ∙ c.requires.all in
    let end = settled _ _ _ _ c.close_with-closed.ensures.values.2 parts in
    some-injective _ _ (sym c.word-opens.ensures ∙ ap (λ (ws : List ℕ). get_elem? ws 0) end.1) ∙ ap (λ (s : Seated). s.opens % 2 ^ 64) c.seat.view_is

pub returns-clause-shuts : goal.returns-clause-shuts
returns-clause-shuts c =
    let parts : c.seat.inside.seat.me.0.parts ≡ 65 = ap (λ (s : Seated). s.parts) c.seat.view_is ∙ c.requires.all in
    let end = settled _ _ _ _ c.close_with-closed.ensures.values.2 parts in
    some-injective _ _ (sym c.word-shuts.ensures ∙ ap (λ (ws : List ℕ). get_elem? ws 1) end.1) ∙ ap (λ (s : Seated). s.shuts % 2 ^ 64) c.seat.view_is
