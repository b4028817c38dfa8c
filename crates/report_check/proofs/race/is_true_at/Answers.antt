use Rattle.std.proofs.Common.{refl, sym, ◌∙◌}
use Rattle.std.proofs.lemmas.List.Elements.{All-contains}
use Rattle.report_check.specs.Claims.{IsTrueAt}
use Rattle.report_check.proofs.ShownLemmas.{at_none, at_when}
use Rattle.report_check.proofs.race.is_true_at.Goals as goal

pub returns-then-is_among : goal.returns-then-is_among
returns-then-is_among c = (
  λ said. All-contains (IsTrueAt c.args.machine.now c.args.report.now) c.args.shown.now c.args.place c.requires (c.is_among.ensures c.if-is_among.true),
  λ is. refl,
)

pub returns-in-Some : goal.returns-in-Some
returns-in-Some c =
    at_when c.args.machine.now c.args.report.now c.args.place c.in-Some.claim (sym c.claim_at.ensures ∙ c.in-Some.is) c.is_true_claim.result c.is_true_claim.ensures

pub returns-in-None : goal.returns-in-None
returns-in-None c = (λ said. at_none c.args.machine.now c.args.report.now c.args.place (sym c.claim_at.ensures ∙ c.in-None.is), λ is. refl)
