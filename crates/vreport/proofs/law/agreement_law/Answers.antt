use Rattle.vreport.proofs.AgreementLemmas.{exhausted_agree, holding_lists_all, lines_refine}
use Rattle.vreport.proofs.law.agreement_law.Goals as goal

pub returns : goal.returns
returns c = record {
  exhausted_agree = exhausted_agree;
  holding_lists_all = holding_lists_all c.run_law.ensures.holding c.run_law.ensures.holding_ends;
  lines_refine = lines_refine c.run_law.ensures.lines;
}
