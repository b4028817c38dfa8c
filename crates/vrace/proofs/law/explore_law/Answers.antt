use Rattle.vrace.proofs.AgreementLemmas.{agree, list_all, refine}
use Rattle.vrace.proofs.LawLemmas.{Laws}
use Rattle.vrace.proofs.law.explore_law.Goals as goal

pub returns : goal.returns
returns c =
    let laws : Laws = record {
      one_list = c.lexing_law.ensures.one;
      one_tree = c.source_law.ensures.only;
      one_design = c.elaboration_law.ensures.one;
      one_log = c.log_text_law.ensures.one;
    } in
    record {
      agree = agree laws c.agreement_law.ensures.exhausted_agree;
      holding = list_all laws c.agreement_law.ensures.holding_lists_all;
      lines = refine laws c.agreement_law.ensures.lines_refine;
    }
