use Rattle.vrace.proofs.LawLemmas.{Laws}
use Rattle.vrace.proofs.CheckLawLemmas.{all_within, not_refused}
use Rattle.vrace.proofs.law.check_law.Goals as goal

pub returns : goal.returns
returns c =
    let laws : Laws = record {
      one_list = c.lexing_law.ensures.one;
      one_tree = c.source_law.ensures.only;
      one_design = c.elaboration_law.ensures.one;
      one_log = c.log_text_law.ensures.one;
    } in
    record {
      refused = λ files text fault short truth reason. not_refused laws c.report_text_law.ensures.one files text short truth fault reason;
      all = all_within;
    }
