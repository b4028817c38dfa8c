use Rattle.vrace.proofs.LawLemmas.{Laws, one_text, not_refused}
use Rattle.vrace.proofs.law.replay_law.Goals as goal

pub returns : goal.returns
returns c =
    let laws : Laws = record {
      one_list = c.lexing_law.ensures.one;
      one_tree = c.source_law.ensures.only;
      one_design = c.elaboration_law.ensures.one;
      one_log = c.log_text_law.ensures.one;
    } in
    record { one = λ show files asked log text other d e. one_text laws files asked log show text other d e; refused = λ show files asked log text fault d. not_refused laws files asked log show text d fault }
