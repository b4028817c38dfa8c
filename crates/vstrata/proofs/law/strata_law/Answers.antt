use Rattle.vstrata.proofs.LawLemmas.{adds_the_advance, goes_on_as_taken, stays_in_order, hands_out_all, ends_idle, else_is_active}
use Rattle.vstrata.proofs.law.strata_law.Goals as goal

pub returns : goal.returns
returns c = record {
  choices = adds_the_advance;
  goes_on = goes_on_as_taken;
  in_order = stays_in_order;
  monitors = hands_out_all;
  ends = ends_idle;
  active = else_is_active;
}
