use Rattle.holding_law.proofs.FreeLemmas.{has_free_ones, is_all_active, last_goes_on}
use Rattle.holding_law.proofs.ReleaseLemmas.{taken_released, advance_releases}
use Rattle.holding_law.proofs.LastLemmas.{default_is_free}
use Rattle.holding_law.proofs.ActionLemmas.{has_actions}
use Rattle.holding_law.proofs.HoldLemmas.{can_hold}
use Rattle.holding_law.proofs.TakingLemmas.{holding_is_taking}
use Rattle.holding_law.proofs.LineLemmas.{unordered, prints_unordered}
use Rattle.holding_law.proofs.SlotLemmas.{holds_slot_lines}
use Rattle.holding_law.proofs.holding_law.Goals as goal

pub returns : goal.returns
returns c = record {
  takes = holding_is_taking c.run_law.ensures.kept;
  holds = can_hold c.run_law.ensures.kept;
  actions = has_actions c.statement_law.ensures.design c.statement_law.ensures.trees c.statement_law.ensures.text;
  default = default_is_free c.run_law.ensures.kept;
  last = last_goes_on;
  free = has_free_ones c.run_law.ensures.kept;
  active = is_all_active c.run_law.ensures.kept;
  advance = advance_releases c.run_law.ensures.kept;
  taken = taken_released;
  lines = holds_slot_lines c.run_law.ensures.kept;
  unordered = unordered;
  printed = prints_unordered;
}
