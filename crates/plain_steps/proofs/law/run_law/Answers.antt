use Rattle.vmodel.specs.SameLaws.{states_tell}
use Rattle.vmodel.specs.RulesLaws.{lawful}
use Rattle.vmodel.proofs.KeptLemmas.{kept}
use Rattle.plain_steps.proofs.SlotTimesLemmas.{times_rise}
use Rattle.vmodel.proofs.TimesLemmas.{time_never_falls}
use Rattle.plain_steps.proofs.SlotLemmas.{goes_on_one_way, goes_on_later, stays_in_slot}
use Rattle.plain_steps.proofs.ValuesLemmas.{as_many, as_many_shown}
use Rattle.plain_steps.proofs.ShapeLemmas.{as_shaped}
use Rattle.plain_steps.proofs.EndsLemmas.{shown_end, end_shown}
use Rattle.plain_steps.proofs.SettingLemmas.{taking_is_holding, holding_ends_too, prints_where_looked, as_values}
use Rattle.plain_steps.proofs.WrittenLemmas.{writes_each_bit}
use Rattle.plain_steps.proofs.law.run_law.Goals as goal

pub returns : goal.returns
returns c = record {
  equal = states_tell;
  lawful = lawful;
  kept = kept;
  time = time_never_falls;
  times = times_rise;
  one_way = goes_on_one_way;
  later = goes_on_later;
  stays = stays_in_slot;
  values = as_many;
  shapes = as_shaped;
  shown = as_many_shown;
  ended = shown_end;
  ends = end_shown;
  parts = writes_each_bit;
  holding = taking_is_holding;
  holding_ends = holding_ends_too;
  printed = prints_where_looked;
  lines = as_values;
}
