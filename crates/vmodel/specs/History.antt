-- *trusted*: What a run gives to those who watch it (IEEE 1364-2005, 11.4, 17.1, 18.1; docs/SCHEDULING.md, "Regions"): its slot ends,
-- where nothing is left at the current time, its dump commands, its printed lines and which monitor is in force from where on, in order;
-- and its end.
use Rattle.std.specs.Prelude.{List}
use Rattle.vbits.specs.Vectors.{Vector}
use Rattle.sched_core.specs.declared.end.End.{End}
use Rattle.vmodel.specs.declared.history.Item.{Item}

pub record History : Type 0 where
  pub items : List Item
  pub end : End
  pub values : List Vector  -- at the end
