-- *trusted*: What a step does, beside what its process has left (IEEE 1364-2005, clause 9; docs/SCHEDULING.md, "Steps").
use Rattle.std.specs.Prelude.{ℕ, List, [], Option, None}
use Rattle.vbits.specs.Vectors.{Vector}
use Rattle.sched_core.specs.declared.end.Cause.{Cause}
use Rattle.vmodel.specs.declared.effect.Disposition.{Disposition}
use Rattle.vmodel.specs.declared.effect.Disposition.TheVariants.{Runnable}
use Rattle.vmodel.specs.declared.effect.Post.{Post}
use Rattle.vmodel.specs.declared.effect.Shown.{Shown}
use Rattle.vmodel.specs.declared.part.Part.{Part}

pub record Effect : Type 0 where
  pub held : Option Vector  -- the value that a suspended assignment holds from now on (9.7.7)
  pub disposition : Disposition
  pub wrote : List Part  -- what is written, from left to right
  pub posted : Option Post  -- a nonblocking update that is posted (11.4)
  pub triggered : Option ℕ  -- the named event that is triggered (9.7.3)
  pub shown : Option Shown  -- what it shows at once
  pub strobed : Option ℕ  -- a monitor event that is created: the line of the print task at this place, at the end of the slot (11.3, 17.1.2)
  pub cause : Option Cause  -- why the run ends, if it does (17.4)

-- a step that does nothing but go on
abbrev pub no_effect : Effect
no_effect = record {
  held = None;
  disposition = Runnable;
  wrote = [];
  posted = None;
  triggered = None;
  shown = None;
  strobed = None;
  cause = None;
}
