-- *internal*: The forms in which effects are kept, and what each of them stands for.
use Rattle.std.specs.Prelude.{Some}
use Rattle.vmodel.specs.declared.effect.Disposition.TheVariants.{Delayed, Waiting}
use Rattle.vmodel.specs.declared.effect.Form.{Form}
use Rattle.vmodel.specs.declared.effect.Form.TheVariants as form
use Rattle.vmodel.specs.Effects.{Effect, no_effect}

abbrev pub effect_of : Form → Effect
effect_of form.Nothing = no_effect
effect_of (form.Write parts) = record no_effect { wrote = parts }
effect_of (form.Drive parts place) = record no_effect { wrote = parts; disposition = Waiting place }
effect_of (form.Post post) = record no_effect { posted = Some post }
effect_of (form.Trigger event) = record no_effect { triggered = Some event }
effect_of (form.Suspend disposition) = record no_effect { disposition = disposition }
effect_of (form.Hold value delay) = record no_effect { held = Some value; disposition = Delayed delay }
effect_of (form.Show shown) = record no_effect { shown = Some shown }
effect_of (form.Strobe place) = record no_effect { strobed = Some place }
effect_of (form.End cause) = record no_effect { cause = Some cause }
