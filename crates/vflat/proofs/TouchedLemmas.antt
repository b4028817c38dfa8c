-- What a step of a machine's state writes.
use Rattle.std.proofs.Common.{◌≡◌, ℕ, List, Option, Some, None, refl, sym, ap, ◌∙◌}
use Rattle.std.specs.Prelude.{slice_get}
use Rattle.vcode.specs.Code.{Code}
use Rattle.vdesign.specs.Design.{Design}
use Rattle.vdesign.specs.declared.action.Action.{Action}
use Rattle.vmodel.specs.Choices.{choices}
use Rattle.vmodel.specs.Parts.{with_parts}
use Rattle.vmodel.specs.Step.{place_of}
use Rattle.vmodel.specs.declared.choice.Choice.{Choice}
use Rattle.vmodel.specs.declared.choice.Choice.TheVariants.{Run, Update, Advance}
use Rattle.vmodel.specs.Effects.{Effect}
use Rattle.vmodel.specs.declared.frame.Frame.{Frame}
use Rattle.vmodel.proofs.TouchedLemmas.{moves_keep, next_writes, transition_writes}
use Rattle.vflat.specs.Flat.{Flat, point_in, frame_at, flat_after, flat_updated, flat_action, flat_frame, flat_transition_of, flat_by, flat_next}
use Rattle.vflat.specs.Representations.{Representation, plain, fast, RepresentedTransition, rest_in, representation_next, representation_to}

action_writes : (design : Design) (code : Code) (p : ℕ) (frame : Frame) (o : Option Action) (f : Flat) →
    (flat_action design code p frame o f).flat.rest.values ≡ with_parts (flat_action design code p frame o f).effect.wrote f.rest.values
action_writes design code p frame None f = refl
action_writes design code p frame (Some action) f =
    let after : Flat = flat_after design code p frame action f in
    moves_keep after.rest.cause after.rest

frame_writes : (design : Design) (code : Code) (p : ℕ) (o : Option Frame) (f : Flat) →
    (flat_frame design code p o f).flat.rest.values ≡ with_parts (flat_frame design code p o f).effect.wrote f.rest.values
frame_writes design code p None f = refl
frame_writes design code p (Some frame) f = action_writes design code p frame (slice_get design.actions (place_of frame)) f

choice_writes : (design : Design) (code : Code) (c : Choice) (f : Flat) →
    (flat_transition_of design code c f).flat.rest.values ≡ with_parts (flat_transition_of design code c f).effect.wrote f.rest.values
choice_writes design code (Run p) f = frame_writes design code p (frame_at code f.turns (point_in f.points p)) f
choice_writes design code Update f =
    let after : Flat = flat_updated code f in
    moves_keep after.rest.cause after.rest
choice_writes design code Advance f = transition_writes design Advance f.rest

flat_writes : (design : Design) (code : Code) (f : Flat) (i : ℕ) → (flat_next design code f i).flat.rest.values ≡ with_parts (flat_next design code f i).effect.wrote f.rest.values
flat_writes design code f i = by (slice_get (choices f.rest) i)
  where
    by : (o : Option Choice) → (flat_by design code f i o).flat.rest.values ≡ with_parts (flat_by design code f i o).effect.wrote f.rest.values
    by None = refl
    by (Some c) = choice_writes design code c f

represented_writes : (design : Design) (code : Code) (s : Representation) (i : ℕ) →
    (rest_in (representation_next design code s i).state).values ≡ with_parts (representation_next design code s i).effect.wrote (rest_in s).values
represented_writes design code (plain s) i = next_writes design s i
represented_writes design code (fast f) i = flat_writes design code f i

-- the values after a step are those before it with what it wrote
pub step_writes : (design : Design) (code : Code) (s r : Representation) (i : ℕ) (effect : Effect) (monitors : List ℕ) →
    representation_next design code s i ≡ representation_to r effect monitors → (rest_in r).values ≡ with_parts effect.wrote (rest_in s).values
step_writes design code s r i effect monitors is =
    ap (λ (x : RepresentedTransition). (rest_in x.state).values) (sym is)
    ∙ represented_writes design code s i
    ∙ ap (λ (x : RepresentedTransition). with_parts x.effect.wrote (rest_in s).values) is
