-- *internal*: Rows: what the steps of the most frequent actions do, in forms that ask for no more than they need (IEEE 1364-2005, 6.1, 9.2,
-- 9.4, 9.6, 9.7).
use Rattle.std.specs.Prelude.{◌≡◌, ℕ, zero, suc, List, [], ◌∷◌, Option, None, Some}
use Rattle.vbits.specs.Vectors.{Vector}
use Rattle.vcode.specs.Code.{Code}
use Rattle.vdesign.specs.declared.action.Action.{Action}
use Rattle.vvalue.specs.Value.{Environment}
use Rattle.vmodel.specs.declared.effect.Disposition.TheVariants.{Delayed, Waiting}
use Rattle.vmodel.specs.declared.frame.Frame.{Frame}
use Rattle.vmodel.specs.declared.frame.Frame.TheVariants.{Executing, Repeating}
use Rattle.vmodel.specs.Effects.{Effect, no_effect}
use Rattle.vmodel.specs.InnerStep.{step_result}
use Rattle.vmodel.specs.Step.{place_of, execute_at, post_after}
use Rattle.vcompile.specs.Laws.{turns_behind}
use Rattle.vflat.specs.declared.row.Form.{Form}
use Rattle.vflat.specs.declared.row.Row.{Row}
use Rattle.vflat.specs.declared.row.Form.TheVariants.{Assign, Drive, Post, Go, Loop, Turn, Wait, Sleep}
use Rattle.vflat.specs.Flat.{Flat}
use Rattle.vflat.specs.InnerFlat.{with_left, place_process, finish, flat_to}

-- what a step of a form does, at a place
abbrev pub form_effect : ℕ → Form → Effect
form_effect place (Assign part) = record no_effect { wrote = part ∷ [] }
form_effect place (Drive part) = record no_effect { wrote = part ∷ []; disposition = Waiting place }
form_effect place (Post part) = record no_effect { posted = Some (post_after 0 (part ∷ [])) }
form_effect place Go = no_effect
form_effect place Loop = no_effect
form_effect place (Turn left) = no_effect
form_effect place Wait = record no_effect { disposition = Waiting place }
form_effect place (Sleep delay) = record no_effect { disposition = Delayed delay }

-- the turns of a `repeat` that are left, if any are
abbrev pub turns_frame : ℕ → ℕ → Option Frame
turns_frame place zero = None
turns_frame place (suc left) = Some (Repeating place (suc left))

-- what comes behind the places that come next
abbrev pub form_then : ℕ → Form → Option Frame
form_then place (Assign part) = None
form_then place (Drive part) = Some (Executing place)
form_then place (Post part) = None
form_then place Go = None
form_then place Loop = Some (Executing place)
form_then place (Turn left) = turns_frame place left
form_then place Wait = None
form_then place (Sleep delay) = None

-- how many turns are left behind the step, where it is told
abbrev pub form_left : Form → Option ℕ
form_left (Assign part) = None
form_left (Drive part) = None
form_left (Post part) = None
form_left Go = None
form_left Loop = None
form_left (Turn left) = Some left
form_left Wait = None
form_left (Sleep delay) = None

-- the step is of this form, and these places come next
pub record IsRow (frame : Frame) (action : Action) (now : Environment) (form : Form) (next : List ℕ) : Type 0 where
  pub does : (held : Option Vector) (after : List Frame) →
      execute_at frame action after held now ≡ step_result (form_then (place_of frame) form) next after (form_effect (place_of frame) form)
  pub turns : (code : Code) (turns : List ℕ) → turns_behind code frame action now turns ≡ with_left code (place_of frame) (form_left form) turns

-- the row is of the action, at whichever place that stands
abbrev pub IsRowAt : Action → Environment → Row → Type 0
IsRowAt action now row = (place : ℕ) → IsRow (Executing place) action now row.form row.next.now

-- the row is of a turn of the action of which so many are left
abbrev pub IsRowOfTurn : Action → ℕ → Row → Type 0
IsRowOfTurn action turns row = (place : ℕ) (now : Environment) → IsRow (Repeating place turns) action now row.form row.next.now

-- the flat state after a step of a form, with this effect and these monitor events
abbrev pub IsAfterRow : Code → ℕ → Frame → Form → List ℕ → Flat → Effect → Flat → List ℕ → Type 0
IsAfterRow code p frame form next old effect new monitors =
    (effect ≡ form_effect (place_of frame) form)
    × (finish code effect (place_process code p frame (form_left form) next (form_then (place_of frame) form) effect old) ≡ flat_to new effect monitors)
