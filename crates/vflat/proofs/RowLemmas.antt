-- Rows: what they do is what the step of their action does, and how a process is moved that posts nothing and creates no monitor event.
use Rattle.std.proofs.Common.{◌≡◌, ℕ, zero, suc, ◌-◌, List, [], ◌∷◌, append-nil, None, Some, if◌then◌else◌, refl, sym, ap, subst, ◌∙◌}
use Rattle.std.specs.Prelude.{slice_get, slice_set, unwrap_or}
use Rattle.vbits.specs.Vectors.{Vector}
use Rattle.vdesign.specs.Design.{Design}
use Rattle.vdesign.specs.Expressions.{ExpressionTree}
use Rattle.vdesign.specs.declared.action.Action.{Action}
use Rattle.vdesign.specs.declared.action.Action.TheVariants as acts
use Rattle.vdesign.specs.declared.action.Action.TheVariants.{Test, Repeat, Forever, Delay, EventControl}
use Rattle.vdesign.specs.declared.action.Target.{Target}
use Rattle.vdesign.specs.declared.action.Term.{Term}
use Rattle.vvalue.specs.Value.{Environment, holds, delay_of}
use Rattle.vvalue.specs.Cases.{turns_of}
use Rattle.vmodel.specs.declared.choice.Choice.TheVariants.{Run}
use Rattle.vmodel.specs.declared.effect.Disposition.TheVariants.{Delayed, Waiting}
use Rattle.vmodel.specs.declared.part.Part.{Part}
use Rattle.vmodel.specs.declared.frame.Frame.{Frame}
use Rattle.vmodel.specs.declared.frame.Frame.TheVariants.{Executing, Repeating}
use Rattle.vmodel.specs.Effects.{Effect, no_effect}
use Rattle.vmodel.specs.InnerStep.{behind, step_result}
use Rattle.vmodel.specs.Queue.{Queue}
use Rattle.vmodel.specs.Step.{place_of, frames, turns_left, post_after, posts_after, with_strobe, with_next_step, deactivate, reschedule, environment_of}
use Rattle.vmodel.specs.Value.{held_value, resumed_parts}
use Rattle.vmodel.proofs.PartLemmas.{held_assigned}
use Rattle.vcode.specs.declared.point.Point.{Point}
use Rattle.vcode.specs.Code.{Code}
use Rattle.vflat.specs.declared.row.Form.{Form}
use Rattle.vflat.specs.declared.row.Row.{Row}
use Rattle.vflat.specs.declared.row.Form.TheVariants.{Assign, Drive, Post, Go, Loop, Turn, Wait, Sleep}
use Rattle.vflat.specs.Flat.{Flat, point_in, held_by, frame_at, goes_from, stands_by, flat_transition_of}
use Rattle.vflat.specs.InnerFlat.{with_left, with_move, place_process, finish, flat_to}
use Rattle.vflat.specs.Rows.{IsRow, IsAfterRow, turns_frame, form_effect, form_then, form_left}
use Rattle.vflat.proofs.FlatLemmas.{ran_flat}

-- no monitor event is created
no_strobe : (q : Queue) → q ≡ with_strobe None q
no_strobe q = ap (λ places. record q { strobes = places }) (sym (append-nil q.strobes))

-- a process that goes on
pub moved_on : (p : ℕ) (to : Point) (f : Flat) →
    record f {
      points = slice_set f.points p to;
      held = slice_set f.held p None;
      rest = record f.rest { queue = with_next_step p (goes_from p to) f.rest.queue };
    } ≡ with_move p no_effect f.turns to f
moved_on p to f = ap (λ q. record f {
  points = slice_set f.points p to;
  held = slice_set f.held p None;
  rest = record f.rest { queue = with_next_step p (goes_from p to) q };
}) (no_strobe f.rest.queue)

-- one that waits
pub moved_to_wait : (p place : ℕ) (to : Point) (f : Flat) →
    record f {
      points = slice_set f.points p (stands_by (Waiting place) to);
      held = slice_set f.held p None;
      rest = record f.rest { queue = deactivate p f.rest.queue };
    } ≡ with_move p (record no_effect { disposition = Waiting place }) f.turns to f
moved_to_wait p place to f = ap (λ q. record f {
  points = slice_set f.points p (stands_by (Waiting place) to);
  held = slice_set f.held p None;
  rest = record f.rest { queue = deactivate p q };
}) (no_strobe f.rest.queue)

-- one that sleeps
pub moved_to_sleep : (p delay : ℕ) (to : Point) (f : Flat) →
    record f {
      points = slice_set f.points p to;
      held = slice_set f.held p None;
      rest = record f.rest { queue = reschedule p (Delayed delay) (goes_from p to) f.rest.queue };
    } ≡ with_move p (record no_effect { disposition = Delayed delay }) f.turns to f
moved_to_sleep p delay to f = ap (λ q. record f {
  points = slice_set f.points p to;
  held = slice_set f.held p None;
  rest = record f.rest { queue = reschedule p (Delayed delay) (goes_from p to) q };
}) (no_strobe f.rest.queue)

-- one that goes on behind an update that is posted
pub moved_to_post : (p : ℕ) (part : Part) (to : Point) (f : Flat) →
    with_move p no_effect f.turns to (record f { rest = record f.rest { queue = posts_after 0 (part ∷ []) f.rest.queue } })
    ≡ with_move p (record no_effect { posted = Some (post_after 0 (part ∷ [])) }) f.turns to f
moved_to_post p part to f = refl

-- ---- the rows of actions

pub row_assigns : (now : Environment) (targets : List Target) (value : ExpressionTree) (operand : Vector) (part : Part) → operand ≡ held_value now targets value →
    resumed_parts now targets (Some operand) ≡ part ∷ [] → (place : ℕ) → IsRow (Executing place) (acts.Assign targets value) now (Assign part) []
row_assigns now targets value operand part held is place = record {
  does = λ kept after. ap (λ parts. step_result None [] after (record no_effect { wrote = parts })) (sym (held_assigned now targets value operand held) ∙ is);
  turns = λ code turns. refl;
}

pub row_posts : (now : Environment) (targets : List Target) (value : ExpressionTree) (operand : Vector) (part : Part) → operand ≡ held_value now targets value →
    resumed_parts now targets (Some operand) ≡ part ∷ [] → (place : ℕ) → IsRow (Executing place) (acts.Nonblocking targets value) now (Post part) []
row_posts now targets value operand part held is place = record {
  does = λ kept after. ap (λ parts. step_result None [] after (record no_effect { posted = Some (post_after 0 parts) })) (sym (held_assigned now targets value operand held) ∙ is);
  turns = λ code turns. refl;
}

pub row_drives : (now : Environment) (targets : List Target) (value : ExpressionTree) (terms : List Term) (operand : Vector) (part : Part) → operand ≡ held_value now targets value →
    resumed_parts now targets (Some operand) ≡ part ∷ [] → (place : ℕ) → IsRow (Executing place) (acts.ContinuousAssign targets value terms) now (Drive part) []
row_drives now targets value terms operand part held is place = record {
  does = λ kept after. ap (λ parts. step_result (Some (Executing place)) [] after (record no_effect { wrote = parts; disposition = Waiting place })) (sym (held_assigned now targets value operand held) ∙ is);
  turns = λ code turns. refl;
}

pub unwrapped : (row told : Row) → Some row ≡ Some told → row ≡ told
unwrapped row told is = ap (λ o. unwrap_or o row) is

-- the same row, told by what is equal
pub row_like : (frame : Frame) (now : Environment) (action same : Action) (form alike : Form) (next as_many : List ℕ) → IsRow frame action now form next →
    same ≡ action → alike ≡ form → as_many ≡ next → IsRow frame same now alike as_many
row_like frame now action same form alike next as_many row is_action is_form is_next =
    subst (λ a. IsRow frame a now alike as_many) (sym is_action)
    (subst (λ f. IsRow frame action now f as_many) (sym is_form) (subst (λ n. IsRow frame action now form n) (sym is_next) row))

-- the step of a row is that of its action
pub ran_row : (design : Design) (code : Code) (p : ℕ) (frame : Frame) (action : Action) (form : Form) (next : List ℕ) (f after : Flat) (effect : Effect) (monitors : List ℕ) →
    frame_at code f.turns (point_in f.points p) ≡ Some frame → slice_get design.actions (place_of frame) ≡ Some action →
    IsRow frame action (environment_of design f.rest) form next → IsAfterRow code p frame form next f effect after monitors →
    flat_transition_of design code (Run p) f ≡ flat_to after effect monitors
ran_row design code p frame action form next f after effect monitors at there row (effect_is, is) =
    ran_flat design code p frame action (held_by f.held p) (environment_of design f.rest) (form_then (place_of frame) form) next (form_effect (place_of frame) form) (form_left form) f at there
    refl refl (row.does (held_by f.held p)) row.turns
    ∙ ap (λ e. finish code e (place_process code p frame (form_left form) next (form_then (place_of frame) form) e f)) (sym effect_is)
    ∙ is
