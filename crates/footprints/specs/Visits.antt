-- *product rule*: The visits of a time slot (IEEE 1364-2005, 11.3, 11.4; crates/cause/README.md): the steps of its processes, and its
-- updates, each by the `<=` that posted it.
use Rattle.std.specs.Prelude.{◌≡◌, ℕ, zero, suc, ◌+◌, ◌<◌, ◌≤◌, ◌==◌, ◌&&◌, nat_lt, Bool, true, false, is_some, if◌then◌else◌, List, [], ◌∷◌, ◌++◌, map, Option, Some, None, slice_get}
use Rattle.sched_core.specs.Rules.{IsRun, choice_at}
use Rattle.std.specs.Option.{option_to_list}
use Rattle.vbits.specs.Vectors.{Vector}
use Rattle.vdesign.specs.Design.{Design}
use Rattle.vdesign.specs.declared.action.Action.{Action}
use Rattle.vdesign.specs.declared.action.Action.TheVariants.{EventControl, Wait}
use Rattle.vdesign.specs.declared.action.Term.{Term}
use Rattle.vdesign.specs.declared.action.Term.TheVariants as terms
use Rattle.vmodel.specs.declared.choice.Choice.{Choice}
use Rattle.vmodel.specs.declared.choice.Choice.TheVariants.{Run, Update, Advance}
use Rattle.vmodel.specs.Effects.{Effect}
use Rattle.vmodel.specs.declared.effect.Post.{Post}
use Rattle.vmodel.specs.State.{State}
use Rattle.vmodel.specs.Choices.{choices}
use Rattle.vmodel.specs.Inner.{first_place}
use Rattle.vmodel.specs.InnerStep.{continuation_in}
use Rattle.vmodel.specs.Step.{Transition, next}
use Rattle.vmodel.specs.Waking.{hears, any_hears}
use Rattle.vmodel.specs.declared.effect.Disposition.{Disposition}
use Rattle.vmodel.specs.declared.effect.Disposition.TheVariants.{Waiting}
use Rattle.vmodel.specs.Run.{Setting, rules_of, state_after}
use Rattle.footprints.specs.Footprints.{reads_at, changed_by, while_it_goes, ended_by}
use Rattle.footprints.specs.declared.thing.Thing.{Thing}
use Rattle.footprints.specs.declared.thing.Thing.TheVariants as things
use Rattle.footprints.specs.declared.thing.Awaited.TheVariants as awaited
use Rattle.footprints.specs.declared.footprint.Footprint.{Footprint}
use Rattle.footprints.specs.declared.visit.Actor.{Actor}
use Rattle.footprints.specs.declared.visit.Actor.TheVariants.{Process, UpdateOf}
use Rattle.footprints.specs.declared.visit.Visit.{Visit}
use Rattle.footprints.specs.declared.visit.Posted.{Posted}
use Rattle.footprints.specs.declared.wait.Standing.{Standing}

-- what was seen of a run: the updates that were posted, in that order; how many updates this slot has written; the visits from some step on;
-- and the waits that these began and that still stand
pub record Seen : Type 0 where
  pub posted : List Posted
  pub updates : ℕ
  pub visits : List Visit
  pub waits : List Standing

abbrev pub nothing_seen : Seen
nothing_seen = record { posted = []; updates = 0; visits = []; waits = [] }

-- ---- which `<=` posted an update

-- an update that is posted at a time, by the action at a place
abbrev pub posted_by : ℕ → Option ℕ → Option Post → List Posted
posted_by now (Some place) (Some post) = record { at = now; after = post.after; place = place } ∷ []
posted_by now (Some place) None = []
posted_by now None post = []

abbrev pub is_due : ℕ → Posted → Bool
is_due time posted = posted.at + posted.after == time

-- the places of those that are due at a time
abbrev pub due_at : ℕ → List Posted → List ℕ
due_at time [] = []
due_at time (p ∷ posted) = if is_due time p then p.place ∷ due_at time posted else due_at time posted

-- the place of the action that a process comes to
abbrev pub acting_place : State → Choice → Option ℕ
acting_place s (Run p) = first_place (continuation_in s.processes p)
acting_place s Update = None
acting_place s Advance = None

-- the place of the action that a step is of. 11.4: updates of one time are written in the order in which they were posted, so the one
-- that is written after k others of its slot is the one that was posted after k others for this time
abbrev pub place_by : State → Seen → Choice → Option ℕ
place_by s seen (Run p) = first_place (continuation_in s.processes p)
place_by s seen Update = slice_get (due_at s.queue.time seen.posted) seen.updates
place_by s seen Advance = None

-- how many updates the slot has written
abbrev pub updates_after : Choice → ℕ → ℕ
updates_after (Run p) n = n
updates_after Update n = suc n
updates_after Advance n = 0

-- ---- which waits stand, and what wakes them

-- the values before a step and after it, and the named event that it triggers
pub record News : Type 0 where
  pub before : List Vector
  pub after : List Vector
  pub triggered : Option ℕ

-- 9.7.2, 9.7.6: what `@` and `wait` wait for. An `assign` isn't such a wait: it reads what it waits for
abbrev pub terms_of : Option Action → List Term
terms_of (Some (EventControl terms body)) = terms
terms_of (Some (Wait condition terms body)) = terms
terms_of _ = []

abbrev pub is_wait : Option Action → Bool
is_wait (Some (EventControl terms body)) = true
is_wait (Some (Wait condition terms body)) = true
is_wait _ = false

-- 9.7.2, 9.7.3: of a wait, that a term of it comes
abbrev pub awaited_by : Standing → Term → Thing
awaited_by wait (terms.Change edge n) = things.Wait wait.process wait.number (awaited.Variable n)
awaited_by wait (terms.Event event) = things.Wait wait.process wait.number (awaited.Event event)

-- the wait that a visit with this number begins, a step of the action at a place, if it begins one, and its process has something left
abbrev pub begun_by : List Action → Choice → ℕ → ℕ → Disposition → Option ℕ → Option Standing
begun_by actions (Run p) place number (Waiting at) (Some left) =
    if is_wait (slice_get actions place) then Some (record { process = p; number = number; place = place }) else None
begun_by actions c place number disposition left = None

-- a visit that begins a wait reads each of its terms
abbrev pub read_by_wait : List Action → Option Standing → List Thing
read_by_wait actions None = []
read_by_wait actions (Some wait) = map (awaited_by wait) (terms_of (slice_get actions wait.place))

-- 9.7.4: of these terms of a wait those that come by a change
abbrev pub heard_by : News → Standing → List Term → List Thing
heard_by news wait [] = []
heard_by news wait (term ∷ terms) =
    if hears news.before news.after news.triggered term then awaited_by wait term ∷ heard_by news wait terms else heard_by news wait terms

-- what a change wakes of the waits that stand
abbrev pub woken_by : List Action → News → List Standing → List Thing
woken_by actions news [] = []
woken_by actions news (wait ∷ waits) =
    heard_by news wait (terms_of (slice_get actions wait.place)) ++ woken_by actions news waits

-- the waits that stand on
abbrev pub standing_on : List Action → News → List Standing → List Standing
standing_on actions news [] = []
standing_on actions news (wait ∷ waits) =
    if any_hears news.before news.after news.triggered (terms_of (slice_get actions wait.place)) then standing_on actions news waits
    else wait ∷ standing_on actions news waits

-- ---- visits

abbrev pub actor_of : Choice → ℕ → Actor
actor_of (Run p) place = Process p
actor_of Update place = UpdateOf place
actor_of Advance place = UpdateOf place

-- what a step evaluates; an update nothing (11.4)
abbrev pub evaluated_by : Design → Choice → ℕ → Effect → List Thing
evaluated_by design (Run p) place effect = reads_at (slice_get design.actions place) (is_some effect.held)
evaluated_by design Update place effect = []
evaluated_by design Advance place effect = []

abbrev pub news_of : State → Transition → News
news_of state step = record { before = state.values; after = step.state.values; triggered = step.effect.triggered }

-- what the step of a choice, of the action at a place, reads and changes: it reads what it evaluates, and the wait that it begins; it changes
-- variables, those of these waits that it wakes, and the end of the run. What changes a variable reads that the run goes on
abbrev pub footprint_by : Design → Choice → ℕ → News → Effect → Option Standing → List Standing → Footprint
footprint_by design c place news effect begun waits = record {
  reads = evaluated_by design c place effect ++ (read_by_wait design.actions begun ++ while_it_goes (changed_by news.before news.after effect.wrote));
  changes = changed_by news.before news.after effect.wrote ++ (woken_by design.actions news waits ++ ended_by effect.cause);
}

abbrev pub same_actor : Actor → Actor → Bool
same_actor (Process p) (Process q) = p == q
same_actor (UpdateOf p) (UpdateOf q) = p == q
same_actor _ _ = false

-- a visit in two runs: by the same actor, after as many others of it
abbrev pub same_visit : Visit → Visit → Bool
same_visit v w = same_actor v.actor w.actor && v.number == w.number

-- how many of these visits an actor made
abbrev pub visits_by : Actor → List Visit → ℕ
visits_by actor [] = 0
visits_by actor (v ∷ visits) = if same_actor actor v.actor then suc (visits_by actor visits) else visits_by actor visits

-- the visit of step n, with its number among those of its actor
abbrev pub visit_of : ℕ → Actor → ℕ → Footprint → List Visit → Visit
visit_of n actor place footprint before = record { step = n; actor = actor; number = visits_by actor before; place = place; footprint = footprint }

-- with the visit of step n, which has something left to do
abbrev pub with_visit : Design → ℕ → Choice → Option ℕ → News → Option ℕ → Effect → List Standing → List Visit → List Visit
with_visit design n c None news left effect waits before = before
with_visit design n c (Some place) news left effect waits before =
    let begun = begun_by design.actions c place (visits_by (actor_of c place) before) effect.disposition left in
    before ++ visit_of n (actor_of c place) place (footprint_by design c place news effect begun waits) before ∷ []

-- the waits that stand after it
abbrev pub with_waits : Design → Choice → Option ℕ → News → Option ℕ → Effect → List Visit → List Standing → List Standing
with_waits design c None news left effect before waits = waits
with_waits design c (Some place) news left effect before waits =
    standing_on design.actions news waits
    ++ option_to_list (begun_by design.actions c place (visits_by (actor_of c place) before) effect.disposition left)

-- what is seen after step n too, which is of choice c, where visits are seen from step s on
abbrev pub seen_by : Design → ℕ → ℕ → State → Choice → Transition → Seen → Seen
seen_by design s n state c step seen = record {
  posted = seen.posted ++ posted_by state.queue.time (acting_place state c) step.effect.posted;
  updates = updates_after c seen.updates;
  visits = if nat_lt n s then seen.visits else
      with_visit design n c (place_by state seen c) (news_of state step) (acting_place step.state c) step.effect seen.waits seen.visits;
  waits = if nat_lt n s then seen.waits else
      with_waits design c (place_by state seen c) (news_of state step) (acting_place step.state c) step.effect seen.visits seen.waits;
}

abbrev pub seen_next : Design → ℕ → ℕ → State → Option Choice → Transition → Seen → Seen
seen_next design s n state None step seen = seen
seen_next design s n state (Some c) step seen = seen_by design s n state c step seen

-- ---- step n of the run under a log

abbrev pub choice_of : Setting → List (ℕ × ℕ) → ℕ → Option Choice
choice_of setting log n = slice_get (choices (state_after setting log n)) (choice_at log n)

abbrev pub seen_after : Setting → List (ℕ × ℕ) → ℕ → ℕ → Seen
seen_after setting log s zero = nothing_seen
seen_after setting log s (suc n) =
    seen_next setting.design s n (state_after setting log n) (choice_of setting log n) (next setting.design (state_after setting log n) (choice_at log n))
    (seen_after setting log s n)

-- the visits of steps s to n - 1
abbrev pub visits_to : Setting → List (ℕ × ℕ) → ℕ → ℕ → List Visit
visits_to setting log s n = (seen_after setting log s n).visits

-- ---- the slot of a step

-- a step of the slot goes on with it: it isn't the advance to another time, and there is one
abbrev pub is_in_slot : Option Choice → Bool
is_in_slot None = false
is_in_slot (Some (Run p)) = true
is_in_slot (Some Update) = true
is_in_slot (Some Advance) = false

-- of the run under the log, step b is the first of the slot of step s: none between them is an advance, and the one before it is, if there
-- is one
pub record IsBegin (setting : Setting) (log : List (ℕ × ℕ)) (s b : ℕ) : Type 0 where
  pub before : b ≤ s
  pub within : (k : ℕ) → b ≤ k → k < s → is_in_slot (choice_of setting log k) ≡ true
  pub begins : (k : ℕ) → suc k ≡ b → is_in_slot (choice_of setting log k) ≡ false

-- of the run under the log, the slot of step s ends before step n
pub record IsSlot (setting : Setting) (log : List (ℕ × ℕ)) (s n : ℕ) : Type 0 where
  pub run : IsRun (rules_of setting) log n
  pub after : s ≤ n
  pub within : (k : ℕ) → s ≤ k → k < n → is_in_slot (choice_of setting log k) ≡ true
  pub ends : is_in_slot (choice_of setting log n) ≡ false
