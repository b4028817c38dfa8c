-- *product rule*: The statement behind a port connection, an `assign`, and an `always` block that waits for what it reads (IEEE 1364-2005, 6.1,
-- 9.7.5, 12.3.9.2; crates/cause/README.md): the visit whose change made it go on. The way back to it is a chain of visits of one slot, each the
-- last before the next one that changed what that reads. It ends at the first that is none of these, or that reads what no visit of the slot
-- changed before it.
use Rattle.std.specs.Prelude.{◌≡◌, ℕ, zero, suc, ◌==◌, ◌&&◌, Bool, true, false, if◌then◌else◌, List, [], ◌∷◌, ◌++◌, map, length, Option, Some, None, slice_get}
use Rattle.std.specs.List.{flat_map, list_any}
use Rattle.vdesign.specs.Design.{Design}
use Rattle.vdesign.specs.declared.action.Action.{Action}
use Rattle.vdesign.specs.declared.action.Action.TheVariants.{Test, Case, While, Repeat, Forever, Delay, EventControl, Wait, ContinuousAssign}
use Rattle.vdesign.specs.declared.action.Branch.{Branch}
use Rattle.vdesign.specs.declared.action.Edge.TheVariants.{Any}
use Rattle.vdesign.specs.declared.action.Term.{Term}
use Rattle.vdesign.specs.declared.action.Term.TheVariants.{Change, Event}
use Rattle.footprints.specs.declared.thing.Thing.{Thing}
use Rattle.footprints.specs.declared.thing.Thing.TheVariants.{Variable}
use Rattle.footprints.specs.declared.visit.Actor.{Actor}
use Rattle.footprints.specs.declared.visit.Actor.TheVariants.{Process, UpdateOf}
use Rattle.footprints.specs.declared.visit.Visit.{Visit}
use Rattle.footprints.specs.Footprints.{meet, reads_at}

-- 6.1: a port connection, or an `assign`
abbrev pub is_connection : Option Action → Bool
is_connection (Some (ContinuousAssign targets value list)) = true
is_connection _ = false

-- ---- an `always` block that waits for what it reads

-- clause 9: where the statements within an action stand
abbrev pub places_in_branch : Branch → List ℕ
places_in_branch branch = branch.body

abbrev pub places_in : Option Action → List ℕ
places_in (Some (Test condition when_true otherwise)) = when_true ++ otherwise
places_in (Some (Case kind value branches otherwise)) = flat_map places_in_branch branches ++ otherwise
places_in (Some (While condition body)) = body
places_in (Some (Repeat count body)) = body
places_in (Some (Forever body)) = body
places_in (Some (Delay amount body)) = body
places_in (Some (EventControl list body)) = body
places_in (Some (Wait condition list body)) = body
places_in _ = []

-- what the actions at these places read, and those within them, so many in all
abbrev pub read_from : List Action → ℕ → List ℕ → List Thing
read_from actions zero places = []
read_from actions (suc n) [] = []
read_from actions (suc n) (place ∷ places) =
    reads_at (slice_get actions place) true ++ read_from actions n (places ++ places_in (slice_get actions place))

-- 9.7.2: a change of a variable, not an edge
abbrev pub is_plain : Term → Bool
is_plain (Change Any n) = true
is_plain _ = false

abbrev pub are_plain : List Term → Bool
are_plain [] = true
are_plain (term ∷ terms) = is_plain term && are_plain terms

abbrev pub is_of : ℕ → Term → Bool
is_of n (Change edge m) = m == n
is_of n (Event event) = false

-- a variable is waited for
abbrev pub is_heard : List Term → Thing → Bool
is_heard terms (Variable n) = list_any (is_of n) terms
is_heard terms _ = true

abbrev pub are_heard : List Term → List Thing → Bool
are_heard terms [] = true
are_heard terms (thing ∷ things) = is_heard terms thing && are_heard terms things

-- 9.7.5: `@*`, or a list that names all that is read behind it
abbrev pub waits_for_all : List Action → List Term → List ℕ → Bool
waits_for_all actions terms body = are_plain terms && are_heard terms (read_from actions (length actions) body)

abbrev pub only : Option (List ℕ) → Option ℕ
only (Some (place ∷ [])) = Some place
only _ = None

abbrev pub action_at : List Action → Option ℕ → Option Action
action_at actions None = None
action_at actions (Some place) = slice_get actions place

-- 9.9.2: the body of an `always`
abbrev pub body_of : Option Action → Option (List ℕ)
body_of (Some (Forever body)) = Some body
body_of _ = None

abbrev pub control_of : Design → ℕ → Option Action
control_of design p =
    action_at design.actions (only (body_of (action_at design.actions (only (slice_get design.processes p)))))

abbrev pub thing_heard : Term → Thing
thing_heard (Change edge n) = Variable n
thing_heard (Event event) = Variable 0

-- what such a block waits for; nothing, if it is none
abbrev pub heard_by_block : List Action → Option Action → List Thing
heard_by_block actions (Some (EventControl terms body)) = if waits_for_all actions terms body then map thing_heard terms else []
heard_by_block actions _ = []

abbrev pub heard_by_actor : Design → Actor → List Thing
heard_by_actor design (Process p) = heard_by_block design.actions (control_of design p)
heard_by_actor design (UpdateOf place) = []

-- ---- the way back

-- what the way back from a visit asks for: what a connection reads, and what such a block waits for
abbrev pub asked_of : Design → Visit → List Thing
asked_of design v = if is_connection (slice_get design.actions v.place) then v.footprint.reads else heard_by_actor design v.actor

abbrev pub changes_one : List Thing → Option Visit → Bool
changes_one things None = false
changes_one things (Some v) = meet v.footprint.changes things

-- the last of the first n visits that changes one of these things
abbrev pub last_changer : List Thing → List Visit → ℕ → Option ℕ
last_changer things visits zero = None
last_changer things visits (suc n) = if changes_one things (slice_get visits n) then Some n else last_changer things visits n

-- the last visit before visit i that changed what the way back from it asks for
abbrev pub source_by : Design → List Visit → ℕ → Option Visit → Option ℕ
source_by design visits i None = None
source_by design visits i (Some v) = last_changer (asked_of design v) visits i

abbrev pub source_of : Design → List Visit → ℕ → Option ℕ
source_of design visits i = source_by design visits i (slice_get visits i)

abbrev pub onward : (ℕ → ℕ) → ℕ → Option ℕ → ℕ
onward go i None = i
onward go i (Some j) = go j

-- the visit behind visit i: the one that it goes back to, and so on, n times at most
abbrev pub behind : Design → List Visit → ℕ → ℕ → ℕ
behind design visits zero i = i
behind design visits (suc n) i = onward (behind design visits n) i (source_of design visits i)

abbrev pub place_or : ℕ → Option Visit → ℕ
place_or place None = place
place_or place (Some v) = v.place

-- the way back from a visit has ended: it is none of these, or no visit before it changed what it reads
abbrev pub IsEnd : Design → List Visit → ℕ → Type 0
IsEnd design visits i = source_of design visits i ≡ None

-- the place of the statement behind visit i, which is v; as the way goes back to earlier visits, it has ended after as many as there are
abbrev pub statement_behind : Design → List Visit → ℕ → Visit → ℕ
statement_behind design visits i v = place_or v.place (slice_get visits (behind design visits (length visits) i))
