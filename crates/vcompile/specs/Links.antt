-- *internal*: Where the places of a design lead (IEEE 1364-2005, clause 9): what stands behind each, and which process comes to it.
use Rattle.std.specs.Prelude.{ℕ, zero, suc, Bool, true, false, min, List, [], ◌∷◌, map, length, replicate, slice_get, slice_set, Option, None, Some}
use Rattle.vcode.specs.declared.point.Point.{Point}
use Rattle.vcode.specs.declared.point.Point.TheVariants.{Ended, Executing, Repeating}
use Rattle.vcode.specs.declared.link.Link.{Link}
use Rattle.vcode.specs.Code.{no_link, link_at}
use Rattle.vdesign.specs.Design.{Design}
use Rattle.vdesign.specs.declared.action.Branch.{Branch}
use Rattle.vdesign.specs.declared.action.Action.{Action}
use Rattle.vdesign.specs.declared.action.Action.TheVariants.{Test, Case, While, Repeat, Forever, Delay, EventControl, Wait}

-- the number of a place within a code; no code has more places
abbrev pub place_number : ℕ → ℕ
place_number place = min place 4294967295

-- where a process comes first that goes to these places and then to an end
abbrev pub first_point : List ℕ → Point → Point
first_point [] end = end
first_point (place ∷ places) end = Executing (place_number place)

abbrev pub link : Point → ℕ → Link
link next owner = record { next = next; owner = owner }

-- places of a process that lead from each to the next one, the last to an end
abbrev pub with_chain : ℕ → List ℕ → Point → List Link → List Link
with_chain owner [] end links = links
with_chain owner (place ∷ places) end links = slice_set (with_chain owner places end links) place (link (first_point places end) owner)

-- ---- the bodies of an action

-- places that an action goes to, and the point to which the last of them leads
pub record Body : Type 0 where
  pub places : List ℕ
  pub end : Point

abbrev pub body : Point → List ℕ → Body
body end places = record { places = places; end = end }

abbrev pub branch_bodies : Point → List Branch → List Body
branch_bodies end [] = []
branch_bodies end (branch ∷ more) = body end branch.body ∷ branch_bodies end more

-- Of the action at a place, behind which this point stands: `while` and `forever` come again behind their body, `repeat` turns, and all
-- else is done with (9.4, 9.5, 9.6, 9.7)
abbrev pub bodies_of : ℕ → Point → Action → List Body
bodies_of place next (Test condition when_true otherwise) = body next when_true ∷ body next otherwise ∷ []
bodies_of place next (Case kind value branches otherwise) = body next otherwise ∷ branch_bodies next branches
bodies_of place next (While condition places) = body (Executing (place_number place)) places ∷ []
bodies_of place next (Repeat count places) = body (Repeating (place_number place)) places ∷ []
bodies_of place next (Forever places) = body (Executing (place_number place)) places ∷ []
bodies_of place next (Delay amount places) = body next places ∷ []
bodies_of place next (EventControl terms places) = body next places ∷ []
bodies_of place next (Wait condition terms places) = body next places ∷ []
bodies_of place next _ = []

-- ---- the links of a design

abbrev pub with_bodies : ℕ → List Body → List Link → List Link
with_bodies owner [] links = links
with_bodies owner (b ∷ more) links = with_bodies owner more (with_chain owner b.places b.end links)

-- the bodies of an action are its process's
abbrev pub with_action : ℕ → Action → List Link → List Link
with_action place action links = with_bodies (link_at links place).owner (bodies_of place (link_at links place).next action) links

abbrev pub with_action_at : ℕ → Option Action → List Link → List Link
with_action_at place None links = links
with_action_at place (Some action) links = with_action place action links

-- those of the first so many actions, the last of them first, since an action stands behind those of its bodies
abbrev pub with_actions : List Action → ℕ → List Link → List Link
with_actions actions zero links = links
with_actions actions (suc n) links = with_actions actions n (with_action_at n (slice_get actions n) links)

-- processes, numbered from n on, each of which ends behind the last of the places at which it begins
abbrev pub with_begins : ℕ → List (List ℕ) → List Link → List Link
with_begins n [] links = links
with_begins n (places ∷ more) links = with_begins (suc n) more (with_chain n places Ended links)

abbrev pub links_of : Design → List Link
links_of design =
    with_actions design.actions (length design.actions) (with_begins 0 design.processes (replicate (length design.actions) no_link))

abbrev pub begins_by : List (List ℕ) → List Point
begins_by processes = map (λ places. first_point places Ended) processes

-- ---- 9.6: counters

abbrev pub is_repeat : Action → Bool
is_repeat (Repeat count places) = true
is_repeat _ = false

-- a `repeat` has the next counter
abbrev pub counter_by : Bool → ℕ → Option ℕ
counter_by true n = Some n
counter_by false n = None

abbrev pub next_counter : Bool → ℕ → ℕ
next_counter true n = suc n
next_counter false n = n

-- by place, numbered from n on
abbrev pub counters_from : ℕ → List Action → List (Option ℕ)
counters_from n [] = []
counters_from n (action ∷ more) = counter_by (is_repeat action) n ∷ counters_from (next_counter (is_repeat action) n) more
