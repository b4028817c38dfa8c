-- *internal*: Who listens to which variable and to which event of a design (IEEE 1364-2005, 9.7.2, 9.7.3).
use Rattle.std.specs.Prelude.{ℕ, suc, ◌+◌, max, min, List, [], ◌∷◌, ◌++◌, length, replicate, slice_set}
use Rattle.vcode.specs.declared.point.Point.{Point}
use Rattle.vcode.specs.declared.point.Point.TheVariants.{Executing}
use Rattle.vcode.specs.declared.link.Link.{Link}
use Rattle.vcode.specs.declared.listener.Listener.{Listener}
use Rattle.vcode.specs.Code.{link_at, listeners_at}
use Rattle.vdesign.specs.Design.{Design}
use Rattle.vdesign.specs.declared.action.Edge.{Edge}
use Rattle.vdesign.specs.declared.action.Edge.TheVariants.{Any}
use Rattle.vdesign.specs.declared.action.Term.{Term}
use Rattle.vdesign.specs.declared.action.Term.TheVariants.{Change, Event}
use Rattle.vdesign.specs.declared.action.Action.{Action}
use Rattle.vdesign.specs.declared.action.Action.TheVariants.{EventControl, Wait, ContinuousAssign}
use Rattle.vcompile.specs.Links.{place_number, first_point}

-- what is waited for at an action
abbrev pub terms_of : Action → List Term
terms_of (EventControl terms places) = terms
terms_of (Wait condition terms places) = terms
terms_of (ContinuousAssign targets value terms) = terms
terms_of _ = []

-- which change a term hears; any, of an event
abbrev pub edge_of : Term → Edge
edge_of (Change edge variable) = edge
edge_of (Event event) = Any

-- Where a process goes on that waited at an action: an event control leads to its body, and a `wait` and a continuous assignment come
-- again (9.7.2, 9.7.6, 6.1)
abbrev pub resumes_at : ℕ → Point → Action → Point
resumes_at place next (EventControl terms places) = first_point places next
resumes_at place next _ = Executing (place_number place)

-- the process of an action at a place, as it listens to an edge
abbrev pub listener_at : List Link → ℕ → Action → Edge → Listener
listener_at links place action edge = record {
  process = (link_at links place).owner;
  place = place_number place;
  edge = edge;
  resumes = resumes_at place (link_at links place).next action;
}

-- the same who listens to another edge
abbrev pub at_edge : Listener → Edge → Listener
at_edge listener edge = record listener { edge = edge }

-- ---- lists of listeners

-- those of variables, and those of events
pub record Lists : Type 0 where
  pub by_variable : List (List Listener)
  pub by_event : List (List Listener)

-- one more in the list of this number, where there is such a list
abbrev pub with_listener : ℕ → Listener → List (List Listener) → List (List Listener)
with_listener number listener lists = slice_set lists number (listeners_at lists number ++ listener ∷ [])

-- who listens to a term
abbrev pub with_term : Listener → Term → Lists → Lists
with_term listener (Change edge variable) lists = record lists { by_variable = with_listener variable (at_edge listener edge) lists.by_variable }
with_term listener (Event event) lists = record lists { by_event = with_listener event (at_edge listener Any) lists.by_event }

abbrev pub with_terms : Listener → List Term → Lists → Lists
with_terms listener [] lists = lists
with_terms listener (term ∷ terms) lists = with_terms listener terms (with_term listener term lists)

-- those of actions that stand at places from n on
abbrev pub with_heard : List Link → ℕ → List Action → Lists → Lists
with_heard links n [] lists = lists
with_heard links n (action ∷ more) lists = with_heard links (suc n) more (with_terms (listener_at links n action Any) (terms_of action) lists)

-- ---- how many events are waited for: their numbers are below this. Lists are kept of the first 65,536 of a design

abbrev pub event_count : Term → ℕ
event_count (Change edge variable) = 0
event_count (Event event) = min event 65535 + 1

-- so many at least
abbrev pub most_events : ℕ → List Term → ℕ
most_events most [] = most
most_events most (term ∷ terms) = most_events (max most (event_count term)) terms

abbrev pub events_from : ℕ → List Action → ℕ
events_from most [] = most
events_from most (action ∷ more) = events_from (most_events most (terms_of action)) more

abbrev pub events_in : List Action → ℕ
events_in actions = events_from 0 actions

abbrev pub no_lists : Design → Lists
no_lists design = record { by_variable = replicate (length design.variables) []; by_event = replicate (events_in design.actions) [] }

abbrev pub lists_of : Design → List Link → Lists
lists_of design links = with_heard links 0 design.actions (no_lists design)
