-- *internal*: Whether every place leads to what stands behind it in a design, and everybody who may wait is listed: tests of a code.
use Rattle.std.specs.Prelude.{ℕ, suc, ◌==◌, nat_lt, Bool, true, false, ◌&&◌, List, [], ◌∷◌, length, slice_get, Option, None, Some}
use Rattle.vcode.specs.declared.point.Point.{Point}
use Rattle.vcode.specs.declared.point.Point.TheVariants.{Ended}
use Rattle.vcode.specs.declared.link.Link.{Link}
use Rattle.vcode.specs.Points.{is_same_point, place_of_point}
use Rattle.vcode.specs.Code.{link_at}
use Rattle.vdesign.specs.Design.{Design}
use Rattle.vdesign.specs.declared.action.Term.{Term}
use Rattle.vdesign.specs.declared.action.Term.TheVariants.{Change, Event}
use Rattle.vdesign.specs.declared.action.Action.{Action}
use Rattle.vcompile.specs.Links.{Body, first_point, bodies_of}
use Rattle.vcompile.specs.Listening.{terms_of}

-- ---- links

-- whether a place is this process's, and leads to this point
abbrev pub leads_by : Option Link → ℕ → Point → Bool
leads_by None owner point = false
leads_by (Some l) owner point = is_same_point l.next point && (l.owner == owner)

-- whether places of a process lead from each to the next one, the last to an end
abbrev pub is_chain : List Link → ℕ → List ℕ → Point → Bool
is_chain links owner [] end = true
is_chain links owner (place ∷ places) end = leads_by (slice_get links place) owner (first_point places end) && is_chain links owner places end

abbrev pub are_chains : List Link → ℕ → List Body → Bool
are_chains links owner [] = true
are_chains links owner (b ∷ more) = is_chain links owner b.places b.end && are_chains links owner more

-- the bodies of an action
abbrev pub is_linked : List Link → ℕ → Action → Bool
is_linked links place action = are_chains links (link_at links place).owner (bodies_of place (link_at links place).next action)

-- actions that stand at places from n on
abbrev pub are_linked : List Link → ℕ → List Action → Bool
are_linked links n [] = true
are_linked links n (action ∷ more) = is_linked links n action && are_linked links (suc n) more

-- processes that are numbered from n on
abbrev pub begin_well : List Link → ℕ → List (List ℕ) → Bool
begin_well links n [] = true
begin_well links n (places ∷ more) = is_chain links n places Ended && begin_well links (suc n) more

-- ---- every place leads on to a place behind it, of the same process, or to the end

abbrev pub is_behind : ℕ → ℕ → Option ℕ → Bool
is_behind count place None = true
is_behind count place (Some other) = nat_lt place other && nat_lt other count

abbrev pub is_owned : List Link → ℕ → Option ℕ → Bool
is_owned links owner None = true
is_owned links owner (Some place) = (link_at links place).owner == owner

-- whether a link of this place does
abbrev pub leads_on : List Link → ℕ → Link → Bool
leads_on links place l = is_behind (length links) place (place_of_point l.next) && is_owned links l.owner (place_of_point l.next)

-- links of places from n on
abbrev pub lead_on : List Link → ℕ → List Link → Bool
lead_on links n [] = true
lead_on links n (l ∷ more) = leads_on links n l && lead_on links (suc n) more

-- ---- terms

-- of variables that there are, and of events of which lists are kept
abbrev pub is_listed : ℕ → ℕ → Term → Bool
is_listed variables events (Change edge variable) = nat_lt variable variables
is_listed variables events (Event event) = nat_lt event events

abbrev pub are_listed : ℕ → ℕ → List Term → Bool
are_listed variables events [] = true
are_listed variables events (term ∷ terms) = is_listed variables events term && are_listed variables events terms

abbrev pub all_listed : ℕ → ℕ → List Action → Bool
all_listed variables events [] = true
all_listed variables events (action ∷ more) = are_listed variables events (terms_of action) && all_listed variables events more

-- ---- all of it

-- links of all places
abbrev pub are_all : Design → List Link → Bool
are_all design links = (length links == length design.actions) && lead_on links 0 links

abbrev pub holds_links : Design → List Link → Bool
holds_links design links = are_all design links && (are_linked links 0 design.actions && begin_well links 0 design.processes)

abbrev pub is_whole : Design → List Link → ℕ → Bool
is_whole design links events = holds_links design links && all_listed (length design.variables) events design.actions
