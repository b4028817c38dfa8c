-- *trusted*: What drives the bits of nets, said of the finished design (IEEE 1364-2005, 4.2.1, 4.6, 6.1, 12.3.9.2): no bit has two drivers, and a bit
-- that none drives is z.
use Rattle.std.specs.Prelude.{ℕ, zero, suc, ◌+◌, ◌==◌, Bool, not, ◌&&◌, ◌||◌, false, if◌then◌else◌, List, [], ◌∷◌, ◌++◌, map, drop, slice_get, Option, None, Some, unwrap_or}
use Rattle.std.specs.List.{flat_map, list_any}
use Rattle.vbits.specs.declared.bit4.Bit4.{Bit4}
use Rattle.vbits.specs.declared.bit4.Bit4.TheVariants.{X, Z}
use Rattle.vbits.specs.Vectors.{Vector}
use Rattle.vdesign.specs.Design.{Variable}
use Rattle.vdesign.specs.declared.action.Action.{Action}
use Rattle.vdesign.specs.declared.action.Action.TheVariants.{ContinuousAssign}
use Rattle.vdesign.specs.declared.action.Target.{Target}
use Rattle.vvalue.specs.Value.{Environment}
use Rattle.vvalue.specs.Targets.{span_of, variable_of}
use Rattle.velab_expr.specs.declared.fault.Rule.{Rule}
use Rattle.velab_expr.specs.declared.fault.Rule.TheVariants as rule
use Rattle.velab_expr.specs.declared.fault.ElabFault.{ElabFault}
use Rattle.velab_declaration.specs.Right.{is_net}

-- a bit of a design: its variable, and how many bits stand right of it
abbrev pub Place : Type 0
Place = ℕ × ℕ

abbrev pub same_place : Place → Place → Bool
same_place one other = one.0 == other.0 && one.1 == other.1

abbrev pub is_driven : List Place → Place → Bool
is_driven driven place = list_any (same_place place) driven

-- so many bits of a variable from one on
abbrev pub places_from : ℕ → ℕ → ℕ → List Place
places_from n low zero = []
places_from n low (suc count) = (n, low) ∷ places_from n (low + 1) count

abbrev pub places_of : Environment → Target → List Place
places_of now target = places_from (variable_of target) (span_of now target).low (span_of now target).count

abbrev pub places_of_all : Environment → List Target → List Place
places_of_all now targets = flat_map (places_of now) targets

-- 6.1, 12.3.9.2: the bits that an action drives, if it is a continuous assignment or a port connection
abbrev pub driven_by : Environment → Action → List Place
driven_by now (ContinuousAssign targets value terms) = places_of_all now targets
driven_by now _ = []

abbrev pub driven_by_all : Environment → List Action → List Place
driven_by_all now actions = flat_map (driven_by now) actions

-- whether one of these stands among those in front of it
abbrev pub drives_again : List Place → List Place → Bool
drives_again before [] = false
drives_again before (place ∷ more) = is_driven before place || drives_again (before ++ place ∷ []) more

-- 4.6 (own: no strength resolves two drivers): the first action that drives a bit which it or an action before it drives; beside the actions stand
-- the numbers of their words
abbrev pub drivers_fault : Environment → List Place → List Action → List (Option ℕ) → Option ElabFault
drivers_fault now before [] words = None
drivers_fault now before (action ∷ more) words =
    if drives_again before (driven_by now action) then Some (record { rule = rule.Drivers; at = unwrap_or (slice_get words 0) None })
    else drivers_fault now (before ++ driven_by now action) more (drop 1 words)

-- 4.2.1, 4.2.2: what a bit is until it is first written: z of a net, if nothing drives it, and else x (of a bit that is driven, own)
abbrev pub start_letter : List Place → Variable → Place → Bit4
start_letter driven v place = if is_net v.kind && not (is_driven driven place) then Z else X

abbrev pub start_of : List Place → ℕ → Variable → Vector
start_of driven n v = record { letters = map (start_letter driven v) (places_from n 0 v.length); signed = false }

-- the variables from number n on, each with what it is at first
abbrev pub with_start_values : List Place → ℕ → List Variable → List Variable
with_start_values driven n [] = []
with_start_values driven n (v ∷ more) = record v { start = start_of driven n v } ∷ with_start_values driven (n + 1) more
