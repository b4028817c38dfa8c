-- *internal*: Of what visits touch, how late the run makes them: bounds of the search for the first swap.
use Rattle.std.specs.Prelude.{◌≡◌, ℕ, ◌+◌, ◌≤◌, ◌<◌, Bool, true, false, List, [], ◌∷◌, nat_lt, if◌then◌else◌, Option, Some, None, slice_get}
use Rattle.footprints.specs.declared.thing.Thing.{Thing}
use Rattle.footprints.specs.declared.thing.Thing.TheVariants.{Variable, Wait, End}
use Rattle.footprints.specs.declared.footprint.Footprint.{Footprint}
use Rattle.footprints.specs.declared.visit.Visit.{Visit}
use Rattle.footprints.specs.declared.latest.Table.{Table}
use Rattle.footprints.specs.declared.latest.Latest.{Latest}
use Rattle.footprints.specs.Footprints.{is_in}
use Rattle.footprints.specs.Swaps.{footprint_in, is_swap}

abbrev pub or_zero : Option ℕ → ℕ
or_zero None = 0
or_zero (Some n) = n

abbrev pub number_at : List ℕ → ℕ → ℕ
number_at list place = or_zero (slice_get list place)

abbrev pub of_thing : Table → Thing → ℕ
of_thing table (Variable n) = number_at table.variables.items n
of_thing table (Wait process number of) = number_at table.waits.items process
of_thing table End = number_at table.ends.items 0

abbrev pub greater : ℕ → ℕ → ℕ
greater n m = if nat_lt n m then m else n

abbrev pub greatest : Table → List Thing → ℕ → ℕ
greatest table [] most = most
greatest table (thing ∷ things) most = greatest table things (greater most (of_thing table thing))

-- of each thing the one has a number that isn't above that of the other
abbrev pub IsBelow : Table → Table → Type 0
IsBelow one other = (thing : Thing) → of_thing one thing ≤ of_thing other thing

abbrev pub AllReach : ℕ → Table → List Thing → Type 0
AllReach n table things = (thing : Thing) → is_in thing things ≡ true → n ≤ of_thing table thing

-- the place n was put for what a visit touches
pub record Reaches (n : ℕ) (latest : Latest) (footprint : Footprint) : Type 0 where
  pub reads : AllReach n latest.touched footprint.reads
  pub changes : AllReach n latest.touched footprint.changes
  pub changed : AllReach n latest.changed footprint.changes

abbrev pub ReachesIf : ℕ → Latest → Option Footprint → Type 0
ReachesIf n latest None = Unit {0}
ReachesIf n latest (Some footprint) = Reaches n latest footprint

-- the place n was put for what visit w of the parent touches there and in the run
pub record ReachesBoth (n : ℕ) (latest : Latest) (run : List Visit) (w : Visit) : Type 0 where
  pub in_parent : Reaches n latest w.footprint
  pub in_run : ReachesIf n latest (footprint_in w run)

abbrev pub latest_of : Latest → Footprint → ℕ
latest_of latest footprint = greatest latest.changed footprint.reads (greatest latest.touched footprint.changes 0)

abbrev pub latest_if : Latest → Option Footprint → ℕ
latest_if latest None = 0
latest_if latest (Some footprint) = latest_of latest footprint

-- of the first n visits of the parent each was put so that it reaches beyond all visits of the run with which it is a swap
abbrev pub Covers : List Visit → List Visit → ℕ → Latest → Type 0
Covers run parent n latest =
    (k l : ℕ) (w : Visit) → l < n → slice_get parent l ≡ Some w → is_swap run parent k l ≡ true → ReachesBoth (k + 1) latest run w

-- where it is said, a visit of the run is of no swap
abbrev pub AreClear : List Visit → List Visit → List Bool → Type 0
AreClear run parent clear = (k l : ℕ) → slice_get clear k ≡ Some true → is_swap run parent k l ≡ false
