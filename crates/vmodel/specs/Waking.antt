-- *trusted*: What wakes a process that waits (IEEE 1364-2005, 9.7.2, 9.7.3, of `wait` 9.7.6, of `assign` 6.1): a change, which is the
-- difference of a variable before and after a step (own), or that the step triggers a named event.
use Rattle.std.specs.Prelude.{ℕ, suc, Bool, false, not, ◌||◌, if◌then◌else◌, ◌==◌, nat_lt, List, [], ◌∷◌, Option, Some, None, slice_get, unwrap_or}
use Rattle.vbits.specs.declared.bit4.Bit4.{Bit4}
use Rattle.vbits.specs.declared.bit4.Bit4.TheVariants.{Zero, One, X, Z}
use Rattle.vbits.specs.Vectors.{Vector, vector_same}
use Rattle.vdesign.specs.declared.action.Edge.{Edge}
use Rattle.vdesign.specs.declared.action.Edge.TheVariants.{Any, Rise, Fall}
use Rattle.vdesign.specs.declared.action.Term.{Term}
use Rattle.vdesign.specs.declared.action.Term.TheVariants.{Change, Event}
use Rattle.vdesign.specs.declared.action.Action.{Action}
use Rattle.vdesign.specs.declared.action.Action.TheVariants.{EventControl, Wait, ContinuousAssign}
use Rattle.vmodel.specs.Parts.{value_in}
use Rattle.vmodel.specs.Queue.{with_process}
use Rattle.vmodel.specs.State.{Process}

-- table 9-2: from 0 over x and z to 1
abbrev pub rank : Bit4 → ℕ
rank Zero = 0
rank X = 1
rank Z = 1
rank One = 2

-- the rightmost bit
abbrev pub last_bit : Vector → Bit4
last_bit value = unwrap_or (slice_get value.letters 0) X

-- whether an edge stands between two values of a variable: any change, the rightmost bit towards 1, or towards 0
abbrev pub is_edge : Edge → Vector → Vector → Bool
is_edge Any old new = not (vector_same old new)
is_edge Rise old new = nat_lt (rank (last_bit old)) (rank (last_bit new))
is_edge Fall old new = nat_lt (rank (last_bit new)) (rank (last_bit old))

-- 9.7.3: whether the event that a step triggers, if it does, is this one
abbrev pub is_triggered : Option ℕ → ℕ → Bool
is_triggered None event = false
is_triggered (Some one) event = one == event

abbrev pub hears : List Vector → List Vector → Option ℕ → Term → Bool
hears before after triggered (Change edge variable) = is_edge edge (value_in before variable) (value_in after variable)
hears before after triggered (Event event) = is_triggered triggered event

abbrev pub any_hears : List Vector → List Vector → Option ℕ → List Term → Bool
any_hears before after triggered [] = false
any_hears before after triggered (term ∷ terms) = hears before after triggered term || any_hears before after triggered terms

-- whether what a process waits for at an action has come: one of its terms is enough (9.7.4)
abbrev pub has_come : Option Action → List Vector → List Vector → Option ℕ → Bool
has_come (Some (EventControl terms body)) before after triggered = any_hears before after triggered terms
has_come (Some (Wait condition terms body)) before after triggered = any_hears before after triggered terms
has_come (Some (ContinuousAssign targets value terms)) before after triggered = any_hears before after triggered terms
has_come _ before after triggered = false

-- whether a process wakes that waits at this place of the table, or doesn't wait
abbrev pub wakes_at : List Action → List Vector → List Vector → Option ℕ → Option ℕ → Bool
wakes_at actions before after triggered None = false
wakes_at actions before after triggered (Some place) = has_come (slice_get actions place) before after triggered

abbrev pub wakes : List Action → List Vector → List Vector → Option ℕ → Process → Bool
wakes actions before after triggered process = wakes_at actions before after triggered process.waits

-- one that wakes doesn't wait any more
abbrev pub awake : (Process → Bool) → Process → Process
awake wakes process = if wakes process then record process { waits = None } else process

-- the active processes with those that wake, of processes that are numbered from n on
abbrev pub with_awake : (Process → Bool) → ℕ → List Process → List ℕ → List ℕ
with_awake wakes n [] active = active
with_awake wakes n (process ∷ rest) active = with_awake wakes (suc n) rest (if wakes process then with_process n active else active)
