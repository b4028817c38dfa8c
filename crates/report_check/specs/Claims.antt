-- *internal*: Words for the contracts of calls within: what the races of a report say of runs, claim by claim.
use Rattle.std.specs.Prelude.{◌≡◌, ℕ, ◌+◌, ◌<◌, ◌≤◌, ◌⊎◌, ◌++◌, Bool, true, List, map, length, slice_get, Option, Some, None, Decides}
use Rattle.sched_core.specs.Rules.{IsRun, NamesBelow}
use Rattle.vbits.specs.Vectors.{Vector}
use Rattle.vmodel.specs.State.{State}
use Rattle.vmodel.specs.Run.{Setting, rules_of, state_after}
use Rattle.vmachine.specs.declared.machine_state.MachineState.{MachineState}
use Rattle.vmachine.specs.Machines.{Stands}
use Rattle.vmachine.specs.Reads.{slot_in}
use Rattle.report_text.specs.Report.{LineRace, Race, Report}
use Rattle.report_check.specs.declared.claim.Seen.{Seen}
use Rattle.report_check.specs.declared.claim.Seen.TheVariants as seen
use Rattle.value_text.specs.ValueText.{binary}

-- what is seen at the end of a slot: the variable of this number has the value of these digits; or these lines were printed
pub data Sight : Type 0 where
  value : ℕ → List ℕ → Sight
  printed : List (List ℕ) → Sight

abbrev pub sight_of : Seen → Sight
sight_of (seen.Value variable digits) = value variable digits.now
sight_of (seen.Lines lines) = printed lines.now

-- that it is seen at the end of the slot of this time, in the run under this log
pub record Claim : Type 0 where
  pub time : ℕ
  pub sight : Sight
  pub log : List (ℕ × ℕ)

-- ---- the claims of a report

-- of a value of a race, and of a side of a race of lines
abbrev pub value_claim : Race → List ℕ × List (ℕ × ℕ) → Claim
value_claim race witness = record { time = race.time; sight = value race.variable witness.0; log = witness.1 }

abbrev pub lines_claim : LineRace → List (List ℕ) × List (ℕ × ℕ) → Claim
lines_claim race side = record { time = race.time; sight = printed side.0; log = side.1 }

abbrev pub value_claims : Race → List Claim
value_claims race = map (value_claim race) race.values

abbrev pub lines_claims : LineRace → List Claim
lines_claims race = map (lines_claim race) race.sides

-- of each race, as `FirstBad` counts them: those of variables, and then those of lines
abbrev pub claims : Report → List (List Claim)
claims report = map value_claims report.races ++ map lines_claims report.line_races

abbrev pub claim_of : Option (List Claim) → ℕ → Option Claim
claim_of None i = None
claim_of (Some all) i = slice_get all i

-- the claim at a place: that of its race, so counted, and its own in the race
abbrev pub claim_in : Report → ℕ × ℕ → Option Claim
claim_in report place = claim_of (slice_get (claims report) place.0) place.1

-- ---- of states

-- the variable has the value of these digits
pub record HasValue (variable : ℕ) (digits : List ℕ) (t : State) : Type 0 where
  pub value : Vector
  pub value_is : slice_get t.values variable ≡ Some value
  pub digits_are : digits ≡ binary value

abbrev pub IsSightAt : Sight → State → Type 0
IsSightAt (value variable digits) t = HasValue variable digits t
IsSightAt (printed lines) t = Some lines ≡ t.printed

-- the slot of the claim's time ends here, and it is seen
pub record IsClaimAt (claim : Claim) (t : State) : Type 0 where
  pub slot_is : slot_in t ≡ Some claim.time
  pub sight_is : IsSightAt claim.sight t

-- the answer says whether the state is such a one
abbrev pub TellsState : Setting → MachineState → (State → Type 0) → Bool → Type 0
TellsState setting s P answer = (t : State) → Stands setting s t → Decides answer (P t)

-- whether an earlier one was, or it is
abbrev pub TellsByNow : Bool → Setting → MachineState → (State → Type 0) → Bool → Type 0
TellsByNow before setting s P answer = (t : State) → Stands setting s t → Decides answer ((before ≡ true) ⊎ P t)

-- ---- of runs

-- the run under the log came to such a state after fewer than n steps
pub record IsSeenBefore (setting : Setting) (P : State → Type 0) (log : List (ℕ × ℕ)) (n : ℕ) : Type 0 where
  pub at : ℕ
  pub earlier : at < n
  pub seen : P (state_after setting log at)

-- it comes to one, and takes all that the log names, both within so many steps
pub record IsSeenWithin (setting : Setting) (limit : ℕ) (P : State → Type 0) (log : List (ℕ × ℕ)) : Type 0 where
  pub steps : ℕ
  pub run : IsRun (rules_of setting) log steps
  pub names : NamesBelow log steps
  pub within : steps ≤ limit
  pub before : IsSeenBefore setting P log (steps + 1)

-- the claim is true, within the limits that the head names
pub record IsTrueClaim (setting : Setting) (report : Report) (claim : Claim) : Type 0 where
  pub seen : IsSeenWithin setting report.steps (IsClaimAt claim) claim.log
  pub short : length claim.log ≤ report.depart

-- the run under the log comes to this state, within the limits that the head names, and nothing is left of the log
pub record ComesTo (setting : Setting) (report : Report) (log : List (ℕ × ℕ)) (s : MachineState) : Type 0 where
  pub steps : ℕ
  pub run : IsRun (rules_of setting) log steps
  pub names : NamesBelow log steps
  pub within : steps ≤ report.steps
  pub short : length log ≤ report.depart
  pub at : Stands setting s (state_after setting log steps)

-- ---- of places

-- the claim that stands at this place is true
abbrev pub IsTrueAt : Setting → Report → ℕ × ℕ → Type 0
IsTrueAt setting report place = (claim : Claim) → claim_in report place ≡ Some claim → IsTrueClaim setting report claim

-- so are all of the race at this place
abbrev pub AreTrueAt : Setting → Report → ℕ → Type 0
AreTrueAt setting report race = (i : ℕ) → IsTrueAt setting report (race, i)

-- the race at this place has no more claims than these
abbrev pub HasClaims : Report → ℕ → ℕ → Type 0
HasClaims report race count = (i : ℕ) → count ≤ i → claim_in report (race, i) ≡ None
