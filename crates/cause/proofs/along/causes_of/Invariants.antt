use Rattle.std.proofs.Common.{◌≡◌, ◌≤◌, ℕ, suc, Option, Some, length, slice_get, take}
use Rattle.cause.specs.Causes.{IsTold}
use Rattle.cause.specs.Checkpoints.{IsCheckpointOf}
use Rattle.cause.specs.declared.cause.Cause.{Cause}
use Rattle.cause.proofs.along.causes_of.Given as goal

abbrev pub invariant-loop-place : goal.invariant-loop-place
invariant-loop-place l = record {
  is : IsCheckpointOf l.machine l.members l.start;
  before : (m : ℕ × ℕ) → slice_get l.members l.place ≡ Some m → l.start.step ≤ m.0;
  many : length l.causes.items ≡ l.place;
  each : (k : ℕ) (told : Option Cause) → slice_get l.causes.items k ≡ Some told → IsTold l.machine (take (suc k) l.members) l.steps told;
}
