-- *internal*: What is told when the workers of a search have ended.
use Rattle.std.specs.Prelude.{◌≡◌, ℕ, ◌+◌, ◌≤◌, ◌⊎◌, List, Option, Some}
use Rattle.basis.specs.declared.memory.NoMemory.{NoMemory}
use Rattle.sched_core.specs.Rules.{Rules}
use Rattle.statebook.specs.declared.limits.Limits.{Limits}
use Rattle.workpool.specs.Inner.Sums.{times}
use Rattle.workpool.specs.Jobs.{Owned}
use Rattle.workpool.specs.Rings.{jobs_put, jobs_taken, times_put, times_taken}
use Rattle.workpool.specs.Searches.{SomeRunComesBack}
use Rattle.workpool.specs.declared.ran.Ran.{Ran}
use Rattle.statebook.specs.declared.reason.Reason.{Reason}
use Rattle.statebook.specs.declared.reason.Reason.TheVariants.{Memory, Entries}

-- Memory was refused.
abbrev pub IsRefused : Option Reason → Type 0
IsRefused cut = (refused : NoMemory) × (cut ≡ Some (Memory refused))

-- So many jobs were put into these deques, and so many were taken out of them: each was put as often as it was taken or is left.
pub record AreJobs (deques : List Owned) (given taken : ℕ) : Type 0 where
  pub given_is : given ≡ jobs_put deques
  pub taken_is : taken ≡ jobs_taken deques
  pub left : List ℕ
  pub fair : (x : ℕ) → times_put x deques ≡ times_taken x deques + times x left

-- No more jobs were given than entries were opened, and just as many unless memory was refused.
pub record AreGiven (given opens : ℕ) (cut : Option Reason) : Type 0 where
  pub fewer : given ≤ opens
  pub all : given ≡ opens ⊎ IsRefused cut

-- It is said that as many entries were opened as the limit only where so many were; and then always, if not that memory was refused.
pub record TellsFull (opens : ℕ) (limits : Limits) (cut : Option Reason) : Type 0 where
  pub only : cut ≡ Some Entries → limits.entries ≤ opens
  pub always : limits.entries ≤ opens → (cut ≡ Some Entries) ⊎ IsRefused cut

-- The root's entry wasn't met: memory was refused before an entry was opened, or a run that comes back to its state was met.
abbrev pub HasNoRoot : {S Q B : Type 0} → Rules S → Limits → Ran S Q B → Type 0
HasNoRoot r limits ran = (ran.opens ≡ 0) × IsRefused ran.cut ⊎ SomeRunComesBack r limits
