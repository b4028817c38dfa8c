-- *internal*: What the sums of all workers tell.
use Rattle.std.specs.Prelude.{◌≡◌, ℕ, ◌+◌, ◌≤◌, [], None}
use Rattle.shardbook.specs.Passes.{Counts}
use Rattle.workpool.specs.Runs.{AreGiven, AreJobs, IsRefused}
use Rattle.workpool.specs.declared.ran.Ran.{Ran}

-- Memory was refused before the workers began.
pub record RunsNothing {S Q B : Type 0} (before : Counts) (ran : Ran S Q B) : Type 0 where
  pub opens : ran.opens ≡ 0
  pub shuts : ran.shuts ≡ 0
  pub given : ran.given ≡ 0
  pub taken : ran.taken ≡ 0
  pub deques : ran.deques.items ≡ []
  pub cut : IsRefused ran.cut
  pub root : ran.root ≡ None
  pub pass : ran.pass ≡ before

-- From this count on, what is told of opens and of jobs.
pub record TellsSums {S Q B : Type 0} (start : ℕ) (ran : Ran S Q B) : Type 0 where
  pub opens : ran.pass.count ≡ start + ran.opens
  pub given : AreGiven ran.given ran.opens ran.cut
  pub taken : ran.taken ≤ ran.given
  pub shuts : ran.shuts ≡ ran.taken
  pub jobs : AreJobs ran.deques.items ran.given ran.taken
