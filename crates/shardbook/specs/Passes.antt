-- *internal*: Passes: what each has counted.
use Rattle.std.specs.Prelude.{◌≡◌, ℕ, ◌+◌, Bool}

-- The parts of a pass, the New answers that it has counted, and whether there is room for one more.
pub record Counts : Type 0 where
  pub parts : ℕ
  pub count : ℕ
  pub room : Bool

-- One New answer more was counted.
pub record HasCounted (old new : Counts) : Type 0 where
  pub count : new.count ≡ old.count + 1
  pub parts : new.parts ≡ old.parts
