use Rattle.std.proofs.Common.{◌≡◌, ℕ, true, drop}
use Rattle.vmodel.specs.Touched.{is_in}
use Rattle.vcd_text.specs.Listed.{IsListed, is_between}
use Rattle.vcd_text.proofs.listed.next_listed.Given as goal

-- what stands before the one that was found is among those that are left, if it is listed
abbrev pub invariant-loop-variable : goal.invariant-loop-variable
invariant-loop-variable l =
    IsListed l.variables l.from l.found
    × ((n : ℕ) → is_between l.from l.found n ≡ true → is_in n l.variables ≡ is_in n (drop l.variable-index l.variables))
