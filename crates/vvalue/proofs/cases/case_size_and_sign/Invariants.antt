use Rattle.std.proofs.Common.{◌≡◌, drop}
use Rattle.vvalue.specs.Cases.{widest, case_size_and_sign}
use Rattle.vvalue.specs.Fits.{IsWithin}
use Rattle.vvalue.proofs.cases.case_size_and_sign.Given as goal

abbrev pub invariant-loop-branch : goal.invariant-loop-branch
invariant-loop-branch l =
    (widest l.fn.environment l.here (drop l.branch-index l.fn.branches) ≡ case_size_and_sign l.fn.environment l.fn.value l.fn.branches)
    × IsWithin l.here
