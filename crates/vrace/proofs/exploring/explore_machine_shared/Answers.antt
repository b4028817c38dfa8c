use Rattle.std.proofs.Common.{refl, inl}
use Rattle.vrace.proofs.ExploreLemmas.{never_long}
use Rattle.vrace.proofs.exploring.explore_machine_shared.Goals as goal

pub returns-in-Err-clause-err : goal.returns-in-Err-clause-err
returns-in-Err-clause-err g c = inl (c.of_search.ensures.memory, refl)

pub of_search-requires : goal.of_search-requires
of_search-requires g c = record { short = never_long c.args.machine.now c.args.limits.now c.in-Err.fault c.requires.short c.in-Err.ensures.long }
