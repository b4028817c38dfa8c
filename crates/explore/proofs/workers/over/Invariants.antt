use Rattle.explore.proofs.workers.over.Given as goal

abbrev pub ghosts-within-B-BookIdentity : goal.ghosts-within-B-BookIdentity
ghosts-within-B-BookIdentity g a = record { entries = a.unopened.entries }

abbrev pub ghosts-within-B-Ledger : goal.ghosts-within-B-Ledger
ghosts-within-B-Ledger g a = record { name = a.unopened.name; parts = a.unopened.parts }
