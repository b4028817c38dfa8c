use Rattle.explorer_tests.proofs.workers.named_left_closed.Given as goal

abbrev pub ghosts-left_closed-B-BookIdentity : goal.ghosts-left_closed-B-BookIdentity
ghosts-left_closed-B-BookIdentity g a = record { entries = a.unopened.entries }

abbrev pub ghosts-left_closed-B-Ledger : goal.ghosts-left_closed-B-Ledger
ghosts-left_closed-B-Ledger g a = record { name = a.unopened.name; parts = a.unopened.parts }
