use Rattle.explorer_tests.proofs.shared_books.entry_met_twice.Given as goal

abbrev pub ghosts-meets_twice-B-BookIdentity : goal.ghosts-meets_twice-B-BookIdentity
ghosts-meets_twice-B-BookIdentity g a = record { entries = a.unopened.entries }

abbrev pub ghosts-meets_twice-B-Ledger : goal.ghosts-meets_twice-B-Ledger
ghosts-meets_twice-B-Ledger g a = record { name = a.unopened.name; parts = a.unopened.parts }
