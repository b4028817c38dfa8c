use Rattle.explorer_tests.proofs.shared_books.audit_of_two_passes.Given as goal

abbrev pub ghosts-meets_by_two-B-BookIdentity : goal.ghosts-meets_by_two-B-BookIdentity
ghosts-meets_by_two-B-BookIdentity g a = record { entries = a.unopened.entries }

abbrev pub ghosts-meets_by_two-B-Ledger : goal.ghosts-meets_by_two-B-Ledger
ghosts-meets_by_two-B-Ledger g a = record { name = a.unopened.name; parts = a.unopened.parts }
