use Rattle.inspect_machines.proofs.refusals.shared.shares.Given as goal

abbrev pub ghosts-inserts-B-BookIdentity : goal.ghosts-inserts-B-BookIdentity
ghosts-inserts-B-BookIdentity g a = record { entries = a.unopened.entries }

abbrev pub ghosts-inserts-B-Ledger : goal.ghosts-inserts-B-Ledger
ghosts-inserts-B-Ledger g a = record { name = a.unopened.name; parts = a.unopened.parts }
