use Rattle.std.proofs.Common.{refl, subst}
use Rattle.statebook.specs.Books.{Book, Inserts}
use Rattle.statebook.specs.declared.entry.Entry.{Entry}
use Rattle.explore.proofs.AloneLemmas.{opened}
use Rattle.explore.proofs.alone.open_book.Goals as goal

pub returns-in-Ok-clause-under_way : goal.returns-in-Ok-clause-under_way
returns-in-Ok-clause-under_way g c =
    let root : Entry g.row.P-State.Denot = record { state = c.in_ok-root.field-0; budget = c.args.limits.now.depart; log = c.new.result; steps = 0 } in
    let P : Book g.row.P-State.Denot → Type 0 = λ b. Inserts g.P.State.PartialEq.eq b root c.in-Ok.field-0 c.meet.new.self in
    opened (g.P.Space.rules c.args.space.now) c.args.limits.now g.P.State.PartialEq.eq root c.in-Ok.field-0 c.meet.new.self
    c.in_ok-root.ensures refl c.new.ensures refl (subst P c.new-book.ensures c.in-Ok.ensures.ok)
