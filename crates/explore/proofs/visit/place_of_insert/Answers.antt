use Rattle.statebook.specs.Books.{Inserts}
use Rattle.statebook.specs.declared.book.Met.TheVariants.{New, Known}
use Rattle.explore.proofs.VisitLemmas.{found_new, found_known}
use Rattle.explore.proofs.visit.place_of_insert.Goals as goal
use Rattle.explore.proofs.visit.place_of_insert.Goals.{in-Ok-New, in-Ok-Known, in-Err}

pub returns-clause-found : goal.returns-clause-found
returns-clause-found g c = elim c.match-meet.branch [
  | in-Ok-New w ↦ (
      let m : Inserts g.S.PartialEq.eq c.args.book.now c.args.entry (New w.in-Ok-New.place) c.meet.new.self = rw w.in-Ok-New.field-0-is at w.in-Ok-New.ensures.ok in
      rw w.result-is (found_new g.S.PartialEq.eq g.met.S.Eq.laws c.args.book.now c.args.entry c.meet.new.self w.in-Ok-New.place m.0 m.1))
  | in-Ok-Known w ↦ (
      let m : Inserts g.S.PartialEq.eq c.args.book.now c.args.entry (Known w.in-Ok-Known.place) c.meet.new.self = rw w.in-Ok-Known.field-0-is at w.in-Ok-Known.ensures.ok in
      rw w.result-is (found_known g.S.PartialEq.eq c.args.book.now c.args.entry m.0.entry c.meet.new.self w.in-Ok-Known.place m.0.at m.0.dominates m.1))
  | in-Err w ↦ rw w.result-is tt
]
