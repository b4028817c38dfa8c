use Rattle.std.proofs.Common.{◌+◌, Some, sym, subst, arith, length}
use Rattle.statebook.specs.Books.{Book}
use Rattle.explore.specs.Inner.Exploring.{IsUnderWay}
use Rattle.explore.specs.Inner.Ways.{AllLead, IsSearching}
use Rattle.explore.specs.declared.ways.TheConstants.{ROOM}
use Rattle.explore.proofs.VisitLemmas.{grows_more, under_way_more}
use Rattle.explore.proofs.WaysLemmas.{come_before, lead_later, lead_more, marks_lead_there, room_later}
use Rattle.explore.proofs.visit.insert_reached.Given.{Over}
use Rattle.explore.proofs.visit.insert_reached.Goals as goal
use Rattle.explore.proofs.visit.insert_reached.Goals.{After-remember}

pub remember-requires-clause-before : goal.remember-requires-clause-before
remember-requires-clause-before g c = come_before (g.P.Space.rules c.args.space.now) c.args.checkpoints.items c.args.entry.state c.args.entry.steps c.requires.come

pub remember-requires-clause-room : goal.remember-requires-clause-room
remember-requires-clause-room g c = room_later c.args.search.now.book c.args.entry c.place_of_insert.new.book ROOM (length c.args.search.now.ways.entries + 0) c.in_ok-place.ensures.ok c.requires.searching.room

-- the book has met the entry, and what is remembered leads on
kept : (g : Over) (c : After-remember g) → IsSearching (g.P.Space.rules c.args.space.now) c.args.limits.now c.remember.new.search
kept g c =
    let r = g.P.Space.rules c.args.space.now in
    let law = g.met.P.Space.lawful c.args.space.now in
    let agree = g.met.P.Space.same_is_eq c.args.space.now in
    let book = c.place_of_insert.new.book in
    let growth = grows_more c.args.search.now.book c.args.entry book c.args.entry.budget (omega arith) c.in_ok-place.ensures.ok in
    let U : Book g.row.P-State.Denot → Type 0 = λ b. IsUnderWay r c.args.limits.now b in
    let L : Book g.row.P-State.Denot → Type 0 = λ b. AllLead r b.entries c.remember.new.search.ways.entries in
    record {
      under_way = subst U (sym c.remember.ensures.book) (under_way_more r c.args.limits.now c.args.search.now.book c.args.entry book c.requires.searching.under_way c.requires.allowed c.in_ok-place.ensures.ok);
      lead = subst L (sym c.remember.ensures.book) (lead_more r law g.P.State.PartialEq.eq agree book.entries c.args.search.now.ways.entries c.remember.new.search.ways.entries c.args.checkpoints.items c.args.entry.steps (Some c.in_ok-place.place)
          (lead_later r c.args.search.now.book.entries book.entries growth.stays c.args.search.now.ways.entries c.requires.searching.lead)
          (marks_lead_there r law g.P.State.PartialEq.eq agree book c.args.entry c.in_ok-place.place c.args.entry.steps c.args.checkpoints.items c.requires.come c.in_ok-place.ensures.found)
          c.remember.ensures.remembered);
      room = c.remember.ensures.room;
    }

pub returns-in_err-remember-clause-searching : goal.returns-in_err-remember-clause-searching
returns-in_err-remember-clause-searching g c = kept g (goal.at.returns-in_err-remember-clause-searching g c).After-remember

pub returns-clause-searching : goal.returns-clause-searching
returns-clause-searching g c = kept g (goal.at.returns-clause-searching g c).After-remember
