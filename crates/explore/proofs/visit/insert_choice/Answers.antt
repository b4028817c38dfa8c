use Rattle.std.proofs.Common.{◌≡◌, ◌+◌, ◌≤◌, ◌∙◌, Some, None, sym, subst, arith, slice_get}
use Rattle.std.proofs.lemmas.Option.{same_Some}
use Rattle.statebook.specs.Books.{Book}
use Rattle.statebook.specs.ExplorerCore.{IsSuccessorAt}
use Rattle.statebook.specs.declared.entry.Entry.{Entry}
use Rattle.statebook.specs.Inner.Forced.{Follows}
use Rattle.explore.specs.Inner.Exploring.{BookGrows, IsUnderWay}
use Rattle.explore.specs.Inner.Ways.{AllLead, IsSearching}
use Rattle.explore.proofs.VisitLemmas.{is_met, grows_more, budget_after-le}
use Rattle.explore.proofs.WaysLemmas.{lead_more, marks_lead_past}
use Rattle.explore.proofs.visit.insert_choice.Given.{Over}
use Rattle.explore.proofs.visit.insert_choice.Goals as goal
use Rattle.explore.proofs.visit.insert_choice.Goals.{After-insert_reached, After-remember}

pub next_unwatched-requires-clause-entry : goal.next_unwatched-requires-clause-entry
next_unwatched-requires-clause-entry g c = λ κs h. c.requires.searching.under_way.sound.entry c.args.place c.read-entry.result.now c.read-entry.ensures

-- the book has grown by the next entry at most
grown : (g : Over) (c : After-insert_reached g) (e : Entry g.row.P-State.Denot) → slice_get c.args.search.now.book.entries c.args.place ≡ Some e → BookGrows c.args.search.now.book c.insert_reached.new.search.book e.budget
grown g c e at =
    let P : Entry g.row.P-State.Denot → Type 0 = λ x. BookGrows c.args.search.now.book c.insert_reached.new.search.book x.budget in
    let itself : c.read-entry.result.now ≡ e = same_Some _ _ (sym c.read-entry.ensures ∙ at) in
    let follows : Follows (g.P.Space.rules c.args.space.now) c.read-entry.result.now c.args.choice c.in-Some.next = rw c.in-Some.is at c.in_ok-next.ensures.follows in
    let le : c.in-Some.next.budget ≤ c.read-entry.result.now.budget = omega (arith, follows.budget, budget_after-le c.read-entry.result.now.budget c.args.choice) in
    subst P itself (grows_more c.args.search.now.book c.in-Some.next c.insert_reached.new.search.book c.read-entry.result.now.budget le c.insert_reached.ensures.book)

-- what is remembered where the way goes past the limit
kept_past : (g : Over) (c : After-remember g) → IsSearching (g.P.Space.rules c.args.space.now) c.args.limits.now c.remember.new.search
kept_past g c =
    let r = g.P.Space.rules c.args.space.now in
    let U : Book g.row.P-State.Denot → Type 0 = λ b. IsUnderWay r c.args.limits.now b in
    let L : Book g.row.P-State.Denot → Type 0 = λ b. AllLead r b.entries c.remember.new.search.ways.entries in
    record {
      under_way = subst U (sym c.remember.ensures.book) c.requires.searching.under_way;
      lead = subst L (sym c.remember.ensures.book) (lead_more r (g.met.P.Space.lawful c.args.space.now) g.P.State.PartialEq.eq (g.met.P.Space.same_is_eq c.args.space.now) c.args.search.now.book.entries c.args.search.now.ways.entries c.remember.new.search.ways.entries c.next_unwatched.new.checkpoints.items (c.args.limits.now.steps + 1) None
          c.requires.searching.lead
          (marks_lead_past r c.args.search.now.book.entries c.args.limits.now c.next_unwatched.new.checkpoints.items (rw c.in-None.is at c.in_ok-next.ensures.go_past))
          c.remember.ensures.remembered);
      room = c.remember.ensures.room;
    }

pub returns-in_err-met-in-Some-clause-grows : goal.returns-in_err-met-in-Some-clause-grows
returns-in_err-met-in-Some-clause-grows g c = grown g (goal.at.returns-in_err-met-in-Some-clause-grows g c).After-insert_reached

pub returns-in_err-remember-in-None-clause-searching : goal.returns-in_err-remember-in-None-clause-searching
returns-in_err-remember-in-None-clause-searching g c = kept_past g (goal.at.returns-in_err-remember-in-None-clause-searching g c).After-remember

pub returns-in_ok-met-in-Some-clause-met : goal.returns-in_ok-met-in-Some-clause-met
returns-in_ok-met-in-Some-clause-met g c = λ e at.
    let r = g.P.Space.rules c.args.space.now in
    let j = c.in_ok-met-in-Some.met in
    let growth = grown g (goal.at.returns-in_ok-met-in-Some-clause-met g c).After-insert_reached c.read-entry.result.now c.read-entry.ensures in
    let P : Entry g.row.P-State.Denot → Type 0 = λ x. IsSuccessorAt r c.insert_reached.new.search.book.entries x c.args.choice j in
    let itself : c.read-entry.result.now ≡ e = same_Some _ _ (sym (growth.stays c.args.place c.read-entry.result.now c.read-entry.ensures) ∙ at) in
    subst P itself (is_met r (g.met.P.Space.lawful c.args.space.now) g.P.State.PartialEq.eq (g.met.P.Space.same_is_eq c.args.space.now) c.insert_reached.new.search.book c.read-entry.result.now c.in-Some.next c.args.choice j
    (rw c.in-Some.is at c.in_ok-next.ensures.follows) c.in_ok-met-in-Some.ensures.found)

pub returns-in_ok-met-in-Some-clause-grows : goal.returns-in_ok-met-in-Some-clause-grows
returns-in_ok-met-in-Some-clause-grows g c = grown g (goal.at.returns-in_ok-met-in-Some-clause-grows g c).After-insert_reached

pub returns-in_ok-remember-in-None-clause-searching : goal.returns-in_ok-remember-in-None-clause-searching
returns-in_ok-remember-in-None-clause-searching g c = kept_past g (goal.at.returns-in_ok-remember-in-None-clause-searching g c).After-remember
