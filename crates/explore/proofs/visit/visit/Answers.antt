use Rattle.std.proofs.Common.{length, ◌≡◌, ◌+◌, ◌<◌, ◌++◌, ◌∷◌, [], ◌∙◌, sym, subst, arith, slice_get, Some, List, ℕ, ap, inl, inr}
use Rattle.std.proofs.lemmas.Option.{same_Some}
use Rattle.statebook.specs.ExplorerCore.{HasSuccessorsAt, choices_of}
use Rattle.statebook.specs.declared.entry.Entry.{Entry}
use Rattle.statebook.specs.Ways.{Allows}
use Rattle.explore.specs.BookFindings.{LeadsOn}
use Rattle.explore.specs.Inner.Exploring.{BookGrows, IsSuccessorOfPlace}
use Rattle.explore.specs.Inner.Ways.{PastFrom}
use Rattle.explore.specs.declared.ways.TheConstants.{ROOM}
use Rattle.explore.proofs.VisitLemmas.{HasSuccessors, Finishes, finishes, finished_now, leads_all, leads_done, leads_more, under_way_done, grows_done, grows_twice, grows_on, all_met, met_more, past_at, place_within, still_there, true_not_false, room_done}
use Rattle.explore.proofs.WaysLemmas.{lead_later}
use Rattle.explore.proofs.visit.visit.Given.{Over}
use Rattle.explore.proofs.visit.visit.Goals as goal
use Rattle.explore.proofs.visit.visit.Goals.{in-Some+in_ok-push-in-Some, in-None}

pub insert_choice-requires-clause-place : goal.insert_choice-requires-clause-place
insert_choice-requires-clause-place g c = λ κs h.
    place_within c.args.search.now.book c.loop-choice.search.book c.read.result.now.budget c.args.place c.read.result.now (c.loop-choice.invariant.grows c.read.result.now c.read.ensures) c.read.ensures

pub insert_choice-requires-clause-choice : goal.insert_choice-requires-clause-choice
insert_choice-requires-clause-choice g c = λ κs h e at.
    let same : c.read.result.now ≡ e = still_there c.args.search.now.book c.loop-choice.search.book c.read.result.now.budget c.args.place c.read.result.now e (c.loop-choice.invariant.grows c.read.result.now c.read.ensures) c.read.ensures at in
    let P : Entry g.row.P-State.Denot → Type 0 = λ x. c.loop-choice.choice < choices_of ((g.P.Space.rules c.args.space.now).width x.state) x.budget in
    subst P same (omega (arith, c.loop-choice-test.true, c.choice_count-count.ensures))

pub returns-in_err-at-clause-grows : goal.returns-in_err-at-clause-grows
returns-in_err-at-clause-grows g c = λ e at.
    grows_on c.args.search.now.book c.loop-choice.search.book c.insert_choice.new.search.book c.args.place e (c.loop-choice.invariant.grows e at) at c.insert_choice.ensures.grows

pub returns-in_err-push-in-Some-clause-grows : goal.returns-in_err-push-in-Some-clause-grows
returns-in_err-push-in-Some-clause-grows g c = λ e at.
    grows_on c.args.search.now.book c.loop-choice.search.book c.insert_choice.new.search.book c.args.place e (c.loop-choice.invariant.grows e at) at c.insert_choice.ensures.grows

-- the entry that is visited stands where it stood
there : (g : Over) (c : goal.Joined-branch-2 g) (e : Entry g.row.P-State.Denot) → slice_get c.args.search.now.book.entries c.args.place ≡ Some e → slice_get c.insert_choice.new.search.book.entries c.args.place ≡ Some e
there g c e at =
    let now = (c.loop-choice.invariant.grows e at).stays c.args.place e at in
    (c.insert_choice.ensures.grows e now).stays c.args.place e now

-- the choice leads on: its way was met, or goes past the limit
leads_on : (g : Over) (c : goal.Joined-branch-2 g) (e : Entry g.row.P-State.Denot) → slice_get c.args.search.now.book.entries c.args.place ≡ Some e → LeadsOn (g.P.Space.rules c.args.space.now) c.args.limits.now c.insert_choice.new.search.book.entries e c.loop-choice.choice
leads_on g c e at = elim c.match-branch-2.branch [
  | in-Some+in_ok-push-in-Some w ↦ (
      let M : IsSuccessorOfPlace (g.P.Space.rules c.args.space.now) c.insert_choice.new.search.book c.args.place c.loop-choice.choice w.in-Some.at = rw w.in-Some.is at c.in_ok-at.ensures.met in
      inl (w.in-Some.at, M e (there g c e at)))
  | in-None w ↦ (
      let P : PastFrom (g.P.Space.rules c.args.space.now) c.args.limits.now c.insert_choice.new.search c.args.place c.loop-choice.choice = rw w.in-None.is at c.in_ok-at.ensures.past in
      inr (P e (there g c e at)))
]

pub loop-choice-preserved : goal.loop-choice-preserved
loop-choice-preserved g c =
    let r = g.P.Space.rules c.args.space.now in
    let i = c.loop-choice.invariant in
    let growth : (e : Entry g.row.P-State.Denot) → slice_get c.args.search.now.book.entries c.args.place ≡ Some e → BookGrows c.loop-choice.search.book c.insert_choice.new.search.book e.budget = λ e at. c.insert_choice.ensures.grows e ((i.grows e at).stays c.args.place e at) in
    record {
      searching = c.insert_choice.ensures.searching;
      few = omega (arith, i.few, c.insert_choice.ensures.few);
      grows = λ e at. grows_on c.args.search.now.book c.loop-choice.search.book c.insert_choice.new.search.book c.args.place e (i.grows e at) at c.insert_choice.ensures.grows;
      met = λ t. elim c.match-branch-2.branch [
        | in-Some+in_ok-push-in-Some w ↦ (
            let M : IsSuccessorOfPlace r c.insert_choice.new.search.book c.args.place c.loop-choice.choice w.in-Some.at = rw w.in-Some.is at c.in_ok-at.ensures.met in
            let next : c.match-branch-2.next.items ≡ c.loop-choice.next.items ++ w.in-Some.at ∷ [] = ap (λ v. v.items) w.next-is ∙ w.in_ok-push-in-Some.ensures.items in
            let P : List ℕ → Type 0 = λ l. HasSuccessors r c.args.search.now.book c.insert_choice.new.search.book c.args.place (c.loop-choice.choice + 1) l in
            subst P (sym next) (met_more r c.args.search.now.book c.loop-choice.search.book c.insert_choice.new.search.book c.args.place c.loop-choice.choice w.in-Some.at c.loop-choice.next.items
            (i.met (sym w.within-is ∙ t)) growth (λ e at. M e (there g c e at))))
        | in-None w ↦ absurd (true_not_false (sym t ∙ w.within-is))
      ];
      leads = leads_more r c.args.limits.now c.args.search.now.book c.loop-choice.search.book c.insert_choice.new.search.book c.args.place c.loop-choice.choice i.leads growth (leads_on g c);
      past = λ t. elim c.match-branch-2.branch [
        | in-Some+in_ok-push-in-Some w ↦ i.past (sym w.within-is ∙ t)
        | in-None w ↦ (λ e at.
            (let P : PastFrom r c.args.limits.now c.insert_choice.new.search c.args.place c.loop-choice.choice = rw w.in-None.is at c.in_ok-at.ensures.past in
            let itself : c.read.result.now ≡ e = same_Some _ _ (sym c.read.ensures ∙ at) in
            let A : Entry g.row.P-State.Denot → Type 0 = λ x. Allows r x c.loop-choice.choice in
            record {
              choice = c.loop-choice.choice;
              allowed = subst A itself (omega (arith, c.loop-choice-test.true, c.choice_count-count.ensures));
              past = P e (there g c e at);
            }))
      ];
    }

pub returns-then-within-clause-past : goal.returns-then-within-clause-past
returns-then-within-clause-past g c = λ t. absurd (true_not_false (sym c.if-within.true ∙ t))

pub returns-else-within-clause-past : goal.returns-else-within-clause-past
returns-else-within-clause-past g c = λ t.
    past_at (g.P.Space.rules c.args.space.now) c.args.limits.now c.args.search.now.book c.loop-choice.search.book c.args.place c.read.result.now (c.loop-choice.invariant.past t c.read.result.now c.read.ensures) c.read.ensures
    (c.loop-choice.invariant.grows c.read.result.now c.read.ensures)

pub finish-requires : goal.finish-requires
finish-requires g c =
    place_within c.args.search.now.book c.loop-choice.search.book c.read.result.now.budget c.args.place c.read.result.now (c.loop-choice.invariant.grows c.read.result.now c.read.ensures) c.read.ensures

-- the list is noted, or was there
noted : (g : Over) (c : goal.Joined-finish g) → Finishes c.loop-choice.search.book c.args.place c.loop-choice.next.items c.finish.new.self
noted g c = finishes c.finish.result c.loop-choice.search.book c.args.place c.loop-choice.next.items c.finish.new.self c.finish.ensures.once c.finish.ensures.ok c.finish.ensures.twice c.finish.ensures.err

pub returns-then-within-clause-finished : goal.returns-then-within-clause-finished
returns-then-within-clause-finished g c = λ t. finished_now c.loop-choice.search.book c.args.place c.loop-choice.next.items c.finish.new.self (noted g c)

pub returns-then-within-clause-leads : goal.returns-then-within-clause-leads
returns-then-within-clause-leads g c =
    leads_done (g.P.Space.rules c.args.space.now) c.args.limits.now c.loop-choice.search.book c.args.place c.loop-choice.next.items c.finish.new.self (noted g c)
    (leads_all (g.P.Space.rules c.args.space.now) c.args.limits.now c.args.search.now.book c.loop-choice.search.book c.args.place c.loop-choice.choice c.read.result.now c.loop-choice.invariant.leads c.read.ensures
    (c.loop-choice.invariant.grows c.read.result.now c.read.ensures) (omega (arith, c.choice_count-count.ensures, c.loop-choice-test.false, c.loop-choice.auto.choice-end)))

pub returns-else-within-clause-leads : goal.returns-else-within-clause-leads
returns-else-within-clause-leads g c =
    leads_all (g.P.Space.rules c.args.space.now) c.args.limits.now c.args.search.now.book c.loop-choice.search.book c.args.place c.loop-choice.choice c.read.result.now c.loop-choice.invariant.leads c.read.ensures
    (c.loop-choice.invariant.grows c.read.result.now c.read.ensures) (omega (arith, c.choice_count-count.ensures, c.loop-choice-test.false, c.loop-choice.auto.choice-end))

pub returns-then-within-clause-searching : goal.returns-then-within-clause-searching
returns-then-within-clause-searching g c =
    let r = g.P.Space.rules c.args.space.now in
    let i = c.loop-choice.invariant in
    let all : c.loop-choice.choice ≡ choices_of (r.width c.read.result.now.state) c.read.result.now.budget = omega (arith, c.choice_count-count.ensures, c.loop-choice-test.false, c.loop-choice.auto.choice-end) in
    let done : HasSuccessorsAt r c.loop-choice.search.book.entries c.args.place c.loop-choice.next.items =
    all_met r c.args.search.now.book c.loop-choice.search.book c.args.place c.loop-choice.choice c.loop-choice.next.items c.read.result.now (i.met c.if-within.true) c.read.ensures (i.grows c.read.result.now c.read.ensures) all in
    record {
      under_way = under_way_done r c.args.limits.now c.loop-choice.search.book c.args.place c.loop-choice.next.items c.finish.new.self done i.searching.under_way (noted g c);
      lead = lead_later r c.loop-choice.search.book.entries c.finish.new.self.entries (grows_done c.loop-choice.search.book c.args.place c.loop-choice.next.items c.finish.new.self 0 (noted g c)).stays c.loop-choice.search.ways.entries i.searching.lead;
      room = room_done c.loop-choice.search.book c.args.place c.loop-choice.next.items c.finish.new.self ROOM (length c.loop-choice.search.ways.entries + 0) (noted g c) i.searching.room;
    }

pub returns-then-within-clause-grows : goal.returns-then-within-clause-grows
returns-then-within-clause-grows g c = λ e at.
    grows_twice c.args.search.now.book c.loop-choice.search.book c.finish.new.self e.budget (c.loop-choice.invariant.grows e at)
    (grows_done c.loop-choice.search.book c.args.place c.loop-choice.next.items c.finish.new.self e.budget (noted g c))
