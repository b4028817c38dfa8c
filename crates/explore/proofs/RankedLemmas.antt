-- What a search that goes by rank keeps as it meets entries, and as it closes a rank.
use Rattle.std.proofs.Common.{◌≡◌, ℕ, ◌+◌, ◌<◌, ◌≤◌, Bool, true, false, List, [], ◌∷◌, ◌++◌, length, slice_get, Some, None, arith, ap, refl, sym, ◌∙◌, subst, inl, inr, length-append}
use Rattle.std.proofs.lemmas.Bool.{cases_lt}
use Rattle.std.proofs.lemmas.Option.{same_Some, slice_get_within}
use Rattle.basis.proofs.Lists.{last_or_before, stands_in_front, stands_last}
use Rattle.sched_core.specs.Ranks.{IsRanked}
use Rattle.sched_core.specs.Rules.{Rules, IsLawful, stands, IsRun}
use Rattle.statebook.specs.Books.{Dominates}
use Rattle.statebook.specs.ExplorerCore.{choices_of}
use Rattle.statebook.specs.Stations.{forced_state}
use Rattle.statebook.specs.declared.entry.Entry.{Entry}
use Rattle.statebook.specs.declared.limits.Limits.{Limits}
use Rattle.statebook.specs.Inner.Forced.{Follows, MayBeAdded}
use Rattle.statebook.specs.Inner.Frontiers.{IsOnWay, HasSuccessorIn, LeadsInto, IsFrontier}
use Rattle.statebook.proofs.RunLemmas.{is_station_same, used-le}
use Rattle.statebook.proofs.FrontierLemmas.{IsWorkedOff, ends_now, later_frontier, none_between, rank_rises}
use Rattle.explore.specs.Found.{AllFewest, AreFound, Differ, HasEntries, IsListedMark}
use Rattle.explore.specs.BookFindings.{ListsExactly}
use Rattle.explore.specs.Ranked.{Closing, HasItsRank, OfEach, RanksRise, WasHandedOn}
use Rattle.explore.specs.Inner.Exploring.{AreEntries, BookGrows}
use Rattle.explore.specs.Inner.Ways.{AllComeTo, IsSearching}
use Rattle.explore.specs.Inner.RankedSearches.{AllAreLedOn, AreHeld, AreLedOnWith, GoesOnTo, HasClosed, HasDominator, HasHandedOn, HasOpened, HasOpenedSome, IsAFrontier, IsHeld, IsIn, IsLedOn, IsMetAt, IsOfRank, IsRankedSearch, IsUnderWay, IsWaiting, Keeps, Meets, NoneAbove, NoneBelow, NoneBetween, Opens, RankGrows, RankGrowsFrom}
use Rattle.explore.specs.declared.rank_book.RankBook.{RankBook}
use Rattle.explore.specs.declared.ranked_search.RankedSearch.{RankedSearch}
use Rattle.explore.specs.declared.search.Checkpoint.{Checkpoint}
use Rattle.explore.specs.declared.search.Search.{Search}
use Rattle.explore.proofs.ClassLemmas.{EachUpTo, one_more}
use Rattle.explore.proofs.VisitLemmas.{grows_more, grows_not, grows_twice}
use Rattle.explore.proofs.MarkLemmas.{has_no_shorter, lists_each}
use Rattle.explore.proofs.AloneLemmas.{nothing_there}
use Rattle.explore.proofs.RankBookLemmas.{in_grown, of_grown}

by_rules : {S : Type 0} (r : Rules S) (eq : S → S → Bool) → ((s t : S) → r.same s t ≡ eq s t) → (In Into : Entry S → Type 0) (entry : Entry S) → ((e : Entry S) → In e → Into e) → HasDominator eq In entry → HasDominator r.same Into entry
by_rules r eq agree In Into entry on d = record {
  found = d.found;
  inside = on d.found d.inside;
  dominates = record { state = agree d.found.state entry.state ∙ d.dominates.state; budget = d.dominates.budget };
}

-- the entry that was met is dominated by one that is held
pub meets_dominated : {S : Type 0} (r : Rules S) (eq : S → S → Bool) → ((s t : S) → r.same s t ≡ eq s t) → (rank : ℕ) (current : RankBook S) (later : List (RankBook S)) (entry : Entry S) (new : RankBook S) (new_later : List (RankBook S)) (is_new : Bool) → Meets eq rank current later entry new new_later is_new → HasDominator r.same (AreHeld new new_later) entry
meets_dominated r eq agree rank current later entry new new_later is_new (inl (here, opens, stays)) = by_rules r eq agree (IsIn new.book.entries) (AreHeld new new_later) entry (λ e there. inl there) opens.dominated
meets_dominated r eq agree rank current later entry new new_later is_new (inr (other, keeps, stays)) = by_rules r eq agree (IsWaiting new_later) (AreHeld new new_later) entry (λ e there. inr there) keeps.dominated

-- what was held is held
pub meets_held : {S : Type 0} (eq : S → S → Bool) (rank : ℕ) (current : RankBook S) (later : List (RankBook S)) (entry : Entry S) (new : RankBook S) (new_later : List (RankBook S)) (is_new : Bool) → Meets eq rank current later entry new new_later is_new → (e : Entry S) → AreHeld current later e → AreHeld new new_later e
meets_held eq rank current later entry new new_later is_new (inl (here, opens, stays)) e (inl now) = inl (in_grown current.book entry new.book opens.grown e now)
meets_held {S} eq rank current later entry new new_later is_new (inl (here, opens, stays)) e (inr waits) =
    let P : List (RankBook S) → Type 0 = λ l. IsWaiting l e in
    inr (subst P (sym stays) waits)
meets_held {S} eq rank current later entry new new_later is_new (inr (other, keeps, stays)) e (inl now) =
    let P : RankBook S → Type 0 = λ b. IsIn b.book.entries e in
    inl (subst P (sym stays) now)
meets_held eq rank current later entry new new_later is_new (inr (other, keeps, stays)) e (inr waits) = inr (keeps.stays e waits)

pub meets_rank : {S : Type 0} (eq : S → S → Bool) (rank : ℕ) (current : RankBook S) (later : List (RankBook S)) (entry : Entry S) (new : RankBook S) (new_later : List (RankBook S)) (is_new : Bool) → Meets eq rank current later entry new new_later is_new → new.rank ≡ current.rank
meets_rank eq rank current later entry new new_later is_new (inl (here, opens, stays)) = opens.rank
meets_rank {S} eq rank current later entry new new_later is_new (inr (other, keeps, stays)) = ap (λ (b : RankBook S). b.rank) stays

pub meets_grows : {S : Type 0} (eq : S → S → Bool) (rank : ℕ) (current : RankBook S) (later : List (RankBook S)) (entry : Entry S) (new : RankBook S) (new_later : List (RankBook S)) (is_new : Bool) → Meets eq rank current later entry new new_later is_new → BookGrows current.book new.book entry.budget
meets_grows eq rank current later entry new new_later is_new (inl (here, opens, stays)) = grows_more current.book entry new.book entry.budget (omega arith) opens.grown
meets_grows {S} eq rank current later entry new new_later is_new (inr (other, keeps, stays)) =
    let P : RankBook S → Type 0 = λ b. BookGrows current.book b.book entry.budget in
    subst P (sym stays) (grows_not current.book entry.budget)

frontier_more : {S : Type 0} (r : Rules S) (k : ℕ) (rank : S → ℕ) (least : ℕ) (In Into : Entry S → Type 0) → IsFrontier r k rank least In → ((e : Entry S) → In e → Into e) → IsFrontier r k rank least Into
frontier_more r k rank least In Into f on log n short run station high =
    let q = f log n short run station high in
    (q.0, q.1, record { entry = q.2.entry; inside = on q.2.entry q.2.inside; same = q.2.same; budget = q.2.budget })

opened_of_rank : {S : Type 0} (r : Rules S) (limits : Limits) (rank : S → ℕ) (eq : S → S → Bool) (current : RankBook S) (entry : Entry S) (new : RankBook S) (is_new : Bool) → IsOfRank r limits rank current → MayBeAdded r limits entry → rank entry.state ≡ current.rank → Opens eq current entry new is_new → IsOfRank r limits rank new
opened_of_rank {S} r limits rank eq current entry new is_new all is here opens e there = elim (of_grown current.book entry new.book opens.grown e there) [
  | inl itself ↦ (
      let P : Entry S → Type 0 = λ x. MayBeAdded r limits x × (rank x.state ≡ new.rank) in
      subst P (sym itself) (is, here ∙ sym opens.rank))
  | inr before ↦ (let old = all e before in (old.0, old.1 ∙ sym opens.rank))
]

kept_of_rank : {S : Type 0} (r : Rules S) (limits : Limits) (rank : S → ℕ) (eq : S → S → Bool) (later : List (RankBook S)) (entry : Entry S) (new_later : List (RankBook S)) (is_new : Bool) → ((i : ℕ) (b : RankBook S) → slice_get later i ≡ Some b → IsOfRank r limits rank b) → MayBeAdded r limits entry → Keeps eq later (rank entry.state) entry new_later is_new → (i : ℕ) (b : RankBook S) → slice_get new_later i ≡ Some b → IsOfRank r limits rank b
kept_of_rank {S} r limits rank eq later entry new_later is_new all is keeps i b at e there = elim (keeps.from i b at) [
  | inl old ↦ all old.0 b old.1 e there
  | inr (of_rank, from) ↦ elim (from e there) [
    | inl itself ↦ (
        let P : Entry S → Type 0 = λ x. MayBeAdded r limits x × (rank x.state ≡ b.rank) in
        subst P (sym itself) (is, sym of_rank))
    | inr waits ↦ (let old = all waits.0 waits.1 waits.2 e waits.4 in (old.0, old.1 ∙ waits.3 ∙ sym of_rank))
  ]
]

-- the entries that are held stay a frontier as an entry is met
pub meets_frontier : {S : Type 0} (r : Rules S) (limits : Limits) (rank : S → ℕ) (eq : S → S → Bool) (current : RankBook S) (later : List (RankBook S)) (entry : Entry S) (new : RankBook S) (new_later : List (RankBook S)) (is_new : Bool) → IsAFrontier r limits rank current later → MayBeAdded r limits entry → current.rank ≤ rank entry.state → Meets eq (rank entry.state) current later entry new new_later is_new → IsAFrontier r limits rank new new_later
meets_frontier {S} r limits rank eq current later entry new new_later is_new f is high (inl (here, opens, stays)) =
    let P : List (RankBook S) → Type 0 = λ l. IsAFrontier r limits rank new l in
    let F : ℕ → Type 0 = λ n. IsFrontier r limits.depart rank n (AreHeld new later) in
    let same : later ≡ later = refl in
    subst P (sym stays) (record {
      current = opened_of_rank r limits rank eq current entry new is_new f.current is here opens;
      later = f.later;
      above = λ i b at. omega (arith, f.above i b at, opens.rank);
      order = f.order;
      frontier = subst F (sym opens.rank) (frontier_more r limits.depart rank current.rank (AreHeld current later) (AreHeld new later) f.frontier
          (meets_held eq (rank entry.state) current later entry new later is_new (inl (here, opens, same))));
    })
meets_frontier {S} r limits rank eq current later entry new new_later is_new f is high (inr (other, keeps, stays)) =
    let P : RankBook S → Type 0 = λ b. IsAFrontier r limits rank b new_later in
    let same : current ≡ current = refl in
    subst P (sym stays) (record {
      current = f.current;
      later = kept_of_rank r limits rank eq later entry new_later is_new f.later is keeps;
      above = λ i b at. elim (keeps.from i b at) [
        | inl old ↦ f.above old.0 b old.1
        | inr new ↦ elim (cases_lt current.rank (rank entry.state)) [
          | inl lt ↦ omega (arith, lt, new.0)
          | inr ge ↦ absurd (other (omega (arith, ge, high)))
        ]
      ];
      order = keeps.order;
      frontier = frontier_more r limits.depart rank current.rank (AreHeld current later) (AreHeld current new_later) f.frontier
          (meets_held eq (rank entry.state) current later entry current new_later is_new (inr (other, keeps, same)));
    })

-- where the entry is new, none that is held at its rank dominated it
meets_none : {S : Type 0} (r : Rules S) (limits : Limits) (rank : S → ℕ) (eq : S → S → Bool) (current : RankBook S) (later : List (RankBook S)) (entry : Entry S) (new : RankBook S) (new_later : List (RankBook S)) → IsAFrontier r limits rank current later → Meets eq (rank entry.state) current later entry new new_later true → (f : Entry S) → AreHeld current later f → rank f.state ≡ rank entry.state → ¬ Dominates eq f entry.state entry.budget
meets_none r limits rank eq current later entry new new_later h (inl (here, opens, stays)) f (inl now) same = opens.none refl f now
meets_none r limits rank eq current later entry new new_later h (inl (here, opens, stays)) f (inr waits) same =
    absurd (omega (arith, here, same, h.above waits.0 waits.1 waits.2, (h.later waits.0 waits.1 waits.2 f waits.3).1))
meets_none r limits rank eq current later entry new new_later h (inr (other, keeps, stays)) f (inl now) same =
    absurd (other (omega (arith, same, (h.current f now).1)))
meets_none r limits rank eq current later entry new new_later h (inr (other, keeps, stays)) f (inr waits) same =
    keeps.none refl f (waits.0, waits.1, waits.2, omega (arith, same, (h.later waits.0 waits.1 waits.2 f waits.3).1), waits.3)

meets_there : {S : Type 0} (rank : ℕ) (eq : S → S → Bool) (current : RankBook S) (later : List (RankBook S)) (entry : Entry S) (new : RankBook S) (new_later : List (RankBook S)) → Meets eq rank current later entry new new_later true → AreHeld new new_later entry
meets_there rank eq current later entry new new_later (inl (here, opens, stays)) = inl (opens.there refl)
meets_there rank eq current later entry new new_later (inr (other, keeps, stays)) = inr (keeps.there refl)

-- an entry that was seen differs from the new one
differs : {S : Type 0} (r : Rules S) (limits : Limits) (rank : S → ℕ) → IsRanked r rank → (eq : S → S → Bool) → ((s t : S) → r.same s t ≡ eq s t) → (old new : RankedSearch S) (entry : Entry S) (seen : List (Entry S)) → IsAFrontier r limits rank old.current old.later.items → HasOpened r limits rank old seen → old.current.rank ≤ rank entry.state → Meets eq (rank entry.state) old.current old.later.items entry new.current new.later.items true → (i : ℕ) (f : Entry S) → slice_get seen i ≡ Some f → Differ r f entry
differs r limits rank ranked eq agree old new entry seen h o high m i f at same budget =
    let here : rank f.state ≡ rank entry.state = ranked.rank_same f.state entry.state same in
    meets_none r limits rank eq old.current old.later.items entry new.current new.later.items h m f (o.held i f at (omega (arith, here, high))) here
    (record { state = sym (agree f.state entry.state) ∙ same; budget = omega (arith, budget) })

opened_new : {S : Type 0} (r : Rules S) (limits : Limits) (rank : S → ℕ) → IsRanked r rank → (eq : S → S → Bool) → ((s t : S) → r.same s t ≡ eq s t) → (old new : RankedSearch S) (entry : Entry S) (seen : List (Entry S)) → IsAFrontier r limits rank old.current old.later.items → HasOpened r limits rank old seen → MayBeAdded r limits entry → old.current.rank ≤ rank entry.state → Meets eq (rank entry.state) old.current old.later.items entry new.current new.later.items true → new.opened ≤ old.opened + 1 → HasOpened r limits rank new (seen ++ entry ∷ [])
opened_new {S} r limits rank ranked eq agree old new entry seen h o is high m few = record {
  count = omega (arith, few, o.count, length-append seen (entry ∷ []));
  allowed = λ i e at. elim (last_or_before seen entry i e at) [
    | inl there ↦ o.allowed i e there
    | inr last ↦ (let P : Entry S → Type 0 = λ x. MayBeAdded r limits x in subst P last.1 is)
  ];
  differ = λ i j e f lt at at'. elim (last_or_before seen entry j f at') [
    | inl there ↦ elim (last_or_before seen entry i e at) [
      | inl both ↦ o.differ i j e f lt both there
      | inr last ↦ absurd (omega (arith, last.0, lt, slice_get_within seen j f there))
    ]
    | inr last ↦ elim (last_or_before seen entry i e at) [
      | inl before ↦ (
          let P : Entry S → Type 0 = λ x. Differ r e x in
          subst P last.1 (differs r limits rank ranked eq agree old new entry seen h o high m i e before))
      | inr both ↦ absurd (omega (arith, last.0, both.0, lt))
    ]
  ];
  held = λ i e at high'. elim (last_or_before seen entry i e at) [
    | inl there ↦ meets_held eq (rank entry.state) old.current old.later.items entry new.current new.later.items true m e
        (o.held i e there (omega (arith, high', meets_rank eq (rank entry.state) old.current old.later.items entry new.current new.later.items true m)))
    | inr last ↦ (
        let P : Entry S → Type 0 = λ x. IsHeld new x in
        subst P last.1 (meets_there (rank entry.state) eq old.current old.later.items entry new.current new.later.items m))
  ];
}

opened_known : {S : Type 0} (r : Rules S) (limits : Limits) (rank : S → ℕ) (eq : S → S → Bool) (old new : RankedSearch S) (entry : Entry S) (seen : List (Entry S)) → HasOpened r limits rank old seen → Meets eq (rank entry.state) old.current old.later.items entry new.current new.later.items false → new.opened ≤ old.opened → HasOpened r limits rank new seen
opened_known r limits rank eq old new entry seen o m few = record {
  count = omega (arith, few, o.count);
  allowed = o.allowed;
  differ = o.differ;
  held = λ i e at high. meets_held eq (rank entry.state) old.current old.later.items entry new.current new.later.items false m e
      (o.held i e at (omega (arith, high, meets_rank eq (rank entry.state) old.current old.later.items entry new.current new.later.items false m)));
}

-- the count of those that were opened: one more where the entry is new
abbrev pub Counts : Bool → ℕ → ℕ → Type 0
Counts true old new = new ≤ old + 1
Counts false old new = new ≤ old

meets_opened : {S : Type 0} (r : Rules S) (limits : Limits) (rank : S → ℕ) → IsRanked r rank → (eq : S → S → Bool) → ((s t : S) → r.same s t ≡ eq s t) → (old new : RankedSearch S) (entry : Entry S) (is_new : Bool) → IsAFrontier r limits rank old.current old.later.items → HasOpenedSome r limits rank old → MayBeAdded r limits entry → old.current.rank ≤ rank entry.state → Meets eq (rank entry.state) old.current old.later.items entry new.current new.later.items is_new → Counts is_new old.opened new.opened → HasOpenedSome r limits rank new
meets_opened r limits rank ranked eq agree old new entry true h (seen, o) is high m few = (seen ++ entry ∷ [], opened_new r limits rank ranked eq agree old new entry seen h o is high m few)
meets_opened r limits rank ranked eq agree old new entry false h (seen, o) is high m few = (seen, opened_known r limits rank eq old new entry seen o m few)

-- the search that has met an entry
pub meets_searching : {S : Type 0} (r : Rules S) (limits : Limits) (rank : S → ℕ) → IsRanked r rank → (eq : S → S → Bool) → ((s t : S) → r.same s t ≡ eq s t) → (old new : RankedSearch S) (entry : Entry S) (is_new : Bool) → IsRankedSearch r limits rank old → MayBeAdded r limits entry → old.current.rank ≤ rank entry.state → Meets eq (rank entry.state) old.current old.later.items entry new.current new.later.items is_new → new.known ≡ old.known → Counts is_new old.opened new.opened → IsRankedSearch r limits rank new
meets_searching {S} r limits rank ranked eq agree old new entry is_new h is high m known few =
    let K : Search S → Type 0 = λ s. IsSearching r limits s in
    record {
      known = subst K (sym known) h.known;
      held = meets_frontier r limits rank eq old.current old.later.items entry new.current new.later.items is_new h.held is high m;
      opened = meets_opened r limits rank ranked eq agree old new entry is_new h.held h.opened is high m few;
    }

pub meets_rank_grows : {S : Type 0} (eq : S → S → Bool) (rank : ℕ) (old new : RankedSearch S) (entry : Entry S) (is_new : Bool) → Meets eq rank old.current old.later.items entry new.current new.later.items is_new → RankGrows old new entry.budget
meets_rank_grows eq rank old new entry is_new m = record {
  current = meets_grows eq rank old.current old.later.items entry new.current new.later.items is_new m;
  held = meets_held eq rank old.current old.later.items entry new.current new.later.items is_new m;
  rank = meets_rank eq rank old.current old.later.items entry new.current new.later.items is_new m;
}

-- as many were opened as the limit says
pub has_opened : {S : Type 0} (r : Rules S) (limits : Limits) (rank : S → ℕ) (s : RankedSearch S) → IsRankedSearch r limits rank s → limits.entries ≤ s.opened → HasEntries r limits
has_opened r limits rank s h many =
    let o = h.opened.1 in
    record { entries = h.opened.0; count = omega (arith, many, o.count); allowed = o.allowed; differ = o.differ }

-- the entry that follows by a choice is dominated by one of the set
pub is_successor : {S : Type 0} (r : Rules S) → IsLawful r → (In : Entry S → Type 0) (e next : Entry S) (c : ℕ) → Follows r e c next → HasDominator r.same In next → HasSuccessorIn r In e c
is_successor r law In e next c f d = record {
  found = d.found;
  inside = d.inside;
  steps = f.steps;
  next = f.station;
  dominates = record {
    state = law.transitive d.found.state next.state (forced_state r (r.after e.state c) f.steps) d.dominates.state f.same;
    budget = omega (arith, d.dominates.budget, f.budget);
  };
}

pub rank_grows_not : {S : Type 0} (s : RankedSearch S) (budget : ℕ) → RankGrows s s budget
rank_grows_not s budget = record { current = grows_not s.current.book budget; held = λ e h. h; rank = refl }

pub rank_grows_twice : {S : Type 0} (old mid new : RankedSearch S) (budget : ℕ) → RankGrows old mid budget → RankGrows mid new budget → RankGrows old new budget
rank_grows_twice old mid new budget g h = record {
  current = grows_twice old.current.book mid.current.book new.current.book budget g.current h.current;
  held = λ e held. h.held e (g.held e held);
  rank = h.rank ∙ g.rank;
}

pub rank_grows_wider : {S : Type 0} (old new : RankedSearch S) (budget wider : ℕ) → budget ≤ wider → RankGrows old new budget → RankGrows old new wider
rank_grows_wider old new budget wider le g = record {
  current = record {
    stays = g.current.stays;
    done = g.current.done;
    lower = λ i e at. elim (g.current.lower i e at) [
      | inl there ↦ inl there
      | inr low ↦ inr (omega (arith, low, le))
    ];
  };
  held = g.held;
  rank = g.rank;
}

pub successor_later : {S : Type 0} (r : Rules S) (In Into : Entry S → Type 0) (e : Entry S) (c : ℕ) → ((f : Entry S) → In f → Into f) → HasSuccessorIn r In e c → HasSuccessorIn r Into e c
successor_later r In Into e c on s = record { found = s.found; inside = on s.found s.inside; steps = s.steps; next = s.next; dominates = s.dominates }

-- a rank of which each entry leads on is worked off
pub worked_off : {S : Type 0} (r : Rules S) (limits : Limits) (rank : S → ℕ) (s : RankedSearch S) → IsRankedSearch r limits rank s → AllAreLedOn r s → IsWorkedOff r limits.depart rank s.current.rank (IsIn s.current.book.entries) (IsWaiting s.later.items)
worked_off {S} r limits rank s h all = record {
  frontier = h.held.frontier;
  leads = λ e there.
      (let led = all there.0 e there.1 in
      let P : Entry S → Type 0 = λ x. LeadsInto r (IsHeld s) x in
      subst P (same_Some led.entry e (sym led.at ∙ there.1)) led.leads);
  now = λ e there. (h.held.current e there).1;
  later = λ e waits. omega (arith, h.held.above waits.0 waits.1 waits.2, (h.held.later waits.0 waits.1 waits.2 e waits.3).1);
}

-- what waits is of the next rank, or still waits
next_or_waits : {S : Type 0} (later : List (RankBook S)) (next : RankBook S) (e : Entry S) → IsWaiting (later ++ next ∷ []) e → AreHeld next later e
next_or_waits {S} later next e waits = elim (last_or_before later next waits.0 waits.1 waits.2) [
  | inl before ↦ inr (waits.0, waits.1, before, waits.3)
  | inr last ↦ (
      let P : RankBook S → Type 0 = λ b. IsIn b.book.entries e in
      inl (subst P (sym last.1) waits.3))
]

-- the next rank's entries, and those that wait behind them
next_frontier : {S : Type 0} (r : Rules S) → IsLawful r → (limits : Limits) (rank : S → ℕ) → IsRanked r rank → (current next : RankBook S) (later : List (RankBook S)) → IsAFrontier r limits rank current (later ++ next ∷ []) → IsWorkedOff r limits.depart rank current.rank (IsIn current.book.entries) (IsWaiting (later ++ next ∷ [])) → IsAFrontier r limits rank next later
next_frontier r law limits rank ranked current next later f w =
    let last = stands_last later next in
    record {
      current = f.later (length later) next last;
      later = λ i b at. f.later i b (stands_in_front later (next ∷ []) i b at);
      above = λ i b at. f.order i (length later) b next (slice_get_within later i b at) (stands_in_front later (next ∷ []) i b at) last;
      order = λ i j b c lt at at'. f.order i j b c lt (stands_in_front later (next ∷ []) i b at) (stands_in_front later (next ∷ []) j c at');
      frontier = frontier_more r limits.depart rank next.rank (IsWaiting (later ++ next ∷ [])) (AreHeld next later)
          (later_frontier r law limits.depart rank ranked current.rank next.rank (IsIn current.book.entries) (IsWaiting (later ++ next ∷ [])) w (f.above (length later) next last))
          (next_or_waits later next);
    }

next_least : {S : Type 0} (r : Rules S) (limits : Limits) (rank : S → ℕ) (next : RankBook S) (later : List (RankBook S)) → IsAFrontier r limits rank next later → (e : Entry S) → AreHeld next later e → next.rank ≤ rank e.state
next_least r limits rank next later f e (inl now) = omega (arith, (f.current e now).1)
next_least r limits rank next later f e (inr waits) = omega (arith, f.above waits.0 waits.1 waits.2, (f.later waits.0 waits.1 waits.2 e waits.3).1)

next_opened : {S : Type 0} (r : Rules S) (limits : Limits) (rank : S → ℕ) (old new : RankedSearch S) (next : RankBook S) (seen : List (Entry S)) → IsAFrontier r limits rank old.current old.later.items → HasOpened r limits rank old seen → old.later.items ≡ new.later.items ++ next ∷ [] → new.current ≡ next → old.current.rank < next.rank → new.opened ≤ old.opened → HasOpened r limits rank new seen
next_opened {S} r limits rank old new next seen f o items is higher few = record {
  count = omega (arith, few, o.count);
  allowed = o.allowed;
  differ = o.differ;
  held = λ i e at high.
      (let rank_is : new.current.rank ≡ next.rank = ap (λ (b : RankBook S). b.rank) is in
      elim (o.held i e at (omega (arith, high, higher, rank_is))) [
        | inl now ↦ absurd (omega (arith, (f.current e now).1, high, higher, rank_is))
        | inr waits ↦ (
            let P : List (RankBook S) → Type 0 = λ l. IsWaiting l e in
            let Q : RankBook S → Type 0 = λ b. AreHeld b new.later.items e in
            subst Q (sym is) (next_or_waits new.later.items next e (subst P items waits)))
      ]);
}

-- the search goes on to the last of the books, whose rank is the least
pub goes_on : {S : Type 0} (r : Rules S) → IsLawful r → (limits : Limits) (rank : S → ℕ) → IsRanked r rank → (old new : RankedSearch S) (next : RankBook S) → IsRankedSearch r limits rank old → AllAreLedOn r old → old.later.items ≡ new.later.items ++ next ∷ [] → new.current ≡ next → new.known ≡ old.known → new.opened ≤ old.opened → GoesOnTo r limits rank old.current.rank new
goes_on {S} r law limits rank ranked old new next h all items is known few =
    let later : List (RankBook S) = new.later.items in
    let F : List (RankBook S) → Type 0 = λ l. IsAFrontier r limits rank old.current l in
    let W : List (RankBook S) → Type 0 = λ l. IsWorkedOff r limits.depart rank old.current.rank (IsIn old.current.book.entries) (IsWaiting l) in
    let f : IsAFrontier r limits rank old.current (later ++ next ∷ []) = subst F items h.held in
    let w : IsWorkedOff r limits.depart rank old.current.rank (IsIn old.current.book.entries) (IsWaiting (later ++ next ∷ [])) = subst W items (worked_off r limits rank old h all) in
    let held : IsAFrontier r limits rank next later = next_frontier r law limits rank ranked old.current next later f w in
    let higher : old.current.rank < next.rank = f.above (length later) next (stands_last later next) in
    let N : RankBook S → Type 0 = λ b. IsAFrontier r limits rank b later × (old.current.rank < b.rank) × NoneBetween r limits.depart rank old.current.rank b.rank in
    let K : Search S → Type 0 = λ s. IsSearching r limits s in
    let all_of = subst N (sym is) (
      held,
      higher,
      none_between r law limits.depart rank ranked old.current.rank next.rank (IsIn old.current.book.entries) (IsWaiting (later ++ next ∷ [])) w
          (λ e waits. next_least r limits rank next later held e (next_or_waits later next e waits)),
    ) in
    record {
      searching = record { known = subst K (sym known) h.known; held = all_of.0; opened = (h.opened.0, next_opened r limits rank old new next h.opened.0 h.held h.opened.1 items is higher few) };
      higher = all_of.1;
      none = all_of.2;
    }

nothing_waits : {S : Type 0} (e : Entry S) → IsWaiting [] e → ⊥
nothing_waits e (i, b, at, there) = cc

-- where nothing waits no run comes to a mark of a higher rank
pub none_above : {S : Type 0} (r : Rules S) → IsLawful r → (limits : Limits) (rank : S → ℕ) → IsRanked r rank → (s : RankedSearch S) → IsRankedSearch r limits rank s → AllAreLedOn r s → s.later.items ≡ [] → NoneAbove r limits.depart rank s.current.rank
none_above {S} r law limits rank ranked s h all none log n short run mark = elim (cases_lt s.current.rank (rank (stands r log n))) [
  | inl higher ↦ (
      let w = worked_off r limits rank s h all in
      let least = none_between r law limits.depart rank ranked s.current.rank (rank (stands r log n) + 1) (IsIn s.current.book.entries) (IsWaiting s.later.items) w
      (λ e waits. (let P : List (RankBook S) → Type 0 = λ l. IsWaiting l e in absurd (nothing_waits e (subst P none waits)))) log n short run mark higher in
      absurd (omega (arith, least)))
  | inr ge ↦ ge
]

-- the marks of the rank, read from its book, have its rank
marks_rank : {S : Type 0} (r : Rules S) (limits : Limits) (rank : S → ℕ) → IsRanked r rank → (b : RankBook S) (marks : List (S × List (ℕ × ℕ))) → IsOfRank r limits rank b → ListsExactly r b.book marks → HasItsRank rank (record { rank = b.rank; marks = marks })
marks_rank r limits rank ranked b marks all lists i p at =
    let best = lists.best i p at in
    ranked.rank_same p.0 best.entry.state best.same ∙ (all best.entry (best.place, best.at)).1

pub rank_entries : {S : Type 0} (r : Rules S) (limits : Limits) (rank : S → ℕ) (b : RankBook S) → IsOfRank r limits rank b → AreEntries r limits b.book
rank_entries r limits rank b all i e at = (all e (i, at)).0

-- an entry at which a run within the limit of departures ends has no more departures than the run
ends_short : {S : Type 0} (r : Rules S) (limits : Limits) (rank : S → ℕ) (b : RankBook S) (log : List (ℕ × ℕ)) (n : ℕ) → IsOfRank r limits rank b → (on : IsOnWay r limits.depart (IsIn b.book.entries) log n) → length on.entry.log ≤ length log
ends_short r limits rank b log n all on = omega (arith, on.budget, (all on.entry on.inside).0.budget, used-le log n)

-- no run at all reaches a mark of the rank with fewer departures than the log that is listed
rank_fewest : {S : Type 0} (r : Rules S) → IsLawful r → (limits : Limits) (rank : S → ℕ) → IsRanked r rank → (s : RankedSearch S) (marks : List (S × List (ℕ × ℕ))) → IsRankedSearch r limits rank s → AllAreLedOn r s → AreFound r limits marks → ListsExactly r s.current.book marks → AllFewest r marks
rank_fewest r law limits rank ranked s marks h all found lists i p at log n run same = elim (cases_lt limits.depart (length log)) [
  | inl more ↦ (let f = found i p at in omega (arith, f.short, more))
  | inr short ↦ (
      let mark : r.mark (stands r log n) ≡ true = sym (law.mark_same p.0 (stands r log n) same) ∙ (found i p at).mark in
      let here : rank (stands r log n) ≡ s.current.rank = sym (ranked.rank_same p.0 (stands r log n) same) ∙ marks_rank r limits rank ranked s.current marks h.held.current lists i p at in
      let on = ends_now r law limits.depart rank ranked s.current.rank (IsIn s.current.book.entries) (IsWaiting s.later.items) (worked_off r limits rank s h all) log n short run mark here in
      let near : r.same p.0 on.entry.state ≡ true = law.transitive p.0 (stands r log n) on.entry.state same (law.symmetric on.entry.state (stands r log n) on.same) in
      omega (
        arith,
        has_no_shorter r limits s.current.book marks (rank_entries r limits rank s.current h.held.current) lists i p at on.inside.0 on.entry on.inside.1 near,
        ends_short r limits rank s.current log n h.held.current on,
      ))
]

-- every mark of the rank that a run within the limit of departures reaches is listed
rank_listed : {S : Type 0} (r : Rules S) → IsLawful r → (limits : Limits) (rank : S → ℕ) → IsRanked r rank → (s : RankedSearch S) (marks : List (S × List (ℕ × ℕ))) → IsRankedSearch r limits rank s → AllAreLedOn r s → ListsExactly r s.current.book marks → (log : List (ℕ × ℕ)) (n : ℕ) → length log ≤ limits.depart → IsRun r log n → r.mark (stands r log n) ≡ true → rank (stands r log n) ≡ s.current.rank → IsListedMark r marks (stands r log n) (length log)
rank_listed r law limits rank ranked s marks h all lists log n short run mark here =
    let on = ends_now r law limits.depart rank ranked s.current.rank (IsIn s.current.book.entries) (IsWaiting s.later.items) (worked_off r limits rank s h all) log n short run mark here in
    let at_mark : r.mark on.entry.state ≡ true = law.mark_same on.entry.state (stands r log n) on.same ∙ mark in
    let m = lists_each r law limits s.current.book marks (rank_entries r limits rank s.current h.held.current) lists on.inside.0 on.entry on.inside.1 at_mark in
    record {
      place = m.place;
      found = m.found;
      at = m.at;
      same = law.transitive m.found.0 on.entry.state (stands r log n) m.same on.same;
      departures = omega (arith, m.departures, ends_short r limits rank s.current log n h.held.current on);
    }

-- what is so of each closing of before and of the one that was put behind them is so of all
of_pushed : {S : Type 0} (P : Closing S → Type 0) (old : List (Closing S)) (closing : Closing S) → OfEach old P → P closing → OfEach (old ++ closing ∷ []) P
of_pushed P old closing before last i c at = elim (last_or_before old closing i c at) [
  | inl there ↦ before i c there
  | inr here ↦ subst P here.1 last
]

rise_on : {S : Type 0} (old : List (Closing S)) (closing : Closing S) → RanksRise old → OfEach old (λ c. c.rank < closing.rank) → RanksRise (old ++ closing ∷ [])
rise_on {S} old closing rise earlier i j c d lt at at' = elim (last_or_before old closing j d at') [
  | inl there ↦ elim (last_or_before old closing i c at) [
    | inl here ↦ rise i j c d lt here there
    | inr last ↦ absurd (let n = last.0 in let m = slice_get_within old j d there in omega arith)
  ]
  | inr last ↦ elim (last_or_before old closing i c at) [
    | inl here ↦ (let P : Closing S → Type 0 = λ x. c.rank < x.rank in subst P last.1 (earlier i c here))
    | inr also ↦ absurd (let n = last.0 in let m = also.0 in omega arith)
  ]
]

-- what was handed on stays so
still_handed : {S : Type 0} (r : Rules S) (old more : List (Closing S)) (s : S) (d : ℕ) → WasHandedOn r old s d → WasHandedOn r (old ++ more) s d
still_handed r old more s d (i, c, at, listed) = (i, c, stands_in_front old more i c at, listed)

-- once the marks of the rank were handed on, all of this rank and below were
pub closes_rank : {S : Type 0} (r : Rules S) → IsLawful r → (limits : Limits) (rank : S → ℕ) → IsRanked r rank → (s : RankedSearch S) (marks : List (S × List (ℕ × ℕ))) (old : List (Closing S)) → IsRankedSearch r limits rank s → AllAreLedOn r s → AreFound r limits marks → ListsExactly r s.current.book marks → HasHandedOn r limits rank s.current.rank old → HasClosed r limits rank s.current.rank (old ++ record { rank = s.current.rank; marks = marks } ∷ [])
closes_rank {S} r law limits rank ranked s marks old h all found lists so_far =
    let closing : Closing S = record { rank = s.current.rank; marks = marks } in
    record {
      lawful = record {
        found = of_pushed (λ c. AreFound r limits c.marks) old closing so_far.lawful.found found;
        ranks = of_pushed (HasItsRank rank) old closing so_far.lawful.ranks (marks_rank r limits rank ranked s.current marks h.held.current lists);
        rise = rise_on old closing so_far.lawful.rise so_far.earlier;
        fewest = of_pushed (λ c. AllFewest r c.marks) old closing so_far.lawful.fewest (rank_fewest r law limits rank ranked s marks h all found lists);
      };
      up_to = of_pushed (λ c. c.rank ≤ s.current.rank) old closing (λ i c at. omega (arith, so_far.earlier i c at)) (omega arith);
      all = λ log n short run mark le. elim (cases_lt (rank (stands r log n)) s.current.rank) [
        | inl lower ↦ still_handed r old (closing ∷ []) (stands r log n) (length log) (so_far.below log n short run mark lower)
        | inr ge ↦ (length old, closing, stands_last old closing, rank_listed r law limits rank ranked s marks h all lists log n short run mark (omega (arith, le, ge)))
      ];
    }

-- no state has a lower rank than the opening one
pub none_below : {S : Type 0} (r : Rules S) (rank : S → ℕ) → IsRanked r rank → (s : S) (least : ℕ) → r.same s r.first ≡ true → least ≡ rank s → NoneBelow r rank least
none_below r rank ranked s least same is log n run = omega (arith, is, ranked.rank_same s r.first same, rank_rises r rank ranked log 0 n run (omega arith))

-- as the first rank is under way nothing was handed on
pub nothing_handed : {S : Type 0} (r : Rules S) (limits : Limits) (rank : S → ℕ) (least : ℕ) → NoneBelow r rank least → IsUnderWay r limits rank least None []
nothing_handed r limits rank least lowest = record {
  handed = record {
    lawful = record {
      found = λ i c at. absurd (nothing_there i c at);
      ranks = λ i c at. absurd (nothing_there i c at);
      rise = λ i j c d lt at at'. absurd (nothing_there i c at);
      fewest = λ i c at. absurd (nothing_there i c at);
    };
    earlier = λ i c at. absurd (nothing_there i c at);
    below = λ log n short run mark lower. absurd (omega (arith, lowest log n run, lower));
  };
  last = λ i c at. absurd (nothing_there i c at);
  covered = tt;
}

-- at the next rank, all of the ranks below were handed on
pub handed_below : {S : Type 0} (r : Rules S) (limits : Limits) (rank : S → ℕ) (closings : List (Closing S)) (least above : ℕ) → HasClosed r limits rank least closings → least < above → NoneBetween r limits.depart rank least above → IsUnderWay r limits rank above (Some least) closings
handed_below r limits rank closings least above closed higher none = record {
  handed = record {
    lawful = closed.lawful;
    earlier = λ i c at. omega (arith, closed.up_to i c at, higher);
    below = λ log n short run mark lower. elim (cases_lt least (rank (stands r log n))) [
      | inl between ↦ absurd (omega (arith, none log n short run mark between, lower))
      | inr ge ↦ closed.all log n short run mark ge
    ];
  };
  last = λ i c at. (least, refl, closed.up_to i c at);
  covered = closed.all;
}

-- the first choices of the entry at the place lead on
abbrev pub MetUpTo : {S : Type 0} → Rules S → RankedSearch S → RankedSearch S → ℕ → ℕ → Type 0
MetUpTo {S} r old now place choice = (e : Entry S) → slice_get old.current.book.entries place ≡ Some e → (c : ℕ) → c < choice → HasSuccessorIn r (IsHeld now) e c

-- so does one choice more
pub met_next : {S : Type 0} (r : Rules S) (old now new : RankedSearch S) (place choice : ℕ) → RankGrowsFrom old now place → MetUpTo r old now place choice → RankGrowsFrom now new place → IsMetAt r new place choice → MetUpTo r old new place (choice + 1)
met_next {S} r old now new place choice before met grows one e at c lt =
    let at_now = (before e at).current.stays place e at in
    let growth = grows e at_now in
    elim (cases_lt c choice) [
      | inl less ↦ successor_later r (IsHeld now) (IsHeld new) e c growth.held (met e at c less)
      | inr ge ↦ (
          let P : ℕ → Type 0 = λ n. HasSuccessorIn r (IsHeld new) e n in
          let here : choice ≡ c = omega (arith, lt, ge) in
          subst P here (one e (growth.current.stays place e at_now)))
    ]

pub rank_grows_on : {S : Type 0} (old now new : RankedSearch S) (place : ℕ) → RankGrowsFrom old now place → RankGrowsFrom now new place → RankGrowsFrom old new place
rank_grows_on old now new place before grows e at = rank_grows_twice old now new e.budget (before e at) (grows e ((before e at).current.stays place e at))

-- once all its choices do, the entry leads on
pub led_on : {S : Type 0} (r : Rules S) (old now : RankedSearch S) (place choice : ℕ) (e : Entry S) → slice_get old.current.book.entries place ≡ Some e → RankGrowsFrom old now place → MetUpTo r old now place choice → choice ≡ choices_of (r.width e.state) e.budget → IsLedOn r now place
led_on r old now place choice e at grows met all = record {
  entry = e;
  at = (grows e at).current.stays place e at;
  leads = λ c lt. met e at c (omega (arith, lt, all));
}

-- what leads on does so as the search grows
pub led_later : {S : Type 0} (r : Rules S) (old new : RankedSearch S) (budget : ℕ) → RankGrows old new budget → (i : ℕ) → IsLedOn r old i → IsLedOn r new i
led_later r old new budget g i led = record {
  entry = led.entry;
  at = g.current.stays i led.entry led.at;
  leads = λ c lt. successor_later r (IsHeld old) (IsHeld new) led.entry c g.held (led.leads c lt);
}

-- the entry at the place was visited, and so the search has grown by its budget
pub led_more : {S : Type 0} (r : Rules S) (old new : RankedSearch S) (budget place : ℕ) (e : Entry S) → slice_get old.current.book.entries place ≡ Some e → e.budget ≡ budget → RankGrowsFrom old new place → EachUpTo (IsLedOn r old) old.current.book budget place → IsLedOn r new place → EachUpTo (IsLedOn r new) new.current.book budget (place + 1)
led_more r old new budget place e at same grows led here =
    let g : RankGrows old new budget = rank_grows_wider old new e.budget budget (omega (arith, same)) (grows e at) in
    one_more (IsLedOn r old) (IsLedOn r new) old.current.book new.current.book budget place g.current (led_later r old new budget g) (slice_get_within old.current.book.entries place e at) led here

pub led_to_end : {S : Type 0} (r : Rules S) (s : RankedSearch S) (budget place : ℕ) → EachUpTo (IsLedOn r s) s.current.book budget place → length s.current.book.entries ≤ place → AreLedOnWith r s budget
led_to_end r s budget place led le i e at same = led i e (omega (arith, slice_get_within s.current.book.entries i e at, le)) at same

-- a copy of an entry may be added
pub copy_allowed : {S : Type 0} (r : Rules S) → IsLawful r → (limits : Limits) (e copy : Entry S) → MayBeAdded r limits e → r.same copy.state e.state ≡ true → copy.budget ≡ e.budget → copy.log ≡ e.log → copy.steps ≡ e.steps → MayBeAdded r limits copy
copy_allowed {S} r law limits e copy is same budget log steps =
    let P : List (ℕ × ℕ) → ℕ → Type 0 = λ l n. MayBeAdded r limits (record { state = copy.state; budget = copy.budget; log = l; steps = n }) in
    let Q : ℕ → Type 0 = λ n. P copy.log n in
    let R : List (ℕ × ℕ) → Type 0 = λ l. P l e.steps in
    subst Q (sym steps) (subst R (sym log) (record {
      run = is.run;
      at = law.transitive copy.state e.state (stands r e.log e.steps) same is.at;
      station = is_station_same r law copy.state e.state same ∙ is.station;
      within = is.within;
      log = is.log;
      names = is.names;
      budget = omega (arith, budget, is.budget);
    }))

-- and ways that come to the entry come to it
pub copy_reached : {S : Type 0} (r : Rules S) → IsLawful r → (checkpoints : List (Checkpoint S)) (e copy : Entry S) → AllComeTo r checkpoints e → r.same copy.state e.state ≡ true → copy.steps ≡ e.steps → AllComeTo r checkpoints copy
copy_reached r law checkpoints e copy come same steps i l at =
    let way = come i l at in
    record { forced_steps = way.forced_steps; count = steps ∙ way.count; next = way.next; same = law.transitive copy.state e.state (forced_state r l.state way.forced_steps) same way.same }

-- the search that knows other ways
pub knows_instead : {S : Type 0} (r : Rules S) (limits : Limits) (rank : S → ℕ) (s : RankedSearch S) (known : Search S) → IsRankedSearch r limits rank s → IsSearching r limits known → IsRankedSearch r limits rank (record s { known = known })
knows_instead r limits rank s known h is = record {
  known = is;
  held = h.held;
  opened = (h.opened.0, (let o = h.opened.1 in record { count = o.count; allowed = o.allowed; differ = o.differ; held = o.held }));
}
