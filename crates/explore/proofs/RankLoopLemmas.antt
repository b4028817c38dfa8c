-- From the first rank to the last.
use Rattle.std.proofs.Common.{◌≡◌, ℕ, ◌-◌, ◌^◌, ◌<◌, ◌≤◌, zero, suc, Bool, List, [], ◌∷◌, ◌++◌, slice_get, Some, IfSome, Result, Ok, Err, OnErr, Option, arith, sym, ◌∙◌, subst, inl}
use Rattle.std.proofs.lemmas.Option.{same_Some}
use Rattle.sched_core.specs.Rules.{Rules}
use Rattle.statebook.specs.Books.{no_entries}
use Rattle.statebook.specs.declared.entry.Entry.{Entry}
use Rattle.statebook.specs.declared.limits.Limits.{Limits}
use Rattle.statebook.specs.Inner.Forced.{IsFirst, MayBeAdded}
use Rattle.statebook.proofs.FrontierLemmas.{root_frontier}
use Rattle.explore.specs.Found.{Differ}
use Rattle.explore.specs.Ranked.{Closing, CollectsMore, HandsOn, HandsOnAllTo, StaysAs}
use Rattle.explore.specs.Inner.Ways.{IsSearching}
use Rattle.explore.specs.Inner.RankedSearches.{AreHeld, GoesFrom, HasClosed, HasCollected, IsIn, IsRankedSearch, IsUnderWay, NoneAbove, Opens}
use Rattle.explore.specs.declared.rank_book.RankBook.{RankBook}
use Rattle.explore.specs.declared.ranked_findings.RankedFindings.{RankedFindings}
use Rattle.explore.specs.declared.ranked_findings.RankedReason.{RankedReason}
use Rattle.explore.specs.declared.ranked_findings.RankedStatus.TheVariants.{Cut}
use Rattle.explore.specs.declared.ranked_search.RankedSearch.{RankedSearch}
use Rattle.explore.proofs.AloneLemmas.{nothing_there, root_entry}
use Rattle.explore.proofs.RankBookLemmas.{opened_alone}

-- what a search begins with
pub record Begins {S : Type 0} (r : Rules S) (limits : Limits) (rank : S → ℕ) (eq : S → S → Bool) (root : Entry S) (s : RankedSearch S) : Type 0 where
  pub same : IsFirst r root.state
  pub budget : root.budget ≡ limits.depart
  pub log : root.log ≡ []
  pub steps : root.steps ≡ 0
  pub empty : RankBook S
  pub nothing : empty.book ≡ no_entries
  pub of_rank : empty.rank ≡ rank root.state
  pub is_new : Bool
  pub opens : Opens eq empty root s.current is_new
  pub known : IsSearching r limits s.known
  pub none : s.later.items ≡ []
  pub one : s.opened ≤ 1

begins_alone : {S : Type 0} (r : Rules S) (limits : Limits) (rank : S → ℕ) (eq : S → S → Bool) (root : Entry S) (s : RankedSearch S) → (b : Begins r limits rank eq root s) → (e : Entry S) → IsIn s.current.book.entries e → e ≡ root
begins_alone r limits rank eq root s b e there = opened_alone eq b.empty root s.current b.is_new b.nothing b.opens e there

begins_there : {S : Type 0} (r : Rules S) (limits : Limits) (rank : S → ℕ) (eq : S → S → Bool) (root : Entry S) (s : RankedSearch S) → Begins r limits rank eq root s → IsIn s.current.book.entries root
begins_there {S} r limits rank eq root s b =
    let P : Entry S → Type 0 = λ e. IsIn s.current.book.entries e in
    subst P (begins_alone r limits rank eq root s b b.opens.dominated.found b.opens.dominated.inside) b.opens.dominated.inside

one_seen : {S : Type 0} (r : Rules S) (root : Entry S) (i j : ℕ) (e f : Entry S) → i < j → slice_get (root ∷ []) j ≡ Some f → Differ r e f
one_seen r root i zero e f lt at = absurd (omega (arith, lt))
one_seen r root i (suc j) e f lt at = absurd (nothing_there j f at)

seen_is : {S : Type 0} (root : Entry S) (i : ℕ) (e : Entry S) → slice_get (root ∷ []) i ≡ Some e → root ≡ e
seen_is root zero e at = same_Some root e at
seen_is root (suc i) e at = absurd (nothing_there i e at)

pub begins : {S : Type 0} (r : Rules S) (limits : Limits) (rank : S → ℕ) (eq : S → S → Bool) (root : Entry S) (s : RankedSearch S) → Begins r limits rank eq root s → IsRankedSearch r limits rank s
begins {S} r limits rank eq root s b =
    let is : MayBeAdded r limits root = root_entry r limits root b.same b.budget b.log b.steps in
    let there : AreHeld s.current s.later.items root = inl (begins_there r limits rank eq root s b) in
    let here : s.current.rank ≡ rank root.state = b.opens.rank ∙ b.of_rank in
    let nowhere : (i : ℕ) (x : RankBook S) → slice_get s.later.items i ≡ Some x → ⊥ = λ i x at.
    (let P : List (RankBook S) → Type 0 = λ l. slice_get l i ≡ Some x in nothing_there i x (subst P b.none at)) in
    record {
      known = b.known;
      held = record {
        current = λ e inside.
            (let P : Entry S → Type 0 = λ x. MayBeAdded r limits x × (rank x.state ≡ s.current.rank) in
            subst P (sym (begins_alone r limits rank eq root s b e inside)) (is, sym here));
        later = λ i x at. absurd (nowhere i x at);
        above = λ i x at. absurd (nowhere i x at);
        order = λ i j x y lt at at'. absurd (nowhere i x at);
        frontier = root_frontier r limits.depart rank s.current.rank (AreHeld s.current s.later.items) root there b.same b.budget;
      };
      opened = (
        root ∷ [],
        record {
          count = b.one;
          allowed = λ i e at. (let P : Entry S → Type 0 = λ x. MayBeAdded r limits x in subst P (seen_is root i e at) is);
          differ = λ i j e f lt at at'. one_seen r root i j e f lt at';
          held = λ i e at high. (let P : Entry S → Type 0 = λ x. AreHeld s.current s.later.items x in subst P (seen_is root i e at) there);
        },
      );
    }

-- ---- what the collector has

-- where the collector is as it was, it has collected no more
pub stays_so : {C S U E : Type 0} (collects : C → List (Closing S) → C → Type 0) (now : C) (result : Result U E) → OnErr result (StaysAs collects now now)
stays_so collects now (Ok u) = tt
stays_so collects now (Err e) = λ first closings has. has

-- of one kind, and so of another
pub collected_so : {S : Type 0} (Collected P Q : List (Closing S) → Type 0) → ((closings : List (Closing S)) → P closings → Q closings) → HasCollected Collected P → HasCollected Collected Q
collected_so Collected P Q from has = record { closings = has.closings; collected = has.collected; so = from has.closings has.so }

-- behind what was collected
pub collected_more : {C S : Type 0} (collects : C → List (Closing S) → C → Type 0) (P Q : List (Closing S) → Type 0) (old new : C) (closing : Closing S) → ((closings : List (Closing S)) → P closings → Q (closings ++ closing ∷ [])) → CollectsMore collects old closing new → GoesFrom collects P Q old new
collected_more collects P Q old new closing from more = λ first has. record {
  closings = has.closings ++ closing ∷ [];
  collected = more first has.closings has.collected;
  so = from has.closings has.so;
}

-- where no mark stands above the closed rank, all were handed on
pub all_handed : {S : Type 0} (r : Rules S) (limits : Limits) (rank : S → ℕ) (Collected : List (Closing S) → Type 0) (least : ℕ) (findings : RankedFindings) → findings.closed ≡ Some least → HasCollected Collected (HasClosed r limits rank least) → NoneAbove r limits.depart rank least → HandsOn r limits rank Collected findings
all_handed r limits rank Collected least findings is has none = record {
  closings = has.closings;
  collected = has.collected;
  found = has.so.lawful.found;
  ranks = has.so.lawful.ranks;
  rise = has.so.lawful.rise;
  last = λ i c at. (least, is, has.so.up_to i c at);
  fewest = has.so.lawful.fewest;
  covered = (let P : Option ℕ → Type 0 = λ o. IfSome o (HandsOnAllTo r limits rank has.closings) in subst P (sym is) has.so.all);
  exhausted = λ t log n short run mark. has.so.all log n short run mark (none log n short run mark);
}

-- where the search was cut, those of the closed ranks were
pub some_handed : {S : Type 0} (r : Rules S) (limits : Limits) (rank : S → ℕ) (Old New : List (Closing S) → Type 0) (least : ℕ) (closed : Option ℕ) (reason : RankedReason) → ((closings : List (Closing S)) → Old closings → New closings) → HasCollected Old (IsUnderWay r limits rank least closed) → HandsOn r limits rank New (record { status = Cut reason; closed = closed })
some_handed r limits rank Old New least closed reason stays has = record {
  closings = has.closings;
  collected = stays has.closings has.collected;
  found = has.so.handed.lawful.found;
  ranks = has.so.handed.lawful.ranks;
  rise = has.so.handed.lawful.rise;
  last = has.so.last;
  fewest = has.so.handed.lawful.fewest;
  covered = has.so.covered;
  exhausted = λ e. absurd cc;
}

-- ranks are counted by 64 bits, so a higher one is nearer to their end
pub rank_nearer : (old read new : ℕ) → read ≡ old → read < 2 ^ 64 → old < new → 2 ^ 64 - new < 2 ^ 64 - old
rank_nearer old read new same fits higher = omega (arith, same, fits, higher)
