-- From one time of a search to the next, and to its answer.
use Rattle.std.proofs.Common.{◌≡◌, ◌≢◌, ℕ, ◌-◌, ◌^◌, ◌<◌, ◌≤◌, suc, true, List, [], ◌∷◌, ◌++◌, Option, Some, None, IfSome, IfNone, inl}
use Rattle.std.proofs.Common.{inr, ◌⊎◌, arith, ap, refl, sym, ◌∙◌, subst}
use Rattle.std.proofs.lemmas.Option.{none-some}
use Rattle.sched_core.specs.Ranks.{IsRanked}
use Rattle.sched_core.specs.Rules.{Rules, IsLawful, stands}
use Rattle.matching.specs.Answers.{ClosesTo, DiffersAlike, Explains, HaveComeButLast, IfCut, IfExplained, IfUnexplained, IsLater, IsNearRun, Refutes}
use Rattle.matching.specs.Answers.{SomeIsExplained}
use Rattle.matching.specs.Explained.{EndsSlots, IsExplained, Piece, differ_at, latest_time}
use Rattle.matching.specs.Inner.Candidates.{EndsNear, FollowAll, GoesOn, IsEarliest, IsIn, IsShortest, NearFromSome}
use Rattle.matching.specs.Inner.Reading.{HasRead, ReadsAt}
use Rattle.matching.specs.Inner.Searching.{AreMatched, AreNear, IsOneOfBoth, IsOpening, IsOver, HasSearchedTo, IsWanted, OpensWith}
use Rattle.matching.specs.declared.answer.Cut.{Cut as CutShort}
use Rattle.matching.specs.declared.answer.Explanation.{Explanation}
use Rattle.matching.specs.declared.answer.Matching.{Matching}
use Rattle.matching.specs.declared.answer.Matching.TheVariants.{Explained, Unexplained, Cut}
use Rattle.matching.specs.declared.answer.Unexplained.{Unexplained as UnexplainedAt}
use Rattle.matching.specs.declared.candidates.Onward.{Onward}
use Rattle.matching.specs.declared.candidates.Way.{Way}
use Rattle.matching.specs.declared.search.Nearest.{Nearest}
use Rattle.matching.specs.declared.slot.SlotStart.{SlotStart}
use Rattle.matching.proofs.Explaining.{ShowAlike, ShowsOn, shown_alike}
use Rattle.matching.proofs.Kept.{in_none}
use Rattle.matching.proofs.Matched.{matched_before, matched_first, matched_next, near_first, near_next, next_rank}
use Rattle.matching.proofs.NearLemmas.{are_so, one_near}
use Rattle.matching.proofs.PieceLemmas.{come_but_last, come_by, last_piece-more, latest_time-least, latest_time-more, shown_before, shows_last}

-- the time that was told is that of the next piece
pub wanted_there : {S : Type 0} (told next : Option ℕ) (entries : List (S × Way S)) (t : ℕ) → told ≡ next → IsWanted told entries t →
    IsWanted next entries t
wanted_there told next entries t is h = record { next = sym is ∙ h.next; some = h.some }

pub later_there : (told next : Option ℕ) (v : ℕ) → told ≡ next → IsLater told v → IsLater next v
later_there told next v is later t there = later t (is ∙ there)

-- so where none was told nothing is left
pub over_there : {S : Type 0} (told next : Option ℕ) (entries : List (S × Way S)) (Done : Type 0) → told ≡ next → IfNone told Done →
    IsOver told entries → (entries ≡ []) ⊎ ((next ≡ None) × Done)
over_there told next entries Done is done (inl none) = inl none
over_there told next entries Done is done (inr over) =
    let P : Option ℕ → Type 0 = λ o. IfNone o Done in
    inr (sym is ∙ over, subst P over done)

module _ {R S : Type 0} (r : Rules S) (law : IsLawful r) (rank : S → ℕ) (ranked : IsRanked r rank) (slots : EndsSlots r rank) (most : ℕ)
    (piece : R → Piece S) (upcoming : R → Option ℕ) (reads : R → List (Piece S) → R → Type 0)
    (alike : (me : R) → DiffersAlike (λ s t. r.same s t ≡ true) (piece me)) (first : R) where
  -- the search of the first slot is under way
  pub under_first : (now : R) (t time : ℕ) (start : SlotStart S) (entries : List (S × Way S)) (ending waiting : Option (Nearest S)) →
      HasRead piece reads first t t now → IsLater (upcoming now) t → t ≡ rank r.first → time ≡ t → IsOpening r start →
      OpensWith r rank (piece now).differ most start entries →
      AreNear (EndsNear r most start) ending waiting → HasSearchedTo r rank most piece upcoming reads first now time entries ending waiting
  under_first now t time start entries ending waiting read ahead is same opening opens near =
      let v : ℕ = rank r.first in
      let H : ℕ → Type 0 = λ u. HasRead piece reads first u u now in
      let h : HasRead piece reads first v v now = subst H is read in
      let shown : ℕ → S → ℕ = differ_at (piece first) h.pieces in
      let shows : (s : S) → shown v s ≡ (piece now).differ s = λ s. shows_last piece reads first v v now h v s (omega arith) in
      let test : (piece now).differ ≡ shown v = λ i s. (sym (shows s)) i in
      let O : (S → ℕ) → Type 0 = λ d. OpensWith r rank d most start entries in
      let U : ℕ → Type 0 = λ u. HasSearchedTo r rank most piece upcoming reads first now u entries ending waiting in
      let reach : latest_time v h.pieces ≡ v = omega (arith, h.within, latest_time-least v h.pieces) in
      subst U (sym (same ∙ is)) (record {
        read = h;
        matched = matched_first r law rank ranked slots shown most start entries opening
            (λ s t e. shows s ∙ alike now s t e ∙ sym (shows t)) (subst O test opens);
        ahead = λ u up. omega (arith, ahead u up, is);
        last = λ none. sym reach;
        reached = inl refl;
        near = are_so (EndsNear r most start) (IsNearRun r rank shown most v) ending waiting
            (λ e h. near_first r law rank ranked slots shown most start opening e h) near;
      })

  -- the pieces that were read after this time, and that they change nothing before
  pub record ReadsUp (v w : ℕ) (old new : R) (h : HasRead piece reads first (rank r.first) v old) : Type 0 where
    pub read : HasRead piece reads first (rank r.first) w new
    pub before : (u : ℕ) (s : S) → u < w → differ_at (piece first) read.pieces u s ≡ differ_at (piece first) h.pieces u s
    pub last : upcoming new ≡ None → w ≡ latest_time (rank r.first) read.pieces
    pub but_last : HaveComeButLast read.pieces v

  pub reads_up : (v w next : ℕ) (old new : R) (h : HasRead piece reads first (rank r.first) v old) → v < w → upcoming old ≡ Some next →
      ReadsAt piece reads old next w new → ReadsUp v w old new h
  reads_up v w next old new h lt up (inl same) = record {
    read = record {
      pieces = h.pieces;
      read = subst (λ (x : R). reads first h.pieces x) (sym same.1) h.read;
      last = ap piece same.1 ∙ h.last;
      within = omega (arith, h.within, lt);
    };
    before = λ u s less. refl;
    last = λ none. absurd (none-some next (sym none ∙ ap upcoming same.1 ∙ up));
    but_last = λ i p at lt. come_by (rank r.first) h.pieces v i p h.within at;
  }
  reads_up v w next old new h lt up (inr on) = record {
    read = record {
      pieces = h.pieces ++ piece new ∷ [];
      read = on.1 first h.pieces h.read;
      last = sym (last_piece-more (piece first) h.pieces (piece new));
      within = omega (arith, latest_time-more (rank r.first) h.pieces (piece new), h.within, lt, on.0);
    };
    before = λ u s less. shown_before (piece first) h.pieces (piece new) u s (omega (arith, on.0, less));
    last = λ none. omega (arith, latest_time-more (rank r.first) h.pieces (piece new), h.within, lt, on.0);
    but_last = come_but_last (rank r.first) h.pieces (piece new) v h.within;
  }

  module _ (v w : ℕ) (old : R) (entries : List (S × Way S)) (ending waiting : Option (Nearest S))
      (way : HasSearchedTo r rank most piece upcoming reads first old v entries ending waiting) where
    opens_before : rank r.first ≤ v
    opens_before = omega (arith, way.read.within, latest_time-least (rank r.first) way.read.pieces)

    later_by : (e : S × Way S) → IsIn entries e → (next : Onward S) → e.1.next ≡ Some next → v < next.rank
    later_by e at next is =
        let h = way.matched.way e at in
        let x = way.matched.explained e at in
        let t : S = stands r e.1.log e.1.steps in
        let G : Option (Onward S) → Type 0 = λ n. GoesOn r rank e.0 n in
        let goes : GoesOn r rank e.0 (Some next) = subst G is h.next in
        elim x.last [
          | inl none ↦ absurd (omega (arith, none, goes.0, law.width_same e.0 t h.stands.at))
          | inr later ↦ omega (arith, later, next_rank r law rank ranked e.0 t next h.stands.at goes)
        ]

    -- the time that comes next is later
    pub time_later : (next : ℕ) → IsWanted (upcoming old) entries next → IsEarliest entries next w → v < w
    time_later next wanted least = elim least.some [
      | inl itself ↦ omega (arith, itself, way.ahead next wanted.next)
      | inr x ↦ omega (arith, later_by x.0 x.2 x.1 x.3, x.4)
    ]

    module _ (next : ℕ) (new : R) (wanted : IsWanted (upcoming old) entries next) (least : IsEarliest entries next w)
        (at : ReadsAt piece reads old next w new) (ahead : IsLater (upcoming new) w) where
      up : ReadsUp v w old new way.read
      up = reads_up v w next old new way.read (time_later next wanted least) wanted.next at

      shown : ℕ → S → ℕ
      shown = differ_at (piece first) up.read.pieces

      same_before : (u : ℕ) (s : S) → u < w → shown u s ≡ differ_at (piece first) way.read.pieces u s
      unfolding shown
      same_before = up.before

      shows_on : ShowsOn shown v w
      shows_on u s from less =
          let one = shows_last piece reads first (rank r.first) v old way.read u s from in
          let two = shows_last piece reads first (rank r.first) v old way.read v s (omega arith) in
          same_before u s less ∙ one ∙ sym two ∙ sym (same_before v s (time_later next wanted least))

      shows_now : (s : S) → shown w s ≡ (piece new).differ s
      unfolding shown
      shows_now s = shows_last piece reads first (rank r.first) w new up.read w s (omega arith)

      matched : AreMatched r rank shown most v entries
      matched =
          let before : ShowAlike (differ_at (piece first) way.read.pieces) shown v = λ u s le. sym
          (same_before u s (omega (arith, le, time_later next wanted least))) in
          let back : ShowAlike shown (differ_at (piece first) way.read.pieces) v = λ u s le. same_before u s
          (omega (arith, le, time_later next wanted least)) in
          record {
            way = way.matched.way;
            explained = λ e there. shown_alike r rank (differ_at (piece first) way.read.pieces) shown most v e.1.log e.1.steps before
                (way.matched.explained e there);
            all = λ log k e. way.matched.all log k
                (shown_alike r rank shown (differ_at (piece first) way.read.pieces) most v log k back e);
          }

      some_of : (es : List (S × Way S)) → es ≢ [] → (e : S × Way S) × IsIn es e
      some_of [] some = absurd (some refl)
      some_of (e ∷ es) some = (e, (0, refl))

      some_explained : SomeIsExplained r rank (differ_at (piece first) up.read.pieces) most (w - 1)
      unfolding shown
      some_explained =
          let lt = time_later next wanted least in
          let c = some_of entries wanted.some in
          let one : suc (w - 1) ≡ w = omega (arith, lt) in
          let O : ℕ → Type 0 = λ n. ShowsOn shown v n in
          record {
            log = c.0.1.log;
            steps = c.0.1.steps;
            explained = matched_before r law rank ranked shown most v (w - 1) c.0 (way.matched.way c.0 c.1) (matched.explained c.0 c.1)
                (omega (arith, lt)) (subst O (sym one) shows_on)
                (λ n is. omega (arith, least.least c.0 n c.1 is, lt));
          }

      -- the search goes on
      pub under_next : (entries' : List (S × Way S)) (ending' waiting' : Option (Nearest S)) (time : ℕ) → time ≡ w →
          FollowAll r rank (piece new).differ most w entries entries' → AreNear (NearFromSome r most w entries) ending' waiting' →
          HasSearchedTo r rank most piece upcoming reads first new time entries' ending' waiting'
      unfolding shown
      under_next entries' ending' waiting' time is follow near =
          let test : (piece new).differ ≡ shown w = λ i s. (sym (shows_now s)) i in
          let F : (S → ℕ) → Type 0 = λ d. FollowAll r rank d most w entries entries' in
          let U : ℕ → Type 0 = λ u. HasSearchedTo r rank most piece upcoming reads first new u entries' ending' waiting' in
          let followed = subst F test follow in
          let same : (s t : S) → r.same s t ≡ true → shown w s ≡ shown w t = λ s t e. shows_now s ∙ alike new s t e ∙ sym (shows_now t) in
          subst U (sym is) (record {
            read = up.read;
            matched = matched_next r law rank ranked slots shown most v w entries entries' matched followed
                (omega (arith, time_later next wanted least)) shows_on same (λ e n there also. least.least e n there also) opens_before;
            ahead = ahead;
            last = up.last;
            reached = inr some_explained;
            near = are_so (NearFromSome r most w entries) (IsNearRun r rank shown most w) ending' waiting'
                (λ e h. near_next r law rank ranked slots shown most v w entries entries' matched followed
                (omega (arith, time_later next wanted least))
                shows_on same (λ e n there also. least.least e n there also) e h) near;
          })

      -- or it was cut short
      pub closes : (c : CutShort) → c.closed ≡ Some v →
          ClosesTo r rank most (piece first) (λ pieces. reads first pieces new) (upcoming new) c
      unfolding shown
      closes c is =
          let some = some_of entries wanted.some in
          let I : Option ℕ → Type 0 = λ closed. IfSome closed (SomeIsExplained r rank (differ_at (piece first) up.read.pieces) most) in
          let so : SomeIsExplained r rank (differ_at (piece first) up.read.pieces) most v = record
          { log = some.0.1.log; steps = some.0.1.steps; explained = matched.explained some.0 some.1 } in
          let A : Option ℕ → Type 0 = λ closed. IfSome closed (IsLater (upcoming new)) in
          let later : IsLater (upcoming new) v = λ t next_is. omega (arith, ahead t next_is, time_later next wanted least) in
          let B : Option ℕ → Type 0 = λ closed. IfSome closed (HaveComeButLast up.read.pieces) in
          record {
            pieces = up.read.pieces;
            read = up.read.read;
            closed = subst I (sym is) so;
            ahead = subst A (sym is) later;
            read_to = subst B (sym is) up.but_last;
            unread = λ none. absurd (none-some v (sym none ∙ is));
          }

    -- the run of a candidate, at the end
    pub explains : (Done : Type 0) (best : Explanation S) → IsShortest entries best →
        ((entries ≡ []) ⊎ ((upcoming old ≡ None) × Done)) → Explains r rank most (piece first) (λ pieces. reads first pieces old) Done best
    explains Done best short (inl none) = absurd (in_none entries short.entry none short.at)
    explains Done best short (inr over) =
        let shown : ℕ → S → ℕ = differ_at (piece first) way.read.pieces in
        let time : v ≡ latest_time (rank r.first) way.read.pieces = way.last over.0 in
        let e = short.entry in
        let A : ℕ → Type 0 = λ u. IsExplained r rank shown most u best.log best.steps in
        let B : List (ℕ × ℕ) → Type 0 = λ l. IsExplained r rank shown most v l best.steps in
        let C : ℕ → Type 0 = λ n. IsExplained r rank shown most v e.1.log n in
        let D : S → Type 0 = λ s. r.same s (stands r best.log best.steps) ≡ true in
        let E : List (ℕ × ℕ) → Type 0 = λ l. r.same e.0 (stands r l best.steps) ≡ true in
        let F : ℕ → Type 0 = λ n. r.same e.0 (stands r e.1.log n) ≡ true in
        record {
          pieces = way.read.pieces;
          read = way.read.read;
          done = over.1;
          explained = subst A time (subst B short.log (subst C short.steps (way.matched.explained e short.at)));
          state = subst D short.state (subst E short.log (subst F short.steps (way.matched.way e short.at).stands.at));
          fewest = λ log k x. (
              let G : ℕ → Type 0 = λ u. IsExplained r rank shown most u log k in
              let kept = way.matched.all log k (subst G (sym time) x) in
              omega (arith, kept.departures, short.least kept.entry kept.at));
        }

    -- no candidate is left
    pub refutes : (u : UnexplainedAt S) → entries ≡ [] → u.time ≡ v → IfSome u.nearest (IsOneOfBoth ending waiting) →
        Refutes r rank most (piece first) (λ pieces. reads first pieces old) (upcoming old) u
    refutes u none time nearest =
        let shown : ℕ → S → ℕ = differ_at (piece first) way.read.pieces in
        let P : ℕ → Type 0 = λ t. (log : List (ℕ × ℕ)) (k : ℕ) → IsExplained r rank shown most t log k → ⊥ in
        let Q : ℕ → Type 0 = λ t. (t ≡ rank r.first) ⊎ SomeIsExplained r rank shown most (t - 1) in
        let N : ℕ → Type 0 = λ t. IfSome u.nearest (IsNearRun r rank shown most t) in
        record {
          pieces = way.read.pieces;
          read = way.read.read;
          unexplained = subst P (sym time) (λ log k x. (let kept = way.matched.all log k x in in_none entries kept.entry none kept.at));
          read_to = omega (arith, way.read.within, time);
          ahead = λ t is. omega (arith, way.ahead t is, time);
          ended = λ over. time ∙ way.last over;
          reached = subst Q (sym time) way.reached;
          nearest = subst N (sym time) (one_near (IsNearRun r rank shown most v) ending waiting u.nearest way.near nearest);
        }

-- what is known of an answer of one kind
pub if_explained : {S : Type 0} (answer : Matching S) (P Q : Explanation S → Type 0) → ((e : Explanation S) → P e → Q e) →
    IfExplained answer P → IfExplained answer Q
if_explained (Explained e) P Q so h = so e h
if_explained (Unexplained u) P Q so h = tt
if_explained (Cut c) P Q so h = tt

pub if_unexplained : {S : Type 0} (answer : Matching S) (A B C Q : UnexplainedAt S → Type 0) →
    ((u : UnexplainedAt S) → A u → B u → C u → Q u) → IfUnexplained answer A → IfUnexplained answer B → IfUnexplained answer C →
    IfUnexplained answer Q
if_unexplained (Explained e) A B C Q so a b c = tt
if_unexplained (Unexplained u) A B C Q so a b c = so u a b c
if_unexplained (Cut x) A B C Q so a b c = tt

pub if_cut : {S : Type 0} (answer : Matching S) (P Q : CutShort → Type 0) → ((c : CutShort) → P c → Q c) → IfCut answer P → IfCut answer Q
if_cut (Explained e) P Q so h = tt
if_cut (Unexplained u) P Q so h = tt
if_cut (Cut c) P Q so h = so c h

pub nearer : (v w : ℕ) → v < w → w < 18446744073709551616 → 2 ^ 64 - w < 2 ^ 64 - v
nearer v w lt high = omega arith
