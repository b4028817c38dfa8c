-- The books of the ranks that wait, as one of them meets an entry.
use Rattle.std.proofs.Common.{◌≡◌, ◌≢◌, ℕ, ◌<◌, ◌≤◌, zero, suc, Bool, true, false, List, [], ◌∷◌, ◌++◌, length, slice_get, slice_set, slice_index_or, insert, Some, Result, Ok, Err, IfOk, arith, ap, refl, sym, ◌∙◌, subst, ◌⊎◌, inl, inr}
use Rattle.std.specs.Cmp.{IsEquivalence}
use Rattle.std.proofs.lemmas.Bool.{cases_lt}
use Rattle.std.proofs.lemmas.Option.{same_Some, slice_get_within}
use Rattle.basis.proofs.Lists.{last_or_before, listed_place, stands_in_front, stands_last}
use Rattle.statebook.specs.Books.{Book, Inserts, no_entries}
use Rattle.statebook.specs.declared.book.Met.TheVariants.{New, Known}
use Rattle.statebook.specs.declared.entry.Entry.{Entry}
use Rattle.statebook.proofs.CoreLemmas.{slice_get-set}
use Rattle.explore.specs.Inner.Exploring.{IsSameOrAdded}
use Rattle.explore.specs.Inner.RankedSearches.{AreAfter, AreFrom, AreInOrder, IsFromBook, IsIn, IsNoRankAt, IsRankAt, IsWaiting, IsWaitingAt, Keeps, KeepsAt, Opens}
use Rattle.explore.specs.declared.rank_book.RankBook.{RankBook}
use Rattle.explore.proofs.AloneLemmas.{nothing_there}
use Rattle.explore.proofs.VisitLemmas.{set_at, true_not_false}

-- what stands at a place of a list into which a value was put
abbrev InsertedAt : {X : Type 0} → List X → ℕ → X → ℕ → X → Type 0
InsertedAt xs i x j y = ((j < i) × (slice_get xs j ≡ Some y)) ⊎ (((j ≡ i) × (x ≡ y)) ⊎ ((m : ℕ) × (j ≡ suc m) × (i ≤ m) × (slice_get xs m ≡ Some y)))

inserted_later : {X : Type 0} (xs : List X) (i : ℕ) (x : X) (j : ℕ) (y z : X) → InsertedAt xs i x j y → InsertedAt (z ∷ xs) (suc i) x (suc j) y
inserted_later xs i x j y z (inl before) = inl (omega (arith, before.0), before.1)
inserted_later xs i x j y z (inr (inl here)) = inr (inl (ap suc here.0, here.1))
inserted_later xs i x j y z (inr (inr behind)) = inr (inr (suc behind.0, ap suc behind.1, omega (arith, behind.2), behind.3))

inserted_at : {X : Type 0} (xs : List X) (i : ℕ) (x : X) (j : ℕ) (y : X) → i ≤ length xs → slice_get (insert xs i x) j ≡ Some y → InsertedAt xs i x j y
inserted_at [] zero x zero y le h = inr (inl (refl, same_Some x y h))
inserted_at [] zero x (suc j) y le h = inr (inr (j, refl, omega arith, h))
inserted_at (z ∷ xs) zero x zero y le h = inr (inl (refl, same_Some x y h))
inserted_at (z ∷ xs) zero x (suc j) y le h = inr (inr (j, refl, omega arith, h))
inserted_at [] (suc i) x j y le h = absurd (omega (arith, le))
inserted_at (z ∷ xs) (suc i) x zero y le h = inl (omega arith, h)
inserted_at (z ∷ xs) (suc i) x (suc j) y le h = inserted_later xs i x j y z (inserted_at xs i x j y (omega (arith, le)) h)

-- what stood in the list stands there still
still_in : {X : Type 0} (xs : List X) (i : ℕ) (x : X) (j : ℕ) (y : X) → slice_get xs j ≡ Some y → (m : ℕ) × (slice_get (insert xs i x) m ≡ Some y)
still_in [] i x j y h = absurd cc
still_in (z ∷ xs) zero x j y h = (suc j, h)
still_in (z ∷ xs) (suc i) x zero y h = (0, h)
still_in (z ∷ xs) (suc i) x (suc j) y h = let there = still_in xs i x j y h in (suc there.0, there.1)

put_in : {X : Type 0} (xs : List X) (i : ℕ) (x : X) → i ≤ length xs → slice_get (insert xs i x) i ≡ Some x
put_in [] zero x le = refl
put_in (z ∷ xs) zero x le = refl
put_in [] (suc i) x le = absurd (omega (arith, le))
put_in (z ∷ xs) (suc i) x le = put_in xs i x (omega (arith, le))

-- what stood in a list in which a place was written stands there still, or stood at that place
into_set : {X : Type 0} (xs : List X) (k : ℕ) (y : X) (i : ℕ) (x : X) → slice_get xs i ≡ Some x → (slice_get (slice_set xs k y) i ≡ Some x) ⊎ (i ≡ k)
into_set [] k y i x e = inl e
into_set (z ∷ xs) zero y zero x e = inr refl
into_set (z ∷ xs) zero y (suc i) x e = inl e
into_set (z ∷ xs) (suc k) y zero x e = inl e
into_set (z ∷ xs) (suc k) y (suc i) x e = elim (into_set xs k y i x e) [
  | inl h ↦ inl h
  | inr h ↦ inr (ap suc h)
]

-- an entry of a book that has met another
pub in_grown : {S : Type 0} (old : Book S) (entry : Entry S) (new : Book S) → IsSameOrAdded old entry new → (e : Entry S) → IsIn old.entries e → IsIn new.entries e
in_grown {S} old entry new (inl same) e there =
    let P : Book S → Type 0 = λ b. IsIn b.entries e in
    subst P (sym same) there
in_grown {S} old entry new (inr added) e (i, at) =
    let P : Book S → Type 0 = λ b. IsIn b.entries e in
    subst P (sym added) (i, stands_in_front old.entries (entry ∷ []) i e at)

pub of_grown : {S : Type 0} (old : Book S) (entry : Entry S) (new : Book S) → IsSameOrAdded old entry new → (e : Entry S) → IsIn new.entries e → (e ≡ entry) ⊎ IsIn old.entries e
of_grown {S} old entry new (inl same) e there =
    let P : Book S → Type 0 = λ b. IsIn b.entries e in
    inr (subst P same there)
of_grown {S} old entry new (inr added) e there =
    let P : Book S → Type 0 = λ b. IsIn b.entries e in
    let at = subst P added there in
    elim (last_or_before old.entries entry at.0 e at.1) [
      | inl before ↦ inr (at.0, before)
      | inr last ↦ inl (sym last.1)
    ]

-- the book met the entry, and added it
pub opens_new : {S : Type 0} (eq : S → S → Bool) → IsEquivalence eq → (old : RankBook S) (entry : Entry S) (place : ℕ) (new : Book S) → Inserts eq old.book entry (New place) new → Opens eq old entry (record { rank = old.rank; book = new }) true
opens_new {S} eq laws old entry place new m =
    let P : Book S → Type 0 = λ b. Opens eq old entry (record { rank = old.rank; book = b }) true in
    let last : slice_get (old.book.entries ++ entry ∷ []) (length old.book.entries) ≡ Some entry = stands_last old.book.entries entry in
    subst P (sym m.1) (record {
      rank = refl;
      grown = inr refl;
      dominated = record { found = entry; inside = (length old.book.entries, last); dominates = record { state = laws.refl entry.state; budget = omega arith } };
      none = λ t f there. m.2 there.0 f there.1;
      there = λ t. (length old.book.entries, last);
    })

-- the book met the entry, and knew one that dominates it
pub opens_known : {S : Type 0} (eq : S → S → Bool) (old : RankBook S) (entry : Entry S) (place : ℕ) (new : Book S) → Inserts eq old.book entry (Known place) new → Opens eq old entry (record { rank = old.rank; book = new }) false
opens_known {S} eq old entry place new m =
    let P : Book S → Type 0 = λ b. Opens eq old entry (record { rank = old.rank; book = b }) false in
    subst P (sym m.1) (record {
      rank = refl;
      grown = inl refl;
      dominated = record { found = m.0.entry; inside = (place, m.0.at); dominates = m.0.dominates };
      none = λ t. absurd (true_not_false (sym t));
      there = λ t. absurd (true_not_false (sym t));
    })

-- a book that was opened with the entry has it alone
pub opened_alone : {S : Type 0} (eq : S → S → Bool) (old : RankBook S) (entry : Entry S) (new : RankBook S) (is_new : Bool) → old.book ≡ no_entries → Opens eq old entry new is_new → (f : Entry S) → IsIn new.book.entries f → f ≡ entry
opened_alone {S} eq old entry new is_new none opens f there = elim (of_grown old.book entry new.book opens.grown f there) [
  | inl itself ↦ itself
  | inr before ↦ (
      let P : Book S → Type 0 = λ b. IsIn b.entries f in
      let nowhere = subst P none before in
      absurd (nothing_there nowhere.0 f nowhere.1))
]

rank_before : {S : Type 0} (old : List (RankBook S)) (place : ℕ) (b new : RankBook S) → slice_get old place ≡ Some b → new.rank ≡ b.rank → (i : ℕ) (x : RankBook S) → slice_get (slice_set old place new) i ≡ Some x → (y : RankBook S) × (slice_get old i ≡ Some y) × (y.rank ≡ x.rank)
rank_before {S} old place b new at same i x at' = elim (slice_get-set old place new i x at') [
  | inl there ↦ (x, there, refl)
  | inr here ↦ (
      let P : ℕ → Type 0 = λ p. slice_get old p ≡ Some b in
      (b, subst P (sym here.0) at, sym same ∙ ap (λ (v : RankBook S). v.rank) here.1))
]

-- a rank stands at one place alone
one_place : {S : Type 0} (later : List (RankBook S)) → AreInOrder later → (i j : ℕ) (b c : RankBook S) → slice_get later i ≡ Some b → slice_get later j ≡ Some c → b.rank ≡ c.rank → b ≡ c
one_place {S} later order i j b c at at' same = elim (cases_lt i j) [
  | inl before ↦ absurd (omega (arith, order i j b c before at at', same))
  | inr ge ↦ elim (cases_lt j i) [
    | inl behind ↦ absurd (omega (arith, order j i c b behind at' at, same))
    | inr le ↦ (
        let here : i ≡ j = omega (arith, ge, le) in
        let P : ℕ → Type 0 = λ p. slice_get later p ≡ Some b in
        same_Some b c (sym (subst P here at) ∙ at'))
  ]
]

set_stays : {S : Type 0} (same : S → S → Bool) (old : List (RankBook S)) (place : ℕ) (b new : RankBook S) (entry : Entry S) (is_new : Bool) → slice_get old place ≡ Some b → Opens same b entry new is_new → (e : Entry S) → IsWaiting old e → IsWaiting (slice_set old place new) e
set_stays {S} same old place b new entry is_new at opens e (i, c, at', there) = elim (into_set old place new i c at') [
  | inl stays ↦ (i, c, stays, there)
  | inr here ↦ (
      let P : ℕ → Type 0 = λ p. slice_get old p ≡ Some c in
      let itself : c ≡ b = same_Some c b (sym (subst P here at') ∙ at) in
      let Q : RankBook S → Type 0 = λ v. IsIn v.book.entries e in
      (place, new, set_at old place b new at, in_grown b.book entry new.book opens.grown e (subst Q itself there)))
]

set_from : {S : Type 0} (same : S → S → Bool) (old : List (RankBook S)) (place rank : ℕ) (b new : RankBook S) (entry : Entry S) (is_new : Bool) → slice_get old place ≡ Some b → b.rank ≡ rank → Opens same b entry new is_new → (i : ℕ) (x : RankBook S) → slice_get (slice_set old place new) i ≡ Some x → IsFromBook old rank entry x
set_from {S} same old place rank b new entry is_new at here opens i x at' = elim (slice_get-set old place new i x at') [
  | inl there ↦ inl (i, there)
  | inr (at_place, is) ↦ (
      let P : RankBook S → Type 0 = λ v. IsFromBook old rank entry v in
      subst P is (inr (
        opens.rank ∙ here,
        λ e there. elim (of_grown b.book entry new.book opens.grown e there) [
          | inl itself ↦ inl itself
          | inr before ↦ inr (place, b, at, here, before)
        ],
      )))
]

-- the book of the rank, which stood at the place, met the entry
pub keeps_in : {S : Type 0} (same : S → S → Bool) (old : List (RankBook S)) (place rank : ℕ) (b book : RankBook S) (entry : Entry S) (is_new : Bool) (new : List (RankBook S)) → AreInOrder old → slice_get old place ≡ Some b → b.rank ≡ rank → Opens same b entry book is_new → new ≡ slice_set old place book → Keeps same old rank entry new is_new
keeps_in {S} same old place rank b book entry is_new new order at here opens is =
    let P : List (RankBook S) → Type 0 = λ l. Keeps same old rank entry l is_new in
    let there : slice_get (slice_set old place book) place ≡ Some book = set_at old place b book at in
    subst P (sym is) (record {
      order = λ i j x y lt at_x at_y.
          (let x_before = rank_before old place b book at opens.rank i x at_x in
          let y_before = rank_before old place b book at opens.rank j y at_y in
          omega (arith, order i j x_before.0 y_before.0 lt x_before.1 y_before.1, x_before.2, y_before.2));
      stays = set_stays same old place b book entry is_new at opens;
      from = set_from same old place rank b book entry is_new at here opens;
      dominated = record { found = opens.dominated.found; inside = (place, book, there, opens.dominated.inside); dominates = opens.dominated.dominates };
      none = λ t f waits.
          (let itself : waits.1 ≡ b = one_place old order waits.0 place waits.1 b waits.2 at (waits.3 ∙ sym here) in
          let Q : RankBook S → Type 0 = λ v. IsIn v.book.entries f in
          opens.none t f (subst Q itself waits.4));
      there = λ t. (place, book, there, opens.there t);
    })

-- what stands from the place on has a lower rank
lower_from : {S : Type 0} (later : List (RankBook S)) (place rank : ℕ) → AreInOrder later → AreFrom later place rank → IsNoRankAt later place rank → (m : ℕ) (c : RankBook S) → place ≤ m → slice_get later m ≡ Some c → c.rank < rank
lower_from {S} later place rank order from none m c le at = elim (cases_lt place m) [
  | inl less ↦ (
      let first = listed_place later place (omega (arith, less, slice_get_within later m c at)) in
      omega (arith, order place m first.0 c less first.1 at, from first.0 first.1))
  | inr ge ↦ (
      let here : m ≡ place = omega (arith, le, ge) in
      let P : ℕ → Type 0 = λ p. slice_get later p ≡ Some c in
      let there : slice_get later place ≡ Some c = subst P here at in
      let most : c.rank ≤ rank = from c there in
      let other : c.rank ≢ rank = none c there in
      elim (cases_lt c.rank rank) [
        | inl lower ↦ lower
        | inr high ↦ absurd (other (omega (arith, most, high)))
      ])
]

-- what is known of a place where a book of the rank is put in
pub record HasPlaceFor {S : Type 0} (later : List (RankBook S)) (place rank : ℕ) : Type 0 where
  pub order : AreInOrder later
  pub within : place ≤ length later
  pub before : AreAfter later place rank
  pub from : AreFrom later place rank
  pub none : IsNoRankAt later place rank

put_order : {S : Type 0} (later : List (RankBook S)) (place rank : ℕ) (book : RankBook S) → HasPlaceFor later place rank → book.rank ≡ rank → AreInOrder (insert later place book)
put_order {S} later place rank book h is i j b c lt at at' =
    let lower = lower_from later place rank h.order h.from h.none in
    let P : RankBook S → Type 0 = λ v. v.rank < b.rank in
    let Q : RankBook S → Type 0 = λ v. c.rank < v.rank in
    elim (inserted_at later place book i b h.within at) [
      | inl before ↦ elim (inserted_at later place book j c h.within at') [
        | inl both ↦ h.order i j b c lt before.1 both.1
        | inr (inl here) ↦ subst P here.1 (omega (arith, is, h.before i b before.0 before.1))
        | inr (inr behind) ↦ h.order i behind.0 b c (omega (arith, before.0, behind.2)) before.1 behind.3
      ]
      | inr (inl here) ↦ elim (inserted_at later place book j c h.within at') [
        | inl before ↦ absurd (omega (arith, before.0, here.0, lt))
        | inr (inl both) ↦ absurd (omega (arith, both.0, here.0, lt))
        | inr (inr behind) ↦ subst Q here.1 (omega (arith, is, lower behind.0 c behind.2 behind.3))
      ]
      | inr (inr behind) ↦ elim (inserted_at later place book j c h.within at') [
        | inl before ↦ absurd (omega (arith, before.0, behind.1, behind.2, lt))
        | inr (inl here) ↦ absurd (omega (arith, here.0, behind.1, behind.2, lt))
        | inr (inr both) ↦ h.order behind.0 both.0 b c (omega (arith, behind.1, both.1, lt)) behind.3 both.3
      ]
    ]

put_from : {S : Type 0} (later : List (RankBook S)) (place rank : ℕ) (book : RankBook S) (entry : Entry S) → place ≤ length later → book.rank ≡ rank → ((f : Entry S) → IsIn book.book.entries f → f ≡ entry) → (i : ℕ) (x : RankBook S) → slice_get (insert later place book) i ≡ Some x → IsFromBook later rank entry x
put_from {S} later place rank book entry within is alone i x at = elim (inserted_at later place book i x within at) [
  | inl before ↦ inl (i, before.1)
  | inr (inl here) ↦ (
      let P : RankBook S → Type 0 = λ v. IsFromBook later rank entry v in
      subst P here.1 (inr (is, λ e there. inl (alone e there))))
  | inr (inr behind) ↦ inl (behind.0, behind.3)
]

-- no book has the rank, so none of its entries waits
none_waits : {S : Type 0} (later : List (RankBook S)) (place rank : ℕ) → HasPlaceFor later place rank → (e : Entry S) → IsWaitingAt later rank e → ⊥
none_waits later place rank h e waits = elim (cases_lt waits.0 place) [
  | inl before ↦ omega (arith, h.before waits.0 waits.1 before waits.2, waits.3)
  | inr from ↦ omega (arith, lower_from later place rank h.order h.from h.none waits.0 waits.1 from waits.2, waits.3)
]

-- a book of the rank was put in at its place
pub keeps_put : {S : Type 0} (same : S → S → Bool) (old : List (RankBook S)) (place rank : ℕ) (entry : Entry S) (new : List (RankBook S)) (is_new : Bool) → HasPlaceFor old place rank → KeepsAt same old place rank entry new is_new → Keeps same old rank entry new is_new
keeps_put {S} same old place rank entry new is_new h k =
    let P : List (RankBook S) → Type 0 = λ l. Keeps same old rank entry l is_new in
    let there : slice_get (insert old place k.book) place ≡ Some k.book = put_in old place k.book h.within in
    subst P (sym k.items) (record {
      order = put_order old place rank k.book h k.of_rank;
      stays = λ e waits. (let at = still_in old place k.book waits.0 waits.1 waits.2 in (at.0, waits.1, at.1, waits.3));
      from = put_from old place rank k.book entry h.within k.of_rank k.alone;
      dominated = record { found = k.dominated.found; inside = (place, k.book, there, k.dominated.inside); dominates = k.dominated.dominates };
      none = λ t f waits. absurd (none_waits old place rank h f waits);
      there = λ t. (place, k.book, there, k.there t);
    })

pub all_keep_put : {S E : Type 0} (same : S → S → Bool) (old : List (RankBook S)) (place rank : ℕ) (entry : Entry S) (new : List (RankBook S)) (result : Result Bool E) → HasPlaceFor old place rank → IfOk result (KeepsAt same old place rank entry new) → IfOk result (Keeps same old rank entry new)
all_keep_put same old place rank entry new (Ok is_new) h k = keeps_put same old place rank entry new is_new h k
all_keep_put same old place rank entry new (Err e) h k = tt

read_at : {X : Type 0} (xs : List X) (i : ℕ) (x y : X) → slice_get xs i ≡ Some x → y ≡ slice_index_or xs i y → y ≡ x
read_at [] i x y at is = absurd cc
read_at (z ∷ xs) zero x y at is = is ∙ same_Some z x at
read_at (z ∷ xs) (suc i) x y at is = read_at xs i x y at is

pub all_keep_in : {S E : Type 0} (same : S → S → Bool) (old : List (RankBook S)) (place rank : ℕ) (read book : RankBook S) (entry : Entry S) (result : Result Bool E) → AreInOrder old → IsRankAt old place rank → read ≡ slice_index_or old place read → IfOk result (Opens same read entry book) → IfOk result (Keeps same old rank entry (slice_set old place book))
all_keep_in {S} same old place rank read book entry (Ok is_new) order (b, at, here) is opens =
    let P : RankBook S → Type 0 = λ v. Opens same v entry book is_new in
    keeps_in same old place rank b book entry is_new (slice_set old place book) order at here (subst P (read_at old place b read at is) opens) refl
all_keep_in same old place rank read book entry (Err e) order here is opens = tt
