-- A sound book is one that allowed events lead to: its entries added in turn, and then those finished that are.
use Rattle.std.proofs.Common.{◌≡◌, ℕ, ◌+◌, suc, List, [], ◌∷◌, ◌++◌, length, replicate, slice_get, slice_set, Option, Some, None, arith, ap, refl, sym, ◌∙◌, subst, append_assoc, append-nil}
use Rattle.sched_core.specs.Rules.{Rules}
use Rattle.statebook.specs.declared.entry.Entry.{Entry}
use Rattle.statebook.specs.Books.{Book}
use Rattle.statebook.specs.ExplorerCore.{IsEntry, HasSuccessorsAt, Core, Event, happens, AreAllowed, after_all, empty, IsReached, IsSound}
use Rattle.statebook.specs.ExplorerCore.Event.{Add, Finish}

-- each entry is added, and then comes the rest
abbrev adds : {S : Type 0} → List (Entry S) → List (Event S) → List (Event S)
adds [] rest = rest
adds (e ∷ es) rest = Add e ∷ adds es rest

abbrev added : {S : Type 0} → Core S → List (Entry S) → Core S
added w [] = w
added w (e ∷ es) = added (happens w (Add e)) es

after_adds : {S : Type 0} (w : Core S) (es : List (Entry S)) (rest : List (Event S)) → after_all w (adds es rest) ≡ after_all (added w es) rest
after_adds w [] rest = refl
after_adds w (e ∷ es) rest = after_adds (happens w (Add e)) es rest

adds_allowed : {S : Type 0} (r : Rules S) (k limit : ℕ) (w : Core S) (es : List (Entry S)) (rest : List (Event S)) → ((i : ℕ) (e : Entry S) → slice_get es i ≡ Some e → IsEntry r k limit e) → AreAllowed r k limit (added w es) rest → AreAllowed r k limit w (adds es rest)
adds_allowed r k limit w [] rest each then = then
adds_allowed r k limit w (e ∷ es) rest each then = (each 0 e refl, adds_allowed r k limit (happens w (Add e)) es rest (λ i. each (suc i)) then)

entries_added : {S : Type 0} (w : Core S) (es : List (Entry S)) → (added w es).book.entries ≡ w.book.entries ++ es
entries_added w [] = sym (append-nil w.book.entries)
entries_added w (e ∷ es) = entries_added (happens w (Add e)) es ∙ append_assoc w.book.entries (e ∷ []) es

-- so many that aren't finished
abbrev open_list : ℕ → List (Option (List ℕ))
open_list n = replicate n None

finished_added : {S : Type 0} (w : Core S) (es : List (Entry S)) → (added w es).book.finished ≡ w.book.finished ++ open_list (length es)
finished_added w [] = sym (append-nil w.book.finished)
finished_added w (e ∷ es) = finished_added (happens w (Add e)) es ∙ append_assoc w.book.finished (None ∷ []) (open_list (length es))

-- from this place on, each is finished that the list says to be
abbrev finishes : {S : Type 0} → ℕ → List (Option (List ℕ)) → List (Event S)
finishes i [] = []
finishes i (None ∷ fs) = finishes (suc i) fs
finishes i (Some places ∷ fs) = Finish i places ∷ finishes (suc i) fs

pub middle : {X : Type 0} (xs ys : List X) (y : X) → slice_get (xs ++ y ∷ ys) (length xs) ≡ Some y
middle [] ys y = refl
middle (x ∷ xs) ys y = middle xs ys y

middle_set : {X : Type 0} (xs ys : List X) (y z : X) → slice_set (xs ++ y ∷ ys) (length xs) z ≡ xs ++ z ∷ ys
middle_set [] ys y z = refl
middle_set (x ∷ xs) ys y z = ap (λ l. x ∷ l) (middle_set xs ys y z)

length-one : {X : Type 0} (xs : List X) (x : X) → length (xs ++ x ∷ []) ≡ suc (length xs)
length-one [] x = refl
length-one (y ∷ xs) x = ap suc (length-one xs x)

-- the list is as far as the front, and open behind it
record IsAt {S : Type 0} (es : List (Entry S)) (front rest : List (Option (List ℕ))) (w : Core S) : Type 0 where
  entries : w.book.entries ≡ es
  finished : w.book.finished ≡ front ++ open_list (length rest)

-- what the events make of it
record Ends {S : Type 0} (r : Rules S) (k limit : ℕ) (es : List (Entry S)) (all : List (Option (List ℕ))) (w : Core S) (events : List (Event S)) : Type 0 where
  allowed : AreAllowed r k limit w events
  entries : (after_all w events).book.entries ≡ es
  finished : (after_all w events).book.finished ≡ all

ends_later : {S : Type 0} (r : Rules S) (k limit : ℕ) (es : List (Entry S)) (front : List (Option (List ℕ))) (f : Option (List ℕ)) (fs : List (Option (List ℕ))) (w : Core S) (events : List (Event S)) → Ends r k limit es ((front ++ f ∷ []) ++ fs) w events → Ends r k limit es (front ++ f ∷ fs) w events
ends_later r k limit es front f fs w events h = record { allowed = h.allowed; entries = h.entries; finished = h.finished ∙ append_assoc front (f ∷ []) fs }

ends : {S : Type 0} (r : Rules S) (k limit : ℕ) (es : List (Entry S)) (front rest : List (Option (List ℕ))) (w : Core S) → IsAt es front rest w → ((j : ℕ) (places : List ℕ) → slice_get rest j ≡ Some (Some places) → HasSuccessorsAt r es (length front + j) places) → Ends r k limit es (front ++ rest) w (finishes (length front) rest)
ends r k limit es front [] w at met = record { allowed = tt; entries = at.entries; finished = at.finished }
ends {S} r k limit es front (None ∷ fs) w at met =
    let longer = front ++ None ∷ [] in
    let next : IsAt es longer fs w = record { entries = at.entries; finished = at.finished ∙ sym (append_assoc front (None ∷ []) (open_list (length fs))) } in
    let count : length longer ≡ suc (length front) = length-one front None in
    let P : ℕ → Type 0 = λ n. Ends r k limit es (longer ++ fs) w (finishes n fs) in
    ends_later r k limit es front None fs w (finishes (suc (length front)) fs)
    (subst P count (ends r k limit es longer fs w next (λ j places h.
    (let same : length front + suc j ≡ length longer + j = omega (arith, count) in
    subst (λ n. HasSuccessorsAt r es n places) same (met (suc j) places h)))))
ends {S} r k limit es front (Some places ∷ fs) w at met =
    let longer = front ++ Some places ∷ [] in
    let after : Core S = happens w (Finish (length front) places) in
    let opened : slice_get w.book.finished (length front) ≡ Some None = ap (λ l. slice_get l (length front)) at.finished ∙ middle front (open_list (length fs)) None in
    let here : length front + 0 ≡ length front = omega arith in
    let done : HasSuccessorsAt r es (length front) places = subst (λ n. HasSuccessorsAt r es n places) here (met 0 places refl) in
    let next : IsAt es longer fs after = record {
      entries = at.entries;
      finished = ap (λ l. slice_set l (length front) (Some places)) at.finished ∙ middle_set front (open_list (length fs)) None (Some places) ∙ sym (append_assoc front (Some places ∷ []) (open_list (length fs)));
    } in
    let count : length longer ≡ suc (length front) = length-one front (Some places) in
    let P : ℕ → Type 0 = λ n. Ends r k limit es (longer ++ fs) after (finishes n fs) in
    let later : Ends r k limit es (longer ++ fs) after (finishes (suc (length front)) fs) =
    subst P count (ends r k limit es longer fs after next (λ j others h.
    (let same : length front + suc j ≡ length longer + j = omega (arith, count) in
    subst (λ n. HasSuccessorsAt r es n others) same (met (suc j) others h)))) in
    record {
      allowed = ((opened, subst (λ l. HasSuccessorsAt r l (length front) places) (sym at.entries) done), later.allowed);
      entries = later.entries;
      finished = later.finished ∙ append_assoc front (Some places ∷ []) fs;
    }

pub sound_reached : {S : Type 0} (r : Rules S) (k limit : ℕ) (b : Book S) → IsSound r k limit b → length b.finished ≡ length b.entries → IsReached r k limit b
sound_reached {S} r k limit b sound paired =
    let start : Core S = empty 0 0 in
    let all : Core S = added start b.entries in
    let opened : all.book.finished ≡ open_list (length b.finished) = finished_added start b.entries ∙ ap open_list (sym paired) in
    let h : Ends r k limit b.entries b.finished all (finishes 0 b.finished) =
    ends r k limit b.entries [] b.finished all (record { entries = entries_added start b.entries; finished = opened }) (λ j places at.
    (let same : j ≡ 0 + j = omega arith in
    subst (λ n. HasSuccessorsAt r b.entries n places) same (sound.met j places at))) in
    let events : List (Event S) = adds b.entries (finishes 0 b.finished) in
    let end = after_adds start b.entries (finishes 0 b.finished) in
    record {
      workers = 0;
      seats = 0;
      events = events;
      allowed = adds_allowed r k limit start b.entries (finishes 0 b.finished) sound.entry h.allowed;
      leads = ap (λ w. w.book) end ∙ (λ i. record { entries = h.entries i; finished = h.finished i });
    }
