-- Why a list whose members are finished and name only members is a closed and sound book.
use Rattle.std.proofs.Common.{◌≡◌, ℕ, ◌+◌, ◌<◌, zero, suc, List, [], ◌∷◌, ◌++◌, length, slice_get, option_map, Option, Some, Contains, arith, ap, refl, sym, ◌∙◌, subst, inl, inr, length-append}
use Rattle.std.specs.List.{range_with_len}
use Rattle.std.proofs.lemmas.List.{length-map}
use Rattle.std.proofs.lemmas.List.FromFn.{get_or-range_with_len, length-range_with_len}
use Rattle.std.proofs.lemmas.Option.{same_Some, slice_get-get_or, slice_get-map}
use Rattle.basis.proofs.Lists.{last_or_before, listed_place, place_within}
use Rattle.sched_core.specs.Rules.{Rules}
use Rattle.statebook.specs.Books.{Book, IsClosedAt}
use Rattle.statebook.specs.ExplorerCore.{HasSuccessorsAt, IsEntry, IsSound}
use Rattle.statebook.specs.declared.entry.Entry.{Entry}
use Rattle.shardbook.specs.Closing.{Closing}
use Rattle.shardbook.specs.Finishes.{HasAllSuccessors, IsSuccessor}
use Rattle.shardbook.specs.StoredEntries.{StoredEntry, entries_of}
use Rattle.shardbook.specs.Inner.Scans.{AllDone, AllAmong, IsAmong, IsDone, IsStart}

-- a list that has at each place one of which P holds there
record Chosen {X : Type 0} (P : ℕ → X → Type 0) (n : ℕ) : Type 0 where
  list : List X
  count : length list ≡ n
  each : (i : ℕ) (x : X) → slice_get list i ≡ Some x → P i x

choose : {X : Type 0} (P : ℕ → X → Type 0) (n : ℕ) → ((i : ℕ) → i < n → (x : X) × P i x) → Chosen P n
choose P zero h = record { list = []; count = refl; each = λ i x at. absurd cc }
choose {X} P (suc n) h =
    let before : Chosen P n = choose P n (λ i lt. h i (omega (arith, lt))) in
    let last : (x : X) × P n x = h n (omega arith) in
    record {
      list = before.list ++ last.0 ∷ [];
      count = omega (arith, length-append before.list (last.0 ∷ []), before.count);
      each = λ i x at. elim (last_or_before before.list last.0 i x at) [
        | inl there ↦ before.each i x there
        | inr end ↦ (
            let Q : X → Type 0 = λ y. P i y in
            let R : ℕ → Type 0 = λ k. P k last.0 in
            subst Q end.1 (subst R (sym (end.0 ∙ before.count)) last.1))
      ];
    }

entry_of : {S : Type 0} (all : List (StoredEntry S)) (i : ℕ) (s : StoredEntry S) → slice_get all i ≡ Some s → slice_get (entries_of all) i ≡ Some s.entry
entry_of {S} all i s at = slice_get-map (λ (x : StoredEntry S). x.entry) all i ∙ ap (option_map (λ (x : StoredEntry S). x.entry)) at

-- an entry of the list was seen
race_values_of : {S : Type 0} (all : List (StoredEntry S)) (i : ℕ) (e : Entry S) → slice_get (entries_of all) i ≡ Some e → (s : StoredEntry S) × (slice_get all i ≡ Some s) × (s.entry ≡ e)
race_values_of {S} all i e at =
    let lt : i < length all = omega (arith, place_within (entries_of all) i e at, length-map all (λ (x : StoredEntry S). x.entry)) in
    let s = listed_place all i lt in
    (s.0, s.1, same_Some s.0.entry e (sym (entry_of all i s.0 s.1) ∙ at))

module _ {S : Type 0} (r : Rules S) (k limit : ℕ) (all : List (StoredEntry S)) where
  -- what a finished entry names: places of the list, one for each choice
  record Names (i : ℕ) (done : Option (List ℕ)) : Type 0 where
    places : List ℕ
    is : done ≡ Some places
    met : HasSuccessorsAt r (entries_of all) i places
    inside : (c j : ℕ) → slice_get places c ≡ Some j → j < length all

  module _ (i : ℕ) (s : StoredEntry S) (at : slice_get all i ≡ Some s) (next : List (StoredEntry S)) (met : HasAllSuccessors r s.entry (entries_of next)) (inside : AllAmong all next) where
    -- the place in the list of what choice c met
    abbrev Stands : ℕ → ℕ → Type 0
    Stands c j = (f : StoredEntry S) × (slice_get next c ≡ Some f) × (slice_get all j ≡ Some f)

    stands : (c : ℕ) → c < length next → (j : ℕ) × Stands c j
    stands c lt =
        let f = listed_place next c lt in
        let j = inside c f.0 f.1 in
        (j.0, (f.0, f.1, j.1))

    chosen : Chosen Stands (length next)
    chosen = choose Stands (length next) stands

    names : Names i (Some chosen.list)
    names = record {
      places = chosen.list;
      is = refl;
      met = record {
        entry = s.entry;
        at = entry_of all i s at;
        count = chosen.count ∙ sym (length-map next (λ (x : StoredEntry S). x.entry)) ∙ met.count;
        met = λ c j place. (
            let here = chosen.each c j place in
            let by : IsSuccessor r s.entry c here.0.entry = met.met c here.0.entry (entry_of next c here.0 here.1) in
            record { found = here.0.entry; at = entry_of all j here.0 here.2; steps = by.steps; next = by.next; dominates = by.dominates });
      };
      inside = λ c j place. (let here = chosen.each c j place in place_within all j here.0 here.2);
    }

  module _ (rules : Option (Rules S)) (known : rules ≡ Some r) (done : AllDone rules k limit all all) where
    named : (i : ℕ) → i < length all → (d : Option (List ℕ)) × Names i d
    named i lt =
        let s = listed_place all i lt in
        let one : IsDone rules k limit all s.0 = done i s.0 s.1 in
        (Some (chosen i s.0 s.1 one.next (one.met r known) one.inside).list, names i s.0 s.1 one.next (one.met r known) one.inside)

    finished : Chosen Names (length all)
    finished = choose Names (length all) named

    book : Book S
    book = record { entries = entries_of all; finished = finished.list }

    abbrev places : List ℕ
    places = range_with_len 0 (length (entries_of all))

    entries_len : length (entries_of all) ≡ length all
    entries_len = length-map all (λ (x : StoredEntry S). x.entry)

    in_places : (j : ℕ) → j < length all → Contains places j
    in_places j lt = (j, omega (arith, lt, entries_len, length-range_with_len 0 (length (entries_of all))), get_or-range_with_len 0 (length (entries_of all)) j j (omega (arith, lt, entries_len)) ∙ omega arith)

    -- a place of the range lies within the list
    place_in : (c j : ℕ) → slice_get places c ≡ Some j → j < length all
    place_in c j at =
        let lt : c < length (entries_of all) = omega (arith, place_within places c j at, length-range_with_len 0 (length (entries_of all))) in
        let same : Some j ≡ Some (0 + c) = sym at ∙ slice_get-get_or places c j (place_within places c j at) ∙ ap Some (get_or-range_with_len 0 (length (entries_of all)) c j lt) in
        let is : j ≡ 0 + c = same_Some j (0 + c) same in
        omega (arith, is, lt, entries_len)

    sound : IsSound r k limit book
    unfolding book
    sound = record {
      entry = λ i e at. (
          let s = race_values_of all i e at in
          let P : Entry S → Type 0 = λ x. IsEntry r k limit x in
          subst P s.2 ((done i s.0 s.1).wanted r known));
      met = λ i ps at. (
          let n : Names i (Some ps) = finished.each i (Some ps) at in
          let P : List ℕ → Type 0 = λ l. HasSuccessorsAt r (entries_of all) i l in
          subst P (same_Some n.places ps (sym n.is)) n.met);
    }

    closed_at : (j : ℕ) → j < length all → IsClosedAt finished.list places j
    closed_at j lt =
        let d = listed_place finished.list j (omega (arith, lt, finished.count)) in
        let n : Names j d.0 = finished.each j d.0 d.1 in
        record { places = n.places; at = d.1 ∙ ap Some n.is; inside = λ c q place. in_places q (n.inside c q place) }

    pub closing : (root : StoredEntry S) → IsStart root.entry → IsAmong all root → Closing r k limit root.entry (entries_of all)
    unfolding book
    closing root start among = record {
      book = book;
      entries_are = refl;
      sound = sound;
      place = among.0;
      root_is = entry_of all among.0 root among.1;
      closed = record {
        root_entry = record { entry = root.entry; at = entry_of all among.0 root among.1; log = start.log; steps = start.steps };
        root_inside = in_places among.0 (place_within all among.0 root among.1);
        members = λ c j at. closed_at j (place_in c j at);
      };
    }
