-- Why a look-up by codes misses no entry.
use Rattle.std.proofs.Common.{◌≡◌, ◌≢◌, ℕ, ◌+◌, ◌<◌, ◌≤◌, Bool, List, get_or, length, slice_get, option_map, Option, Some, None, IsTrue, arith, ap, sym, ◌∙◌, subst, inl, inr}
use Rattle.std.proofs.lemmas.List.{length-map}
use Rattle.std.proofs.lemmas.Option.{same_Some, slice_get-get_or, slice_get-map}
use Rattle.std.proofs.lemmas.Bool.{cases_lt}
use Rattle.basis.proofs.Lists.{place_within}
use Rattle.statebook.specs.Books.{Dominates, IsFoundAt}
use Rattle.statebook.specs.declared.entry.Entry.{Entry}
use Rattle.shardbook.specs.Inserts.{HasNone}
use Rattle.shardbook.specs.StoredEntries.{StoredEntry, entries_of}
use Rattle.shardbook.specs.Inner.Chained.{IsLast}
use Rattle.shardbook.specs.Inner.Codes.{code_of_writes, codes_of}

-- How far a look-up has come: from a place on no entry dominates, and below it the next one to look at is the last of the code.
pub record Searching {S : Type 0} (same : S → S → Bool) (entries : List (Entry S)) (codes : List ℕ) (code : ℕ) (e : Entry S) (place : Option ℕ) : Type 0 where
  pub upto : ℕ
  pub last : IsLast codes upto code place
  pub passed : (j : ℕ) (f : Entry S) → upto ≤ j → slice_get entries j ≡ Some f → ¬ Dominates same f e.state e.budget

-- how many places a look-up may still come to
abbrev pub places_left : Option ℕ → ℕ
places_left None = 0
places_left (Some i) = i + 1

-- the entry of what was seen at a place
pub entry_at : {S : Type 0} (tokens : List (StoredEntry S)) (i : ℕ) (s : StoredEntry S) → s ≡ get_or tokens i s → i < length tokens → slice_get (entries_of tokens) i ≡ Some s.entry
entry_at {S} tokens i s is lt =
    slice_get-map (λ (x : StoredEntry S). x.entry) tokens i
    ∙ ap (option_map (λ (x : StoredEntry S). x.entry)) (slice_get-get_or tokens i s lt ∙ ap Some (sym is))

module _ {S : Type 0} (same : S → S → Bool) (input : S → List (List ℕ)) (respects : (x y : S) → IsTrue (same x y) → input x ≡ input y) (tokens : List (StoredEntry S)) (codes : List ℕ) (chained : codes ≡ codes_of input (entries_of tokens)) (e : Entry S) (code : ℕ) (is : code ≡ code_of_writes (input e.state)) where
  pub count : length codes ≡ length tokens
  count = ap length chained ∙ length-map (entries_of tokens) (λ (x : Entry S). code_of_writes (input x.state)) ∙ length-map tokens (λ (x : StoredEntry S). x.entry)

  entry_within : (j : ℕ) (f : Entry S) → slice_get (entries_of tokens) j ≡ Some f → j < length codes
  entry_within j f at = omega (arith, count, length-map tokens (λ (x : StoredEntry S). x.entry), place_within (entries_of tokens) j f at)

  -- an entry of another code doesn't dominate
  other_code : (j : ℕ) (f : Entry S) → slice_get (entries_of tokens) j ≡ Some f → slice_get codes j ≢ Some code → ¬ Dominates same f e.state e.budget
  other_code j f at ne d =
      let here : slice_get (codes_of input (entries_of tokens)) j ≡ Some (code_of_writes (input f.state)) = slice_get-map (λ (x : Entry S). code_of_writes (input x.state)) (entries_of tokens) j ∙ ap (option_map (λ (x : Entry S). code_of_writes (input x.state))) at in
      let equal : code_of_writes (input f.state) ≡ code = ap code_of_writes (respects f.state e.state d.state) ∙ sym is in
      ne (ap (λ cs. slice_get cs j) chained ∙ here ∙ ap Some equal)

  pub search_starts : (place : Option ℕ) → IsLast codes (length codes) code place → Searching same (entries_of tokens) codes code e place
  search_starts place last = record {
    upto = length codes;
    last = last;
    passed = λ j f le at d. absurd (omega (arith, le, entry_within j f at));
  }

  pub search_within : (place : Option ℕ) (i : ℕ) → place ≡ Some i → Searching same (entries_of tokens) codes code e place → i < length codes
  search_within place i now s = let P : Option ℕ → Type 0 = λ p. IsLast codes s.upto code p in place_within codes i code (subst P now s.last).1

  pub search_found : (place : Option ℕ) (i : ℕ) → place ≡ Some i → Searching same (entries_of tokens) codes code e place → (s : StoredEntry S) → s ≡ get_or tokens i s → (f : Entry S) → f ≡ s.entry → Dominates same f e.state e.budget → IsFoundAt same (entries_of tokens) e i
  search_found place i now s stored_entry at f entry d = record {
    entry = f;
    at = entry_at tokens i stored_entry at (let lt = search_within place i now s in omega (arith, lt, count)) ∙ ap Some (sym entry);
    dominates = d;
  }

  pub search_steps : (place : Option ℕ) (i : ℕ) → place ≡ Some i → Searching same (entries_of tokens) codes code e place → (s : StoredEntry S) → s ≡ get_or tokens i s → (f : Entry S) → f ≡ s.entry → ¬ Dominates same f e.state e.budget → (next : Option ℕ) → ((c : ℕ) → slice_get codes i ≡ Some c → IsLast codes i c next) → Searching same (entries_of tokens) codes code e next
  search_steps place i now s stored_entry at f entry fails next before =
      let P : Option ℕ → Type 0 = λ p. IsLast codes s.upto code p in
      let last : IsLast codes s.upto code (Some i) = subst P now s.last in
      let lt : i < length tokens = (let lt = search_within place i now s in omega (arith, lt, count)) in
      record {
        upto = i;
        last = before code last.1;
        passed = λ j h le there d. elim (cases_lt i j) [
          | inl less ↦ elim (cases_lt j s.upto) [
            | inl below ↦ other_code j h there (last.2 j less below) d
            | inr above ↦ s.passed j h above there d
          ]
          | inr ge ↦ (
              let same_place : j ≡ i = omega arith in
              let one : Some h ≡ Some f = sym there ∙ ap (slice_get (entries_of tokens)) same_place ∙ entry_at tokens i stored_entry at lt ∙ ap Some (sym entry) in
              let Q : Entry S → Type 0 = λ x. Dominates same x e.state e.budget in
              fails (subst Q (same_Some h f one) d))
        ];
      }

  pub search_ends : (place : Option ℕ) → place ≡ None → Searching same (entries_of tokens) codes code e place → HasNone same (entries_of tokens) e
  search_ends place now s j f at d =
      let P : Option ℕ → Type 0 = λ p. IsLast codes s.upto code p in
      let none : IsLast codes s.upto code None = subst P now s.last in
      elim (cases_lt j s.upto) [
        | inl below ↦ other_code j f at (none j below) d
        | inr above ↦ s.passed j f above at d
      ]
