-- Why a shard stays one where an entry is put last that none of it dominates.
use Rattle.std.proofs.Common.{◌≡◌, ℕ, ◌+◌, ◌<◌, Bool, List, [], ◌∷◌, ◌++◌, length, arith, ap, sym, ◌∙◌, subst, inl, inr, length-append}
use Rattle.basis.proofs.Lists.{last_or_before, place_within}
use Rattle.statebook.specs.Books.{Dominates, IsUndominated}
use Rattle.statebook.specs.declared.entry.Entry.{Entry}
use Rattle.statebook.proofs.BookLemmas.{map-append_one}
use Rattle.shardbook.specs.Inserts.{HasNone}
use Rattle.shardbook.specs.StoredEntries.{StoredEntry, entries_of}
use Rattle.shardbook.specs.Inner.Codes.{code_of_writes}
use Rattle.shardbook.specs.Inner.Shards.{IsShard}

still_undominated : {S : Type 0} (same : S → S → Bool) (entries : List (Entry S)) (e : Entry S) → IsUndominated same entries → HasNone same entries e → IsUndominated same (entries ++ e ∷ [])
still_undominated {S} same entries e u none = record {
  later = λ i j f h lt at there d. elim (last_or_before entries e j h there) [
    | inl before ↦ (
        let within : j < length entries = place_within entries j h before in
        elim (last_or_before entries e i f at) [
          | inl earlier ↦ u.later i j f h lt earlier before d
          | inr last ↦ absurd (omega (arith, last.0))
        ])
    | inr last ↦ elim (last_or_before entries e i f at) [
      | inl earlier ↦ (let P : Entry S → Type 0 = λ x. Dominates same f x.state x.budget in none i f earlier (subst P (sym last.1) d))
      | inr both ↦ absurd (omega (arith, last.0, both.0))
    ]
  ];
}

grows : {S : Type 0} (same : S → S → Bool) (input : S → List (List ℕ)) (entries : List (Entry S)) (codes : List ℕ) (parts amount : ℕ) (e : Entry S) → IsShard same input entries codes parts amount → HasNone same entries e → IsShard same input (entries ++ e ∷ []) (codes ++ code_of_writes (input e.state) ∷ []) parts (amount + 1)
grows {S} same input entries codes parts amount e s none = record {
  chained = ap (λ cs. cs ++ code_of_writes (input e.state) ∷ []) s.chained ∙ sym (map-append_one (λ (x : Entry S). code_of_writes (input x.state)) entries e);
  undominated = still_undominated same entries e s.undominated none;
  part = s.part;
  counted = omega (arith, s.counted, length-append entries (e ∷ []));
}

-- A New answer: what was seen of the entry is put last, and its code; the share has one more.
pub shard_grows : {S : Type 0} (same : S → S → Bool) (input : S → List (List ℕ)) (tokens held grown : List (StoredEntry S)) (codes kept more : List ℕ) (parts amount parts' amount' : ℕ) (e : Entry S) (s : StoredEntry S) (code : ℕ)
    → IsShard same input (entries_of tokens) codes parts amount → HasNone same (entries_of tokens) e
    → s.entry ≡ e → code ≡ code_of_writes (input e.state) → grown ≡ held ++ s ∷ [] → held ≡ tokens → more ≡ kept ++ code ∷ [] → kept ≡ codes → parts' ≡ parts → amount' ≡ amount + 1
    → IsShard same input (entries_of grown) more parts' amount'
shard_grows {S} same input tokens held grown codes kept more parts amount parts' amount' e s code shard none entry is seen holds coded keeps part count =
    let entries : entries_of grown ≡ entries_of tokens ++ e ∷ [] =
    ap entries_of seen ∙ map-append_one (λ (x : StoredEntry S). x.entry) held s ∙ ap (λ l. entries_of l ++ s.entry ∷ []) holds ∙ ap (λ x. entries_of tokens ++ x ∷ []) entry in
    let chain : more ≡ codes ++ code_of_writes (input e.state) ∷ [] = coded ∙ ap (λ l. l ++ code ∷ []) keeps ∙ ap (λ c. codes ++ c ∷ []) is in
    rw (entries, chain, part, count) (grows same input (entries_of tokens) codes parts amount e shard none)
