-- What pieces that were read one after another show.
use Rattle.std.proofs.Common.{◌≡◌, ℕ, ◌<◌, ◌≤◌, max, nat_lt, true, false, if◌then◌else◌, List, [], ◌∷◌, ◌++◌, zero, suc, inl, inr, arith, ap, refl, sym, ◌∙◌}
use Rattle.std.specs.Prelude.{slice_get, Some}
use Rattle.std.proofs.lemmas.Bool.Decides.{nat_tests}
use Rattle.std.proofs.lemmas.List.{length-append}
use Rattle.std.proofs.lemmas.Option.{none-some, same_Some}
use Rattle.basis.proofs.Lists.{last_or_before}
use Rattle.matching.specs.Answers.{HaveComeButLast, ReadsMore}
use Rattle.matching.specs.Explained.{Piece, differ_at, latest_time}
use Rattle.matching.specs.Inner.Reading.{HasRead, last_piece}

-- a later piece changes nothing before its time
pub shown_before : {S : Type 0} (first : Piece S) (ps : List (Piece S)) (p : Piece S) (v : ℕ) (s : S) → v < p.from →
    differ_at first (ps ++ p ∷ []) v s ≡ differ_at first ps v s
shown_before first [] p v s lt =
    let before : nat_lt v p.from ≡ true = grind (arith, nat_tests, lt) in
    rw before refl
shown_before first (q ∷ ps) p v s lt = ap (λ d. if nat_lt v q.from then first.differ s else d) (shown_before q ps p v s lt)

pub latest_time-least : {S : Type 0} (start : ℕ) (ps : List (Piece S)) → start ≤ latest_time start ps
latest_time-least start [] = omega arith
latest_time-least start (p ∷ ps) = omega (arith, latest_time-least (max start p.from) ps)

-- where all have come the last one is shown
pub shown_last : {S : Type 0} (first : Piece S) (start : ℕ) (ps : List (Piece S)) (v : ℕ) (s : S) → latest_time start ps ≤ v →
    differ_at first ps v s ≡ (last_piece first ps).differ s
shown_last first start [] v s le = refl
shown_last first start (p ∷ ps) v s le =
    let there : p.from ≤ v = omega (arith, latest_time-least (max start p.from) ps, le) in
    let come : nat_lt v p.from ≡ false = grind (arith, nat_tests, there) in
    rw come (shown_last p (max start p.from) ps v s le)

pub latest_time-more : {S : Type 0} (start : ℕ) (ps : List (Piece S)) (p : Piece S) →
    latest_time start (ps ++ p ∷ []) ≡ max (latest_time start ps) p.from
latest_time-more start [] p = refl
latest_time-more start (q ∷ ps) p = latest_time-more (max start q.from) ps p

-- each of them has come by then
pub come_by : {S : Type 0} (start : ℕ) (ps : List (Piece S)) (v i : ℕ) (p : Piece S) → latest_time start ps ≤ v → slice_get ps i ≡ Some p → p.from ≤ v
come_by start [] v i p le at = absurd (none-some p at)
come_by {S} start (q ∷ ps) v zero p le at =
    omega (arith, latest_time-least (max start q.from) ps, le, ap (λ (x : Piece S). x.from) (same_Some q p at))
come_by start (q ∷ ps) v (suc i) p le at = come_by (max start q.from) ps v i p le at

-- where a piece more was read, all but that one had
pub come_but_last : {S : Type 0} (start : ℕ) (ps : List (Piece S)) (q : Piece S) (v : ℕ) → latest_time start ps ≤ v →
    HaveComeButLast (ps ++ q ∷ []) v
come_but_last start ps q v le i p at before = elim (last_or_before ps q i p at) [
  | inl there ↦ come_by start ps v i p le there
  | inr last ↦ absurd (omega (arith, last.0, before, length-append ps (q ∷ [])))
]

pub last_piece-more : {S : Type 0} (first : Piece S) (ps : List (Piece S)) (p : Piece S) → last_piece first (ps ++ p ∷ []) ≡ p
last_piece-more first [] p = refl
last_piece-more first (q ∷ ps) p = last_piece-more q ps p

-- one piece more was read
pub read_more : {R S : Type 0} (piece : R → Piece S) (reads : R → List (Piece S) → R → Type 0) (first : R) (start v w : ℕ) (old new : R)
    → HasRead piece reads first start v old → ReadsMore reads old (piece new) new → v ≤ w → (piece new).from ≤ w →
    HasRead piece reads first start w new
read_more piece reads first start v w old new h on le from = record {
  pieces = h.pieces ++ piece new ∷ [];
  read = on first h.pieces h.read;
  last = sym (last_piece-more (piece first) h.pieces (piece new));
  within = omega (arith, latest_time-more start h.pieces (piece new), h.within, le, from);
}

-- at the time up to which it was read, and behind it, the last piece is shown
pub shows_last : {R S : Type 0} (piece : R → Piece S) (reads : R → List (Piece S) → R → Type 0) (first : R) (start v : ℕ) (now : R)
    (h : HasRead piece reads first start v now) (w : ℕ) (s : S) → v ≤ w → differ_at (piece first) h.pieces w s ≡ (piece now).differ s
shows_last {R} {S} piece reads first start v now h w s le = shown_last (piece first) start h.pieces w s (omega (arith, h.within, le)) ∙
    ap (λ (p : Piece S). p.differ s) (sym h.last)
