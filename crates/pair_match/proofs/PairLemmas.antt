-- What two references show as one, as they are read.
use Rattle.std.specs.Prelude.{slice_get}
use Rattle.std.proofs.Common.{◌≡◌, ℕ, zero, suc, ◌<◌, ◌≤◌, ◌⊎◌, inl, inr, max, List, [], ◌∷◌, ◌++◌, Option, Some, arith, ap, refl, sym, ◌∙◌, subst}
use Rattle.std.proofs.lemmas.Bool.{cases_lt}
use Rattle.std.proofs.lemmas.Option.{same_Some}
use Rattle.matching.specs.Answers.{IsLater, ReadsMore}
use Rattle.matching.specs.Explained.{Piece, differ_at, latest_time}
use Rattle.matching.specs.Inner.Reading.{last_piece}
use Rattle.matching.proofs.PieceLemmas.{come_by, last_piece-more, latest_time-least, latest_time-more, shown_before, shown_last}
use Rattle.pair_match.specs.Pairs.{GoesTo, ReadsBoth, next_in, piece_in, shown_since, together}
use Rattle.pair_match.specs.declared.pair.PairReference.{PairReference}
use Rattle.pair_match.proofs.TimeLemmas.{is_of_one, since_read}

-- each piece of both has come by a time
come_both : {S : Type 0} (start : ℕ) (ps qs : List (Piece S)) (v i : ℕ) (p : Piece S) → latest_time start ps ≤ v → latest_time 0 qs ≤ v →
    slice_get (ps ++ qs) i ≡ Some p → p.from ≤ v
come_both start [] qs v i p le other at = come_by 0 qs v i p other at
come_both {S} start (q ∷ ps) qs v zero p le other at =
    omega (arith, latest_time-least (max start q.from) ps, le, ap (λ (x : Piece S). x.from) (same_Some q p at))
come_both start (q ∷ ps) qs v (suc i) p le other at = come_both (max start q.from) ps qs v i p le other at

-- One of the two was read up to a time: its pieces, the last of which is shown from then on; before nothing changes.
pub record GoesOn {R S : Type 0} (piece : R → Piece S) (upcoming : R → Option ℕ) (reads : R → List (Piece S) → R → Type 0) (start : R)
    (ps : List (Piece S)) (old new : R) (v : ℕ) : Type 0 where
  pub more : List (Piece S)
  pub read : reads start more new
  pub last : piece new ≡ last_piece (piece start) more
  pub before : (w : ℕ) (s : S) → w < v → differ_at (piece start) more w s ≡ differ_at (piece start) ps w s
  pub upper : (w : ℕ) → latest_time w more ≤ max (latest_time w ps) v
  pub lower : (w : ℕ) → latest_time w ps ≤ latest_time w more
  pub there : upcoming old ≡ Some v → (w : ℕ) → v ≤ latest_time w more

pub goes_on : {R S : Type 0} (piece : R → Piece S) (upcoming : R → Option ℕ) (reads : R → List (Piece S) → R → Type 0) (start : R)
    (ps : List (Piece S)) (old new : R) (v : ℕ) → reads start ps old → piece old ≡ last_piece (piece start) ps → IsLater (upcoming new) v →
    GoesTo piece reads v old new → GoesOn piece upcoming reads start ps old new v
goes_on {R} {S} piece upcoming reads start ps old new v read last later (inl same) = record {
  more = ps;
  read = subst (λ (x : R). reads start ps x) (sym same) read;
  last = ap piece same ∙ last;
  before = λ w s lt. refl;
  upper = λ w. omega arith;
  lower = λ w. omega arith;
  there = λ is w. absurd (omega (arith, later v (ap upcoming same ∙ is)));
}
goes_on {R} {S} piece upcoming reads start ps old new v read last later (inr (from, on)) = record {
  more = ps ++ piece new ∷ [];
  read = on start ps read;
  last = sym (last_piece-more (piece start) ps (piece new));
  before = λ w s lt. shown_before (piece start) ps (piece new) w s (omega (arith, lt, from));
  upper = λ w. omega (arith, latest_time-more w ps (piece new), from);
  lower = λ w. omega (arith, latest_time-more w ps (piece new), from);
  there = λ is w. omega (arith, latest_time-more w ps (piece new), from);
}

-- from that time on its last piece is shown
shows_new : {R S : Type 0} (piece : R → Piece S) (start : R) (ps : List (Piece S)) (new : R) (w : ℕ) (s : S) →
    piece new ≡ last_piece (piece start) ps → latest_time 0 ps ≤ w → differ_at (piece start) ps w s ≡ (piece new).differ s
shows_new {R} {S} piece start ps new w s last le = shown_last (piece start) 0 ps w s le ∙ ap (λ (p : Piece S). p.differ s) (sym last)

-- the later of what was the later, and of the time
later_still : (p a b c d v : ℕ) → p ≡ max a b → c ≤ max a v → a ≤ c → d ≤ max b v → b ≤ d → (v ≤ c) ⊎ (v ≤ d) → max p v ≡ max c d
later_still p a b c d v is upper lower upper_other lower_other (inl there) = omega (arith, is, upper, lower, upper_other, lower_other, there)
later_still p a b c d v is upper lower upper_other lower_other (inr there) = omega (arith, is, upper, lower, upper_other, lower_other, there)

module _ {R S : Type 0} (piece : R → Piece S) (upcoming : R → Option ℕ) (reads : R → List (Piece S) → R → Type 0) (old new : PairReference R)
    (v : ℕ) (next : next_in upcoming old ≡ Some v) (later : (piece_in piece upcoming old).from < v) (is : new.time ≡ v) where
  -- both show their last pieces as one
  shows_both : (first : PairReference R) (pieces : List (Piece S)) (h : ReadsBoth piece upcoming reads first pieces old) →
      (piece_in piece upcoming new).from ≡ v →
      (g : GoesOn piece upcoming reads first.first h.of_first old.first new.first v) →
      (k : GoesOn piece upcoming reads first.second h.of_second old.second new.second v) → (w : ℕ) (s : S) →
      differ_at (piece_in piece upcoming first) (pieces ++ piece_in piece upcoming new ∷ []) w s ≡
      together (differ_at (piece first.first) g.more w s) (differ_at (piece first.second) k.more w s)
  shows_both first pieces h from g k w s = elim (cases_lt w v) [
    | inl lt ↦ shown_before (piece_in piece upcoming first) pieces (piece_in piece upcoming new) w s (omega (arith, lt, from)) ∙
        h.both w s ∙ (λ i. together (sym (g.before w s lt) i) (sym (k.before w s lt) i))
    | inr le ↦ shown_last (piece_in piece upcoming first) 0 (pieces ++ piece_in piece upcoming new ∷ []) w s
        (omega (arith, latest_time-more 0 pieces (piece_in piece upcoming new), from, h.come, later, le)) ∙
        ap (λ (p : Piece S). p.differ s) (last_piece-more (piece_in piece upcoming first) pieces (piece_in piece upcoming new)) ∙
        (λ i. together
        (sym (shows_new piece first.first g.more new.first w s g.last (omega (arith, g.upper 0, h.latest 0, h.come, later, le))) i)
        (sym (shows_new piece first.second k.more new.second w s k.last (omega (arith, k.upper 0, h.latest 0, h.come, later, le))) i))
  ]

  pub reads_on : GoesTo piece reads v old.first new.first → IsLater (upcoming new.first) v → GoesTo piece reads v old.second new.second →
      IsLater (upcoming new.second) v → ReadsMore (ReadsBoth piece upcoming reads) old (piece_in piece upcoming new) new
  reads_on one later_one other later_other first pieces h =
      let g = goes_on piece upcoming reads first.first h.of_first old.first new.first v h.read_first h.last_first later_one one in
      let k = goes_on piece upcoming reads first.second h.of_second old.second new.second v h.read_second h.last_second later_other other in
      let from : (piece_in piece upcoming new).from ≡ v = ap (λ (t : ℕ). shown_since t (next_in upcoming new)) is ∙
      since_read (upcoming new.first) (upcoming new.second) v later_one later_other in
      let upper : latest_time 0 g.more ≤ v = omega (arith, g.upper 0, h.latest 0, h.come, later) in
      let upper_other : latest_time 0 k.more ≤ v = omega (arith, k.upper 0, h.latest 0, h.come, later) in
      record {
        of_first = g.more;
        of_second = k.more;
        read_first = g.read;
        read_second = k.read;
        both = shows_both first pieces h from g k;
        latest = λ w. latest_time-more w pieces (piece_in piece upcoming new) ∙ ap (max (latest_time w pieces)) from ∙
            later_still (latest_time w pieces) (latest_time w h.of_first) (latest_time w h.of_second) (latest_time w g.more)
            (latest_time w k.more) v (h.latest w) (g.upper w) (g.lower w) (k.upper w) (k.lower w)
            (elim (is_of_one (upcoming old.first) (upcoming old.second) v next) [ inl a ↦ inl (g.there a w) | inr b ↦ inr (k.there b w) ]);
        ahead_first = λ i p at t next. omega (arith, later_one t next, come_both 0 g.more k.more v i p upper upper_other at);
        ahead_second = λ i p at t next. omega (arith, later_other t next, come_both 0 g.more k.more v i p upper upper_other at);
        last_first = g.last;
        last_second = k.last;
        come = omega (arith, latest_time-more 0 pieces (piece_in piece upcoming new), from, h.come, later);
      }
