-- A slot's runs are stretches of the space's runs, and the other way round.
use Rattle.std.proofs.Common.{◌≡◌, ℕ, ◌+◌, ◌-◌, ◌<◌, ◌≤◌, zero, suc, Bool, true, false, if◌then◌else◌, List, arith, ap, refl, sym, ◌∙◌}
use Rattle.std.proofs.Common.{subst}
use Rattle.sched_core.specs.Rules.{Rules, IsLawful, stands, choice_at, IsRun, NamesBelow}
use Rattle.matching.specs.Slots.{one_slot}
use Rattle.matching.specs.Explained.{EndsSlots, NoEndWithin}
use Rattle.matching.specs.Inner.Slots.{EndsSlot}
use Rattle.matching.proofs.JoinedLogs.{between, between_choice, between_names}

-- The two logs choose alike below a step.
abbrev pub ChooseAlike : List (ℕ × ℕ) → List (ℕ × ℕ) → ℕ → Type 0
ChooseAlike a b n = (k : ℕ) → k < n → choice_at a k ≡ choice_at b k

pub stands_alike : {S : Type 0} (r : Rules S) (a b : List (ℕ × ℕ)) (n k : ℕ) → ChooseAlike a b n → k ≤ n → stands r a k ≡ stands r b k
stands_alike r a b n zero alike le = refl
stands_alike r a b n (suc k) alike le =
    let before = stands_alike r a b n k alike (omega (arith, le)) in
    let here = alike k (omega (arith, le)) in
    λ i. r.after (before i) (here i)

pub run_alike : {S : Type 0} (r : Rules S) (a b : List (ℕ × ℕ)) (n : ℕ) → ChooseAlike a b n → IsRun r a n → IsRun r b n
run_alike r a b n alike run k lt =
    let there : stands r a k ≡ stands r b k = stands_alike r a b n k alike (omega (arith, lt)) in
    let widths : r.width (stands r a k) ≡ r.width (stands r b k) = ap r.width there in
    omega (arith, run k lt, alike k lt, widths)

-- of a run the first steps are one
pub run_front : {S : Type 0} (r : Rules S) (log : List (ℕ × ℕ)) (n k : ℕ) → IsRun r log n → k ≤ n → IsRun r log k
run_front r log n k run le j lt = run j (omega (arith, lt, le))

-- where no slot ends the rank stays
pub rank_stays : {S : Type 0} (r : Rules S) (rank : S → ℕ) → EndsSlots r rank → (log : List (ℕ × ℕ)) (i c : ℕ) → IsRun r log (i + c) →
    NoEndWithin r log i (i + c) → rank (stands r log (i + c)) ≡ rank (stands r log i)
rank_stays r rank ends log i zero run none =
    let same : i + 0 ≡ i = omega arith in
    rw same refl
rank_stays r rank ends log i (suc c) run none =
    let next : i + suc c ≡ suc (i + c) = omega arith in
    let whole : IsRun r log (suc (i + c)) = subst (λ n. IsRun r log n) next run in
    let before = rank_stays r rank ends log i c (run_front r log (suc (i + c)) (i + c) whole (omega arith))
    (λ m le lt. none m le (omega (arith, lt))) in
    rw next (ends.stays log (i + c) whole (none (i + c) (omega arith) (omega arith)) ∙ before)

-- The slot's log chooses as the log does from step n on.
abbrev pub ChoosesFrom : List (ℕ × ℕ) → List (ℕ × ℕ) → ℕ → ℕ → Type 0
ChoosesFrom slot log n c = (k : ℕ) → k < c → choice_at slot k ≡ choice_at log (n + k)

-- where the width of a slot's state is more than 0 it is the space's own, and the state is no mark
pub open_there : (mark : Bool) (i w : ℕ) → i < (if mark then 0 else w) → (mark ≡ false) × (i < w)
open_there true i w h = absurd (omega (arith, h))
open_there false i w h = (refl, h)

pub width_of_open : (mark : Bool) (i w : ℕ) → mark ≡ false → i < w → i < (if mark then 0 else w)
width_of_open true i w e h = absurd cc
width_of_open false i w e h = h

module _ {S : Type 0} (r : Rules S) (law : IsLawful r) (start : S) (slot log : List (ℕ × ℕ)) (n c : ℕ)
    (first : r.same start (stands r log n) ≡ true) (alike : ChoosesFrom slot log n c) where
  -- a slot's run is a stretch
  pub along : IsRun (one_slot r start) slot c → (k : ℕ) → k ≤ c → r.same (stands (one_slot r start) slot k) (stands r log (n + k)) ≡ true
  along run zero le =
      let same : n + 0 ≡ n = omega arith in
      rw same first
  along run (suc k) le =
      let next : n + suc k ≡ suc (n + k) = omega arith in
      let before = along run k (omega (arith, le)) in
      let s : S = stands (one_slot r start) slot k in
      let lt = (open_there (r.mark s) (choice_at slot k) (r.width s) (run k (omega (arith, le)))).1 in
      let P : ℕ → Type 0 = λ i. r.same (r.after s (choice_at slot k)) (r.after (stands r log (n + k)) i) ≡ true in
      rw next (subst P (alike k (omega (arith, le))) (law.after_same s (stands r log (n + k)) (choice_at slot k) before lt))

  pub along_run : IsRun (one_slot r start) slot c → (k : ℕ) → k < c → choice_at log (n + k) < r.width (stands r log (n + k))
  along_run run k lt =
      let s : S = stands (one_slot r start) slot k in
      let widths : r.width s ≡ r.width (stands r log (n + k)) = law.width_same s (stands r log (n + k)) (along run k (omega (arith, lt)))
      in
      omega (arith, (open_there (r.mark s) (choice_at slot k) (r.width s) (run k lt)).1, widths, alike k lt)

  -- no slot ends before
  pub along_open : IsRun (one_slot r start) slot c → NoEndWithin r log n (n + c)
  along_open run m le lt =
      let whole : n + (m - n) ≡ m = omega (arith, le) in
      let short : m - n < c = omega (arith, le, lt) in
      let s : S = stands (one_slot r start) slot (m - n) in
      let P : ℕ → Type 0 = λ j. r.mark (stands r log j) ≡ false in
      subst P whole (sym (law.mark_same s (stands r log (n + (m - n))) (along run (m - n) (omega (arith, short)))) ∙
      (open_there (r.mark s) (choice_at slot (m - n)) (r.width s) (run (m - n) short)).0)

  -- and a stretch in which no slot ends is a slot's run
  pub back : IsRun r log (n + c) → NoEndWithin r log n (n + c) → (k : ℕ) → k ≤ c →
      r.same (stands (one_slot r start) slot k) (stands r log (n + k)) ≡ true
  back run none zero le =
      let same : n + 0 ≡ n = omega arith in
      rw same first
  back run none (suc k) le =
      let next : n + suc k ≡ suc (n + k) = omega arith in
      let before = back run none k (omega (arith, le)) in
      let s : S = stands (one_slot r start) slot k in
      let t : S = stands r log (n + k) in
      let widths : r.width s ≡ r.width t = law.width_same s t before in
      let lt : choice_at slot k < r.width s = omega (arith, run (n + k) (omega (arith, le)), widths, alike k (omega (arith, le))) in
      let P : ℕ → Type 0 = λ i. r.same (r.after s (choice_at slot k)) (r.after t i) ≡ true in
      rw next (subst P (alike k (omega (arith, le))) (law.after_same s t (choice_at slot k) before lt))

  pub back_run : IsRun r log (n + c) → NoEndWithin r log n (n + c) → IsRun (one_slot r start) slot c
  back_run run none k lt =
      let s : S = stands (one_slot r start) slot k in
      let t : S = stands r log (n + k) in
      let before = back run none k (omega (arith, lt)) in
      let widths : r.width s ≡ r.width t = law.width_same s t before in
      let unmarked : r.mark s ≡ false = law.mark_same s t before ∙ none (n + k) (omega arith) (omega (arith, lt)) in
      width_of_open (r.mark s) (choice_at slot k) (r.width s) unmarked (omega (arith, run (n + k) (omega (arith, lt)), widths, alike k lt))

-- the stretch of a run up to the next end of a slot, as that slot's run
pub stretch : {S : Type 0} (r : Rules S) → IsLawful r → (start : S) (log : List (ℕ × ℕ)) (n c : ℕ) →
    r.same start (stands r log n) ≡ true → IsRun r log (n + c) → NoEndWithin r log n (n + c) → r.mark (stands r log (n + c)) ≡ true →
    EndsSlot r start (between n (n + c) log) c (stands r log (n + c))
stretch r law start log n c first run none mark =
    let alike : ChoosesFrom (between n (n + c) log) log n c = λ k lt. between_choice log n (n + c) k (omega (arith, lt)) in
    let s = stands (one_slot r start) (between n (n + c) log) c in
    let there : r.same s (stands r log (n + c)) ≡ true = back r law start (between n (n + c) log) log n c first alike run none c
    (omega arith) in
    let count : n + c - n ≡ c = omega arith in
    record {
      run = back_run r law start (between n (n + c) log) log n c first alike run none;
      names = subst (λ k. NamesBelow (between n (n + c) log) k) count (between_names log n (n + c));
      mark = law.mark_same s (stands r log (n + c)) there ∙ mark;
      at = law.symmetric s (stands r log (n + c)) there;
    }
