-- *internal*: One slot of a lawful space is a lawful space (a law with its proof).
use Rattle.std.proofs.Common.{◌≡◌, ℕ, ◌<◌, Bool, true, false, if◌then◌else◌, arith, refl}
use Rattle.sched_core.specs.Rules.{Rules, IsLawful}
use Rattle.matching.specs.Slots.{one_slot}

-- at no mark the width is the space's own
width_there : (mark : Bool) (i w : ℕ) → i < (if mark then 0 else w) → i < w
width_there true i w h = absurd (omega (arith, h))
width_there false i w h = h

ends_there : (mark : Bool) (w : ℕ) → (w ≡ 0 → mark ≡ true) → (if mark then 0 else w) ≡ 0 → mark ≡ true
ends_there true w h e = refl
ends_there false w h e = h e

width_alike : (m n : Bool) (v w : ℕ) → m ≡ n → v ≡ w → (if m then 0 else v) ≡ (if n then 0 else w)
width_alike m n v w e d = λ i. if e i then 0 else d i

pub one_slot_is_lawful : {S : Type 0} (r : Rules S) (start : S) → IsLawful r → IsLawful (one_slot r start)
one_slot_is_lawful r start law = record {
  reflexive = law.reflexive;
  symmetric = law.symmetric;
  transitive = law.transitive;
  width_same = λ s t h. width_alike (r.mark s) (r.mark t) (r.width s) (r.width t) (law.mark_same s t h) (law.width_same s t h);
  mark_same = law.mark_same;
  after_same = λ s t i h w. law.after_same s t i h (width_there (r.mark s) i (r.width s) w);
  end_is_mark = λ s e. ends_there (r.mark s) (r.width s) (law.end_is_mark s) e;
}
