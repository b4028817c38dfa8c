-- What the sums of all workers tell, once their deques have settled.
use Rattle.std.proofs.Common.{◌≡◌, ℕ, ◌%◌, ◌^◌, ◌<◌, ◌⊎◌, inl, inr, List, Option, None, arith, sym, ◌∙◌}
use native.Mathlib.Nat.{mod-eq_of_lt}
use Rattle.basis.specs.declared.memory.NoMemory.{NoMemory}
use Rattle.atomic_table.specs.Seated.{TableId}
use Rattle.sched_core.specs.Rules.{Rules}
use Rattle.statebook.specs.declared.limits.Limits.{Limits}
use Rattle.workpool.specs.Rings.{AreBack, AreSettled}
use Rattle.workpool.specs.Runs.{IsRefused}
use Rattle.workpool.specs.Inner.Joined.{IsSummed, seats_put, seats_taken}
use Rattle.workpool.specs.Inner.Totals.{TellsSums}
use Rattle.workpool.specs.declared.ran.Ran.{Ran}
use Rattle.workpool.specs.declared.ring.Seat.{Seat}
use Rattle.workpool.specs.declared.sum.Sum.{Sum}
use Rattle.workpool.proofs.TimesLemmas.{put_back, taken_back, taken_fewer}

small : (a b : ℕ) → a ≡ b % 2 ^ 64 → b < 2 ^ 64 → a ≡ b
small a b is lt = is ∙ mod-eq_of_lt lt

pub sums_told : {S Q B : Type 0} (r : Rules S) (limits : Limits) (tally : TableId) (start : ℕ) (seats : List Seat) (sum : Sum B) (left : ℕ) (refused : Option NoMemory) (ran : Ran S Q B) → IsSummed r limits tally start seats sum → AreBack seats ran.deques.items → AreSettled ran.deques.items left → sum.pass.count < 2 ^ 64 → ran.opens ≡ sum.tally.opens % 2 ^ 64 → ran.given ≡ sum.given → ran.taken ≡ sum.taken → ran.shuts ≡ sum.tally.shuts % 2 ^ 64 → ran.pass.count ≡ sum.pass.count
    → (refused ≡ None → sum.refused ≡ None) → (refused ≡ None) ⊎ IsRefused ran.cut → TellsSums start ran
sums_told r limits tally start seats sum left refused ran h back settled bound opens_is given_is taken_is shuts_is count_is none cut =
    let opens : ran.opens ≡ sum.tally.opens = small ran.opens sum.tally.opens opens_is (omega (arith, bound, h.opens)) in
    let given : ran.given ≡ seats_put seats = small ran.given (seats_put seats) (given_is ∙ h.given) (omega (arith, bound, h.opens, h.fewer)) in
    let put = put_back seats ran.deques.items back in
    let out = taken_back seats ran.deques.items back in
    let fewer = taken_fewer ran.deques.items left settled in
    let taken : ran.taken ≡ seats_taken seats = small ran.taken (seats_taken seats) (taken_is ∙ h.taken) (omega (arith, bound, h.opens, h.fewer, put, out, fewer)) in
    record {
      opens = omega (arith, count_is, h.opens, opens);
      given = record {
        fewer = omega (arith, given, opens, h.fewer);
        all = elim cut [
          | inl nothing ↦ (let all = h.all (none nothing) in inl (given ∙ all ∙ sym opens))
          | inr memory ↦ inr memory
        ];
      };
      taken = omega (arith, taken, given, put, out, fewer);
      shuts = small ran.shuts sum.tally.shuts shuts_is (omega (arith, bound, h.opens, h.fewer, put, out, fewer, h.shut)) ∙ h.shut ∙ sym taken;
      jobs = record { given_is = given ∙ sym put; taken_is = taken ∙ sym out; left = settled.left; fair = settled.fair };
    }
