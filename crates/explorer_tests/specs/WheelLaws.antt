-- *internal*: The wheel is a lawful space: its equal states are the same.
use Rattle.std.proofs.Common.{◌≡◌, ℕ, Bool, true, ap, arith, subst}
use Rattle.std.proofs.lemmas.Bool.Decides.{nat_tests}
use Rattle.sched_core.specs.Rules.{IsLawful}
use Rattle.explorer_tests.specs.Wheels.{wheel_rules}

same_place : (places back : ℕ) (door : Bool) (s t : ℕ) → (wheel_rules places back door).same s t ≡ true → s ≡ t
same_place places back door s t h = grind (arith, nat_tests)

place_same : (places back : ℕ) (door : Bool) (s : ℕ) → (wheel_rules places back door).same s s ≡ true
place_same places back door s = grind (arith, nat_tests)

pub wheel_is_lawful : (places back : ℕ) (door : Bool) → IsLawful (wheel_rules places back door)
wheel_is_lawful places back door =
    let r = wheel_rules places back door in
    record {
      reflexive = place_same places back door;
      symmetric = λ s t h. grind (arith, nat_tests);
      transitive = λ s t u h k. grind (arith, nat_tests);
      width_same = λ s t h. ap r.width (same_place places back door s t h);
      mark_same = λ s t h. ap r.mark (same_place places back door s t h);
      after_same = λ s t i h lt. subst (λ (v : ℕ). r.same (r.after s i) (r.after v i) ≡ true) (same_place places back door s t h) (place_same places back door (r.after s i));
      end_is_mark = λ s h. grind (arith, nat_tests);
    }
