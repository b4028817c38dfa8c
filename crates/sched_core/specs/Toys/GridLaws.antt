-- *internal*: The board is a lawful space, and how far down a square is is its rank.
use Rattle.std.proofs.Common.{◌≡◌, ℕ, ◌<◌, ◌≤◌, true, ap, subst, arith}
use Rattle.std.proofs.lemmas.Bool.Decides.{nat_tests}
use Rattle.sched_core.specs.Ranks.{IsRanked}
use Rattle.sched_core.specs.Rules.{IsLawful, choice_at, stands}
use Rattle.sched_core.specs.Toys.Grids.{grid_rules}
use Rattle.sched_core.specs.declared.grid.Square.{Square}

pub same_square : (right down : ℕ) (s t : Square) → (grid_rules right down).same s t ≡ true → s ≡ t
same_square right down s t h =
    let x : s.x ≡ t.x = grind (arith, nat_tests) in
    let y : s.y ≡ t.y = grind (arith, nat_tests) in
    λ i. record { x = x i; y = y i }

pub square_same : (right down : ℕ) (s : Square) → (grid_rules right down).same s s ≡ true
square_same right down s = grind (arith, nat_tests)

pub grid_is_lawful : (right down : ℕ) → IsLawful (grid_rules right down)
grid_is_lawful right down = record {
  reflexive = square_same right down;
  symmetric = λ s t h. subst (λ (u : Square). (grid_rules right down).same u s ≡ true) (same_square right down s t h) (square_same right down s);
  transitive = λ s t u h k. subst (λ (v : Square). (grid_rules right down).same s v ≡ true) (same_square right down t u k) h;
  width_same = λ s t h. ap (grid_rules right down).width (same_square right down s t h);
  mark_same = λ s t h. ap (grid_rules right down).mark (same_square right down s t h);
  after_same = λ s t i h w. subst (λ (v : Square). (grid_rules right down).same ((grid_rules right down).after s i) ((grid_rules right down).after v i) ≡ true) (same_square right down s t h) (square_same right down ((grid_rules right down).after s i));
  end_is_mark = λ s h. grind (arith, nat_tests);
}

falls_never : (right down : ℕ) (s : Square) (i : ℕ) → i < (grid_rules right down).width s → s.y ≤ ((grid_rules right down).after s i).y
falls_never right down s i w = grind (arith, nat_tests)

pub grid_is_ranked : (right down : ℕ) → IsRanked (grid_rules right down) (λ s. s.y)
grid_is_ranked right down = record {
  rank_same = λ s t h. ap (λ (u : Square). u.y) (same_square right down s t h);
  rises = λ log n run. falls_never right down (stands (grid_rules right down) log n) (choice_at log n) (run n (omega arith));
}
