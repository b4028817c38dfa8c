-- *internal*: Bags are equal, and stand in an order, as their bytes say (laws with their proofs).
use Rattle.std.specs.Prelude.{◌≡◌, ℕ, List, nat_eq, Some, refl}
use Rattle.std.specs.Cmp.{IsEquivalence, IsTotalOrder, IsPartialOrder, decided, unsigned_Decides, partial_order_from_agreeing_total}
use Rattle.std.specs.Ordering.{nat_cmp, eq_by_cmp}
use Rattle.std.proofs.lemmas.Cmp.{nat_list_cmp_total, lists_total}
use Rattle.std.specs.Cmp.Lexicographic.{pointwise, slice_cmp, lists_ties, texts_ties}
use Rattle.sched_core.specs.Bags.{bag_cmp, lines_same}
use Rattle.sched_core.specs.Tests.{Tells, list_tells}

pub lines_tell : Tells lines_same
lines_tell = list_tells (pointwise nat_eq) (list_tells nat_eq unsigned_Decides)

pub lines_equivalent : IsEquivalence lines_same
lines_equivalent = decided lines_same lines_tell

pub bags_total : IsTotalOrder bag_cmp
bags_total = lists_total nat_list_cmp_total

-- two are equal where neither stands first
pub bags_tie : (a b : List (List ℕ)) → lines_same a b ≡ eq_by_cmp bag_cmp a b
bags_tie = lists_ties (slice_cmp nat_cmp) texts_ties

pub bags_ordered : IsPartialOrder lines_same (λ a b. Some (bag_cmp a b))
bags_ordered = partial_order_from_agreeing_total bag_cmp bags_total (λ a b. refl) bags_tie
