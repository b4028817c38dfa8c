-- The sums of where the processes stand, and of the turns that are left.
use Rattle.std.proofs.Common.{◌≡◌, ℕ, ◌+◌, ◌%◌, ◌^◌, ◌<◌, false, nat_eq, List, ◌∷◌, length}
use Rattle.std.specs.Prelude.{slice_set, slice_index_or}
use Rattle.std.specs.Cmp.{unsigned_Decides}
use Rattle.std.specs.Cmp.Lexicographic.{pointwise}
use Rattle.sched_core.specs.Tests.{list_tells}
use Rattle.vcode.specs.declared.point.Point.{Point}
use Rattle.vcode.specs.Points.{is_same_point}
use Rattle.vkernel.proofs.SumLemmas.{kept, next, opens, share_fits, told_apart}
use Rattle.vkernel.specs.Sums.{sum_from, with_share}
use Rattle.vflat.specs.FlatSame.{points_tell, point_word, point_share, points_sum, turns_share, turns_sum}

point_fits : (process : ℕ) (point : Point) → point_share process point < 2 ^ 64
point_fits process point = share_fits process (point_word point) 0

pub points_kept : (points : List Point) (n : ℕ) (old new d : Point) (sum a b result : ℕ) → n < length points → old ≡ slice_index_or points n d
    → sum ≡ points_sum points → a ≡ point_share n old → b ≡ point_share n new → result ≡ with_share sum a b → result ≡ points_sum (slice_set points n new)
points_kept = kept point_share point_fits

pub points_next : (sum process : ℕ) (point : Point) (points : List Point)
    → (sum + sum_from point_share process (point ∷ points)) % 2 ^ 64
    ≡ ((sum + point_share process point) % 2 ^ 64 + sum_from point_share (process + 1) points) % 2 ^ 64
points_next = next point_share point_fits

pub points_open : (points : List Point) → (0 + points_sum points) % 2 ^ 64 ≡ points_sum points
points_open = opens point_share point_fits

pub points_apart : (xs ys : List Point) (m n : ℕ) → m ≡ points_sum xs → n ≡ points_sum ys → nat_eq m n ≡ false → false ≡ pointwise is_same_point xs ys
points_apart = told_apart (pointwise is_same_point) (list_tells is_same_point points_tell) points_sum

left_fits : (counter left : ℕ) → turns_share counter left < 2 ^ 64
left_fits counter left = share_fits counter left 0

pub turns_kept : (turns : List ℕ) (n old new d sum a b result : ℕ) → n < length turns → old ≡ slice_index_or turns n d
    → sum ≡ turns_sum turns → a ≡ turns_share n old → b ≡ turns_share n new → result ≡ with_share sum a b → result ≡ turns_sum (slice_set turns n new)
turns_kept = kept turns_share left_fits

pub turns_next : (sum counter left : ℕ) (turns : List ℕ)
    → (sum + sum_from turns_share counter (left ∷ turns)) % 2 ^ 64
    ≡ ((sum + turns_share counter left) % 2 ^ 64 + sum_from turns_share (counter + 1) turns) % 2 ^ 64
turns_next = next turns_share left_fits

pub turns_open : (turns : List ℕ) → (0 + turns_sum turns) % 2 ^ 64 ≡ turns_sum turns
turns_open = opens turns_share left_fits

pub turns_apart : (xs ys : List ℕ) (m n : ℕ) → m ≡ turns_sum xs → n ≡ turns_sum ys → nat_eq m n ≡ false → false ≡ pointwise nat_eq xs ys
turns_apart = told_apart (pointwise nat_eq) (list_tells nat_eq unsigned_Decides) turns_sum
