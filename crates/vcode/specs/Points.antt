-- *internal*: Points of code: when two are the same, and at which place one is.
use Rattle.std.specs.Prelude.{ℕ, ◌==◌, Bool, true, false, Option, Some, None}
use Rattle.vcode.specs.declared.point.Point.{Point}
use Rattle.vcode.specs.declared.point.Point.TheVariants.{Ended, Executing, Repeating, Writing, Waiting}

abbrev pub is_same_point : Point → Point → Bool
is_same_point Ended Ended = true
is_same_point (Executing place) (Executing same) = place == same
is_same_point (Repeating place) (Repeating same) = place == same
is_same_point (Writing place) (Writing same) = place == same
is_same_point (Waiting place) (Waiting same) = place == same
is_same_point _ _ = false

abbrev pub place_of_point : Point → Option ℕ
place_of_point Ended = None
place_of_point (Executing place) = Some place
place_of_point (Repeating place) = Some place
place_of_point (Writing place) = Some place
place_of_point (Waiting place) = Some place
