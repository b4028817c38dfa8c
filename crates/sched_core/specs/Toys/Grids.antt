-- *internal*: Moves on a board: right, and down.
use Rattle.std.specs.Prelude.{ℕ, ◌+◌, ◌==◌, nat_lt, ◌&&◌, ◌||◌, if◌then◌else◌}
use Rattle.sched_core.specs.Rules.{Rules}
use Rattle.sched_core.specs.declared.grid.Square.{Square}

-- one may go right until x is right, and down until y is down; to go right is the first choice
abbrev pub grid_width : ℕ → ℕ → Square → ℕ
grid_width right down s = (if nat_lt s.x right then 1 else 0) + (if nat_lt s.y down then 1 else 0)

abbrev pub grid_after : ℕ → Square → ℕ → Square
grid_after right s i = if (i == 0) && nat_lt s.x right then record { x = s.x + 1; y = s.y } else record { x = s.x; y = s.y + 1 }

abbrev pub grid_rules : ℕ → ℕ → Rules Square
grid_rules right down = record {
  same = λ s t. (s.x == t.x) && (s.y == t.y);
  first = record { x = 0; y = 0 };
  width = grid_width right down;
  mark = λ s. (s.x == s.y) || (grid_width right down s == 0);
  after = grid_after right;
}
