use Rattle.std.proofs.Common.{◌≡◌, ◌≤◌, ◌++◌, ◌∷◌, [], length, drop, map, ◌+◌}
use Rattle.std.specs.List.{flat_map}
use Rattle.vsrc.specs.Source.{join_files, borders_of, borders_from, too_long, too_long_from, text_limit}
use Rattle.vsrc.proofs.files.join.Given as goal

-- what was joined and what is left make the whole, and so do the borders
abbrev pub invariant-loop-number : goal.invariant-loop-number
invariant-loop-number l = record {
  text : l.text.items ++ flat_map (λ file. (10 ∷ []) ++ file) (drop l.number (map (λ file. file.items) l.rest)) ≡ join_files (map (λ file. file.items) l.fn.files);
  borders : l.borders.items ++ borders_from (length l.text.items) (drop l.number (map (λ file. file.items) l.rest)) ≡ borders_of (map (λ file. file.items) l.fn.files);
  long : too_long_from (l.number + 2) (length l.text.items + 1) (drop l.number (map (λ file. file.items) l.rest)) ≡ too_long (map (λ file. file.items) l.fn.files);
  short : length l.text.items ≤ text_limit;
}
