-- *product rule*: How a place in the files is shown: ` at F:L`, file and line from 1, or nothing.
use Rattle.std.specs.Prelude.{List, [], ◌++◌, ℕ, Option, None, Some, codes, decimal}
use Rattle.vsrc.specs.declared.expanded.Place.{Place}

abbrev pub place_text : Option Place → List ℕ
place_text None = []
place_text (Some place) = codes " at " ++ decimal place.file ++ codes ":" ++ decimal place.line
