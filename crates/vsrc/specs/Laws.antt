-- *internal*: Laws of the definitions, which functions of `law` prove.
use Rattle.std.specs.Prelude.{◌≡◌, ℕ, List, Ok, length}
use Rattle.vsrc.specs.Source.{Source}
use Rattle.vsrc.specs.Expansion.{expansion}

-- an expansion has as many places as bytes
abbrev pub PlacesEachByte : Type 0
PlacesEachByte = (files : List (List ℕ)) (source : Source) → expansion files ≡ Ok source → length source.places ≡ length source.text
