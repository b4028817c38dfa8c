-- *internal*: Laws of the definitions, which functions of `law` prove.
use Rattle.std.specs.Prelude.{ℕ, List, All}
use Rattle.vlex.specs.Lexed.{Lexed, Piece}
use Rattle.vparse.specs.Words.{TellsNumber, TellsName}

-- the words of a text's tokens tell of their kinds
abbrev pub TellNumbers : Type 0
TellNumbers = (text : List ℕ) (pieces : List Piece) → Lexed text pieces → All TellsNumber pieces

abbrev pub TellNames : Type 0
TellNames = (text : List ℕ) (pieces : List Piece) → Lexed text pieces → All TellsName pieces
