-- *internal*: What the words of a text's tokens tell.
use Rattle.std.specs.Prelude.{◌≡◌, ◌⊎◌, ◌↔◌, IsTrue, false}
use Rattle.vlex.specs.declared.kind.TokenKind.TheVariants.{Name, Plain, Based}
use Rattle.vlex.specs.Lexed.{Piece}
use Rattle.vwords.specs.Words.{is_number, is_name, is_reserved}

-- a token's word is a number exactly where its kind is one of numbers (3.5.1)
abbrev pub TellsNumber : Piece → Type 0
TellsNumber piece = IsTrue (is_number piece.text) ↔ ((piece.kind ≡ Plain) ⊎ (piece.kind ≡ Based))

-- it is a name exactly where its kind is that of names and it isn't reserved (3.7, 3.7.2)
abbrev pub TellsName : Piece → Type 0
TellsName piece = IsTrue (is_name piece.text) ↔ ((piece.kind ≡ Name) × (is_reserved piece.text ≡ false))
