-- *internal*: The bytes of spelled words.
use Rattle.std.specs.Prelude.{List, map}
use Rattle.vwords.specs.Words.{Text}
use Rattle.vspell.specs.declared.spelling.Spelling.{Spelling}

abbrev pub texts_of : List Spelling → List Text
texts_of = map (λ spelling. spelling.text.now)
