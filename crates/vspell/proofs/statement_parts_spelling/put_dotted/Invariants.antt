use Rattle.std.proofs.Common.{◌≡◌, ◌++◌, drop, map}
use Rattle.vast.specs.TokenTexts.{token_text, texts}
use Rattle.vspell.specs.Spellings.{texts_of}
use Rattle.vspell.specs.Inner.{dotted_words}
use Rattle.vspell.proofs.statement_parts_spelling.put_dotted.Given as goal

abbrev pub invariant-loop-name : goal.invariant-loop-name
invariant-loop-name l =
    texts_of l.out.items ++ dotted_words (map (token_text (texts l.words)) (drop l.name-index l.names))
    ≡ texts_of l.initial.out.items ++ dotted_words (map (token_text (texts l.words)) l.names)
