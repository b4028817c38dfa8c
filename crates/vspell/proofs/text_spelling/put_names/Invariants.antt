use Rattle.std.proofs.Common.{◌≡◌, ◌++◌, drop, map}
use Rattle.vast.specs.TokenTexts.{token_text, texts}
use Rattle.vspell.specs.Spellings.{texts_of}
use Rattle.vast.specs.Statements.{with_commas}
use Rattle.vspell.specs.Inner.{listed_from, alone}
use Rattle.vspell.proofs.text_spelling.put_names.Given as goal

abbrev pub invariant-loop-name : goal.invariant-loop-name
invariant-loop-name l =
    texts_of l.out.items ++ listed_from l.first alone (map (token_text (texts l.words)) (drop l.name-index l.names))
    ≡ texts_of l.initial.out.items ++ with_commas alone (map (token_text (texts l.words)) l.names)
