use Rattle.std.proofs.Common.{◌≡◌, drop, map}
use Rattle.std.specs.List.{list_all}
use Rattle.vwords.specs.Words.{is_name}
use Rattle.vast.specs.TokenTexts.{token_text, texts}
use Rattle.vspell.proofs.statement_parts_fit.are_names.Given as goal

abbrev pub invariant-loop-name : goal.invariant-loop-name
invariant-loop-name l =
    list_all is_name (map (token_text (texts l.words)) (drop l.name-index l.names)) ≡ list_all is_name (map (token_text (texts l.words)) l.names)
