use Rattle.std.proofs.Common.{◌≡◌, ◌++◌, ◌∷◌, drop, map}
use Rattle.std.specs.List.{flat_map}
use Rattle.vast.specs.NumberedWords.{word_of}
use Rattle.vexpr_parse.specs.Texts.{words_of}
use Rattle.velab_expr.proofs.select.put_names.Given as goal

abbrev pub invariant-loop-name : goal.invariant-loop-name
invariant-loop-name l =
    l.into.items ++ flat_map (λ one. 46 ∷ one.letters) (map (word_of (words_of l.tokens)) (drop l.name-index l.names))
    ≡ l.initial.into.items ++ flat_map (λ one. 46 ∷ one.letters) (map (word_of (words_of l.tokens)) l.names)
