-- *internal*: Lists with commas, up to the word that ends them. The readers of the grammar are made of `comma_list`, and these are what
-- the program's loops go on from.
use Rattle.std.specs.Prelude.{List, [], ◌∷◌, codes}
use Rattle.vwords.specs.Words.{Text}
use Rattle.vexpr_parse.specs.Readers.{Reader, got, and_then, past, is_front, turns}
use Rattle.vgrammar.specs.Parts.{one_behind}

-- what stands behind the first one, a comma before each, up to this very word
abbrev pub rest_until : {A : Type 0} → Text → Reader A → A → Reader (List A)
rest_until text read first words =
    and_then (turns (one_behind (λ list. past (codes ",") read)) (is_front (codes ",")) (first ∷ []) words)
    (λ all. past text (got all))

-- one, and more behind a comma each, up to this very word
abbrev pub all_until : {A : Type 0} → Text → Reader A → Reader (List A)
all_until text read words = and_then (read words) (rest_until text read)
