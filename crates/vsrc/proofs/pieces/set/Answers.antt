use Rattle.std.proofs.Common.{List, ℕ, ◌++◌, sym, subst, ◌∙◌, ap}
use Rattle.vsrc.specs.Macros.{redefine}
use Rattle.vsrc.specs.Pieces.{AreCut, macros_of, text_of}
use Rattle.vsrc.proofs.Cutting.{insert_cuts, insert_redefines}
use Rattle.vsrc.proofs.pieces.set.Goals as goal

pub returns-clause-cut : goal.returns-clause-cut
returns-clause-cut c =
    subst (λ es. AreCut es) (sym c.in_ok-insert.ensures.entries)
    (insert_cuts c.extend_from_slice.new.self c.args.found c.args.texts.now.entries c.requires.found c.requires.old)

pub returns-clause-ok : goal.returns-clause-ok
returns-clause-ok c =
    ap macros_of c.in_ok-insert.ensures.entries ∙ insert_redefines c.extend_from_slice.new.self c.args.found c.args.texts.now.entries
    ∙ ap (λ (name : List ℕ). redefine name (text_of c.args.found) (macros_of c.args.texts.now.entries)) (c.in_ok-extend_from_slice.ensures.items ∙ ap (λ (l : List ℕ). l ++ c.args.name.now) c.new-key.ensures.items)
