use Rattle.std.proofs.Common.{ℕ, List, [], ◌∷◌, ◌++◌, ap, ◌∙◌}
use Rattle.vmodules.specs.Names.{is_declared}
use Rattle.vmodules.proofs.HierarchyLemmas.{holds_added}
use Rattle.vmodules.proofs.blocks.note.Goals as goal

pub returns : goal.returns
returns c =
    λ text.
    holds_added c.args.into.now c.add.new.self c.letters.result.now _ c.in_ok-add.ensures.new c.in_ok-add.ensures.added text
    ∙ ap (λ (name : List ℕ). is_declared (c.args.into.now ++ name ∷ []) text) c.letters.ensures
