use Rattle.std.proofs.Common.{take, sym, ap, ◌∙◌}
use Rattle.plain_steps.proofs.FrameLemmas.{like_parts}
use Rattle.plain_steps.proofs.continuation.Continuation.has_like_parts.Goals as goal

pub returns-then-eq : goal.returns-then-eq
returns-then-eq c =
    c.eq-then-eq.ensures
    ∙ like_parts c.args.self.now c.args.other.now c.split_at.result.0.now c.split_at-2.result.0.now _
    (c.split_at.ensures.front ∙ ap (take c.args.self.now.kept) c.as_slice.ensures.value)
    (c.split_at-2.ensures.front ∙ ap (take c.args.other.now.kept) c.as_slice-2.ensures.value)
    c.requires.whole c.requires.other c.requires.kept (sym c.if-eq.true ∙ c.eq.ensures)

pub returns-else-eq : goal.returns-else-eq
returns-else-eq c =
    c.if-eq.false
    ∙ like_parts c.args.self.now c.args.other.now c.split_at.result.0.now c.split_at-2.result.0.now _
    (c.split_at.ensures.front ∙ ap (take c.args.self.now.kept) c.as_slice.ensures.value)
    (c.split_at-2.ensures.front ∙ ap (take c.args.other.now.kept) c.as_slice-2.ensures.value)
    c.requires.whole c.requires.other c.requires.kept (sym c.if-eq.false ∙ c.eq.ensures)
