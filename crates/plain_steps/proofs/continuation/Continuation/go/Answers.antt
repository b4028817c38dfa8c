use Rattle.std.proofs.Common.{◌≡◌, ap, sym, ◌∙◌, not}
use Rattle.std.specs.Prelude.{◌+◌, vec_len}
use Rattle.vmodel.specs.declared.frame.Frame.{Frame}
use Rattle.std.specs.Arc.{arc_slice_items}
use Rattle.plain_steps.proofs.ContinuationLemmas.{done_of_base, nothing_left}
use Rattle.plain_steps.proofs.continuation.Continuation.go.Goals as goal

pub returns-then-is_none-clause-value : goal.returns-then-is_none-clause-value
returns-then-is_none-clause-value c =
    done_of_base (arc_slice_items c.args.self.now.base) c.args.self.now.own.items c.pop.new.self.items c.args.self.now.kept
    c.pop.result c.pop.ensures.items (c.is_none.ensures ∙ ap not c.if-is_none.true)
    (sym c.pop.new.self.ok.0
    ∙ nothing_left c.pop.result (vec_len c.args.self.now.own) (vec_len c.pop.new.self)
    (λ (x : Frame). vec_len c.pop.new.self + 1 ≡ vec_len c.args.self.now.own)
    (c.is_none.ensures ∙ ap not c.if-is_none.true) c.pop.ensures.cases)
    c.requires.some c.requires.whole
