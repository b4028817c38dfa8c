use Rattle.std.proofs.Common.{◌≡◌, ◌∙◌, ℕ, List, ap, sym, subst, OnOk}
use Rattle.sched_core.specs.Bags.{pieces_of}
use Rattle.sched_core.proofs.BagLemmas.{no_piece-with_text}
use Rattle.sched_core.proofs.bag.Bag.print.Goals as goal

pub returns-then-not-self : goal.returns-then-not-self
returns-then-not-self c =
    subst (λ (lines : List (List ℕ)). OnOk c.insert_lines.result (c.insert_lines.new.self ≡ lines))
    (no_piece-with_text c.args.text.now c.args.self.now (ap pieces_of (sym c.self.view_is) ∙ c.self.invariant.1 c.if-not-self.true)) c.insert_lines.ensures
