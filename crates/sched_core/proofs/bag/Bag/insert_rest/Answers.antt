use Rattle.std.proofs.Common.{◌≡◌, length, nat_eq, ◌∙◌, ℕ, List, sym, ap, subst, true, false, OnOk}
use Rattle.sched_core.proofs.CutLemmas.{rest_put}
use Rattle.sched_core.proofs.bag.Bag.insert_rest.Goals as goal

pub returns : goal.returns
returns c =
    subst (λ (lines : List (List ℕ)). OnOk c.insert.result (c.insert.new.self ≡ lines)) (rest_put c.args.line.now c.args.self.now c.requires
    (λ is. let wrong : true ≡ false = sym (ap (λ (x : List ℕ). nat_eq (length x) 0) is) ∙ sym c.is_empty.ensures ∙ c.if-is_empty.false in cc)) c.insert.ensures
