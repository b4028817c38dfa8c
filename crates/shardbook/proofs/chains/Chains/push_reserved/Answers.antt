use Rattle.std.proofs.Common.{◌≡◌, nat_eq, cond, length, ap, ◌∙◌, Some}
use Rattle.indexmap.specs.IndexMap.{get}
use Rattle.shardbook.proofs.ChainLemmas.{linked_more}
use Rattle.shardbook.proofs.chains.Chains.push_reserved.Goals as goal

pub invariant_of-self : goal.invariant_of-self
invariant_of-self c =
    let updates = rw c.unwrap-before.ensures at c.insert.ensures.updates in
    let place : c.len.result ≡ length c.self.inside.links.items = c.len.ensures ∙ c.self.inside.links.ok.0 in
    rw c.push_reserved.ensures.items (linked_more c.self.inside.links.items _ _ _ c.self.invariant
    (rw c.unwrap-before.ensures at c.insert.ensures.old)
    (λ q. updates.0 q ∙ ap (λ n. cond (nat_eq c.args.code q) (Some n) (get nat_eq c.self.inside.last q)) place))
