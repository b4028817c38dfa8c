use Rattle.std.proofs.Common.{◌≡◌, ℕ, ◌-◌, ◌≤◌, List, false, length, Some, slice_get, sym, ap, subst, ◌∙◌, arith}
use Rattle.footprints.specs.declared.visit.Visit.{Visit}
use Rattle.footprints.specs.Chains.{chain_of}
use Rattle.footprints.specs.Inner.{is_same_as}
use Rattle.footprints.specs.Latest.{number_at}
use Rattle.footprints.specs.Visits.{same_visit}
use Rattle.footprints.proofs.ChainLemmas.{none_first, found_is, found_not, there_within}
use Rattle.footprints.proofs.index.Index.place_of.Goals as goal

pub loop-left-init : goal.loop-left-init
loop-left-init c =
    let index = c.self.inside in
    let last : List ℕ = index.chains.last.items in
    let same : index.visits.now ≡ c.args.self.now = c.self.view_is in
    let count : c.len.result ≡ length last =
    omega (arith, c.len.ensures, c.deref.ensures.len, ap (λ (list : List ℕ). length list) c.deref.ensures.value) in
    subst (λ (visits : List Visit). (j : ℕ) (w : Visit) → c.read-left.result ≤ j → slice_get visits j ≡ Some w → same_visit c.args.visit.now w ≡ false) same
    (none_first c.args.visit.now index.visits.now last index.chains.before.items c.chain_of-chain.result c.read-left.result c.self.invariant
    (c.chain_of-chain.ensures.is ∙ ap (chain_of c.args.visit.now) count) (omega (arith, c.chain_of-chain.ensures.within, count))
    (c.read-left.ensures ∙ ap (λ (list : List ℕ). number_at list c.chain_of-chain.result) c.deref.ensures.value))

pub returns-then-stands_at-clause-within : goal.returns-then-stands_at-clause-within
returns-then-stands_at-clause-within c =
    let same : c.self.inside.visits.now ≡ c.args.self.now = c.self.view_is in
    subst (λ (visits : List Visit). c.loop-left.left - 1 ≤ length visits) same
    (there_within c.args.visit.now c.self.inside.visits.now (c.loop-left.left - 1) (sym c.stands_at.ensures ∙ c.if-stands_at.true))

pub returns-then-stands_at-clause-found : goal.returns-then-stands_at-clause-found
returns-then-stands_at-clause-found c =
    let same : c.self.inside.visits.now ≡ c.args.self.now = c.self.view_is in
    found_is c.args.visit.now c.args.self.now (c.loop-left.left - 1) c.loop-left.left
    (ap (λ (visits : List Visit). is_same_as c.args.visit.now (slice_get visits (c.loop-left.left - 1))) (sym same) ∙ sym c.stands_at.ensures ∙ c.if-stands_at.true)
    (omega (arith, c.loop-left-test.true)) c.loop-left.invariant

pub returns-clause-found : goal.returns-clause-found
returns-clause-found c =
    let same : c.self.inside.visits.now ≡ c.args.self.now = c.self.view_is in
    found_not c.args.visit.now c.args.self.now (length c.self.inside.visits.now) c.loop-left.left (omega (arith, c.loop-left-test.false))
    (ap (λ (visits : List Visit). length visits) same) c.loop-left.invariant
