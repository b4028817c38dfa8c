use Rattle.std.proofs.Common.{arith, sym, ◌∙◌, true≢false}
use Rattle.shardbook.proofs.FindLemmas.{count, search_starts, search_steps, search_within, search_found, search_ends}
use Rattle.shardbook.proofs.find.find.Goals as goal

pub loop-place-init : goal.loop-place-init
loop-place-init g c = search_starts g.S.PartialEq.eq g.S.Hash.hash_input g.met.S.Hash.respects_eq c.args.tokens.now c.args.chains.now.codes c.requires.chained c.args.entry.now c.args.code c.requires.code c.last-place.result c.last-place.ensures

pub bounds-tokens-i : goal.bounds-tokens-i
bounds-tokens-i g c =
    let within = search_within g.S.PartialEq.eq g.S.Hash.hash_input g.met.S.Hash.respects_eq c.args.tokens.now c.args.chains.now.codes c.requires.chained c.args.entry.now c.args.code c.requires.code c.loop-place.place c.in-Some.i c.in-Some.is c.loop-place.invariant in
    omega (arith, within, count g.S.PartialEq.eq g.S.Hash.hash_input g.met.S.Hash.respects_eq c.args.tokens.now c.args.chains.now.codes c.requires.chained c.args.entry.now c.args.code c.requires.code)

pub before-place-requires : goal.before-place-requires
before-place-requires g c = search_within g.S.PartialEq.eq g.S.Hash.hash_input g.met.S.Hash.respects_eq c.args.tokens.now c.args.chains.now.codes c.requires.chained c.args.entry.now c.args.code c.requires.code c.loop-place.place c.in-Some.i c.in-Some.is c.loop-place.invariant

pub returns-then-dominates-clause-found : goal.returns-then-dominates-clause-found
returns-then-dominates-clause-found g c =
    search_found g.S.PartialEq.eq g.S.Hash.hash_input g.met.S.Hash.respects_eq c.args.tokens.now c.args.chains.now.codes c.requires.chained c.args.entry.now c.args.code c.requires.code
    c.loop-place.place c.in-Some.i c.in-Some.is c.loop-place.invariant c.index-tokens-i.result c.index-tokens-i.is c.kept_at.result.now.entry c.kept_at.ensures.entry (c.dominates.ensures.0 c.if-dominates.true)

pub loop-place-preserved : goal.loop-place-preserved
loop-place-preserved g c =
    search_steps g.S.PartialEq.eq g.S.Hash.hash_input g.met.S.Hash.respects_eq c.args.tokens.now c.args.chains.now.codes c.requires.chained c.args.entry.now c.args.code c.requires.code
    c.loop-place.place c.in-Some.i c.in-Some.is c.loop-place.invariant c.index-tokens-i.result c.index-tokens-i.is c.kept_at.result.now.entry c.kept_at.ensures.entry
    (λ d. true≢false (sym (c.dominates.ensures.1 d) ∙ c.if-dominates.false)) c.before-place.result c.before-place.ensures

pub returns-clause-none : goal.returns-clause-none
returns-clause-none g c =
    search_ends g.S.PartialEq.eq g.S.Hash.hash_input g.met.S.Hash.respects_eq c.args.tokens.now c.args.chains.now.codes c.requires.chained c.args.entry.now c.args.code c.requires.code
    c.loop-place.place c.in_default.is c.loop-place.invariant
