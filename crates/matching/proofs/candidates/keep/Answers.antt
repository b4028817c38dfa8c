use Rattle.std.proofs.Common.{ℕ, List, length, arith, inr, subst}
use Rattle.matching.specs.Inner.Merging.{AreLonger, IsNoLonger}
use Rattle.matching.proofs.Cuts.{has_ends, ways_more}
use Rattle.matching.proofs.Kept.{keeps_already, keeps_new}
use Rattle.matching.proofs.candidates.keep.Goals as goal

pub returns-then-is_kept-clause-keeps : goal.returns-then-is_kept-clause-keeps
returns-then-is_kept-clause-keeps g c =
    let P : List (ℕ × ℕ) → Type 0 = λ l. IsNoLonger g.P.State.PartialEq.eq c.args.candidates.now.entries c.args.state (length l) in
    keeps_already (g.P.Space.rules c.args.space.now) (g.met.P.Space.lawful c.args.space.now) g.P.State.PartialEq.eq
    (g.met.P.Space.same_is_eq c.args.space.now) c.args.state c.args.way c.args.candidates.now.entries
    (subst P c.members.ensures.list (c.is_kept.ensures.kept c.if-is_kept.true))

pub returns-clause-keeps : goal.returns-clause-keeps
returns-clause-keeps g c =
    let P : List (ℕ × ℕ) → Type 0 = λ l. AreLonger g.P.State.PartialEq.eq c.args.candidates.now.entries c.args.state (length l) in
    keeps_new (g.P.Space.rules c.args.space.now) (g.met.P.Space.lawful c.args.space.now) g.P.State.PartialEq.eq
    (g.met.P.Space.same_is_eq c.args.space.now) c.args.state c.args.way c.args.candidates.now.entries
    c.insert.new.self.entries c.requires.unique (subst P c.members.ensures.list (c.is_kept.ensures.longer c.if-is_kept.false))
    c.in_ok-insert.ensures.entries

pub returns-clause-ways : goal.returns-clause-ways
returns-clause-ways g c =
    ways_more (g.P.Space.rules c.args.space.now) (g.met.P.Space.lawful c.args.space.now) (g.P.Ranked.ranks c.args.space.now) c.args.state
    c.args.way c.args.candidates.now.entries c.insert.new.self.entries
    (returns-clause-keeps g c) c.requires.ways c.requires.way

pub returns-then-len-limits-clause-reason : goal.returns-then-len-limits-clause-reason
returns-then-len-limits-clause-reason g c =
    inr (has_ends (g.P.Space.rules c.args.space.now) g.P.State.PartialEq.eq (g.met.P.Space.same_is_eq c.args.space.now)
    (g.P.Ranked.ranks c.args.space.now) c.args.limits.now c.args.candidates.now.entries
    c.requires.unique c.requires.ways (omega (arith, c.len.ensures.len, c.if-len-limits.true)))
