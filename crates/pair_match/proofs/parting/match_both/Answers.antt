use Rattle.basis.proofs.Results.{on_ok_value}
use Rattle.matching.proofs.Rounds.{if_cut, if_explained, if_unexplained}
use Rattle.matching.specs.Answers.{ClosesTo, Explains, Refutes}
use Rattle.std.proofs.Common.{◌⊎◌}
use Rattle.pair_match.specs.Pairs.{ReadsBoth, next_in, piece_in}
use Rattle.pair_match.specs.Parting.{ClosesBoth, ExplainsBoth, PartsBoth}
use Rattle.pair_match.proofs.PartingLemmas.{closes_both, explains_both, parts_both}
use Rattle.pair_match.proofs.parting.match_both.Goals as goal

pub returns-clause-explained : goal.returns-clause-explained
returns-clause-explained g c =
    let r = g.P.Space.rules c.args.space.now in
    let rank = g.P.Ranked.ranks c.args.space.now in
    let first = c.args.pair.now in
    let now = c.match_runs.new.reference in
    on_ok_value c.match_runs.result (λ answer h. if_explained answer
    (Explains r rank c.args.limits.now.depart (piece_in g.R.Reference.piece g.R.Reference.upcoming first)
    (λ pieces. ReadsBoth g.R.Reference.piece g.R.Reference.upcoming g.R.Reference.reads first pieces now)
    (g.R.Reference.done now.first ⊎ g.R.Reference.done now.second))
    (ExplainsBoth r rank c.args.limits.now.depart g.R.Reference.piece g.R.Reference.upcoming g.R.Reference.reads g.R.Reference.done first now)
    (explains_both r rank c.args.limits.now.depart g.R.Reference.piece g.R.Reference.upcoming g.R.Reference.reads g.R.Reference.done first now) h)
    c.match_runs.ensures.explained

pub returns-clause-parts : goal.returns-clause-parts
returns-clause-parts g c =
    let r = g.P.Space.rules c.args.space.now in
    let rank = g.P.Ranked.ranks c.args.space.now in
    let first = c.args.pair.now in
    let now = c.match_runs.new.reference in
    let P = Refutes r rank c.args.limits.now.depart (piece_in g.R.Reference.piece g.R.Reference.upcoming first)
    (λ pieces. ReadsBoth g.R.Reference.piece g.R.Reference.upcoming g.R.Reference.reads first pieces now)
    (next_in g.R.Reference.upcoming now) in
    on_ok_value c.match_runs.result (λ answer h. if_unexplained answer P P P
    (PartsBoth r rank c.args.limits.now.depart g.R.Reference.piece g.R.Reference.upcoming g.R.Reference.reads first now)
    (λ u x y z. parts_both r rank c.args.limits.now.depart g.R.Reference.piece g.R.Reference.upcoming g.R.Reference.reads g.R.Reference.done
    first now u x) h h h)
    c.match_runs.ensures.unexplained

pub returns-clause-closed : goal.returns-clause-closed
returns-clause-closed g c =
    let r = g.P.Space.rules c.args.space.now in
    let rank = g.P.Ranked.ranks c.args.space.now in
    let first = c.args.pair.now in
    let now = c.match_runs.new.reference in
    on_ok_value c.match_runs.result (λ answer h. if_cut answer
    (ClosesTo r rank c.args.limits.now.depart (piece_in g.R.Reference.piece g.R.Reference.upcoming first)
    (λ pieces. ReadsBoth g.R.Reference.piece g.R.Reference.upcoming g.R.Reference.reads first pieces now)
    (next_in g.R.Reference.upcoming now))
    (ClosesBoth r rank c.args.limits.now.depart g.R.Reference.piece g.R.Reference.upcoming g.R.Reference.reads first now)
    (closes_both r rank c.args.limits.now.depart g.R.Reference.piece g.R.Reference.upcoming g.R.Reference.reads g.R.Reference.done first now) h)
    c.match_runs.ensures.closed
