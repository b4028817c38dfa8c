use Rattle.std.proofs.Common.{refl}
use Rattle.matching.specs.Inner.Candidates.{WaitsNear}
use Rattle.matching.specs.declared.answer.Explanation.{Explanation}
use Rattle.matching.proofs.NearLemmas.{near_same, near_waiting}
use Rattle.matching.proofs.matching_runs.wait.Goals as goal
use Rattle.matching.proofs.matching_runs.wait.Goals.{then-is_nearer+in-Some-1, then-is_nearer+in-None-1, else-is_nearer}

pub returns-clause-search : goal.returns-clause-search
returns-clause-search g c = elim c.if-is_nearer.branch [
  | then-is_nearer+in-Some-1 w ↦ rw w.search-is (record { unique = c.requires.search.unique; ways = c.requires.search.ways })
  | then-is_nearer+in-None-1 w ↦ rw w.search-is (record { unique = c.requires.search.unique; ways = c.requires.search.ways })
  | else-is_nearer w ↦ rw w.search-is c.requires.search
]

pub returns-clause-near : goal.returns-clause-near
returns-clause-near g c =
    let P = WaitsNear c.args.search.now.time (c.args.state, c.args.way) in
    let run : Explanation g.row.P-State.Denot = record { state = c.args.state; log = c.args.way.log; steps = c.args.way.steps } in
    let such : WaitsNear c.args.search.now.time (c.args.state, c.args.way) run =
    record { waiting = c.requires.waiting; state = refl; log = refl; steps = refl } in
    let count = c.count_differences-differences.result in
    elim c.if-is_nearer.branch [
      | then-is_nearer+in-Some-1 w ↦ rw w.search-is
          (near_waiting P c.args.search.now _ (record { differences = count; run = run }) refl such refl)
      | then-is_nearer+in-None-1 w ↦ rw w.search-is
          (near_waiting P c.args.search.now _ (record { differences = count; run = run }) refl such refl)
      | else-is_nearer w ↦ rw w.search-is (near_same P c.args.search.now _ refl refl)
    ]
