use Rattle.std.proofs.Common.{◌≡◌, ◌<◌, [], Some, IfSome, arith, sym, ◌∙◌, subst}
use Rattle.basis.specs.Reasons.{Because}
use Rattle.basis.specs.declared.memory.OrMemory.{OrMemory}
use Rattle.basis.specs.declared.memory.OrMemory.TheVariants.{Fault}
use Rattle.explore.specs.declared.ranked_findings.RankedReason.TheVariants.{Entries, Steps}
use Rattle.matching.specs.declared.halt.Halt.{Halt}
use Rattle.matching.specs.declared.halt.Halt.TheVariants.{Entries as AtEntries, Steps as AtSteps}
use Rattle.matching.specs.Answers.{ClosesTo, Explains, Refutes, TellsOfEntries, TellsOfSteps}
use Rattle.matching.specs.Inner.Searching.{IsOneOfBoth, IsReason}
use Rattle.matching.specs.Inner.Candidates.{IsShortest}
use Rattle.matching.proofs.Rounds.{closes, explains, if_cut, if_explained, if_unexplained, later_there, nearer, over_there, refutes}
use Rattle.matching.proofs.Rounds.{time_later, under_first, under_next, wanted_there}
use Rattle.matching.proofs.matching_runs.match_runs.Goals as goal

pub loop-next-init : goal.loop-next-init
loop-next-init g c =
    let r = g.P.Space.rules c.args.space.now in
    let law = g.met.P.Space.lawful c.args.space.now in
    let rank = g.P.Ranked.ranks c.args.space.now in
    let ranked = g.met.P.Ranked.ranked c.args.space.now in
    let start = c.in-Ok.start in
    let told = c.in_ok-upcoming in
    let ahead = later_there told.upcoming (g.R.Reference.upcoming c.read_to.new.reference) c.rank-time.result told.ensures.upcoming
    told.ensures.ahead in
    record {
      upcoming = told.ensures.upcoming;
      done = told.ensures.done;
      search = c.in-Ok-first_slot.ensures.search;
      way = under_first r law rank ranked c.requires c.args.limits.now.depart g.R.Reference.piece g.R.Reference.upcoming
          g.R.Reference.reads
          (λ me s t e. g.met.R.Reference.alike me s t (sym (g.met.P.Space.same_is_eq c.args.space.now s t) ∙ e)) c.args.reference.now
          c.read_to.new.reference c.rank-time.result c.in-Ok-first_slot.search.time start c.in-Ok-first_slot.search.candidates.entries
          c.in-Ok-first_slot.search.ending c.in-Ok-first_slot.search.waiting
          told.ensures.read ahead (c.rank-time.ensures ∙ ranked.rank_same start.state r.first c.in-Ok.ensures.state)
          c.in-Ok-first_slot.ensures.time c.in-Ok.ensures c.in-Ok-first_slot.ensures.opens c.in-Ok-first_slot.ensures.near;
    }

pub read_at-requires-clause-next : goal.read_at-requires-clause-next
read_at-requires-clause-next g c = sym c.loop-next.invariant.upcoming ∙ c.in-Some.ensures.wanted.next

pub loop-next-smaller : goal.loop-next-smaller
loop-next-smaller g c =
    let r = g.P.Space.rules c.args.space.now in
    let law = g.met.P.Space.lawful c.args.space.now in
    let rank = g.P.Ranked.ranks c.args.space.now in
    let ranked = g.met.P.Ranked.ranked c.args.space.now in
    let wanted = wanted_there c.loop-next.upcoming (g.R.Reference.upcoming c.loop-next.reference) c.loop-next.search.candidates.entries
    c.in-Some.next
    c.loop-next.invariant.upcoming c.in-Some.ensures.wanted in
    let later : c.loop-next.search.time < c.earliest-time.result =
    time_later r law rank ranked c.requires c.args.limits.now.depart g.R.Reference.piece g.R.Reference.upcoming g.R.Reference.reads
    (λ me s t e. g.met.R.Reference.alike me s t (sym (g.met.P.Space.same_is_eq c.args.space.now s t) ∙ e)) c.args.reference.now
    c.loop-next.search.time c.earliest-time.result c.loop-next.reference c.loop-next.search.candidates.entries c.loop-next.search.ending
    c.loop-next.search.waiting c.loop-next.invariant.way
    c.in-Some.next wanted c.earliest-time.ensures in
    nearer c.loop-next.search.time c.in-Ok-go_to.later.time (omega (arith, later, c.in-Ok-go_to.ensures.time))
    (omega (arith, c.in-Ok-go_to.ensures.time, c.earliest-time.type_inv))

pub loop-next-preserved : goal.loop-next-preserved
loop-next-preserved g c =
    let r = g.P.Space.rules c.args.space.now in
    let law = g.met.P.Space.lawful c.args.space.now in
    let rank = g.P.Ranked.ranks c.args.space.now in
    let ranked = g.met.P.Ranked.ranked c.args.space.now in
    let told = c.in_ok-after in
    let wanted = wanted_there c.loop-next.upcoming (g.R.Reference.upcoming c.loop-next.reference) c.loop-next.search.candidates.entries
    c.in-Some.next
    c.loop-next.invariant.upcoming c.in-Some.ensures.wanted in
    let ahead = later_there told.after (g.R.Reference.upcoming c.read_at.new.reference) c.earliest-time.result told.ensures.upcoming
    told.ensures.ahead in
    record {
      upcoming = told.ensures.upcoming;
      done = told.ensures.done;
      search = c.in-Ok-go_to.ensures.search;
      way = under_next r law rank ranked c.requires c.args.limits.now.depart g.R.Reference.piece g.R.Reference.upcoming g.R.Reference.reads
          (λ me s t e. g.met.R.Reference.alike me s t (sym (g.met.P.Space.same_is_eq c.args.space.now s t) ∙ e)) c.args.reference.now
          c.loop-next.search.time c.earliest-time.result c.loop-next.reference c.loop-next.search.candidates.entries
          c.loop-next.search.ending
          c.loop-next.search.waiting c.loop-next.invariant.way
          c.in-Some.next c.read_at.new.reference wanted c.earliest-time.ensures told.ensures.reads ahead
          c.in-Ok-go_to.later.candidates.entries c.in-Ok-go_to.later.ending c.in-Ok-go_to.later.waiting c.in-Ok-go_to.later.time
          c.in-Ok-go_to.ensures.time c.in-Ok-go_to.ensures.follow c.in-Ok-go_to.ensures.near;
    }

pub returns-in-Err-go_to-clause-closed : goal.returns-in-Err-go_to-clause-closed
returns-in-Err-go_to-clause-closed g c =
    let r = g.P.Space.rules c.args.space.now in
    let law = g.met.P.Space.lawful c.args.space.now in
    let rank = g.P.Ranked.ranks c.args.space.now in
    let ranked = g.met.P.Ranked.ranked c.args.space.now in
    let told = c.in_ok-after in
    let wanted = wanted_there c.loop-next.upcoming (g.R.Reference.upcoming c.loop-next.reference) c.loop-next.search.candidates.entries
    c.in-Some.next
    c.loop-next.invariant.upcoming c.in-Some.ensures.wanted in
    let ahead = later_there told.after (g.R.Reference.upcoming c.read_at.new.reference) c.earliest-time.result told.ensures.upcoming
    told.ensures.ahead in
    if_cut c.cut_short-in-Err-go_to.result (λ cut. cut.closed ≡ Some c.loop-next.search.time)
    (ClosesTo r rank c.args.limits.now.depart (g.R.Reference.piece c.args.reference.now)
    (λ pieces. g.R.Reference.reads c.args.reference.now pieces c.read_at.new.reference) (g.R.Reference.upcoming c.read_at.new.reference))
    (λ cut is. closes r law rank ranked c.requires c.args.limits.now.depart g.R.Reference.piece g.R.Reference.upcoming g.R.Reference.reads
    (λ me s t e. g.met.R.Reference.alike me s t (sym (g.met.P.Space.same_is_eq c.args.space.now s t) ∙ e)) c.args.reference.now
    c.loop-next.search.time c.earliest-time.result c.loop-next.reference c.loop-next.search.candidates.entries c.loop-next.search.ending
    c.loop-next.search.waiting c.loop-next.invariant.way
    c.in-Some.next c.read_at.new.reference wanted c.earliest-time.ensures told.ensures.reads ahead cut is)
    c.cut_short-in-Err-go_to.ensures.closed

pub returns-clause-explained : goal.returns-clause-explained
returns-clause-explained g c =
    let r = g.P.Space.rules c.args.space.now in
    let law = g.met.P.Space.lawful c.args.space.now in
    let rank = g.P.Ranked.ranks c.args.space.now in
    let ranked = g.met.P.Ranked.ranked c.args.space.now in
    let done = g.R.Reference.done c.loop-next.reference in
    let over = over_there c.loop-next.upcoming (g.R.Reference.upcoming c.loop-next.reference) c.loop-next.search.candidates.entries done
    c.loop-next.invariant.upcoming c.loop-next.invariant.done c.in_default.ensures.over in
    if_explained c.answer_of.result (IsShortest c.loop-next.search.candidates.entries)
    (Explains r rank c.args.limits.now.depart (g.R.Reference.piece c.args.reference.now)
    (λ pieces. g.R.Reference.reads c.args.reference.now pieces c.loop-next.reference) done)
    (λ best short. explains r law rank ranked c.requires c.args.limits.now.depart g.R.Reference.piece g.R.Reference.upcoming
    g.R.Reference.reads
    (λ me s t e. g.met.R.Reference.alike me s t (sym (g.met.P.Space.same_is_eq c.args.space.now s t) ∙ e)) c.args.reference.now
    c.loop-next.search.time c.loop-next.search.time c.loop-next.reference c.loop-next.search.candidates.entries c.loop-next.search.ending
    c.loop-next.search.waiting c.loop-next.invariant.way
    done best short over)
    c.answer_of.ensures.explained

pub returns-clause-unexplained : goal.returns-clause-unexplained
returns-clause-unexplained g c =
    let r = g.P.Space.rules c.args.space.now in
    let law = g.met.P.Space.lawful c.args.space.now in
    let rank = g.P.Ranked.ranks c.args.space.now in
    let ranked = g.met.P.Ranked.ranked c.args.space.now in
    if_unexplained c.answer_of.result (λ u. c.loop-next.search.candidates.entries ≡ []) (λ u. u.time ≡ c.loop-next.search.time)
    (λ u. IfSome u.nearest (IsOneOfBoth c.loop-next.search.ending c.loop-next.search.waiting))
    (Refutes r rank c.args.limits.now.depart (g.R.Reference.piece c.args.reference.now)
    (λ pieces. g.R.Reference.reads c.args.reference.now pieces c.loop-next.reference) (g.R.Reference.upcoming c.loop-next.reference))
    (λ u none time nearest. refutes r law rank ranked c.requires c.args.limits.now.depart g.R.Reference.piece g.R.Reference.upcoming
    g.R.Reference.reads (λ me s t e. g.met.R.Reference.alike me s t (sym (g.met.P.Space.same_is_eq c.args.space.now s t) ∙ e))
    c.args.reference.now
    c.loop-next.search.time c.loop-next.search.time c.loop-next.reference c.loop-next.search.candidates.entries c.loop-next.search.ending
    c.loop-next.search.waiting c.loop-next.invariant.way
    u none time nearest)
    c.answer_of.ensures.unexplained c.answer_of.ensures.time c.answer_of.ensures.nearest

pub returns-in-Err-go_to-clause-entries : goal.returns-in-Err-go_to-clause-entries
returns-in-Err-go_to-clause-entries g c =
    let r = g.P.Space.rules c.args.space.now in
    let B : OrMemory Halt → Type 0 = λ halt. Because (IsReason r c.args.limits.now) halt in
    if_cut c.cut_short-in-Err-go_to.result (λ cut. cut.reason ≡ Entries → c.in-Err-go_to.halt ≡ Fault AtEntries)
    (TellsOfEntries r c.args.limits.now)
    (λ cut so is. subst B (so is) c.in-Err-go_to.ensures.reason) c.cut_short-in-Err-go_to.ensures.entries

pub returns-in-Err-go_to-clause-steps : goal.returns-in-Err-go_to-clause-steps
returns-in-Err-go_to-clause-steps g c =
    let r = g.P.Space.rules c.args.space.now in
    let B : OrMemory Halt → Type 0 = λ halt. Because (IsReason r c.args.limits.now) halt in
    if_cut c.cut_short-in-Err-go_to.result (λ cut. cut.reason ≡ Steps → c.in-Err-go_to.halt ≡ Fault AtSteps)
    (TellsOfSteps r c.args.limits.now)
    (λ cut so is. subst B (so is) c.in-Err-go_to.ensures.reason) c.cut_short-in-Err-go_to.ensures.steps
