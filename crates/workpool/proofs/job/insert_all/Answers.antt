use Rattle.std.proofs.Common.{◌≡◌, ◌∙◌, ◌+◌, ◌-◌, true, false, ap, arith, sym, refl, vec_len, vec_capacity}
use Rattle.shardbook.specs.Finishes.{IsSuccessor}
use Rattle.statebook.specs.Ways.{ChoiceGoesPast}
use Rattle.statebook.proofs.NextLemmas.{exceeds}
use Rattle.workpool.proofs.WorkLemmas.{met_none, met_more, met_all, same_itself, same_twice, seated_same}
use Rattle.workpool.proofs.job.insert_all.Goals as goal
use Rattle.workpool.proofs.job.insert_all.Goals.{in-Some, in-None, then-within, else-within}

pub loop-met-init : goal.loop-met-init
loop-met-init g c = record {
  seated = c.requires.seated;
  counted = λ running h. h;
  same = same_itself c.args.work.now;
  noted = refl;
  met = λ t. met_none (g.P.Space.rules c.args.space.now) c.args.entry.now c.choice_count-count.result c.in_ok-next.next.items c.in_ok-next.ensures.items;
  room = omega (arith, c.in_ok-next.ensures.len);
  capacity = omega (arith, c.in_ok-next.ensures.capacity);
  past = λ f. absurd cc;
}

pub returns-in_err-seen-clause-same : goal.returns-in_err-seen-clause-same
returns-in_err-seen-clause-same g c = same_twice c.args.work.now c.loop-met.work c.insert_choice.new.work c.loop-met.invariant.same c.insert_choice.ensures.same

pub returns-in_err-seen-clause-noted : goal.returns-in_err-seen-clause-noted
returns-in_err-seen-clause-noted g c = c.insert_choice.ensures.noted ∙ c.loop-met.invariant.noted

pub returns-in_err-seen-clause-counted : goal.returns-in_err-seen-clause-counted
returns-in_err-seen-clause-counted g c = λ running h. c.insert_choice.ensures.counted running (c.loop-met.invariant.counted running h)

pub loop-met-preserved : goal.loop-met-preserved
loop-met-preserved g c =
    let r = g.P.Space.rules c.args.space.now in
    let i = c.loop-met.invariant in
    let all = c.choice_count-count.result in
    let choice = all - 1 - c.loop-met.met in
    let before : choice + (c.loop-met.met + 1) ≡ all = omega (arith, c.loop-met-test.true) in
    record {
      seated = seated_same c.args.tally.now c.loop-met.work c.insert_choice.new.work i.seated c.insert_choice.ensures.same;
      counted = λ running h. c.insert_choice.ensures.counted running (i.counted running h);
      same = same_twice c.args.work.now c.loop-met.work c.insert_choice.new.work i.same c.insert_choice.ensures.same;
      noted = c.insert_choice.ensures.noted ∙ i.noted;
      met = λ t. elim c.match-branch-3.branch [
        | in-Some w ↦ (
            let m : IsSuccessor r c.args.entry.now choice w.in-Some.seen.entry = rw w.in-Some.is at c.in_ok-seen.ensures.met in
            met_more r c.args.entry.now all c.loop-met.met choice c.loop-met.next.items c.match-branch-3.next.items w.in-Some.seen
            (ap (λ v. v.items) w.next-is ∙ w.push_reserved.ensures.items) before (i.met (sym w.within-is ∙ t)) m)
        | in-None w ↦ absurd (let no : true ≡ false = sym t ∙ w.within-is in cc)
      ];
      room = elim c.match-branch-3.branch [
        | in-Some w ↦ (let len = ap (λ v. vec_len v) w.next-is in omega (arith, len, w.push_reserved.ensures.len, i.room))
        | in-None w ↦ (let len = ap (λ v. vec_len v) w.next-is in omega (arith, len, i.room))
      ];
      capacity = elim c.match-branch-3.branch [
        | in-Some w ↦ (let most = ap (λ v. vec_capacity v) w.next-is in omega (arith, most, w.push_reserved.ensures.capacity, i.capacity))
        | in-None w ↦ (let most = ap (λ v. vec_capacity v) w.next-is in omega (arith, most, i.capacity))
      ];
      past = λ f. elim c.match-branch-3.branch [
        | in-Some w ↦ i.past (sym w.within-is ∙ f)
        | in-None w ↦ (
            let p : ChoiceGoesPast r c.args.limits.now c.args.entry.now choice = rw w.in-None.is at c.in_ok-seen.ensures.past in
            exceeds r (g.met.P.Space.lawful c.args.space.now) c.args.limits.now c.args.entry.now choice c.requires.entry
            (omega (arith, c.loop-met-test.true, c.choice_count-count.ensures)) p)
      ];
    }

pub returns-clause-met : goal.returns-clause-met
returns-clause-met g c = elim c.if-within.branch [
  | then-within w ↦ rw w.result-is
      (met_all (g.P.Space.rules c.args.space.now) c.args.entry.now c.choice_count-count.result c.loop-met.met c.loop-met.next.items c.reverse.new.self.items c.reverse.ensures.items
      (c.loop-met.invariant.met w.if-within.true) (omega (arith, c.loop-met-test.false, c.loop-met.auto.met-end)) c.choice_count-count.ensures)
  | else-within w ↦ rw w.result-is tt
]

pub returns-clause-past : goal.returns-clause-past
returns-clause-past g c = elim c.if-within.branch [
  | then-within w ↦ rw w.result-is tt
  | else-within w ↦ rw w.result-is (c.loop-met.invariant.past w.if-within.false)
]
