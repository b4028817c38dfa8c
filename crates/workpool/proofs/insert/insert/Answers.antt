use Rattle.std.proofs.Common.{◌≡◌, ◌+◌, ◌%◌, ◌^◌, ◌∷◌, [], ◌∙◌, length, arith, ap, refl, sym, subst, length-append}
use Rattle.shardbook.specs.Passes.{HasCounted}
use Rattle.workpool.specs.Jobs.{Owned}
use Rattle.workpool.specs.Tallies.{Seated}
use Rattle.workpool.specs.Inner.Works.{IsCounted}
use Rattle.workpool.specs.declared.work.Work.{Work}
use Rattle.workpool.proofs.WorkLemmas.{counted_new, counted_pass, one_given}
use Rattle.workpool.proofs.insert.insert.Given.{Over}
use Rattle.workpool.proofs.insert.insert.Goals as goal
use Rattle.workpool.proofs.insert.insert.Goals.{Joined-put, in-Ok, in-Err-put}

pub returns-in-Ok-Known-clause-counted : goal.returns-in-Ok-Known-clause-counted
returns-in-Ok-Known-clause-counted g c = λ running h. counted_pass running c.args.work.now c.meet.new.pass (rw c.in-Ok-Known.field-0-is at c.in-Ok-Known.ensures.counted) h

pub returns-in-Err-clause-counted : goal.returns-in-Err-clause-counted
returns-in-Err-clause-counted g c = λ running h. counted_pass running c.args.work.now c.meet.new.pass c.in-Err.ensures.uncounted h

-- the answer was New, and the pass has counted it
new : (g : Over) (c : Joined-put g) → HasCounted c.args.work.now.pass c.meet.new.pass
new g c = rw c.in-Ok-New.field-0-is at c.in-Ok-New.ensures.counted

pub returns-clause-counted : goal.returns-clause-counted
returns-clause-counted g c = λ running h.
    let P : Work g.row.B.Denot → Type 0 = λ v. IsCounted running v in
    let count = (new g (goal.at.returns-clause-counted g c).Joined-put).count in
    let opens : c.open.new.seat.opens ≡ c.args.work.now.tally.opens + 1 = ap (λ (s : Seated). s.opens) c.open.ensures in
    let shuts : c.open.new.seat.shuts ≡ c.args.work.now.tally.shuts = ap (λ (s : Seated). s.shuts) c.open.ensures in
    elim c.match-put.branch [
      | in-Ok w ↦ (
          let put = ap (λ (o : Owned). o.put) w.in-Ok.ensures.ok in
          let len : length c.put.new.self.put ≡ length c.args.work.now.seat.owner.put + 1 = ap length put ∙ length-append c.args.work.now.seat.owner.put (c.place.result ∷ []) in
          subst P (sym w.work-is) (counted_new running c.args.work.now _ h count opens shuts (ap (λ (o : Owned). o.taken) w.in-Ok.ensures.ok) refl refl (omega (arith, len)) (λ none. (none, len))
          (one_given c.args.work.now.given _ c.args.work.now.seat.owner.put c.put.new.self.put c.place.result h.given put refl)))
      | in-Err-put w ↦ (
          let same = w.in-Err-put.ensures.err in
          let len : length c.put.new.self.put ≡ length c.args.work.now.seat.owner.put = ap (λ (o : Owned). length o.put) same in
          subst P (sym w.work-is) (counted_new running c.args.work.now _ h count (ap (λ (s : Seated). s.opens) w.stop.ensures ∙ opens) (ap (λ (s : Seated). s.shuts) w.stop.ensures ∙ shuts) (ap (λ (o : Owned). o.taken) same) refl refl (omega (arith, len)) (λ none. absurd cc)
          (h.given ∙ ap (λ n. n % 2 ^ 64) (sym len))))
    ]
