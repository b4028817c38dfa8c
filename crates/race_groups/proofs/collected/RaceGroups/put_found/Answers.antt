use Rattle.std.proofs.Common.{ap, refl, ◌∙◌}
use Rattle.race_groups.specs.Inner.{tracing_of}
use Rattle.race_groups.specs.Tracing.{Tracing}
use Rattle.race_groups.proofs.KeptLemmas.{grows_all, takes_all}
use Rattle.explore.proofs.ListingLemmas.{both_ok}
use Rattle.race_groups.proofs.SumLemmas.{grows_none}
use Rattle.race_groups.proofs.collected.RaceGroups.put_found.Goals as goal

pub returns-clause-ok : goal.returns-clause-ok
returns-clause-ok c =
    let tracing = tracing_of c.args.self.now.causes in
    let still = c.put_all-2.ensures.traced ∙ c.put_all.ensures.traced in
    let cuts = c.put_ends.ensures.sums_cuts in
    both_ok c.put_ends.result
    (λ sums sums_cuts. takes_all c.args.found c.deref.result.now c.deref-2.result.now c.args.self.now _ c.put_all.new.groups.items tracing
    (tracing_of c.put_all.new.causes) c.machine.result.now
    c.deref.ensures.value c.deref-2.ensures.value refl c.put_all.ensures.traced
    (c.machine.ensures ∙ ap (λ (t : Tracing). t.setting) still) still refl refl refl
    c.put_all.ensures.adds c.in_ok-put_all.ensures.counts c.put_all-2.ensures.adds c.in_ok-put_all-2.ensures.counts sums sums_cuts)
    c.put_ends.ensures.sums cuts

pub returns-in_err-put_all-2-clause-grows : goal.returns-in_err-put_all-2-clause-grows
returns-in_err-put_all-2-clause-grows c =
    let one = c.put_all.ensures.adds in
    let other = c.put_all-2.ensures.adds in
    grows_all c.args.self.now _ c.put_all.new.groups.items (c.put_all-2.ensures.traced ∙ c.put_all.ensures.traced) refl refl refl
    (one.more, one.is) (other.more, other.is)
    c.put_all.ensures.still c.put_all-2.ensures.still (grows_none c.args.self.now.ends.items)
    (grows_none c.args.self.now.cut_ends.items)

pub returns-clause-grows : goal.returns-clause-grows
returns-clause-grows c =
    let one = c.put_all.ensures.adds in
    let other = c.put_all-2.ensures.adds in
    grows_all c.args.self.now _ c.put_all.new.groups.items (c.put_all-2.ensures.traced ∙ c.put_all.ensures.traced) refl refl refl
    (one.more, one.is) (other.more, other.is)
    c.put_all.ensures.still c.put_all-2.ensures.still c.put_ends.ensures.grows
    c.put_ends.ensures.cuts_grow
