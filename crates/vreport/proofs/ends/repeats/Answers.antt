use Rattle.std.proofs.Common.{sym}
use Rattle.vreport.proofs.EndLemmas.{repeats_when}
use Rattle.vreport.proofs.ends.repeats.Goals as goal

pub returns : goal.returns
returns c =
    repeats_when c.args.rows.now c.args.place c.index-rows-place.result c.index-rows-place-2.result c.is_same_end.result c.if-place-eq0.false c.requires
    (sym c.index-rows-place.is) (sym c.index-rows-place-2.is) c.is_same_end.ensures
