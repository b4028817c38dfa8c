use Rattle.report_check.proofs.ShownLemmas.{among_when}
use Rattle.report_check.proofs.shown.is_among.Goals as goal

pub returns : goal.returns
returns c =
    among_when c.args.places.now c.args.place c.binary_search.result c.is_ok.result c.binary_search.ensures.bound c.binary_search.ensures.ok c.is_ok.ensures.value
