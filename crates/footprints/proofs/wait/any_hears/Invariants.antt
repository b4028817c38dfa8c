use Rattle.std.proofs.Common.{◌≡◌, drop}
use Rattle.vmodel.specs.Waking.{any_hears}
use Rattle.footprints.proofs.wait.any_hears.Given as goal

abbrev pub invariant-loop-term : goal.invariant-loop-term
invariant-loop-term l = any_hears l.news.before l.news.after l.news.triggered (drop l.term-index l.terms) ≡ any_hears l.news.before l.news.after l.news.triggered l.terms
