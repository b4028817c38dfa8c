use Rattle.std.proofs.Common.{◌≡◌, drop}
use Rattle.plain_steps.specs.InnerNews.{any_hears_of}
use Rattle.plain_steps.proofs.waking.any_hears.Given as goal

abbrev pub invariant-loop-term : goal.invariant-loop-term
invariant-loop-term l = any_hears_of l.news (drop l.term-index l.terms) ≡ any_hears_of l.news l.terms
