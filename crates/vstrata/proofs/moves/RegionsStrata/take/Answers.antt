use Rattle.std.proofs.Common.{sym, ap, ◌∙◌}
use Rattle.vstrata.specs.Inner.{process_in}
use Rattle.vstrata.proofs.QueueLemmas.{few_chosen, update_next}
use Rattle.vstrata.proofs.moves.RegionsStrata.take.Goals as goal

pub first_update-requires : goal.first_update-requires
first_update-requires g c =
    (update_next c.args.self.now c.args.i c.requires
    (sym c.in-None.is ∙ c.process_of.ensures.exact ∙ ap process_in c.choice.ensures.exact)).1

pub returns-in-None-clause-taken : goal.returns-in-None-clause-taken
returns-in-None-clause-taken g c = (
  (update_next c.args.self.now c.args.i c.requires
      (sym c.in-None.is ∙ c.process_of.ensures.exact ∙ ap process_in c.choice.ensures.exact)).0,
  c.first_update.ensures.taken,
)

pub returns-in-Some-clause-few : goal.returns-in-Some-clause-few
returns-in-Some-clause-few g c = few_chosen _ _ c.choice.ensures.few (sym c.in-Some.is ∙ c.process_of.ensures.exact)
