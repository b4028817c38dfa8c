use Rattle.action_origins.proofs.PastLemmas.{terms_past}
use Rattle.action_origins.proofs.parts.past_event.Goals as goal

pub returns-in-Terms : goal.returns-in-Terms
returns-in-Terms c words =
    terms_past words c.args.left c.past_further.result c.args.event.now c.in-Terms.term c.in-Terms.further c.deref.result.now
    c.saturating_sub-in-Terms.result c.past_term.result c.in-Terms.is c.deref.ensures.value
    c.saturating_sub-in-Terms.ensures (c.past_term.ensures words) (c.past_further.ensures words)
