use Rattle.std.proofs.Common.{length, arith, refl, sym, ◌∙◌}
use Rattle.std.proofs.lemmas.Option.{slice_get_read}
use Rattle.footprints.proofs.NumberLemmas.{another, the_same, is_few}
use Rattle.footprints.proofs.visit.number_behind.Goals as goal

pub overflow_add-result : goal.overflow_add-result
overflow_add-result c =
    omega (arith, is_few c.args.visits.now c.args.k c.in-Some.visit.now c.requires.numbered (slice_get_read c.args.visits.now (length c.args.visits.now) c.args.k c.in-Some.visit.now refl c.in-Some.ensures.lookup.3.0 c.in-Some.ensures.lookup.1), c.requires.few)

pub returns-then-is_same_actor-clause-some : goal.returns-then-is_same_actor-clause-some
returns-then-is_same_actor-clause-some c =
    the_same c.args.actor c.args.visits.now c.args.k c.in-Some.visit.now c.requires.numbered (slice_get_read c.args.visits.now (length c.args.visits.now) c.args.k c.in-Some.visit.now refl c.in-Some.ensures.lookup.3.0 c.in-Some.ensures.lookup.1)
    (sym c.is_same_actor.ensures ∙ c.if-is_same_actor.true)

pub returns-else-is_same_actor-clause-none : goal.returns-else-is_same_actor-clause-none
returns-else-is_same_actor-clause-none c =
    another c.args.actor c.args.visits.now c.args.k c.in-Some.visit.now (slice_get_read c.args.visits.now (length c.args.visits.now) c.args.k c.in-Some.visit.now refl c.in-Some.ensures.lookup.3.0 c.in-Some.ensures.lookup.1) (sym c.is_same_actor.ensures ∙ c.if-is_same_actor.false)
