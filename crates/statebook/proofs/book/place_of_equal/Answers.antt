use Rattle.statebook.proofs.BookLemmas.{found_passes, not_found_fails}
use Rattle.statebook.proofs.book.place_of_equal.Goals as goal

pub returns-clause-found : goal.returns-clause-found
returns-clause-found g c = found_passes _ c.args.entries.now.keys c.get_index_of.result c.get_index_of.ensures.index

pub returns-clause-none : goal.returns-clause-none
returns-clause-none g c = not_found_fails _ c.args.entries.now.keys c.get_index_of.result c.get_index_of.ensures.found
