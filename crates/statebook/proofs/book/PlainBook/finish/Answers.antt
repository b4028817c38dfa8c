use Rattle.std.proofs.Common.{◌≡◌, ◌<◌, ◌∙◌, ap, sym, arith, length, slice_get, Some}
use Rattle.std.proofs.lemmas.List.{length-map}
use Rattle.statebook.specs.Books.{finish, places_of}
use Rattle.statebook.proofs.BookLemmas.{map-slice_set, not_finished}
use Rattle.statebook.proofs.book.PlainBook.finish.Goals as goal

pub returns-clause-ok : goal.returns-clause-ok
returns-clause-ok g c =
    let after = map-slice_set places_of c.self.inside.finished.items c.args.done.entry (Some c.args.done.next) in
    (λ i. record { entries = c.self.inside.entries.keys; finished = after i }) ∙ ap (λ b. finish b c.args.done.entry c.args.done.next.items) c.self.view_is

pub returns-clause-once : goal.returns-clause-once
returns-clause-once g c =
    let items = c.self.inside.finished.items in
    let same : length c.self.inside.entries.keys ≡ length c.args.self.now.entries = ap (λ b. length b.entries) c.self.view_is in
    let within : c.args.done.entry < length items = omega (arith, c.requires, c.self.invariant.paired, same, length-map items places_of) in
    ap (λ b. slice_get b.finished c.args.done.entry) (sym c.self.view_is) ∙ not_finished items c.args.done.entry c.index.result.now within c.index.ensures (sym c.if-is_some.ensures)
