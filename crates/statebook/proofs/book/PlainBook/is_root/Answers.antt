use Rattle.std.proofs.Common.{◌≡◌, ◌∙◌, sym, ap, slice_get, length, Some, [], ◌==◌}
use Rattle.std.proofs.lemmas.Option.{same_Some}
use Rattle.basis.proofs.Lists.{empty_from_test}
use Rattle.statebook.proofs.book.PlainBook.is_root.Given.{Over}
use Rattle.statebook.proofs.book.PlainBook.is_root.Goals as goal

found : (g : Over) (c : goal.After-is_empty g) → slice_get c.args.self.now.entries c.args.place ≡ Some c.in-Some.entry.now
found g c = ap (λ b. slice_get b.entries c.args.place) (sym c.self.view_is) ∙ sym c.in-Some.ensures.key

pub returns-in-Some : goal.returns-in-Some
returns-in-Some g c = (
  λ t. record {
    entry = c.in-Some.entry.now;
    at = found g c;
    log = sym c.members.ensures.list ∙ empty_from_test c.members.result.now (sym c.is_empty.ensures ∙ t);
    steps = c.if-entry-eq0.true;
  },
  λ k. (
      let same : k.entry ≡ c.in-Some.entry.now = same_Some _ _ (sym k.at ∙ found g c) in
      let none : c.members.result.now ≡ [] = c.members.ensures.list ∙ sym (ap (λ e. e.log) same) ∙ k.log in
      c.is_empty.ensures ∙ ap (λ l. length l == 0) none),
)
