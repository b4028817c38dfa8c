use Rattle.std.proofs.Common.{◌≡◌, ◌∙◌, sym, ap, subst, map, List, ℕ, Option}
use Rattle.statebook.specs.Books.{AllClosed, places_of}
use Rattle.statebook.proofs.book.PlainBook.closed.Goals as goal

pub returns : goal.returns
returns g c =
    let P : List (Option (List ℕ)) → Type 0 = λ f. AllClosed f c.args.all.now in
    let shown : map places_of c.deref.result.now ≡ c.args.self.now.finished = ap (map places_of) c.deref.ensures.value ∙ ap (λ b. b.finished) c.self.view_is in (
      λ t. record {
        root_entry = c.is_root.ensures.0 c.if-not-is_root.false;
        root_inside = c.is_among.ensures.0 c.if-not-is_among.false;
        members = subst P shown (c.are_closed.ensures.0 t);
      },
      λ k. c.are_closed.ensures.1 (subst P (sym shown) k.members),
    )
