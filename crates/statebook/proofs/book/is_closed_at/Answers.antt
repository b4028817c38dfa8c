use Rattle.std.proofs.Common.{◌≡◌, ◌∙◌, sym, ap, subst, slice_get, option_map, map, Some, List, ℕ}
use Rattle.std.proofs.lemmas.Option.{slice_get-map, slice_get-get_or, same_Some}
use Rattle.statebook.specs.Books.{AllIn, places_of}
use Rattle.statebook.proofs.book.is_closed_at.Goals as goal

listed : (c : goal.After-are_among) → slice_get (map places_of c.args.finished.now) c.args.place ≡ Some (Some c.in-Some-Some.places.items)
listed c =
    let f = c.in-Some-Some.ensures.lookup in
    slice_get-map places_of c.args.finished.now c.args.place
    ∙ ap (option_map places_of) (slice_get-get_or c.args.finished.now c.args.place c.in-Some-Some.field-0.now f.3.0 ∙ ap Some (sym f.1 ∙ c.in-Some-Some.field-0-is))

pub returns-in-Some-Some : goal.returns-in-Some-Some
returns-in-Some-Some c =
    let P : List ℕ → Type 0 = λ l. AllIn c.args.all.now l in (
      λ t. record { places = c.in-Some-Some.places.items; at = listed c; inside = subst P c.deref.ensures.value (c.are_among.ensures.0 t) },
      λ k. (
          let same : k.places ≡ c.in-Some-Some.places.items = same_Some _ _ (same_Some _ _ (sym k.at ∙ listed c)) in
          c.are_among.ensures.1 (subst P (same ∙ sym c.deref.ensures.value) k.inside)),
    )
