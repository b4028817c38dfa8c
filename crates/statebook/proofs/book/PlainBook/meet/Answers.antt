use Rattle.std.proofs.Common.{◌≡◌, ◌∙◌, ap, sym, refl, slice_get, subst, max, length, ℕ, Some, None, ◌++◌, ◌∷◌, [], is_ok, if◌then◌else◌, false}
use Rattle.std.specs.List.{position_or_len}
use Rattle.indexmap.specs.IndexSet.{insert_key}
use Rattle.statebook.specs.Books.{Book, Dominates, add, book_of}
use Rattle.statebook.specs.Inner.Kept.{IsKept, alike}
use Rattle.statebook.specs.declared.entry.Entry.{Entry}
use Rattle.statebook.proofs.BookLemmas.{key_added, kept-add, book_of-add, not_alike, position_last}
use Rattle.statebook.proofs.book.PlainBook.meet.Given.{Over}
use Rattle.statebook.proofs.book.PlainBook.meet.Goals as goal

pub returns-in-Some-clause-ok : goal.returns-in-Some-clause-ok
returns-in-Some-clause-ok g c =
    let f = c.in-Some.ensures.found in
    (record { entry = f.entry; at = ap (λ b. slice_get b.entries c.in-Some.place) (sym c.self.view_is) ∙ f.at; dominates = f.dominates }, refl)

-- no entry is equal to the one that was met
fresh : (g : Over) (c : goal.After-unwrap g) → (i : ℕ) (f : Entry g.row.S.Denot) → slice_get c.self.inside.entries.keys i ≡ Some f → alike g.S.PartialEq.eq c.dominator.new.entry f ≡ false
fresh g c = not_alike g.S.PartialEq.eq g.met.S.Eq.laws c.self.inside.entries.keys c.self.inside.top c.args.entry c.dominator.new.entry c.dominator.ensures.same c.self.invariant.budgets c.in_default.ensures.none

keys_grown : (g : Over) (c : goal.After-unwrap g) → c.insert_full.new.self.keys ≡ c.self.inside.entries.keys ++ c.dominator.new.entry ∷ []
keys_grown g c =
    rw c.unwrap-place.ensures at c.insert_full.ensures.keys
    ∙ ap (λ l. insert_key (alike g.S.PartialEq.eq) l c.dominator.new.entry) c.reserve-2.ensures.keys
    ∙ key_added (alike g.S.PartialEq.eq) c.self.inside.entries.keys c.dominator.new.entry (fresh g c)

grown : (g : Over) (c : goal.After-unwrap g) → book_of c.insert_full.new.self.keys c.push.new.self.items ≡ add (book_of c.self.inside.entries.keys c.self.inside.finished.items) c.dominator.new.entry
grown g c =
    book_of-add _ _ _ _ _ (keys_grown g c)
    (c.push.ensures.items ∙ ap (λ r. if is_ok r then c.reserve.new.self.items ++ None ∷ [] else c.reserve.new.self.items) c.unwrap.ensures ∙ ap (λ l. l ++ None ∷ []) c.reserve.ensures.items)

-- the book has the entry that was met, last
taken : (g : Over) (c : goal.After-unwrap g) → book_of c.insert_full.new.self.keys c.push.new.self.items ≡ add (book_of c.self.inside.entries.keys c.self.inside.finished.items) c.args.entry
taken g c = grown g c ∙ ap (λ e. add (book_of c.self.inside.entries.keys c.self.inside.finished.items) e) c.dominator.ensures.same

-- no entry dominates it
unmet : (g : Over) (c : goal.After-unwrap g) (i : ℕ) (f : Entry g.row.S.Denot) → slice_get c.self.inside.entries.keys i ≡ Some f → ¬ Dominates g.S.PartialEq.eq f c.args.entry.state c.args.entry.budget
unmet g c i f at = c.in_default.ensures.none i f at (c.self.invariant.budgets i f at)

pub invariant_of-self-2 : goal.invariant_of-self-2
invariant_of-self-2 g c =
    let top : c.max-self-inside.result ≡ max c.self.inside.top c.args.entry.budget = c.max-self-inside.ensures ∙ ap (λ e. max c.self.inside.top e.budget) c.dominator.ensures.same in
    let P : Book g.row.S.Denot → Type 0 = λ b. IsKept g.S.PartialEq.eq b c.max-self-inside.result in
    let Q : ℕ → Type 0 = λ t. IsKept g.S.PartialEq.eq (add (book_of c.self.inside.entries.keys c.self.inside.finished.items) c.args.entry) t in
    subst P (sym (taken g c)) (subst Q (sym top) (kept-add g.S.PartialEq.eq (book_of c.self.inside.entries.keys c.self.inside.finished.items) c.self.inside.top c.args.entry c.self.invariant (unmet g c)))

-- the place where it was put
last_place : (g : Over) (c : goal.After-unwrap g) → c.unwrap-place.result.0 ≡ length c.self.inside.entries.keys
last_place g c =
    rw c.unwrap-place.ensures at c.insert_full.ensures.index
    ∙ ap (position_or_len (alike g.S.PartialEq.eq c.dominator.new.entry)) c.reserve-2.ensures.keys
    ∙ position_last (alike g.S.PartialEq.eq) c.self.inside.entries.keys c.dominator.new.entry (fresh g c)

pub returns-clause-ok : goal.returns-clause-ok
returns-clause-ok g c = (
  last_place g c ∙ ap (λ b. length b.entries) c.self.view_is,
  taken g c ∙ ap (λ b. add b c.args.entry) c.self.view_is,
  λ i f at. unmet g c i f (ap (λ b. slice_get b.entries i) c.self.view_is ∙ at),
)
