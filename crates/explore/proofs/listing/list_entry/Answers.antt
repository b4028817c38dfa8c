use Rattle.std.proofs.Common.{◌≡◌, ◌∙◌, sym, subst, ℕ, List, length}
use Rattle.indexmap.specs.IndexMap.{insert_entry}
use Rattle.explore.specs.Inner.Listing.{AreLong, IsShort}
use Rattle.explore.specs.Found.{AreFound}
use Rattle.explore.proofs.ListingLemmas.{PutsIn, on_both, on_ok, put_found, put_keeps, put_listed, stays_listed}
use Rattle.explore.proofs.listing.list_entry.Given.{Over}
use Rattle.explore.proofs.listing.list_entry.Goals as goal

pub returns-then-is_short-clause-listed : goal.returns-then-is_short-clause-listed
returns-then-is_short-clause-listed g c =
    let P : List (ℕ × ℕ) → Type 0 = λ l. IsShort g.P.State.PartialEq.eq c.args.marks.now.entries c.args.entry.now.state (length l) in
    stays_listed (g.P.Space.rules c.args.space.now) (g.met.P.Space.lawful c.args.space.now) g.P.State.PartialEq.eq (g.met.P.Space.same_is_eq c.args.space.now) c.args.marks.now.entries c.args.entry.now (subst P c.members.ensures.list (c.is_short.ensures.short c.if-is_short.true))

-- what was put in
puts : (g : Over) (c : goal.After-note g) → c.note.new.marks.entries ≡ insert_entry g.P.State.PartialEq.eq c.args.marks.now.entries c.in_ok-copy.field-0 c.in_ok-copy-2.field-0 → PutsIn (g.P.Space.rules c.args.space.now) c.args.limits.now g.P.State.PartialEq.eq c.args.entry.now c.in_ok-copy.field-0 c.in_ok-copy-2.field-0 c.args.marks.now.entries c.note.new.marks.entries
puts g c put = record {
  law = g.met.P.Space.lawful c.args.space.now;
  agree = g.met.P.Space.same_is_eq c.args.space.now;
  is = c.requires.allowed;
  mark = sym c.is_mark.ensures ∙ c.if-not-is_mark.false;
  copy = c.in_ok-copy.ensures;
  log_is = c.in_ok-copy-2.ensures.equal;
  apart = c.requires.distinct;
  after_is = put;
}

pub returns-clause-found : goal.returns-clause-found
returns-clause-found g c =
    on_both c.note.result
    (λ put. put_found (g.P.Space.rules c.args.space.now) c.args.limits.now g.P.State.PartialEq.eq c.args.entry.now c.in_ok-copy.field-0 c.in_ok-copy-2.field-0 c.args.marks.now.entries c.note.new.marks.entries (puts g c put) c.requires.found)
    (λ same. subst (AreFound (g.P.Space.rules c.args.space.now) c.args.limits.now) (sym same) c.requires.found)
    c.note.ensures.put c.note.ensures.kept

pub returns-clause-listed : goal.returns-clause-listed
returns-clause-listed g c = on_ok c.note.result (λ put. put_listed (g.P.Space.rules c.args.space.now) c.args.limits.now g.P.State.PartialEq.eq c.args.entry.now c.in_ok-copy.field-0 c.in_ok-copy-2.field-0 c.args.marks.now.entries c.note.new.marks.entries (puts g c put)) c.note.ensures.put

pub returns-clause-kept : goal.returns-clause-kept
returns-clause-kept g c =
    let P : List (ℕ × ℕ) → Type 0 = λ l. AreLong g.P.State.PartialEq.eq c.args.marks.now.entries c.args.entry.now.state (length l) in
    on_ok c.note.result (λ put. put_keeps (g.P.Space.rules c.args.space.now) c.args.limits.now g.P.State.PartialEq.eq c.args.entry.now c.in_ok-copy.field-0 c.in_ok-copy-2.field-0 c.args.marks.now.entries c.note.new.marks.entries (puts g c put) (subst P c.members.ensures.list (c.is_short.ensures.long c.if-is_short.false))) c.note.ensures.put
