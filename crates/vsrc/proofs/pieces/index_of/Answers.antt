use Rattle.std.proofs.Common.{◌≡◌, List, ℕ, ◌++◌, None, is_some, sym, ◌∙◌, ap, subst}
use Rattle.vsrc.specs.Pieces.{Keeps, macros_of}
use Rattle.vsrc.proofs.Cutting.{insert_at, keeps_insert, name_absent, name_at}
use Rattle.vsrc.proofs.pieces.index_of.Goals as goal

pub returns-in-Some-clause-index : goal.returns-in-Some-clause-index
returns-in-Some-clause-index c = name_at c.args.name.now c.args.texts.now.entries c.in-Some.index (sym c.get_index_of.ensures.index ∙ c.in-Some.is)

-- the name that was put
put : (c : goal.Joined-branch-3) → c.extend_from_slice.new.self.items ≡ c.args.name.now
put c = c.in_ok-extend_from_slice.ensures.items ∙ ap (λ (l : List ℕ). l ++ c.args.name.now) c.new-key.ensures.items

pub returns-clause-keeps : goal.returns-clause-keeps
returns-clause-keeps c =
    subst (λ es. Keeps c.args.texts.now.entries es) (sym c.in_ok-index.ensures.entries)
    (keeps_insert c.extend_from_slice.new.self c.args.texts.now.entries (ap (macros_of c.args.texts.now.entries) (put c) ∙ name_absent c.args.name.now c.args.texts.now.entries
    (sym (ap is_some c.in_default.is) ∙ c.get_index_of.ensures.found)))

pub returns-clause-index : goal.returns-clause-index
returns-clause-index c =
    insert_at c.extend_from_slice.new.self None c.args.texts.now.entries c.insert_full.new.self.entries c.in_ok-index.index c.args.name.now
    c.in_ok-index.ensures.entries c.in_ok-index.ensures.index (put c)
