use Rattle.std.proofs.Common.{◌≡◌, refl, List, ◌∷◌, ◌++◌, [], Bor, None, is_some, ap, sym, ◌∙◌}
use Rattle.std.specs.Str.{bytes_eq}
use Rattle.std.proofs.lemmas.List.{map-append}
use Rattle.indexmap.specs.IndexMap.{get}
use Rattle.indexmap.proofs.CallerLemmas.{insert_entry-new}
use Rattle.vwords.specs.Words.{Text}
use Rattle.vmodules.specs.Names.{is_declared}
use Rattle.vmodules.specs.Inner.{ConnectionEntry, entry_names}
use Rattle.vmodules.proofs.ConnectLemmas.{Entry, pairs, known, is_none}
use Rattle.vmodules.proofs.connect.ConnectionMap.add.Goals as goal

pub returns-then-is_some-clause-err : goal.returns-then-is_some-clause-err
returns-then-is_some-clause-err c = (
  ap (λ (l : List ConnectionEntry). is_declared (entry_names l) c.args.name.now) (sym c.self.view_is)
      ∙ sym (known c.args.name.now c.self.inside.entries.entries)
      ∙ sym (ap is_some c.in_ok-before.ensures.old)
      ∙ sym c.is_some.ensures
      ∙ c.if-is_some.true,
  refl,
)

pub returns-clause-fresh : goal.returns-clause-fresh
returns-clause-fresh c =
    ap (λ (l : List ConnectionEntry). is_declared (entry_names l) c.args.name.now) (sym c.self.view_is)
    ∙ sym (known c.args.name.now c.self.inside.entries.entries)
    ∙ sym (ap is_some c.in_ok-before.ensures.old)
    ∙ sym c.is_some.ensures
    ∙ c.if-is_some.false

pub returns-clause-added : goal.returns-clause-added
returns-clause-added c =
    let none : get (λ (a b : Bor Text). bytes_eq a.now b.now) c.self.inside.entries c.args.name ≡ None =
    sym c.in_ok-before.ensures.old ∙ is_none c.in_ok-before.before (sym c.is_some.ensures ∙ c.if-is_some.false) in
    ap pairs (c.in_ok-before.ensures.entries ∙ insert_entry-new (λ (a b : Bor Text). bytes_eq a.now b.now) c.self.inside.entries c.args.name c.args.value none)
    ∙ map-append (λ (entry : Entry). (entry.0.now, entry.1)) c.self.inside.entries.entries ((c.args.name, c.args.value) ∷ [])
    ∙ ap (λ (l : List ConnectionEntry). l ++ (c.args.name.now, c.args.value) ∷ []) c.self.view_is
