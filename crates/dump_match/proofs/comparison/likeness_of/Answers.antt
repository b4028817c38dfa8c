use Rattle.std.proofs.Common.{◌≡◌, Some, true, sym, ap, ◌∙◌}
use Rattle.std.specs.Prelude.{slice_get}
use Rattle.std.proofs.lemmas.Option.{same_Some}
use Rattle.std.proofs.lemmas.Slice.Eq.{bytes_eq-Decides}
use Rattle.vdesign.specs.Design.{Variable}
use Rattle.dump_match.specs.Scopes.{compared_name}
use Rattle.dump_match.proofs.CountLemmas.{at_place}
use Rattle.dump_match.proofs.comparison.likeness_of.Goals as goal

pub returns-then-not-is_same-clause-same : goal.returns-then-not-is_same-clause-same
returns-then-not-is_same-clause-same c n is like =
    let v : Variable = c.in-Some-get.variable.now in
    let number : n ≡ c.in-Some.number = same_Some n c.in-Some.number (sym is ∙ c.in-Some.is) in
    let found : slice_get c.args.variables.now c.in-Some.number ≡ Some v =
    at_place c.args.variables.now c.in-Some.number v c.in-Some-get.ensures.lookup.3.0 ∙ ap (λ (x : Variable). Some x) (sym c.in-Some-get.ensures.lookup.1) in
    let same : like.variable ≡ v = same_Some like.variable v (sym like.in_files ∙ ap (slice_get c.args.variables.now) number ∙ found) in
    let name : c.deref-2.result.now ≡ v.name = c.deref-2.ensures.value ∙ ap (λ (x : Variable). x.name) c.variable.view_is in
    let names : c.compared_name.result.now ≡ c.deref-2.result.now =
    c.compared_name.ensures ∙ ap (compared_name c.args.wrapped) c.deref.ensures.value ∙ like.name ∙ ap (λ (x : Variable). x.name) same ∙ sym name in
    let alike : c.is_same.result ≡ true = c.is_same.ensures.value ∙ (bytes_eq-Decides c.compared_name.result.now c.deref-2.result.now).1 names in
    cc

pub returns-then-from-told-clause-same : goal.returns-then-from-told-clause-same
returns-then-from-told-clause-same c n is like =
    let v : Variable = c.in-Some-get.variable.now in
    let number : n ≡ c.in-Some.number = same_Some n c.in-Some.number (sym is ∙ c.in-Some.is) in
    let found : slice_get c.args.variables.now c.in-Some.number ≡ Some v =
    at_place c.args.variables.now c.in-Some.number v c.in-Some-get.ensures.lookup.3.0 ∙ ap (λ (x : Variable). Some x) (sym c.in-Some-get.ensures.lookup.1) in
    let same : like.variable ≡ v = same_Some like.variable v (sym like.in_files ∙ ap (slice_get c.args.variables.now) number ∙ found) in
    let length : c.variable.inside.length ≡ v.length = ap (λ (x : Variable). x.length) c.variable.view_is in
    absurd (c.if-from-told.true (c.from.ensures ∙ length ∙ ap (λ (x : Variable). x.length) (sym same) ∙ sym like.width))

pub returns-clause-like : goal.returns-clause-like
returns-clause-like c =
    let v : Variable = c.in-Some-get.variable.now in
    let name : c.deref-2.result.now ≡ v.name = c.deref-2.ensures.value ∙ ap (λ (x : Variable). x.name) c.variable.view_is in
    let length : c.variable.inside.length ≡ v.length = ap (λ (x : Variable). x.length) c.variable.view_is in
    record {
      variable = v;
      in_files = at_place c.args.variables.now c.in-Some.number v c.in-Some-get.ensures.lookup.3.0 ∙ ap (λ (x : Variable). Some x) (sym c.in-Some-get.ensures.lookup.1);
      name = sym (ap (compared_name c.args.wrapped) c.deref.ensures.value) ∙ sym c.compared_name.ensures ∙ c.is_same.ensures.same c.if-not-is_same.false ∙ name;
      width = sym c.if-from-told.false ∙ c.from.ensures ∙ length;
    }
