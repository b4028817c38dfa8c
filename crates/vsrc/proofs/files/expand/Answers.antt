use Rattle.std.proofs.Common.{◌≡◌, ℕ, List, Ok, Err, length, map, is_some, unwrap_or, vec_len, ap, sym, ◌∙◌, rules}
use Rattle.std.proofs.lemmas.Result.{err_from_is_err_and}
use Rattle.vsrc.specs.declared.fault.SrcFault.{SrcFault}
use Rattle.vsrc.specs.Source.{Source, feeds_of, join_files, place_by, place_in, too_long}
use Rattle.vsrc.specs.declared.refusal.Refusal.{Refusal}
use Rattle.vsrc.specs.Walk.{State}
use Rattle.vsrc.specs.Walking.{state_of}
use Rattle.vsrc.specs.Expansion.{expansion, fault_at}
use Rattle.vsrc.specs.Inner.{IsLong}
use Rattle.basis.specs.Timescales.{usual_timescale}
use Rattle.vsrc.proofs.Joining.{joined_lines}
use Rattle.vsrc.proofs.Whole.{because_so, files_long, files_ok, files_err, source_is}
use Rattle.vsrc.proofs.files.expand.Goals as goal

pub returns-in_err-text-clause-err : goal.returns-in_err-text-clause-err
returns-in_err-text-clause-err c =
    let files : List (List ℕ) = map (λ file. file.items) c.args.files.now in
    let p = err_from_is_err_and c.from_residual.result c.from_residual.ensures.1 in
    rw (p.1, p.2) (because_so (IsLong (too_long files)) (λ (f : SrcFault). expansion files ≡ Err f) c.in_err-text.field-0.0
    (λ f h. files_long files h.0 h.1 ∙ ap (λ (g : SrcFault). Err g) (sym h.2)) c.in_err-text.ensures.err)

pub new-lines-requires : goal.new-lines-requires
new-lines-requires c =
    joined_lines (map (λ file. file.items) c.args.files.now) c.in_ok-text.text.items c.in_ok-text.borders.items c.in_ok-feeds.feeds.items
    c.in_ok-text.ensures.text c.in_ok-text.ensures.borders (c.in_ok-feeds.ensures ∙ ap feeds_of c.deref.ensures.value) c.in_ok-text.ensures.short

pub returns-in-Ok-clause-ok : goal.returns-in-Ok-clause-ok
returns-in-Ok-clause-ok c =
    let files : List (List ℕ) = map (λ file. file.items) c.args.files.now in
    let state : State = state_of c.in-Ok.walk in
    let text : c.deref-2.result.now ≡ join_files files = c.deref-2.ensures.value ∙ c.in_ok-text.ensures.text in
    let feeds : c.in_ok-feeds.feeds.items ≡ feeds_of (join_files files) = c.in_ok-feeds.ensures ∙ ap feeds_of (c.deref.ensures.value ∙ c.in_ok-text.ensures.text) in
    let len : vec_len c.in_ok-text.text ≡ length c.in_ok-text.text.items = search rules in
    files_ok files c.deref-2.result.now state text c.in_ok-text.ensures.whole c.in-Ok.ensures.ok
    ∙ ap (λ (s : Source). Ok s) (source_is files state c.new-lines.result c.new.result c.len-end.result
    (ap (λ l. l.borders) c.new-lines.ensures ∙ c.in_ok-text.ensures.borders)
    (ap (λ l. l.feeds) c.new-lines.ensures ∙ feeds)
    (c.len-end.ensures ∙ len ∙ ap length c.in_ok-text.ensures.text)
    (c.new.ensures.text ∙ c.into_parts-expanded.ensures.text ∙ ap (λ m. m.text) c.into_parts-made.ensures.made)
    (c.new.ensures.places ∙ ap (map (place_by c.new-lines.result.borders c.new-lines.result.feeds)) (c.into_parts-expanded.ensures.origins ∙ ap (λ m. m.origins) c.into_parts-made.ensures.made))
    c.new.ensures.end
    (c.new.ensures.timescale ∙ ap (λ t. unwrap_or t usual_timescale) c.into_parts-made.ensures.timescale)
    (c.new.ensures.timed ∙ ap is_some c.into_parts-made.ensures.timescale))

pub returns-in-Err-Fault-clause-err : goal.returns-in-Err-Fault-clause-err
returns-in-Err-Fault-clause-err c =
    let files : List (List ℕ) = map (λ file. file.items) c.args.files.now in
    let text : c.deref-2.result.now ≡ join_files files = c.deref-2.ensures.value ∙ c.in_ok-text.ensures.text in
    let feeds : c.in_ok-feeds.feeds.items ≡ feeds_of (join_files files) = c.in_ok-feeds.ensures ∙ ap feeds_of (c.deref.ensures.value ∙ c.in_ok-text.ensures.text) in
    let refusal : Refusal = c.in-Err-Fault.refusal in
    let by : place_by c.new-lines.result.borders c.new-lines.result.feeds ≡ place_in files =
    (λ i. place_by ((ap (λ l. l.borders) c.new-lines.ensures ∙ c.in_ok-text.ensures.borders) i) ((ap (λ l. l.feeds) c.new-lines.ensures ∙ feeds) i)) in
    files_err files c.deref-2.result.now refusal text c.in_ok-text.ensures.whole (rw c.in-Err-Fault.field-0-is at c.in-Err-Fault.ensures.err)
    ∙ ap (λ (f : SrcFault). Err f) (sym (c.fault_of.ensures ∙ ap (λ (r : Refusal). fault_at r.why (place_by c.new-lines.result.borders c.new-lines.result.feeds r.at)) c.in-Err-Fault.refusal-is ∙ ap (λ p. fault_at refusal.why (p refusal.at)) by))
