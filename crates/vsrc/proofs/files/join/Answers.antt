use Rattle.std.proofs.Common.{rules, ◌≡◌, ◌+◌, ◌≤◌, ◌++◌, ◌∷◌, ℕ, length, map, List, [], drop, ap, arith, ◌∙◌, vec_len}
use Rattle.std.proofs.lemmas.Result.{err_from_is_err_and}
use Rattle.vsrc.specs.Source.{join_files, borders_of, text_limit}
use Rattle.vsrc.proofs.Joining.{drop_map, text_grows, borders_grow, long_more, long_with}
use Rattle.vsrc.proofs.files.join.Goals as goal

pub returns-in_err-append-2-clause-err : goal.returns-in_err-append-2-clause-err
returns-in_err-append-2-clause-err c =
    let files : List (List ℕ) = map (λ file. file.items) c.in-Some.rest.now in
    let file : List ℕ = c.index-rest-number.result.items in
    let number : ℕ = c.loop-number.number in
    let here : drop number files ≡ file ∷ drop (number + 1) files =
    drop_map (λ file. file.items) c.in-Some.rest.now number c.index-rest-number.result c.loop-number-test.true c.index-rest-number.is in
    let p = err_from_is_err_and c.from_residual-in_err-append-2.result c.from_residual-in_err-append-2.ensures.1 in
    rw (p.1, p.2) (long_with _ c.loop-number.text.items c.deref-in-loop-number.result.now file files number
    c.in_err-append-2.field-0.0 c.deref-in-loop-number.ensures.value here c.loop-number.invariant.long c.in_err-append-2.ensures.err)

pub loop-number-preserved : goal.loop-number-preserved
loop-number-preserved c =
    let files : List (List ℕ) = map (λ file. file.items) c.in-Some.rest.now in
    let here : drop c.loop-number.number files ≡ c.index-rest-number.result.items ∷ drop (c.loop-number.number + 1) files =
    drop_map (λ file. file.items) c.in-Some.rest.now c.loop-number.number c.index-rest-number.result c.loop-number-test.true c.index-rest-number.is in
    let text : c.append-in-loop-number.new.text.items ≡ (c.loop-number.text.items ++ 10 ∷ []) ++ c.index-rest-number.result.items =
    c.in_ok-append-2.ensures.ok ∙ ap (λ l. (c.loop-number.text.items ++ 10 ∷ []) ++ l) c.deref-in-loop-number.ensures.value in
    let fits : length c.loop-number.text.items + 1 + length c.index-rest-number.result.items ≤ text_limit = omega (arith, c.in_ok-append-2.ensures.fits, ap length c.deref-in-loop-number.ensures.value) in
    let len : vec_len c.loop-number.text ≡ length c.loop-number.text.items = search rules in
    let pushed : c.push.new.self.items ≡ c.loop-number.borders.items ++ length c.loop-number.text.items ∷ [] =
    c.in_ok-push.ensures.items ∙ ap (λ n. c.loop-number.borders.items ++ n ∷ []) (c.len.ensures ∙ len) in
    record {
      text = rw text (text_grows (join_files (map (λ file. file.items) c.args.files.now)) c.loop-number.text.items c.index-rest-number.result.items files c.loop-number.number here c.loop-number.invariant.text);
      long = rw text (long_more _ c.loop-number.text.items c.index-rest-number.result.items files c.loop-number.number here fits c.loop-number.invariant.long);
      borders = rw (text, pushed) (borders_grow (borders_of (map (λ file. file.items) c.args.files.now)) c.loop-number.borders.items c.loop-number.text.items c.index-rest-number.result.items files c.loop-number.number here c.loop-number.invariant.borders);
      short = c.in_ok-append-2.ensures.short;
    }
