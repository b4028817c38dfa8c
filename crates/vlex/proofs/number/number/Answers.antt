use Rattle.std.proofs.Common.{◌≡◌, ◌≢◌, ◌<◌, ◌+◌, ◌∷◌, ◌++◌, true, false, List, [], ℕ, length, take, drop, get_or, refl, ◌∙◌, sym, ap, subst, arith}
use Rattle.std.specs.List.{list_all, prefix_len}
use Rattle.std.proofs.lemmas.List.{take-append-drop, length-drop, get_or-drop}
use Rattle.std.proofs.lemmas.List.Sums.{prefix_len_stops}
use Rattle.vlex.specs.declared.bytes.Set.TheVariants.{Blanks, Decimals}
use Rattle.vlex.specs.declared.form.Form.TheVariants.{Token}
use Rattle.vlex.specs.declared.kind.TokenKind.TheVariants.{Plain}
use Rattle.vlex.specs.Bytes.{is_in}
use Rattle.vlex.specs.Forms.{skip_blanks}
use Rattle.vlex.specs.Inner.{IsAnswer}
use Rattle.vlex.specs.Lexed.{IsFront}
use Rattle.vlex.proofs.Runs.{run_longest}
use Rattle.vlex.proofs.Sizes.{plain_number, all_digits}
use Rattle.vlex.proofs.number.number.Goals as goal

pub number_with_size-requires-clause-digits : goal.number_with_size-requires-clause-digits
number_with_size-requires-clause-digits c =
    ap (list_all (is_in Decimals)) (c.split_at.ensures.front ∙ ap (λ n. take n c.args.rest.now) c.run_len.ensures.value)
    ∙ (run_longest (is_in Decimals) c.args.rest.now).passes

pub number_with_size-requires-clause-blanks : goal.number_with_size-requires-clause-blanks
number_with_size-requires-clause-blanks c =
    ap (list_all (is_in Blanks)) (c.split_at-2.ensures.front ∙ ap (λ n. take n c.split_at.result.1.now) c.run_len-2.ensures.value)
    ∙ (run_longest (is_in Blanks) c.split_at.result.1.now).passes

pub returns-then-byte_at-ne39 : goal.returns-then-byte_at-ne39
returns-then-byte_at-ne39 c =
    let rest : List ℕ = c.args.rest.now in
    let digits : List ℕ = c.split_at.result.0.now in
    let tail : List ℕ = c.split_at.result.1.now in
    let cut : digits ++ tail ≡ rest = ap (λ l. l ++ tail) c.split_at.ensures.front ∙ ap (λ l. take c.run_len.result rest ++ l) c.split_at.ensures.back ∙ take-append-drop c.run_len.result rest in
    let all : list_all (is_in Decimals) digits ≡ true =
    ap (list_all (is_in Decimals)) (c.split_at.ensures.front ∙ ap (λ n. take n rest) c.run_len.ensures.value) ∙ (run_longest (is_in Decimals) rest).passes in
    let back : tail ≡ drop (prefix_len (is_in Decimals) rest) rest = c.split_at.ensures.back ∙ ap (λ n. drop n rest) c.run_len.ensures.value in
    let stops : 0 < length tail → is_in Decimals (get_or tail 0 0) ≡ false = λ some.
    let short : prefix_len (is_in Decimals) rest < length rest = omega (arith, ap length back, length-drop (prefix_len (is_in Decimals) rest) rest) in
    let sum : prefix_len (is_in Decimals) rest + 0 ≡ prefix_len (is_in Decimals) rest = omega arith in
    ap (λ l. is_in Decimals (get_or l 0 0)) back ∙ ap (is_in Decimals) (get_or-drop (prefix_len (is_in Decimals) rest) rest 0 0 ∙ ap (λ n. get_or rest n 0) sum)
    ∙ prefix_len_stops (is_in Decimals) rest 0 short in
    let behind : c.split_at-2.result.1.now ≡ skip_blanks tail = c.split_at-2.ensures.back ∙ ap (λ n. drop n tail) c.run_len-2.ensures.value in
    let other : get_or (skip_blanks tail) 0 0 ≢ 39 = λ is. c.if-byte_at-ne39.true (c.byte_at.ensures ∙ ap (λ l. get_or l 0 0) behind ∙ is) in
    let P : List ℕ → Type 0 = λ l. IsFront (c.args.first ∷ l) (Token Plain) (1 + length digits) in
    subst P cut (plain_number c.args.first digits tail (1 + length digits) c.requires.lead (all_digits c.args.first digits c.requires.digit all) refl stops other)

-- what begins with an apostrophe
begun : (behind : List ℕ) → get_or behind 0 0 ≡ 39 → 39 ∷ drop 1 behind ≡ behind
begun [] is = absurd (omega (arith, is))
begun (x ∷ xs) is = ap (λ b. b ∷ xs) (sym is)

pub returns : goal.returns
returns c =
    let rest : List ℕ = c.args.rest.now in
    let digits : List ℕ = c.split_at.result.0.now in
    let tail : List ℕ = c.split_at.result.1.now in
    let blanks : List ℕ = c.split_at-2.result.0.now in
    let behind : List ℕ = c.split_at-2.result.1.now in
    let mark : 39 ∷ c.split_at-3.result.1.now ≡ behind = ap (λ l. 39 ∷ l) c.split_at-3.ensures.back ∙ begun behind (sym c.byte_at.ensures ∙ c.if-byte_at-ne39.false) in
    let inner : blanks ++ behind ≡ tail =
    ap (λ l. l ++ behind) c.split_at-2.ensures.front ∙ ap (λ l. take c.run_len-2.result tail ++ l) c.split_at-2.ensures.back ∙ take-append-drop c.run_len-2.result tail in
    let outer : digits ++ tail ≡ rest = ap (λ l. l ++ tail) c.split_at.ensures.front ∙ ap (λ l. take c.run_len.result rest ++ l) c.split_at.ensures.back ∙ take-append-drop c.run_len.result rest in
    let P : List ℕ → Type 0 = λ l. IsAnswer (c.args.first ∷ l) c.number_with_size.result in
    subst P (ap (λ l. digits ++ (blanks ++ l)) mark ∙ ap (λ l. digits ++ l) inner ∙ outer) c.number_with_size.ensures
