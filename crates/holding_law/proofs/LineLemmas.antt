-- In which order lines are put into a bag doesn't count.
use Rattle.std.proofs.Common.{◌≡◌, ◌≢◌, ℕ, Bool, true, false, cond, List, [], ◌∷◌, refl, sym, ap, subst, ◌∙◌}
use Rattle.std.specs.Prelude.{nat_eq, not}
use Rattle.std.specs.Ordering.{nat_cmp, is_eq, ordering_reverse}
use Rattle.std.specs.Cmp.{IsTotalOrder, unsigned_Decides}
use Rattle.std.specs.Cmp.Lexicographic.{slice_cmp, texts_ties}
use Rattle.std.proofs.lemmas.Cmp.{nat_list_cmp_total}
use Rattle.std.specs.declared.cmp.Ordering.{Ordering}
use Rattle.std.specs.declared.cmp.Ordering.TheVariants.{Less, Equal, Greater}
use Rattle.sched_core.specs.Bags.{insert_by, with_line, is_whole, lines_of, pieces_of, with_each, with_text}
use Rattle.sched_core.proofs.BagLemmas.{pieces-with_line, no_piece-with_text}
use Rattle.sched_core.specs.Tests.{list_tells}

order : IsTotalOrder (slice_cmp nat_cmp)
order = nat_list_cmp_total

-- ---- where a line comes

put : (line first : List ℕ) (rest : List (List ℕ)) (o : Ordering) → slice_cmp nat_cmp line first ≡ o →
    with_line line (first ∷ rest) ≡ insert_by o line first (with_line line rest) rest
put line first rest o is = ap (λ (x : Ordering). insert_by x line first (with_line line rest) rest) is

put_first : (line first : List ℕ) (rest : List (List ℕ)) → slice_cmp nat_cmp line first ≢ Greater → with_line line (first ∷ rest) ≡ line ∷ first ∷ rest
put_first line first rest low = by (slice_cmp nat_cmp line first) refl
  where
    by : (o : Ordering) → slice_cmp nat_cmp line first ≡ o → with_line line (first ∷ rest) ≡ line ∷ first ∷ rest
    by Greater is = absurd (low is)
    by Equal is = put line first rest Equal is
    by Less is = put line first rest Less is

not_greater : (a b : List ℕ) → slice_cmp nat_cmp a b ≡ Less → slice_cmp nat_cmp a b ≢ Greater
not_greater a b less = λ more. let no : Less ≡ Greater = sym less ∙ more in cc

greater : (a b : List ℕ) → slice_cmp nat_cmp a b ≡ Less → slice_cmp nat_cmp b a ≡ Greater
greater a b less = order.antisymm b a ∙ ap ordering_reverse less

greater_still : (a b x : List ℕ) → slice_cmp nat_cmp a b ≡ Less → slice_cmp nat_cmp a x ≡ Greater → slice_cmp nat_cmp b x ≡ Greater
greater_still a b x less more = greater x b (order.trans x a b (order.antisymm x a ∙ ap ordering_reverse more) less)

-- ---- two lines, the first of which is less

-- one comes first
abbrev ComesFirst : List ℕ → List (List ℕ) → Type 0
ComesFirst a lines = with_line a lines ≡ a ∷ lines

-- it still does where a greater one is there
first_still : (a b x : List ℕ) (rest : List (List ℕ)) → slice_cmp nat_cmp a b ≡ Less → slice_cmp nat_cmp a x ≢ Greater →
    with_line a (with_line b (x ∷ rest)) ≡ a ∷ with_line b (x ∷ rest)
first_still a b x rest less low = by (slice_cmp nat_cmp b x) refl
  where
    by : (o : Ordering) → slice_cmp nat_cmp b x ≡ o → with_line a (with_line b (x ∷ rest)) ≡ a ∷ with_line b (x ∷ rest)
    by Greater is = subst (ComesFirst a) (sym (put b x rest Greater is)) (put_first a x (with_line b rest) low)
    by Equal is = subst (ComesFirst a) (sym (put b x rest Equal is)) (put_first a b (x ∷ rest) (not_greater a b less))
    by Less is = subst (ComesFirst a) (sym (put b x rest Less is)) (put_first a b (x ∷ rest) (not_greater a b less))

less_first : (a b : List ℕ) (bag : List (List ℕ)) → slice_cmp nat_cmp a b ≡ Less → with_line a (with_line b bag) ≡ with_line b (with_line a bag)
less_first a b [] less = put_first a b [] (not_greater a b less) ∙ sym (put b a [] Greater (greater a b less))
less_first a b (x ∷ rest) less = by (slice_cmp nat_cmp a x) refl (less_first a b rest less)
  where
    at_once : slice_cmp nat_cmp a x ≢ Greater → with_line a (with_line b (x ∷ rest)) ≡ with_line b (with_line a (x ∷ rest))
    at_once low =
        first_still a b x rest less low
        ∙ sym (put b a (x ∷ rest) Greater (greater a b less))
        ∙ ap (with_line b) (sym (put_first a x rest low))

    by : (o : Ordering) → slice_cmp nat_cmp a x ≡ o → with_line a (with_line b rest) ≡ with_line b (with_line a rest) →
        with_line a (with_line b (x ∷ rest)) ≡ with_line b (with_line a (x ∷ rest))
    by Greater is then =
        let up = greater_still a b x less is in
        ap (with_line a) (put b x rest Greater up)
        ∙ put a x (with_line b rest) Greater is
        ∙ ap (λ (lines : List (List ℕ)). x ∷ lines) then
        ∙ sym (put b x (with_line a rest) Greater up)
        ∙ ap (with_line b) (sym (put a x rest Greater is))
    by Equal is then = at_once (λ more. let no : Equal ≡ Greater = sym is ∙ more in cc)
    by Less is then = at_once (not_greater a x is)

pub unordered : (a b : List ℕ) (bag : List (List ℕ)) → with_line a (with_line b bag) ≡ with_line b (with_line a bag)
unordered a b bag = by (slice_cmp nat_cmp a b) refl
  where
    by : (o : Ordering) → slice_cmp nat_cmp a b ≡ o → with_line a (with_line b bag) ≡ with_line b (with_line a bag)
    by Less is = less_first a b bag is
    by Equal is =
        let same : a ≡ b = (list_tells nat_eq unsigned_Decides a b).0 (texts_ties a b ∙ ap is_eq is) in
        ap (λ (line : List ℕ). with_line line (with_line b bag)) same ∙ ap (λ (line : List ℕ). with_line b (with_line line bag)) (sym same)
    by Greater is = sym (less_first b a bag (order.antisymm b a ∙ ap ordering_reverse is))

-- ---- several lines

each_one : (a : List ℕ) (lines bag : List (List ℕ)) → with_each lines (with_line a bag) ≡ with_line a (with_each lines bag)
each_one a [] bag = refl
each_one a (line ∷ lines) bag = ap (with_each lines) (unordered line a bag) ∙ each_one a lines (with_line line bag)

each_each : (xs ys bag : List (List ℕ)) → with_each xs (with_each ys bag) ≡ with_each ys (with_each xs bag)
each_each [] ys bag = refl
each_each (x ∷ xs) ys bag = ap (with_each xs) (sym (each_one x ys bag)) ∙ each_each xs ys (with_line x bag)

-- whole lines leave no piece
whole_each : (lines bag : List (List ℕ)) → pieces_of lines ≡ [] → pieces_of bag ≡ [] → pieces_of (with_each lines bag) ≡ []
whole_each [] bag whole none = none
whole_each (line ∷ lines) bag whole none = by (is_whole line) refl whole (whole_each lines (with_line line bag))
  where
    by : (w : Bool) → is_whole line ≡ w → cond (not w) (line ∷ pieces_of lines) (pieces_of lines) ≡ [] →
        (pieces_of lines ≡ [] → pieces_of (with_line line bag) ≡ [] → pieces_of (with_each lines (with_line line bag)) ≡ []) →
        pieces_of (with_each lines (with_line line bag)) ≡ []
    by true is all later = later all (pieces-with_line line bag is ∙ none)
    by false is all later = cc

both : (a b : List ℕ) (bag : List (List ℕ)) → pieces_of (lines_of b) ≡ [] → pieces_of bag ≡ [] →
    with_text a (with_text b bag) ≡ with_each (lines_of a) (with_each (lines_of b) bag)
both a b bag whole none =
    ap (with_text a) (sym (no_piece-with_text b bag none)) ∙ sym (no_piece-with_text a (with_each (lines_of b) bag) (whole_each (lines_of b) bag whole none))

pub prints_unordered : (a b : List ℕ) (bag : List (List ℕ)) → pieces_of (lines_of a) ≡ [] → pieces_of (lines_of b) ≡ [] → pieces_of bag ≡ [] →
    with_text a (with_text b bag) ≡ with_text b (with_text a bag)
prints_unordered a b bag first second none =
    both a b bag second none ∙ each_each (lines_of a) (lines_of b) bag ∙ sym (both b a bag first none)
