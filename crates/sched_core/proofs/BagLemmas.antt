-- A bag with one line more, and with a text more.
use Rattle.std.proofs.Common.{◌≡◌, ◌≢◌, ◌⊎◌, inl, inr, ℕ, zero, suc, ◌≤◌, ◌<◌, Bool, true, false, cond, List, [], ◌∷◌, ◌++◌, length, insert, Some, refl, sym, ap, subst, ◌∙◌, arith}
use Rattle.std.specs.Prelude.{slice_get, nat_eq, not}
use Rattle.std.proofs.Math.Nat.{eq-or-lt_of_le}
use Rattle.std.specs.List.{filter, concat}
use Rattle.std.specs.Ordering.{nat_cmp, is_eq, is_lt, ordering_reverse}
use Rattle.std.specs.Cmp.{IsTotalOrder, unsigned_Decides}
use Rattle.std.specs.Cmp.Lexicographic.{slice_cmp, texts_ties}
use Rattle.std.proofs.lemmas.Cmp.{nat_list_cmp_total}
use Rattle.std.specs.declared.cmp.Ordering.{Ordering}
use Rattle.std.specs.declared.cmp.Ordering.TheVariants.{Less, Equal, Greater}
use Rattle.sched_core.specs.Bags.{insert_by, with_line, is_whole, lines_of, whole_lines, pieces_of, piece_of, with_each, with_text, AreLinesInOrder}
use Rattle.sched_core.specs.Inner.Bags.{IsBehind, IsBefore}
use Rattle.sched_core.specs.Tests.{list_tells}

-- ---- the lines of a bag stand in order

total : IsTotalOrder (slice_cmp nat_cmp)
total = nat_list_cmp_total

-- no line of a list is less than this one
abbrev IsLow : List ℕ → List (List ℕ) → Type 0
IsLow line lines = (j : ℕ) (b : List ℕ) → slice_get lines j ≡ Some b → slice_cmp nat_cmp b line ≢ Less

order_cons : (line : List ℕ) (lines : List (List ℕ)) → IsLow line lines → AreLinesInOrder lines → AreLinesInOrder (line ∷ lines)
order_cons line lines low order zero zero a b lt at there = absurd (omega (arith, lt))
order_cons line lines low order zero (suc j) a b lt at there =
    let same : line ≡ a = cc in subst (λ (x : List ℕ). slice_cmp nat_cmp b x ≢ Less) same (low j b there)
order_cons line lines low order (suc i) zero a b lt at there = absurd (omega (arith, lt))
order_cons line lines low order (suc i) (suc j) a b lt at there = order i j a b (omega (arith, lt)) at there

order_first : (line : List ℕ) (lines : List (List ℕ)) → AreLinesInOrder (line ∷ lines) → IsLow line lines
order_first line lines order j b there = order 0 (suc j) line b (omega arith) refl there

order_rest : (line : List ℕ) (lines : List (List ℕ)) → AreLinesInOrder (line ∷ lines) → AreLinesInOrder lines
order_rest line lines order i j a b lt at there = order (suc i) (suc j) a b (omega (arith, lt)) at there

low_cons : (line first : List ℕ) (rest : List (List ℕ)) → slice_cmp nat_cmp first line ≢ Less → IsLow line rest → IsLow line (first ∷ rest)
low_cons line first rest one low zero b at = let same : first ≡ b = cc in subst (λ (x : List ℕ). slice_cmp nat_cmp x line ≢ Less) same one
low_cons line first rest one low (suc j) b at = low j b at

low_first : (line first : List ℕ) (rest : List (List ℕ)) → IsLow line (first ∷ rest) → slice_cmp nat_cmp first line ≢ Less
low_first line first rest low = low 0 first refl

low_rest : (line first : List ℕ) (rest : List (List ℕ)) → IsLow line (first ∷ rest) → IsLow line rest
low_rest line first rest low j b at = low (suc j) b at

low_placed : (o : Ordering) (x line first : List ℕ) (behind rest : List (List ℕ)) → slice_cmp nat_cmp line x ≢ Less → IsLow x (first ∷ rest) → IsLow x behind →
    IsLow x (insert_by o line first behind rest)
low_placed Greater x line first behind rest more low then = low_cons x first behind (low_first x first rest low) then
low_placed Equal x line first behind rest more low then = low_cons x line (first ∷ rest) more low
low_placed Less x line first behind rest more low then = low_cons x line (first ∷ rest) more low

low_with : (x line : List ℕ) (lines : List (List ℕ)) → slice_cmp nat_cmp line x ≢ Less → IsLow x lines → IsLow x (with_line line lines)
low_with x line [] more low = low_cons x line [] more low
low_with x line (first ∷ rest) more low =
    low_placed (slice_cmp nat_cmp line first) x line first (with_line line rest) rest more low (low_with x line rest more (low_rest x first rest low))

-- what isn't less than a line isn't less than one that comes no later
no_less : (line first b : List ℕ) → slice_cmp nat_cmp line first ≢ Greater → slice_cmp nat_cmp b first ≢ Less → slice_cmp nat_cmp b line ≢ Less
no_less line first b up not_less less = by (slice_cmp nat_cmp line first) refl
  where
    by : (o : Ordering) → slice_cmp nat_cmp line first ≡ o → ⊥
    by Greater is = up is
    by Equal is = not_less (total.antisymm b first ∙ ap ordering_reverse (sym (total.congr line first b is)) ∙ sym (total.antisymm b line) ∙ less)
    by Less is = not_less (total.trans b line first less is)

turned : (line first : List ℕ) (o : Ordering) → slice_cmp nat_cmp line first ≡ o → slice_cmp nat_cmp first line ≡ ordering_reverse o
turned line first o is = total.antisymm first line ∙ ap ordering_reverse is

before : (line first : List ℕ) (rest : List (List ℕ)) → slice_cmp nat_cmp line first ≢ Greater → slice_cmp nat_cmp first line ≢ Less →
    AreLinesInOrder (first ∷ rest) → AreLinesInOrder (line ∷ first ∷ rest)
before line first rest up down order = order_cons line (first ∷ rest)
    (low_cons line first rest down (λ j b at. no_less line first b up (order_first first rest order j b at))) order

order_placed : (o : Ordering) (line first : List ℕ) (rest : List (List ℕ)) → slice_cmp nat_cmp line first ≡ o → AreLinesInOrder (first ∷ rest) →
    AreLinesInOrder (with_line line rest) → AreLinesInOrder (insert_by o line first (with_line line rest) rest)
order_placed Greater line first rest is order then =
    order_cons first (with_line line rest)
    (low_with first line rest (λ less. let no : Greater ≡ Less = sym is ∙ less in cc) (order_first first rest order)) then
order_placed Equal line first rest is order then =
    before line first rest (λ more. let no : Equal ≡ Greater = sym is ∙ more in cc)
    (λ less. let no : ordering_reverse Equal ≡ Less = sym (turned line first Equal is) ∙ less in cc) order
order_placed Less line first rest is order then =
    before line first rest (λ more. let no : Less ≡ Greater = sym is ∙ more in cc)
    (λ less. let no : ordering_reverse Less ≡ Less = sym (turned line first Less is) ∙ less in cc) order

pub with_line-order : (line : List ℕ) (lines : List (List ℕ)) → AreLinesInOrder lines → AreLinesInOrder (with_line line lines)
with_line-order line [] order = order_cons line [] (λ j b at. cc) order
with_line-order line (first ∷ rest) order =
    order_placed (slice_cmp nat_cmp line first) line first rest refl order (with_line-order line rest (order_rest first rest order))

-- ---- behind all that aren't greater

-- a line that is less than none of these comes first
put_low : (line : List ℕ) (lines : List (List ℕ)) → IsLow line lines → with_line line lines ≡ line ∷ lines
put_low line [] low = refl
put_low line (first ∷ rest) low = by (slice_cmp nat_cmp line first) refl
  where
    by : (o : Ordering) → slice_cmp nat_cmp line first ≡ o → with_line line (first ∷ rest) ≡ line ∷ first ∷ rest
    by Greater is = absurd (low 0 first refl (turned line first Greater is))
    by Equal is = ap (λ (o : Ordering). insert_by o line first (with_line line rest) rest) is
    by Less is = ap (λ (o : Ordering). insert_by o line first (with_line line rest) rest) is

pub placed : (line : List ℕ) (lines : List (List ℕ)) (k : ℕ) → AreLinesInOrder lines → k ≤ length lines → IsBehind line lines k → IsBefore line lines k →
    insert lines k line ≡ with_line line lines
placed line [] zero order within high low = refl
placed line [] (suc k) order within high low = absurd (omega (arith, within))
placed line (first ∷ rest) zero order within high low =
    sym (ap (λ (o : Ordering). insert_by o line first (with_line line rest) rest) (low 0 first (omega arith) refl))
placed line (first ∷ rest) (suc k) order within high low =
    by (slice_cmp nat_cmp line first) refl
    (placed line rest k (order_rest first rest order) (omega (arith, within))
    (λ j other lt at. high (suc j) other (omega (arith, lt)) at) (λ j other le at. low (suc j) other (omega (arith, le)) at))
  where
    by : (o : Ordering) → slice_cmp nat_cmp line first ≡ o → insert rest k line ≡ with_line line rest →
        first ∷ insert rest k line ≡ with_line line (first ∷ rest)
    by Greater is later =
        ap (λ (lines : List (List ℕ)). first ∷ lines) later ∙ sym (ap (λ (o : Ordering). insert_by o line first (with_line line rest) rest) is)
    by Equal is later =
        let same : line ≡ first = (list_tells nat_eq unsigned_Decides line first).0 (texts_ties line first ∙ ap is_eq is) in
        ap (λ (lines : List (List ℕ)). first ∷ lines) (later ∙ put_low line rest (subst (λ (x : List ℕ). IsLow x rest) (sym same) (order_first first rest order)))
        ∙ ap (λ (x : List ℕ). x ∷ line ∷ rest) (sym same)
        ∙ ap (λ (x : List ℕ). line ∷ x ∷ rest) same
        ∙ sym (ap (λ (o : Ordering). insert_by o line first (with_line line rest) rest) is)
    by Less is later = absurd (high 0 first (omega arith) refl is)

-- the same, as the parts of the code tell it
pub inserted : (line new : List ℕ) (lines shown made : List (List ℕ)) (k : ℕ) → made ≡ insert lines k new → new ≡ line → shown ≡ lines → AreLinesInOrder lines →
    k ≤ length shown → IsBehind line shown k → IsBefore line shown k → made ≡ with_line line lines
inserted line new lines shown made k is same seen order within high low =
    is
    ∙ ap (insert lines k) same
    ∙ placed line lines k order (subst (λ (x : List (List ℕ)). k ≤ length x) seen within) (subst (λ (x : List (List ℕ)). IsBehind line x k) seen high)
    (subst (λ (x : List (List ℕ)). IsBefore line x k) seen low)

-- ---- where that is

less_still : (line middle other : List ℕ) → slice_cmp nat_cmp line middle ≡ Less → slice_cmp nat_cmp other middle ≢ Less → slice_cmp nat_cmp line other ≡ Less
less_still line middle other less isnt = by (slice_cmp nat_cmp middle other) refl
  where
    by : (o : Ordering) → slice_cmp nat_cmp middle other ≡ o → slice_cmp nat_cmp line other ≡ Less
    by Greater is = absurd (isnt (turned middle other Greater is))
    by Equal is =
        total.antisymm line other
        ∙ ap ordering_reverse (sym (total.congr middle other line is) ∙ total.antisymm middle line ∙ ap ordering_reverse less)
    by Less is = total.trans line middle other less is

pub before_still : (line middle : List ℕ) (lines : List (List ℕ)) (k : ℕ) → AreLinesInOrder lines → slice_get lines k ≡ Some middle →
    slice_cmp nat_cmp line middle ≡ Less → IsBefore line lines k
before_still line middle lines k order here less j other le there = by (eq-or-lt_of_le le)
  where
    by : (k ≡ j) ⊎ (k < j) → slice_cmp nat_cmp line other ≡ Less
    by (inr lt) = less_still line middle other less (order k j middle other lt here there)
    by (inl same) = let one : middle ≡ other = cc in subst (λ (x : List ℕ). slice_cmp nat_cmp line x ≡ Less) one less

pub behind_still : (line middle : List ℕ) (lines : List (List ℕ)) (k : ℕ) → AreLinesInOrder lines → slice_get lines k ≡ Some middle →
    slice_cmp nat_cmp line middle ≢ Less → IsBehind line lines (suc k)
behind_still line middle lines k order here isnt j other lt there less = by (eq-or-lt_of_le (le_of_lt-suc lt))
  where
    le_of_lt-suc : j < suc k → j ≤ k
    le_of_lt-suc lt = omega (arith, lt)

    by : (j ≡ k) ⊎ (j < k) → ⊥
    by (inr lt) = isnt (less_still line other middle less (order j k other middle lt there here))
    by (inl same) = let one : other ≡ middle = cc in isnt (subst (λ (x : List ℕ). slice_cmp nat_cmp line x ≡ Less) one less)

pub is_less : (a b : List ℕ) → is_lt (slice_cmp nat_cmp a b) ≡ true → slice_cmp nat_cmp a b ≡ Less
is_less a b is = by (slice_cmp nat_cmp a b) refl
  where
    by : (o : Ordering) → slice_cmp nat_cmp a b ≡ o → slice_cmp nat_cmp a b ≡ Less
    by Less same = same
    by Equal same = let wrong : false ≡ true = sym (ap is_lt same) ∙ is in cc
    by Greater same = let wrong : false ≡ true = sym (ap is_lt same) ∙ is in cc

pub isnt_less : (a b : List ℕ) → is_lt (slice_cmp nat_cmp a b) ≡ false → slice_cmp nat_cmp a b ≢ Less
isnt_less a b is less = let wrong : true ≡ false = sym (ap is_lt less) ∙ is in cc

-- ---- whole lines, and pieces

low_filter : (test : List ℕ → Bool) (line : List ℕ) (lines : List (List ℕ)) → IsLow line lines → IsLow line (filter test lines)
low_filter test line [] low = low
low_filter test line (first ∷ rest) low = by (test first) (low_filter test line rest (low_rest line first rest low))
  where
    by : (b : Bool) → IsLow line (filter test rest) → IsLow line (cond b (first ∷ filter test rest) (filter test rest))
    by true later = low_cons line first (filter test rest) (low_first line first rest low) later
    by false later = later

order_filter : (test : List ℕ → Bool) (lines : List (List ℕ)) → AreLinesInOrder lines → AreLinesInOrder (filter test lines)
order_filter test [] order = order
order_filter test (first ∷ rest) order = by (test first) (order_filter test rest (order_rest first rest order))
  where
    by : (b : Bool) → AreLinesInOrder (filter test rest) → AreLinesInOrder (cond b (first ∷ filter test rest) (filter test rest))
    by true later = order_cons first (filter test rest) (low_filter test first rest (order_first first rest order)) later
    by false later = later

pub whole-order : (bag : List (List ℕ)) → AreLinesInOrder bag → AreLinesInOrder (whole_lines bag)
whole-order bag order = order_filter is_whole bag order

pub whole-no_piece : (bag : List (List ℕ)) → pieces_of (whole_lines bag) ≡ []
whole-no_piece [] = refl
whole-no_piece (first ∷ rest) = by (is_whole first) refl (whole-no_piece rest)
  where
    by : (b : Bool) → is_whole first ≡ b → pieces_of (whole_lines rest) ≡ [] → pieces_of (cond b (first ∷ whole_lines rest) (whole_lines rest)) ≡ []
    by true is later = ap (λ (b : Bool). cond (not b) (first ∷ pieces_of (whole_lines rest)) (pieces_of (whole_lines rest))) is ∙ later
    by false is later = later

-- where no piece is there all lines are whole
pub all_whole : (bag : List (List ℕ)) → pieces_of bag ≡ [] → whole_lines bag ≡ bag
all_whole [] none = refl
all_whole (first ∷ rest) none = by (is_whole first) none (all_whole rest)
  where
    by : (b : Bool) → cond (not b) (first ∷ pieces_of rest) (pieces_of rest) ≡ [] → (pieces_of rest ≡ [] → whole_lines rest ≡ rest) → cond b (first ∷ whole_lines rest) (whole_lines rest) ≡ first ∷ rest
    by true none later = ap (λ (lines : List (List ℕ)). first ∷ lines) (later none)
    by false none later = cc

-- a bag of whole lines with a text more
pub no_piece-with_text : (text : List ℕ) (bag : List (List ℕ)) → pieces_of bag ≡ [] → with_each (lines_of text) bag ≡ with_text text bag
no_piece-with_text text bag none =
    ap (with_each (lines_of text)) (sym (all_whole bag none))
    ∙ ap (λ (pieces : List (List ℕ)). with_each (lines_of (concat pieces ++ text)) (whole_lines bag)) (sym none)

-- the pieces of a bag with a line more: those that were there, and the line where it is one
pieces_placed : (o : Ordering) (line first : List ℕ) (later rest : List (List ℕ)) → is_whole line ≡ true → pieces_of later ≡ pieces_of rest →
    pieces_of (insert_by o line first later rest) ≡ pieces_of (first ∷ rest)
pieces_placed Greater line first later rest is then = ap (λ (lines : List (List ℕ)). cond (not (is_whole first)) (first ∷ lines) lines) then
pieces_placed Equal line first later rest is then = ap (λ (b : Bool). cond (not b) (line ∷ pieces_of (first ∷ rest)) (pieces_of (first ∷ rest))) is
pieces_placed Less line first later rest is then = ap (λ (b : Bool). cond (not b) (line ∷ pieces_of (first ∷ rest)) (pieces_of (first ∷ rest))) is

pub pieces-with_line : (line : List ℕ) (bag : List (List ℕ)) → is_whole line ≡ true → pieces_of (with_line line bag) ≡ pieces_of bag
pieces-with_line line [] is = ap (λ (b : Bool). cond (not b) (line ∷ []) []) is
pieces-with_line line (first ∷ rest) is =
    pieces_placed (slice_cmp nat_cmp line first) line first (with_line line rest) rest is (pieces-with_line line rest is)

pub pieces-push : (line : List ℕ) (bag : List (List ℕ)) → is_whole line ≡ true → pieces_of (bag ++ line ∷ []) ≡ pieces_of bag
pieces-push line [] is = ap (λ (b : Bool). cond (not b) (line ∷ []) []) is
pieces-push line (first ∷ rest) is = ap (λ (lines : List (List ℕ)). cond (not (is_whole first)) (first ∷ lines) lines) (pieces-push line rest is)

-- ---- the order is kept

pub with_each-order : (lines bag : List (List ℕ)) → AreLinesInOrder bag → AreLinesInOrder (with_each lines bag)
with_each-order [] bag order = order
with_each-order (line ∷ lines) bag order = with_each-order lines (with_line line bag) (with_line-order line bag order)

pub with_text-order : (text : List ℕ) (bag : List (List ℕ)) → AreLinesInOrder bag → AreLinesInOrder (with_text text bag)
with_text-order text bag order = with_each-order (lines_of (piece_of bag ++ text)) (whole_lines bag) (whole-order bag order)
