-- What an expansion makes: places in a row, and pieces of macro text.
use Rattle.std.proofs.Common.{◌≡◌, ℕ, zero, suc, ◌+◌, ◌-◌, ◌<◌, ◌≤◌, nat_le, true, false, List, [], ◌∷◌, ◌++◌, length, drop, map, Result, Ok, Err, refl, sym, ◌∙◌, ap, arith, append_assoc}
use Rattle.std.proofs.Math.ListN.{drop_of_length-le}
use Rattle.std.proofs.lemmas.List.{drop-drop}
use Rattle.std.specs.List.{range_with_len}
use Rattle.vsrc.specs.declared.refusal.Refusal.{Refusal}
use Rattle.vsrc.specs.declared.refusal.Why.TheVariants.{Limit}
use Rattle.vsrc.specs.Macros.{Macros, Made, and_then, count_use, expand_text, piece, piece_len, refused_at, text_for, use_limit, make_use}
use Rattle.vsrc.specs.Pieces.{of_text}
use Rattle.vsrc.proofs.Stretches.{drop_here}

-- ---- places in a row

pub run_next : (xs whole : List ℕ) (place end : ℕ) → place < end → xs ++ range_with_len place (end - place) ≡ whole
    → (xs ++ place ∷ []) ++ range_with_len (place + 1) (end - (place + 1)) ≡ whole
run_next xs whole place end before h =
    let left : end - place ≡ suc (end - (place + 1)) = omega arith in
    append_assoc xs (place ∷ []) _ ∙ ap (λ n. xs ++ range_with_len place n) (sym left) ∙ h

pub same_next : (xs whole bytes : List ℕ) (at i : ℕ) → i < length bytes → xs ++ map (λ (byte : ℕ). at) (drop i bytes) ≡ whole
    → (xs ++ at ∷ []) ++ map (λ (byte : ℕ). at) (drop (i + 1) bytes) ≡ whole
same_next xs whole bytes at i within h =
    append_assoc xs (at ∷ []) _ ∙ ap (λ l. xs ++ map (λ (byte : ℕ). at) l) (sym (drop_here bytes i within)) ∙ h

-- ---- uses

pub record Gives (nested : List ℕ → Made → Result Made Refusal) (at : ℕ) (text : List ℕ) (from : ℕ) (made : Made) (whole : Result Made Refusal) : Type 0 where
  pub bound : ℕ
  pub enough : length text ≤ bound + from
  pub same : expand_text nested at bound (drop from text) made ≡ whole

pub gives_begins : (nested : List ℕ → Made → Result Made Refusal) (at : ℕ) (text : List ℕ) (made : Made)
    → Gives nested at text 0 made (expand_text nested at (length text) text made)
gives_begins nested at text made = record { bound = length text; enough = omega arith; same = refl }

given_nothing : (nested : List ℕ → Made → Result Made Refusal) (at n : ℕ) (made : Made) → expand_text nested at n [] made ≡ Ok made
given_nothing nested at zero made = refl
given_nothing nested at (suc n) made = given_nothing nested at n made

pub gives_ends : (nested : List ℕ → Made → Result Made Refusal) (at : ℕ) (text : List ℕ) (from : ℕ) (made : Made) (whole : Result Made Refusal)
    → length text ≤ from → Gives nested at text from made whole → whole ≡ Ok made
gives_ends nested at text from made whole end g =
    sym g.same ∙ ap (λ l. expand_text nested at g.bound l made) (drop_of_length-le text end) ∙ given_nothing nested at g.bound made

-- a piece more, with what it gives and what stands behind it
pub gives_on : (nested : List ℕ → Made → Result Made Refusal) (at : ℕ) (text rest : List ℕ) (from len : ℕ) (made : Made) (whole next : Result Made Refusal)
    → from < length text → rest ≡ drop from text → len ≡ piece_len rest → 0 < len → piece nested at rest made ≡ next → Gives nested at text from made whole
    → (n : ℕ) × ((length text ≤ n + (from + len)) × (and_then next (expand_text nested at n (drop (from + len) text)) ≡ whole))
gives_on nested at text rest from len made whole next within is value some made_next g = go g.bound g.enough g.same
  where
    go : (n : ℕ) → length text ≤ n + from → expand_text nested at n (drop from text) made ≡ whole → (n : ℕ) × ((length text ≤ n + (from + len)) × (and_then next (expand_text nested at n (drop (from + len) text)) ≡ whole))
    go zero enough same = absurd (omega arith)
    go (suc n) enough same = (
      n,
      (
        omega arith,
        ap (λ l. and_then next (expand_text nested at n l)) (sym (ap (drop len) is ∙ drop-drop len from text))
            ∙ ap (λ k. and_then next (expand_text nested at n (drop k rest))) value
            ∙ ap (λ r. and_then r (expand_text nested at n (drop (piece_len rest) rest))) (sym made_next)
            ∙ ap (λ l. expand_text nested at (suc n) l made) is ∙ same,
      ),
    )

pub gives_more : (nested : List ℕ → Made → Result Made Refusal) (at : ℕ) (text rest : List ℕ) (from len : ℕ) (made after : Made) (whole : Result Made Refusal)
    → from < length text → rest ≡ drop from text → len ≡ piece_len rest → 0 < len → piece nested at rest made ≡ Ok after → Gives nested at text from made whole
    → Gives nested at text (from + len) after whole
gives_more nested at text rest from len made after whole within is value some made_next g =
    let on = gives_on nested at text rest from len made whole (Ok after) within is value some made_next g in
    record { bound = on.0; enough = on.1.0; same = on.1.1 }

pub gives_stop : (nested : List ℕ → Made → Result Made Refusal) (at : ℕ) (text rest : List ℕ) (from : ℕ) (made : Made) (refusal : Refusal) (whole : Result Made Refusal)
    → from < length text → rest ≡ drop from text → piece nested at rest made ≡ Err refusal → Gives nested at text from made whole → whole ≡ Err refusal
gives_stop nested at text rest from made refusal whole within is made_next g = go g.bound g.enough g.same
  where
    go : (n : ℕ) → length text ≤ n + from → expand_text nested at n (drop from text) made ≡ whole → whole ≡ Err refusal
    go zero enough same = absurd (omega arith)
    go (suc n) enough same =
        sym same ∙ ap (λ l. expand_text nested at (suc n) l made) (sym is) ∙ ap (λ r. and_then r (expand_text nested at n (drop (piece_len rest) rest))) made_next

pub used_is : (levels : ℕ) (macros : Macros) (at : ℕ) (name : List ℕ) (made : Made)
    → make_use levels macros at name made ≡ and_then (text_for macros at name) (λ text. of_text levels macros at text made)
unfolding make_use of_text
used_is zero macros at name made = refl
used_is (suc levels) macros at name made = refl

pub used_none : (levels : ℕ) (macros : Macros) (at : ℕ) (name : List ℕ) (made : Made) (refusal : Refusal) → text_for macros at name ≡ Err refusal
    → make_use levels macros at name made ≡ Err refusal
used_none levels macros at name made refusal none =
    used_is levels macros at name made ∙ ap (λ r. and_then r (λ text. of_text levels macros at text made)) none

pub used_some : (levels : ℕ) (macros : Macros) (at : ℕ) (name text : List ℕ) (made : Made) → text_for macros at name ≡ Ok text
    → make_use levels macros at name made ≡ of_text levels macros at text made
used_some levels macros at name text made some =
    used_is levels macros at name made ∙ ap (λ r. and_then r (λ text. of_text levels macros at text made)) some

pub of_text_deep : (levels : ℕ) (macros : Macros) (at : ℕ) (text : List ℕ) (made : Made) → levels ≡ 0 → of_text levels macros at text made ≡ Err (refused_at at Limit)
unfolding of_text
of_text_deep zero macros at text made none = refl
of_text_deep (suc levels) macros at text made none = absurd (omega arith)

pub of_text_full : (levels : ℕ) (macros : Macros) (at : ℕ) (text : List ℕ) (made : Made) → nat_le use_limit made.uses ≡ true
    → of_text levels macros at text made ≡ Err (refused_at at Limit)
unfolding of_text
of_text_full zero macros at text made full = refl
of_text_full (suc levels) macros at text made full = rw full refl

pub of_text_gives : (levels : ℕ) (macros : Macros) (at : ℕ) (text : List ℕ) (made : Made) → 0 < levels → nat_le use_limit made.uses ≡ false
    → expand_text (make_use (levels - 1) macros at) at (length text) text (count_use made) ≡ of_text levels macros at text made
unfolding of_text
of_text_gives zero macros at text made more room = absurd (omega arith)
of_text_gives (suc levels) macros at text made more room =
    let less : suc levels - 1 ≡ levels = omega arith in
    ap (λ n. expand_text (make_use n macros at) at (length text) text (count_use made)) less ∙ sym (rw room refl)
