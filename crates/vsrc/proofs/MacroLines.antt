-- The text of a macro, byte by byte and stretch by stretch.
use Rattle.std.proofs.Common.{◌≡◌, ℕ, zero, suc, ◌+◌, ◌<◌, ◌≤◌, true, false, cond, List, [], ◌∷◌, ◌++◌, length, take, drop, get_or, refl, sym, ◌∙◌, ap, arith, append_assoc, subst}
use Rattle.std.proofs.Math.ListN.{drop_of_length-le}
use Rattle.std.proofs.lemmas.List.{drop-drop, append-nil}
use Rattle.vsrc.specs.Outside.{stretch_len}
use Rattle.vsrc.specs.Macros.{is_joint, without_backslashes, begins_comment, without_comments}

-- ---- backslashes at the ends of lines

stays : (rest : List ℕ) → 0 < length rest → is_joint rest ≡ false → without_backslashes rest ≡ get_or rest 0 0 ∷ without_backslashes (drop 1 rest)
stays [] some plain = absurd (omega arith)
stays (c ∷ cs) some plain = rw plain refl

goes : (rest : List ℕ) → is_joint rest ≡ true → without_backslashes rest ≡ without_backslashes (drop 1 rest)
goes [] joint = refl
goes (c ∷ cs) joint = rw joint refl

behind : (text rest : List ℕ) (at n : ℕ) → rest ≡ drop at text → drop n rest ≡ drop (at + n) text
behind text rest at n is = ap (drop n) is ∙ drop-drop n at text

pub line_stays : (lines text rest : List ℕ) (at : ℕ) → rest ≡ drop at text → 0 < length rest → is_joint rest ≡ false
    → lines ++ without_backslashes (drop at text) ≡ without_backslashes text → (lines ++ get_or rest 0 0 ∷ []) ++ without_backslashes (drop (at + 1) text) ≡ without_backslashes text
line_stays lines text rest at is some plain whole =
    append_assoc lines (get_or rest 0 0 ∷ []) _
    ∙ ap (λ l. lines ++ get_or rest 0 0 ∷ without_backslashes l) (sym (behind text rest at 1 is))
    ∙ ap (λ l. lines ++ l) (sym (stays rest some plain)) ∙ ap (λ l. lines ++ without_backslashes l) is ∙ whole

pub line_goes : (lines text rest : List ℕ) (at : ℕ) → rest ≡ drop at text → is_joint rest ≡ true
    → lines ++ without_backslashes (drop at text) ≡ without_backslashes text → lines ++ without_backslashes (drop (at + 1) text) ≡ without_backslashes text
line_goes lines text rest at is joint whole =
    ap (λ l. lines ++ without_backslashes l) (sym (behind text rest at 1 is))
    ∙ ap (λ l. lines ++ l) (sym (goes rest joint)) ∙ ap (λ l. lines ++ without_backslashes l) is ∙ whole

-- ---- comments

-- what was put and what is left make the whole, where enough stretches may follow
pub record Cut (left text : List ℕ) (at : ℕ) : Type 0 where
  pub bound : ℕ
  pub enough : length text ≤ bound + at
  pub whole : left ++ without_comments bound (drop at text) ≡ without_comments (length text) text

pub cut_begins : (left text : List ℕ) → left ≡ [] → Cut left text 0
cut_begins left text none = record { bound = length text; enough = omega arith; whole = ap (λ l. l ++ without_comments (length text) text) none }

pub cut_ends : (left text : List ℕ) (at : ℕ) → length text ≤ at → Cut left text at → left ≡ without_comments (length text) text
cut_ends left text at end cut =
    let none : without_comments cut.bound (drop at text) ≡ [] = ap (without_comments cut.bound) (drop_of_length-le text end) ∙ nothing cut.bound in
    sym (append-nil left) ∙ ap (λ l. left ++ l) (sym none) ∙ cut.whole
  where
    nothing : (n : ℕ) → without_comments n [] ≡ []
    nothing zero = refl
    nothing (suc n) = nothing n

-- the stretch at the head, as it stays
abbrev stretch : List ℕ → List ℕ
stretch rest = cond (begins_comment rest) [] (take (stretch_len rest) rest)

cut_next : (left text rest : List ℕ) (at len : ℕ) → rest ≡ drop at text → at < length text → 0 < len → len ≡ stretch_len rest
    → Cut left text at → Cut (left ++ stretch rest) text (at + len)
cut_next left text rest at len is within some value cut = go cut.bound cut.enough cut.whole
  where
    go : (n : ℕ) → length text ≤ n + at → left ++ without_comments n (drop at text) ≡ without_comments (length text) text → Cut (left ++ stretch rest) text (at + len)
    go zero enough whole = absurd (omega arith)
    go (suc n) enough whole = record {
      bound = n;
      enough = omega arith;
      whole =
          append_assoc left (stretch rest) _
          ∙ ap (λ l. left ++ (stretch rest ++ without_comments n l)) (sym (behind text rest at len is) ∙ ap (λ k. drop k rest) value)
          ∙ ap (λ l. left ++ without_comments (suc n) l) is ∙ whole;
    }

pub cut_stays : (left new text rest : List ℕ) (at len : ℕ) → rest ≡ drop at text → at < length text → 0 < len → len ≡ stretch_len rest
    → begins_comment rest ≡ false → new ≡ left ++ take len rest → Cut left text at → Cut new text (at + len)
cut_stays left new text rest at len is within some value plain put cut =
    let same : left ++ stretch rest ≡ new = ap (λ b. left ++ cond b [] (take (stretch_len rest) rest)) plain ∙ ap (λ k. left ++ take k rest) (sym value) ∙ sym put in
    subst (λ (l : List ℕ). Cut l text (at + len)) same (cut_next left text rest at len is within some value cut)

pub cut_goes : (left text rest : List ℕ) (at len : ℕ) → rest ≡ drop at text → at < length text → 0 < len → len ≡ stretch_len rest
    → begins_comment rest ≡ true → Cut left text at → Cut left text (at + len)
cut_goes left text rest at len is within some value comment cut =
    let same : left ++ stretch rest ≡ left = ap (λ b. left ++ cond b [] (take (stretch_len rest) rest)) comment ∙ append-nil left in
    subst (λ (l : List ℕ). Cut l text (at + len)) same (cut_next left text rest at len is within some value cut)
