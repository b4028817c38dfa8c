-- What begins with a quote or a slash: strings, comments and the slash alone.
use Rattle.std.proofs.Common.{◌≡◌, ◌≢◌, ℕ, zero, suc, ◌+◌, ◌<◌, ◌≤◌, Bool, true, false, ◌&&◌, List, [], ◌∷◌, None, Some, length, take, drop, get_or, refl, sym, ◌∙◌, ap, subst, arith, inl, inr}
use Rattle.std.specs.List.{list_all, prefix_len}
use Rattle.std.proofs.lemmas.Bool.{ne_eqb, cases_Bool}
use Rattle.vlex.specs.declared.bytes.Set.TheVariants.{LineBytes}
use Rattle.vlex.specs.declared.form.Form.TheVariants.{Comment, Token}
use Rattle.vlex.specs.declared.kind.TokenKind.TheVariants.{Text, Symbol}
use Rattle.vlex.specs.Bytes.{is_in, lead_of}
use Rattle.vlex.specs.Forms.{ends_block, ends_string, has_good_escapes, only_if, form_of, form_by, slash_form}
use Rattle.vlex.specs.Inner.{IsLongest, Never}
use Rattle.vlex.specs.Lexed.{IsFront, IsStuck, IsOpen, is_free}
use Rattle.vsrc.specs.Outside.{block_end, string_end}
use Rattle.vlex.proofs.Ends.{stable_block, stable_string, never_ends, ends_once}
use Rattle.vlex.proofs.Runs.{run_longest}
use Rattle.vlex.proofs.Pieces.{IsOnly, IsLongestForm, front_of_longest, stuck_if_barred, piece_by, stuck_by, longest_if_only}

-- a string: closed, with good escapes
abbrev pub is_string : List ℕ → Bool
is_string cs = ends_string cs && has_good_escapes cs

pub told_string : (c : ℕ) → c ≡ 34 → (cs : List ℕ) → form_of (c ∷ cs) ≡ only_if (is_string cs) (Token Text)
told_string c e cs = ap (λ b. form_by (lead_of b) b cs) e

never_string : (cs : List ℕ) → Never ends_string cs → Never is_string cs
never_string cs never = λ n. ap (λ b. b && has_good_escapes (take n cs)) (never n)

pub open_string : (c : ℕ) (cs : List ℕ) → c ≡ 34 → string_end cs ≡ None → IsStuck (c ∷ cs) × IsOpen (c ∷ cs)
open_string c cs e none = (stuck_by c cs is_string (Token Text) (told_string c e) (λ n _. never_string cs (never_ends string_end stable_string cs none) n), opened cs none) where
  opened : (cs : List ℕ) → string_end cs ≡ None → IsOpen (c ∷ cs)
  opened [] none = e
  opened (d ∷ ds) none = inr (e, none)

free_text : (c : ℕ) (rest : List ℕ) → is_free (Token Text) c rest ≡ true
free_text c [] = refl
free_text c (d ∷ ds) = refl

pub closed_string : (c : ℕ) (cs : List ℕ) (len whole : ℕ) → c ≡ 34 → whole ≡ suc len → string_end cs ≡ Some len → len ≤ length cs → has_good_escapes (take len cs) ≡ true → IsFront (c ∷ cs) (Token Text) whole
closed_string c cs len whole e sum found within good =
    let ends : IsOnly ends_string cs len = ends_once string_end stable_string cs len found within in
    piece_by c cs is_string (Token Text) (told_string c e) len whole sum
    (record {
      within = ends.within;
      passes = rw (ends.passes, good) refl;
      longest = λ n lt le. elim (cases_Bool (ends_string (take n cs))) [
        | inl again ↦ absurd (omega (arith, ends.only n le again))
        | inr ended ↦ ap (λ b. b && has_good_escapes (take n cs)) ended
      ];
    })
    (free_text c (drop len cs))

not_passing : (cs : List ℕ) (len n : ℕ) → IsOnly ends_string cs len → has_good_escapes (take len cs) ≡ false → n ≤ length cs → is_string (take n cs) ≡ false
not_passing cs len n ends bad le =
    elim (cases_Bool (ends_string (take n cs))) [
      | inl again ↦ let same : n ≡ len = ends.only n le again in rw again (ap (λ k. has_good_escapes (take k cs)) same ∙ bad)
      | inr ended ↦ ap (λ b. b && has_good_escapes (take n cs)) ended
    ]

pub bad_string : (c : ℕ) (cs : List ℕ) (len : ℕ) → c ≡ 34 → string_end cs ≡ Some len → len ≤ length cs → has_good_escapes (take len cs) ≡ false → IsStuck (c ∷ cs) × (IsOpen (c ∷ cs) → ⊥)
bad_string c cs len e found within bad =
    (stuck_by c cs is_string (Token Text) (told_string c e) (λ n le. not_passing cs len n (ends_once string_end stable_string cs len found within) bad le), shut cs found) where
      shut : (cs : List ℕ) → string_end cs ≡ Some len → IsOpen (c ∷ cs) → ⊥
      shut [] found is_open = let clash : None ≡ Some len = found in cc
      shut (d ∷ ds) found is_open = elim is_open [
        | inl comment ↦ omega (arith, e, comment.0)
        | inr string ↦ let clash : None ≡ Some len = sym string.1 ∙ found in cc
      ]

-- Comments

told_slash : (c : ℕ) → c ≡ 47 → (cs : List ℕ) → form_of (c ∷ cs) ≡ slash_form cs
told_slash c e cs = ap (λ b. form_by (lead_of b) b cs) e

module _ (c d : ℕ) (cs : List ℕ) (test : List ℕ → Bool) (told : (xs : List ℕ) → form_of (c ∷ d ∷ xs) ≡ only_if (test xs) Comment) where
  pub comment_by : (len : ℕ) → IsLongest test cs len → IsLongestForm (c ∷ d ∷ cs) Comment (suc (suc len))
  comment_by len l = record {
    within = omega (arith, l.within);
    shape = told (take len cs) ∙ ap (λ b. only_if b Comment) l.passes;
    longest = longer;
  } where
    longer : (n : ℕ) → suc (suc len) < n → n ≤ length (c ∷ d ∷ cs) → form_of (take n (c ∷ d ∷ cs)) ≡ None
    longer zero lt le = absurd (omega arith)
    longer (suc zero) lt le = absurd (omega arith)
    longer (suc (suc n)) lt le = told (take n cs) ∙ ap (λ b. only_if b Comment) (l.longest n (omega arith) (omega arith))

free_comment : (c : ℕ) (rest : List ℕ) → is_free Comment c rest ≡ true
free_comment c [] = refl
free_comment c (d ∷ ds) = refl

comment_front : (c d : ℕ) (cs : List ℕ) (len whole : ℕ) → whole ≡ 2 + len → IsLongestForm (c ∷ d ∷ cs) Comment (suc (suc len)) → IsFront (c ∷ d ∷ cs) Comment whole
comment_front c d cs len whole sum l =
    let same : whole ≡ suc (suc len) = omega (arith, sum) in
    subst (IsFront (c ∷ d ∷ cs) Comment) (sym same) (front_of_longest (c ∷ d ∷ cs) Comment (suc (suc len)) l (free_comment c (drop len cs)))

pub line_comment : (c : ℕ) (cs : List ℕ) (whole : ℕ) → c ≡ 47 → whole ≡ 2 + prefix_len (is_in LineBytes) cs → IsFront (c ∷ 47 ∷ cs) Comment whole
line_comment c cs whole e sum =
    comment_front c 47 cs (prefix_len (is_in LineBytes) cs) whole sum
    (comment_by c 47 cs (list_all (is_in LineBytes)) (λ xs. told_slash c e (47 ∷ xs)) (prefix_len (is_in LineBytes) cs) (run_longest (is_in LineBytes) cs))

pub block_comment : (c : ℕ) (cs : List ℕ) (len whole : ℕ) → c ≡ 47 → whole ≡ 2 + len → block_end cs ≡ Some len → len ≤ length cs → IsFront (c ∷ 42 ∷ cs) Comment whole
block_comment c cs len whole e sum found within =
    let ends : IsOnly ends_block cs len = ends_once block_end stable_block cs len found within in
    comment_front c 42 cs len whole sum
    (comment_by c 42 cs ends_block (λ xs. told_slash c e (42 ∷ xs)) len (longest_if_only ends_block cs len ends))

-- a slash alone, where no comment stands
slash_longest : (c d : ℕ) (cs : List ℕ) → c ≡ 47 → ((n : ℕ) → n ≤ length cs → slash_form (d ∷ take n cs) ≡ None) → IsLongestForm (c ∷ d ∷ cs) (Token Symbol) 1
slash_longest c d cs e none = record { within = omega arith; shape = told_slash c e []; longest = longer } where
  longer : (n : ℕ) → 1 < n → n ≤ length (c ∷ d ∷ cs) → form_of (take n (c ∷ d ∷ cs)) ≡ None
  longer zero lt le = absurd (omega arith)
  longer (suc zero) lt le = absurd (omega arith)
  longer (suc (suc n)) lt le = told_slash c e (d ∷ take n cs) ∙ none n (omega arith)

pub open_block : (c : ℕ) (cs : List ℕ) → c ≡ 47 → block_end cs ≡ None → IsStuck (c ∷ 42 ∷ cs) × IsOpen (c ∷ 42 ∷ cs)
open_block c cs e none = (
  stuck_if_barred (c ∷ 42 ∷ cs) (Token Symbol) 1 (slash_longest c 42 cs e (λ n _. ap (λ b. only_if b Comment) (never_ends block_end stable_block cs none n))) (ap (λ b. is_free (Token Symbol) b (42 ∷ cs)) e),
  inl (e, refl, none),
)

pub slash_alone : (c : ℕ) (cs : List ℕ) → c ≡ 47 → get_or cs 0 0 ≢ 47 → get_or cs 0 0 ≢ 42 → IsFront (c ∷ cs) (Token Symbol) 1
slash_alone c [] e far_line far_block =
    front_of_longest (c ∷ []) (Token Symbol) 1 (record { within = omega arith; shape = told_slash c e []; longest = λ n lt le. absurd (omega arith) }) refl
slash_alone c (d ∷ cs) e far_line far_block =
    front_of_longest (c ∷ d ∷ cs) (Token Symbol) 1 (slash_longest c d cs e (λ n _. rw (ne_eqb d 47 far_line, ne_eqb d 42 far_block) refl))
    (ap (λ b. is_free (Token Symbol) b (d ∷ cs)) e ∙ rw (ne_eqb d 47 far_line, ne_eqb d 42 far_block) refl)
