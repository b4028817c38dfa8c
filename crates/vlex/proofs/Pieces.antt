-- From tests of what stands behind a first byte to the piece at the head of a text.
use Rattle.std.proofs.Common.{◌≡◌, ℕ, zero, suc, ◌<◌, ◌≤◌, Bool, true, false, List, [], ◌∷◌, Option, None, Some, length, take, drop, slice_index, nat_lt, sym, ◌∙◌, ap, subst, arith, inl, inr}
use Rattle.std.proofs.lemmas.Bool.{cases_Bool, ltb-true, ltb-false}
use Rattle.vlex.specs.declared.bytes.Lead.{Lead}
use Rattle.vlex.specs.declared.bytes.Lead.TheVariants as lead
use Rattle.vlex.specs.declared.form.Form.{Form}
use Rattle.vlex.specs.Bytes.{lead_of}
use Rattle.vlex.specs.Forms.{form_of, only_if}
use Rattle.vlex.specs.Inner.{IsLongest}
use Rattle.vlex.specs.Lexed.{IsFront, IsStuck, IsOpen, is_free}

-- the first `len` bytes are the one front that passes the test
pub record IsOnly (test : List ℕ → Bool) (bytes : List ℕ) (len : ℕ) : Type 0 where
  pub within : len ≤ length bytes
  pub passes : test (take len bytes) ≡ true
  pub only : (n : ℕ) → n ≤ length bytes → test (take n bytes) ≡ true → n ≡ len

-- a front with nothing said of what follows
pub record IsLongestForm (text : List ℕ) (form : Form) (len : ℕ) : Type 0 where
  pub within : len ≤ length text
  pub shape : form_of (take len text) ≡ Some form
  pub longest : (n : ℕ) → len < n → n ≤ length text → form_of (take n text) ≡ None

some_not_none : {A : Type 0} (o : Option A) (x : A) → o ≡ Some x → o ≡ None → ⊥
some_not_none o x p q = let e : Some x ≡ None = sym p ∙ q in cc

same_some : (x y : Form) → Some x ≡ Some y → x ≡ y
same_some x y e = cc

pub longest_of_front : (text : List ℕ) (form : Form) (len : ℕ) → IsFront text form len → IsLongestForm text form len
longest_of_front text form len f = record { within = f.within; shape = f.shape; longest = f.longest }

pub front_of_longest : (text : List ℕ) (form : Form) (len : ℕ) → IsLongestForm text form len → is_free form (slice_index text 0) (drop len text) ≡ true → IsFront text form len
front_of_longest text form len l free = record { within = l.within; shape = l.shape; longest = l.longest; free = free }

-- no front but one is the longest
pub same_length : (text : List ℕ) (f g : Form) (m n : ℕ) → IsLongestForm text f m → IsLongestForm text g n → m ≡ n
same_length text f g m n a b =
    elim (cases_Bool (nat_lt m n)) [
      | inl less ↦ absurd (some_not_none _ g b.shape (a.longest n (ltb-true m n less) b.within))
      | inr most ↦ elim (cases_Bool (nat_lt n m)) [
        | inl more ↦ absurd (some_not_none _ f a.shape (b.longest m (ltb-true n m more) a.within))
        | inr least ↦ omega (arith, ltb-false m n most, ltb-false n m least)
      ]
    ]

pub same_form : (text : List ℕ) (f g : Form) (m n : ℕ) → IsLongestForm text f m → IsLongestForm text g n → f ≡ g
same_form text f g m n a b =
    same_some f g (sym a.shape ∙ ap (λ k. form_of (take k text)) (same_length text f g m n a b) ∙ b.shape)

-- what may not stand behind the longest front leaves the text without a piece
pub stuck_if_barred : (text : List ℕ) (form : Form) (len : ℕ) → IsLongestForm text form len → is_free form (slice_index text 0) (drop len text) ≡ false → IsStuck text
stuck_if_barred text form len l barred = λ g n front.
    let other = longest_of_front text g n front in
    let clash : is_free form (slice_index text 0) (drop len text) ≡ true =
    ap (λ f. is_free f (slice_index text 0) (drop len text)) (same_form text form g len n l other)
    ∙ ap (λ k. is_free g (slice_index text 0) (drop k text)) (same_length text form g len n l other) ∙ front.free in
    let no : true ≡ false = sym clash ∙ barred in cc

module _ (c : ℕ) (cs : List ℕ) (test : List ℕ → Bool) (form : Form) (told : (xs : List ℕ) → form_of (c ∷ xs) ≡ only_if (test xs) form) where
  longest_by : (len : ℕ) → IsLongest test cs len → IsLongestForm (c ∷ cs) form (suc len)
  longest_by len l = record {
    within = omega (arith, l.within);
    shape = told (take len cs) ∙ ap (λ b. only_if b form) l.passes;
    longest = longer;
  } where
    longer : (n : ℕ) → suc len < n → n ≤ length (c ∷ cs) → form_of (take n (c ∷ cs)) ≡ None
    longer zero lt le = absurd (omega arith)
    longer (suc n) lt le = told (take n cs) ∙ ap (λ b. only_if b form) (l.longest n (omega arith) (omega arith))

  -- the longest front that passes is a piece, if what follows is free
  pub piece_by : (len whole : ℕ) → whole ≡ suc len → IsLongest test cs len → is_free form c (drop len cs) ≡ true → IsFront (c ∷ cs) form whole
  piece_by len whole e l free = subst (IsFront (c ∷ cs) form) (sym e) (front_of_longest (c ∷ cs) form (suc len) (longest_by len l) free)

  pub barred_by : (len : ℕ) → IsLongest test cs len → is_free form c (drop len cs) ≡ false → IsStuck (c ∷ cs)
  barred_by len l barred = stuck_if_barred (c ∷ cs) form (suc len) (longest_by len l) barred

  -- no front that passes, no piece
  pub stuck_by : ((n : ℕ) → n ≤ length cs → test (take n cs) ≡ false) → IsStuck (c ∷ cs)
  stuck_by fails = λ g n front. stuck g n front.within front.shape where
    stuck : (g : Form) (n : ℕ) → n ≤ length (c ∷ cs) → form_of (take n (c ∷ cs)) ≡ Some g → ⊥
    stuck g zero le shape = let clash : None ≡ Some g = shape in cc
    stuck g (suc n) le shape = let clash : None ≡ Some g = sym (told (take n cs) ∙ ap (λ b. only_if b form) (fails n (omega arith))) ∙ shape in cc

-- the only front that passes is the longest
pub longest_if_only : (test : List ℕ → Bool) (cs : List ℕ) (len : ℕ) → IsOnly test cs len → IsLongest test cs len
longest_if_only test cs len ends = record {
  within = ends.within;
  passes = ends.passes;
  longest = λ n lt le. elim (cases_Bool (test (take n cs))) [ inl again ↦ absurd (omega (arith, ends.only n le again)) | inr ended ↦ ended ];
}

-- what begins with neither a quote nor a slash isn't open
pub not_open : (c : ℕ) (cs : List ℕ) (l : Lead) → lead_of c ≡ l → (lead.Quote ≡ l → ⊥) → (lead.Slash ≡ l → ⊥) → IsOpen (c ∷ cs) → ⊥
not_open c cs l e other_quote other_slash is_open = shut cs is_open where
  quote : c ≡ 34 → ⊥
  quote same = other_quote (sym (ap lead_of same) ∙ e)

  slash : c ≡ 47 → ⊥
  slash same = other_slash (sym (ap lead_of same) ∙ e)

  shut : (cs : List ℕ) → IsOpen (c ∷ cs) → ⊥
  shut [] same = quote same
  shut (d ∷ ds) is_open = elim is_open [ inl comment ↦ slash comment.0 | inr string ↦ quote string.0 ]
