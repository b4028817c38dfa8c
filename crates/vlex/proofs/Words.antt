-- Blanks, names, symbols and numbers that begin with an apostrophe.
use Rattle.std.proofs.Common.{◌≡◌, ◌≢◌, ℕ, zero, suc, ◌+◌, ◌<◌, ◌≤◌, true, false, ◌&&◌, ◌||◌, not, nat_eq, List, [], ◌∷◌, length, take, drop, get_or, refl, sym, ◌∙◌, ap, subst, arith}
use Rattle.std.specs.List.{list_all, prefix_len}
use Rattle.std.proofs.lemmas.Bool.{ne_eqb}
use Rattle.basis.proofs.Bools.{and_false}
use Rattle.vlex.specs.declared.bytes.Set.TheVariants.{Blanks, Words, Escapes}
use Rattle.vlex.specs.declared.bytes.Lead.{Lead}
use Rattle.vlex.specs.declared.bytes.Lead.TheVariants as lead
use Rattle.vlex.specs.declared.form.Form.TheVariants.{Blank, Token}
use Rattle.vlex.specs.declared.kind.TokenKind.TheVariants.{Name, System, Based, Symbol}
use Rattle.vlex.specs.Bytes.{is_in, lead_of}
use Rattle.vlex.specs.Forms.{form_of, form_by, is_word, is_escaped, is_based, is_symbol, is_double, is_triple}
use Rattle.vlex.specs.Inner.{IsLongest, Never}
use Rattle.vlex.specs.Lexed.{IsFront, IsStuck, is_free}
use Rattle.vlex.proofs.Runs.{run_longest}
use Rattle.vlex.proofs.Pieces.{piece_by, barred_by, stuck_by}
use Rattle.vlex.proofs.Sizes.{free_based}
use Rattle.vlex.proofs.Leads.{says}

told_by : (c : ℕ) (l : Lead) → lead_of c ≡ l → (cs : List ℕ) → form_of (c ∷ cs) ≡ form_by l c cs
told_by c l e cs = ap (λ k. form_by k c cs) e

free_blank : (first : ℕ) (rest : List ℕ) → is_free Blank first rest ≡ true
free_blank first [] = refl
free_blank first (x ∷ xs) = refl

free_name : (first : ℕ) (rest : List ℕ) → first ≢ 92 → is_free (Token Name) first rest ≡ true
free_name first [] other = refl
free_name first (x ∷ xs) other = ap (λ b. not (b && nat_eq x 46)) (ne_eqb first 92 other)

letter_not_backslash : (c : ℕ) → lead_of c ≡ lead.Letter → c ≢ 92
letter_not_backslash c e same = let clash : lead.Backslash ≡ lead.Letter = sym (ap lead_of same) ∙ e in cc

free_system : (first : ℕ) (rest : List ℕ) → is_free (Token System) first rest ≡ true
free_system first [] = refl
free_system first (x ∷ xs) = refl

pub blanks : (c : ℕ) (cs : List ℕ) (whole : ℕ) → lead_of c ≡ lead.Blank → whole ≡ 1 + prefix_len (is_in Blanks) cs → IsFront (c ∷ cs) Blank whole
blanks c cs whole e sum =
    let same : whole ≡ suc (prefix_len (is_in Blanks) cs) = omega (arith, sum) in
    piece_by c cs (list_all (is_in Blanks)) Blank (told_by c lead.Blank e) (prefix_len (is_in Blanks) cs) whole same (run_longest (is_in Blanks) cs) (free_blank c _)

pub name : (c : ℕ) (cs : List ℕ) (whole : ℕ) → lead_of c ≡ lead.Letter → whole ≡ 1 + prefix_len (is_in Words) cs → IsFront (c ∷ cs) (Token Name) whole
name c cs whole e sum =
    let same : whole ≡ suc (prefix_len (is_in Words) cs) = omega (arith, sum) in
    piece_by c cs (list_all (is_in Words)) (Token Name) (told_by c lead.Letter e) (prefix_len (is_in Words) cs) whole same (run_longest (is_in Words) cs) (free_name c _ (letter_not_backslash c e))

pub nothing : (c : ℕ) (cs : List ℕ) → lead_of c ≡ lead.Other → IsStuck (c ∷ cs)
nothing c cs e = stuck_by c cs (λ _. false) Blank (told_by c lead.Other e) (λ n _. refl)

-- System names

word_fails : (cs : List ℕ) → list_all (is_in Words) cs ≡ false → is_word cs ≡ false
word_fails [] h = refl
word_fails (c ∷ cs) h = h

word_passes : (cs : List ℕ) (n : ℕ) → 0 < n → n ≤ length cs → list_all (is_in Words) (take n cs) ≡ true → is_word (take n cs) ≡ true
word_passes cs zero some le h = absurd (omega arith)
word_passes [] (suc n) some le h = absurd (omega arith)
word_passes (c ∷ cs) (suc n) some le h = h

pub system_name : (c : ℕ) (cs : List ℕ) (whole : ℕ) → lead_of c ≡ lead.Dollar → whole ≡ 1 + prefix_len (is_in Words) cs → prefix_len (is_in Words) cs ≢ 0 → IsFront (c ∷ cs) (Token System) whole
system_name c cs whole e sum some =
    let len : ℕ = prefix_len (is_in Words) cs in
    let run = run_longest (is_in Words) cs in
    let same : whole ≡ suc len = omega (arith, sum) in
    piece_by c cs is_word (Token System) (told_by c lead.Dollar e) len whole same
    (record { within = run.within; passes = word_passes cs len (omega arith) run.within run.passes; longest = λ n lt le. word_fails (take n cs) (run.longest n lt le) })
    (free_system c _)

pub dollar_alone : (c : ℕ) (cs : List ℕ) → lead_of c ≡ lead.Dollar → prefix_len (is_in Words) cs ≡ 0 → IsStuck (c ∷ cs)
dollar_alone c cs e none = stuck_by c cs is_word (Token System) (told_by c lead.Dollar e) fails where
  fails : (n : ℕ) → n ≤ length cs → is_word (take n cs) ≡ false
  fails zero le = refl
  fails (suc n) le = word_fails (take (suc n) cs) ((run_longest (is_in Words) cs).longest (suc n) (omega (arith, none)) le)

-- Escaped names

escape_fails : (cs : List ℕ) → list_all (is_in Escapes) cs ≡ false → is_escaped cs ≡ false
escape_fails [] h = refl
escape_fails (c ∷ cs) h = h

escape_passes : (cs : List ℕ) (n : ℕ) → 0 < n → n ≤ length cs → list_all (is_in Escapes) (take n cs) ≡ true → is_escaped (take n cs) ≡ true
escape_passes cs zero some le h = absurd (omega arith)
escape_passes [] (suc n) some le h = absurd (omega arith)
escape_passes (c ∷ cs) (suc n) some le h = h

escape_longest : (cs : List ℕ) → prefix_len (is_in Escapes) cs ≢ 0 → IsLongest is_escaped cs (prefix_len (is_in Escapes) cs)
escape_longest cs some =
    let run = run_longest (is_in Escapes) cs in
    record {
      within = run.within;
      passes = escape_passes cs (prefix_len (is_in Escapes) cs) (omega arith) run.within run.passes;
      longest = λ n lt le. escape_fails (take n cs) (run.longest n lt le);
    }

-- behind a backslash and so many bytes nothing is barred but a dot
free_escaped : (c : ℕ) (cs : List ℕ) (len : ℕ) → c ≡ 92 → is_free (Token Name) c (drop len cs) ≡ not (nat_eq (get_or cs len 0) 46)
free_escaped c [] zero e = refl
free_escaped c [] (suc len) e = refl
free_escaped c (x ∷ xs) zero e = ap (λ b. not (nat_eq b 92 && nat_eq x 46)) e
free_escaped c (x ∷ xs) (suc len) e = free_escaped c xs len e

backslash_is : (c : ℕ) → lead_of c ≡ lead.Backslash → c ≡ 92
backslash_is c e = says c lead.Backslash e

pub escaped_name : (c : ℕ) (cs : List ℕ) (len : ℕ) → lead_of c ≡ lead.Backslash → len ≡ prefix_len (is_in Escapes) cs → len ≢ 0 → get_or cs len 0 ≢ 46
    → IsFront (c ∷ cs) (Token Name) (1 + len)
escaped_name c cs len e is some other =
    let same : 1 + len ≡ suc len = omega arith in
    piece_by c cs is_escaped (Token Name) (told_by c lead.Backslash e) len (1 + len) same
    (subst (IsLongest is_escaped cs) (sym is) (escape_longest cs (λ none. some (is ∙ none))))
    (free_escaped c cs len (backslash_is c e) ∙ ap not (ne_eqb (get_or cs len 0) 46 other))

pub dotted_escape : (c : ℕ) (cs : List ℕ) (len : ℕ) → lead_of c ≡ lead.Backslash → len ≡ prefix_len (is_in Escapes) cs → len ≢ 0 → get_or cs len 0 ≡ 46
    → IsStuck (c ∷ cs)
dotted_escape c cs len e is some dot =
    barred_by c cs is_escaped (Token Name) (told_by c lead.Backslash e) len
    (subst (IsLongest is_escaped cs) (sym is) (escape_longest cs (λ none. some (is ∙ none))))
    (free_escaped c cs len (backslash_is c e) ∙ ap (λ b. not (nat_eq b 46)) dot)

pub backslash_alone : (c : ℕ) (cs : List ℕ) → lead_of c ≡ lead.Backslash → prefix_len (is_in Escapes) cs ≡ 0 → IsStuck (c ∷ cs)
backslash_alone c cs e none = stuck_by c cs is_escaped (Token Name) (told_by c lead.Backslash e) fails where
  fails : (n : ℕ) → n ≤ length cs → is_escaped (take n cs) ≡ false
  fails zero le = refl
  fails (suc n) le = escape_fails (take (suc n) cs) ((run_longest (is_in Escapes) cs).longest (suc n) (omega (arith, none)) le)

-- Based numbers without size

pub unsized_number : (c : ℕ) (cs : List ℕ) (len : ℕ) → lead_of c ≡ lead.Apostrophe → IsLongest is_based cs len → not (is_in Words (get_or cs len 0)) ≡ true → IsFront (c ∷ cs) (Token Based) (1 + len)
unsized_number c cs len e l ended =
    let same : 1 + len ≡ suc len = omega arith in
    piece_by c cs is_based (Token Based) (told_by c lead.Apostrophe e) len (1 + len) same l (free_based c cs len ∙ ended)

pub barred_unsized : (c : ℕ) (cs : List ℕ) (len : ℕ) → lead_of c ≡ lead.Apostrophe → IsLongest is_based cs len → not (is_in Words (get_or cs len 0)) ≡ false → IsStuck (c ∷ cs)
barred_unsized c cs len e l barred = barred_by c cs is_based (Token Based) (told_by c lead.Apostrophe e) len l (free_based c cs len ∙ barred)

pub apostrophe_alone : (c : ℕ) (cs : List ℕ) → lead_of c ≡ lead.Apostrophe → Never is_based cs → IsStuck (c ∷ cs)
apostrophe_alone c cs e never = stuck_by c cs is_based (Token Based) (told_by c lead.Apostrophe e) (λ n _. never n)

-- Symbols

-- a mark is no slash, so that nothing is barred behind it
punctuation_not_slash : (c : ℕ) → lead_of c ≡ lead.Punctuation → c ≢ 47
punctuation_not_slash c e same = let clash : lead.Slash ≡ lead.Punctuation = sym (ap lead_of same) ∙ e in cc

free_symbol : (c : ℕ) (rest : List ℕ) → c ≢ 47 → is_free (Token Symbol) c rest ≡ true
free_symbol c [] other = refl
free_symbol c (x ∷ xs) other = ap (λ b. not (b && (nat_eq x 47 || nat_eq x 42))) (ne_eqb c 47 other)

no_double_zero : (a : ℕ) → is_double a 0 ≡ false
no_double_zero a = simp and_false

no_triple_zero : (a b : ℕ) → is_triple a b 0 ≡ false
no_triple_zero a b = simp and_false

long_symbol : (a : ℕ) (cs : List ℕ) (n : ℕ) → 2 < n → n ≤ length cs → is_symbol a (take n cs) ≡ false
long_symbol a cs zero lt le = absurd (omega arith)
long_symbol a cs (suc zero) lt le = absurd (omega arith)
long_symbol a cs (suc (suc zero)) lt le = absurd (omega arith)
long_symbol a [] (suc (suc (suc n))) lt le = absurd (omega arith)
long_symbol a (x ∷ []) (suc (suc (suc n))) lt le = absurd (omega arith)
long_symbol a (x ∷ y ∷ []) (suc (suc (suc n))) lt le = absurd (omega arith)
long_symbol a (x ∷ y ∷ z ∷ cs) (suc (suc (suc n))) lt le = refl

longer_symbol : (a : ℕ) (cs : List ℕ) (n : ℕ) → is_triple a (get_or cs 0 0) (get_or cs 1 0) ≡ false → 1 < n → n ≤ length cs → is_symbol a (take n cs) ≡ false
longer_symbol a cs zero h lt le = absurd (omega arith)
longer_symbol a cs (suc zero) h lt le = absurd (omega arith)
longer_symbol a [] (suc (suc zero)) h lt le = absurd (omega arith)
longer_symbol a (x ∷ []) (suc (suc zero)) h lt le = absurd (omega arith)
longer_symbol a (x ∷ y ∷ cs) (suc (suc zero)) h lt le = h
longer_symbol a cs (suc (suc (suc n))) h lt le = long_symbol a cs (suc (suc (suc n))) (omega arith) le

pub symbol_by : (c : ℕ) (cs : List ℕ) (len whole : ℕ) → lead_of c ≡ lead.Punctuation → whole ≡ suc len → IsLongest (is_symbol c) cs len → IsFront (c ∷ cs) (Token Symbol) whole
symbol_by c cs len whole e sum l = piece_by c cs (is_symbol c) (Token Symbol) (told_by c lead.Punctuation e) len whole sum l (free_symbol c _ (punctuation_not_slash c e))

pub triple_longest : (a : ℕ) (cs : List ℕ) → is_triple a (get_or cs 0 0) (get_or cs 1 0) ≡ true → IsLongest (is_symbol a) cs 2
triple_longest a [] h = let clash : false ≡ true = sym (no_triple_zero a 0) ∙ h in cc
triple_longest a (x ∷ []) h = let clash : false ≡ true = sym (no_triple_zero a x) ∙ h in cc
triple_longest a (x ∷ y ∷ cs) h = record { within = omega arith; passes = h; longest = λ n lt le. long_symbol a (x ∷ y ∷ cs) n lt le }

pub double_longest : (a : ℕ) (cs : List ℕ) → is_triple a (get_or cs 0 0) (get_or cs 1 0) ≡ false → is_double a (get_or cs 0 0) ≡ true → IsLongest (is_symbol a) cs 1
double_longest a [] h g = let clash : false ≡ true = sym (no_double_zero a) ∙ g in cc
double_longest a (x ∷ cs) h g = record { within = omega arith; passes = g; longest = λ n lt le. longer_symbol a (x ∷ cs) n h lt le }

pub single_longest : (a : ℕ) (cs : List ℕ) → is_triple a (get_or cs 0 0) (get_or cs 1 0) ≡ false → is_double a (get_or cs 0 0) ≡ false → IsLongest (is_symbol a) cs 0
single_longest a cs h g = record { within = omega arith; passes = refl; longest = λ n lt le. longer a cs n h g lt le } where
  longer : (a : ℕ) (cs : List ℕ) (n : ℕ) → is_triple a (get_or cs 0 0) (get_or cs 1 0) ≡ false → is_double a (get_or cs 0 0) ≡ false → 0 < n → n ≤ length cs → is_symbol a (take n cs) ≡ false
  longer a cs zero h g lt le = absurd (omega arith)
  longer a [] (suc zero) h g lt le = absurd (omega arith)
  longer a (x ∷ cs) (suc zero) h g lt le = g
  longer a cs (suc (suc n)) h g lt le = longer_symbol a cs (suc (suc n)) h (omega arith) le
