-- Adding a file to a text that is joined, and where its borders stand.
use Rattle.std.proofs.Common.{◌≡◌, ℕ, zero, suc, ◌+◌, ◌<◌, ◌≤◌, true, false, cond, nat_lt, Option, Some, List, [], ◌∷◌, ◌++◌, length, drop, map, get_or, refl, sym, ◌∙◌, ap, subst, arith, append_assoc}
use Rattle.std.specs.List.{flat_map, All}
use Rattle.std.specs.List.Sorted.{IsNonDecreasing}
use Rattle.std.proofs.lemmas.List.{length-append}
use Rattle.std.proofs.lemmas.List.Elements.{All-nil, All-cons}
use Rattle.std.proofs.lemmas.Bool.{lt-ltb, le-ltb}
use Rattle.memchr.specs.Find.{is_byte}
use Rattle.basis.specs.declared.memory.OrMemory.{OrMemory}
use Rattle.basis.specs.declared.memory.OrMemory.TheVariants.{Fault, Memory}
use Rattle.basis.specs.Reasons.{Because}
use Rattle.vsrc.specs.declared.fault.SrcFault.{SrcFault}
use Rattle.vsrc.specs.Inner.{IsGrowth, IsLong, AreLines}
use Rattle.vsrc.specs.Source.{join_files, borders_of, borders_from, feeds_of, too_long, too_long_from, text_limit}
use Rattle.vsrc.proofs.Counting.{rises-cons, places_sorted}

-- a file and the line feed before it
abbrev pub after_feed : List ℕ → List ℕ
after_feed file = (10 ∷ []) ++ file

-- the file at i heads what is left from i on
pub drop_map : {X : Type 0} (f : X → List ℕ) (xs : List X) (i : ℕ) (x : X) → i < length xs → x ≡ get_or xs i x → drop i (map f xs) ≡ f x ∷ drop (i + 1) (map f xs)
drop_map f [] i x within is = absurd (omega arith)
drop_map f (y ∷ ys) zero x within is = ap (λ z. f z ∷ map f ys) (sym is)
drop_map f (y ∷ ys) (suc i) x within is =
    let next : i + 1 + 1 ≡ suc (i + 1) = omega arith in
    let sum : suc i + 1 ≡ suc (i + 1) = omega arith in
    drop_map f ys i x (omega arith) is ∙ ap (λ k. f x ∷ drop k (f y ∷ map f ys)) (sym sum)

pub text_grows : (whole text file : List ℕ) (files : List (List ℕ)) (i : ℕ) → drop i files ≡ file ∷ drop (i + 1) files
    → text ++ flat_map after_feed (drop i files) ≡ whole → ((text ++ 10 ∷ []) ++ file) ++ flat_map after_feed (drop (i + 1) files) ≡ whole
text_grows whole text file files i here h =
    simp append_assoc (sym (ap (λ l. text ++ flat_map after_feed l) here) ∙ h)

pub borders_grow : (whole borders text file : List ℕ) (files : List (List ℕ)) (i : ℕ) → drop i files ≡ file ∷ drop (i + 1) files
    → borders ++ borders_from (length text) (drop i files) ≡ whole → (borders ++ length text ∷ []) ++ borders_from (length ((text ++ 10 ∷ []) ++ file)) (drop (i + 1) files) ≡ whole
borders_grow whole borders text file files i here h =
    let len : length ((text ++ 10 ∷ []) ++ file) ≡ length text + 1 + length file = simp length-append refl in
    append_assoc borders (length text ∷ []) _
    ∙ ap (λ n. borders ++ length text ∷ borders_from n (drop (i + 1) files)) len
    ∙ sym (ap (λ l. borders ++ borders_from (length text) l) here) ∙ h

-- the first file and a further one, where they fit
pub long_first : (first : List ℕ) (files : List (List ℕ)) → length first ≤ text_limit → too_long_from 2 (length first + 1) files ≡ too_long (first ∷ files)
long_first first files fits =
    let low : nat_lt text_limit (0 + length first) ≡ false = le-ltb text_limit (0 + length first) (omega arith) in
    let same : length first + 1 ≡ 0 + length first + 1 = omega arith in
    ap (λ n. too_long_from 2 n files) same ∙ sym (ap (λ b. cond b (Some 1) (too_long_from 2 (0 + length first + 1) files)) low)

long_next : (number before : ℕ) (file : List ℕ) (files : List (List ℕ)) → before + length file ≤ text_limit
    → too_long_from number before (file ∷ files) ≡ too_long_from (number + 1) (before + length file + 1) files
long_next number before file files fits =
    ap (λ b. cond b (Some number) (too_long_from (number + 1) (before + length file + 1) files)) (le-ltb text_limit (before + length file) fits)

pub long_more : (whole : Option ℕ) (text file : List ℕ) (files : List (List ℕ)) (i : ℕ) → drop i files ≡ file ∷ drop (i + 1) files → length text + 1 + length file ≤ text_limit
    → too_long_from (i + 2) (length text + 1) (drop i files) ≡ whole
    → too_long_from (i + 1 + 2) (length ((text ++ 10 ∷ []) ++ file) + 1) (drop (i + 1) files) ≡ whole
long_more whole text file files i here fits h =
    let number : i + 1 + 2 ≡ i + 2 + 1 = omega arith in
    let len : length ((text ++ 10 ∷ []) ++ file) + 1 ≡ length text + 1 + length file + 1 = simp length-append refl in
    ap (λ n. too_long_from n (length ((text ++ 10 ∷ []) ++ file) + 1) (drop (i + 1) files)) number
    ∙ ap (λ n. too_long_from (i + 2 + 1) n (drop (i + 1) files)) len
    ∙ sym (long_next (i + 2) (length text + 1) file (drop (i + 1) files) fits) ∙ ap (too_long_from (i + 2) (length text + 1)) (sym here) ∙ h

-- why a file isn't joined, told of all the files
pub long_with : (whole : Option ℕ) (text bytes file : List ℕ) (files : List (List ℕ)) (i : ℕ) (e : OrMemory SrcFault) → bytes ≡ file → drop i files ≡ file ∷ drop (i + 1) files
    → too_long_from (i + 2) (length text + 1) (drop i files) ≡ whole → Because (IsGrowth text (10 ∷ []) bytes (i + 2)) e → Because (IsLong whole) e
long_with whole text bytes file files i (Fault fault) same here h g =
    let high : nat_lt text_limit (length text + 1 + length file) ≡ true = lt-ltb text_limit (length text + 1 + length file) (omega (arith, g.0, ap length same)) in (
      i + 2,
      sym h ∙ ap (too_long_from (i + 2) (length text + 1)) here
          ∙ ap (λ b. cond b (Some (i + 2)) (too_long_from (i + 2 + 1) (length text + 1 + length file + 1) (drop (i + 1) files))) high,
      g.1,
    )
long_with whole text bytes file files i (Memory m) same here h g = tt

pub long_at_once : (first : List ℕ) (bytes : List ℕ) (files : List (List ℕ)) (e : OrMemory SrcFault) → bytes ≡ first → Because (IsGrowth [] [] bytes 1) e → Because (IsLong (too_long (first ∷ files))) e
long_at_once first bytes files (Fault fault) same g =
    let high : nat_lt text_limit (0 + length first) ≡ true = lt-ltb text_limit (0 + length first) (omega (arith, g.0, ap length same)) in
    (1, ap (λ b. cond b (Some 1) (too_long_from 2 (0 + length first + 1) files)) high, g.1)
long_at_once first bytes files (Memory m) same g = tt

borders_low : (end : ℕ) (files : List (List ℕ)) (least : ℕ) → least ≤ end → All (λ b. least ≤ b) (borders_from end files)
borders_low end [] least le = All-nil (λ b. least ≤ b)
borders_low end (file ∷ files) least le = All-cons (λ b. least ≤ b) end _ le (borders_low (end + 1 + length file) files least (omega arith))

borders_rise : (end : ℕ) (files : List (List ℕ)) → IsNonDecreasing (borders_from end files)
borders_rise end [] = λ i j d le within. absurd (omega arith)
borders_rise end (file ∷ files) = rises-cons end _ (borders_low (end + 1 + length file) files end (omega arith)) (borders_rise (end + 1 + length file) files)

borders_high : (end : ℕ) (files : List (List ℕ)) → All (λ b. b < end + length (flat_map after_feed files)) (borders_from end files)
borders_high end [] = All-nil (λ b. b < end + 0)
borders_high end (file ∷ files) =
    let P : ℕ → Type 0 = λ n. All (λ b. b < n) (borders_from (end + 1 + length file) files) in
    let len : end + 1 + length file + length (flat_map after_feed files) ≡ end + length (flat_map after_feed (file ∷ files)) =
    omega (arith, length-append file (flat_map after_feed files)) in
    All-cons (λ b. b < end + length (flat_map after_feed (file ∷ files))) end _ (omega arith) (subst P len (borders_high (end + 1 + length file) files))

pub borders_sorted : (files : List (List ℕ)) → IsNonDecreasing (borders_of files)
borders_sorted [] = λ i j d le within. absurd (omega arith)
borders_sorted (file ∷ files) = borders_rise (length file) files

pub borders_within : (files : List (List ℕ)) → All (λ b. b < length (join_files files)) (borders_of files)
borders_within [] = All-nil (λ b. b < 0)
borders_within (file ∷ files) =
    let P : ℕ → Type 0 = λ n. All (λ b. b < n) (borders_from (length file) files) in
    subst P (sym (length-append file (flat_map after_feed files))) (borders_high (length file) files)

-- the lines of files
pub joined_lines : (files : List (List ℕ)) (text borders feeds : List ℕ) → text ≡ join_files files → borders ≡ borders_of files → feeds ≡ feeds_of text
    → length text ≤ text_limit → AreLines borders feeds
joined_lines files text borders feeds made cut all short =
    let Within : List ℕ → List ℕ → Type 0 = λ t bs. All (λ b. b < length t) bs in
    let within : Within text borders = rw (made, cut) (borders_within files) in
    record {
      rising = subst IsNonDecreasing (sym cut) (borders_sorted files);
      within = λ k low. omega (arith, within k 0 low);
      feeds_rising = subst IsNonDecreasing (sym all) (places_sorted (is_byte 10) text);
    }
