-- How long the lines of values may be.
use Rattle.std.proofs.Common.{◌≡◌, ◌≤◌, ◌<◌, ℕ, zero, suc, ◌+◌, ◌*◌, ◌^◌, Bool, true, false, if◌then◌else◌, List, [], ◌∷◌, All, length, reverse, ◌∙◌, arith, length-append}
use Rattle.std.specs.Prelude.{nat_lt, ◌==◌, decimal}
use Rattle.std.proofs.lemmas.List.{length-map, length-reverse}
use Rattle.std.proofs.lemmas.List.Elements.{All-head, All-tail}
use Rattle.std.proofs.lemmas.Fmt.{length-decimal-le}
use Rattle.vbits.specs.Vectors.{Vector}
use Rattle.value_text.specs.ValueText.{binary, binary_digit}
use Rattle.vcd_text.specs.DumpText.{line, following, code, extension, short_digits, change, value_line, value_lines, selected_values, is_news, changes, time_line}
use Rattle.dump_law.specs.Short.{IsNarrow}

-- one of two things that both have at most this size
pub one_of : {A : Type 0} (size : A → ℕ) (b : Bool) (x y : A) (most : ℕ) → size x ≤ most → size y ≤ most → size (if b then x else y) ≤ most
one_of size true x y most p q = p
one_of size false x y most p q = q

following_long : (cs : List ℕ) → length (following cs) ≤ suc (length cs)
following_long [] = omega arith
following_long (c ∷ cs) =
    let rest = following_long cs in
    one_of length (nat_lt c 126) (suc c ∷ cs) (33 ∷ following cs) (suc (suc (length cs))) (omega arith) (omega (arith, rest))

pub code_long : (n : ℕ) → length (code n) ≤ suc n
code_long zero = omega arith
code_long (suc n) = let next = following_long (code n) in let rest = code_long n in omega (arith, next, rest)

short_long : (ds : List ℕ) → length (short_digits ds) ≤ length ds
short_long [] = omega arith
short_long (d ∷ []) = omega arith
short_long (d ∷ e ∷ ds) =
    let rest = short_long (e ∷ ds) in
    one_of length (d == extension e) (short_digits (e ∷ ds)) (d ∷ e ∷ ds) (suc (suc (length ds))) (omega (arith, rest)) (omega arith)

change_long : (ds name : List ℕ) → length (change ds name) ≤ length ds + (2 + length name)
change_long [] name = omega arith
change_long (d ∷ []) name = omega arith
change_long (d ∷ e ∷ ds) name =
    let both = length-append (short_digits (d ∷ e ∷ ds)) (32 ∷ name) in
    let few = short_long (d ∷ e ∷ ds) in
    omega (arith, both, few)

pub line_long : (text : List ℕ) → length (line text) ≡ suc (length text)
line_long text = let both = length-append text (10 ∷ []) in omega (arith, both)

binary_long : (v : Vector) → length (binary v) ≡ length v.letters
binary_long v = length-map (reverse v.letters) binary_digit ∙ length-reverse v.letters

value_long : (n : ℕ) (v : Vector) → IsNarrow v → length (value_line n v) ≤ n + 68
value_long n v narrow =
    let whole = line_long (change (binary v) (code n)) in
    let told = change_long (binary v) (code n) in
    let digits = binary_long v in
    let name = code_long n in
    omega (arith, whole, told, digits, name, narrow)

-- one more is told, or not
one_more : (n : ℕ) (b : Bool) (v : Vector) (told : List (ℕ × Vector)) (count : ℕ) → n + suc count ≤ 1024 → IsNarrow v → length (value_lines told) ≤ 1092 * count →
    length (value_lines (if b then (n, v) ∷ told else told)) ≤ 1092 * suc count
one_more n b v told count few narrow rest =
    let both = length-append (value_line n v) (value_lines told) in
    let here = value_long n v narrow in
    one_of (λ (entries : List (ℕ × Vector)). length (value_lines entries)) b ((n, v) ∷ told) told (1092 * suc count)
    (omega (arith, both, here, rest, few)) (omega (arith, rest))

-- those that are listed, and those that changed
pub listed_long : (n : ℕ) (marks : List Bool) (values : List Vector) → n + length values ≤ 1024 → All IsNarrow values →
    length (value_lines (selected_values n marks values)) ≤ 1092 * length values
listed_long n marks [] few all = omega arith
listed_long n [] (v ∷ vs) few all = omega arith
listed_long n (mark ∷ marks) (v ∷ vs) few all =
    one_more n mark v (selected_values (suc n) marks vs) (length vs) few (All-head IsNarrow v vs all)
    (listed_long (suc n) marks vs (omega (arith, few)) (All-tail IsNarrow v vs all))

pub changed_long : (n : ℕ) (marks : List Bool) (before values : List Vector) → n + length values ≤ 1024 → All IsNarrow values →
    length (value_lines (changes n marks before values)) ≤ 1092 * length values
changed_long n marks us [] few all = omega arith
changed_long n [] us (v ∷ vs) few all = omega arith
changed_long n (mark ∷ marks) [] (v ∷ vs) few all = omega arith
changed_long n (mark ∷ marks) (u ∷ us) (v ∷ vs) few all =
    one_more n (is_news mark u v) v (changes (suc n) marks us vs) (length vs) few (All-head IsNarrow v vs all)
    (changed_long (suc n) marks us vs (omega (arith, few)) (All-tail IsNarrow v vs all))

pub time_long : (t : ℕ) → t < 2 ^ 64 → length (time_line t) ≤ 22
time_long t small =
    let digits : length (decimal t) ≤ 20 = length-decimal-le 20 t (omega arith) (omega (arith, small)) small in
    let whole = line_long (35 ∷ decimal t) in
    omega (arith, whole, digits)
