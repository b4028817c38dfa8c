-- Planes that are made longer, cut and put together.
use Rattle.std.proofs.Common.{◌≡◌, ℕ, zero, suc, ◌+◌, ◌-◌, ◌*◌, ◌/◌, ◌%◌, ◌^◌, ◌<◌, ◌≤◌, Bool, true, false, length, take, drop, replicate, get_or, ◌++◌, refl, sym, ◌∙◌, ap, arith, subst, add_assoc}
use Rattle.std.specs.Prelude.{bit_and, bit_or}
use Rattle.std.proofs.lemmas.Nat.{and_mask, pow_pos, pow-add, shl_whole, or_shifted, shr_split, shr-shr, shr_below, mul-add-lt, mod_below}
use Rattle.std.proofs.lemmas.List.{take-append-le, take-replicate}
use Rattle.std.proofs.lemmas.Option.{get_or_from_slice_get}
use Rattle.std.proofs.Math.Seq.{take-append-add}
use Rattle.vbits.specs.declared.bit4.Bit4.{Bit4}
use Rattle.vbits.specs.declared.bit4.Bit4.TheVariants.{Zero}
use Rattle.vbits.specs.Planes.{letter, letters_of, value_bit, unknown_bit, run, sign_bit, splice, Planes}
use Rattle.vbits.specs.PlanesBack.{length-letters_of, value_bit-letter, unknown_bit-letter}
use Rattle.vbits.specs.Vectors.{Vector, resize, sign_letter, select, put, concat}
use Rattle.vbits.proofs.LettersOf.{letters_of-run, take-letters_of, drop-letters_of, letters_of-low, letters_of-cat, slice_get-letters_of}
use Rattle.vbits.proofs.Views.{view_of}

-- ---- words with a run above them

pub run-set : (t n : ℕ) → (t ≡ 0 → ⊥) → run t n ≡ 2 ^ n - 1
run-set zero n h = absurd (h refl)
run-set (suc t) n h = refl

pred_mul : (x y : ℕ) → 0 < x → (x - 1) * y + y ≡ x * y
pred_mul zero y h = absurd (omega arith)
pred_mul (suc k) y h = let e : suc k - 1 ≡ k = omega arith in rw e (omega arith)

-- what is added to a plane of len bits to have ones up to wide bits
pub run-added : (len wide : ℕ) → len ≤ wide → (2 ^ (wide - len) - 1) * 2 ^ len ≡ 2 ^ wide - 1 - (2 ^ len - 1)
run-added len wide h =
    let whole : 2 ^ (wide - len) * 2 ^ len ≡ 2 ^ wide = sym (pow-add 2 (wide - len) len) ∙ ap (λ k. 2 ^ k) (omega arith) in
    let p = pow_pos len in
    let q = pred_mul (2 ^ (wide - len)) (2 ^ len) (pow_pos (wide - len)) in
    omega arith

pub ones_within : (len wide : ℕ) → len ≤ wide → 2 ^ len - 1 ≤ 2 ^ wide - 1
ones_within len wide h =
    let whole : 2 ^ (wide - len) * 2 ^ len ≡ 2 ^ wide = sym (pow-add 2 (wide - len) len) ∙ ap (λ k. 2 ^ k) (omega arith) in
    let q = pred_mul (2 ^ (wide - len)) (2 ^ len) (pow_pos (wide - len)) in
    omega arith

pub get_or-letters_of : (n a b i : ℕ) (d : Bit4) → i < n → get_or (letters_of n a b) i d ≡ letter (a / 2 ^ i % 2) (b / 2 ^ i % 2)
get_or-letters_of n a b i d h = get_or_from_slice_get (letters_of n a b) i _ d (slice_get-letters_of n a b i h)

-- ---- select

pub select-view : (n a b high low : ℕ) (s : Bool) (v : Vector) → Planes n a b → view_of n a b s ≡ v → low ≤ high → high < n →
    view_of (high + 1 - low) (bit_and (a / 2 ^ low) (2 ^ (high + 1 - low) - 1)) (bit_and (b / 2 ^ low) (2 ^ (high + 1 - low) - 1)) false ≡ select v high low
unfolding select
select-view n a b high low s v h e order within =
    let cut : drop low (letters_of n a b) ≡ letters_of (n - low) (a / 2 ^ low) (b / 2 ^ low) = drop-letters_of low n a b (omega arith) in
    let front : take (high + 1 - low) (letters_of (n - low) (a / 2 ^ low) (b / 2 ^ low)) ≡ letters_of (high + 1 - low) (a / 2 ^ low) (b / 2 ^ low) =
    take-letters_of (high + 1 - low) (n - low) (a / 2 ^ low) (b / 2 ^ low) (omega arith) in
    rw (and_mask, and_mask)
    (λ i. record {
      letters = (letters_of-low (high + 1 - low) (a / 2 ^ low) (b / 2 ^ low) ∙ sym front ∙ ap (take (high + 1 - low)) (sym cut)) i;
      signed = false;
    })
    ∙ ap (λ z. select z high low) e

-- ---- concat

pub concat-view : (n a b : ℕ) (s : Bool) (m c d : ℕ) (t : Bool) (v w : Vector) → Planes m c d → view_of n a b s ≡ v → view_of m c d t ≡ w →
    view_of (m + n) (a * 2 ^ m + c) (b * 2 ^ m + d) false ≡ concat v w
unfolding concat
concat-view n a b s m c d t v w h e f =
    (λ i. record { letters = letters_of-cat m n c d a b h.value_within h.unknown_within i; signed = false })
    ∙ ap (λ z. concat z (view_of m c d t)) e
    ∙ ap (concat v) f

-- ---- put

-- a word is its high part, the field between, and its low part
split_at : (p low w : ℕ) → p ≡ p / 2 ^ (low + w) * 2 ^ (low + w) + p / 2 ^ low % 2 ^ w * 2 ^ low + p % 2 ^ low
split_at p low w =
    let whole = shr_split p low in
    let high = shr_split (p / 2 ^ low) w in
    let shr : p / 2 ^ low / 2 ^ w ≡ p / 2 ^ (low + w) = shr-shr p low w in
    let both : 2 ^ (low + w) ≡ 2 ^ low * 2 ^ w = pow-add 2 low w in
    rw (← shr, both) (spread (p / 2 ^ low) (p / 2 ^ low / 2 ^ w) (p / 2 ^ low % 2 ^ w) (2 ^ low) (2 ^ w) (p % 2 ^ low) p (sym high) (sym whole))
  where
    spread : (q h f l w r p : ℕ) → q ≡ h * w + f → p ≡ q * l + r → p ≡ h * (l * w) + f * l + r
    spread q h f l w r p e g = g ∙ ap (λ z. z * l + r) e ∙ omega arith

-- the field is within the word
pub field_within : (p low w : ℕ) → bit_and (p / 2 ^ low) (2 ^ w - 1) * 2 ^ low ≤ p
field_within p low w = rw and_mask (let e = split_at p low w in omega arith)

pub spliced-is : (p low w part : ℕ) → p - bit_and (p / 2 ^ low) (2 ^ w - 1) * 2 ^ low + part * 2 ^ low ≡ p / 2 ^ (low + w) * 2 ^ (low + w) + part * 2 ^ low + p % 2 ^ low
spliced-is p low w part = rw and_mask (let e = split_at p low w in omega arith)

pub spliced-within : (p low w k part : ℕ) → p < 2 ^ (k + (low + w)) → part < 2 ^ w → p / 2 ^ (low + w) * 2 ^ (low + w) + part * 2 ^ low + p % 2 ^ low < 2 ^ (k + (low + w))
spliced-within p low w k part h f =
    let below : part * 2 ^ low + p % 2 ^ low < 2 ^ low * 2 ^ w = mul-add-lt part (2 ^ low) (p % 2 ^ low) (2 ^ w) f (mod_below p (2 ^ low) (pow_pos low)) in
    let both : 2 ^ (low + w) ≡ 2 ^ low * 2 ^ w = pow-add 2 low w in
    let fits = mul-add-lt (p / 2 ^ (low + w)) (2 ^ (low + w)) (part * 2 ^ low + p % 2 ^ low) (2 ^ k) (shr_below p k (low + w) h) (rw both below) in
    let all : 2 ^ (k + (low + w)) ≡ 2 ^ k * 2 ^ (low + w) = pow-add 2 k (low + w) in
    omega arith

-- the same at the places that the code names
pub field_whole : (p high low : ℕ) → low ≤ high → high < 64 →
    bit_and (p / 2 ^ low) (2 ^ (high + 1 - low) - 1) * 2 ^ low % 2 ^ 64 ≡ bit_and (p / 2 ^ low) (2 ^ (high + 1 - low) - 1) * 2 ^ low
field_whole p high low order few =
    shl_whole (bit_and (p / 2 ^ low) (2 ^ (high + 1 - low) - 1)) (high + 1 - low) low 64
    (rw and_mask (mod_below (p / 2 ^ low) (2 ^ (high + 1 - low)) (pow_pos (high + 1 - low)))) (omega arith)

pub part_whole : (part high low : ℕ) → low ≤ high → high < 64 → part < 2 ^ (high + 1 - low) → part * 2 ^ low % 2 ^ 64 ≡ part * 2 ^ low
part_whole part high low order few within = shl_whole part (high + 1 - low) low 64 within (omega arith)

pub spliced-at : (p high low part : ℕ) → low ≤ high →
    p - bit_and (p / 2 ^ low) (2 ^ (high + 1 - low) - 1) * 2 ^ low + part * 2 ^ low ≡ splice p high low part
spliced-at p high low part order =
    let place : low + (high + 1 - low) ≡ high + 1 = omega arith in
    rw place at (spliced-is p low (high + 1 - low) part)

pub spliced_below : (p high low part n : ℕ) → low ≤ high → high < n → p < 2 ^ n → part < 2 ^ (high + 1 - low) → splice p high low part < 2 ^ n
spliced_below p high low part n order within h f =
    let place : low + (high + 1 - low) ≡ high + 1 = omega arith in
    let whole : n - (high + 1) + (low + (high + 1 - low)) ≡ n = omega arith in
    let below = spliced-within p low (high + 1 - low) (n - (high + 1)) part (subst (λ k. p < 2 ^ k) (sym whole) h) f in
    rw (whole, place) at below

abbrev PutLetters : ℕ → ℕ → ℕ → ℕ → ℕ → ℕ → ℕ → ℕ → Type 0
PutLetters j n low w a b c d =
    letters_of n (a / 2 ^ j * 2 ^ j + c * 2 ^ low + a % 2 ^ low) (b / 2 ^ j * 2 ^ j + d * 2 ^ low + b % 2 ^ low)
    ≡ take low (letters_of n a b) ++ letters_of w c d ++ drop j (letters_of n a b)

put-letters : (low w k a b c d : ℕ) → c < 2 ^ w → d < 2 ^ w → PutLetters (low + w) (low + w + k) low w a b c d
put-letters low w k a b c d h g =
    let j : ℕ = low + w in
    let n : ℕ = low + w + k in
    let both : 2 ^ j ≡ 2 ^ low * 2 ^ w = pow-add 2 low w in
    let c_below : c * 2 ^ low + a % 2 ^ low < 2 ^ j = rw both (mul-add-lt c (2 ^ low) (a % 2 ^ low) (2 ^ w) h (mod_below a (2 ^ low) (pow_pos low))) in
    let d_below : d * 2 ^ low + b % 2 ^ low < 2 ^ j = rw both (mul-add-lt d (2 ^ low) (b % 2 ^ low) (2 ^ w) g (mod_below b (2 ^ low) (pow_pos low))) in
    let high = letters_of-cat j k (c * 2 ^ low + a % 2 ^ low) (d * 2 ^ low + b % 2 ^ low) (a / 2 ^ j) (b / 2 ^ j) c_below d_below in
    let mid = letters_of-cat low w (a % 2 ^ low) (b % 2 ^ low) c d (mod_below a (2 ^ low) (pow_pos low)) (mod_below b (2 ^ low) (pow_pos low)) in
    let front : take low (letters_of n a b) ≡ letters_of low (a % 2 ^ low) (b % 2 ^ low) = take-letters_of low n a b (omega arith) ∙ sym (letters_of-low low a b) in
    let left : n - j ≡ k = omega arith in
    let back : drop j (letters_of n a b) ≡ letters_of k (a / 2 ^ j) (b / 2 ^ j) = rw left at (drop-letters_of j n a b (omega arith)) in
    rw (add_assoc (a / 2 ^ j * 2 ^ j) (c * 2 ^ low) (a % 2 ^ low), add_assoc (b / 2 ^ j * 2 ^ j) (d * 2 ^ low) (b % 2 ^ low), high, mid, front, back) refl

pub put-view : (n a b m c d high low : ℕ) (s t : Bool) (v w : Vector) → view_of n a b s ≡ v → view_of m c d t ≡ w → Planes m c d →
    low ≤ high → high < n → m ≡ high + 1 - low →
    view_of n (splice a high low c) (splice b high low d) s ≡ put v high low w
unfolding put
put-view n a b m c d high low s t v w e f h order within len =
    let at_j : low + m ≡ high + 1 = omega arith in
    let at_n : high + 1 + (n - (high + 1)) ≡ n = omega arith in
    let letters = put-letters low m (n - (high + 1)) a b c d h.value_within h.unknown_within in
    let at_high = subst (λ j. PutLetters j (j + (n - (high + 1))) low m a b c d) at_j letters in
    let all = subst (λ k. PutLetters (high + 1) k low m a b c d) at_n at_high in
    (λ i. record { letters = all i; signed = s })
    ∙ ap (λ z. put z high low (view_of m c d t)) e
    ∙ ap (put v high low) f

-- ---- resize

pub cut-view : (n a b count : ℕ) (s : Bool) (v : Vector) → view_of n a b s ≡ v → count ≤ n →
    view_of count (bit_and a (2 ^ count - 1)) (bit_and b (2 ^ count - 1)) s ≡ resize v count
unfolding resize
cut-view n a b count s v e h =
    let fits : count ≤ length (letters_of n a b) = rw (length-letters_of n a b) h in
    let front : take count (letters_of n a b ++ replicate count (sign_letter (view_of n a b s))) ≡ letters_of count a b =
    take-append-le count (letters_of n a b) (replicate count (sign_letter (view_of n a b s))) fits ∙ take-letters_of count n a b h in
    rw (and_mask, and_mask)
    (λ i. record { letters = (letters_of-low count a b ∙ sym front) i; signed = s })
    ∙ ap (λ z. resize z count) e

-- the letter above a vector and the bits above its planes
pub sign_letter-view : (n a b : ℕ) (s : Bool) → 1 ≤ n → sign_letter (view_of n a b s) ≡ letter (sign_bit a n s) (sign_bit b n s)
unfolding sign_letter
sign_letter-view n a b false h = refl
sign_letter-view n a b true h =
    rw (length-letters_of n a b) (get_or-letters_of n a b (n - 1) Zero (omega arith))

pub value_bit-sign : (n a b : ℕ) (s : Bool) → value_bit (letter (sign_bit a n s) (sign_bit b n s)) ≡ sign_bit a n s
value_bit-sign n a b false = refl
value_bit-sign n a b true = value_bit-letter (a / 2 ^ (n - 1)) (b / 2 ^ (n - 1))

pub unknown_bit-sign : (n a b : ℕ) (s : Bool) → unknown_bit (letter (sign_bit a n s) (sign_bit b n s)) ≡ sign_bit b n s
unknown_bit-sign n a b false = refl
unknown_bit-sign n a b true = unknown_bit-letter (a / 2 ^ (n - 1)) (b / 2 ^ (n - 1))

-- letters with copies of one above them
pub letters_of-above : (n m a b : ℕ) (l : Bit4) → a < 2 ^ n → b < 2 ^ n →
    letters_of (n + m) (run (value_bit l) m * 2 ^ n + a) (run (unknown_bit l) m * 2 ^ n + b) ≡ letters_of n a b ++ replicate m l
letters_of-above n m a b l h g = letters_of-cat n m a b (run (value_bit l) m) (run (unknown_bit l) m) h g ∙ ap (λ xs. letters_of n a b ++ xs) (letters_of-run m l)

-- letters that are filled up to a count
pub padded : (n a b count : ℕ) (l : Bit4) → a < 2 ^ n → b < 2 ^ n → n ≤ count →
    letters_of count (run (value_bit l) (count - n) * 2 ^ n + a) (run (unknown_bit l) (count - n) * 2 ^ n + b) ≡ take count (letters_of n a b ++ replicate count l)
padded n a b count l h g longer =
    let whole : n + (count - n) ≡ count = omega arith in
    let above = rw whole at (letters_of-above n (count - n) a b l h g) in
    let cut : take count (letters_of n a b ++ replicate count l) ≡ letters_of n a b ++ replicate (count - n) l =
    rw (length-letters_of n a b, whole) at (take-append-add (letters_of n a b) (replicate count l) (count - n))
    ∙ ap (λ xs. letters_of n a b ++ xs) (take-replicate (count - n) count l (omega arith)) in
    above ∙ sym cut

pub extend-view : (n a b count : ℕ) (s : Bool) (v : Vector) → Planes n a b → view_of n a b s ≡ v → n ≤ count →
    view_of count (run (sign_bit a n s) (count - n) * 2 ^ n + a) (run (sign_bit b n s) (count - n) * 2 ^ n + b) s ≡ resize v count
unfolding resize
extend-view n a b count s v p e h =
    let l : Bit4 = letter (sign_bit a n s) (sign_bit b n s) in
    let longer = rw (value_bit-sign n a b s, unknown_bit-sign n a b s) at (padded n a b count l p.value_within p.unknown_within h) in
    let same : l ≡ sign_letter (view_of n a b s) = sym (sign_letter-view n a b s p.some) in
    (λ i. record { letters = (longer ∙ ap (λ x. take count (letters_of n a b ++ replicate count x)) same) i; signed = s })
    ∙ ap (λ z. resize z count) e

-- ---- what the code computes

pub joined : (n m a c : ℕ) → a < 2 ^ n → c < 2 ^ m → n + m ≤ 64 → bit_or (a * 2 ^ m % 2 ^ 64) c ≡ a * 2 ^ m + c
joined n m a c h g few = rw (shl_whole a n m 64 h few) (or_shifted a m c g)

joined_below : (n m a c : ℕ) → a < 2 ^ n → c < 2 ^ m → a * 2 ^ m + c < 2 ^ (n + m)
joined_below n m a c h g =
    let both : 2 ^ (n + m) ≡ 2 ^ n * 2 ^ m = pow-add 2 n m in
    let below = mul-add-lt a (2 ^ m) c (2 ^ n) h g in
    omega arith

pub concat-planes : (n a b m c d : ℕ) → Planes n a b → Planes m c d → n + m ≤ 64 →
    Planes (n + m) (bit_or (a * 2 ^ m % 2 ^ 64) c) (bit_or (b * 2 ^ m % 2 ^ 64) d)
concat-planes n a b m c d h g few =
    rw (joined n m a c h.value_within g.value_within few, joined n m b d h.unknown_within g.unknown_within few)
    (record {
      some = let p = h.some in omega arith;
      few = few;
      value_within = joined_below n m a c h.value_within g.value_within;
      unknown_within = joined_below n m b d h.unknown_within g.unknown_within;
    })

pub concat-code : (n a b m c d : ℕ) (s t : Bool) (v w : Vector) → Planes n a b → Planes m c d → view_of n a b s ≡ v → view_of m c d t ≡ w → n + m ≤ 64 →
    view_of (n + m) (bit_or (a * 2 ^ m % 2 ^ 64) c) (bit_or (b * 2 ^ m % 2 ^ 64) d) false ≡ concat v w
concat-code n a b m c d s t v w h g e f few =
    let turned : n + m ≡ m + n = omega arith in
    rw (joined n m a c h.value_within g.value_within few, joined n m b d h.unknown_within g.unknown_within few, turned)
    (concat-view n a b s m c d t v w g e f)

pub put-planes : (n a b m c d high low : ℕ) → Planes n a b → Planes m c d → low ≤ high → high < n → m ≡ high + 1 - low →
    Planes n (splice a high low c) (splice b high low d)
put-planes n a b m c d high low h g order within len = record {
  some = h.some;
  few = h.few;
  value_within = spliced_below a high low c n order within h.value_within (subst (λ k. c < 2 ^ k) len g.value_within);
  unknown_within = spliced_below b high low d n order within h.unknown_within (subst (λ k. d < 2 ^ k) len g.unknown_within);
}

run_below : (t m : ℕ) → run t m < 2 ^ m
run_below zero m = pow_pos m
run_below (suc t) m = let p = pow_pos m in omega arith

extended_below : (t n count a : ℕ) → a < 2 ^ n → n ≤ count → run t (count - n) * 2 ^ n + a < 2 ^ count
extended_below t n count a h g =
    let whole : count - n + n ≡ count = omega arith in
    subst (λ k. run t (count - n) * 2 ^ n + a < 2 ^ k) whole (joined_below (count - n) n (run t (count - n)) a (run_below t (count - n)) h)

pub extend-planes : (n a b count : ℕ) (t u : ℕ) → Planes n a b → n ≤ count → count ≤ 64 →
    Planes count (run t (count - n) * 2 ^ n + a) (run u (count - n) * 2 ^ n + b)
extend-planes n a b count t u h longer few = record {
  some = let p = h.some in omega arith;
  few = few;
  value_within = extended_below t n count a h.value_within longer;
  unknown_within = extended_below u n count b h.unknown_within longer;
}
