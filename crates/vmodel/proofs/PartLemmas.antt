-- Letters of parts: how many there are, and which.
use Rattle.std.proofs.Common.{◌≡◌, ◌≢◌, ℕ, zero, suc, ◌+◌, ◌-◌, ◌≤◌, ◌<◌, ◌==◌, min, max, nat_le, replicate, Bool, true, false, cond, List, [], ◌∷◌, ◌++◌, length, take, drop, get_or, Some, refl, sym, ap, ◌∙◌, arith}
use Rattle.std.specs.Prelude.{slice_get, slice_set}
use Rattle.std.proofs.lemmas.Bool.Decides.{nat_tests}
use Rattle.std.proofs.lemmas.List.{append-nil, append_assoc, length-set}
use Rattle.vbits.specs.declared.bit4.Bit4.{Bit4}
use Rattle.vbits.specs.declared.bit4.Bit4.TheVariants.{X}
use Rattle.vbits.specs.Vectors.{Vector, filled, with_sign, resize, sign_letter, select, put}
use Rattle.vdesign.specs.Expressions.{ExpressionTree}
use Rattle.vdesign.specs.declared.action.Target.{Target}
use Rattle.vdesign.specs.declared.action.Target.TheVariants.{Whole as WholeTarget}
use Rattle.vvalue.specs.Value.{Environment, value_at, right_side}
use Rattle.vvalue.specs.Targets.{target_size, targets_size}
use Rattle.vvalue.proofs.Lengths.{right_side_length, resized_length}
use Rattle.vmodel.specs.declared.part.Part.{Part}
use Rattle.vmodel.specs.declared.part.Part.TheVariants.{Whole, Bits}
use Rattle.vmodel.specs.Parts.{value_in, with_bits, write, with_parts}
use Rattle.vmodel.specs.Value.{some_bits, bits_from, parts_of, shared_parts, assigned_parts, held_value, resumed_parts}
use Rattle.vmodel.specs.Inner.{variable_of, value_over, over_one, over_all}
use Rattle.vmodel.proofs.WakingLemmas.{differ_set, other_after}

-- so many letters behind others
pub part_length : (n behind : ℕ) (letters : List Bit4) → n + behind ≤ length letters → length (take n (drop behind letters)) ≡ n
part_length zero zero letters le = refl
part_length (suc n) zero [] le = absurd (omega (arith, le))
part_length (suc n) zero (b ∷ bs) le = ap suc (part_length n zero bs (omega (arith, le)))
part_length zero (suc behind) [] le = refl
part_length (suc n) (suc behind) [] le = absurd (omega (arith, le))
part_length n (suc behind) (b ∷ bs) le = part_length n behind bs (omega (arith, le))

dropped_length : (n : ℕ) (letters : List Bit4) → n ≤ length letters → n + length (drop n letters) ≡ length letters
dropped_length zero letters le = omega arith
dropped_length (suc n) [] le = absurd (omega (arith, le))
dropped_length (suc n) (b ∷ bs) le = omega (arith, dropped_length n bs (omega (arith, le)))

both_length : (xs ys : List Bit4) → length (xs ++ ys) ≡ length xs + length ys
both_length [] ys = omega arith
both_length (x ∷ xs) ys = omega (arith, both_length xs ys)

pub spliced_length : (low : ℕ) (old new : List Bit4) → low + length new ≤ length old →
    length (take low old ++ new ++ drop (low + length new) old) ≡ length old
spliced_length low old new le =
    omega (
      arith,
      both_length (take low old ++ new) (drop (low + length new) old),
      both_length (take low old) new,
      part_length low zero old (omega (arith, le)),
      dropped_length (low + length new) old le,
      le,
    )

-- ---- which letters

taken_all : (n : ℕ) (xs : List Bit4) → length xs ≤ n → take n xs ≡ xs
taken_all zero [] le = refl
taken_all (suc n) [] le = refl
taken_all zero (x ∷ xs) le = absurd (omega (arith, le))
taken_all (suc n) (x ∷ xs) le = ap (λ ys. x ∷ ys) (taken_all n xs (omega (arith, le)))

-- as many as there are, or as there is room for
taken_room : (room k : ℕ) (xs : List Bit4) → k ≡ min (length xs) room → take k xs ≡ take room xs
taken_room zero zero xs e = refl
taken_room zero (suc k) xs e = absurd (omega (arith, e))
taken_room (suc room) zero [] e = refl
taken_room (suc room) (suc k) [] e = absurd (omega (arith, e))
taken_room (suc room) zero (x ∷ xs) e = absurd (omega (arith, e))
taken_room (suc room) (suc k) (x ∷ xs) e = ap (λ ys. x ∷ ys) (taken_room room k xs (omega (arith, e)))

some_is : (n low : ℕ) (letters : List Bit4) (v : Vector) → v.letters ≡ letters → v.signed ≡ false → 1 ≤ length letters → Bits n low v ∷ [] ≡ some_bits n low letters
some_is n low [] v are sign le = absurd (omega (arith, le))
some_is n low (b ∷ bs) v are sign le = λ i. Bits n low (record { letters = are i; signed = sign i }) ∷ []

pub from_is : (n low count : ℕ) (old value picked : Vector) → low < length old.letters → 1 ≤ length value.letters →
    count ≡ min (length value.letters) (length old.letters - low) → picked ≡ select value (count - 1) 0 → Bits n low picked ∷ [] ≡ bits_from n old low value.letters
unfolding select
from_is n low count old value picked within some is e =
    some_is n low (take room value.letters) picked
    (ap (λ (v : Vector). v.letters) e ∙ ap (λ k. take k value.letters) back ∙ same)
    (ap (λ (v : Vector). v.signed) e)
    (omega (arith, ap length same, part_length count zero value.letters (omega (arith, is)), within, some, is))
  where
    room : ℕ
    room = length old.letters - low

    back : count - 1 + 1 - 0 ≡ count
    back = omega (arith, within, some, is)

    same : take count value.letters ≡ take room value.letters
    same = taken_room room count value.letters is

-- the letters from a place on
pub rest_is : (len low : ℕ) (value picked : Vector) → len ≡ length value.letters → low < len → picked ≡ select value (len - 1) low →
    picked.letters ≡ drop low value.letters
unfolding select
rest_is len low value picked is lt e =
    ap (λ (v : Vector). v.letters) e
    ∙ taken_all (len - 1 + 1 - low) (drop low value.letters) (omega (arith, dropped_length low value.letters (omega (arith, is, lt)), is, lt))

-- the letters from a place on, so many
pub select_is : (n low : ℕ) (value picked : Vector) → 1 ≤ n → picked ≡ select value (low + n - 1) low → picked.letters ≡ take n (drop low value.letters)
unfolding select
select_is n low value picked some e =
    ap (λ (v : Vector). v.letters) e
    ∙ ap (λ k. take k (drop low value.letters)) (back n some)
  where
    back : (n : ℕ) → 1 ≤ n → low + n - 1 + 1 - low ≡ n
    back n some = omega (arith, some)

pub whole_is : (now : Environment) (n : ℕ) (value marked old : Vector) (sign : Bool) → marked ≡ with_sign value sign → sign ≡ old.signed → old ≡ value_at now n →
    Whole n marked ∷ [] ≡ parts_of now (WholeTarget n) value.letters
unfolding with_sign
whole_is now n value marked old sign e mark is =
    ap (λ (v : Vector). Whole n v ∷ []) e
    ∙ ap (λ (b : Bool). Whole n (record { letters = value.letters; signed = b }) ∷ []) (mark ∙ ap (λ (v : Vector). v.signed) is)

-- one target gets a value that is cut or extended to its bits
pub given_alone : (now : Environment) (target : Target) (held : Vector) (size : ℕ) (value : Vector) (parts : List Part) → size ≡ target_size now target → size ≤ 64 →
    value ≡ resize held size → parts ≡ parts_of now target value.letters → parts ≡ resumed_parts now (target ∷ []) (Some held)
given_alone now target held size value parts is le resized are =
    are ∙ fit (target_size now target + 0) (nat_le (target_size now target + 0) 64) (omega (arith, is)) (grind (arith, nat_tests))
  where
    fit : (n : ℕ) (b : Bool) → size ≡ n → b ≡ true →
        parts_of now target value.letters ≡ cond b (parts_of now target (take (target_size now target) (resize held n).letters) ++ []) []
    fit n false same is_true = cc
    fit n true same is_true =
        ap (parts_of now target) (ap (λ (v : Vector). v.letters) (resized ∙ ap (resize held) same) ∙ sym (taken_all (target_size now target) (resize held n).letters (omega (arith, resized_length held n, is, same))))
        ∙ sym (append-nil (parts_of now target (take (target_size now target) (resize held n).letters)))

-- several targets get a value that is cut or extended to their bits together
pub held_is : (now : Environment) (targets : List Target) (size : ℕ) (held value : Vector) (parts : List Part) → size ≡ targets_size now targets → size ≤ 64 →
    value ≡ resize held size → parts ≡ shared_parts now targets value.letters → parts ≡ resumed_parts now targets (Some held)
held_is now targets size held value parts is le resized are =
    are
    ∙ ap (λ (v : Vector). shared_parts now targets v.letters) (resized ∙ ap (resize held) is)
    ∙ chosen (nat_le (targets_size now targets) 64) (grind (arith, nat_tests))
  where
    all : List Part
    all = shared_parts now targets (resize held (targets_size now targets)).letters

    chosen : (b : Bool) → b ≡ true → all ≡ cond b all []
    chosen true is_true = refl
    chosen false is_true = cc

pub none_held : (now : Environment) (targets : List Target) (held : Vector) → 64 < targets_size now targets → [] ≡ resumed_parts now targets (Some held)
none_held now targets held lt = chosen (nat_le (targets_size now targets) 64) (grind (arith, nat_tests))
  where
    all : List Part
    all = shared_parts now targets (resize held (targets_size now targets)).letters

    chosen : (b : Bool) → b ≡ false → [] ≡ cond b all []
    chosen false is_false = refl
    chosen true is_false = cc

pub held_length : (now : Environment) (targets : List Target) (size : ℕ) (held value : Vector) → size ≡ targets_size now targets →
    value ≡ resize held size → length value.letters ≡ targets_size now targets
held_length now targets size held value is resized = ap (λ (v : Vector). length v.letters) resized ∙ resized_length held size ∙ is

-- ---- an assignment gives its targets the value of its right side

taken_front : (n : ℕ) (xs ys : List Bit4) → length xs ≡ n → take n (xs ++ ys) ≡ xs
taken_front zero [] ys is = refl
taken_front zero (x ∷ xs) ys is = absurd (omega (arith, is))
taken_front (suc n) [] ys is = absurd (omega (arith, is))
taken_front (suc n) (x ∷ xs) ys is = ap (λ zs. x ∷ zs) (taken_front n xs ys (omega (arith, is)))

-- a value of as many bits stays
stays : (v : Vector) (n : ℕ) → length v.letters ≡ n → (resize v n).letters ≡ v.letters
unfolding resize
stays v n is = taken_front n v.letters (replicate n (sign_letter v)) is

side_stays : (now : Environment) (e : ExpressionTree) (size : ℕ) → nat_le size 64 ≡ true →
    (resize (right_side now (max 1 (min 64 size)) e) size).letters ≡ (right_side now size e).letters
side_stays now e zero few = nothing (resize (right_side now (max 1 (min 64 0)) e) 0).letters (resized_length (right_side now (max 1 (min 64 0)) e) 0)
    ∙ sym (nothing (right_side now 0 e).letters (right_side_length now 0 e))
  where
    nothing : (xs : List Bit4) → length xs ≡ 0 → xs ≡ []
    nothing [] is = refl
    nothing (x ∷ xs) is = absurd (omega (arith, is))
side_stays now e (suc n) few =
    let same : max 1 (min 64 (suc n)) ≡ suc n = grind (arith, nat_tests) in
    ap (λ k. (resize (right_side now k e) (suc n)).letters) same ∙ stays (right_side now (suc n) e) (suc n) (right_side_length now (suc n) e)

pub held_assigned : (now : Environment) (targets : List Target) (e : ExpressionTree) (value : Vector) → value ≡ held_value now targets e →
    resumed_parts now targets (Some value) ≡ assigned_parts now targets e
held_assigned now targets e value is =
    ap (λ v. resumed_parts now targets (Some v)) is ∙ by (nat_le (targets_size now targets) 64) refl
  where
    by : (b : Bool) → nat_le (targets_size now targets) 64 ≡ b →
        cond b (shared_parts now targets (resize (held_value now targets e) (targets_size now targets)).letters) []
        ≡ cond b (shared_parts now targets (right_side now (targets_size now targets) e).letters) []
    by true few = ap (shared_parts now targets) (side_stays now e (targets_size now targets) few)
    by false few = refl

pub drop_at : (i : ℕ) (targets : List Target) (target : Target) → target ≡ get_or targets i target → i < length targets →
    drop i targets ≡ target ∷ drop (i + 1) targets
drop_at i [] target is lt = absurd (omega (arith, lt))
drop_at zero (first ∷ more) target is lt = ap (λ t. t ∷ more) (sym is)
drop_at (suc i) (first ∷ more) target is lt =
    let next : suc (i + 1) ≡ suc i + 1 = omega arith in
    drop_at i more target is (omega (arith, lt)) ∙ ap (λ n. target ∷ drop n (first ∷ more)) next

-- one target less
pub size_step : (now : Environment) (targets : List Target) (target : Target) (more : List Target) (behind size : ℕ) → targets ≡ target ∷ more →
    behind ≡ targets_size now targets → size ≡ target_size now target → behind - size ≡ targets_size now more
size_step now targets target more behind size is at one = omega (arith, ap (targets_size now) is, at, one)

-- one target more has its letters
pub shared_step : (now : Environment) (targets : List Target) (target : Target) (more : List Target) (value picked : Vector) (behind size : ℕ) (had has part : List Part) →
    targets ≡ target ∷ more → behind ≡ targets_size now more → size ≡ target_size now target → 1 ≤ size →
    picked ≡ select value (behind + size - 1) behind → part ≡ parts_of now target picked.letters → has ≡ had ++ part →
    has ++ shared_parts now more value.letters ≡ had ++ shared_parts now targets value.letters
shared_step now targets target more value picked behind size had has part is at one some e parts grown =
    ap (λ ps. ps ++ shared_parts now more value.letters) (grown ∙ ap (λ ps. had ++ ps) (parts ∙ ap (parts_of now target) letters))
    ∙ append_assoc had (parts_of now target (take (target_size now target) (drop (targets_size now more) value.letters))) (shared_parts now more value.letters)
    ∙ ap (λ ts. had ++ shared_parts now ts value.letters) (sym is)
  where
    letters : picked.letters ≡ take (target_size now target) (drop (targets_size now more) value.letters)
    letters = select_is size behind value picked some e ∙ ap (λ n. take n (drop behind value.letters)) one ∙ ap (λ n. take (target_size now target) (drop n value.letters)) at

-- ---- what is written

pub bits_are : (old value put_so : Vector) (low len : ℕ) → len ≡ length value.letters → 1 ≤ len → low + len ≤ length old.letters → put_so ≡ put old (low + len - 1) low value →
    put_so ≡ with_bits old low value
unfolding put
bits_are old value put_so low len is some fits e =
    e
    ∙ (λ i. record { letters = take low old.letters ++ value.letters ++ drop (back i) old.letters; signed = old.signed })
    ∙ chosen (nat_le (low + length value.letters) (length old.letters)) (grind (arith, nat_tests))
  where
    back : low + len - 1 + 1 ≡ low + length value.letters
    back = omega (arith, is, some)

    chosen : (b : Bool) → b ≡ true →
        record { letters = take low old.letters ++ value.letters ++ drop (low + length value.letters) old.letters; signed = old.signed }
        ≡ cond b (record old { letters = take low old.letters ++ value.letters ++ drop (low + length value.letters) old.letters }) old
    chosen true is_true = refl
    chosen false is_true = cc

pub write_is : (part : Part) (values : List Vector) → write part values ≡ slice_set values (variable_of part) (value_over part (value_in values (variable_of part)))
write_is (Whole n value) values = refl
write_is (Bits n low value) values = refl

there : (values : List Vector) (n : ℕ) → n < length values → slice_get values n ≡ Some (value_in values n)
there [] n lt = absurd (omega (arith, lt))
there (v ∷ vs) zero lt = refl
there (v ∷ vs) (suc n) lt = there vs n (omega (arith, lt))

nowhere : (values : List Vector) (n : ℕ) → length values ≤ n → value_in values n ≡ filled 1 X
nowhere [] n le = refl
nowhere (v ∷ vs) zero le = absurd (omega (arith, le))
nowhere (v ∷ vs) (suc n) le = nowhere vs n (omega (arith, le))

write_length : (part : Part) (values : List Vector) → length (write part values) ≡ length values
write_length part values = ap length (write_is part values) ∙ length-set values (variable_of part) (value_over part (value_in values (variable_of part)))

pub written_length : (parts : List Part) (values : List Vector) → length (with_parts parts values) ≡ length values
written_length [] values = refl
written_length (part ∷ parts) values = written_length parts (write part values) ∙ write_length part values

pub nowhere_after : (parts : List Part) (values : List Vector) (n : ℕ) → length values ≤ n → value_in values n ≡ value_in (with_parts parts values) n
nowhere_after parts values n le = nowhere values n le ∙ sym (nowhere (with_parts parts values) n (omega (arith, le, written_length parts values)))

step_is : (part : Part) (values : List Vector) (n : ℕ) → n < length values →
    over_one part n (value_in values n) ≡ value_in (write part values) n
step_is part values n lt = by (variable_of part == n) refl ∙ sym (ap (λ vs. value_in vs n) (write_is part values))
  where
    m : ℕ
    m = variable_of part

    new : Vector
    new = value_over part (value_in values m)

    by : (b : Bool) → (m == n) ≡ b → cond b (value_over part (value_in values n)) (value_in values n) ≡ value_in (slice_set values m new) n
    by true e =
        let same : m ≡ n = grind (arith, nat_tests) in
        ap (λ k. value_over part (value_in values k)) (sym same)
        ∙ sym (differ_set values m (value_in values m) new (there values m (omega (arith, same, lt)))).new
        ∙ ap (value_in (slice_set values m new)) same
    by false e =
        let other : n ≢ m = grind (arith, nat_tests) in
        other_after values m n new other

pub followed_is : (parts : List Part) (values : List Vector) (n : ℕ) → n < length values →
    over_all parts n (value_in values n) ≡ value_in (with_parts parts values) n
followed_is [] values n lt = refl
followed_is (part ∷ parts) values n lt =
    ap (over_all parts n) (step_is part values n lt) ∙ followed_is parts (write part values) n (omega (arith, lt, write_length part values))
