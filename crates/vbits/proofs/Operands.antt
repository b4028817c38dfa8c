-- Two vectors of one length and the planes behind them.
use Rattle.std.proofs.Common.{◌≡◌, ℕ, ◌-◌, ◌^◌, ◌<◌, Bool, ◌&&◌, length, sym, ◌∙◌, ap, subst}
use Rattle.std.proofs.lemmas.Nat.{pow_pos}
use Rattle.vbits.specs.declared.bit4.Bit4.{Bit4}
use Rattle.vbits.specs.Planes.{Planes}
use Rattle.vbits.specs.Vectors.{Vector, bitwise, complement}
use Rattle.vbits.specs.Letters.{not_letter}
use Rattle.vbits.proofs.Views.{view_of, len_seen}
use Rattle.vbits.proofs.Wordwise.{Word, Wordwise, Four, word-within, map-zip-letters_of, map-letters_of, word_b}
use Rattle.vbits.proofs.Tables.{Stands, not_value, not_unknown, not_value-words, not_agrees}

-- two vectors of one length, seen as planes
pub record Operands (n m a b c d : ℕ) (s t : Bool) (v w : Vector) : Type 0 where
  pub left : Planes n a b
  pub right : Planes m c d
  pub left_is : view_of n a b s ≡ v
  pub right_is : view_of m c d t ≡ w
  pub same_length : length v.letters ≡ length w.letters

pub same_len : (n m a b c d : ℕ) (s t : Bool) (v w : Vector) → Operands n m a b c d s t v w → m ≡ n
same_len n m a b c d s t v w o =
    sym (len_seen m c d t w o.right_is) ∙ sym o.same_length ∙ len_seen n a b s v o.left_is

pub four_of : (n m a b c d : ℕ) (s t : Bool) (v w : Vector) → Operands n m a b c d s t v w → Four n a b c d
four_of n m a b c d s t v w o =
    let e = same_len n m a b c d s t v w o in
    record {
      in_a = o.left.value_within;
      in_b = o.left.unknown_within;
      in_c = subst (λ k. c < 2 ^ k) e o.right.value_within;
      in_d = subst (λ k. d < 2 ^ k) e o.right.unknown_within;
    }

-- one vector's planes, with no second vector
pub alone : (n a b : ℕ) → Planes n a b → Four n a b 0 0
alone n a b h = record {
  in_a = h.value_within;
  in_b = h.unknown_within;
  in_c = pow_pos n;
  in_d = pow_pos n;
}

pub words_within : (x y : Word) → Wordwise x → Wordwise y → (n a b c d : ℕ) → Planes n a b → Four n a b c d →
    Planes n (x a b c d (2 ^ n - 1)) (y a b c d (2 ^ n - 1))
words_within x y p q n a b c d h f = record {
  some = h.some;
  few = h.few;
  value_within = word-within x p n a b c d f;
  unknown_within = word-within y q n a b c d f;
}

pub bitwise-planes : (table : Bit4 → Bit4 → Bit4) (x y : Word) → Stands table x y →
    (n m a b c d : ℕ) (s t : Bool) (v w : Vector) → Operands n m a b c d s t v w → Planes n (x a b c d (2 ^ n - 1)) (y a b c d (2 ^ n - 1))
bitwise-planes table x y st n m a b c d s t v w o =
    words_within x y st.value_words st.unknown_words n a b c d o.left (four_of n m a b c d s t v w o)

bitwise-views : (table : Bit4 → Bit4 → Bit4) (x y : Word) → Stands table x y → (n a b c d : ℕ) (s t : Bool) →
    view_of n (x a b c d (2 ^ n - 1)) (y a b c d (2 ^ n - 1)) (s && t) ≡ bitwise table (view_of n a b s) (view_of n c d t)
unfolding bitwise
bitwise-views table x y st n a b c d s t =
    λ i. record { letters = sym (map-zip-letters_of table x y st.value_words st.unknown_words st.agrees n a b c d) i; signed = s && t }

pub bitwise-view : (table : Bit4 → Bit4 → Bit4) (x y : Word) → Stands table x y →
    (n m a b c d : ℕ) (s t : Bool) (v w : Vector) → Operands n m a b c d s t v w →
    view_of n (x a b c d (2 ^ n - 1)) (y a b c d (2 ^ n - 1)) (s && t) ≡ bitwise table v w
bitwise-view table x y st n m a b c d s t v w o =
    bitwise-views table x y st n a b c d s t
    ∙ ap (λ k. bitwise table (view_of n a b s) (view_of k c d t)) (sym (same_len n m a b c d s t v w o))
    ∙ ap (λ z. bitwise table z (view_of m c d t)) o.left_is
    ∙ ap (bitwise table v) o.right_is

pub complement-planes : (n a b : ℕ) → Planes n a b → Planes n (not_value a b 0 0 (2 ^ n - 1)) (not_unknown a b 0 0 (2 ^ n - 1))
complement-planes n a b h = words_within not_value not_unknown not_value-words word_b n a b 0 0 h (alone n a b h)

pub complement-view : (n a b : ℕ) (s : Bool) (v : Vector) → view_of n a b s ≡ v →
    view_of n (not_value a b 0 0 (2 ^ n - 1)) (not_unknown a b 0 0 (2 ^ n - 1)) s ≡ complement v
unfolding complement
complement-view n a b s v e =
    (λ i. record { letters = sym (map-letters_of not_letter not_value not_unknown not_value-words word_b not_agrees n a b) i; signed = s })
    ∙ ap complement e
