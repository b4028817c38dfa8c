-- The path of a format's scope changes its letters alone, and none of its forms.
use Rattle.std.proofs.Common.{◌≡◌, ◌==◌, ℕ, Bool, true, false, cond, List, [], ◌∷◌, ◌++◌, Option, Some, None, refl, option_and_then}
use Rattle.std.specs.Char.{is_ascii_digit}
use Rattle.vdesign.specs.declared.print.Form.{Form}
use Rattle.vdesign.specs.declared.print.Width.{Width}
use Rattle.format_text.specs.Formats.{FormatFront, form_by, front_by, front_in_form, front_of, front_with_form, is_letter, is_percent, letters_in, notation_of, width_of}

abbrev pub without_letters : Option FormatFront → Option FormatFront
without_letters None = None
without_letters (Some front) = Some (record { letters = []; form = front.form; rest = front.rest })

form_same : (xs ys : List ℕ) (form : Option Form) (rest : List ℕ) → without_letters (front_with_form xs form rest) ≡ without_letters (front_with_form ys form rest)
form_same xs ys None rest = refl
form_same xs ys (Some form) rest = refl

either_same : (test : Bool) (x y u v : Option FormatFront) → without_letters x ≡ without_letters u → without_letters y ≡ without_letters v →
    without_letters (cond test x y) ≡ without_letters (cond test u v)
either_same true x y u v p q = p
either_same false x y u v p q = q

width_same : (width : Option Width) (x y : Width → Option FormatFront) → ((w : Width) → without_letters (x w) ≡ without_letters (y w)) →
    without_letters (option_and_then x width) ≡ without_letters (option_and_then y width)
width_same None x y same = refl
width_same (Some w) x y same = same w

mutual
  front_same : (path other xs ys format : List ℕ) → without_letters (front_by path xs format) ≡ without_letters (front_by other ys format)
  front_same path other xs ys [] = refl
  front_same path other xs ys (c ∷ cs) =
      either_same (c == 37) _ _ _ _ (same_in_form path other xs ys [] cs) (front_same path other (xs ++ c ∷ []) (ys ++ c ∷ []) cs)

  same_in_form : (path other xs ys digits format : List ℕ) →
      without_letters (front_in_form path xs digits format) ≡ without_letters (front_in_form other ys digits format)
  same_in_form path other xs ys digits [] = refl
  same_in_form path other xs ys digits (c ∷ cs) =
      either_same (is_ascii_digit c) _ _ _ _ (same_in_form path other xs ys (digits ++ c ∷ []) cs)
      (either_same (is_letter 109 77 c) _ _ _ _
      (width_same (width_of digits) (λ w. front_by path (xs ++ letters_in w path) cs) (λ w. front_by other (ys ++ letters_in w other) cs)
      (λ w. front_same path other (xs ++ letters_in w path) (ys ++ letters_in w other) cs))
      (either_same (is_percent digits c) _ _ _ _ (front_same path other (xs ++ c ∷ []) (ys ++ c ∷ []) cs)
      (form_same xs ys (form_by (width_of digits) (notation_of c)) cs)))

pub same_forms : (path other format : List ℕ) → without_letters (front_of path format) ≡ without_letters (front_of other format)
same_forms path other format = front_same path other [] [] format
