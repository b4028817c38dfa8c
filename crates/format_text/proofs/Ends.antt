-- What a reading leaves of a format is what the format ends in.
use Rattle.std.proofs.Common.{◌≡◌, ◌==◌, ◌+◌, ℕ, suc, Bool, true, false, cond, List, [], ◌∷◌, ◌++◌, drop, Option, Some, None, refl, ap, sym, subst, ◌∙◌, drop-drop, option_and_then}
use Rattle.std.specs.Char.{is_ascii_digit}
use Rattle.vdesign.specs.declared.print.Form.{Form}
use Rattle.vdesign.specs.declared.print.Width.{Width}
use Rattle.format_text.specs.Formats.{FormatFront, form_by, front_by, front_in_form, front_of, front_with_form, is_letter, is_percent, letters_in, notation_of, width_of}
use Rattle.format_text.specs.Reading.{IsEndOf}

abbrev pub rest_of : Option FormatFront → List ℕ
rest_of None = []
rest_of (Some front) = front.rest

-- nothing is an end of each format
nothing : (format : List ℕ) → IsEndOf [] format
nothing [] = (0, refl)
nothing (c ∷ cs) = let p = nothing cs in (suc p.0, p.1)

more : (left : List ℕ) (c : ℕ) (cs : List ℕ) → IsEndOf left cs → IsEndOf left (c ∷ cs)
more left c cs p = (suc p.0, p.1)

end_of_ended : (letters : List ℕ) (form : Option Form) (rest cs : List ℕ) → IsEndOf rest cs → IsEndOf (rest_of (front_with_form letters form rest)) cs
end_of_ended letters None rest cs end = nothing cs
end_of_ended letters (Some form) rest cs end = end

-- one of two readings
either : (test : Bool) (x y : Option FormatFront) (cs : List ℕ) → IsEndOf (rest_of x) cs → IsEndOf (rest_of y) cs → IsEndOf (rest_of (cond test x y)) cs
either true x y cs p q = p
either false x y cs p q = q

-- a reading for each width, where there is one
with_width : (width : Option Width) (read : Width → Option FormatFront) (cs : List ℕ) → ((w : Width) → IsEndOf (rest_of (read w)) cs) →
    IsEndOf (rest_of (option_and_then read width)) cs
with_width None read cs end = nothing cs
with_width (Some w) read cs end = end w

mutual
  end_of_front : (path letters format : List ℕ) → IsEndOf (rest_of (front_by path letters format)) format
  end_of_front path letters [] = (0, refl)
  end_of_front path letters (c ∷ cs) =
      more _ c cs (either (c == 37) _ _ cs (end_of_form path letters [] cs) (end_of_front path (letters ++ c ∷ []) cs))

  end_of_form : (path letters digits format : List ℕ) → IsEndOf (rest_of (front_in_form path letters digits format)) format
  end_of_form path letters digits [] = (0, refl)
  end_of_form path letters digits (c ∷ cs) =
      more _ c cs
      (either (is_ascii_digit c) _ _ cs (end_of_form path letters (digits ++ c ∷ []) cs)
      (either (is_letter 109 77 c) _ _ cs
      (with_width (width_of digits) (λ width. front_by path (letters ++ letters_in width path) cs) cs (λ width. end_of_front path (letters ++ letters_in width path) cs))
      (either (is_percent digits c) _ _ cs (end_of_front path (letters ++ c ∷ []) cs)
      (end_of_ended letters (form_by (width_of digits) (notation_of c)) cs cs (0, refl)))))

-- an end of what is left from a place on is an end of the whole
end_from : (left format : List ℕ) (at : ℕ) → IsEndOf left (drop at format) → IsEndOf left format
end_from left format at p = (at + p.0, sym (drop-drop p.0 at format) ∙ p.1)

-- what is left after a front that was read from a place on
pub end_after_front : (path format : List ℕ) (at : ℕ) (read : Option FormatFront) (front : FormatFront) (left : List ℕ)
    → read ≡ front_of path (drop at format) → read ≡ Some front → front.rest ≡ left → IsEndOf left format
end_after_front path format at read front left is_read is_some is_left =
    let read_is : front_of path (drop at format) ≡ Some front = sym is_read ∙ is_some in
    let end : IsEndOf (rest_of (front_of path (drop at format))) format = end_from _ format at (end_of_front path [] (drop at format)) in
    subst (λ rest. IsEndOf rest format) (ap rest_of read_is ∙ is_left) end
