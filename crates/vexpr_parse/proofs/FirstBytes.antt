-- What a word isn't written as, by its first byte.
use Rattle.std.proofs.Common.{◌≡◌, ℕ, true, false, List, [], ◌∷◌, None, refl, sym, ap, ◌∙◌, inl, inr}
use Rattle.std.specs.List.{list_all}
use Rattle.std.specs.Str.{bytes_eq}
use Rattle.std.proofs.lemmas.Bool.{cases_Bool}
use Rattle.basis.proofs.Bools.{and_left, and_right, clash}
use Rattle.vwords.specs.Words.{Text}
use Rattle.vexpr_parse.specs.Words.{by_spelling, begins_among}
use Rattle.vexpr_parse.proofs.ReaderRules.{passed_over, same_text}

-- where all begin with one of these bytes, and a word doesn't, it is none of them
pub written_none : {A : Type 0} (spell : A → Text) (all : List A) (bytes : List ℕ) (word : Text) →
    list_all (λ one. begins_among bytes (spell one)) all ≡ true → begins_among bytes word ≡ false → by_spelling spell all word ≡ None
written_none spell [] bytes word e f = refl
written_none spell (one ∷ more) bytes word e f =
    passed_over (bytes_eq (spell one) word) _ _ differs
    ∙ written_none spell more bytes word
    (and_right (begins_among bytes (spell one)) (list_all (λ other. begins_among bytes (spell other)) more) e) f
  where
    differs : bytes_eq (spell one) word ≡ false
    differs =
        elim (cases_Bool (bytes_eq (spell one) word)) [
          | inl holds ↦
              absurd (clash (begins_among bytes word)
              (sym (ap (begins_among bytes) (same_text (spell one) word holds))
              ∙ and_left (begins_among bytes (spell one)) (list_all (λ other. begins_among bytes (spell other)) more) e) f)
          | inr fails ↦ fails
        ]
