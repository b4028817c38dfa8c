-- *internal*: What holds texts.
use Rattle.std.proofs.Common.{◌≡◌, ℕ, List, [], ◌++◌, ap, sym, ◌∙◌}
use Rattle.std.specs.Prelude.{⊤}
use Rattle.std.proofs.lemmas.List.{append-nil, append_assoc}
use Rattle.byte_sinks.specs.ByteSinks.{IsByteSink}

-- it holds the text behind what it held
abbrev pub Appended : List ℕ → List ℕ → List ℕ → Type 0
Appended old text new = new ≡ old ++ text

-- once it is full nothing is said of what it holds
pub held_laws : {F : Type 0} → IsByteSink Appended (λ old text (fault : F) new. ⊤)
held_laws = record {
  none = λ s. sym (append-nil s);
  joins = λ s t u xs ys p q. q ∙ ap (λ (held : List ℕ). held ++ ys) p ∙ append_assoc s xs ys;
  fails_later = λ s t u xs ys fault p any. any;
  fails_before = λ s u xs ys fault any. any;
}
