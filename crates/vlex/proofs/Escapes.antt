-- Escapes of a string, a byte further on.
use Rattle.std.proofs.Common.{◌≡◌, ◌≢◌, ℕ, ◌+◌, ◌<◌, List, [], ◌∷◌, length, drop, get_or, refl, ◌∙◌, ap}
use Rattle.std.proofs.lemmas.Bool.{ne_eqb}
use Rattle.vsrc.proofs.Stretches.{drop_here}
use Rattle.vlex.specs.Forms.{has_good_escapes}

good_plain : (c : ℕ) (cs : List ℕ) → c ≢ 92 → has_good_escapes (c ∷ cs) ≡ has_good_escapes cs
good_plain c [] far = rw (ne_eqb c 92 far) refl
good_plain c (d ∷ cs) far = rw (ne_eqb c 92 far) refl

pub good_escapes_plain : (bytes : List ℕ) (at : ℕ) → at < length bytes → get_or bytes at 0 ≢ 92 → has_good_escapes (drop at bytes) ≡ has_good_escapes (drop (at + 1) bytes)
good_escapes_plain bytes at within far = ap has_good_escapes (drop_here bytes at within) ∙ good_plain (get_or bytes at 0) (drop (at + 1) bytes) far
