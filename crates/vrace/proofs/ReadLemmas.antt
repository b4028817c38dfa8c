-- What one read after another takes.
use Rattle.std.proofs.Common.{ℕ, List, ◌++◌, Option, None, Some, sym, ap, ◌∙◌, append_assoc}
use Rattle.std.specs.Io.KnownBytes.{Consumes, Keeps}

pub consumes_more : (a b c : Option (List ℕ)) (xs ys : List ℕ) → Consumes a b xs → Consumes b c ys → Consumes a c (xs ++ ys)
consumes_more None b c xs ys p q = tt
consumes_more (Some whole) None c xs ys p q = absurd p
consumes_more (Some whole) (Some bs) None xs ys p q = absurd q
consumes_more (Some whole) (Some bs) (Some cs) xs ys p q = p ∙ ap (λ zs. xs ++ zs) q ∙ sym (append_assoc xs ys cs)

pub consumes_kept : (a b c : Option (List ℕ)) (xs : List ℕ) → Consumes a b xs → Keeps b c → Consumes a c xs
consumes_kept None b c xs p q = tt
consumes_kept (Some whole) None c xs p q = absurd p
consumes_kept (Some whole) (Some bs) None xs p q = absurd q
consumes_kept (Some whole) (Some bs) (Some cs) xs p q = p ∙ ap (λ zs. xs ++ zs) (sym q)
