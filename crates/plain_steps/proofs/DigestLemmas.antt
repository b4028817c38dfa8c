-- What is mixed of lists that are joined.
use Rattle.std.proofs.Common.{◌≡◌, ℕ, List, [], ◌∷◌, ◌++◌, refl}
use Rattle.vmodel.specs.declared.part.Part.{Part}
use Rattle.vmodel.specs.Digest.{digest_of_parts, digest_of_updates}

pub updates_joined : (digest : ℕ) (front back : List (List Part)) → digest_of_updates digest (front ++ back) ≡ digest_of_updates (digest_of_updates digest front) back
updates_joined digest [] back = refl
updates_joined digest (parts ∷ front) back = updates_joined (digest_of_parts digest parts) front back
