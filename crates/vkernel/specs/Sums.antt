-- *internal*: The sum of the shares that the members of a list have by their places. A sum is kept up to date as members change, so that
-- a hash needn't read the list (AdHash: Bellare and Micciancio, 1997).
use Rattle.std.specs.Prelude.{ℕ, ◌+◌, ◌-◌, ◌*◌, ◌/◌, ◌%◌, ◌^◌, List, [], ◌∷◌}
use Rattle.vbits.specs.Vectors.{Vector}
use Rattle.vbits.specs.Planes.{values_of, unknowns_of}
use Rattle.vmodel.specs.Digest.{digest_with}

-- a word of 64 bits, its halves exchanged
abbrev pub swapped : ℕ → ℕ
swapped word = word % 2 ^ 32 * 2 ^ 32 + word / 2 ^ 32

-- one word more, its halves exchanged, so that no bit stays the highest
abbrev pub turned : ℕ → ℕ → ℕ
turned key word = swapped (digest_with key word)

-- as a round of the generator 'Squares' (Widynski, 2020): a square, a number added, the halves exchanged
abbrev pub squared : ℕ → ℕ → ℕ
squared key word = swapped ((word * word % 2 ^ 64 + key) % 2 ^ 64)

abbrev pub share_by : ℕ → ℕ → ℕ → ℕ
share_by key first second = squared key (squared key (turned (turned key first) second))

-- the share of a member that two words tell, by its place
abbrev pub share : ℕ → ℕ → ℕ → ℕ
share place first second = share_by (digest_with place 1) first second

-- the sum of all shares, from a place on
abbrev pub sum_from : {A : Type 0} → (ℕ → A → ℕ) → ℕ → List A → ℕ
sum_from share_at place [] = 0
sum_from share_at place (x ∷ xs) = (share_at place x + sum_from share_at (place + 1) xs) % 2 ^ 64

-- a sum with one share in place of another
abbrev pub with_share : ℕ → ℕ → ℕ → ℕ
with_share sum old new = ((sum + (2 ^ 64 - old)) % 2 ^ 64 + new) % 2 ^ 64

-- a vector, by its two planes
abbrev pub vector_share : ℕ → Vector → ℕ
vector_share place v = share place (values_of v.letters) (unknowns_of v.letters)

abbrev pub values_sum : List Vector → ℕ
values_sum = sum_from vector_share 0
