-- *internal*: What a shard keeps.
use Rattle.std.specs.Prelude.{◌≡◌, ℕ, Bool, List, length}
use Rattle.statebook.specs.Books.{IsUndominated}
use Rattle.statebook.specs.declared.entry.Entry.{Entry}
use Rattle.shardbook.specs.Inner.Codes.{codes_of}

-- The codes are those of the entries; met in this order, each entry would be new; the shard's share counts them.
pub record IsShard {S : Type 0} (same : S → S → Bool) (input : S → List (List ℕ)) (entries : List (Entry S)) (codes : List ℕ) (parts amount : ℕ) : Type 0 where
  pub chained : codes ≡ codes_of input entries
  pub undominated : IsUndominated same entries
  pub part : parts ≡ 1
  pub counted : amount ≡ length entries
