-- *internal*: How passes and shards count New answers by shares of one ledger.
use Rattle.std.specs.Prelude.{◌≡◌, ℕ, ◌+◌, ◌*◌, ◌^◌, ◌≤◌}
use Rattle.std.specs.declared.sync.ledger.Share.{Share}
use Rattle.std.specs.declared.sync.ledger.Total.{Total}

-- A pass has a part for each one that it may still use up and two for each New answer, and an amount of one for each of either.
-- So a New answer takes an amount of one away from it, which goes to the shard.
pub record IsPass (parts amount count left : ℕ) : Type 0 where
  pub parts_are : parts ≡ left + 2 * count
  pub amount_is : amount ≡ left + count
  pub few : left + count ≤ 2 ^ 62

-- Where the share's parts, with one for each shard, are all, its amount and the lengths of the shards' lists are the total.
abbrev pub AddsUp : {B : Type 0} → Share B → (shards lengths : ℕ) → Total B → Type 0
AddsUp share shards lengths total = share.parts + shards ≡ total.parts → share.amount + lengths ≡ total.amount
