-- *internal*: What an index by codes keeps.
use Rattle.std.specs.Prelude.{◌≡◌, ℕ, ◌&&◌, nat_lt, List, map, length, slice_get, Option, Some, Vec, vec_len, vec_capacity}
use Rattle.indexmap.specs.IndexMap.{IndexMap, spare}
use Rattle.shardbook.specs.Inner.Chained.{Chained, IsLast}
use Rattle.shardbook.specs.declared.chains.Link.{Link}

abbrev pub codes_of : List Link → List ℕ
codes_of links = map (λ (l : Link). l.code) links

-- what is seen of an index: its members' codes; there is room for one more where both parts have it
abbrev pub chains_of : {A H : Type 0} → Vec Link A → IndexMap ℕ ℕ H → Chained
chains_of links last = record {
  codes = codes_of links.items;
  room = nat_lt (vec_len links) (vec_capacity links) && nat_lt 0 (spare last);
}

-- Each link leads to the last member before it of its code, and of each code the last member is known.
pub record IsLinked (links : List Link) (last : ℕ → Option ℕ) : Type 0 where
  pub back : (i : ℕ) (l : Link) → slice_get links i ≡ Some l → IsLast (codes_of links) i l.code l.before
  pub front : (code : ℕ) → IsLast (codes_of links) (length links) code (last code)
