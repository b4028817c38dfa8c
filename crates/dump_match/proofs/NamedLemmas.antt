-- Pairs, and the columns that they name.
use Rattle.std.proofs.Common.{◌≡◌, ℕ, Bool, List, [], ◌∷◌, ◌++◌, Some, inl, inr, subst, sym}
use Rattle.std.specs.Prelude.{slice_get}
use Rattle.basis.proofs.Lists.{stands_in_front, last_or_before, stands_last}
use Rattle.vdesign.specs.Design.{Variable}
use Rattle.vcd_read.specs.declared.header.VcdVariable.{VcdVariable}
use Rattle.vcd_slots.specs.declared.column.Column.{Column}
use Rattle.vcd_slots.specs.declared.columns.Columns.{Columns}
use Rattle.vcd_slots.specs.Following.{Follows}
use Rattle.dump_match.specs.declared.comparison.Pair.{Pair}
use Rattle.dump_match.specs.Named.{AreNamedSo, IsDeclared, IsLike, IsNamedSo}

-- a column more changes nothing of a pair
still_named : (wrapped : Bool) (variables : List Variable) (declared : List VcdVariable) (watched : List Column) (column : Column) (pair : Pair) →
    IsNamedSo wrapped variables declared watched pair → IsNamedSo wrapped variables declared (watched ++ column ∷ []) pair
still_named wrapped variables declared watched column pair named = record {
  told = named.told;
  like = named.like;
  in_dump = named.in_dump;
  column = named.column;
  in_columns = stands_in_front watched (column ∷ []) pair.column named.column named.in_columns;
  code = named.code;
  bits = named.bits;
}

-- and the pair of that column is named so, too
pub named_more : (wrapped : Bool) (variables : List Variable) (declared : List VcdVariable) (old new : Columns) (told : VcdVariable) (variable place : ℕ) (pairs : List Pair) →
    IsLike wrapped variables told variable → IsDeclared declared told → Follows old new told place →
    AreNamedSo wrapped variables declared old.watched.items pairs →
    AreNamedSo wrapped variables declared new.watched.items (pairs ++ (record { column = place; variable = variable }) ∷ [])
named_more wrapped variables declared old new told variable place pairs like in_dump follows are i pair at =
    subst (λ (watched : List Column). IsNamedSo wrapped variables declared watched pair) (sym follows.added)
    (elim (last_or_before pairs (record { column = place; variable = variable }) i pair at) [
      | inl before ↦ still_named wrapped variables declared old.watched.items follows.column pair (are i pair before)
      | inr last ↦ subst (IsNamedSo wrapped variables declared (old.watched.items ++ follows.column ∷ [])) last.1 newest
    ])
  where
    newest : IsNamedSo wrapped variables declared (old.watched.items ++ follows.column ∷ []) (record { column = place; variable = variable })
    newest = record {
      told = told;
      like = like;
      in_dump = in_dump;
      column = follows.column;
      in_columns = subst (λ (k : ℕ). slice_get (old.watched.items ++ follows.column ∷ []) k ≡ Some follows.column) (sym follows.last)
          (stands_last old.watched.items follows.column);
      code = follows.code;
      bits = follows.width;
    }

-- the same of what is the same
pub named_at : (w w' : Bool) (vs vs' : List Variable) (ds ds' : List VcdVariable) (ws ws' : List Column) (pairs : List Pair) → w ≡ w' → vs ≡ vs' → ds ≡ ds' →
    ws ≡ ws' → AreNamedSo w vs ds ws pairs → AreNamedSo w' vs' ds' ws' pairs
named_at w w' vs vs' ds ds' ws ws' pairs o a b c are =
    subst (λ (wrapped : Bool). AreNamedSo wrapped vs' ds' ws' pairs) o
    (subst (λ (v : List Variable). AreNamedSo w v ds' ws' pairs) a
    (subst (λ (d : List VcdVariable). AreNamedSo w vs d ws' pairs) b
    (subst (λ (x : List Column). AreNamedSo w vs ds x pairs) c are)))
