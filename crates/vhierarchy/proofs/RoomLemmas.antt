-- The room that names leave.
use Rattle.std.proofs.Common.{◌≡◌, ◌≤◌, ℕ, ◌+◌, ◌-◌, List, Some, length, drop, sym, ap, arith}
use Rattle.std.specs.Prelude.{slice_get}
use Rattle.std.proofs.lemmas.List.{drop_all}
use Rattle.std.proofs.lemmas.Option.{slice_get_within, get_or_from_slice_get}
use Rattle.basis.proofs.Lists.{left_from}
use Rattle.vwords.specs.Words.{Text}
use Rattle.module_size.specs.Sizes.{size_of}
use Rattle.vhierarchy.specs.Instances.{dotted_size}

-- what is left behind one name, the others take from
pub name_taken : (path : Text) (names : List Text) (place : ℕ) (name : Text) → slice_get names place ≡ Some name → (left next whole : ℕ) → next ≡ left - dotted_size path name →
    left - size_of (dotted_size path) (drop place names) ≡ whole → next - size_of (dotted_size path) (drop (place + 1) names) ≡ whole
name_taken path names place name got left next whole put same =
    let within = slice_get_within names place name got in
    let is = get_or_from_slice_get names place name name got in
    let opened : size_of (dotted_size path) (drop place names) ≡ dotted_size path name + size_of (dotted_size path) (drop (place + 1) names) =
    ap (size_of (dotted_size path)) (sym (left_from names place name (sym is) within)) in
    omega (arith, put, same, opened)

pub names_over : (path : Text) (names : List Text) (place : ℕ) → length names ≤ place → (left whole : ℕ) →
    left - size_of (dotted_size path) (drop place names) ≡ whole → left ≡ whole
names_over path names place end left whole same =
    let none : size_of (dotted_size path) (drop place names) ≡ 0 = ap (size_of (dotted_size path)) (drop_all place names end) in
    omega (arith, same, none)
