-- *internal*: What is said of the names of a design (IEEE 1364-2005, 3.7, 12.5; docs/FORMATS.md, "Reports").
use Rattle.std.specs.Prelude.{◌≡◌, ◌≢◌, ℕ, ◌<◌, true, slice_get, Some}
use Rattle.vwords.specs.Names.{has_letters_of_name, is_path}
use Rattle.vdesign.specs.Design.{Variable, Design}

-- what a report says of names: the top's is a name, each variable's is such names joined by dots, and no two are the same
pub record AreNamed (design : Design) : Type 0 where
  pub top : has_letters_of_name design.top ≡ true
  pub paths : (i : ℕ) (v : Variable) → slice_get design.variables i ≡ Some v → is_path v.name ≡ true
  pub distinct : (i j : ℕ) (v w : Variable) → i < j → slice_get design.variables i ≡ Some v → slice_get design.variables j ≡ Some w → v.name ≢ w.name
