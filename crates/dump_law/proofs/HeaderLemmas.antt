-- How long a header may be.
use Rattle.std.proofs.Common.{◌≡◌, ◌≤◌, ℕ, zero, suc, ◌+◌, ◌*◌, ◌-◌, Bool, true, false, if◌then◌else◌, List, [], ◌∷◌, ◌++◌, Option, None, Some, All, length, take, drop, refl, arith, length-append, length-drop}
use Rattle.std.specs.Prelude.{codes, decimal, ◌==◌, not}
use Rattle.std.specs.List.{after_last, suffix_len}
use Rattle.std.proofs.lemmas.List.{length-take}
use Rattle.std.proofs.lemmas.List.Elements.{All-nil, All-cons, All-head, All-tail}
use Rattle.std.proofs.lemmas.Fmt.{length-decimal-le}
use Rattle.basis.specs.declared.timescale.Count.{Count}
use Rattle.basis.specs.declared.timescale.Count.TheVariants.{One, Ten, Hundred}
use Rattle.basis.specs.declared.timescale.Unit.{Unit as TimeUnit}
use Rattle.basis.specs.declared.timescale.Unit.TheVariants.{Second, Millisecond, Microsecond, Nanosecond, Picosecond, Femtosecond}
use Rattle.basis.specs.declared.timescale.Span.{Span}
use Rattle.basis.specs.Timescales.{count_number, unit_word}
use Rattle.module_size.specs.Sizes.{size_of}
use Rattle.vdesign.specs.Design.{Variable, Scope, Design}
use Rattle.vdesign.specs.declared.design.Kind.{Kind}
use Rattle.vdesign.specs.declared.design.Kind.TheVariants.{Reg, Integer, Wire, Time}
use Rattle.vdesign.specs.declared.expression.Bounds.{Bounds}
use Rattle.vcd_text.specs.DumpText.{line, code, identifier, is_simple, kind_word, bounds_text, variable_line, variable_lines, scope_line, closings, is_written, scope_text, scope_lines, timescale_line, header}
use Rattle.dump_law.specs.Small.{AreSmallBounds, IsSmallVariable, IsShallow, IsSmall}
use Rattle.dump_law.proofs.LineLemmas.{one_of, code_long, line_long}

-- ---- variables

small_number : (n : ℕ) → n ≤ 65535 → length (decimal n) ≤ 5
small_number n few = length-decimal-le 5 n (omega arith) (omega (arith, few)) (omega (arith, few))

kind_long : (kind : Kind) → length (kind_word kind) ≤ 7
kind_long Reg = omega arith
kind_long Integer = omega arith
kind_long Time = omega arith
kind_long Wire = omega arith

bounds_long : (bounds : Option Bounds) → AreSmallBounds bounds → length (bounds_text bounds) ≤ 14
bounds_long None small = omega arith
bounds_long (Some bounds) small =
    let left = small_number bounds.left small.0 in
    let right = small_number bounds.right small.1 in
    let one = length-append (codes " [") (decimal bounds.left) in
    let two = length-append (codes " [" ++ decimal bounds.left) (codes ":") in
    let three = length-append (codes " [" ++ decimal bounds.left ++ codes ":") (decimal bounds.right) in
    let four = length-append (codes " [" ++ decimal bounds.left ++ codes ":" ++ decimal bounds.right) (codes "]") in
    omega (arith, left, right, one, two, three, four)

last_long : (test : ℕ → Bool) (text : List ℕ) → length (after_last test text) ≤ length text
last_long test text = let left = length-drop (length text - suffix_len (λ c. not (test c)) text) text in omega (arith, left)

identifier_long : (name : List ℕ) → length (identifier name) ≤ 1 + length name
identifier_long name = by (is_simple name)
  where
    by : (b : Bool) → length (if b then name else 92 ∷ name) ≤ 1 + length name
    by true = omega arith
    by false = omega arith

variable_long : (n : ℕ) (v : Variable) → n ≤ 1023 → IsSmallVariable v → length (variable_line n v) ≤ 1100 + length v.name
variable_long n v few small =
    let name : List ℕ = identifier (after_last (λ c. c == 46) v.name) in
    let escaped = identifier_long (after_last (λ c. c == 46) v.name) in
    let kind = kind_long v.kind in
    let digits = small_number v.length (omega (arith, small.0)) in
    let short = code_long n in
    let own = last_long (λ c. c == 46) v.name in
    let range = bounds_long v.bounds small.1 in
    let one = length-append (codes "$var ") (kind_word v.kind) in
    let two = length-append (codes "$var " ++ kind_word v.kind) (codes " ") in
    let three = length-append (codes "$var " ++ kind_word v.kind ++ codes " ") (decimal v.length) in
    let four = length-append (codes "$var " ++ kind_word v.kind ++ codes " " ++ decimal v.length) (codes " ") in
    let five = length-append (codes "$var " ++ kind_word v.kind ++ codes " " ++ decimal v.length ++ codes " ") (code n) in
    let six = length-append (codes "$var " ++ kind_word v.kind ++ codes " " ++ decimal v.length ++ codes " " ++ code n) (codes " ") in
    let seven = length-append (codes "$var " ++ kind_word v.kind ++ codes " " ++ decimal v.length ++ codes " " ++ code n ++ codes " ") name in
    let eight = length-append (codes "$var " ++ kind_word v.kind ++ codes " " ++ decimal v.length ++ codes " " ++ code n ++ codes " " ++ name) (bounds_text v.bounds) in
    let text = codes "$var " ++ kind_word v.kind ++ codes " " ++ decimal v.length ++ codes " " ++ code n ++ codes " " ++ name ++ bounds_text v.bounds in
    let nine = length-append text (codes " $end") in
    let whole = line_long (text ++ codes " $end") in
    omega (arith, kind, digits, short, own, escaped, range, one, two, three, four, five, six, seven, eight, nine, whole, few)

-- what variables take, and what scopes take
abbrev room_of : List Variable → ℕ
room_of vs = 1100 * length vs + size_of (λ v. length v.name) vs

abbrev rooms_of : List Scope → ℕ
rooms_of scopes = 300 * length scopes + size_of (λ s. length s.path) scopes

variables_long : (n : ℕ) (vs : List Variable) → length vs ≤ 1024 - n → All IsSmallVariable vs → length (variable_lines n vs) ≤ room_of vs
variables_long n [] few all = omega arith
variables_long n (v ∷ vs) few all =
    let here = variable_long n v (omega (arith, few)) (All-head IsSmallVariable v vs all) in
    let rest = variables_long (suc n) vs (omega (arith, few)) (All-tail IsSmallVariable v vs all) in
    let both = length-append (variable_line n v) (variable_lines (suc n) vs) in
    omega (arith, here, rest, both)

-- a scope's own variables, and the others
split_room : (count : ℕ) (vs : List Variable) → room_of (take count vs) + room_of (drop count vs) ≡ room_of vs
split_room zero vs = omega arith
split_room (suc count) [] = omega arith
split_room (suc count) (v ∷ vs) = let rest = split_room count vs in omega (arith, rest)

taken_small : (count : ℕ) (vs : List Variable) → All IsSmallVariable vs → All IsSmallVariable (take count vs) × All IsSmallVariable (drop count vs)
taken_small zero vs all = (All-nil IsSmallVariable, all)
taken_small (suc count) [] all = (All-nil IsSmallVariable, All-nil IsSmallVariable)
taken_small (suc count) (v ∷ vs) all =
    let rest = taken_small count vs (All-tail IsSmallVariable v vs all) in
    (All-cons IsSmallVariable v (take count vs) (All-head IsSmallVariable v vs all) rest.0, rest.1)

-- ---- scopes

closings_long : (n : ℕ) → length (closings n) ≡ 14 * n
closings_long zero = omega arith
closings_long (suc n) =
    let rest = closings_long n in
    let both = length-append (line (codes "$upscope $end")) (closings n) in
    let one : length (line (codes "$upscope $end")) ≡ 14 = refl in
    omega (arith, rest, both, one)

scope_long : (s : Scope) → IsShallow s → length (scope_line s.name) ≤ 30 + length s.path
scope_long s shallow =
    let one = length-append (codes "$scope module ") s.name in
    let two = length-append (codes "$scope module " ++ s.name) (codes " $end") in
    let whole = line_long (codes "$scope module " ++ s.name ++ codes " $end") in
    omega (arith, one, two, whole, shallow.1)

module _ (n : ℕ) (s : Scope) (vs : List Variable) (shallow : IsShallow s) (few : length vs ≤ 1024 - n) (all : All IsSmallVariable vs) where
  own_long : (mark : Bool) → length (if mark then variable_lines n vs else []) ≤ room_of vs
  own_long mark = one_of length mark (variable_lines n vs) [] (room_of vs) (variables_long n vs few all) (omega arith)

  scope_text_long : (around : ℕ) (mark : Bool) → around ≤ 16 → length (scope_text around n mark s vs) ≤ 300 + (length s.path + room_of vs)
  scope_text_long around mark low =
      let closed = closings_long (around - s.depth) in
      let head = scope_long s shallow in
      let own = own_long mark in
      let one = length-append (closings (around - s.depth)) (scope_line s.name) in
      let two = length-append (closings (around - s.depth) ++ scope_line s.name) (if mark then variable_lines n vs else []) in
      omega (arith, closed, head, own, one, two, low)

  written_long : (around : ℕ) (mark written : Bool) → around ≤ 16 → length (if written then scope_text around n mark s vs else []) ≤ 300 + (length s.path + room_of vs)
  written_long around mark written low =
      one_of length written (scope_text around n mark s vs) [] (300 + (length s.path + room_of vs)) (scope_text_long around mark low) (omega arith)

scopes_long : (around n : ℕ) (marks : List Bool) (scopes : List Scope) (vs : List Variable) → around ≤ 16 → length vs ≤ 1024 - n → All IsShallow scopes → All IsSmallVariable vs →
    length (scope_lines around n marks scopes vs) ≤ 300 + (rooms_of scopes + room_of vs)
scopes_long around n marks [] vs low few shallow small = let closed = closings_long around in omega (arith, closed, low)
scopes_long around n [] (s ∷ scopes) vs low few shallow small = let closed = closings_long around in omega (arith, closed, low)
scopes_long around n (mark ∷ marks) (s ∷ scopes) vs low few shallow small =
    let here = All-head IsShallow s scopes shallow in
    let both = taken_small s.variables vs small in
    let split = split_room s.variables vs in
    let first = length-take s.variables vs in
    let left = length-drop s.variables vs in
    let written : Bool = is_written mark s marks scopes in
    let next : ℕ = if written then suc s.depth else around in
    let low_next : next ≤ 16 = one_of (λ (k : ℕ). k) written (suc s.depth) around 16 (omega (arith, here.0)) low in
    let own = written_long n s (take s.variables vs) here (omega (arith, first, few)) both.0 around mark written low in
    let rest = scopes_long next (n + s.variables) marks scopes (drop s.variables vs) low_next (omega (arith, left, few)) (All-tail IsShallow s scopes shallow) both.1 in
    let joined = length-append (if written then scope_text around n mark s (take s.variables vs) else []) (scope_lines next (n + s.variables) marks scopes (drop s.variables vs)) in
    omega (arith, split, own, rest, joined)

-- ---- the whole

count_long : (count : Count) → length (decimal (count_number count)) ≤ 5
count_long One = small_number 1 (omega arith)
count_long Ten = small_number 10 (omega arith)
count_long Hundred = small_number 100 (omega arith)

unit_long : (unit : TimeUnit) → length (unit_word unit) ≤ 2
unit_long Second = omega arith
unit_long Millisecond = omega arith
unit_long Microsecond = omega arith
unit_long Nanosecond = omega arith
unit_long Picosecond = omega arith
unit_long Femtosecond = omega arith

timescale_long : (span : Span) → length (timescale_line span) ≤ 30
timescale_long span =
    let count = count_long span.count in
    let unit = unit_long span.unit in
    let one = length-append (codes "$timescale ") (decimal (count_number span.count)) in
    let two = length-append (codes "$timescale " ++ decimal (count_number span.count)) (codes " ") in
    let three = length-append (codes "$timescale " ++ decimal (count_number span.count) ++ codes " ") (unit_word span.unit) in
    let four = length-append (codes "$timescale " ++ decimal (count_number span.count) ++ codes " " ++ unit_word span.unit) (codes " $end") in
    let whole = line_long (codes "$timescale " ++ decimal (count_number span.count) ++ codes " " ++ unit_word span.unit ++ codes " $end") in
    omega (arith, count, unit, one, two, three, four, whole)

pub header_long : (design : Design) (marks : List Bool) → IsSmall design → length (header design marks) ≤ 4000000
header_long design marks small =
    let scopes = scope_lines 0 0 marks design.scopes design.variables in
    let first : length (line (codes "$version vrace $end")) ≡ 20 = refl in
    let last : length (line (codes "$enddefinitions $end")) ≡ 21 = refl in
    let time = timescale_long design.scale.precision in
    let body = scopes_long 0 0 marks design.scopes design.variables (omega arith) (omega (arith, small.variables)) small.shallow small.narrow in
    let one = length-append (line (codes "$version vrace $end")) (timescale_line design.scale.precision) in
    let two = length-append (line (codes "$version vrace $end") ++ timescale_line design.scale.precision) scopes in
    let three = length-append (line (codes "$version vrace $end") ++ timescale_line design.scale.precision ++ scopes) (line (codes "$enddefinitions $end")) in
    omega (arith, first, last, time, body, one, two, three, small.variables, small.scopes, small.letters)
