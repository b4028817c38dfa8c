-- Why each step of a deque keeps its rule.
use Rattle.std.proofs.Common.{◌≡◌, ℕ, ◌+◌, ◌<◌, ◌≤◌, List, [], ◌∷◌, ◌++◌, set, arith, ap, refl, sym, ◌∙◌, inl, inr}
use mathlib.Core.Option.{some}
use lib.ListN.{get_elem?}
use Rattle.atomic_table.proofs.Lists.{at_set, at_snoc}
use Rattle.crossbeam_deque.specs.Tasks.{Pushes, Takes, Pops, Learns, Forks, Merges}
use Rattle.workpool.specs.declared.hand.Hand.{Hand}
use Rattle.workpool.specs.Inner.Sums.{total, times}
use Rattle.workpool.specs.Inner.Fair.{IsFair, Leaves, hand, one_less, together}
use Rattle.workpool.proofs.SumLemmas.{total_set, total_snoc, alone, part_of, times-append}

abbrev putting : ℕ → Hand → ℕ
putting x v = times x v.put

abbrev taking : ℕ → Hand → ℕ
taking x v = times x v.taken

idle_set : (views : List Hand) (port : ℕ) (w : Hand) → (w.parts ≡ 0 → (w.put ≡ []) × (w.taken ≡ [])) → ((i : ℕ) (v : Hand) → get_elem? views i ≡ some v → v.parts ≡ 0 → (v.put ≡ []) × (v.taken ≡ []))
    → (i : ℕ) (v : Hand) → get_elem? (set views port w) i ≡ some v → v.parts ≡ 0 → (v.put ≡ []) × (v.taken ≡ [])
idle_set views port w new old i v at none = elim (at_set views port i w v at) [
  | inl here ↦ (let n = new (ap (λ (x : Hand). x.parts) here.1 ∙ none) in (ap (λ (x : Hand). x.put) (sym here.1) ∙ n.0, ap (λ (x : Hand). x.taken) (sym here.1) ∙ n.1))
  | inr there ↦ old i v there.1 none
]

-- one view changes, and the tasks
changes : (before after : List ℕ) (views : List Hand) (port : ℕ) (v w : Hand) → get_elem? views port ≡ some v → 0 < v.parts → w.parts ≡ v.parts
    → ((x : ℕ) → putting x w + taking x v + times x before ≡ putting x v + taking x w + times x after) → IsFair before views → IsFair after (set views port w)
changes before after views port v w at some_part parts fair t = record {
  parts = (let s = total_set (λ (x : Hand). x.parts) views port v w at in omega (arith, s, parts, t.parts));
  fair = λ x.
      (let p = total_set (putting x) views port v w at in
      let q = total_set (taking x) views port v w at in
      let f = fair x in
      let o = t.fair x in
      omega (arith, p, q, f, o));
  idle = idle_set views port w (λ none. absurd (omega (arith, none, parts, some_part))) t.idle;
}

module _ (port : ℕ) (v : Hand) (some_part : 0 < v.parts) where
  pub puts : (job : ℕ) → Pushes IsFair port v (job ∷ []) (λ w. w ≡ hand v.parts (v.put ++ job ∷ []) v.taken)
  puts job items views t at =
      let w : Hand = hand v.parts (v.put ++ job ∷ []) v.taken in (
        w,
        changes items (items ++ job ∷ []) views port v w at some_part refl
            (λ x. omega (arith, times-append x v.put (job ∷ []), times-append x items (job ∷ []))) t,
        refl,
      )

  pub pops : Pops IsFair port v (λ xs w. w ≡ hand v.parts v.put (v.taken ++ xs))
  pops job items views t at =
      let w : Hand = hand v.parts v.put (v.taken ++ job ∷ []) in (
        w,
        changes (items ++ job ∷ []) items views port v w at some_part refl
            (λ x. omega (arith, times-append x v.taken (job ∷ []), times-append x items (job ∷ []))) t,
        refl,
      )

  pub takes : (most : ℕ) → Takes IsFair port v most (λ xs w. w ≡ hand v.parts v.put (v.taken ++ xs))
  takes most xs items views any few t at =
      let w : Hand = hand v.parts v.put (v.taken ++ xs) in (
        w,
        changes (xs ++ items) items views port v w at some_part refl
            (λ x. omega (arith, times-append x v.taken xs, times-append x xs items)) t,
        refl,
      )

pub cuts : (port : ℕ) (v : Hand) → v.parts ≡ 2 → Forks IsFair port v (one_less v) (hand 1 [] [])
cuts port v two items views t at =
    let sum : (f : Hand → ℕ) → f (one_less v) + f (hand 1 [] []) ≡ f v → total f (set views port (one_less v) ++ hand 1 [] [] ∷ []) ≡ total f views = λ f e.
    (let s = total_set f views port v (one_less v) at in let n = total_snoc f (set views port (one_less v)) (hand 1 [] []) in omega (arith, s, n, e)) in
    record {
      parts = sum (λ (x : Hand). x.parts) (omega (arith, two)) ∙ t.parts;
      fair = λ x. (let p = sum (putting x) (omega arith) in let q = sum (taking x) (omega arith) in let o = t.fair x in omega (arith, p, q, o));
      idle = λ i u there none. elim (at_snoc (set views port (one_less v)) (hand 1 [] []) u i there) [
        | inl old ↦ idle_set views port (one_less v) (λ empty. absurd (omega (arith, empty, two))) t.idle i u old none
        | inr new ↦ (let one : 1 ≡ u.parts = ap (λ (x : Hand). x.parts) new in absurd (omega (arith, one, none)))
      ];
    }

pub joins : (port : ℕ) (v : Hand) (other : ℕ) (w : Hand) → 0 < v.parts → Merges IsFair port v other w (together v w) (hand 0 [] [])
joins port v other w some_part items views t at apart there =
    let sum : (f : Hand → ℕ) → f (together v w) ≡ f v + f w → f (hand 0 [] []) ≡ 0 → total f (set (set views port (together v w)) other (hand 0 [] [])) ≡ total f views = λ f e z.
    (let s = total_set f views port v (together v w) at in let n = total_set f (set views port (together v w)) other w (hand 0 [] []) there in omega (arith, s, n, e, z)) in
    record {
      parts = sum (λ (x : Hand). x.parts) refl refl ∙ t.parts;
      fair = λ x. (let p = sum (putting x) (times-append x v.put w.put) refl in let q = sum (taking x) (times-append x v.taken w.taken) refl in let o = t.fair x in omega (arith, p, q, o));
      idle = idle_set (set views port (together v w)) other (hand 0 [] []) (λ none. (refl, refl))
          (idle_set views port (together v w) (λ none. absurd (omega (arith, none, some_part))) t.idle);
    }

-- who has both parts knows the whole
pub learns : (port : ℕ) (v : Hand) → 2 ≤ v.parts → Learns IsFair port v (Leaves v)
learns port v two items views t at = λ x.
    let most = part_of (λ (y : Hand). y.parts) (putting x) views port v at in
    let all : total (λ (y : Hand). y.parts) views ≡ v.parts = omega (arith, t.parts, two, most) in
    let put : total (putting x) views ≡ putting x v = alone (λ (y : Hand). y.parts) (putting x) views port v at (λ i u there none. ap (times x) (t.idle i u there none).0) all in
    let taken : total (taking x) views ≡ taking x v = alone (λ (y : Hand). y.parts) (taking x) views port v at (λ i u there none. ap (times x) (t.idle i u there none).1) all in
    let o = t.fair x in
    omega (arith, put, taken, o)

-- what both ends have put and taken
pub settles : (whole mine theirs : Hand) (put taken stolen items : List ℕ) → whole ≡ together mine theirs → theirs.put ≡ [] → mine.put ≡ put → mine.taken ≡ taken → theirs.taken ≡ stolen → Leaves whole items → (x : ℕ) → times x put ≡ times x taken + times x stolen + times x items
settles whole mine theirs put taken stolen items is none puts takes steals leaves x =
    let both = ap (times x) (ap (λ (v : Hand). v.put) is) ∙ times-append x mine.put theirs.put in
    let out = ap (times x) (ap (λ (v : Hand). v.taken) is) ∙ times-append x mine.taken theirs.taken in
    let left = leaves x in
    let p = ap (times x) puts in
    let t = ap (times x) takes in
    let s = ap (times x) steals in
    let n = ap (times x) none in
    omega (arith, both, out, left, p, t, s, n)
