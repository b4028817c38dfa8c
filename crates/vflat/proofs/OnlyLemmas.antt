-- A flat state stands for one state only.
use Rattle.std.proofs.Common.{◌≡◌, ℕ, suc, true, List, [], ◌∷◌, map, length, drop, Option, None, Some, refl, sym, ap, subst, ◌∙◌, arith}
use Rattle.std.specs.Prelude.{slice_get, unwrap_or}
use Rattle.vbits.specs.Vectors.{Vector}
use Rattle.vcode.specs.declared.point.Point.TheVariants as point
use Rattle.vcode.specs.Code.{Code, link_at, turns_at, settle, behind}
use Rattle.vdesign.specs.Design.{Design}
use Rattle.vmodel.specs.declared.frame.Frame.{Frame}
use Rattle.vmodel.specs.declared.frame.Frame.TheVariants.{Executing, Repeating, Writing}
use Rattle.vmodel.specs.State.{Process, State, without_processes}
use Rattle.vmodel.specs.Step.{place_of}
use Rattle.vcompile.specs.Listening.{resumes_at}
use Rattle.vcompile.specs.CodeOf.{code_of}
use Rattle.vcompile.specs.Laws.{point_of, first_of as first_point_of, IsCounted, AreLed, IsLinked}
use Rattle.vflat.specs.Flat.{Flat, waits_in, left_in, stand_of, StandsAlong, Matches}
use Rattle.vflat.proofs.WakeLemmas.{IsParked, goes_on}
use Rattle.vflat.proofs.AlongLemmas.{led_of, parked_of}

-- ---- what is left, by the point

same_frame : (code : Code) (turns : List ℕ) (x y : Frame) → point_of x ≡ point_of y → IsCounted code turns x → IsCounted code turns y → x ≡ y
same_frame code turns (Executing a) (Executing b) e cx cy = let same : a ≡ b = cc in ap Executing same
same_frame code turns (Executing a) (Repeating b m) e cx cy = absurd cc
same_frame code turns (Executing a) (Writing b) e cx cy = absurd cc
same_frame code turns (Repeating a n) (Executing b) e cx cy = absurd cc
same_frame code turns (Repeating a n) (Repeating b m) e cx cy =
    let same : a ≡ b = cc in
    let left : n ≡ m = sym cx.1 ∙ ap (turns_at code turns) same ∙ cy.1 in
    λ i. Repeating (same i) (left i)
same_frame code turns (Repeating a n) (Writing b) e cx cy = absurd cc
same_frame code turns (Writing a) (Executing b) e cx cy = absurd cc
same_frame code turns (Writing a) (Repeating b m) e cx cy = absurd cc
same_frame code turns (Writing a) (Writing b) e cx cy = let same : a ≡ b = cc in ap Writing same

not_ended : (x : Frame) → point.Ended ≡ point_of x → ⊥
not_ended (Executing a) e = absurd cc
not_ended (Repeating a n) e = absurd cc
not_ended (Writing a) e = absurd cc

same_left : (code : Code) (p : ℕ) (turns : List ℕ) (xs ys : List Frame) → AreLed code p turns xs → AreLed code p turns ys → first_point_of xs ≡ first_point_of ys → xs ≡ ys
same_left code p turns [] [] lx ly e = refl
same_left code p turns [] (y ∷ ys) lx ly e = absurd (not_ended y e)
same_left code p turns (x ∷ xs) [] lx ly e = absurd (not_ended x (sym e))
same_left code p turns (x ∷ xs) (y ∷ ys) lx ly e =
    let here : x ≡ y = same_frame code turns x y e lx.0.counted ly.0.counted in
    let next : first_point_of xs ≡ first_point_of ys = sym lx.0.next ∙ ap (λ z. behind code turns (place_of z)) here ∙ ly.0.next in
    λ i. here i ∷ same_left code p turns xs ys lx.1 ly.1 next i

same_waits : (v w : Option ℕ) (xs ys : List Frame) → stand_of v xs ≡ stand_of w ys → v ≡ w
same_waits None None xs ys e = refl
same_waits None (Some b) xs ys e = absurd (goes_on xs b e)
same_waits (Some a) None xs ys e = absurd (goes_on ys a (sym e))
same_waits (Some a) (Some b) xs ys e = cc

module _ (design : Design) (whole : (code_of design).whole ≡ true) (linked : IsLinked) (turns : List ℕ) where
  same_behind : (i : ℕ) (w : Option ℕ) (xs ys : List Frame) → StandsAlong design turns i w xs → StandsAlong design turns i w ys →
      stand_of w xs ≡ stand_of w ys → xs ≡ ys
  same_behind i None xs ys ax ay e = same_left (code_of design) i turns xs ys ax ay e
  same_behind i (Some place) xs ys ax ay e =
      let px : IsParked design turns i place xs = parked_of design whole linked turns i place xs ax in
      let py : IsParked design turns i place ys = parked_of design whole linked turns i place ys ay in
      let there : Some px.action ≡ Some py.action = sym px.there ∙ py.there in
      let action : px.action ≡ py.action = cc in
      same_left (code_of design) i turns xs ys (led_of design whole linked turns i place xs ax) (led_of design whole linked turns i place ys ay)
      (sym px.resumes ∙ ap (λ a. settle (code_of design) turns (resumes_at place (link_at (code_of design).links place).next a)) action ∙ py.resumes)

same_processes : (ps qs : List Process) → length ps ≡ length qs → map (λ (process : Process). process.held) ps ≡ map (λ (process : Process). process.held) qs →
    ((i : ℕ) → waits_in ps i ≡ waits_in qs i) → ((i : ℕ) → left_in ps i ≡ left_in qs i) → ps ≡ qs
same_processes [] [] many held waits left = refl
same_processes [] (q ∷ qs) many held waits left = absurd (omega (arith, many))
same_processes (p ∷ ps) [] many held waits left = absurd (omega (arith, many))
same_processes (p ∷ ps) (q ∷ qs) many held waits left =
    let holds : p.held ≡ q.held = ap (λ (xs : List (Option Vector)). unwrap_or (slice_get xs 0) None) held in
    λ i. record { continuation = left 0 i; held = holds i; waits = waits 0 i }
    ∷ same_processes ps qs (omega (arith, many)) (ap (drop 1) held) (λ n. waits (suc n)) (λ n. left (suc n)) i

pub only_state : (design : Design) (f : Flat) (t u : State) → (code_of design).whole ≡ true → IsLinked → Matches design f t → Matches design f u → t ≡ u
only_state design f t u whole linked ht hu =
    let waits : (i : ℕ) → waits_in t.processes i ≡ waits_in u.processes i =
    λ i. same_waits (waits_in t.processes i) (waits_in u.processes i) (left_in t.processes i) (left_in u.processes i) (sym (ht.stands.at i) ∙ hu.stands.at i) in
    let left : (i : ℕ) → left_in t.processes i ≡ left_in u.processes i =
    λ i. same_behind design whole linked f.turns i (waits_in t.processes i) (left_in t.processes i) (left_in u.processes i) (ht.stands.along i)
    (subst (λ w. StandsAlong design f.turns i w (left_in u.processes i)) (sym (waits i)) (hu.stands.along i))
    (sym (ht.stands.at i) ∙ hu.stands.at i ∙ ap (λ w. stand_of w (left_in u.processes i)) (sym (waits i))) in
    let processes : t.processes ≡ u.processes =
    same_processes t.processes u.processes (sym ht.stands.many ∙ hu.stands.many) (sym ht.held ∙ hu.held) waits left in
    let rest : without_processes t ≡ without_processes u = sym ht.rest ∙ hu.rest in
    λ i. record (rest i) { processes = processes i }
