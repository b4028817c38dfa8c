-- What a process has left, as a stack read backwards.
use Rattle.std.proofs.Common.{◌≡◌, ◌≢◌, ◌≤◌, ◌<◌, ℕ, zero, suc, ◌+◌, ◌-◌, Bool, true, false, not, ◌&&◌, List, [], ◌∷◌, ◌++◌, length, reverse, take, drop, map, get_or, Option, Some, None, refl, sym, ap, subst, ◌∙◌, arith}
use Rattle.std.specs.Prelude.{slice_get, is_some, MatchOption}
use Rattle.std.specs.Option.{option_to_list}
use Rattle.std.specs.Cmp.Lexicographic.{pointwise}
use Rattle.std.proofs.lemmas.List.{reverse-append, append_assoc, take_more, drop_all, append-nil}
use Rattle.vmodel.specs.declared.frame.Frame.{Frame}
use Rattle.vmodel.specs.declared.frame.Frame.TheVariants.{Executing}
use Rattle.vmodel.specs.Same.{frame_same}
use Rattle.vmodel.specs.Step.{frames, process_to_continue}
use Rattle.vmodel.specs.InnerStep.{behind}
use Rattle.plain_steps.proofs.FrameLemmas.{same_backwards}

-- ---- comparing from the bottom up

same_from : (d : ℕ) (xs ys : List Frame) (x y : Frame) → slice_get xs d ≡ Some x → slice_get ys d ≡ Some y →
    pointwise frame_same (drop d xs) (drop d ys) ≡ (frame_same x y && pointwise frame_same (drop (suc d) xs) (drop (suc d) ys))
same_from d [] ys x y e f = cc
same_from d (a ∷ xs) [] x y e f = cc
same_from zero (a ∷ xs) (b ∷ ys) x y e f =
    let is_x : a ≡ x = cc in
    let is_y : b ≡ y = cc in
    λ i. frame_same (is_x i) (is_y i) && pointwise frame_same xs ys
same_from (suc d) (a ∷ xs) (b ∷ ys) x y e f = same_from d xs ys x y e f

module _ (xs ys : List Frame) (d : ℕ) (so_far : pointwise frame_same (drop d xs) (drop d ys) ≡ pointwise frame_same xs ys) where
  module _ (x y : Frame) (at_x : slice_get xs d ≡ Some x) (at_y : slice_get ys d ≡ Some y) (differ : Bool) (test : differ ≡ not (frame_same x y)) where
    split : (same : Bool) → frame_same x y ≡ same → pointwise frame_same xs ys ≡ (same && pointwise frame_same (drop (suc d) xs) (drop (suc d) ys))
    split same e = sym so_far ∙ same_from d xs ys x y at_x at_y ∙ ap (λ b. b && pointwise frame_same (drop (suc d) xs) (drop (suc d) ys)) e

    tested : (same : Bool) → differ ≡ not same → frame_same x y ≡ same
    tested same e = of (frame_same x y) same (sym test ∙ e)
      where
        of : (a b : Bool) → not a ≡ not b → a ≡ b
        of true true h = refl
        of false false h = refl
        of true false h = cc
        of false true h = cc

    pub differs_there : differ ≡ true → false ≡ pointwise frame_same (reverse xs) (reverse ys)
    differs_there e = sym (split false (tested false e)) ∙ same_backwards xs ys

    pub same_above : differ ≡ false → pointwise frame_same (drop (d + 1) xs) (drop (d + 1) ys) ≡ pointwise frame_same xs ys
    same_above e =
        ap (λ j. pointwise frame_same (drop j xs) (drop j ys)) next ∙ sym (split true (tested true e))
      where
        next : d + 1 ≡ suc d
        next = omega arith

  pub same_throughout : length xs ≤ d → length ys ≤ d → true ≡ pointwise frame_same (reverse xs) (reverse ys)
  same_throughout xs_end ys_end =
      sym (λ i. pointwise frame_same (drop_all d xs xs_end i) (drop_all d ys ys_end i)) ∙ so_far ∙ same_backwards xs ys

-- ---- the first is done

done_first : (xs ys : List Frame) (x : Frame) → ys ≡ xs ++ x ∷ [] → reverse xs ≡ drop 1 (reverse ys)
done_first xs ys x e = sym (ap (λ zs. drop 1 (reverse zs)) e ∙ ap (drop 1) (reverse-append xs (x ∷ [])))

pub nothing_left : (popped : Option Frame) (before after : ℕ) (P : Frame → Type 0) → is_some popped ≡ false →
    MatchOption popped ((before ≡ 0) × (after ≡ 0)) P → after ≡ 0
nothing_left None before after P e cases = cases.1
nothing_left (Some x) before after P e cases = cc

-- it stood in the process's own part, or, where that is empty, in the part that is shared
module _ (base own rest : List Frame) (kept : ℕ) (popped : Option Frame) (own_is : own ≡ rest ++ option_to_list popped) where
  pub done_of_own : is_some popped ≡ true → reverse (take kept base ++ rest) ≡ drop 1 (reverse (take kept base ++ own))
  done_of_own e = of popped own_is e
    where
      of : (o : Option Frame) → own ≡ rest ++ option_to_list o → is_some o ≡ true → reverse (take kept base ++ rest) ≡ drop 1 (reverse (take kept base ++ own))
      of None is some = cc
      of (Some x) is some =
          done_first (take kept base ++ rest) (take kept base ++ own) x
          (ap (λ zs. take kept base ++ zs) is ∙ sym (append_assoc (take kept base) rest (x ∷ [])))

  pub done_of_base : is_some popped ≡ false → length rest ≡ 0 → 0 < length (reverse (take kept base ++ own)) → kept ≤ length base →
      reverse (take (kept - 1) base ++ rest) ≡ drop 1 (reverse (take kept base ++ own))
  done_of_base e short some few =
      ap (λ zs. reverse (take (kept - 1) base ++ zs)) rest_empty
      ∙ one_less base kept (positive base kept (subst (λ zs. 0 < length (reverse (take kept base ++ zs))) own_empty some)) few
      ∙ ap (λ zs. drop 1 (reverse (take kept base ++ zs))) (sym own_empty)
    where
      none : (o : Option Frame) → is_some o ≡ false → option_to_list o ≡ []
      none None is = refl
      none (Some x) is = cc

      empty : (xs : List Frame) → length xs ≡ 0 → xs ≡ []
      empty [] is = refl
      empty (x ∷ xs) is = absurd (omega (arith, is))

      rest_empty : rest ≡ []
      rest_empty = empty rest short

      own_empty : own ≡ []
      own_empty = own_is ∙ (λ i. rest_empty i ++ none popped e i)

      positive : (xs : List Frame) (n : ℕ) → 0 < length (reverse (take n xs ++ [])) → 0 < n
      positive xs zero lt = lt
      positive xs (suc n) lt = omega arith

      one_less : (xs : List Frame) (n : ℕ) → 0 < n → n ≤ length xs → reverse (take (n - 1) xs ++ []) ≡ drop 1 (reverse (take n xs ++ []))
      one_less xs zero lt le = absurd (omega (arith, lt))
      one_less [] (suc n) lt le = absurd (omega (arith, le))
      one_less (x ∷ xs) (suc n) lt le =
          let all : List Frame = x ∷ xs in
          let here : suc n ≡ n + 1 = omega arith in
          let less : suc n - 1 ≡ n = omega arith in
          ap (λ j. reverse (take j all ++ [])) less
          ∙ ap reverse (append-nil (take n all))
          ∙ done_first (take n all) (take (suc n) all ++ []) (get_or all n x)
          (append-nil (take (suc n) all) ∙ ap (λ j. take j all) here ∙ take_more all n x (omega (arith, le)))

-- one frame more comes first
pub put_first : (front own : List Frame) (frame : Frame) → reverse (front ++ (own ++ frame ∷ [])) ≡ frame ∷ reverse (front ++ own)
put_first front own frame = ap reverse (sym (append_assoc front own (frame ∷ []))) ∙ reverse-append (front ++ own) (frame ∷ [])

-- these places come before what is left then
pub placed : (front rest own : List Frame) (places : List ℕ) (after : List Frame) → reverse own ≡ frames places (reverse rest) →
    reverse (front ++ rest) ≡ after → reverse (front ++ own) ≡ frames places after
placed front rest own places after own_is e =
    reverse-append front own
    ∙ ap (λ zs. zs ++ reverse front) own_is
    ∙ append_assoc (map Executing places) (reverse rest) (reverse front)
    ∙ ap (λ zs. map Executing places ++ zs) (sym (reverse-append front rest) ∙ e)

-- what comes behind them is left
pub goes_again : (number : ℕ) (next : List ℕ) (then : Option Frame) (continuation : List Frame) → is_some then ≡ true → Some number ≡ process_to_continue number (frames next (behind then continuation))
goes_again number next None continuation some = cc
goes_again number [] (Some frame) continuation some = refl
goes_again number (place ∷ places) (Some frame) continuation some = refl

-- where nothing does, the rest is left
pub goes_rest : (number : ℕ) (next : List ℕ) (then : Option Frame) (continuation : List Frame) (goes : Option ℕ) → is_some then ≡ false →
    goes ≡ process_to_continue number (frames next continuation) → goes ≡ process_to_continue number (frames next (behind then continuation))
goes_rest number next None continuation goes none is = is
goes_rest number next (Some frame) continuation goes none is = cc

-- where more than the first was left, something is left behind it
pub goes_behind : (number : ℕ) (next : List ℕ) (continuation : List Frame) → 1 < length continuation → Some number ≡ process_to_continue number (frames next (drop 1 continuation))
goes_behind number next [] some = absurd (omega (arith, some))
goes_behind number next (frame ∷ []) some = absurd (omega (arith, some))
goes_behind number [] (frame ∷ more ∷ rest) some = refl
goes_behind number (place ∷ places) (frame ∷ more ∷ rest) some = refl

-- where a place comes next, it is left
pub goes_before : (number : ℕ) (next : List ℕ) (continuation : List Frame) → length next ≢ 0 → Some number ≡ process_to_continue number (frames next (drop 1 continuation))
goes_before number [] continuation some = absurd (some refl)
goes_before number (place ∷ places) continuation some = refl

-- where no place comes next and no more than the first was left, nothing is left
pub goes_nowhere : (number : ℕ) (next : List ℕ) (continuation : List Frame) → length next ≡ 0 → length continuation ≤ 1 → None ≡ process_to_continue number (frames next (drop 1 continuation))
goes_nowhere number (place ∷ places) continuation none few = absurd (omega (arith, none))
goes_nowhere number [] [] none few = refl
goes_nowhere number [] (frame ∷ []) none few = refl
goes_nowhere number [] (frame ∷ more ∷ rest) none few = absurd (omega (arith, few))
