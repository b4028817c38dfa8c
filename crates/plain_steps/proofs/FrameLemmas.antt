-- Lists of frames are the same where they are read backwards.
use Rattle.std.proofs.Common.{◌≡◌, Bool, ◌&&◌, List, [], ◌∷◌, ◌++◌, length, reverse, take, refl, sym, ap, ◌∙◌, arith}
use Rattle.std.specs.Cmp.Lexicographic.{pointwise}
use Rattle.std.proofs.lemmas.List.{reverse-reverse, length-take-le}
use Rattle.std.proofs.lemmas.Bool.Decides.{Decides-like, same_from_decides}
use Rattle.std.specs.Arc.{arc_slice_items}
use Rattle.basis.proofs.Bools.{and_assoc}
use Rattle.plain_steps.specs.declared.continuation.Continuation.{Continuation}
use Rattle.plain_steps.specs.InnerContinuation.{IsWhole, continuation_frames}
use Rattle.vmodel.specs.declared.frame.Frame.{Frame}
use Rattle.vmodel.specs.Same.{frame_same}
use Rattle.sched_core.specs.Tests.{list_tells}
use Rattle.vmodel.specs.SameLaws.{frames_tell}

pub same_backwards : (xs ys : List Frame) → pointwise frame_same xs ys ≡ pointwise frame_same (reverse xs) (reverse ys)
same_backwards xs ys =
    same_from_decides (pointwise frame_same xs ys) (pointwise frame_same (reverse xs) (reverse ys)) (list_tells frame_same frames_tell xs ys)
    (Decides-like (pointwise frame_same (reverse xs) (reverse ys))
    (λ (h : reverse xs ≡ reverse ys). sym (reverse-reverse xs) ∙ ap reverse h ∙ reverse-reverse ys)
    (λ h. ap reverse h)
    (list_tells frame_same frames_tell (reverse xs) (reverse ys)))

-- two parts of the same length and what stands behind them
same_parts : (cs ds xs ys : List Frame) → length cs ≡ length ds →
    (pointwise frame_same cs ds && pointwise frame_same xs ys) ≡ pointwise frame_same (cs ++ xs) (ds ++ ys)
same_parts [] [] xs ys len = refl
same_parts [] (b ∷ ds) xs ys len = absurd (omega (arith, len))
same_parts (a ∷ cs) [] xs ys len = absurd (omega (arith, len))
same_parts (a ∷ cs) (b ∷ ds) xs ys len =
    and_assoc (frame_same a b) (pointwise frame_same cs ds) (pointwise frame_same xs ys)
    ∙ ap (λ rest. frame_same a b && rest) (same_parts cs ds xs ys (omega (arith, len)))

pub parts_backwards : (cs ds xs ys : List Frame) → length cs ≡ length ds →
    (pointwise frame_same cs ds && pointwise frame_same xs ys) ≡ pointwise frame_same (reverse (cs ++ xs)) (reverse (ds ++ ys))
parts_backwards cs ds xs ys len = same_parts cs ds xs ys len ∙ same_backwards (cs ++ xs) (ds ++ ys)

-- what is left in two ways of which as much of the beginning is left
pub like_parts : (s o : Continuation) (front like : List Frame) (test : Bool) → front ≡ take s.kept (arc_slice_items s.base) →
    like ≡ take o.kept (arc_slice_items o.base) → IsWhole s → IsWhole o → s.kept ≡ o.kept → test ≡ pointwise frame_same front like →
    (test && pointwise frame_same s.own.items o.own.items) ≡ pointwise frame_same (continuation_frames s) (continuation_frames o)
like_parts s o front like test front_is like_is whole other kept tested =
    ap (λ b. b && pointwise frame_same s.own.items o.own.items) tested
    ∙ parts_backwards front like s.own.items o.own.items same_length
    ∙ (λ i. pointwise frame_same (reverse (front_is i ++ s.own.items)) (reverse (like_is i ++ o.own.items)))
  where
    same_length : length front ≡ length like
    same_length =
        ap length front_is ∙ length-take-le s.kept (arc_slice_items s.base) whole
        ∙ kept ∙ sym (ap length like_is ∙ length-take-le o.kept (arc_slice_items o.base) other)
