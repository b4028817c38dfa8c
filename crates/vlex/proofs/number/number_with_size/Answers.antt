use Rattle.std.proofs.Common.{◌≡◌, ◌+◌, ◌∷◌, ◌++◌, ◌&&◌, refl, ◌∙◌, sym, ap, subst, length, take}
use Rattle.basis.proofs.Bools.{and_false}
use Rattle.vlex.specs.declared.bytes.Lead.TheVariants as lead
use Rattle.vlex.specs.Forms.{is_size, is_based}
use Rattle.vlex.specs.Inner.{IsAnswer}
use Rattle.vlex.proofs.Pieces.{not_open}
use Rattle.vlex.proofs.Sizes.{all_digits, unsized, sized_number, barred_number}
use Rattle.vlex.proofs.number.number_with_size.Goals as goal

pub returns-in_default : goal.returns-in_default
returns-in_default c =
    subst (IsAnswer (c.args.first ∷ c.args.digits.now ++ (c.args.blanks.now ++ 39 ∷ c.args.base.now))) (sym c.alone.ensures)
    (unsized c.args.first c.args.digits.now c.args.blanks.now c.args.base.now c.requires.lead (all_digits c.args.first c.args.digits.now c.requires.digit c.requires.digits) c.requires.blanks
    (λ n. ap (λ b. is_size (c.args.first ∷ c.args.digits.now) && b) (c.in_default.ensures n) ∙ and_false (is_size (c.args.first ∷ c.args.digits.now))))

pub returns-then-not-is_size : goal.returns-then-not-is_size
returns-then-not-is_size c =
    subst (IsAnswer (c.args.first ∷ c.args.digits.now ++ (c.args.blanks.now ++ 39 ∷ c.args.base.now))) (sym c.alone-then-not-is_size.ensures)
    (unsized c.args.first c.args.digits.now c.args.blanks.now c.args.base.now c.requires.lead (all_digits c.args.first c.args.digits.now c.requires.digit c.requires.digits) c.requires.blanks
    (λ n. ap (λ b. b && is_based (take n c.args.base.now)) (sym c.is_size.ensures ∙ c.if-not-is_size.true)))

pub returns-then-not-is_ended : goal.returns-then-not-is_ended
returns-then-not-is_ended c = (
  barred_number c.args.first c.args.digits.now c.args.blanks.now c.args.base.now c.requires.lead (all_digits c.args.first c.args.digits.now c.requires.digit c.requires.digits) c.requires.blanks
      c.in-Some.len (sym c.is_size.ensures ∙ c.if-not-is_size.false) c.in-Some.ensures (sym c.is_ended.ensures ∙ c.if-not-is_ended.true),
  not_open c.args.first _ lead.Digit c.requires.lead (λ (e : lead.Quote ≡ lead.Digit). cc) (λ (e : lead.Slash ≡ lead.Digit). cc),
)

pub returns : goal.returns
returns c =
    sized_number c.args.first c.args.digits.now c.args.blanks.now c.args.base.now c.requires.lead (all_digits c.args.first c.args.digits.now c.requires.digit c.requires.digits) c.requires.blanks
    c.in-Some.len (2 + (length c.args.digits.now + length c.args.blanks.now) + c.in-Some.len) refl (sym c.is_size.ensures ∙ c.if-not-is_size.false) c.in-Some.ensures
    (sym c.is_ended.ensures ∙ c.if-not-is_ended.false)
