-- Why a ring of deques settles.
use Rattle.std.proofs.Common.{◌≡◌, ℕ, ◌+◌, ◌%◌, ◌^◌, List, [], ◌∷◌, ◌++◌, length, arith, ap, refl, sym, ◌∙◌, subst, inl, inr, length-append}
use native.Mathlib.Nat.{mod-add-mod}
use Rattle.basis.proofs.Lists.{last_or_before}
use Rattle.workpool.specs.Inner.Sums.{times}
use Rattle.workpool.specs.Jobs.{DequeId, Owned, Robbed, IsSettled}
use Rattle.workpool.specs.Rings.{Links, AreBack, AreIdle, AreSettled, all_put, all_taken, times_put, times_taken}
use Rattle.workpool.specs.declared.ring.Seat.{Seat}
use Rattle.workpool.proofs.SumLemmas.{total_snoc, times-append}

-- one more thread behind the others
pub links_snoc : (seats : List Seat) (s : Seat) (d e f : DequeId) → Links seats d e → s.owner.deque ≡ e → s.thief.deque ≡ f → Links (seats ++ s ∷ []) d f
links_snoc [] s d e f links own from = (own ∙ sym links, from)
links_snoc (t ∷ seats) s d e f links own from = (links.0, links_snoc seats s t.thief.deque e f links.1 own from)

-- and one less
pub unlink : (seats : List Seat) (s : Seat) (d f : DequeId) → Links (seats ++ s ∷ []) d f → Links seats d s.owner.deque × (s.thief.deque ≡ f)
unlink [] s d f links = (sym links.0, links.1)
unlink (t ∷ seats) s d f links = let rest = unlink seats s t.thief.deque f links.1 in ((links.0, rest.0), rest.1)

pub idle_snoc : (seats : List Seat) (s : Seat) → AreIdle seats → (s.owner.put ≡ []) × (s.owner.taken ≡ []) × (s.thief.taken ≡ []) → AreIdle (seats ++ s ∷ [])
idle_snoc seats s idle new i u at = elim (last_or_before seats s i u at) [
  | inl there ↦ idle i u there
  | inr last ↦ (let P : Seat → Type 0 = λ x. (x.owner.put ≡ []) × (x.owner.taken ≡ []) × (x.thief.taken ≡ []) in subst P last.1 new)
]

-- How far the settling has come: the threads that are left are linked, from the first thief's deque to the last owner's; these owners
-- have all ends of their deques, with so many jobs left; and what all threads put and took is theirs or of the threads that are left.
pub record Settling (all seats : List Seat) (last : Owned) (first : Robbed) (done : List Owned) (count : ℕ) : Type 0 where
  pub links : Links seats first.deque last.deque
  pub left : List ℕ
  pub counted : count ≡ length left % 2 ^ 64
  pub fair : (x : ℕ) → times_put x done ≡ times_taken x done + times x left
  pub put : (x : ℕ) → all_put x all ≡ all_put x seats + times x last.put + times_put x done
  pub taken : (x : ℕ) → all_taken x all ≡ all_taken x seats + times x last.taken + times x first.taken + times_taken x done

-- what all threads took, with one more behind the others
taken_snoc : (x : ℕ) (all seats : List Seat) (s : Seat) → all ≡ seats ++ s ∷ [] → all_taken x all ≡ all_taken x seats + (times x s.owner.taken + times x s.thief.taken)
taken_snoc x all seats s is =
    let t = ap (all_taken x) is ∙ total_snoc (λ (u : Seat). times x (u.owner.taken ++ u.thief.taken)) seats s in
    let n = times-append x s.owner.taken s.thief.taken in
    omega (arith, t, n)

-- the last thread is taken apart
pub settling_starts : (all seats : List Seat) (s : Seat) (last : Owned) (first : Robbed) (done : List Owned) → all ≡ seats ++ s ∷ [] → s.owner ≡ last → s.thief ≡ first → done ≡ [] → (d : DequeId) → Links all d d → Settling all seats last first done 0
settling_starts all seats s last first done is own from none d links =
    let P : List Seat → Type 0 = λ l. Links l d d in
    let apart = unlink seats s d d (subst P is links) in
    let end : first.deque ≡ d = ap (λ (t : Robbed). t.deque) (sym from) ∙ apart.1 in
    let Q : DequeId → Type 0 = λ e. Links seats e s.owner.deque in
    let R : DequeId → Type 0 = λ e. Links seats first.deque e in
    record {
      links = subst R (ap (λ (o : Owned). o.deque) own) (subst Q (sym end) apart.0);
      left = [];
      counted = refl;
      fair = λ x. (let p = ap (times_put x) none in let t = ap (times_taken x) none in omega (arith, p, t));
      put = λ x.
          (let p = ap (all_put x) is ∙ total_snoc (λ (u : Seat). times x u.owner.put) seats s in
          let a = ap (λ (o : Owned). times x o.put) own in
          let d = ap (times_put x) none in
          omega (arith, p, a, d));
      taken = λ x.
          (let t = taken_snoc x all seats s is in
          let b = ap (λ (o : Owned). times x o.taken) own in
          let c = ap (λ (o : Robbed). times x o.taken) from in
          let d = ap (times_taken x) none in
          omega (arith, t, b, c, d));
    }

-- the deque of the last owner is the one of the thief that is taken apart next
pub next_link : (seats : List Seat) (s : Seat) (d e : DequeId) (grown : List Seat) → grown ≡ seats ++ s ∷ [] → Links grown d e → e ≡ s.thief.deque
next_link seats s d e grown is links = let P : List Seat → Type 0 = λ l. Links l d e in sym (unlink seats s d e (subst P is links)).1

sum_count : (old one count : ℕ) (left more : List ℕ) → old ≡ length left % 2 ^ 64 → length more ≡ one → count ≡ (old + one) % 2 ^ 64 → count ≡ length (left ++ more) % 2 ^ 64
sum_count old one count left more o m c =
    c ∙ ap (λ n. (n + one) % 2 ^ 64) o ∙ mod-add-mod (length left) (2 ^ 64) one ∙ ap (λ n. (length left + n) % 2 ^ 64) (sym m) ∙ ap (λ n. n % 2 ^ 64) (sym (length-append left more))

-- an owner to whom the thief's end was given back, behind the others
whole_put : (x : ℕ) (done more : List Owned) (whole last : Owned) (thief : Robbed) → more ≡ done ++ whole ∷ [] → whole ≡ record last { taken = last.taken ++ thief.taken } → times_put x more ≡ times_put x done + times x last.put
whole_put x done more whole last thief grown back =
    let p = ap (times_put x) grown ∙ total_snoc (λ (o : Owned). times x o.put) done whole in
    let w = ap (λ (o : Owned). times x o.put) back in
    omega (arith, p, w)

whole_taken : (x : ℕ) (done more : List Owned) (whole last : Owned) (thief : Robbed) → more ≡ done ++ whole ∷ [] → whole ≡ record last { taken = last.taken ++ thief.taken } → times_taken x more ≡ times_taken x done + (times x last.taken + times x thief.taken)
whole_taken x done more whole last thief grown back =
    let t = ap (times_taken x) grown ∙ total_snoc (λ (o : Owned). times x o.taken) done whole in
    let w = ap (λ (o : Owned). times x o.taken) back ∙ times-append x last.taken thief.taken in
    omega (arith, t, w)

still_fair : (x : ℕ) (done more : List Owned) (whole last : Owned) (thief : Robbed) (left : List ℕ) (one : ℕ) → more ≡ done ++ whole ∷ [] → whole ≡ record last { taken = last.taken ++ thief.taken } → (settled : IsSettled last thief one)
    → times_put x done ≡ times_taken x done + times x left → times_put x more ≡ times_taken x more + times x (left ++ settled.left)
still_fair x done more whole last thief left one grown back settled fair =
    let g = settled.fair x in
    let p = whole_put x done more whole last thief grown back in
    let t = whole_taken x done more whole last thief grown back in
    let l = times-append x left settled.left in
    omega (arith, fair, g, p, t, l)

pub settling_steps : (all grown seats : List Seat) (s : Seat) (last next : Owned) (first thief : Robbed) (done more : List Owned) (whole : Owned) (old one count : ℕ) → Settling all grown last first done old → grown ≡ seats ++ s ∷ [] → s.owner ≡ next → s.thief ≡ thief
    → IsSettled last thief one → whole ≡ record last { taken = last.taken ++ thief.taken } → more ≡ done ++ whole ∷ [] → count ≡ (old + one) % 2 ^ 64 → Settling all seats next first more count
settling_steps all grown seats s last next first thief done more whole old one count so_far is own from settled back put_in sum =
    let P : List Seat → Type 0 = λ l. Links l first.deque last.deque in
    let apart = unlink seats s first.deque last.deque (subst P is so_far.links) in
    let R : DequeId → Type 0 = λ e. Links seats first.deque e in
    record {
      links = subst R (ap (λ (o : Owned). o.deque) own) apart.0;
      left = so_far.left ++ settled.left;
      counted = sum_count old one count so_far.left settled.left so_far.counted settled.counted sum;
      fair = λ x. still_fair x done more whole last thief so_far.left one put_in back settled (so_far.fair x);
      put = λ x.
          (let f = so_far.put x in
          let p = ap (all_put x) is ∙ total_snoc (λ (u : Seat). times x u.owner.put) seats s in
          let a = ap (λ (o : Owned). times x o.put) own in
          let w = whole_put x done more whole last thief put_in back in
          omega (arith, f, p, a, w));
      taken = λ x.
          (let f = so_far.taken x in
          let t = taken_snoc x grown seats s is in
          let b = ap (λ (o : Owned). times x o.taken) own in
          let c = ap (λ (o : Robbed). times x o.taken) from in
          let w = whole_taken x done more whole last thief put_in back in
          omega (arith, f, t, b, c, w));
    }

-- the last deque is the first thief's
module _ (all : List Seat) (last : Owned) (first : Robbed) (done more : List Owned) (whole : Owned) (old one count : ℕ) (so_far : Settling all [] last first done old) (settled : IsSettled last first one) (back : whole ≡ record last { taken = last.taken ++ first.taken }) (put_in : more ≡ done ++ whole ∷ []) where
  pub settling_ends : count ≡ (old + one) % 2 ^ 64 → AreSettled more count
  settling_ends sum = record {
    left = so_far.left ++ settled.left;
    counted = sum_count old one count so_far.left settled.left so_far.counted settled.counted sum;
    fair = λ x. still_fair x done more whole last first so_far.left one put_in back settled (so_far.fair x);
  }

  pub all_back : AreBack all more
  all_back = record {
    put = λ x. (let f = so_far.put x in let w = whole_put x done more whole last first put_in back in omega (arith, f, w));
    taken = λ x. (let f = so_far.taken x in let w = whole_taken x done more whole last first put_in back in omega (arith, f, w));
  }

pub nothing_left : {X : Type 0} (xs : List X) → length xs ≡ 0 → xs ≡ []
nothing_left [] none = refl
nothing_left (x ∷ xs) none = absurd (omega (arith, none))
