use Rattle.std.proofs.Common.{◌≡◌, ℕ, arith, ap, sym, ◌∙◌, refl}
use Rattle.explore.proofs.ListingLemmas.{on_ok}
use Rattle.matching.specs.Inner.Candidates.{EndsNear}
use Rattle.matching.specs.declared.candidates.Way.{Way}
use Rattle.matching.proofs.Ends.{extends_end, kept_end, stands_end}
use Rattle.matching.proofs.NearLemmas.{near_ending, near_same}
use Rattle.matching.proofs.slot.meet_end.Goals as goal

pub returns-then-differences-gt0-2-clause-near : goal.returns-then-differences-gt0-2-clause-near
returns-then-differences-gt0-2-clause-near g c =
    near_ending (EndsNear (g.P.Space.rules c.args.space.now) c.args.limits.now.depart c.args.start.now) c.args.search.now _ _ refl
    c.in_ok-end.ensures.end refl

pub returns-clause-near : goal.returns-clause-near
returns-clause-near g c =
    on_ok c.keep.result (λ keeps. near_same (EndsNear (g.P.Space.rules c.args.space.now) c.args.limits.now.depart c.args.start.now)
    c.args.search.now _ refl refl) c.keep.ensures.keeps

-- nothing differs in a state that is the same
fits_by : {S : Type 0} (differ : S → ℕ) (s t : S) (n : ℕ) → s ≡ t → n ≡ differ t → n ≡ 0 → differ s ≡ 0
fits_by differ s t n same is none = ap differ same ∙ sym is ∙ none

pub returns-clause-extends : goal.returns-clause-extends
returns-clause-extends g c =
    let differ = (g.R.Reference.piece c.args.reference.now).differ in
    let end = c.in_ok-end.end in
    let way : Way g.row.P-State.Denot = record { log = end.log; steps = end.steps; next = c.in_ok-next.next } in
    let none : c.count_differences-differences.result ≡ 0 = omega (arith, c.if-differences-gt0-2.false) in
    on_ok c.keep.result (λ keeps. extends_end (g.P.Space.rules c.args.space.now) (g.met.P.Space.lawful c.args.space.now)
    (g.P.Ranked.ranks c.args.space.now) differ c.args.limits.now.depart c.args.start.now end.state way c.args.search.now _
    (λ s t e. g.met.R.Reference.alike c.args.reference.now s t (sym (g.met.P.Space.same_is_eq c.args.space.now s t) ∙ e))
    c.in_ok-end.ensures.end
    (ap differ c.in_ok-end.ensures.state ∙ sym c.count_differences-differences.ensures ∙ none) c.in_ok-next.ensures refl keeps)
    c.keep.ensures.keeps

pub returns-clause-kept : goal.returns-clause-kept
returns-clause-kept g c =
    on_ok c.keep.result (λ keeps none. kept_end (g.P.Space.rules c.args.space.now) c.in_ok-end.end.state c.args.state _
    c.args.search.now.candidates.entries c.keep.new.candidates.entries _ keeps c.in_ok-end.ensures.state c.in_ok-end.ensures.longer)
    c.keep.ensures.keeps

pub keep-requires-clause-way : goal.keep-requires-clause-way
keep-requires-clause-way g c κs within =
    let both = stands_end (g.P.Space.rules c.args.space.now) (g.met.P.Space.lawful c.args.space.now) c.args.limits.now.depart
    c.args.start.now c.in_ok-end.end.state c.in_ok-end.end.log c.in_ok-end.end.steps c.requires.start c.in_ok-end.ensures.end in
    record { stands = both.0; mark = both.1; next = c.in_ok-next.ensures }
