-- The walk to the end of a text, and what files are expanded to.
use Rattle.std.proofs.Common.{◌≡◌, ℕ, zero, suc, ◌+◌, ◌<◌, ◌≤◌, cond, List, [], ◌∷◌, slice_get, length, drop, map, is_some, unwrap_or, Some, None, Ok, Err, refl, sym, ◌∙◌, ap, arith}
use Rattle.std.proofs.lemmas.Bool.{lt-ltb, le-ltb}
use Rattle.basis.specs.declared.memory.OrMemory.{OrMemory}
use Rattle.basis.specs.declared.memory.OrMemory.TheVariants.{Fault, Memory}
use Rattle.basis.specs.Reasons.{Because}
use Rattle.vsrc.specs.declared.conditionals.Open.{Open}
use Rattle.vsrc.specs.declared.refusal.Why.TheVariants as why
use Rattle.vsrc.specs.declared.refusal.Refusal.{Refusal}
use Rattle.vsrc.specs.Source.{Source, borders_of, feeds_of, join_files, place_by, place_in, too_long}
use Rattle.basis.specs.Timescales.{usual_timescale}
use Rattle.vsrc.specs.Macros.{and_then, refused_at}
use Rattle.vsrc.specs.Walk.{State, start, step, walk}
use Rattle.vsrc.specs.Expansion.{end_of_walk, left_open, walk_text, expansion, fault_at, source_of}
use Rattle.vsrc.specs.Inner.{LinesOf, is_long_with}

-- from this state on the walk comes to where it comes from its start
pub record Comes (text : List ℕ) (state : State) : Type 0 where
  pub bound : ℕ
  pub enough : length text ≤ bound + state.at
  pub same : walk text bound state ≡ walk text (length text) start

pub comes_begins : (text : List ℕ) (state : State) → state ≡ start → Comes text state
comes_begins text state is = record {
  bound = length text;
  enough = omega arith;
  same = ap (walk text (length text)) is;
}

pub comes_on : (text rest : List ℕ) (state next : State) → state.at < length text → rest ≡ drop state.at text → state.at < next.at → step rest state ≡ Ok next
    → Comes text state → Comes text next
unfolding walk
comes_on text rest state next within is on steps comes = go comes.bound comes.enough comes.same
  where
    go : (n : ℕ) → length text ≤ n + state.at → walk text n state ≡ walk text (length text) start → Comes text next
    go zero enough same = absurd (omega arith)
    go (suc n) enough same = record {
      bound = n;
      enough = omega arith;
      same =
          ap (λ r. and_then r (walk text n)) (sym steps ∙ ap (λ l. step l state) is)
          ∙ ap (λ b. cond b (and_then (step (drop state.at text) state) (walk text n)) (Ok state)) (sym (lt-ltb state.at (length text) within)) ∙ same;
    }

pub comes_stop : (text rest : List ℕ) (state : State) (refusal : Refusal) → state.at < length text → rest ≡ drop state.at text → step rest state ≡ Err refusal
    → Comes text state → walk_text text ≡ Err refusal
unfolding walk
comes_stop text rest state refusal within is steps comes = go comes.bound comes.enough comes.same
  where
    go : (n : ℕ) → length text ≤ n + state.at → walk text n state ≡ walk text (length text) start → walk_text text ≡ Err refusal
    go zero enough same = absurd (omega arith)
    go (suc n) enough same =
        ap (λ r. and_then r end_of_walk) (sym same
        ∙ ap (λ b. cond b (and_then (step (drop state.at text) state) (walk text n)) (Ok state)) (lt-ltb state.at (length text) within)
        ∙ ap (λ r. and_then r (walk text n)) (ap (λ l. step l state) (sym is) ∙ steps))

pub comes_end : (text : List ℕ) (state : State) → length text ≤ state.at → Comes text state → walk_text text ≡ end_of_walk state
unfolding walk
comes_end text state end comes = go comes.bound comes.same
  where
    go : (n : ℕ) → walk text n state ≡ walk text (length text) start → walk_text text ≡ end_of_walk state
    go zero same = ap (λ r. and_then r end_of_walk) (sym same)
    go (suc n) same =
        ap (λ r. and_then r end_of_walk) (sym same
        ∙ ap (λ b. cond b (and_then (step (drop state.at text) state) (walk text n)) (Ok state)) (le-ltb state.at (length text) end))

-- ---- files

pub files_ok : (files : List (List ℕ)) (text : List ℕ) (state : State) → text ≡ join_files files → too_long files ≡ None → walk_text text ≡ Ok state
    → expansion files ≡ Ok (source_of files state)
unfolding expansion
files_ok files text state is short comes = rw (short, sym (ap walk_text is) ∙ comes) refl

pub files_err : (files : List (List ℕ)) (text : List ℕ) (refusal : Refusal) → text ≡ join_files files → too_long files ≡ None → walk_text text ≡ Err refusal
    → expansion files ≡ Err (fault_at refusal.why (place_in files refusal.at))
unfolding expansion
files_err files text refusal is short stops = rw (short, sym (ap walk_text is) ∙ stops) refl

pub files_long : (files : List (List ℕ)) (number : ℕ) → too_long files ≡ Some number → expansion files ≡ Err (is_long_with number)
unfolding expansion
files_long files number long = rw long refl

-- ---- what is answered

pub none_open : (opens : List Open) (state : State) → None ≡ slice_get opens 0 → left_open opens state ≡ Ok state
none_open [] state none = refl
none_open (inner ∷ opens) state none = cc

pub some_open : (opens : List Open) (inner : Open) (state : State) → Some inner ≡ slice_get opens 0 → left_open opens state ≡ Err (refused_at inner.at why.Open)
some_open [] inner state some = cc
some_open (other ∷ opens) inner state some = let same : other ≡ inner = cc in ap (λ (o : Open). Err (refused_at o.at why.Open)) same

pub because_so : {F : Type 0} (P : F → Type 0) (Q : F → Type 0) (e : OrMemory F) → ((f : F) → P f → Q f) → Because P e → Because Q e
because_so P Q (Fault f) so h = so f h
because_so P Q (Memory m) so h = tt

pub source_is : (files : List (List ℕ)) (state : State) (lines : LinesOf) (source : Source) (end : ℕ) → lines.borders ≡ borders_of files → lines.feeds ≡ feeds_of (join_files files)
    → end ≡ length (join_files files) → source.text ≡ state.made.text → source.places ≡ map (place_by lines.borders lines.feeds) state.made.origins
    → source.end ≡ place_by lines.borders lines.feeds end → source.timescale ≡ unwrap_or state.timescale usual_timescale → source.timed ≡ is_some state.timescale → source_of files state ≡ source
source_is files state lines source end borders feeds whole text places ends timescale timed =
    let by : place_by lines.borders lines.feeds ≡ place_in files = λ i. place_by (borders i) (feeds i) in
    let all : source.places ≡ map (place_in files) state.made.origins = places ∙ ap (λ f. map f state.made.origins) by in
    let last : source.end ≡ place_in files (length (join_files files)) = ends ∙ ap (λ f. f end) by ∙ ap (place_in files) whole in
    sym (λ i. record { text = text i; places = all i; end = last i; timescale = timescale i; timed = timed i })
