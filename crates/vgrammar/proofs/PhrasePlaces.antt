-- Where words stop to be a tree of a shape that is read.
use Rattle.std.proofs.Common.{◌≡◌, ◌<◌, true, List, [], ◌∷◌, ◌++◌, None, length, refl, sym, ap, ◌∙◌, arith, subst, append_assoc}
use Rattle.std.proofs.lemmas.List.{append-nil}
use Rattle.vwords.specs.Words.{Text}
use Rattle.vexpr_parse.specs.declared.stop.Stop.{Stop}
use Rattle.vexpr_parse.specs.declared.stop.Stop.TheVariants.{TooDeep}
use Rattle.vexpr_parse.specs.Readers.{Answer, got, stop, Reader, front}
use Rattle.vexpr_parse.specs.Lawful.{rest_of, Ends, Sees, GoesOn}
use Rattle.vexpr_parse.proofs.ReaderRules.{stop_got}
use Rattle.vexpr_parse.proofs.Grows.{Grows}
use Rattle.vexpr_parse.proofs.Places.{split}
use Rattle.vgrammar.proofs.Phrases.{Shape, Phrase, Example}
use Rattle.vgrammar.proofs.Growth.{Growth}

-- the words begin a tree that may stand
pub record IsBegun {A : Type 0} (s : Shape A) (words : List Text) : Type 0 where
  pub after : List Text
  pub tree : A
  pub valid : s.valid tree ≡ true
  pub spelled : s.spell tree ≡ words ++ after

-- with the word that stands first here behind them they begin none
abbrev pub IsUnbegun : {A : Type 0} → Shape A → List Text → List Text → Type 0
IsUnbegun {A = A} s before left = (other : List Text) (tree : A) → front other ≡ front left → s.valid tree ≡ true →
    s.spell tree ≡ before ++ other → ⊥

pub record Stopped {A : Type 0} (s : Shape A) (words left : List Text) : Type 0 where
  pub before : List Text
  pub whole : words ≡ before ++ left
  pub viable : IsBegun s before
  pub refused : IsUnbegun s before left

module _ {A : Type 0} {read : Reader A} {ends : Ends} {s : Shape A} (p : Phrase read ends s) (ended : ends None ≡ true) where
  -- what is read whole is a tree
  whole_tree : (before after : List Text) (tree : A) → read ((before ++ after) ++ []) ≡ got tree [] → IsBegun s before
  whole_tree before after tree e =
      let g = p.sound ((before ++ after) ++ []) tree [] e in
      record {
        after = after;
        tree = tree;
        valid = g.valid;
        spelled = sym (append-nil (s.spell tree)) ∙ sym g.whole ∙ append-nil (before ++ after);
      }

  begun : Example s → (before : List Text) (a : Answer A) → GoesOn read ends before a → IsBegun s before
  begun e [] a m = record { after = s.spell e.tree; tree = e.tree; valid = e.valid; spelled = refl }
  begun e (word ∷ words) (got tree left) m =
      whole_tree (word ∷ words) [] tree (ap (λ ws. read (ws ++ [])) (append-nil (word ∷ words)) ∙ m [] ended)
  begun e (word ∷ words) (stop why left) m =
      let b = m (omega arith) in
      whole_tree (word ∷ words) b.0 b.1.0 (b.1.1 [] ended)

  -- a tree is read whole
  pub unbegun_by : (before left : List Text) (why : Stop) →
      ((other : List Text) → front other ≡ front left → read (before ++ other) ≡ stop why other) → IsUnbegun s before left
  unbegun_by before left why near other tree e v spelled =
      stop_got (sym (near other e) ∙ ap read (sym (append-nil (before ++ other)) ∙ ap (λ ws. ws ++ []) (sym spelled))
      ∙ p.complete tree [] v (p.closed tree None ended))

  sees : (words left : List Text) (why : Stop) → read words ≡ stop why left → Sees read ends words (stop why left)
  sees words left why e = subst (Sees read ends words) e (p.lawful words)

  pub stopped : Example s → (words left : List Text) (why : Stop) → read words ≡ stop why left → Stopped s words left
  stopped e words left why is =
      let t = sees words left why is in
      record {
        before = t.before;
        whole = t.whole;
        viable = begun e t.before (stop why left) t.more;
        refused = unbegun_by t.before left why t.near;
      }

-- with more levels the word at the place is passed
pub record Passed {A : Type 0} (s : Shape A) (words left : List Text) : Type 0 where
  pub before : List Text
  pub word : Text
  pub behind : List Text
  pub at : left ≡ word ∷ behind
  pub whole : words ≡ before ++ left
  pub viable : IsBegun s (before ++ word ∷ [])

pub passed : {A : Type 0} {read more : Reader A} {ends ends_more : Ends} {s t : Shape A} → Phrase read ends s →
    Phrase more ends_more t →
    ends_more None ≡ true → Example t → Growth read more → (words left : List Text) → read words ≡ stop TooDeep left →
    Passed t words left
passed {read = read} {more = more} {ends = ends} {ends_more = ends_more} {t = t} p q ended e g words left is =
    let a = subst (Sees read ends words) is (p.lawful words) in
    let b = q.lawful words in
    let less : length (rest_of (more words)) < length left = subst (λ x. Grows x (more words)) is (g.rises words) in
    let w = split a.before left b.before (rest_of (more words)) (sym a.whole ∙ b.whole) less in
    let v = begun q ended e b.before (more words) b.more in
    record {
      before = a.before;
      word = w.word;
      behind = w.behind ++ rest_of (more words);
      at = w.at;
      whole = a.whole;
      viable = record {
        after = w.behind ++ v.after;
        tree = v.tree;
        valid = v.valid;
        spelled = v.spelled ∙ ap (λ ws. ws ++ v.after) w.is ∙ regroup a.before w.word w.behind v.after;
      };
    }
  where
    regroup : (before : List Text) (word : Text) (behind after : List Text) →
        (before ++ word ∷ behind) ++ after ≡ (before ++ word ∷ []) ++ (behind ++ after)
    regroup before word behind after = append_assoc before (word ∷ behind) after
        ∙ sym (append_assoc before (word ∷ []) (behind ++ after))
