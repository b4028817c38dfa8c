-- With one level more: what was read or refused for good stays so, and a word that was refused for want of levels is passed.
use Rattle.std.proofs.Common.{◌≡◌, ℕ, zero, suc, ◌+◌, ◌<◌, ◌≤◌, Bool, true, false, max, nat_le, nat_lt, if◌then◌else◌, List, [], ◌∷◌, ◌++◌, Option, None, Some, length, refl, sym, ap, ◌∙◌, arith, inl, inr, subst, codes, le_trans}
use Rattle.std.specs.Str.{bytes_eq}
use Rattle.std.proofs.lemmas.Bool.{cases_Bool}
use Rattle.std.proofs.lemmas.Bool.Decides.{nat_tests}
use Rattle.vwords.specs.Words.{Text}
use Rattle.vast.specs.Expressions.{ExpressionTree, name, bit, part, parentheses, concatenation, replication, conversion, apply, combine, conditional, depth, rank, unary_rank}
use Rattle.vwords.specs.declared.operators.BinaryOperator.{BinaryOperator}
use Rattle.vexpr_parse.specs.declared.beginning.Beginning.{Beginning}
use Rattle.vexpr_parse.specs.declared.beginning.Beginning.TheVariants as start
use Rattle.vexpr_parse.specs.declared.beginning.Round.TheVariants as round
use Rattle.vexpr_parse.specs.declared.stop.Stop.TheVariants.{NoTree, TooDeep}
use Rattle.vexpr_parse.specs.Readers.{Answer, got, stop, Reader, front, is_front, and_then, Lead, goes, refused, lower, follow, by_word, room, past, choose, rounds, turns}
use Rattle.vexpr_parse.specs.Words.{beginning_of, binary_of, is_joined, is_asked, ends}
use Rattle.vexpr_parse.specs.Reading.{Below, trees_in, one_more, parts, rest_of_replication, rest_of_concatenation, braces, rest_of_parentheses, part_of, index_lead, rest_of_select, select_lead, rest_of_name, primary_by, primary_lead, primary, operator_by, operator_lead, operator, branches, question_lead, question, onward, expression_by, expression}
use Rattle.vexpr_parse.specs.Lawful.{rest_of}
use Rattle.vast.proofs.ExpressionLemmas.{depth_positive}
use Rattle.vexpr_parse.proofs.ReaderRules.{chosen, passed_over, keeps, stop_got, got_tree, parts_of}
use Rattle.vexpr_parse.proofs.Sound.{right_enough, expression_depth, primary_depth}
use Rattle.vexpr_parse.proofs.ExpressionRules.{expression_rule}

-- what a reader leaves is no more than what there was

abbrev pub Keeps : {A : Type 0} → Reader A → Type 0
Keeps read = (words : List Text) → length (rest_of (read words)) ≤ length words

no_more : (n : ℕ) → n ≤ n
no_more n = omega arith

one_fewer : (a b : ℕ) → a ≤ b → a ≤ suc b
one_fewer a b e = omega arith

pub got_keep : {A : Type 0} (tree : A) → Keeps (got tree)
got_keep tree words = no_more (length words)

pub then_keep : {A B : Type 0} (words : List Text) (a : Answer A) (next : A → Reader B) → length (rest_of a) ≤ length words →
    ((one : A) → Keeps (next one)) → length (rest_of (and_then a next)) ≤ length words
then_keep words (got one left) next e k = le_trans {n = length (rest_of (next one left))} {m = length left} {k = length words} (k one left) e
then_keep words (stop why left) next e k = e

abbrev pub LeadKeeps : {A : Type 0} → Lead A → Type 0
LeadKeeps (goes read) = Keeps read
LeadKeeps refused = Unit {0}
LeadKeeps lower = Unit {0}

pub led_keep : {A : Type 0} (lead : Text → Lead A) → ((word : Text) → LeadKeeps (lead word)) → Keeps (by_word lead)
led_keep lead k [] = no_more 0
led_keep {A = A} lead k (word ∷ words) = by_lead (lead word) (k word)
  where
    by_lead : (l : Lead A) → LeadKeeps l → length (rest_of (follow l word words)) ≤ suc (length words)
    by_lead (goes read) k = one_fewer (length (rest_of (read words))) (length words) (k words)
    by_lead refused k = no_more (suc (length words))
    by_lead lower k = no_more (suc (length words))

pub if_keep : {A : Type 0} (test : Bool) (one other : Lead A) → LeadKeeps one → LeadKeeps other → LeadKeeps (if test then one else other)
if_keep true one other p q = p
if_keep false one other p q = q

pub past_keep : {A : Type 0} (text : Text) (read : Reader A) → Keeps read → Keeps (past text read)
past_keep text read k = led_keep (λ word. if bytes_eq text word then goes read else refused)
    (λ word. if_keep (bytes_eq text word) (goes read) refused k tt)

pub choose_keep : {A : Type 0} (test : Option Text → Bool) (one other : Reader A) → Keeps one → Keeps other → Keeps (choose test one other)
choose_keep test one other p q words = by_test (test (front words))
  where
    by_test : (b : Bool) → length (rest_of (if b then one words else other words)) ≤ length words
    by_test true = p words
    by_test false = q words

module _ {A : Type 0} (turn : A → Reader A) (test : Option Text → Bool) (k : (tree : A) → Keeps (turn tree)) where
  pub rounds_keep : (fuel : ℕ) (tree : A) → Keeps (rounds turn test fuel tree)
  rounds_keep zero tree words = no_more (length words)
  rounds_keep (suc fuel) tree words = by_test (test (front words))
      (then_keep words (turn tree words) (rounds turn test fuel) (k tree words) (rounds_keep fuel))
    where
      by_test : (b : Bool) → length (rest_of (and_then (turn tree words) (rounds turn test fuel))) ≤ length words →
          length (rest_of (if b then and_then (turn tree words) (rounds turn test fuel) else got tree words)) ≤ length words
      by_test true e = e
      by_test false e = no_more (length words)

-- one level more

abbrev pub Grows : {A : Type 0} → Answer A → Answer A → Type 0
Grows (got tree left) more = more ≡ got tree left
Grows (stop NoTree left) more = more ≡ stop NoTree left
Grows (stop TooDeep left) more = length (rest_of more) < length left

pub then_grows : {A B : Type 0} (a more : Answer A) (next next_more : A → Reader B) → Grows a more →
    ((one : A) (left : List Text) → a ≡ got one left → Grows (next one left) (next_more one left)) →
    ((one : A) → Keeps (next_more one)) → Grows (and_then a next) (and_then more next_more)
then_grows (got one left) more next next_more g n k = subst (λ m. Grows (next one left) (and_then m next_more)) (sym g) (n one left refl)
then_grows (stop NoTree left) more next next_more g n k = ap (λ m. and_then m next_more) g
then_grows {A = A} (stop TooDeep left) more next next_more g n k = passed more g
  where
    fewer : (a b c : ℕ) → a ≤ b → b < c → a < c
    fewer a b c e f = omega arith

    passed : (m : Answer A) → length (rest_of m) < length left → length (rest_of (and_then m next_more)) < length left
    passed (got one ws) e = fewer (length (rest_of (next_more one ws))) (length ws) (length left) (k one ws) e
    passed (stop why ws) e = e

abbrev pub LeadGrows : {A : Type 0} → Lead A → Lead A → Type 0
LeadGrows (goes read) (goes more) = (words : List Text) → Grows (read words) (more words)
LeadGrows (goes read) refused = ⊥
LeadGrows (goes read) lower = ⊥
LeadGrows refused refused = Unit {0}
LeadGrows refused (goes more) = ⊥
LeadGrows refused lower = ⊥
LeadGrows lower (goes more) = Keeps more
LeadGrows lower refused = ⊥
LeadGrows lower lower = ⊥

pub led_grows : {A : Type 0} (lead more : Text → Lead A) → ((word : Text) → LeadGrows (lead word) (more word)) → (words : List Text) →
    Grows (by_word lead words) (by_word more words)
led_grows lead more g [] = refl
led_grows {A = A} lead more g (word ∷ words) = by_leads (lead word) (more word) (g word)
  where
    below_next : (a b : ℕ) → a ≤ b → a < suc b
    below_next a b e = omega arith

    by_leads : (l m : Lead A) → LeadGrows l m → Grows (follow l word words) (follow m word words)
    by_leads (goes read) (goes next) g = g words
    by_leads (goes read) refused g = absurd g
    by_leads (goes read) lower g = absurd g
    by_leads refused refused g = refl
    by_leads refused (goes next) g = absurd g
    by_leads refused lower g = absurd g
    by_leads lower (goes next) g = below_next (length (rest_of (next words))) (length words) (g words)
    by_leads lower refused g = absurd g
    by_leads lower lower g = absurd g

pub if_grows : {A : Type 0} (test : Bool) (one other more more_other : Lead A) → (test ≡ true → LeadGrows one more) →
    LeadGrows other more_other →
    LeadGrows (if test then one else other) (if test then more else more_other)
if_grows true one other more more_other p q = p refl
if_grows false one other more more_other p q = q

pub past_grows : {A : Type 0} (text : Text) (read more : Reader A) → ((words : List Text) → Grows (read words) (more words)) →
    (words : List Text) → Grows (past text read words) (past text more words)
past_grows text read more g =
    led_grows (λ word. if bytes_eq text word then goes read else refused) (λ word. if bytes_eq text word then goes more else refused)
    (λ word. if_grows (bytes_eq text word) (goes read) refused (goes more) refused (λ e. g) tt)

-- room for so many levels, or for one level more where a level more is there
room_grows : {A : Type 0} (below levels : ℕ) (read more : Reader A) → nat_le levels (suc below) ≡ true →
    (nat_le levels below ≡ true → (words : List Text) → Grows (read words) (more words)) → Keeps more →
    LeadGrows (room below levels (goes read)) (room (suc below) levels (goes more))
room_grows below levels read more e g k = by_tests (nat_le levels below) (nat_le levels (suc below)) e g
  where
    by_tests : (b c : Bool) → c ≡ true → (b ≡ true → (words : List Text) → Grows (read words) (more words)) →
        LeadGrows (if b then goes read else lower) (if c then goes more else lower)
    by_tests true true e g = g refl
    by_tests false true e g = k
    by_tests b false e g = let clash : false ≡ true = e in absurd cc

pub choose_grows : {A : Type 0} (test : Option Text → Bool) (one other more more_other : Reader A) (words : List Text) →
    Grows (one words) (more words) → Grows (other words) (more_other words) →
    Grows (choose test one other words) (choose test more more_other words)
choose_grows test one other more more_other words p q = by_test (test (front words))
  where
    by_test : (b : Bool) → Grows (if b then one words else other words) (if b then more words else more_other words)
    by_test true = p
    by_test false = q

module _ {A : Type 0} (I : A → Type 0) (turn more : A → Reader A) (test : Option Text → Bool)
    (g : (tree : A) (words : List Text) → I tree → Grows (turn tree words) (more tree words))
    (kept : (tree : A) (words : List Text) (next : A) (left : List Text) → I tree → turn tree words ≡ got next left → I next)
    (k : (tree : A) → Keeps (more tree)) where
  pub rounds_grow : (fuel : ℕ) (tree : A) (words : List Text) → I tree →
      Grows (rounds turn test fuel tree words) (rounds more test fuel tree words)
  rounds_grow zero tree words i = refl
  rounds_grow (suc fuel) tree words i =
      by_test (test (front words))
      (then_grows (turn tree words) (more tree words) (rounds turn test fuel) (rounds more test fuel) (g tree words i)
      (λ next left e. rounds_grow fuel next left (kept tree words next left i e))
      (rounds_keep more test k fuel))
    where
      by_test : (b : Bool) → Grows (and_then (turn tree words) (rounds turn test fuel))
          (and_then (more tree words) (rounds more test fuel)) →
          Grows (if b then and_then (turn tree words) (rounds turn test fuel) else got tree words)
          (if b then and_then (more tree words) (rounds more test fuel) else got tree words)
      by_test true e = e
      by_test false e = refl

-- the rules, with readers of a level less and with readers of a level more

module _ (read more : Below) (g : (least : ℕ) (words : List Text) → Grows (read least words) (more least words))
    (k : (least : ℕ) → Keeps (more least)) where
  closed_grows : (text : Text) (tree : ExpressionTree) (words : List Text) → Grows (past text (got tree) words) (past text (got tree) words)
  closed_grows text tree = past_grows text (got tree) (got tree) (λ words. refl)

  closed_keep : (text : Text) (tree : ExpressionTree) → Keeps (past text (got tree))
  closed_keep text tree = past_keep text (got tree) (got_keep tree)

  enclosed_grows : (make : ExpressionTree → ExpressionTree) (words : List Text) →
      Grows (rest_of_parentheses read make words) (rest_of_parentheses more make words)
  enclosed_grows make words =
      then_grows (read 0 words) (more 0 words) (λ tree. past (codes ")") (got (make tree))) (λ tree. past (codes ")") (got (make tree)))
      (g 0 words)
      (λ one left e. closed_grows (codes ")") (make one) left) (λ one. closed_keep (codes ")") (make one))

  part_grows : (letters : Text) (left : ExpressionTree) (words : List Text) →
      Grows (part_of read letters left words) (part_of more letters left words)
  part_grows letters left words =
      then_grows (read 0 words) (more 0 words) (λ right. past (codes "]") (got (part letters left right))) (λ right. past (codes "]")
      (got (part letters left right))) (g 0 words)
      (λ right rest e. closed_grows (codes "]") (part letters left right) rest) (λ right. closed_keep (codes "]") (part letters left right))

  part_keep : (letters : Text) (left : ExpressionTree) → Keeps (part_of more letters left)
  part_keep letters left words = then_keep words (more 0 words) (λ right. past (codes "]") (got (part letters left right))) (k 0 words)
      (λ right. closed_keep (codes "]") (part letters left right))

  selected_grows : (letters : Text) (words : List Text) → Grows (rest_of_select read letters words) (rest_of_select more letters words)
  selected_grows letters words =
      then_grows (read 0 words) (more 0 words) (λ index. by_word (index_lead read letters index)) (λ index. by_word (index_lead more letters index))
      (g 0 words)
      (λ index left e. led_grows (index_lead read letters index) (index_lead more letters index)
      (λ word. if_grows (bytes_eq (codes "]") word) (goes (got (bit letters index))) _ (goes (got (bit letters index))) _ (λ e ws. refl)
      (if_grows (bytes_eq (codes ":") word) (goes (part_of read letters index)) refused (goes (part_of more letters index)) refused
      (λ e. part_grows letters index) tt)) left)
      index_keep
    where
      index_keep : (index : ExpressionTree) → Keeps (by_word (index_lead more letters index))
      index_keep index =
          led_keep (index_lead more letters index)
          (λ word. if_keep (bytes_eq (codes "]") word) (goes (got (bit letters index))) _ (got_keep (bit letters index))
          (if_keep (bytes_eq (codes ":") word) (goes (part_of more letters index)) refused (part_keep letters index) tt))

  selected_keep : (letters : Text) → Keeps (rest_of_select more letters)
  selected_keep letters words =
      then_keep words (more 0 words) (λ index. by_word (index_lead more letters index)) (k 0 words)
      (λ index. led_keep (index_lead more letters index)
      (λ word. if_keep (bytes_eq (codes "]") word) (goes (got (bit letters index))) _ (got_keep (bit letters index))
      (if_keep (bytes_eq (codes ":") word) (goes (part_of more letters index)) refused (part_keep letters index) tt)))

  one_more_grows : (trees : List ExpressionTree) (words : List Text) → Grows (one_more read trees words) (one_more more trees words)
  one_more_grows trees =
      past_grows (codes ",") (λ words. and_then (read 0 words) (λ tree. got (trees ++ tree ∷ [])))
      (λ words. and_then (more 0 words) (λ tree. got (trees ++ tree ∷ [])))
      (λ words. then_grows (read 0 words) (more 0 words) (λ tree. got (trees ++ tree ∷ [])) (λ tree. got (trees ++ tree ∷ [])) (g 0 words)
      (λ one left e. refl) (λ one. got_keep (trees ++ one ∷ [])))

  one_more_keep : (trees : List ExpressionTree) → Keeps (one_more more trees)
  one_more_keep trees =
      past_keep (codes ",") (λ words. and_then (more 0 words) (λ tree. got (trees ++ tree ∷ [])))
      (λ words. then_keep words (more 0 words) (λ tree. got (trees ++ tree ∷ [])) (k 0 words) (λ one. got_keep (trees ++ one ∷ [])))

  list_grows : (trees : List ExpressionTree) (words : List Text) →
      Grows (turns (one_more read) (is_front (codes ",")) trees words) (turns (one_more more) (is_front (codes ",")) trees words)
  list_grows trees words =
      rounds_grow (λ t. Unit {0}) (one_more read) (one_more more) (is_front (codes ",")) (λ t ws i. one_more_grows t ws)
      (λ t ws n l i e. tt) one_more_keep (suc (length words)) trees words tt

  list_keep : (trees : List ExpressionTree) → Keeps (turns (one_more more) (is_front (codes ",")) trees)
  list_keep trees words = rounds_keep (one_more more) (is_front (codes ",")) one_more_keep (suc (length words)) trees words

  braces_grow : (words : List Text) → Grows (braces read words) (braces more words)
  braces_grow words =
      then_grows (read 0 words) (more 0 words) (λ tree. choose (is_front (codes "{")) (rest_of_replication read tree) (rest_of_concatenation read tree))
      (λ tree. choose (is_front (codes "{")) (rest_of_replication more tree) (rest_of_concatenation more tree))
      (g 0 words) (λ tree left e. choose_grows (is_front (codes "{")) (rest_of_replication read tree) (rest_of_concatenation read tree) (rest_of_replication more tree)
      (rest_of_concatenation more tree) left (repeated_grows tree left) (joined_grows tree left)) after_keep
    where
      after_parts : ExpressionTree → List ExpressionTree → Reader ExpressionTree
      after_parts count trees = past (codes "}") (past (codes "}") (got (replication count (trees_in trees))))

      parts_grow : (ws : List Text) → Grows (parts read ws) (parts more ws)
      parts_grow ws =
          then_grows (read 0 ws) (more 0 ws) (λ tree. turns (one_more read) (is_front (codes ",")) (tree ∷ []))
          (λ tree. turns (one_more more) (is_front (codes ",")) (tree ∷ [])) (g 0 ws)
          (λ tree left e. list_grows (tree ∷ []) left) (λ tree. list_keep (tree ∷ []))

      parts_keep : Keeps (parts more)
      parts_keep ws = then_keep ws (more 0 ws) (λ tree. turns (one_more more) (is_front (codes ",")) (tree ∷ [])) (k 0 ws)
          (λ tree. list_keep (tree ∷ []))

      repeated_grows : (count : ExpressionTree) (ws : List Text) → Grows (rest_of_replication read count ws) (rest_of_replication more count ws)
      repeated_grows count =
          past_grows (codes "{") (λ ws. and_then (parts read ws) (λ trees. past (codes "}") (past (codes "}")
          (got (replication count (trees_in trees))))))
          (λ ws. and_then (parts more ws) (λ trees. past (codes "}") (past (codes "}") (got (replication count (trees_in trees))))))
          (λ ws. then_grows (parts read ws) (parts more ws) (λ trees. past (codes "}") (past (codes "}")
          (got (replication count (trees_in trees)))))
          (λ trees. past (codes "}") (past (codes "}") (got (replication count (trees_in trees))))) (parts_grow ws)
          (λ trees left e. past_grows (codes "}") (past (codes "}") (got (replication count (trees_in trees)))) (past (codes "}")
          (got (replication count (trees_in trees))))
          (closed_grows (codes "}") (replication count (trees_in trees))) left)
          (λ trees. past_keep (codes "}") (past (codes "}") (got (replication count (trees_in trees)))) (closed_keep (codes "}")
          (replication count (trees_in trees)))))

      joined_grows : (tree : ExpressionTree) (ws : List Text) → Grows (rest_of_concatenation read tree ws) (rest_of_concatenation more tree ws)
      joined_grows tree ws =
          then_grows (turns (one_more read) (is_front (codes ",")) (tree ∷ []) ws)
          (turns (one_more more) (is_front (codes ",")) (tree ∷ []) ws)
          (λ trees. past (codes "}") (got (concatenation (trees_in trees)))) (λ trees. past (codes "}")
          (got (concatenation (trees_in trees)))) (list_grows (tree ∷ []) ws)
          (λ trees left e. closed_grows (codes "}") (concatenation (trees_in trees)) left) (λ trees. closed_keep (codes "}")
          (concatenation (trees_in trees)))

      after_keep : (tree : ExpressionTree) → Keeps (choose (is_front (codes "{")) (rest_of_replication more tree) (rest_of_concatenation more tree))
      after_keep tree =
          choose_keep (is_front (codes "{")) (rest_of_replication more tree) (rest_of_concatenation more tree)
          (past_keep (codes "{") (λ ws. and_then (parts more ws) (λ trees. past (codes "}") (past (codes "}")
          (got (replication tree (trees_in trees))))))
          (λ ws. then_keep ws (parts more ws) (λ trees. past (codes "}") (past (codes "}") (got (replication tree (trees_in trees)))))
          (parts_keep ws)
          (λ trees. past_keep (codes "}") (past (codes "}") (got (replication tree (trees_in trees)))) (closed_keep (codes "}")
          (replication tree (trees_in trees))))))
          (λ ws. then_keep ws (turns (one_more more) (is_front (codes ",")) (tree ∷ []) ws) (λ trees. past (codes "}")
          (got (concatenation (trees_in trees)))) (list_keep (tree ∷ []) ws)
          (λ trees. closed_keep (codes "}") (concatenation (trees_in trees))))

  branches_grow : (condition : ExpressionTree) (words : List Text) → Grows (branches read condition words) (branches more condition words)
  branches_grow condition words =
      then_grows (read 0 words) (more 0 words) (λ when_true. past (codes ":")
      (λ left. and_then (read 0 left) (λ when_false. got (conditional condition when_true when_false))))
      (λ when_true. past (codes ":") (λ left. and_then (more 0 left) (λ when_false. got (conditional condition when_true when_false))))
      (g 0 words)
      (λ when_true rest e. past_grows (codes ":") _ _
      (λ left. then_grows (read 0 left) (more 0 left) (λ when_false. got (conditional condition when_true when_false))
      (λ when_false. got (conditional condition when_true when_false)) (g 0 left)
      (λ one ws e. refl) (λ one. got_keep (conditional condition when_true one))) rest)
      (λ when_true. past_keep (codes ":") (λ left. and_then (more 0 left) (λ when_false. got (conditional condition when_true when_false)))
      (λ left. then_keep left (more 0 left) (λ when_false. got (conditional condition when_true when_false)) (k 0 left)
      (λ one. got_keep (conditional condition when_true one))))

-- a level up

module _ (below : ℕ) (read more : Below) (g : nat_le 1 below ≡ true → (least : ℕ) (words : List Text) →
    Grows (read least words) (more least words)) (k : (least : ℕ) → Keeps (more least))
    (within : (least : ℕ) → nat_le least unary_rank ≡ true → (words : List Text) (tree : ExpressionTree) (left : List Text) →
    read least words ≡ got tree left → nat_le (depth tree) below ≡ true) where
  one_within : (n : ℕ) → nat_le 1 (suc n) ≡ true
  one_within n = grind (arith, nat_tests)

  enclosed_keep : (make : ExpressionTree → ExpressionTree) → Keeps (rest_of_parentheses more make)
  enclosed_keep make words = then_keep words (more 0 words) (λ tree. past (codes ")") (got (make tree))) (k 0 words)
      (λ tree. past_keep (codes ")") (got (make tree)) (got_keep (make tree)))

  selected_keeps : (letters : Text) → Keeps (rest_of_select more letters)
  selected_keeps letters words = then_keep words (more 0 words) (λ index. by_word (index_lead more letters index)) (k 0 words)
      (λ index. led_keep (index_lead more letters index)
      (λ word. if_keep (bytes_eq (codes "]") word) (goes (got (bit letters index))) _ (got_keep (bit letters index))
      (if_keep (bytes_eq (codes ":") word) (goes (part_of more letters index)) refused
      (λ ws. then_keep ws (more 0 ws) (λ right. past (codes "]") (got (part letters index right))) (k 0 ws)
      (λ right. past_keep (codes "]") (got (part letters index right)) (got_keep (part letters index right)))) tt)))

  select_grows : (letters word : Text) → LeadGrows (select_lead below read letters word) (select_lead (suc below) more letters word)
  select_grows letters word =
      if_grows (bytes_eq (codes "[") word) _ refused _ refused
      (λ e. room_grows below 1 (rest_of_select read letters) (rest_of_select more letters) (one_within below)
      (λ f. selected_grows read more (g f) k letters) (selected_keeps letters)) tt

  named_grows : (letters : Text) (words : List Text) → Grows (rest_of_name below read letters words) (rest_of_name (suc below) more letters words)
  named_grows letters words =
      choose_grows (is_front (codes "[")) (by_word (select_lead below read letters)) (got (name letters))
      (by_word (select_lead (suc below) more letters)) (got (name letters)) words
      (led_grows (select_lead below read letters) (select_lead (suc below) more letters) (select_grows letters) words) refl

  braces_keeps : Keeps (braces more)
  braces_keeps words =
      then_keep words (more 0 words) (λ tree. choose (is_front (codes "{")) (rest_of_replication more tree) (rest_of_concatenation more tree)) (k 0 words)
      (λ tree. choose_keep (is_front (codes "{")) (rest_of_replication more tree) (rest_of_concatenation more tree)
      (past_keep (codes "{") (λ ws. and_then (parts more ws) (λ trees. past (codes "}") (past (codes "}")
      (got (replication tree (trees_in trees))))))
      (λ ws. then_keep ws (parts more ws) (λ trees. past (codes "}") (past (codes "}") (got (replication tree (trees_in trees)))))
      (then_keep ws (more 0 ws) (λ one. turns (one_more more) (is_front (codes ",")) (one ∷ [])) (k 0 ws)
      (λ one. lists_keep (one ∷ [])))
      (λ trees. past_keep (codes "}") (past (codes "}") (got (replication tree (trees_in trees)))) (past_keep (codes "}")
      (got (replication tree (trees_in trees))) (got_keep (replication tree (trees_in trees)))))))
      (λ ws. then_keep ws (turns (one_more more) (is_front (codes ",")) (tree ∷ []) ws) (λ trees. past (codes "}")
      (got (concatenation (trees_in trees)))) (lists_keep (tree ∷ []) ws)
      (λ trees. past_keep (codes "}") (got (concatenation (trees_in trees))) (got_keep (concatenation (trees_in trees))))))
    where
      lists_keep : (trees : List ExpressionTree) → Keeps (turns (one_more more) (is_front (codes ",")) trees)
      lists_keep trees words =
          rounds_keep (one_more more) (is_front (codes ","))
          (λ ts. past_keep (codes ",") (λ ws. and_then (more 0 ws) (λ tree. got (ts ++ tree ∷ [])))
          (λ ws. then_keep ws (more 0 ws) (λ tree. got (ts ++ tree ∷ [])) (k 0 ws) (λ one. got_keep (ts ++ one ∷ []))))
          (suc (length words)) trees words

  applied_keep : (o : _) → Keeps (λ words. and_then (more unary_rank words) (λ tree. got (apply o tree)))
  applied_keep o words = then_keep words (more unary_rank words) (λ tree. got (apply o tree)) (k unary_rank words)
      (λ one. got_keep (apply o one))

  primary_grows_by : (word : Text) (b : Beginning) → LeadGrows (primary_by below read word b) (primary_by (suc below) more word b)
  primary_grows_by word start.Number = λ words. refl
  primary_grows_by word start.Name = named_grows word
  primary_grows_by word start.Time = λ words. refl
  primary_grows_by word (start.Round round.Parenthesis) =
      room_grows below 1 (rest_of_parentheses read parentheses) (rest_of_parentheses more parentheses) (one_within below)
      (λ f. enclosed_grows read more (g f) k parentheses) (enclosed_keep parentheses)
  primary_grows_by word (start.Round round.Brace) = room_grows below 1 (braces read) (braces more) (one_within below)
      (λ f. braces_grow read more (g f) k) braces_keeps
  primary_grows_by word (start.Round (round.Conversion signed)) =
      room_grows below 1 (past (codes "(") (rest_of_parentheses read (conversion signed)))
      (past (codes "(") (rest_of_parentheses more (conversion signed))) (one_within below)
      (λ f. past_grows (codes "(") (rest_of_parentheses read (conversion signed)) (rest_of_parentheses more (conversion signed))
      (enclosed_grows read more (g f) k (conversion signed)))
      (past_keep (codes "(") (rest_of_parentheses more (conversion signed)) (enclosed_keep (conversion signed)))
  primary_grows_by word (start.Round (round.Operator o)) =
      room_grows below 1 (λ words. and_then (read unary_rank words) (λ tree. got (apply o tree)))
      (λ words. and_then (more unary_rank words) (λ tree. got (apply o tree))) (one_within below)
      (λ f words. then_grows (read unary_rank words) (more unary_rank words) (λ tree. got (apply o tree)) (λ tree. got (apply o tree))
      (g f unary_rank words) (λ one left e. refl) (λ one. got_keep (apply o one)))
      (applied_keep o)
  primary_grows_by word start.Other = tt

  primary_grows : (words : List Text) → Grows (primary below read words) (primary (suc below) more words)
  primary_grows = led_grows (primary_lead below read) (primary_lead (suc below) more) (λ word. primary_grows_by word (beginning_of word))

  -- left sides are within the levels
  abbrev I : ExpressionTree → Type 0
  I tree = nat_le (depth tree) (suc below) ≡ true

  right_keep : (o : BinaryOperator) (left : ExpressionTree) → Keeps
      (λ words. and_then (more (suc (rank o)) words) (λ right. got (combine o left right)))
  right_keep o left words = then_keep words (more (suc (rank o)) words) (λ right. got (combine o left right)) (k (suc (rank o)) words)
      (λ right. got_keep (combine o left right))

  some_level : (tree : ExpressionTree) → nat_le (depth tree) below ≡ true → nat_le 1 below ≡ true
  some_level tree e = at_least_one (depth tree) below (depth_positive tree) e
    where
      at_least_one : (d b : ℕ) → 0 < d → nat_le d b ≡ true → nat_le 1 b ≡ true
      at_least_one d b p e = grind (arith, nat_tests)

  operator_grows : (least : ℕ) (left : ExpressionTree) (words : List Text) → I left →
      Grows (operator below read least left words) (operator (suc below) more least left words)
  operator_grows least left words i = led_grows (operator_lead below read least left) (operator_lead (suc below) more least left)
      (λ word. by_operator (binary_of word)) words
    where
      by_operator : (o : Option BinaryOperator) → LeadGrows (operator_by below read least left o)
          (operator_by (suc below) more least left o)
      by_operator None = tt
      by_operator (Some o) =
          if_grows (nat_le least (rank o)) _ refused _ refused
          (λ e. room_grows below (depth left) (λ words. and_then (read (suc (rank o)) words) (λ right. got (combine o left right)))
          (λ words. and_then (more (suc (rank o)) words) (λ right. got (combine o left right))) i
          (λ f words. then_grows (read (suc (rank o)) words) (more (suc (rank o)) words) (λ right. got (combine o left right))
          (λ right. got (combine o left right))
          (g (some_level left f) (suc (rank o)) words) (λ right rest e. refl) (λ right. got_keep (combine o left right)))
          (right_keep o left)) tt

  operator_keep : (least : ℕ) (left : ExpressionTree) → Keeps (operator (suc below) more least left)
  operator_keep least left = led_keep (operator_lead (suc below) more least left) (λ word. by_operator (binary_of word))
    where
      by_operator : (o : Option BinaryOperator) → LeadKeeps (operator_by (suc below) more least left o)
      by_operator None = tt
      by_operator (Some o) = if_keep (nat_le least (rank o)) _ refused
          (if_keep (nat_le (depth left) (suc below)) _ lower (right_keep o left) tt) tt

  operator_within : (least : ℕ) (left : ExpressionTree) (words : List Text) (next : ExpressionTree) (rest : List Text) → I left →
      operator below read least left words ≡ got next rest → I next
  operator_within least left [] next rest i e = absurd (stop_got e)
  operator_within least left (word ∷ words) next rest i e = by_operator (binary_of word) e
    where
      both_deeper : (c d n : ℕ) → nat_le c n ≡ true → nat_le d n ≡ true → nat_le (1 + max c d) (suc n) ≡ true
      both_deeper c d n e f = grind (arith, nat_tests)

      rank_enough : (r : ℕ) → nat_lt r unary_rank ≡ true → nat_le (suc r) unary_rank ≡ true
      rank_enough r e = grind (arith, nat_tests)

      by_room : (o : BinaryOperator) (b : Bool) → (b ≡ true → nat_le (depth left) below ≡ true) →
          follow (if b then goes (λ words. and_then (read (suc (rank o)) words)
          (λ right. got (combine o left right))) else lower) word words ≡ got next rest → I next
      by_room o false f e = absurd (stop_got e)
      by_room o true f e =
          let p = parts_of (read (suc (rank o)) words) (λ right. got (combine o left right)) next rest e in
          subst I (got_tree p.second) (both_deeper (depth left) (depth p.one) below (f refl)
          (within (suc (rank o)) (rank_enough (rank o) (right_enough o)) words p.one p.between p.first))

      by_rank : (o : BinaryOperator) (b : Bool) →
          follow (if b then room below (depth left) (goes (λ words. and_then (read (suc (rank o)) words)
          (λ right. got (combine o left right)))) else refused) word words ≡ got next rest → I next
      by_rank o false e = absurd (stop_got e)
      by_rank o true e = by_room o (nat_le (depth left) below) (λ f. f) e

      by_operator : (o : Option BinaryOperator) → follow (operator_by below read least left o) word words ≡ got next rest → I next
      by_operator None e = absurd (stop_got e)
      by_operator (Some o) e = by_rank o (nat_le least (rank o)) e

  branches_keep : (condition : ExpressionTree) → Keeps (branches more condition)
  branches_keep condition words =
      then_keep words (more 0 words) (λ when_true. past (codes ":")
      (λ left. and_then (more 0 left) (λ when_false. got (conditional condition when_true when_false)))) (k 0 words)
      (λ when_true. past_keep (codes ":") (λ left. and_then (more 0 left) (λ when_false. got (conditional condition when_true when_false)))
      (λ left. then_keep left (more 0 left) (λ when_false. got (conditional condition when_true when_false)) (k 0 left)
      (λ one. got_keep (conditional condition when_true one))))

  question_grows : (least : ℕ) (condition : ExpressionTree) (words : List Text) → I condition →
      Grows (question below read least condition words) (question (suc below) more least condition words)
  question_grows least condition words i =
      choose_grows (is_asked least) (by_word (question_lead below read least condition)) (got condition)
      (by_word (question_lead (suc below) more least condition)) (got condition) words
      (led_grows (question_lead below read least condition) (question_lead (suc below) more least condition)
      (λ word. if_grows (is_asked least (Some word)) _ refused _ refused
      (λ e. room_grows below (depth condition) (branches read condition) (branches more condition) i
      (λ f. branches_grow read more (g (some_level condition f)) k condition) (branches_keep condition)) tt) words)
      refl

  question_keep : (least : ℕ) (condition : ExpressionTree) → Keeps (question (suc below) more least condition)
  question_keep least condition =
      choose_keep (is_asked least) (by_word (question_lead (suc below) more least condition)) (got condition)
      (led_keep (question_lead (suc below) more least condition)
      (λ word. if_keep (is_asked least (Some word)) _ refused
      (if_keep (nat_le (depth condition) (suc below)) _ lower (branches_keep condition) tt) tt))
      (got_keep condition)

  turns_within : (least fuel : ℕ) (tree : ExpressionTree) (words : List Text) (last : ExpressionTree) (left : List Text) → I tree →
      rounds (operator below read least) (is_joined least) fuel tree words ≡ got last left → I last
  turns_within least zero tree words last left i e = absurd (stop_got e)
  turns_within least (suc fuel) tree words last left i e =
      elim (cases_Bool (is_joined least (front words))) [
        | inl holds ↦
            let p = parts_of (operator below read least tree words) (rounds (operator below read least) (is_joined least) fuel) last left
            (sym (chosen (is_joined least (front words)) _ _ holds) ∙ e) in
            turns_within least fuel p.one p.between last left (operator_within least tree words p.one p.between i p.first) p.second
        | inr fails ↦
            subst I (got_tree (sym (passed_over (is_joined least (front words))
            (and_then (operator below read least tree words) (rounds (operator below read least) (is_joined least) fuel)) _ fails)
            ∙ e)) i
      ]

  by_grows : (primary_within : (words : List Text) (tree : ExpressionTree) (left : List Text) → primary below read words ≡ got tree left →
      I tree) (least : ℕ) (words : List Text) →
      Grows (expression_by below read least words) (expression_by (suc below) more least words)
  by_grows primary_within least words =
      then_grows (primary below read words) (primary (suc below) more words) (onward below read least) (onward (suc below) more least)
      (primary_grows words)
      (λ one left e.
      let i = primary_within words one left e in
      then_grows (turns (operator below read least) (is_joined least) one left)
      (turns (operator (suc below) more least) (is_joined least) one left) (question below read least)
      (question (suc below) more least)
      (rounds_grow I (operator below read least) (operator (suc below) more least) (is_joined least) (operator_grows least)
      (λ t ws n l i e. operator_within least t ws n l i e) (operator_keep least)
      (suc (length left)) one left i)
      (λ last rest f. question_grows least last rest (turns_within least (suc (length left)) one left last rest i f))
      (question_keep least))
      (λ one words. then_keep words (turns (operator (suc below) more least) (is_joined least) one words) (question (suc below) more least)
      (rounds_keep (operator (suc below) more least) (is_joined least) (operator_keep least) (suc (length words)) one words)
      (question_keep least))

pub expression_keep : (levels least : ℕ) → Keeps (expression levels least)
unfolding expression
expression_keep zero least words = no_more (length words)
expression_keep (suc below) least words = keeps (expression (suc below) least) (ends least) words (expression (suc below) least words)
    ((expression_rule below least).lawful words)

-- an expression of one level more
pub expression_grows : (below least : ℕ) (words : List Text) → Grows (expression (suc below) least words)
    (expression (suc (suc below)) least words)
unfolding expression
expression_grows zero least words =
    by_grows zero (expression zero) (expression 1) (λ e. let clash : false ≡ true = e in absurd cc) (expression_keep 1)
    (expression_depth zero) (primary_depth zero) least words
expression_grows (suc below) least words =
    by_grows (suc below) (expression (suc below)) (expression (suc (suc below))) (λ e. expression_grows below)
    (expression_keep (suc (suc below))) (expression_depth (suc below)) (primary_depth (suc below)) least words
