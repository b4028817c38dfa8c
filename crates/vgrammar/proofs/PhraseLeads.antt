-- What is read by the first word.
use Rattle.std.proofs.Common.{◌≡◌, ℕ, Bool, true, false, nat_le, if◌then◌else◌, List, [], ◌∷◌, ◌++◌, refl, ap, ◌∙◌}
use Rattle.vwords.specs.Words.{Text}
use Rattle.vexpr_parse.specs.Readers.{got, Reader, front, Lead, goes, refused, lower, follow, by_word, room}
use Rattle.vexpr_parse.specs.Lawful.{Ends}
use Rattle.vexpr_parse.proofs.ReaderRules.{chosen, stop_got, then_got, IsLead}
use Rattle.vgrammar.specs.Parts.{map_tree}
use Rattle.vgrammar.proofs.Phrases.{Shape, IsGot, Sound, Phrase, Example, Makes, made_lawful, made_sound, made_complete}

abbrev pub LeadSound : {A : Type 0} → Shape A → Text → Lead A → Type 0
LeadSound {A = A} s word (goes read) =
    (words : List Text) (tree : A) (left : List Text) → read words ≡ got tree left → IsGot s (word ∷ words) tree left
LeadSound s word refused = Unit {0}
LeadSound s word lower = Unit {0}

pub led_sound : {A : Type 0} (lead : Text → Lead A) (s : Shape A) → ((word : Text) → LeadSound s word (lead word)) →
    Sound (by_word lead) s
led_sound lead s leads [] tree left e = absurd (stop_got e)
led_sound {A = A} lead s leads (word ∷ words) tree left e = by_lead (lead word) (leads word) e
  where
    by_lead : (l : Lead A) → LeadSound s word l → follow l word words ≡ got tree left → IsGot s (word ∷ words) tree left
    by_lead (goes read) f e = f words tree left e
    by_lead refused f e = absurd (stop_got e)
    by_lead lower f e = absurd (stop_got e)

pub if_sound : {A : Type 0} (s : Shape A) (word : Text) (test : Bool) (one other : Lead A) →
    (test ≡ true → LeadSound s word one) →
    LeadSound s word other → LeadSound s word (if test then one else other)
if_sound s word true one other p q = p refl
if_sound s word false one other p q = q

pub room_sound : {A : Type 0} (s : Shape A) (word : Text) (below levels : ℕ) (read : Reader A) →
    (nat_le levels below ≡ true → LeadSound s word (goes read)) → LeadSound s word (room below levels (goes read))
room_sound s word below levels read enough = if_sound s word (nat_le levels below) (goes read) lower enough tt

pub made_lead_sound : {A B : Type 0} (make : A → B) (word : Text) {read : Reader A} {ends : Ends} {shape : Shape A}
    (out : Shape B) →
    Makes make shape out (word ∷ []) → Phrase read ends shape → LeadSound out word (goes (map_tree make read))
made_lead_sound make word {read = read} {shape = shape} out m p = made_sound make read shape out (word ∷ []) m p.sound

pub made_lead : {A B : Type 0} (make : A → B) {read : Reader A} {ends : Ends} {shape : Shape A} → Phrase read ends shape →
    Example shape →
    IsLead ends (goes (map_tree make read))
made_lead make {read = read} {ends = ends} {shape = shape} p e = (
  made_lawful make read ends p.lawful,
  (
    shape.spell e.tree,
    (
      make e.tree,
      λ rest f. then_got (read (shape.spell e.tree ++ rest)) (λ t. got (make t)) e.tree rest
          (p.complete e.tree rest e.valid (p.closed e.tree (front rest) f)),
    ),
  ),
)

-- a tree is read behind its word
pub led_complete : {A B : Type 0} (lead : Text → Lead B) (make : A → B)
    (word : Text) {read : Reader A} {ends : Ends} {shape : Shape A}
    (out : Shape B) → Makes make shape out (word ∷ []) → Phrase read ends shape → lead word ≡ goes (map_tree make read) → (tree : A)
    (rest : List Text) → out.valid (make tree) ≡ true → out.closes (make tree) (front rest) ≡ true →
    by_word lead (out.spell (make tree) ++ rest) ≡ got (make tree) rest
led_complete lead make word {read = read} {shape = shape} out m p is tree rest v c =
    ap (λ ws. by_word lead (ws ++ rest)) (m.spelled tree)
    ∙ ap (λ l. follow l word (shape.spell tree ++ rest)) is
    ∙ made_complete make read shape out (word ∷ []) m p.complete tree rest v c

pub roomy_lead : {A : Type 0} (below levels : ℕ) (read : Reader A) → nat_le levels below ≡ true → room below levels (goes read)
    ≡ goes read
roomy_lead below levels read e = chosen (nat_le levels below) (goes read) lower e
