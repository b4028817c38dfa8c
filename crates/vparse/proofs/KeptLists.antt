-- Lists keep the tokens that their members keep.
use Rattle.std.proofs.Common.{◌≡◌, List, [], ◌∷◌, ◌++◌, Vec, Result, Ok, Err, IfOk, refl, ap, ◌∙◌}
use Rattle.std.specs.List.{flat_map}
use Rattle.basis.specs.declared.memory.OrMemory.{OrMemory}
use Rattle.vast.specs.declared.token.Token.{Token}
use Rattle.vlex.specs.Tokenized.{Tokenized}
use Rattle.vexpr_parse.specs.declared.cursor.Cursor.{Cursor}
use Rattle.vexpr_parse.specs.declared.stop.Stop.{Stop}
use Rattle.vexpr_parse.specs.Answers.{Keeps, leaves_ahead}
use Rattle.vparse.specs.ModuleGives.{Calls, KeepsCalls, KeepsListed, all_leaves}

-- with the first one, which was read before them
pub list_kept : {T R : Type 0} (leaves : T → List Token) (tokens : Tokenized) (call : Calls T) → KeepsCalls leaves tokens call →
    (first : T) (old between new : Cursor) (result : Result (Vec T R) (OrMemory Stop)) →
    leaves_ahead tokens old ≡ leaves first ++ leaves_ahead tokens between → KeepsListed tokens call first between new result →
    IfOk result (Keeps (all_leaves leaves) tokens old new)
list_kept leaves tokens call keeps first old between new (Ok all) e l = e ∙ l leaves keeps
list_kept leaves tokens call keeps first old between new (Err e) before l = tt

-- each name keeps itself
names_themselves : (names : List Token) → flat_map (λ name. name ∷ []) names ≡ names
names_themselves [] = refl
names_themselves (name ∷ names) = ap (λ ts. name ∷ ts) (names_themselves names)

pub names_kept : {R : Type 0} (tokens : Tokenized) (call : Calls Token) → KeepsCalls (λ name. name ∷ []) tokens call →
    (first : Token) (old between new : Cursor) (result : Result (Vec Token R) (OrMemory Stop)) →
    leaves_ahead tokens old ≡ first ∷ leaves_ahead tokens between → KeepsListed tokens call first between new result →
    IfOk result (Keeps (λ names. names.items) tokens old new)
names_kept tokens call keeps first old between new (Ok all) e l =
    e ∙ l (λ name. name ∷ []) keeps ∙ ap (λ ts. ts ++ leaves_ahead tokens new) (names_themselves all.items)
names_kept tokens call keeps first old between new (Err e) before l = tt
