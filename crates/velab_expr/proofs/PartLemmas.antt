-- The parts of concatenations, and their nodes.
use Rattle.std.proofs.Common.{◌≡◌, ◌<◌, ◌≤◌, ℕ, zero, suc, ◌+◌, ◌-◌, Bool, false, List, [], ◌∷◌, ◌++◌, length, drop, get_or, Vec, Global, Box, Result, Ok, Err, refl, sym, ap, ◌∙◌, append_assoc, arith}
use Rattle.std.specs.Bool.{◌==◌}
use Rattle.std.proofs.Math.ListN.{drop_of_length-le}
use Rattle.vwords.specs.Words.{Text}
use Rattle.vast.specs.NumberedExpressions.{concatenation, replication}
use Rattle.vast.specs.NumberedTrees.{tree_of, trees_of}
use Rattle.vast.specs.declared.expression.Expression.{Expression, Concatenation, Replication}
use Rattle.vast.specs.NumberedWords.{word_of}
use Rattle.vast.proofs.ToldTrees.{told_concatenation, told_replication}
use Rattle.vdesign.specs.Expressions.{ExpressionTree, conversion, joined}
use Rattle.vdesign.specs.Nodes.{nodes_of}
use Rattle.vdesign.specs.declared.expression.Node.{Node}
use Rattle.vdesign.specs.declared.expression.Node.TheVariants.{Conversion, Joined}
use Rattle.velab_expr.specs.Answers.{◌>>=◌}
use Rattle.velab_expr.specs.declared.fault.ElabFault.{ElabFault}
use Rattle.velab_expr.specs.InnerParts.{before_part, nodes_behind}
use Rattle.velab_expr.specs.Resolved.{lower, lower_parts, count_of}
use Rattle.velab_expr.specs.Scopes.{Scope}
use Rattle.velab_expr.proofs.ListLemmas.{drop_at}

-- as many trees as parts
pub parts_counted : (words : List Text) (parts : List Expression) → count_of (trees_of words parts) ≡ length parts
parts_counted words [] = refl
parts_counted words (one ∷ more) = let rest = parts_counted words more in omega (arith, rest)

module _ (words : List Text) where
  module _ (e : Expression) (at : ℕ) (parts : Vec Expression Global) (items : List Expression) (is : e ≡ Concatenation at parts) (same : items ≡ parts.items) where
    pub concatenation_is : concatenation (trees_of words items) ≡ tree_of words e
    concatenation_is =
        ap (λ (xs : List Expression). concatenation (trees_of words xs)) same ∙ sym (ap (tree_of words) is ∙ told_concatenation (word_of words) at parts)

  module _ (e : Expression) (at : ℕ) (count : Box Expression Global) (parts : Vec Expression Global) (amount : Expression) (items : List Expression) (is : e ≡ Replication at count parts) (counted : amount ≡ count.value) (same : items ≡ parts.items) where
    pub replication_is : replication (tree_of words amount) (trees_of words items) ≡ tree_of words e
    replication_is =
        (λ i. replication (tree_of words (counted i)) (trees_of words (same i))) ∙ sym (ap (tree_of words) is ∙ told_replication (word_of words) at count parts)

  module _ (fixed : Bool) (scope : Scope) where
    -- these nodes, and behind them those of what is left of the parts
    abbrev pub parts_behind : List Node → List Expression → Result (List Node) ElabFault
    parts_behind done [] = Ok done
    parts_behind done (x ∷ xs) = nodes_behind done (lower_parts fixed scope (trees_of words (x ∷ xs)))

    first_behind : (done : List Node) (x : Expression) (xs : List Expression) →
        parts_behind done (x ∷ xs) ≡ (nodes_behind (done ++ before_part (length xs) ∷ []) (lower fixed scope (tree_of words x)) >>= λ next. parts_behind next xs)
    first_behind done x [] = by (lower fixed scope (tree_of words x))
      where
        by : (a : Result ExpressionTree ElabFault) →
            nodes_behind done (a >>= λ front. Ok (conversion false front)) ≡ (nodes_behind (done ++ Conversion false ∷ []) a >>= λ next. Ok next)
        by (Ok e) = ap Ok (sym (append_assoc done (Conversion false ∷ []) (nodes_of e)))
        by (Err fault) = refl
    first_behind done x (y ∷ ys) = by (lower fixed scope (tree_of words x)) (lower_parts fixed scope (trees_of words (y ∷ ys)))
      where
        by : (a b : Result ExpressionTree ElabFault) →
            nodes_behind done (a >>= λ front. b >>= λ others. Ok (joined front others)) ≡ (nodes_behind (done ++ Joined ∷ []) a >>= λ next. nodes_behind next b)
        by (Ok e) (Ok f) =
            ap Ok (sym (append_assoc (done ++ Joined ∷ []) (nodes_of e) (nodes_of f) ∙ append_assoc done (Joined ∷ []) (nodes_of e ++ nodes_of f)))
        by (Ok e) (Err fault) = refl
        by (Err fault) b = refl

    pub all_parts : (done : List Node) (xs : List Expression) → (length xs == 0) ≡ false → parts_behind done xs ≡ nodes_behind done (lower_parts fixed scope (trees_of words xs))
    all_parts done [] some = absurd cc
    all_parts done (x ∷ xs) some = refl

    pub none_behind : (done : List Node) (xs : List Expression) (i : ℕ) → length xs ≤ i → parts_behind done (drop i xs) ≡ Ok done
    none_behind done xs i end = ap (parts_behind done) (drop_of_length-le xs end)

    rest_length : (xs : List Expression) (i : ℕ) → length (drop i xs) ≡ length xs - i
    rest_length xs zero = omega arith
    rest_length [] (suc i) = omega arith
    rest_length (x ∷ xs) (suc i) = rest_length xs i ∙ omega arith

    module _ (xs : List Expression) (i : ℕ) (x : Expression) (within : i < length xs) (is : x ≡ get_or xs i x) (left : ℕ) (fewer : left ≡ length xs - i - 1) (done between : List Node) (put_before : between ≡ done ++ before_part left ∷ []) (all : Result (List Node) ElabFault) (same : parts_behind done (drop i xs) ≡ all) where
      opened : all ≡ (nodes_behind between (lower fixed scope (tree_of words x)) >>= λ next. parts_behind next (drop (i + 1) xs))
      opened =
          let rest : List Expression = drop (i + 1) xs in
          let count : left ≡ length rest = fewer ∙ omega (arith, rest_length xs (i + 1)) in
          sym same ∙ ap (parts_behind done) (drop_at xs i x within is) ∙ first_behind done x rest
          ∙ ap (λ (ns : List Node). nodes_behind ns (lower fixed scope (tree_of words x)) >>= λ next. parts_behind next rest)
          (ap (λ n. done ++ before_part n ∷ []) (sym count) ∙ sym put_before)

      pub part_put : (next : List Node) → nodes_behind between (lower fixed scope (tree_of words x)) ≡ Ok next → parts_behind next (drop (i + 1) xs) ≡ all
      part_put next put = sym (opened ∙ ap (λ (r : Result (List Node) ElabFault). r >>= λ ns. parts_behind ns (drop (i + 1) xs)) put)

      pub part_refused : (fault : ElabFault) → nodes_behind between (lower fixed scope (tree_of words x)) ≡ Err fault → all ≡ Err fault
      part_refused fault put = opened ∙ ap (λ (r : Result (List Node) ElabFault). r >>= λ ns. parts_behind ns (drop (i + 1) xs)) put
