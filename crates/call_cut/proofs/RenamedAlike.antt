-- Two tables that agree on a term's variables rename it alike; so do those of a contract's variables.
use Rattle.std.specs.Prelude.{◌≡◌, refl, ℕ, true, List, [], ◌∷◌, ◌++◌, map, Option, Some, None, option_map}
use Rattle.std.specs.List.{AllByRecursion}
use Rattle.bv_base.specs.declared.place.Place.{Place}
use Rattle.logic_core.specs.Tree.{Tree, num, truth, free, bound, linear, mul, read, write, choose, call, negation, all, some, equal, at_most, for_all, exists, Trees, no_trees, tree, Parts, no_parts, part, Patterns, no_patterns, pattern}
use Rattle.logic_core.specs.Variables.{variables, variables_of_each, variables_of_parts, variables_of_patterns, renamed, each_renamed, parts_renamed, patterns_renamed}
use Rattle.logic_core.proofs.EachOf.{every_left, every_right}
use Rattle.flow_core.specs.Clause.{Clause, checked, assumed, formula_of}
use Rattle.bpl_model.specs.Module.{assert, assume, Local}
use Rattle.bpl_model.specs.Cut.{check}
use Rattle.call_cut.specs.Own.{result_by}

module _ (f g : ℕ → ℕ) where
  abbrev pub Agree : List ℕ → Type 0
  Agree vs = AllByRecursion (λ v. f v ≡ g v) vs

  left : (xs ys : List ℕ) → Agree (xs ++ ys) → Agree xs
  left xs ys h = every_left (λ v. f v ≡ g v) xs ys h

  right : (xs ys : List ℕ) → Agree (xs ++ ys) → Agree ys
  right xs ys h = every_right (λ v. f v ≡ g v) xs ys h

  mutual
    pub renamed_alike : (t : Tree) → Agree (variables t) → renamed f t ≡ renamed g t
    renamed_alike (num n) h = refl
    renamed_alike (truth x) h = refl
    renamed_alike (free v) h = λ i. free (h.0 i)
    renamed_alike (bound v) h = refl
    renamed_alike (linear ps c) h = λ i. linear (parts_alike ps h i) c
    renamed_alike (mul x y) h = λ i. mul (renamed_alike x (left (variables x) (variables y) h) i) (renamed_alike y (right (variables x) (variables y) h) i)
    renamed_alike (read x y) h = λ i. read (renamed_alike x (left (variables x) (variables y) h) i) (renamed_alike y (right (variables x) (variables y) h) i)
    renamed_alike (write x y z) h =
        let yz = right (variables x) (variables y ++ variables z) h in
        λ i. write (renamed_alike x (left (variables x) (variables y ++ variables z) h) i) (renamed_alike y (left (variables y) (variables z) yz) i) (renamed_alike z (right (variables y) (variables z) yz) i)
    renamed_alike (choose x y z) h =
        let yz = right (variables x) (variables y ++ variables z) h in
        λ i. choose (renamed_alike x (left (variables x) (variables y ++ variables z) h) i) (renamed_alike y (left (variables y) (variables z) yz) i) (renamed_alike z (right (variables y) (variables z) yz) i)
    renamed_alike (call k ts) h = λ i. call k (each_alike ts h i)
    renamed_alike (negation x) h = λ i. negation (renamed_alike x h i)
    renamed_alike (all ts) h = λ i. all (each_alike ts h i)
    renamed_alike (some ts) h = λ i. some (each_alike ts h i)
    renamed_alike (equal x y) h = λ i. equal (renamed_alike x (left (variables x) (variables y) h) i) (renamed_alike y (right (variables x) (variables y) h) i)
    renamed_alike (at_most x y) h = λ i. at_most (renamed_alike x (left (variables x) (variables y) h) i) (renamed_alike y (right (variables x) (variables y) h) i)
    renamed_alike (for_all ss ps t) h = λ i. for_all ss (patterns_alike ps (left (variables_of_patterns ps) (variables t) h) i) (renamed_alike t (right (variables_of_patterns ps) (variables t) h) i)
    renamed_alike (exists ss ps t) h = λ i. exists ss (patterns_alike ps (left (variables_of_patterns ps) (variables t) h) i) (renamed_alike t (right (variables_of_patterns ps) (variables t) h) i)

    each_alike : (ts : Trees) → Agree (variables_of_each ts) → each_renamed f ts ≡ each_renamed g ts
    each_alike no_trees h = refl
    each_alike (tree t ts) h = λ i. tree (renamed_alike t (left (variables t) (variables_of_each ts) h) i) (each_alike ts (right (variables t) (variables_of_each ts) h) i)

    parts_alike : (ps : Parts) → Agree (variables_of_parts ps) → parts_renamed f ps ≡ parts_renamed g ps
    parts_alike no_parts h = refl
    parts_alike (part k t ps) h = λ i. part k (renamed_alike t (left (variables t) (variables_of_parts ps) h) i) (parts_alike ps (right (variables t) (variables_of_parts ps) h) i)

    patterns_alike : (ps : Patterns) → Agree (variables_of_patterns ps) → patterns_renamed f ps ≡ patterns_renamed g ps
    patterns_alike no_patterns h = refl
    patterns_alike (pattern ts ps) h = λ i. pattern (each_alike ts (left (variables_of_each ts) (variables_of_patterns ps) h) i) (patterns_alike ps (right (variables_of_each ts) (variables_of_patterns ps) h) i)

  -- the checks of a call, its assumptions, and the clauses of results
  pub checks_alike : (at : Place) (cs : List Clause) → AllByRecursion (λ c. Agree (variables (formula_of c))) cs → map (check f at) cs ≡ map (check g at) cs
  checks_alike at [] h = refl
  checks_alike at (checked mark E ∷ cs) h = λ i. assert mark (renamed_alike E h.0 i) ∷ checks_alike at cs h.1 i
  checks_alike at (assumed E ∷ cs) h = λ i. assume at (renamed_alike E h.0 i) ∷ checks_alike at cs h.1 i

  pub assumes_alike : (at : Place) (Es : List Tree) → AllByRecursion (λ E. Agree (variables E)) Es → map (λ E. assume at (renamed f E)) Es ≡ map (λ E. assume at (renamed g E)) Es
  assumes_alike at [] h = refl
  assumes_alike at (E ∷ Es) h = λ i. assume at (renamed_alike E h.0 i) ∷ assumes_alike at Es h.1 i

  abbrev pub AgreeInClause : Option Tree → Type 0
  AgreeInClause None = Unit {0}
  AgreeInClause (Some E) = Agree (variables E)

  clause_alike : (o : Option Tree) → AgreeInClause o → option_map (renamed f) o ≡ option_map (renamed g) o
  clause_alike None h = refl
  clause_alike (Some E) h = λ i. Some (renamed_alike E h i)

  pub results_alike : (ls : List Local) → AllByRecursion (λ l. AgreeInClause l.clause) ls
      → map (result_by f) ls ≡ map (result_by g) ls
  results_alike [] h = refl
  results_alike (l ∷ ls) h = λ i. (record l { own = true; clause = clause_alike l.clause h.0 i }) ∷ results_alike ls h.1 i
