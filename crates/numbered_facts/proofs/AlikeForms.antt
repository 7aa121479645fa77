-- Terms have the same normal forms and the same left sides over variables and definitions that agree.
use Rattle.std.proofs.Common.{◌≡◌, refl, ℕ, ◌<◌, ◌++◌, reverse, Some, option_map, List, [], if◌then◌else◌}
use Rattle.logic_core.specs.Tree.{Kind, Tree, num, truth, free, bound, linear, mul, read, write, choose, call, negation, all, some, equal, at_most, for_all, exists, Trees, no_trees, tree, Parts, no_parts, part, Patterns, no_patterns, pattern}
use Rattle.logic_core.specs.Def.{Def}
use Rattle.logic_core.specs.Wide.{◌>>=◌}
use Rattle.logic_core.specs.Renamed.{EachInTrees, EachInParts, EachInPatterns}
use Rattle.logic_core.specs.Sum.{Linear, constant, add_term, term_of, product}
use Rattle.logic_core.specs.Junction.{is_zero, conjunction, disjunction, negated}
use Rattle.logic_core.specs.Normal.{choice, equation, inequality, quantified, normal, normal_each, normal_sum, normal_patterns}
use Rattle.logic_core.specs.Combine.{sum_of}
use Rattle.proof_core.specs.Says.{or_else}
use Rattle.tableau_branch.specs.Oriented.{linear_left, defined, greater_side, left_side}
use Rattle.numbered_facts.specs.Alike.{IsBelow, AgreeBelow}
use Rattle.numbered_facts.proofs.AlikeSorts.{sort_alike}

module _ (n : ℕ) (vars : List Kind) (defs : List Def) (vars' : List Kind) (defs' : List Def) (a : AgreeBelow n vars defs vars' defs') where
  -- the parts of lists are below the number
  abbrev EachBelow : Trees → Type 0
  EachBelow ts = EachInTrees (λ v. v < n) (λ f. Unit {0}) ts

  abbrev PartsBelow : Parts → Type 0
  PartsBelow ps = EachInParts (λ v. v < n) (λ f. Unit {0}) ps

  abbrev PatternsBelow : Patterns → Type 0
  PatternsBelow ps = EachInPatterns (λ v. v < n) (λ f. Unit {0}) ps

  mutual
    pub normal_alike : (t : Tree) (b : List Kind) → IsBelow n t → normal vars defs b t ≡ normal vars' defs' b t
    normal_alike (num k) b h = refl
    normal_alike (truth x) b h = refl
    normal_alike (free v) b h = refl
    normal_alike (bound v) b h = refl
    normal_alike (linear ps c) b h = λ i. option_map term_of (sum_alike ps (constant c) b h i)
    normal_alike (mul x y) b h = λ i. normal_alike x b h.0 i >>= λ u. normal_alike y b h.1 i >>= λ v. product u v
    normal_alike (read x y) b h = λ i. normal_alike x b h.0 i >>= λ u. normal_alike y b h.1 i >>= λ v. Some (read u v)
    normal_alike (write x y z) b h = λ i. normal_alike x b h.0 i >>= λ u. normal_alike y b h.1 i >>= λ v. normal_alike z b h.2 i >>= λ w. Some (write u v w)
    normal_alike (choose x y z) b h = λ i. normal_alike x b h.0 i >>= λ u. normal_alike y b h.1 i >>= λ v. normal_alike z b h.2 i >>= λ w. Some (choice u v w)
    normal_alike (call f ts) b h = λ i. option_map (λ us. call f us) (each_alike ts b h.1 i)
    normal_alike (negation x) b h = λ i. normal_alike x b h i >>= λ u. negated u
    normal_alike (all ts) b h = λ i. option_map conjunction (each_alike ts b h i)
    normal_alike (some ts) b h = λ i. option_map disjunction (each_alike ts b h i)
    normal_alike (equal x y) b h = λ i. normal_alike x b h.0 i >>= λ u. normal_alike y b h.1 i >>= λ v. equation (sort_alike n vars defs vars' defs' a x b h.0 i) u v
    normal_alike (at_most x y) b h = λ i. normal_alike x b h.0 i >>= λ u. normal_alike y b h.1 i >>= λ v. inequality u v
    normal_alike (for_all ss ps t) b h = λ i. patterns_alike ps (reverse ss ++ b) h.0 i >>= λ qs. option_map (λ u. quantified (λ v. for_all ss qs v) u) (normal_alike t (reverse ss ++ b) h.1 i)
    normal_alike (exists ss ps t) b h = λ i. patterns_alike ps (reverse ss ++ b) h.0 i >>= λ qs. option_map (λ u. quantified (λ v. exists ss qs v) u) (normal_alike t (reverse ss ++ b) h.1 i)

    each_alike : (ts : Trees) (b : List Kind) → EachBelow ts → normal_each vars defs b ts ≡ normal_each vars' defs' b ts
    each_alike no_trees b h = refl
    each_alike (tree t ts) b h = λ i. normal_alike t b h.0 i >>= λ u. each_alike ts b h.1 i >>= λ us. Some (tree u us)

    sum_alike : (ps : Parts) (s : Linear) (b : List Kind) → PartsBelow ps → normal_sum vars defs b ps s ≡ normal_sum vars' defs' b ps s
    sum_alike no_parts s b h = refl
    sum_alike (part k t ps) s b h = λ i. normal_alike t b h.0 i >>= λ u. add_term k u s >>= λ r. sum_alike ps r b h.1 i

    patterns_alike : (ps : Patterns) (b : List Kind) → PatternsBelow ps → normal_patterns vars defs b ps ≡ normal_patterns vars' defs' b ps
    patterns_alike no_patterns b h = refl
    patterns_alike (pattern ts ps) b h = λ i. each_alike ts b h.0 i >>= λ us. patterns_alike ps b h.1 i >>= λ qs. Some (pattern us qs)

  pub left_alike : (t : Tree) → IsBelow n t → left_side vars defs t ≡ left_side vars' defs' t
  left_alike (equal x y) h = λ i. if is_zero y then linear_left (sum_of x) else or_else (defined x y) (greater_side (sort_alike n vars defs vars' defs' a x [] h.0 i) x y)
  left_alike (free v) h = refl
  left_alike (negation t) h = refl
  left_alike t h = refl
