-- The trigger chosen for a quantifier that has none: the least candidate that mentions all its variables, or else the first candidates that mention them together.
use Rattle.std.specs.Prelude.{ℕ, nat_eq, nat_lt, Bool, true, false, not, ◌&&◌, cond, List, [], ◌∷◌, ◌++◌, map, length, filter, fold, Option, Some, None, option_map}
use Rattle.std.specs.List.{list_any}
use Rattle.logic_core.specs.Tree.{Tree, num, truth, free, bound, linear, mul, read, write, choose, call, negation, all, some, equal, at_most, for_all, exists, Trees, no_trees, tree, Parts, no_parts, part, Patterns, no_patterns, pattern, nodes}
use Rattle.logic_core.specs.Size.{capped}
use Rattle.logic_core.specs.View.{trees_of}
use Rattle.logic_core.specs.Def.{Def, Obligation}
use Rattle.quantifier_triggers.specs.Candidates.{bound_numbers, covers, candidates}

-- the first, where the second isn't smaller
abbrev pub smaller : Tree → Tree → Tree
smaller t u = cond (nat_lt (capped (nodes u)) (capped (nodes t))) u t

-- the smaller of one that was found before, if any, and this one
abbrev pub smaller_of : Option Tree → Tree → Tree
smaller_of None t = t
smaller_of (Some u) t = smaller u t

abbrev pub least : List Tree → Option Tree
least [] = None
least (t ∷ ts) = Some (fold smaller t ts)

-- one of the numbers is that of a variable of the n that is not covered
abbrev pub any_new : ℕ → List ℕ → List ℕ → Bool
any_new n covered vs = list_any (λ v. nat_lt v n && not (list_any (nat_eq v) covered)) vs

-- the term mentions such a variable
abbrev pub adds : ℕ → List ℕ → Tree → Bool
adds n covered t = any_new n covered (bound_numbers t)

-- in order those that add a variable, until all n are covered
abbrev pub cover : ℕ → List ℕ → List Tree → Option (List Tree)
cover n covered [] = cond (covers n covered) (Some []) None
cover n covered (t ∷ ts) =
    let taken = option_map (λ us. t ∷ us) (cover n (covered ++ bound_numbers t) ts) in
    let passed = cover n covered ts in
    elim (covers n covered) [ true ↦ Some [] | false ↦ elim (adds n covered t) [ true ↦ taken | false ↦ passed ] ]

-- of the candidates: one that mentions all, or several that do so together
abbrev pub pick : ℕ → List Tree → Option (List Tree)
pick n ts = elim (least (filter (λ t. covers n (bound_numbers t)) ts)) [ Some t ↦ Some (t ∷ []) | None ↦ cover n [] ts ]

abbrev pub as_trigger : Option (List Tree) → Patterns
as_trigger None = no_patterns
as_trigger (Some ts) = pattern (trees_of ts) no_patterns

-- over the definitions that the terms may apply
module _ (defs : List Def) where
  abbrev pub chosen : ℕ → Tree → Patterns
  chosen n body = as_trigger (pick n (candidates defs n body))

  -- the triggers of a quantifier of n variables: a given one stays
  abbrev pub triggers : ℕ → Patterns → Tree → Patterns
  triggers n no_patterns body = chosen n body
  triggers n (pattern ts ps) body = pattern ts ps

  abbrev mutual
    pub with_triggers : Tree → Tree
    with_triggers (num n) = num n
    with_triggers (truth x) = truth x
    with_triggers (free v) = free v
    with_triggers (bound v) = bound v
    with_triggers (linear ps c) = linear (parts_with_triggers ps) c
    with_triggers (mul a b) = mul (with_triggers a) (with_triggers b)
    with_triggers (read a b) = read (with_triggers a) (with_triggers b)
    with_triggers (write a b c) = write (with_triggers a) (with_triggers b) (with_triggers c)
    with_triggers (choose a b c) = choose (with_triggers a) (with_triggers b) (with_triggers c)
    with_triggers (call f ts) = call f (each_with_triggers ts)
    with_triggers (negation a) = negation (with_triggers a)
    with_triggers (all ts) = all (each_with_triggers ts)
    with_triggers (some ts) = some (each_with_triggers ts)
    with_triggers (equal a b) = equal (with_triggers a) (with_triggers b)
    with_triggers (at_most a b) = at_most (with_triggers a) (with_triggers b)
    with_triggers (for_all ss ps a) = for_all ss (triggers (length ss) ps a) (with_triggers a)
    with_triggers (exists ss ps a) = exists ss (triggers (length ss) ps a) (with_triggers a)

    pub each_with_triggers : Trees → Trees
    each_with_triggers no_trees = no_trees
    each_with_triggers (tree t ts) = tree (with_triggers t) (each_with_triggers ts)

    pub parts_with_triggers : Parts → Parts
    parts_with_triggers no_parts = no_parts
    parts_with_triggers (part k t ps) = part k (with_triggers t) (parts_with_triggers ps)

abbrev pub def_with_triggers : List Def → Def → Def
def_with_triggers defs d = record d { body = with_triggers defs d.body }

-- in all formulas of an obligation
abbrev pub obligation_with_triggers : Obligation → Obligation
obligation_with_triggers o = record {
  vars = o.vars;
  defs = map (def_with_triggers o.defs) o.defs;
  axioms = map (with_triggers o.defs) o.axioms;
  goal = with_triggers o.defs o.goal;
}
