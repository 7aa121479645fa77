-- The root of a pattern.
use Rattle.std.proofs.Common.{◌≡◌, ◌∙◌, refl, ap, ◌≤◌, arith, true, false, Some, None, List}
use Rattle.logic_core.specs.Tree.{Kind, Tree, num, truth, free, bound, linear, mul, read, write, choose, call, negation, all, some, equal, at_most, for_all, exists, nodes}
use Rattle.logic_core.specs.Def.{Def}
use Rattle.logic_core.specs.Wide.{◌>>=◌}
use Rattle.quantifier_triggers.specs.Match.{Found, root, as_read, matched}

-- matching at the root is matching the root
pub matched_root : (vars : List Kind) (defs : List Def) (kinds : List Kind) (p t : Tree) (b : Found) → matched vars defs kinds true p t b ≡ matched vars defs kinds false (root p) t b
matched_root vars defs kinds (num n) t b = refl
matched_root vars defs kinds (truth x) t b = refl
matched_root vars defs kinds (free v) t b = refl
matched_root vars defs kinds (bound v) t b = refl
matched_root vars defs kinds (linear ps c) t b = refl
matched_root vars defs kinds (mul x y) t b = refl
matched_root vars defs kinds (read p q) t b = refl
matched_root vars defs kinds (write p q x) t b = matched_root vars defs kinds p t b
matched_root vars defs kinds (choose c x y) t b = refl
matched_root vars defs kinds (call f ps) t b = refl
matched_root vars defs kinds (negation x) t b = refl
matched_root vars defs kinds (all ps) t b = refl
matched_root vars defs kinds (some ps) t b = refl
matched_root vars defs kinds (equal x y) t b = refl
matched_root vars defs kinds (at_most x y) t b = refl
matched_root vars defs kinds (for_all ss ps x) t b = refl
matched_root vars defs kinds (exists ss ps x) t b = refl

-- and no larger
pub root_nodes : (t : Tree) → nodes (root t) ≤ nodes t
root_nodes (num n) = omega arith
root_nodes (truth x) = omega arith
root_nodes (free v) = omega arith
root_nodes (bound v) = omega arith
root_nodes (linear ps c) = omega arith
root_nodes (mul x y) = omega arith
root_nodes (read p q) = omega arith
root_nodes (write p q x) = omega (arith, root_nodes p)
root_nodes (choose c x y) = omega arith
root_nodes (call f ps) = omega arith
root_nodes (negation x) = omega arith
root_nodes (all ps) = omega arith
root_nodes (some ps) = omega arith
root_nodes (equal x y) = omega arith
root_nodes (at_most x y) = omega arith
root_nodes (for_all ss ps x) = omega arith
root_nodes (exists ss ps x) = omega arith

-- a Read, where the roots of the maps match, and where they don't
pub reads_match : (vars : List Kind) (defs : List Def) (kinds : List Kind) (p q t m i : Tree) (b c : Found) → as_read t ≡ Some (m, i) → matched vars defs kinds false (root p) (root m) b ≡ Some c → matched vars defs kinds false (read p q) t b ≡ matched vars defs kinds false q i c
reads_match vars defs kinds p q t m i b c e h =
    ap (λ o. o >>= λ r. matched vars defs kinds true p (root r.0) b >>= λ d. matched vars defs kinds false q r.1 d) e
    ∙ ap (λ o. o >>= λ d. matched vars defs kinds false q i d) (matched_root vars defs kinds p (root m) b ∙ h)

pub reads_differ : (vars : List Kind) (defs : List Def) (kinds : List Kind) (p q t m i : Tree) (b : Found) → as_read t ≡ Some (m, i) → matched vars defs kinds false (root p) (root m) b ≡ None → matched vars defs kinds false (read p q) t b ≡ None
reads_differ vars defs kinds p q t m i b e h =
    ap (λ o. o >>= λ r. matched vars defs kinds true p (root r.0) b >>= λ d. matched vars defs kinds false q r.1 d) e
    ∙ ap (λ o. o >>= λ d. matched vars defs kinds false q i d) (matched_root vars defs kinds p (root m) b ∙ h)
