-- Sizes and reaches of nodes' terms, and a store's that grows.
use Rattle.std.proofs.Common.{◌≡◌, refl, sym, ap, ◌∙◌, ℕ, ℤ, Vec, ◌+◌, ◌<◌, max, true, List, [], ◌∷◌, ◌++◌, map, length, get_or, arith}
use Rattle.std.specs.List.{AllByRecursion}
use Rattle.std.specs.declared.alloc.Global.{Global}
use Rattle.std.proofs.lemmas.List.{get_or-map, map_push}
use Rattle.logic_core.specs.Tree.{Tree, truth, nodes, trees_nodes, parts_nodes, patterns_nodes}
use Rattle.logic_core.specs.Size.{capped}
use Rattle.logic_core.specs.View.{trees_of, parts_of, patterns_of}
use Rattle.logic_core.proofs.Mentioned.{all_left, all_right}
use Rattle.term_bank.specs.declared.node.Node.{Node}
use Rattle.term_bank.specs.declared.node.Node.TheVariants.{Num, Truth, Free, Bound, Sum, Mul, Read, Write, If, Call, Not, And, Or, Eq, Le, ForAll, Exists}
use Rattle.term_bank.specs.Numbered.{at, IsNumber}
use Rattle.term_bank.specs.Node.{tree_over, in_lists, numbers_in}
use Rattle.term_bank.proofs.Numbers.{number_is}
use Rattle.numbered_terms.specs.At.{IsAt}
use Rattle.numbered_terms.specs.Reach.{reach, reach_each, reach_parts, reach_patterns}
use Rattle.numbered_terms.specs.Measures.{sum_over, most_over, node_size, node_reach, size_of, AreMeasured}

pub sum_append : (of : ℕ → ℕ) (xs ys : List ℕ) → sum_over of (xs ++ ys) ≡ sum_over of xs + sum_over of ys
sum_append of [] ys = omega arith
sum_append of (x ∷ xs) ys = omega (arith, sum_append of xs ys)

pub most_append : (of : ℕ → ℕ) (xs ys : List ℕ) → most_over of (xs ++ ys) ≡ max (most_over of xs) (most_over of ys)
most_append of [] ys = omega arith
most_append of (x ∷ xs) ys = omega (arith, most_append of xs ys)

module _ (of : ℕ → ℕ) (f : ℕ → Tree) (n : ℕ) (same : (j : ℕ) → j < n → of j ≡ capped (nodes (f j))) where
  size_each : (is : List ℕ) → AllByRecursion (λ j. j < n) is → capped (sum_over of is) ≡ capped (trees_nodes (trees_of (map f is)))
  size_each [] h = refl
  size_each (i ∷ is) h = omega (arith, same i h.0, size_each is h.1)

  size_atoms : (ps : List (ℤ × ℕ)) → AllByRecursion (λ j. j < n) (map (λ (p : ℤ × ℕ). p.1) ps)
      → capped (sum_over of (map (λ (p : ℤ × ℕ). p.1) ps)) ≡ capped (parts_nodes (parts_of (map {B = ℤ × Tree} (λ (p : ℤ × ℕ). (p.0, f p.1)) ps)))
  size_atoms [] h = refl
  size_atoms (p ∷ ps) h = omega (arith, same p.1 h.0, size_atoms ps h.1)

  size_lists : (ps : List (Vec ℕ Global)) → AllByRecursion (λ j. j < n) (in_lists ps) → capped (sum_over of (in_lists ps)) ≡ capped (patterns_nodes (patterns_of (map (λ (p : Vec ℕ Global). map f p.items) ps)))
  size_lists [] h = refl
  size_lists (p ∷ ps) h = omega (arith, sum_append of p.items (in_lists ps), size_each p.items (all_left (λ j. j < n) p.items (in_lists ps) h), size_lists ps (all_right (λ j. j < n) p.items (in_lists ps) h))

  pub size_node : (m : Node) → AllByRecursion (λ j. j < n) (numbers_in m) → capped (node_size of m) ≡ capped (nodes (tree_over f m))
  size_node (Num k) h = refl
  size_node (Truth b) h = refl
  size_node (Free v) h = refl
  size_node (Bound v) h = refl
  size_node (Sum ps c) h = omega (arith, size_atoms ps.items h)
  size_node (Mul a b) h = omega (arith, same a h.0, same b h.1.0)
  size_node (Read a b) h = omega (arith, same a h.0, same b h.1.0)
  size_node (Write a b c) h = omega (arith, same a h.0, same b h.1.0, same c h.1.1.0)
  size_node (If a b c) h = omega (arith, same a h.0, same b h.1.0, same c h.1.1.0)
  size_node (Call d is) h = omega (arith, size_each is.items h)
  size_node (Not a) h = omega (arith, same a h.0)
  size_node (And is) h = omega (arith, size_each is.items h)
  size_node (Or is) h = omega (arith, size_each is.items h)
  size_node (Eq a b) h = omega (arith, same a h.0, same b h.1.0)
  size_node (Le a b) h = omega (arith, same a h.0, same b h.1.0)
  size_node (ForAll ss ps a) h = omega (arith, same a h.0, size_lists ps.items h.1)
  size_node (Exists ss ps a) h = omega (arith, same a h.0, size_lists ps.items h.1)

module _ (of : ℕ → ℕ) (f : ℕ → Tree) (n : ℕ) (same : (j : ℕ) → j < n → of j ≡ reach (f j)) where
  most_each : (is : List ℕ) → AllByRecursion (λ j. j < n) is → most_over of is ≡ reach_each (trees_of (map f is))
  most_each [] h = refl
  most_each (i ∷ is) h = λ k. max (same i h.0 k) (most_each is h.1 k)

  most_atoms : (ps : List (ℤ × ℕ)) → AllByRecursion (λ j. j < n) (map (λ (p : ℤ × ℕ). p.1) ps)
      → most_over of (map (λ (p : ℤ × ℕ). p.1) ps) ≡ reach_parts (parts_of (map {B = ℤ × Tree} (λ (p : ℤ × ℕ). (p.0, f p.1)) ps))
  most_atoms [] h = refl
  most_atoms (p ∷ ps) h = λ k. max (same p.1 h.0 k) (most_atoms ps h.1 k)

  most_lists : (ps : List (Vec ℕ Global)) → AllByRecursion (λ j. j < n) (in_lists ps) → most_over of (in_lists ps) ≡ reach_patterns (patterns_of (map (λ (p : Vec ℕ Global). map f p.items) ps))
  most_lists [] h = refl
  most_lists (p ∷ ps) h = most_append of p.items (in_lists ps) ∙ (λ k. max (most_each p.items (all_left (λ j. j < n) p.items (in_lists ps) h) k) (most_lists ps (all_right (λ j. j < n) p.items (in_lists ps) h) k))

  pub reach_node : (m : Node) → AllByRecursion (λ j. j < n) (numbers_in m) → node_reach of m ≡ reach (tree_over f m)
  reach_node (Num k) h = refl
  reach_node (Truth b) h = refl
  reach_node (Free v) h = refl
  reach_node (Bound v) h = refl
  reach_node (Sum ps c) h = most_atoms ps.items h
  reach_node (Mul a b) h = omega (arith, same a h.0, same b h.1.0)
  reach_node (Read a b) h = omega (arith, same a h.0, same b h.1.0)
  reach_node (Write a b c) h = omega (arith, same a h.0, same b h.1.0, same c h.1.1.0)
  reach_node (If a b c) h = omega (arith, same a h.0, same b h.1.0, same c h.1.1.0)
  reach_node (Call d is) h = most_each is.items h
  reach_node (Not a) h = omega (arith, same a h.0)
  reach_node (And is) h = most_each is.items h
  reach_node (Or is) h = most_each is.items h
  reach_node (Eq a b) h = omega (arith, same a h.0, same b h.1.0)
  reach_node (Le a b) h = omega (arith, same a h.0, same b h.1.0)
  reach_node (ForAll ss ps a) h = omega (arith, same a h.0, most_lists ps.items h.1)
  reach_node (Exists ss ps a) h = omega (arith, same a h.0, most_lists ps.items h.1)

-- what is read of what is kept
pub size_kept : (ts : List Tree) (sizes : List ℕ) (i : ℕ) → sizes ≡ map size_of ts → i < length ts → get_or sizes i 0 ≡ size_of (at ts i)
size_kept ts sizes i e l = ap (λ xs. get_or xs i 0) e ∙ get_or-map size_of ts i (truth true) 0 l

pub reach_kept : (ts : List Tree) (reaches : List ℕ) (i : ℕ) → reaches ≡ map reach ts → i < length ts → get_or reaches i 0 ≡ reach (at ts i)
reach_kept ts reaches i e l = ap (λ xs. get_or xs i 0) e ∙ get_or-map reach ts i (truth true) 0 l

-- a store that has one more term
pub measured_next : (ts us : List Tree) (sizes sizes' reaches reaches' : List ℕ) (m : Node) (s r : ℕ) → AllByRecursion (λ j. j < length ts) (numbers_in m) → us ≡ ts ++ tree_over (at ts) m ∷ []
    → AreMeasured ts sizes reaches → s ≡ capped (node_size (λ i. get_or sizes i 0) m) → r ≡ node_reach (λ i. get_or reaches i 0) m
    → sizes' ≡ sizes ++ s ∷ [] → reaches' ≡ reaches ++ r ∷ [] → AreMeasured us sizes' reaches'
measured_next ts us sizes sizes' reaches reaches' m s r low grown h es er ps pr =
    let size : s ≡ size_of (tree_over (at ts) m) = es ∙ size_node (λ i. get_or sizes i 0) (at ts) (length ts) (λ j w. size_kept ts sizes j h.sizes w) m low in
    let far : r ≡ reach (tree_over (at ts) m) = er ∙ reach_node (λ i. get_or reaches i 0) (at ts) (length ts) (λ j w. reach_kept ts reaches j h.reaches w) m low in
    record {
      sizes = ps ∙ (λ k. h.sizes k ++ size k ∷ []) ∙ sym (map_push size_of ts (tree_over (at ts) m)) ∙ ap (map size_of) (sym grown);
      reaches = pr ∙ (λ k. h.reaches k ++ far k ∷ []) ∙ sym (map_push reach ts (tree_over (at ts) m)) ∙ ap (map reach) (sym grown);
    }

-- the number of a term that joined
pub at_number : (ts us : List Tree) (t : Tree) (i : ℕ) → IsNumber us i t → IsAt us i t
at_number ts us t i n = number_is us t i n
