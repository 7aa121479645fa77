-- A part of a term is smaller.
use Rattle.std.proofs.Common.{◌≡◌, refl, ap, ℕ, zero, suc, ◌+◌, ◌<◌, ◌≤◌, List, [], ◌∷◌, length, get_or, Option, Some, None, arith}
use Rattle.logic_core.specs.Tree.{Tree, num, truth, free, bound, linear, mul, read, write, choose, call, negation, all, some, equal, at_most, for_all, exists, Parts, no_parts, part, Patterns, no_patterns, pattern, nodes, trees_nodes, parts_nodes, patterns_nodes}
use Rattle.logic_core.specs.View.{trees_of}
use Rattle.term_bank.specs.declared.places.Way.{Way}
use Rattle.term_bank.specs.Standing.{atoms, lists, direct, triggers, row_of, part_or_self}
use Rattle.term_bank.proofs.Rows.{trees_listed}

item_smaller : (us : List Tree) (i : ℕ) (d : Tree) → i < length us → nodes (get_or us i d) ≤ trees_nodes (trees_of us)
item_smaller [] i d l = absurd (omega (arith, l))
item_smaller (u ∷ us) zero d l = omega arith
item_smaller (u ∷ us) (suc i) d l = omega (arith, item_smaller us i d (omega (arith, l)))

atoms_nodes : (ps : Parts) → trees_nodes (trees_of (atoms ps)) ≡ parts_nodes ps
atoms_nodes no_parts = refl
atoms_nodes (part k t ps) = ap (λ n. nodes t + n) (atoms_nodes ps)

list_smaller : (ps : Patterns) (i : ℕ) → trees_nodes (trees_of (get_or (lists ps) i [])) ≤ patterns_nodes ps
list_smaller no_patterns i = omega arith
list_smaller (pattern ts ps) zero = omega (arith, ap trees_nodes (trees_listed ts))
list_smaller (pattern ts ps) (suc i) = omega (arith, list_smaller ps i)

direct_smaller : (t : Tree) → trees_nodes (trees_of (direct t)) + 1 ≤ nodes t
direct_smaller (num n) = omega arith
direct_smaller (truth b) = omega arith
direct_smaller (free v) = omega arith
direct_smaller (bound v) = omega arith
direct_smaller (linear ps c) = omega (arith, atoms_nodes ps)
direct_smaller (mul a b) = omega arith
direct_smaller (read a b) = omega arith
direct_smaller (write a b c) = omega arith
direct_smaller (choose a b c) = omega arith
direct_smaller (call f ts) = omega (arith, ap trees_nodes (trees_listed ts))
direct_smaller (negation a) = omega arith
direct_smaller (all ts) = omega (arith, ap trees_nodes (trees_listed ts))
direct_smaller (some ts) = omega (arith, ap trees_nodes (trees_listed ts))
direct_smaller (equal a b) = omega arith
direct_smaller (at_most a b) = omega arith
direct_smaller (for_all ss ps a) = omega arith
direct_smaller (exists ss ps a) = omega arith

trigger_smaller : (t : Tree) (i : ℕ) → trees_nodes (trees_of (get_or (triggers t) i [])) + 1 ≤ nodes t
trigger_smaller (num n) i = omega arith
trigger_smaller (truth b) i = omega arith
trigger_smaller (free v) i = omega arith
trigger_smaller (bound v) i = omega arith
trigger_smaller (linear ps c) i = omega arith
trigger_smaller (mul a b) i = omega arith
trigger_smaller (read a b) i = omega arith
trigger_smaller (write a b c) i = omega arith
trigger_smaller (choose a b c) i = omega arith
trigger_smaller (call f ts) i = omega arith
trigger_smaller (negation a) i = omega arith
trigger_smaller (all ts) i = omega arith
trigger_smaller (some ts) i = omega arith
trigger_smaller (equal a b) i = omega arith
trigger_smaller (at_most a b) i = omega arith
trigger_smaller (for_all ss ps a) i = omega (arith, list_smaller ps i)
trigger_smaller (exists ss ps a) i = omega (arith, list_smaller ps i)

row_smaller : (t : Tree) (p : Option ℕ) → trees_nodes (trees_of (row_of t p)) + 1 ≤ nodes t
row_smaller t None = direct_smaller t
row_smaller t (Some i) = trigger_smaller t i

pub part_smaller : (t : Tree) (w : Way) → w.item < length (row_of t w.pattern) → nodes (part_or_self t w) + 1 ≤ nodes t
part_smaller t w l = omega (arith, item_smaller (row_of t w.pattern) w.item t l, row_smaller t w.pattern)
