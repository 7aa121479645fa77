-- Above which number the variables of terms stand, found node by node.
use Rattle.std.proofs.Common.{◌≡◌, sym, subst, ℕ, ℤ, Vec, ◌+◌, ◌<◌, ◌≤◌, max, inl, inr, List, [], ◌∷◌, map, length, arith}
use Rattle.std.specs.List.{AllByRecursion}
use Rattle.std.specs.declared.alloc.Global.{Global}
use Rattle.std.proofs.lemmas.Bool.{cases_lt}
use Rattle.logic_core.specs.Tree.{Tree}
use Rattle.logic_core.specs.View.{trees_of, parts_of, patterns_of}
use Rattle.logic_core.specs.Renamed.{EachInTrees, EachInParts, EachInPatterns}
use Rattle.logic_core.proofs.Mentioned.{all_left, all_right}
use Rattle.logic_laws.proofs.SortedMeanings.{each_weaker}
use Rattle.term_bank.specs.declared.node.Node.{Node}
use Rattle.term_bank.specs.declared.node.Node.TheVariants.{Num, Truth, Free, Bound, Sum, Mul, Read, Write, If, Call, Not, And, Or, Eq, Le, ForAll, Exists}
use Rattle.term_bank.specs.Numbered.{at, Begins}
use Rattle.term_bank.specs.Node.{tree_over, in_lists, numbers_in}
use Rattle.term_bank.proofs.Numbers.{begins_at, begins_length}
use Rattle.numbered_facts.specs.Alike.{IsBelow, AreBelow, AreCounted, node_width}

-- a term below a number is below each that is no less
pub below_more : (n m : ℕ) → n ≤ m → (t : Tree) → IsBelow n t → IsBelow m t
below_more n m l t h = each_weaker (λ v. v < n) (λ f. Unit {0}) (λ v. v < m) (λ f. Unit {0}) (λ v w. omega (arith, l, w)) (λ f u. u) t h

pub all_below_more : (ts : List Tree) (count n m : ℕ) → n ≤ m → AreBelow ts count n → AreBelow ts count m
all_below_more ts count n m l h j w = below_more n m l (at ts j) (h j w)

-- the first terms are in a longer store what they were
pub below_later : (ts us : List Tree) (count n : ℕ) → Begins ts us → count ≤ length ts → AreBelow ts count n → AreBelow us count n
below_later ts us count n b l h j w = subst (IsBelow n) (sym (begins_at ts us j b (omega (arith, l, w)))) (h j w)

pub none_below : (ts : List Tree) (n : ℕ) → AreBelow ts 0 n
none_below ts n j w = absurd (omega (arith, w))

module _ (f : ℕ → Tree) (count n : ℕ) (below : (j : ℕ) → j < count → IsBelow n (f j)) where
  each_below : (is : List ℕ) → AllByRecursion (λ j. j < count) is → EachInTrees (λ v. v < n) (λ g. Unit {0}) (trees_of (map f is))
  each_below [] h = tt
  each_below (i ∷ is) h = (below i h.0, each_below is h.1)

  atoms_below : (ps : List (ℤ × ℕ)) → AllByRecursion (λ j. j < count) (map (λ (p : ℤ × ℕ). p.1) ps)
      → EachInParts (λ v. v < n) (λ g. Unit {0}) (parts_of (map {B = ℤ × Tree} (λ (p : ℤ × ℕ). (p.0, f p.1)) ps))
  atoms_below [] h = tt
  atoms_below (p ∷ ps) h = (below p.1 h.0, atoms_below ps h.1)

  lists_below : (ps : List (Vec ℕ Global)) → AllByRecursion (λ j. j < count) (in_lists ps) → EachInPatterns (λ v. v < n) (λ g. Unit {0}) (patterns_of (map (λ (p : Vec ℕ Global). map f p.items) ps))
  lists_below [] h = tt
  lists_below (p ∷ ps) h = (each_below p.items (all_left (λ j. j < count) p.items (in_lists ps) h), lists_below ps (all_right (λ j. j < count) p.items (in_lists ps) h))

  -- a node's term, over terms that are below the number
  pub node_below : (m : Node) → node_width m ≤ n → AllByRecursion (λ j. j < count) (numbers_in m) → IsBelow n (tree_over f m)
  node_below (Num k) l h = tt
  node_below (Truth b) l h = tt
  node_below (Free v) l h = omega (arith, l)
  node_below (Bound v) l h = tt
  node_below (Sum ps c) l h = atoms_below ps.items h
  node_below (Mul a b) l h = (below a h.0, below b h.1.0)
  node_below (Read a b) l h = (below a h.0, below b h.1.0)
  node_below (Write a b c) l h = (below a h.0, below b h.1.0, below c h.1.1.0)
  node_below (If a b c) l h = (below a h.0, below b h.1.0, below c h.1.1.0)
  node_below (Call d is) l h = (tt, each_below is.items h)
  node_below (Not a) l h = below a h.0
  node_below (And is) l h = each_below is.items h
  node_below (Or is) l h = each_below is.items h
  node_below (Eq a b) l h = (below a h.0, below b h.1.0)
  node_below (Le a b) l h = (below a h.0, below b h.1.0)
  node_below (ForAll ss ps a) l h = (lists_below ps.items h.1, below a h.0)
  node_below (Exists ss ps a) l h = (lists_below ps.items h.1, below a h.0)

-- one more term, whose node is over terms before it
pub width_next : (ts : List Tree) (count n : ℕ) (m : Node) → tree_over (at ts) m ≡ at ts count → AllByRecursion (λ j. j < count) (numbers_in m) → AreBelow ts count n → AreBelow ts (count + 1) (max n (node_width m))
width_next ts count n m e lower h j w =
    let more : AreBelow ts count (max n (node_width m)) = all_below_more ts count n (max n (node_width m)) (omega arith) h in
    elim (cases_lt j count) [
      | inl l ↦ more j l
      | inr g ↦
          let same : count ≡ j = omega (arith, w, g) in
          subst (λ k. IsBelow (max n (node_width m)) (at ts k)) same (subst (IsBelow (max n (node_width m))) e (node_below (at ts) count (max n (node_width m)) more m (omega arith) lower))
    ]

-- terms stay counted in a longer store
pub counted_later : (ts us : List Tree) (count n : ℕ) → Begins ts us → AreCounted ts count n → AreCounted us count n
counted_later ts us count n b h = (omega (arith, h.0, begins_length ts us b), below_later ts us count n b h.0 h.1)

pub all_counted : (ts : List Tree) (n : ℕ) → AreBelow ts (length ts) n → AreCounted ts (length ts) n
all_counted ts n h = (omega arith, h)

pub none_counted : (ts : List Tree) (n : ℕ) → AreCounted ts 0 n
none_counted ts n = (omega arith, none_below ts n)
