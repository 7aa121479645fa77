-- A node's term depends on the terms of its numbers alone.
use Rattle.std.proofs.Common.{◌≡◌, refl, sym, ap, ◌∙◌, ℕ, ℤ, Vec, ◌<◌, ◌≤◌, true, List, [], ◌∷◌, ◌++◌, map, length, take, arith}
use Rattle.std.proofs.lemmas.List.{get_or-take}
use Rattle.std.specs.List.{AllByRecursion}
use Rattle.std.specs.declared.alloc.Global.{Global}
use Rattle.logic_core.specs.Tree.{Tree, num, truth, free, bound, linear, mul, read, write, choose, call, negation, all, some, equal, at_most, for_all, exists}
use Rattle.logic_core.specs.View.{trees_of, parts_of, patterns_of}
use Rattle.term_bank.specs.declared.node.Node.{Node}
use Rattle.term_bank.specs.declared.node.Node.TheVariants.{Num, Truth, Free, Bound, Sum, Mul, Read, Write, If, Call, Not, And, Or, Eq, Le, ForAll, Exists}
use Rattle.term_bank.specs.Numbered.{at, Begins}
use Rattle.term_bank.specs.Node.{tree_over, in_lists, numbers_in}
use Rattle.term_bank.specs.Table.{IsNodeAt}
use Rattle.term_bank.proofs.Numbers.{begins_at}

module _ (f g : ℕ → Tree) (n : ℕ) (same : (j : ℕ) → j < n → f j ≡ g j) where
  same_each : (is : List ℕ) → AllByRecursion (λ j. j < n) is → map f is ≡ map g is
  same_each [] h = refl
  same_each (i ∷ is) h = λ k. same i h.0 k ∷ same_each is h.1 k

  same_atoms : (ps : List (ℤ × ℕ)) → AllByRecursion (λ j. j < n) (map (λ (p : ℤ × ℕ). p.1) ps) → map {B = ℤ × Tree} (λ (p : ℤ × ℕ). (p.0, f p.1)) ps ≡ map {B = ℤ × Tree} (λ (p : ℤ × ℕ). (p.0, g p.1)) ps
  same_atoms [] h = refl
  same_atoms (p ∷ ps) h = λ k. (p.0, same p.1 h.0 k) ∷ same_atoms ps h.1 k

  front_of : (xs ys : List ℕ) → AllByRecursion (λ j. j < n) (xs ++ ys) → AllByRecursion (λ j. j < n) xs × AllByRecursion (λ j. j < n) ys
  front_of [] ys h = (tt, h)
  front_of (x ∷ xs) ys h = let r = front_of xs ys h.1 in ((h.0, r.0), r.1)

  same_lists : (ps : List (Vec ℕ Global)) → AllByRecursion (λ j. j < n) (in_lists ps) → map (λ (p : Vec ℕ Global). map f p.items) ps ≡ map (λ (p : Vec ℕ Global). map g p.items) ps
  same_lists [] h = refl
  same_lists (p ∷ ps) h = let r = front_of p.items (in_lists ps) h in λ k. same_each p.items r.0 k ∷ same_lists ps r.1 k

  pub same_tree : (m : Node) → AllByRecursion (λ j. j < n) (numbers_in m) → tree_over f m ≡ tree_over g m
  same_tree (Num k) h = refl
  same_tree (Truth b) h = refl
  same_tree (Free v) h = refl
  same_tree (Bound v) h = refl
  same_tree (Sum ps c) h = ap (λ qs. linear (parts_of qs) c) (same_atoms ps.items h)
  same_tree (Mul a b) h = λ k. mul (same a h.0 k) (same b h.1.0 k)
  same_tree (Read a b) h = λ k. read (same a h.0 k) (same b h.1.0 k)
  same_tree (Write a b c) h = λ k. write (same a h.0 k) (same b h.1.0 k) (same c h.1.1.0 k)
  same_tree (If a b c) h = λ k. choose (same a h.0 k) (same b h.1.0 k) (same c h.1.1.0 k)
  same_tree (Call d is) h = ap (λ ts. call d (trees_of ts)) (same_each is.items h)
  same_tree (Not a) h = λ k. negation (same a h.0 k)
  same_tree (And is) h = ap (λ ts. all (trees_of ts)) (same_each is.items h)
  same_tree (Or is) h = ap (λ ts. some (trees_of ts)) (same_each is.items h)
  same_tree (Eq a b) h = λ k. equal (same a h.0 k) (same b h.1.0 k)
  same_tree (Le a b) h = λ k. at_most (same a h.0 k) (same b h.1.0 k)
  same_tree (ForAll ss ps a) h = λ k. for_all ss.items (patterns_of (same_lists ps.items h.1 k)) (same a h.0 k)
  same_tree (Exists ss ps a) h = λ k. exists ss.items (patterns_of (same_lists ps.items h.1 k)) (same a h.0 k)

-- a node stays one of its term as terms join the end
pub node_kept : (ts us : List Tree) (i : ℕ) (m : Node) → Begins ts us → i < length ts → IsNodeAt ts i m → IsNodeAt us i m
node_kept ts us i m b l h = (same_tree (at us) (at ts) i (λ j w. begins_at ts us j b (omega (arith, w, l))) m h.1 ∙ h.0 ∙ sym (begins_at ts us i b l), h.1)

-- and as terms behind it go
pub node_before : (ts : List Tree) (n i : ℕ) (m : Node) → i < n → IsNodeAt ts i m → IsNodeAt (take n ts) i m
node_before ts n i m l h = (same_tree (at (take n ts)) (at ts) i (λ j w. get_or-take n ts j (truth true) (omega (arith, w, l))) m h.1 ∙ h.0 ∙ sym (get_or-take n ts i (truth true) l), h.1)
