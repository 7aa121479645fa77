-- One step of a walk: the numbers in a renumbered node, and its term.
use Rattle.std.proofs.Common.{◌≡◌, refl, sym, ap, subst, ◌∙◌, ℕ, ℤ, Vec, ◌<◌, List, [], ◌∷◌, ◌++◌, map, length}
use Rattle.std.specs.List.{AllByRecursion}
use Rattle.std.specs.declared.alloc.Global.{Global}
use Rattle.logic_core.specs.Tree.{Tree, num, truth, free, bound, linear, mul, read, write, choose, call, negation, all, some, equal, at_most, for_all, exists, Trees, no_trees, tree, Parts, no_parts, part, Patterns, no_patterns, pattern}
use Rattle.logic_core.specs.View.{trees_of, parts_of, patterns_of}
use Rattle.logic_core.proofs.Mentioned.{all_left, all_right}
use Rattle.logic_core.proofs.EachOf.{every_append}
use Rattle.term_bank.specs.declared.node.Node.{Node}
use Rattle.term_bank.specs.declared.node.Node.TheVariants.{Num, Truth, Free, Bound, Sum, Mul, Read, Write, If, Call, Not, And, Or, Eq, Le, ForAll, Exists}
use Rattle.term_bank.specs.Numbered.{at}
use Rattle.term_bank.specs.Node.{tree_over, in_lists, numbers_in}
use Rattle.numbered_terms.specs.Stored.{shape}
use Rattle.numbered_terms.specs.Renumbered.{new_of, IsFound}
use Rattle.numbered_terms.proofs.Renumbering.{renumbered_term}

-- a node's term depends on the terms of its numbers alone
module _ (f g : ℕ → Tree) (P : ℕ → Type 0) (same : (j : ℕ) → P j → f j ≡ g j) where
  same_each : (is : List ℕ) → AllByRecursion P is → map f is ≡ map g is
  same_each [] h = refl
  same_each (i ∷ is) h = λ k. same i h.0 k ∷ same_each is h.1 k

  same_atoms : (ps : List (ℤ × ℕ)) → AllByRecursion P (map (λ (p : ℤ × ℕ). p.1) ps) → map {B = ℤ × Tree} (λ (p : ℤ × ℕ). (p.0, f p.1)) ps ≡ map {B = ℤ × Tree} (λ (p : ℤ × ℕ). (p.0, g p.1)) ps
  same_atoms [] h = refl
  same_atoms (p ∷ ps) h = λ k. (p.0, same p.1 h.0 k) ∷ same_atoms ps h.1 k

  front_of : (xs ys : List ℕ) → AllByRecursion P (xs ++ ys) → AllByRecursion P xs × AllByRecursion P ys
  front_of [] ys h = (tt, h)
  front_of (x ∷ xs) ys h = let r = front_of xs ys h.1 in ((h.0, r.0), r.1)

  same_lists : (ps : List (Vec ℕ Global)) → AllByRecursion P (in_lists ps) → map (λ (p : Vec ℕ Global). map f p.items) ps ≡ map (λ (p : Vec ℕ Global). map g p.items) ps
  same_lists [] h = refl
  same_lists (p ∷ ps) h = let r = front_of p.items (in_lists ps) h in λ k. same_each p.items r.0 k ∷ same_lists ps r.1 k

  pub same_where : (m : Node) → AllByRecursion P (numbers_in m) → tree_over f m ≡ tree_over g m
  same_where (Num k) h = refl
  same_where (Truth b) h = refl
  same_where (Free v) h = refl
  same_where (Bound v) h = refl
  same_where (Sum ps c) h = ap (λ qs. linear (parts_of qs) c) (same_atoms ps.items h)
  same_where (Mul a b) h = λ k. mul (same a h.0 k) (same b h.1.0 k)
  same_where (Read a b) h = λ k. read (same a h.0 k) (same b h.1.0 k)
  same_where (Write a b c) h = λ k. write (same a h.0 k) (same b h.1.0 k) (same c h.1.1.0 k)
  same_where (If a b c) h = λ k. choose (same a h.0 k) (same b h.1.0 k) (same c h.1.1.0 k)
  same_where (Call d is) h = ap (λ ts. call d (trees_of ts)) (same_each is.items h)
  same_where (Not a) h = λ k. negation (same a h.0 k)
  same_where (And is) h = ap (λ ts. all (trees_of ts)) (same_each is.items h)
  same_where (Or is) h = ap (λ ts. some (trees_of ts)) (same_each is.items h)
  same_where (Eq a b) h = λ k. equal (same a h.0 k) (same b h.1.0 k)
  same_where (Le a b) h = λ k. at_most (same a h.0 k) (same b h.1.0 k)
  same_where (ForAll ss ps a) h = λ k. for_all ss.items (patterns_of (same_lists ps.items h.1 k)) (same a h.0 k)
  same_where (Exists ss ps a) h = λ k. exists ss.items (patterns_of (same_lists ps.items h.1 k)) (same a h.0 k)

-- what each number in a node's shape has
module _ (P : ℕ → Type 0) where
  abbrev Has : Tree → Type 0
  Has (free i) = P i
  Has t = Unit {0}

  abbrev EachHas : Trees → Type 0
  EachHas no_trees = Unit {0}
  EachHas (tree t ts) = Has t × EachHas ts

  abbrev AtomsHave : Parts → Type 0
  AtomsHave no_parts = Unit {0}
  AtomsHave (part k t ps) = Has t × AtomsHave ps

  abbrev ListsHave : Patterns → Type 0
  ListsHave no_patterns = Unit {0}
  ListsHave (pattern ts ps) = EachHas ts × ListsHave ps

  abbrev PartsHave : Tree → Type 0
  PartsHave (num n) = Unit {0}
  PartsHave (truth b) = Unit {0}
  PartsHave (free v) = Unit {0}
  PartsHave (bound v) = Unit {0}
  PartsHave (linear ps c) = AtomsHave ps
  PartsHave (mul a b) = Has a × Has b
  PartsHave (read a b) = Has a × Has b
  PartsHave (write a b c) = Has a × Has b × Has c
  PartsHave (choose a b c) = Has a × Has b × Has c
  PartsHave (call d ts) = EachHas ts
  PartsHave (negation a) = Has a
  PartsHave (all ts) = EachHas ts
  PartsHave (some ts) = EachHas ts
  PartsHave (equal a b) = Has a × Has b
  PartsHave (at_most a b) = Has a × Has b
  PartsHave (for_all ss ps a) = Has a × ListsHave ps
  PartsHave (exists ss ps a) = Has a × ListsHave ps

  module _ (g : ℕ → ℕ) where
    abbrev Q : ℕ → Type 0
    Q i = P (g i)

    abbrev of : ℕ → Tree
    of i = free (g i)

    each_to : (is : List ℕ) → AllByRecursion Q is → EachHas (trees_of (map of is))
    each_to [] h = tt
    each_to (i ∷ is) h = (h.0, each_to is h.1)

    each_back : (is : List ℕ) → EachHas (trees_of (map of is)) → AllByRecursion Q is
    each_back [] h = tt
    each_back (i ∷ is) h = (h.0, each_back is h.1)

    atoms_to : (ps : List (ℤ × ℕ)) → AllByRecursion Q (map (λ (p : ℤ × ℕ). p.1) ps) → AtomsHave (parts_of (map {B = ℤ × Tree} (λ (p : ℤ × ℕ). (p.0, of p.1)) ps))
    atoms_to [] h = tt
    atoms_to (p ∷ ps) h = (h.0, atoms_to ps h.1)

    atoms_back : (ps : List (ℤ × ℕ)) → AtomsHave (parts_of (map {B = ℤ × Tree} (λ (p : ℤ × ℕ). (p.0, of p.1)) ps)) → AllByRecursion Q (map (λ (p : ℤ × ℕ). p.1) ps)
    atoms_back [] h = tt
    atoms_back (p ∷ ps) h = (h.0, atoms_back ps h.1)

    lists_to : (ps : List (Vec ℕ Global)) → AllByRecursion Q (in_lists ps) → ListsHave (patterns_of (map (λ (p : Vec ℕ Global). map of p.items) ps))
    lists_to [] h = tt
    lists_to (p ∷ ps) h = (each_to p.items (all_left Q p.items (in_lists ps) h), lists_to ps (all_right Q p.items (in_lists ps) h))

    lists_back : (ps : List (Vec ℕ Global)) → ListsHave (patterns_of (map (λ (p : Vec ℕ Global). map of p.items) ps)) → AllByRecursion Q (in_lists ps)
    lists_back [] h = tt
    lists_back (p ∷ ps) h = every_append Q p.items (in_lists ps) (each_back p.items h.0) (lists_back ps h.1)

    parts_to : (m : Node) → AllByRecursion Q (numbers_in m) → PartsHave (tree_over of m)
    parts_to (Num n) h = tt
    parts_to (Truth b) h = tt
    parts_to (Free v) h = tt
    parts_to (Bound v) h = tt
    parts_to (Sum ps c) h = atoms_to ps.items h
    parts_to (Mul a b) h = (h.0, h.1.0)
    parts_to (Read a b) h = (h.0, h.1.0)
    parts_to (Write a b c) h = (h.0, h.1.0, h.1.1.0)
    parts_to (If a b c) h = (h.0, h.1.0, h.1.1.0)
    parts_to (Call d is) h = each_to is.items h
    parts_to (Not a) h = h.0
    parts_to (And is) h = each_to is.items h
    parts_to (Or is) h = each_to is.items h
    parts_to (Eq a b) h = (h.0, h.1.0)
    parts_to (Le a b) h = (h.0, h.1.0)
    parts_to (ForAll ss ps a) h = (h.0, lists_to ps.items h.1)
    parts_to (Exists ss ps a) h = (h.0, lists_to ps.items h.1)

    parts_back : (m : Node) → PartsHave (tree_over of m) → AllByRecursion Q (numbers_in m)
    parts_back (Num n) h = tt
    parts_back (Truth b) h = tt
    parts_back (Free v) h = tt
    parts_back (Bound v) h = tt
    parts_back (Sum ps c) h = atoms_back ps.items h
    parts_back (Mul a b) h = (h.0, (h.1, tt))
    parts_back (Read a b) h = (h.0, (h.1, tt))
    parts_back (Write a b c) h = (h.0, (h.1, (h.2, tt)))
    parts_back (If a b c) h = (h.0, (h.1, (h.2, tt)))
    parts_back (Call d is) h = each_back is.items h
    parts_back (Not a) h = (h, tt)
    parts_back (And is) h = each_back is.items h
    parts_back (Or is) h = each_back is.items h
    parts_back (Eq a b) h = (h.0, (h.1, tt))
    parts_back (Le a b) h = (h.0, (h.1, tt))
    parts_back (ForAll ss ps a) h = (h.0, lists_back ps.items h.1)
    parts_back (Exists ss ps a) h = (h.0, lists_back ps.items h.1)

pub numbers_have : (P : ℕ → Type 0) (g : ℕ → ℕ) (m n : Node) → shape n ≡ tree_over (λ i. free (g i)) m → AllByRecursion (λ i. P (g i)) (numbers_in m) → AllByRecursion P (numbers_in n)
numbers_have P g m n e h = parts_back P (λ i. i) n (subst (PartsHave P) (sym e) (parts_to P g m h))

pub all_of : (P Q : ℕ → Type 0) → ((i : ℕ) → P i → Q i) → (is : List ℕ) → AllByRecursion P is → AllByRecursion Q is
all_of P Q f [] h = tt
all_of P Q f (i ∷ is) h = (f i h.0, all_of P Q f is h.1)

-- where what is found for each part of a node is what the part becomes, the renumbered node is that of what the node's term becomes
pub walk_step : (becomes : Tree → Tree) (ts : List Tree) (whole : Tree) (found : List (ℕ × ℕ)) (m n : Node) → whole ≡ tree_over (λ k. becomes (at ts k)) m → AllByRecursion (IsFound becomes ts found) (numbers_in m)
    → shape n ≡ tree_over (λ k. free (new_of found k)) m → AllByRecursion (λ j. j < length ts) (numbers_in n) × (tree_over (at ts) n ≡ whole)
walk_step becomes ts whole found m n is h e = (
  numbers_have (λ j. j < length ts) (new_of found) m n e (all_of (IsFound becomes ts found) (λ k. new_of found k < length ts) (λ k f. f.1.0) (numbers_in m) h),
  renumbered_term (at ts) (new_of found) m n e
      ∙ same_where (λ k. at ts (new_of found k)) (λ k. becomes (at ts k)) (IsFound becomes ts found) (λ k f. f.1.1) m h
      ∙ sym is,
)
