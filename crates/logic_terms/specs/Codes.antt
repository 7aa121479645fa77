-- Codes of sorts and terms, by which proofs tell them apart.
use Rattle.std.specs.Prelude.{◌≡◌, ℕ, List, refl}
use Rattle.std.specs.Coded.{Coded, coded_ℤ, coded_bool, coded_list}
use Rattle.std.proofs.Common.{ap, arith}
use base.Stored.{Gv, gnil, gnum, gcons}
use Rattle.logic_terms.specs.Tree.{Kind, int, boolean, map, Tree, num, truth, free, bound, linear, mul, read, write, choose, call, negation, all, some, equal, at_most, for_all, exists, Trees, no_trees, tree, Parts, no_parts, part, Patterns, no_patterns, pattern}

abbrev pub kind_code : Kind → Gv
kind_code int = gnum 0
kind_code boolean = gnum 1
kind_code (map k) = gcons gnil (kind_code k)

pub kind_inj : (x y : Kind) → kind_code x ≡ kind_code y → x ≡ y
kind_inj int int p = refl
kind_inj boolean boolean p = refl
kind_inj (map x) (map y) p = ap map (kind_inj x y (cc))
kind_inj int boolean p = cc
kind_inj boolean int p = cc
kind_inj int (map y) p = cc
kind_inj boolean (map y) p = cc
kind_inj (map x) int p = cc
kind_inj (map x) boolean p = cc

abbrev pub coded_kind : Coded Kind
coded_kind = record { code = kind_code; inj = kind_inj }

abbrev pub coded_kinds : Coded (List Kind)
coded_kinds = coded_list coded_kind

abbrev mutual
  pub tree_code : Tree → Gv
  tree_code (num n) = gcons (gnum 0) (coded_ℤ.code n)
  tree_code (truth b) = gcons (gnum 1) (coded_bool.code b)
  tree_code (free v) = gcons (gnum 2) (gnum v)
  tree_code (bound v) = gcons (gnum 3) (gnum v)
  tree_code (linear ps c) = gcons (gnum 4) (gcons (parts_code ps) (coded_ℤ.code c))
  tree_code (mul a b) = gcons (gnum 5) (gcons (tree_code a) (tree_code b))
  tree_code (read a b) = gcons (gnum 6) (gcons (tree_code a) (tree_code b))
  tree_code (write a b c) = gcons (gnum 7) (gcons (tree_code a) (gcons (tree_code b) (tree_code c)))
  tree_code (choose a b c) = gcons (gnum 8) (gcons (tree_code a) (gcons (tree_code b) (tree_code c)))
  tree_code (call f ts) = gcons (gnum 9) (gcons (gnum f) (trees_code ts))
  tree_code (negation a) = gcons (gnum 10) (tree_code a)
  tree_code (all ts) = gcons (gnum 11) (trees_code ts)
  tree_code (some ts) = gcons (gnum 12) (trees_code ts)
  tree_code (equal a b) = gcons (gnum 13) (gcons (tree_code a) (tree_code b))
  tree_code (at_most a b) = gcons (gnum 14) (gcons (tree_code a) (tree_code b))
  tree_code (for_all ss ps a) = gcons (gnum 15) (gcons (coded_kinds.code ss) (gcons (patterns_code ps) (tree_code a)))
  tree_code (exists ss ps a) = gcons (gnum 16) (gcons (coded_kinds.code ss) (gcons (patterns_code ps) (tree_code a)))

  pub trees_code : Trees → Gv
  trees_code no_trees = gnil
  trees_code (tree t ts) = gcons (tree_code t) (trees_code ts)

  pub parts_code : Parts → Gv
  parts_code no_parts = gnil
  parts_code (part k t ps) = gcons (gcons (coded_ℤ.code k) (tree_code t)) (parts_code ps)

  pub patterns_code : Patterns → Gv
  patterns_code no_patterns = gnil
  patterns_code (pattern ts ps) = gcons (trees_code ts) (patterns_code ps)

-- the number of the variant
abbrev pub tag : Gv → ℕ
tag gnil = 0
tag (gnum n) = 0
tag (gcons gnil b) = 0
tag (gcons (gnum n) b) = n
tag (gcons (gcons a c) b) = 0

mutual
  pub tree_inj : (x y : Tree) → tree_code x ≡ tree_code y → x ≡ y
  tree_inj (num m) (num n) p = ap num (coded_ℤ.inj m n (cc))
  tree_inj (truth m) (truth n) p = ap truth (coded_bool.inj m n (cc))
  tree_inj (free m) (free n) p = cc
  tree_inj (bound m) (bound n) p = cc
  tree_inj (linear m a) (linear n b) p = cc (parts_inj m n (cc), coded_ℤ.inj a b (cc))
  tree_inj (mul m a) (mul n b) p = cc (tree_inj m n (cc), tree_inj a b (cc))
  tree_inj (read m a) (read n b) p = cc (tree_inj m n (cc), tree_inj a b (cc))
  tree_inj (write m a k) (write n b l) p = cc (tree_inj m n (cc), tree_inj a b (cc), tree_inj k l (cc))
  tree_inj (choose m a k) (choose n b l) p = cc (tree_inj m n (cc), tree_inj a b (cc), tree_inj k l (cc))
  tree_inj (call f a) (call g b) p = cc (trees_inj a b (cc))
  tree_inj (negation a) (negation b) p = ap negation (tree_inj a b (cc))
  tree_inj (all a) (all b) p = ap all (trees_inj a b (cc))
  tree_inj (some a) (some b) p = ap some (trees_inj a b (cc))
  tree_inj (equal m a) (equal n b) p = cc (tree_inj m n (cc), tree_inj a b (cc))
  tree_inj (at_most m a) (at_most n b) p = cc (tree_inj m n (cc), tree_inj a b (cc))
  tree_inj (for_all r m a) (for_all s n b) p = cc (coded_kinds.inj r s (cc), patterns_inj m n (cc), tree_inj a b (cc))
  tree_inj (exists r m a) (exists s n b) p = cc (coded_kinds.inj r s (cc), patterns_inj m n (cc), tree_inj a b (cc))
  tree_inj x y p = let e : tag (tree_code x) ≡ tag (tree_code y) = ap tag p in absurd (omega arith)

  pub trees_inj : (x y : Trees) → trees_code x ≡ trees_code y → x ≡ y
  trees_inj no_trees no_trees p = refl
  trees_inj (tree a m) (tree b n) p = cc (tree_inj a b (cc), trees_inj m n (cc))
  trees_inj no_trees (tree b n) p = cc
  trees_inj (tree b n) no_trees p = cc

  pub parts_inj : (x y : Parts) → parts_code x ≡ parts_code y → x ≡ y
  parts_inj no_parts no_parts p = refl
  parts_inj (part k a m) (part l b n) p = cc (coded_ℤ.inj k l (cc), tree_inj a b (cc), parts_inj m n (cc))
  parts_inj no_parts (part k a m) p = cc
  parts_inj (part k a m) no_parts p = cc

  pub patterns_inj : (x y : Patterns) → patterns_code x ≡ patterns_code y → x ≡ y
  patterns_inj no_patterns no_patterns p = refl
  patterns_inj (pattern a m) (pattern b n) p = cc (trees_inj a b (cc), patterns_inj m n (cc))
  patterns_inj no_patterns (pattern a m) p = cc
  patterns_inj (pattern a m) no_patterns p = cc

abbrev pub coded_tree : Coded Tree
coded_tree = record { code = tree_code; inj = tree_inj }
