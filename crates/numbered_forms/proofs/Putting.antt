-- What becomes of a term's parts where terms stand for a binder's variables.
use Rattle.std.proofs.Common.{◌≡◌, refl, sym, ap, ◌∙◌, ℕ, ◌+◌, None, List, length, arith}
use Rattle.logic_core.specs.Tree.{Tree, num, truth, free, bound, linear, mul, read, write, choose, call, negation, all, some, equal, at_most, for_all, exists, Trees, no_trees, tree, Parts, no_parts, part, Patterns, no_patterns, pattern}
use Rattle.logic_core.specs.Substitute.{put_within, put_each, put_parts, put_patterns}
use Rattle.term_bank.specs.declared.node.Node.{Node}
use Rattle.term_bank.specs.Node.{tree_over}
use Rattle.numbered_forms.specs.Binders.{as_bound, binders}
use Rattle.numbered_terms.proofs.Shapes.{each, each_atom, each_list, level, level_over}

-- how many inner variables stand below a term's parts
abbrev under : ℕ → Tree → ℕ
under d (for_all ss ps t) = d + length ss
under d (exists ss ps t) = d + length ss
under d t = d

under_is : (d : ℕ) (t : Tree) → under d t ≡ d + binders t
under_is d (for_all ss ps t) = refl
under_is d (exists ss ps t) = refl
under_is d (num n) = omega arith
under_is d (truth b) = omega arith
under_is d (free v) = omega arith
under_is d (bound v) = omega arith
under_is d (linear ps c) = omega arith
under_is d (mul x y) = omega arith
under_is d (read x y) = omega arith
under_is d (write x y z) = omega arith
under_is d (choose x y z) = omega arith
under_is d (call f ts) = omega arith
under_is d (negation x) = omega arith
under_is d (all ts) = omega arith
under_is d (some ts) = omega arith
under_is d (equal x y) = omega arith
under_is d (at_most x y) = omega arith

module _ (args : List Tree) where
  each_put : (d : ℕ) (ts : Trees) → put_each args d ts ≡ each (put_within args d) ts
  each_put d no_trees = refl
  each_put d (tree t ts) = ap (tree (put_within args d t)) (each_put d ts)

  parts_put : (d : ℕ) (ps : Parts) → put_parts args d ps ≡ each_atom (put_within args d) ps
  parts_put d no_parts = refl
  parts_put d (part k t ps) = ap (part k (put_within args d t)) (parts_put d ps)

  patterns_put : (d : ℕ) (ps : Patterns) → put_patterns args d ps ≡ each_list (put_within args d) ps
  patterns_put d no_patterns = refl
  patterns_put d (pattern ts ps) = λ k. pattern (each_put d ts k) (patterns_put d ps k)

  put_under : (d : ℕ) (t : Tree) → as_bound t ≡ None → put_within args d t ≡ level (put_within args (under d t)) t
  put_under d (num n) h = refl
  put_under d (truth b) h = refl
  put_under d (free v) h = refl
  put_under d (bound v) h = absurd (cc)
  put_under d (linear ps c) h = ap (λ qs. linear qs c) (parts_put d ps)
  put_under d (mul x y) h = refl
  put_under d (read x y) h = refl
  put_under d (write x y z) h = refl
  put_under d (choose x y z) h = refl
  put_under d (call f ts) h = ap (call f) (each_put d ts)
  put_under d (negation x) h = refl
  put_under d (all ts) h = ap all (each_put d ts)
  put_under d (some ts) h = ap some (each_put d ts)
  put_under d (equal x y) h = refl
  put_under d (at_most x y) h = refl
  put_under d (for_all ss ps t) h = ap (λ qs. for_all ss qs (put_within args (d + length ss) t)) (patterns_put (d + length ss) ps)
  put_under d (exists ss ps t) h = ap (λ qs. exists ss qs (put_within args (d + length ss) t)) (patterns_put (d + length ss) ps)

  -- of a node that is no bound variable the parts become what they do below its variables too
  pub put_node : (of : ℕ → Tree) (m : Node) (d k : ℕ) → as_bound (tree_over of m) ≡ None → k ≡ d + binders (tree_over of m) → put_within args d (tree_over of m) ≡ tree_over (λ i. put_within args k (of i)) m
  put_node of m d k h e = put_under d (tree_over of m) h
      ∙ ap (λ j. level (put_within args j) (tree_over of m)) (under_is d (tree_over of m) ∙ sym e)
      ∙ level_over (put_within args k) of m
