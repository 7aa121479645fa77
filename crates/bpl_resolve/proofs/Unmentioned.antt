-- Where `old` may not stand, the term of an expression without faults mentions no variable but those that names stand for.
use Rattle.std.proofs.Common.{◌≡◌, refl, ℕ, Bool, false, ◌||◌, List, []}
use Rattle.std.specs.Prelude.{⊤, nat_eq}
use Rattle.logic_core.proofs.Booleans.{none_of as two}
use Rattle.logic_core.specs.Tree.{Tree, num, truth as truth_term, free, bound, linear, mul, read, write, choose, call, negation, all, some, equal, at_most, for_all, exists, Trees, no_trees, tree, Parts, no_parts, part, Patterns, no_patterns, pattern}
use Rattle.logic_core.specs.Same.{same_term}
use Rattle.logic_core.specs.Subterm.{has, has_any, has_part, has_pattern}
use Rattle.logic_core.specs.Renamed.{EachHas, EachInTrees, EachInParts, EachInPatterns}
use Rattle.bpl_ast.specs.Tree.{Expr}
use Rattle.bpl_scopes.specs.Scopes.{Text, BoundVar, Scope, Counts, Meaning, bound_to, stands_for, declared_as, nothing, a_constant, a_global, a_function, a_synonym, a_procedure, meaning}
use Rattle.bpl_faults.specs.NameFaults.{reads_entry}
use Rattle.bpl_faults.specs.ExprFaults.{expr_faults}
use Rattle.bpl_terms.specs.Terms.{meaning_term, term_in}
use Rattle.bpl_resolve.proofs.Reached.{reached}

module _ (v : ℕ) where
  abbrev pub Lacks : Tree → Type 0
  Lacks t = has (same_term (free v)) t ≡ false

  -- no name stands for the variable
  abbrev pub NoName : Scope → Type 0
  NoName s = (bs : List BoundVar) (n : Text) → Lacks (meaning_term false s.counts (meaning (record s { bounds = bs }) n))

  abbrev Other : ℕ → Type 0
  Other u = nat_eq v u ≡ false

  abbrev Any : ℕ → Type 0
  Any f = ⊤

  -- where each variable is another, the term lacks it
  mutual
    others_only : (t : Tree) → EachHas Other Any t → Lacks t
    others_only (num n) h = refl
    others_only (truth_term x) h = refl
    others_only (free u) h = h
    others_only (bound u) h = refl
    others_only (linear ps c) h = others_in_parts ps h
    others_only (mul x y) h = two _ _ (others_only x h.0) (others_only y h.1)
    others_only (read x y) h = two _ _ (others_only x h.0) (others_only y h.1)
    others_only (write x y z) h = two _ _ (others_only x h.0) (two _ _ (others_only y h.1) (others_only z h.2))
    others_only (choose x y z) h = two _ _ (others_only x h.0) (two _ _ (others_only y h.1) (others_only z h.2))
    others_only (call f ts) h = others_in_trees ts h.1
    others_only (negation x) h = others_only x h
    others_only (all ts) h = others_in_trees ts h
    others_only (some ts) h = others_in_trees ts h
    others_only (equal x y) h = two _ _ (others_only x h.0) (others_only y h.1)
    others_only (at_most x y) h = two _ _ (others_only x h.0) (others_only y h.1)
    others_only (for_all ss ps t) h = two _ _ (others_in_patterns ps h.0) (others_only t h.1)
    others_only (exists ss ps t) h = two _ _ (others_in_patterns ps h.0) (others_only t h.1)

    others_in_trees : (ts : Trees) → EachInTrees Other Any ts → has_any (same_term (free v)) ts ≡ false
    others_in_trees no_trees h = refl
    others_in_trees (tree t ts) h = two _ _ (others_only t h.0) (others_in_trees ts h.1)

    others_in_parts : (ps : Parts) → EachInParts Other Any ps → has_part (same_term (free v)) ps ≡ false
    others_in_parts no_parts h = refl
    others_in_parts (part k t ps) h = two _ _ (others_only t h.0) (others_in_parts ps h.1)

    others_in_patterns : (ps : Patterns) → EachInPatterns Other Any ps → has_pattern (same_term (free v)) ps ≡ false
    others_in_patterns no_patterns h = refl
    others_in_patterns (pattern ts ps) h = two _ _ (others_in_trees ts h.0) (others_in_patterns ps h.1)

  name_is_other : (c : Counts) (m : Meaning) → Lacks (meaning_term false c m) → EachHas Other Any (meaning_term false c m)
  name_is_other c (bound_to i k) h = tt
  name_is_other c (stands_for u) h = h
  name_is_other c (declared_as (a_constant k s)) h = h
  name_is_other c (declared_as (a_global k s)) h = h
  name_is_other c (declared_as (a_function g)) h = tt
  name_is_other c (declared_as (a_synonym s)) h = tt
  name_is_other c (declared_as (a_procedure k d)) h = tt
  name_is_other c nothing h = tt

  pub lacks : (s : Scope) → NoName s → reads_entry s.part ≡ false → (f : Bool) (x : Expr) → expr_faults s f x ≡ [] → Lacks (term_in s false x)
  lacks s a o f x e = others_only (term_in s false x)
      (reached Other Any (λ n. ⊤) s (record { names = λ bs n. name_is_other s.counts _ (a bs n); functions = λ bs n k q u. tt }) o [] (λ n i. absurd i) f x e (λ n i. tt))
