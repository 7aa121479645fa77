-- Left sides of facts, by number.
use Rattle.std.proofs.Common.{◌≡◌, refl, sym, ap, subst, ◌∙◌, ℕ, ℤ, pos, suc, ◌+◌, ◌<◌, ◌≤◌, nat_eq, Bool, true, false, ◌&&◌, ◌||◌, Option, Some, None, IfSome, option_map, Vec, List, [], ◌∷◌, length, drop, get_or, if◌then◌else◌, arith}
use Rattle.std.specs.declared.alloc.Global.{Global}
use Rattle.std.proofs.lemmas.Bool.{eq-eqb}
use Rattle.std.proofs.lemmas.List.{at_drop_all}
use Rattle.logic_core.specs.Tree.{Tree, Kind, free, linear, Parts, no_parts, part}
use Rattle.logic_core.specs.Def.{Def}
use Rattle.logic_core.specs.View.{parts_of}
use Rattle.logic_core.specs.Wide.{when}
use Rattle.logic_core.specs.Sorts.{sort_of}
use Rattle.logic_core.specs.Junction.{is_zero}
use Rattle.logic_core.specs.Combine.{sum_of}
use Rattle.logic_core.specs.Subterm.{occurs}
use Rattle.proof_core.specs.Says.{or_else}
use Rattle.tableau_branch.specs.Oriented.{is_variable, is_one, is_minus_one, parts_with, greater_number, solvable_among, simple_lead, linear_left, defined, greater_side, equation_left}
use Rattle.tableau_branch.proofs.Lists.{drop_item}
use Rattle.term_bank.specs.declared.node.Node.{Node}
use Rattle.term_bank.specs.declared.node.Node.TheVariants.{Num, Free, Sum}
use Rattle.term_bank.specs.Numbered.{at}
use Rattle.term_bank.specs.Node.{tree_over}
use Rattle.numbered_terms.specs.Lists.{atoms_at}
use Rattle.numbered_facts.specs.Answers.{StandsFor}

-- the greater of one term
pub greater_alone : (t : Tree) → greater_number (Some t) None ≡ Some t
greater_alone (free v) = refl
greater_alone t = refl

-- a term that is no variable comes first
pub greater_other : (t u : Tree) → is_variable t ≡ false → greater_number (Some t) (Some u) ≡ Some t
greater_other (free v) u h = absurd (cc)
greater_other t u h = refl

pub greater_variable : (v : ℕ) (u : Tree) → is_variable u ≡ false → greater_number (Some (free v)) (Some u) ≡ Some (free v)
greater_variable v (free w) h = absurd (cc)
greater_variable v u h = refl

module _ (ts : List Tree) where
  -- more than two atoms have no simple lead
  pub no_simple : (ps : List (ℤ × ℕ)) (c : ℤ) → 3 ≤ length ps → None ≡ simple_lead (parts_of (atoms_at ts ps)) c
  no_simple [] c h = absurd (omega (arith, h))
  no_simple (p ∷ []) c h = absurd (omega (arith, h))
  no_simple (p ∷ (q ∷ [])) c h = absurd (omega (arith, h))
  no_simple (p ∷ (q ∷ (r ∷ ps))) c h = refl

  -- what a number stands for
  pub stands_is : (o : Option ℕ) (t : Option Tree) → StandsFor ts o t → t ≡ option_map (at ts) o
  stands_is None t h = h
  stands_is (Some i) t h = h.1

  pub stands_within : (o : Option ℕ) (t : Option Tree) → StandsFor ts o t → IfSome o (λ i. i < length ts)
  stands_within None t h = tt
  stands_within (Some i) t h = h.0

  pub stands_for : (o : Option ℕ) (t : Option Tree) → option_map (at ts) o ≡ t → IfSome o (λ i. i < length ts) → StandsFor ts o t
  stands_for None t e h = sym e
  stands_for (Some i) t e h = (h, sym e)

  abbrev parts_at : List (ℤ × ℕ) → Parts
  parts_at ps = parts_of (atoms_at ts ps)

  -- in how many of the atoms a term occurs, from one on
  pub parts_next : (t : Tree) (ps : List (ℤ × ℕ)) (i : ℕ) (p : ℤ × ℕ) (b : Bool) → i < length ps → p ≡ get_or ps i p → b ≡ occurs t (at ts p.1)
      → parts_with t (parts_at (drop i ps)) ≡ (if b then suc (parts_with t (parts_at (drop (i + 1) ps))) else parts_with t (parts_at (drop (i + 1) ps)))
  parts_next t ps i p b l e o = ap (λ qs. parts_with t (parts_at qs)) (drop_item ps i p l e)
      ∙ ap (λ d. if d then suc (parts_with t (parts_at (drop (i + 1) ps))) else parts_with t (parts_at (drop (i + 1) ps))) (sym o)

  pub parts_done : (t : Tree) (ps : List (ℤ × ℕ)) (i : ℕ) → length ps ≤ i → parts_with t (parts_at (drop i ps)) ≡ 0
  parts_done t ps i l = at_drop_all (λ qs. parts_with t (parts_at qs)) ps i l

  -- the best of the atoms from one on
  pub best_none : (whole : Parts) (ps : List (ℤ × ℕ)) (i : ℕ) → length ps ≤ i → StandsFor ts None (solvable_among whole (parts_at (drop i ps)))
  best_none whole ps i l = at_drop_all (λ qs. solvable_among whole (parts_at qs)) ps i l

  pub best_next : (whole : Parts) (ps : List (ℤ × ℕ)) (i j : ℕ) (p : ℤ × ℕ) (old new : Option ℕ) → j ≡ i + 1 → i < length ps → p ≡ get_or ps i p → StandsFor ts old (solvable_among whole (parts_at (drop j ps)))
      → StandsFor ts new (greater_number (when (is_variable (at ts p.1) && ((is_one p.0 || is_minus_one p.0) && nat_eq (parts_with (at ts p.1) whole) 1)) (Some (at ts p.1))) (option_map (at ts) old))
      → StandsFor ts new (solvable_among whole (parts_at (drop i ps)))
  best_next whole ps i j p old new q l e before h = subst (StandsFor ts new)
      (ap (greater_number (when (is_variable (at ts p.1) && ((is_one p.0 || is_minus_one p.0) && nat_eq (parts_with (at ts p.1) whole) 1)) (Some (at ts p.1))))
      (sym (stands_is old (solvable_among whole (parts_at (drop j ps))) before) ∙ ap (λ k. solvable_among whole (parts_at (drop k ps))) q)
      ∙ sym (ap (λ qs. solvable_among whole (parts_at qs)) (drop_item ps i p l e))) h

  pub best_all : (whole : Parts) (ps : List (ℤ × ℕ)) (i : ℕ) (best : Option ℕ) → i ≡ 0 → StandsFor ts best (solvable_among whole (parts_at (drop i ps))) → StandsFor ts best (solvable_among whole (parts_at ps))
  best_all whole ps i best e h = subst (λ k. StandsFor ts best (solvable_among whole (parts_at (drop k ps)))) e h

  -- the left side of an equation of a sum with zero
  pub left_solved : (t : Tree) (ps : Parts) (c : ℤ) (i : ℕ) → t ≡ linear ps c → StandsFor ts (Some i) (solvable_among ps ps) → StandsFor ts (Some i) (linear_left (sum_of t))
  left_solved t ps c i e h = (h.0, ap (λ u. linear_left (sum_of u)) e ∙ ap (λ o. or_else o (simple_lead ps c)) h.1)

  pub left_simple : (t : Tree) (ps : Parts) (c : ℤ) (o : Option ℕ) → t ≡ linear ps c → solvable_among ps ps ≡ None → option_map (at ts) o ≡ simple_lead ps c → IfSome o (λ i. i < length ts) → StandsFor ts o (linear_left (sum_of t))
  left_simple t ps c o e n s w = subst (StandsFor ts o) (sym (ap (λ u. linear_left (sum_of u)) e ∙ ap (λ q. or_else q (simple_lead ps c)) n)) (stands_for o (simple_lead ps c) s w)

own_left : (v : ℕ) → linear_left (sum_of (free v)) ≡ Some (free v)
own_left v = ap (λ b. or_else (greater_number (when (nat_eq (if b then suc 0 else 0) 1) (Some (free v))) None) (simple_lead (part (pos 1) (free v) no_parts) (pos 0))) (eq-eqb v v refl)

pub whole_left : (of : ℕ → Tree) (m : Node) → ((n : ℤ) → m ≡ Num n → ⊥) → ((ps : Vec (ℤ × ℕ) Global) (c : ℤ) → m ≡ Sum ps c → ⊥) → linear_left (sum_of (tree_over of m)) ≡ Some (tree_over of m)
whole_left of (Num n) h g = absurd (h n refl)
whole_left of (Free v) h g = own_left v
whole_left of (Sum ps c) h g = absurd (g ps c refl)
whole_left of m h g = refl

-- of every equation
module _ (vars : List Kind) (defs : List Def) (a b : Tree) where
  pub zero_left : is_zero b ≡ true → equation_left vars defs a b ≡ linear_left (sum_of a)
  zero_left e = ap (λ z. if z then linear_left (sum_of a) else or_else (defined a b) (greater_side (sort_of vars defs [] a) a b)) e

  pub other_left : is_zero b ≡ false → equation_left vars defs a b ≡ or_else (defined a b) (greater_side (sort_of vars defs [] a) a b)
  other_left e = ap (λ z. if z then linear_left (sum_of a) else or_else (defined a b) (greater_side (sort_of vars defs [] a) a b)) e

  pub defined_left : (t : Tree) → is_zero b ≡ false → defined a b ≡ Some t → equation_left vars defs a b ≡ Some t
  defined_left t e d = other_left e ∙ ap (λ o. or_else o (greater_side (sort_of vars defs [] a) a b)) d

  pub sorted_left : (s : Option Kind) → is_zero b ≡ false → defined a b ≡ None → s ≡ sort_of vars defs [] a → equation_left vars defs a b ≡ greater_side s a b
  sorted_left s e d q = other_left e ∙ ap (λ o. or_else o (greater_side (sort_of vars defs [] a) a b)) d ∙ ap (λ k. greater_side k a b) (sym q)
