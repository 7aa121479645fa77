-- One step of the walk that replaces a term.
use Rattle.std.proofs.Common.{◌≡◌, refl, sym, ap, subst, ◌∙◌, ℕ, ◌<◌, nat_lt, nat_eq, Bool, true, false, Some, None, cond, List, [], length}
use Rattle.std.specs.List.{AllByRecursion}
use Rattle.std.proofs.lemmas.Bool.{ltb-true, eqb-true, eqb-false}
use Rattle.logic_core.specs.Tree.{Tree, free}
use Rattle.logic_core.specs.Same.{same_term}
use Rattle.logic_core.specs.Traversed.{as_deep, kept}
use Rattle.logic_core.specs.Replace.{for_picked}
use Rattle.logic_core.specs.Subterm.{replaced}
use Rattle.logic_core.proofs.Picked.{stands_whole}
use Rattle.logic_core.proofs.SameTerm.{same_is_equal, same_as_itself}
use Rattle.term_bank.specs.Numbered.{at, number_of, Begins}
use Rattle.term_bank.specs.Node.{tree_over, numbers_in}
use Rattle.term_bank.specs.Table.{IsNodeAt}
use Rattle.term_bank.specs.declared.node.Node.{Node}
use Rattle.term_bank.proofs.Numbers.{begins_at}
use Rattle.numbered_terms.specs.At.{IsAt}
use Rattle.numbered_terms.specs.Stored.{AreStored, shape}
use Rattle.numbered_terms.specs.Renumbered.{new_of, IsFound, AreFound}
use Rattle.numbered_terms.proofs.Renumbering.{replaced_node}
use Rattle.numbered_terms.proofs.Staying.{lower_stays}
use Rattle.numbered_terms.proofs.WalkSteps.{walk_step, same_where}
use Rattle.numbered_terms.proofs.Walking.{unchanged}

-- the replaced term itself becomes the new one
pub itself_replaced : (t u : Tree) → replaced t u t ≡ u
itself_replaced t u = stands_whole (for_picked (same_term t) u) as_deep kept 0 t u (ap (λ b. cond b (Some u) None) (same_as_itself t))

-- two numbers have two terms
pub other_term : (ts : List Tree) (i j : ℕ) → AreStored ts → i < length ts → j < length ts → (i ≡ j → ⊥) → same_term (at ts i) (at ts j) ≡ false
other_term ts i j s l w other = by (same_term (at ts i) (at ts j)) refl
  where
    by : (b : Bool) → same_term (at ts i) (at ts j) ≡ b → b ≡ false
    by false e = refl
    by true e = let q : Some i ≡ Some j = sym (s.apart i l) ∙ ap (number_of ts) (same_is_equal (at ts i) (at ts j) e) ∙ s.apart j w in
        let one : i ≡ j = cc in absurd (other one)

-- what is the same term in a longer store
pub as_before : (ts us : List Tree) (old new : ℕ) → Begins ts us → old < length ts → new < length ts → replaced (at us old) (at us new) ≡ replaced (at ts old) (at ts new)
as_before ts us old new b o n = λ k. replaced (begins_at ts us old b o k) (begins_at ts us new b n k)

pub lower_found : (ts : List Tree) (found : List (ℕ × ℕ)) (old new id : ℕ) → AreStored ts → old < length ts → id < length ts → nat_lt id old ≡ true → AreFound (replaced (at ts old) (at ts new)) ts found → IsFound (replaced (at ts old) (at ts new)) ts found id
lower_found ts found old new id s o l h right = unchanged (replaced (at ts old) (at ts new)) ts found id right l (lower_stays ts s id old (at ts new) (ltb-true id old h) o)

-- a term without parts stays, unless it is the replaced one
pub single_found : (ts : List Tree) (found : List (ℕ × ℕ)) (old new id : ℕ) (m : Node) → id < length ts → IsNodeAt ts id m → same_term (at ts old) (at ts id) ≡ false → numbers_in m ≡ [] → AreFound (replaced (at ts old) (at ts new)) ts found → IsFound (replaced (at ts old) (at ts new)) ts found id
single_found ts found old new id m l is other none right =
    let R : Tree → Tree = replaced (at ts old) (at ts new) in
    unchanged R ts found id right l (
    ap R (sym is.0)
    ∙ replaced_node (same_term (at ts old)) (at ts new) (at ts) m (ap (same_term (at ts old)) is.0 ∙ other)
    ∙ same_where (λ k. R (at ts k)) (at ts) (λ k. R (at ts k) ≡ at ts k) (λ k e. e) m (subst (AllByRecursion (λ k. R (at ts k) ≡ at ts k)) (sym none) tt)
    ∙ is.0
    )

-- the new number for the old one
pub own_number : (ts : List Tree) (old new id : ℕ) → new < length ts → nat_eq id old ≡ true → IsAt ts new (replaced (at ts old) (at ts new) (at ts id))
own_number ts old new id n h = (n, sym (ap (λ i. replaced (at ts old) (at ts new) (at ts i)) (eqb-true id old h) ∙ itself_replaced (at ts old) (at ts new)))

-- a term's node with the numbers that are found for its parts
module _ (ts : List Tree) (old new id : ℕ) (found : List (ℕ × ℕ)) (m n : Node) (l : id < length ts) (is : IsNodeAt ts id m) (other : same_term (at ts old) (at ts id) ≡ false)
    (parts : AllByRecursion (IsFound (replaced (at ts old) (at ts new)) ts found) (numbers_in m)) (e : shape n ≡ tree_over (λ k. free (new_of found k)) m) where
  whole : replaced (at ts old) (at ts new) (at ts id) ≡ tree_over (λ k. replaced (at ts old) (at ts new) (at ts k)) m
  whole = ap (replaced (at ts old) (at ts new)) (sym is.0) ∙ replaced_node (same_term (at ts old)) (at ts new) (at ts) m (ap (same_term (at ts old)) is.0 ∙ other)

  rebuilt : AllByRecursion (λ j. j < length ts) (numbers_in n) × (tree_over (at ts) n ≡ replaced (at ts old) (at ts new) (at ts id))
  rebuilt = walk_step (replaced (at ts old) (at ts new)) ts (replaced (at ts old) (at ts new) (at ts id)) found m n whole parts e

  pub rebuilt_below : AllByRecursion (λ j. j < length ts) (numbers_in n)
  rebuilt_below = rebuilt.0

  -- it is made in a longer store
  module _ (us : List Tree) (j : ℕ) (b : Begins ts us) (made : IsAt us j (tree_over (at ts) n)) where
    pub rebuilt_at : IsAt us j (replaced (at ts old) (at ts new) (at us id))
    rebuilt_at = (made.0, made.1 ∙ rebuilt.1 ∙ ap (replaced (at ts old) (at ts new)) (sym (begins_at ts us id b l)))

-- two numbers are one where their terms are
pub same_number : (ts : List Tree) (i j : ℕ) → AreStored ts → i < length ts → j < length ts → nat_eq i j ≡ same_term (at ts i) (at ts j)
same_number ts i j s l w = by (nat_eq i j) refl
  where
    by : (b : Bool) → nat_eq i j ≡ b → b ≡ same_term (at ts i) (at ts j)
    by true e = sym (ap (λ k. same_term (at ts k) (at ts j)) (eqb-true i j e) ∙ same_as_itself (at ts j))
    by false e = sym (other_term ts i j s l w (eqb-false i j e))
