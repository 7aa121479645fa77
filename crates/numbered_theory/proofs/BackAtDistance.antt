-- What a Read of a Write by number reads at a distance, in a store that grows.
use Rattle.std.proofs.Common.{◌≡◌, refl, sym, ap, ◌∙◌, ℕ, ℤ, ◌<◌, pos, Option, Some, None, List, length}
use Rattle.std.specs.Prelude.{if◌then◌else◌}
use Rattle.std.specs.Ordering.{int_eq}
use Rattle.logic_core.specs.Tree.{Tree}
use Rattle.logic_core.specs.Def.{Def}
use Rattle.proof_core.specs.Maps.{Access, distance, as_number, before_write}
use Rattle.tableau_branch.specs.Branch.{Branch, context_of, Attempt, none, leaves, gives}
use Rattle.term_bank.specs.Numbered.{at}
use Rattle.theory_rules.specs.ReadsBack.{read_back}
use Rattle.numbered_terms.specs.At.{IsAt}
use Rattle.numbered_terms.specs.Stored.{Numbered, Grows}
use Rattle.numbered_branches.proofs.Growing.{stays, below}
use Rattle.numbered_theory.specs.Places.{over}
use Rattle.numbered_theory.specs.Reads.{access_at, IsAccessBelow}
use Rattle.numbered_theory.specs.declared.reads.Written.{Written}

abbrev pub read_at_distance : ℤ → Access → Tree
read_at_distance k a = if int_eq k (pos 0) then a.value else before_write a

abbrev number_by : Option ℤ → Access → Attempt Tree
number_by None a = none
number_by (Some k) a = gives (read_at_distance k a)

abbrev distance_by : Option Tree → Access → Attempt Tree
distance_by None a = leaves
distance_by (Some d) a = number_by (as_number d) a

module _ (defs : List Def) (b : Branch) (a : Access) where
  by_parts : read_back defs b a ≡ distance_by (distance defs (context_of b) a) a
  by_parts = by (distance defs (context_of b) a)
    where
      last : (o : Option ℤ) → ◌≡◌ {A = Attempt Tree} (elim o [ None ↦ none | Some n ↦ gives (if int_eq n (pos 0) then a.value else before_write a) ]) (number_by o a)
      last None = refl
      last (Some n) = refl

      by : (o : Option Tree) → ◌≡◌ {A = Attempt Tree} (elim o [
        | None ↦ leaves
        | Some d ↦ elim (as_number d) [ None ↦ none | Some n ↦ gives (if int_eq n (pos 0) then a.value else before_write a) ]
      ]) (distance_by o a)
      by None = refl
      by (Some d) = last (as_number d)

  pub distance_wide : distance defs (context_of b) a ≡ None → read_back defs b a ≡ leaves
  distance_wide h = by_parts ∙ ap (λ (o : Option Tree). distance_by o a) h

  pub distance_open : (d : Tree) → distance defs (context_of b) a ≡ Some d → as_number d ≡ None → read_back defs b a ≡ none
  distance_open d h k = by_parts ∙ ap (λ (o : Option Tree). distance_by o a) h ∙ ap (λ (o : Option ℤ). number_by o a) k

  pub distance_known : (d : Tree) (k : ℤ) → distance defs (context_of b) a ≡ Some d → as_number d ≡ Some k → read_back defs b a ≡ gives (read_at_distance k a)
  distance_known d k h e = by_parts ∙ ap (λ (o : Option Tree). distance_by o a) h ∙ ap (λ (o : Option ℤ). number_by o a) e

module _ (n m : Numbered) (g : Grows n m) (a : Written) (low : IsAccessBelow (length n.terms) a) where
  pub access_below : IsAccessBelow (length m.terms) a
  access_below = record { table = below n m a.table g low.table; at = below n m a.at g low.at; value = below n m a.value g low.value; index = below n m a.index g low.index }

  access_stays : access_at m.terms a ≡ access_at n.terms a
  access_stays = λ j. record { table = stays n m a.table g low.table j; at = stays n m a.at g low.at j; value = stays n m a.value g low.value j; index = stays n m a.index g low.index j }

  -- what is read there
  pub read_there : (v : Numbered) (d said : ℕ) (k : ℤ) → distance n.defs (context_of (over n.vars)) (access_at n.terms a) ≡ Some (at m.terms d) → as_number (at m.terms d) ≡ Some k → IsAt v.terms said (read_at_distance k (access_at m.terms a))
      → (said < length v.terms) × (read_back n.defs (over n.vars) (access_at n.terms a) ≡ gives (at v.terms said))
  read_there v d said k far number is = (
    is.0,
    distance_known n.defs (over n.vars) (access_at n.terms a) (at m.terms d) k far number ∙ ap (λ (t : Tree). gives t) (sym (is.1 ∙ ap (read_at_distance k) access_stays)),
  )
