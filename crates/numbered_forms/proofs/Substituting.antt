-- Steps of the walk that puts terms in the place of a binder's variables.
use Rattle.std.proofs.Common.{◌≡◌, sym, ap, ◌∙◌, ℕ, ◌+◌, ◌<◌, Some, None, List, [], ◌∷◌, reverse, length}
use Rattle.std.proofs.lemmas.Grind.{reverse_onto}
use Rattle.std.specs.List.{AllByRecursion}
use Rattle.indexmap.proofs.ReorderLemmas.{map-reverse}
use Rattle.logic_core.specs.Tree.{Tree, num, truth, free, bound, linear, mul, read, write, choose, call, negation, all, some, equal, at_most, for_all, exists}
use Rattle.logic_core.specs.Substitute.{bound_within, put_within, substitute}
use Rattle.logic_core.proofs.EachOf.{every_append}
use Rattle.term_bank.specs.Numbered.{at, Begins}
use Rattle.term_bank.specs.Node.{tree_over, numbers_in}
use Rattle.term_bank.specs.Table.{IsNodeAt}
use Rattle.term_bank.specs.declared.node.Node.{Node}
use Rattle.numbered_terms.specs.Lists.{terms_at}
use Rattle.numbered_terms.specs.Stored.{shape}
use Rattle.numbered_terms.specs.Renumbered.{new_of, IsFound}
use Rattle.numbered_terms.proofs.WalkSteps.{walk_step}
use Rattle.numbered_forms.specs.Binders.{as_bound, binders}
use Rattle.numbered_forms.proofs.LongerStores.{terms_stay}
use Rattle.numbered_forms.proofs.Putting.{put_node}

-- a bound variable becomes what stands for it
pub bound_put : (args : List Tree) (d v : ℕ) (t : Tree) → as_bound t ≡ Some v → bound_within args d v ≡ put_within args d t
bound_put args d v (bound w) h = let e : v ≡ w = cc in ap (bound_within args d) e
bound_put args d v (num n) h = absurd (cc)
bound_put args d v (truth b) h = absurd (cc)
bound_put args d v (free w) h = absurd (cc)
bound_put args d v (linear ps c) h = absurd (cc)
bound_put args d v (mul x y) h = absurd (cc)
bound_put args d v (read x y) h = absurd (cc)
bound_put args d v (write x y z) h = absurd (cc)
bound_put args d v (choose x y z) h = absurd (cc)
bound_put args d v (call f ts) h = absurd (cc)
bound_put args d v (negation x) h = absurd (cc)
bound_put args d v (all ts) h = absurd (cc)
bound_put args d v (some ts) h = absurd (cc)
bound_put args d v (equal x y) h = absurd (cc)
bound_put args d v (at_most x y) h = absurd (cc)
bound_put args d v (for_all ss ps t) h = absurd (cc)
bound_put args d v (exists ss ps t) h = absurd (cc)

-- the terms that are put are the same in a longer store
pub put_as_before : (ts us : List Tree) (is : List ℕ) (d : ℕ) → Begins ts us → AllByRecursion (λ j. j < length ts) is → put_within (terms_at us is) d ≡ put_within (terms_at ts is) d
put_as_before ts us is d b h = ap (λ args. put_within args d) (terms_stay ts us b is h)

-- a term's node with the numbers that are found for its parts
module _ (ts : List Tree) (args : List Tree) (d k id : ℕ) (found : List (ℕ × ℕ)) (m n : Node) (is : IsNodeAt ts id m) (other : as_bound (at ts id) ≡ None) (deeper : k ≡ d + binders (at ts id))
    (parts : AllByRecursion (IsFound (put_within args k) ts found) (numbers_in m)) (e : shape n ≡ tree_over (λ j. free (new_of found j)) m) where
  whole : put_within args d (at ts id) ≡ tree_over (λ j. put_within args k (at ts j)) m
  whole = ap (put_within args d) (sym is.0) ∙ put_node args (at ts) m d k (ap as_bound is.0 ∙ other) (deeper ∙ ap (λ t. d + binders t) (sym is.0))

  pub rebuilt : AllByRecursion (λ j. j < length ts) (numbers_in n) × (tree_over (at ts) n ≡ put_within args d (at ts id))
  rebuilt = walk_step (put_within args k) ts (put_within args d (at ts id)) found m n whole parts e

-- numbers in reverse
pub all_reversed : (P : ℕ → Type 0) (xs : List ℕ) → AllByRecursion P xs → AllByRecursion P (reverse xs)
all_reversed P [] h = tt
all_reversed P (x ∷ xs) h = rw (reverse_onto xs x []) (every_append P (reverse xs) (x ∷ []) (all_reversed P xs h.1) (h.0, tt))

pub put_reversed : (ts : List Tree) (is : List ℕ) (t : Tree) → put_within (terms_at ts (reverse is)) 0 t ≡ substitute t (terms_at ts is)
put_reversed ts is t = ap (λ args. put_within args 0 t) (map-reverse (at ts) is)
