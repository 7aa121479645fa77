-- The rule back by its two parts: the first Read of a Write at constant distance with what it reads, and that in its place in the facts.
use Rattle.std.specs.Prelude.{pos, Option, Some, None, List, flat_map, if◌then◌else◌}
use Rattle.std.specs.Ordering.{int_eq}
use Rattle.logic_core.specs.Tree.{Tree}
use Rattle.logic_core.specs.Def.{Def}
use Rattle.logic_core.specs.Subterm.{replaced}
use Rattle.logic_core.specs.Wide.{◌>>=◌}
use Rattle.proof_core.specs.Proof.{by_back}
use Rattle.proof_core.specs.Split.{stands_in}
use Rattle.proof_core.specs.Maps.{Access, access, as_number, before_write, distance}
use Rattle.tableau_branch.specs.Branch.{Branch, context_of, normal_in, Attempt, none, leaves, gives, unless_wide, first_attempt}
use Rattle.tableau_branch.specs.Change.{begun, changed_each}
use Rattle.tableau_branch.specs.Move.{Move, on_one}
use Rattle.theory_rules.specs.Back.{accesses_in}

-- what is made of what an attempt gives
abbrev pub after_attempt : {A B : Type 0} → Attempt A → (A → Attempt B) → Attempt B
after_attempt none f = none
after_attempt leaves f = leaves
after_attempt (gives a) f = f a

module _ (defs : List Def) where
  -- at constant distance: the value written, or what the map held before
  abbrev pub read_back : Branch → Access → Attempt Tree
  read_back b a = elim (distance defs (context_of b) a) [
    | None ↦ leaves
    | Some d ↦ elim (as_number d) [ None ↦ none | Some n ↦ gives (if int_eq n (pos 0) then a.value else before_write a) ]
  ]

  abbrev pub moved_back : Branch → Tree → Attempt (Tree × Tree)
  moved_back b t = elim (access t) [ None ↦ leaves | Some a ↦ after_attempt (read_back b a) (λ u. gives (t, u)) ]

  -- the Read t becomes u
  abbrev pub replaced_back : Branch → Tree → Tree → Option Move
  replaced_back b t u = changed_each (λ g. stands_in t g.term) (λ s. normal_in defs b (replaced t u s)) (λ g. by_back g.number t) (begun b) >>= λ m. Some (on_one m)

  -- the rule by the two
  abbrev pub back_in_parts : Branch → Attempt Move
  back_in_parts b = after_attempt (first_attempt (moved_back b) (flat_map accesses_in b.facts)) (λ p. unless_wide (replaced_back b p.0 p.1))
