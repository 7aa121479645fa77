-- The rule condition: an If in a fact, outside quantifiers: two branches, the fact changed in each, the condition added.
use Rattle.std.specs.Prelude.{Option, Some, None, List, [], ◌∷◌}
use Rattle.logic_core.specs.Tree.{Tree, choose, negation}
use Rattle.logic_core.specs.Def.{Def}
use Rattle.logic_core.specs.Wide.{◌>>=◌}
use Rattle.logic_core.specs.Subterm.{outside, replaced}
use Rattle.tableau_branch.specs.Branch.{Fact, Branch, normal_in, Attempt, none, unless_wide, At, oldest}
use Rattle.tableau_branch.specs.Change.{Made, begun, appended_two, added, changed_at}
use Rattle.tableau_branch.specs.Move.{Move, chooses}

-- an If, with its condition and its branches
pub record Choice : Type 0 where
  pub whole : Tree
  pub condition : Tree
  pub yes : Tree
  pub no : Tree

abbrev pub as_choice : Tree → Option Choice
as_choice (choose c x y) = Some (record { whole = choose c x y; condition = c; yes = x; no = y })
as_choice t = None

abbrev pub first_some : {A B : Type 0} → (A → Option B) → List A → Option B
first_some f [] = None
first_some f (a ∷ as') = elim (f a) [ None ↦ first_some f as' | Some b ↦ Some b ]

-- the first If outside quantifiers, in preorder
abbrev pub first_choice : Fact → Option Choice
first_choice f = first_some as_choice (outside f.term)

module _ (defs : List Def) where
  -- the condition, then the fact with the If as one of its branches: the fact is changed, and then the condition, which the proof has first, is added
  abbrev pub chosen : Branch → At Choice → Tree → Tree → Option Made
  chosen b a c x = normal_in defs b c >>= λ t. normal_in defs b (replaced (a.what).whole x (a.fact).term) >>= λ u.
      let p = appended_two t u (begun b) in Some (added p.0 (changed_at a.at p.1 p.2))

  abbrev pub condition_at : Branch → At Choice → Option Move
  condition_at b a = chosen b a (a.what).condition (a.what).yes >>= λ m. chosen b a (negation (a.what).condition) (a.what).no >>= λ n.
      Some (record { ending = chooses (a.fact).number (a.what).whole; made = m ∷ n ∷ [] })

  abbrev pub condition : Branch → Attempt Move
  condition b = elim (oldest first_choice b) [ None ↦ none | Some a ↦ unless_wide (condition_at b a) ]
