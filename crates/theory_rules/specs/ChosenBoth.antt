-- The two branches of the rule condition.
use Rattle.std.specs.Prelude.{ℕ, Option, Some, List, [], ◌∷◌}
use Rattle.logic_core.specs.Tree.{Tree, negation}
use Rattle.logic_core.specs.Def.{Def}
use Rattle.logic_core.specs.Wide.{◌>>=◌}
use Rattle.tableau_branch.specs.Branch.{Branch, At}
use Rattle.tableau_branch.specs.Change.{Made, begun, appended_two, added, changed_at}
use Rattle.tableau_branch.specs.Move.{Move, chooses}
use Rattle.theory_rules.specs.Condition.{Choice, chosen}

-- where the condition holds, and where it doesn't
abbrev pub chosen_both : List Def → Branch → At Choice → Option (Made × Made)
chosen_both defs b a = chosen defs b a (a.what).condition (a.what).yes >>= λ m. chosen defs b a (negation (a.what).condition) (a.what).no >>= λ n. Some (m, n)

-- the two facts of a child: the second in this place, and then the first at the end
abbrev pub changed_and_added : ℕ → Tree → Tree → Branch → Made
changed_and_added n t u b = let p = appended_two t u (begun b) in added p.0 (changed_at n p.1 p.2)

-- the move that makes the two
abbrev pub chosen_move : At Choice → Made × Made → Move
chosen_move a p = record { ending = chooses (a.fact).number (a.what).whole; made = p.0 ∷ p.1 ∷ [] }
