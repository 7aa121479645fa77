-- The variables that terms mention and commands read, and those among them that are own and not set.
use Rattle.std.specs.Prelude.{ℕ, nat_le, ◌==◌, Bool, false, ◌&&◌, not, IsTrue, List, [], ◌∷◌, map, Any}
use Rattle.std.specs.List.{list_any}
use Rattle.logic_core.specs.Tree.{Tree, free}
use Rattle.logic_core.specs.Subterm.{occurs}
use Rattle.flow_core.specs.declared.command.Command.{Command}
use Rattle.flow_core.specs.declared.command.Command.TheVariants.{Assert, Assume, Assign, Havoc}
use Rattle.flow_core.specs.Graph.{set_by}

-- the variable occurs in the term, inside quantifiers and triggers too
abbrev pub Mentions : Tree → ℕ → Type 0
Mentions t v = IsTrue (occurs (free v) t)

-- the terms that a command reads
abbrev pub read_by : Command → List Tree
read_by (Assert m E) = E ∷ []
read_by (Assume E) = E ∷ []
read_by (Assign ps) = map (λ p. p.1) ps
read_by (Havoc xs) = []

abbrev pub Reads : Command → ℕ → Type 0
Reads c v = Any (λ t. Mentions t v) (read_by c)

-- some of the commands sets the variable
abbrev pub is_set : List Command → ℕ → Bool
is_set cs v = list_any (λ c. list_any (λ x. x == v) (set_by c)) cs

-- the term is a variable from number own on that none of the commands sets
abbrev pub is_unset : ℕ → List Command → Tree → Bool
is_unset own cs (free v) = nat_le own v && not (is_set cs v)
is_unset own cs t = false
