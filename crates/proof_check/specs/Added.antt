-- What a rule adds to a context: new variables, and new facts.
use Rattle.std.specs.Prelude.{◌≡◌, Option, Some, List, [], ◌∷◌, ◌++◌, length, take}
use Rattle.logic_core.specs.Tree.{Kind, Tree}
use Rattle.logic_core.specs.Def.{Def}
use Rattle.logic_core.specs.Wide.{◌>>=◌}
use Rattle.logic_core.specs.Normal.{normal}
use Rattle.proof_core.specs.Context.{Context}

pub record Added : Type 0 where
  pub vars : List Kind
  pub facts : List Tree

abbrev pub extended : Context → Added → Context
extended c a = record { vars = c.vars ++ a.vars; facts = c.facts ++ a.facts }

abbrev pub with_facts : Context → List Tree → Context
with_facts c ts = record { vars = c.vars; facts = c.facts ++ ts }

-- the normal forms of formulas, each over these variables and definitions
abbrev pub normal_forms : List Kind → List Def → List Tree → Option (List Tree)
normal_forms vars defs [] = Some []
normal_forms vars defs (t ∷ ts) = normal vars defs [] t >>= λ u. normal_forms vars defs ts >>= λ us. Some (u ∷ us)

-- d begins with what c has
abbrev pub Extends : Context → Context → Type 0
Extends c d = (take (length c.vars) d.vars ≡ c.vars) × (take (length c.facts) d.facts ≡ c.facts)
