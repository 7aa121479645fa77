-- Numbers for what a definition gives of several terms.
use Rattle.std.specs.Prelude.{◌≡◌, Vec, ℕ, ◌<◌, Option, Some, None, Result, Ok, Err, List, [], ◌∷◌, length, map}
use Rattle.std.specs.List.{AllByRecursion}
use Rattle.std.specs.declared.alloc.Global.{Global}
use Rattle.logic_core.specs.Tree.{Kind, Tree}
use Rattle.logic_core.specs.declared.fault.NormalFault.{NormalFault}
use Rattle.logic_core.specs.declared.fault.NormalFault.TheVariants.{Wide}
use Rattle.tableau_branch.specs.Branch.{Branch}
use Rattle.term_bank.specs.Numbered.{at}

-- numbers of all, and Wide only where one gives nothing
abbrev pub GiveAt : List Tree → Result (Vec ℕ Global) NormalFault → Option (List Tree) → Type 0
GiveAt ts (Ok v) o = AllByRecursion (λ i. i < length ts) v.items × (o ≡ Some (map (at ts) v.items))
GiveAt ts (Err e) o = e ≡ Wide → o ≡ None

-- numbers of several terms, where there are several
abbrev pub AreSome : List Tree → Option (Vec ℕ Global) → Option (List Tree) → Type 0
AreSome ts None o = o ≡ None
AreSome ts (Some v) o = AllByRecursion (λ i. i < length ts) v.items × (o ≡ Some (map (at ts) v.items))

-- the list, unless it is empty
abbrev pub at_least_one : List ℕ → Option (List ℕ)
at_least_one [] = None
at_least_one (i ∷ is) = Some (i ∷ is)

-- a branch of these variables, with nothing else
abbrev pub branch_over : List Kind → Branch
branch_over vars = record { facts = []; calls = []; marks = []; vars = vars; next = 0 }
