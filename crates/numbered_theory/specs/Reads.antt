-- A Read of a Write by number with what it reads, and a fact beside a branch.
use Rattle.std.specs.Prelude.{◌≡◌, ℕ, ◌<◌, true, Option, Some, None, Result, Ok, Err, List, length}
use Rattle.logic_core.specs.Tree.{Tree}
use Rattle.logic_core.specs.declared.fault.NormalFault.{NormalFault}
use Rattle.logic_core.specs.declared.fault.NormalFault.TheVariants.{Wide}
use Rattle.proof_core.specs.Maps.{Access}
use Rattle.tableau_branch.specs.Branch.{Attempt, none, leaves, gives}
use Rattle.tableau_branch.specs.Change.{Made}
use Rattle.tableau_branch.specs.Shapes.{is_access}
use Rattle.term_bank.specs.Numbered.{at}
use Rattle.numbered_branches.specs.Branches.{NumberedMade, IsMadeOver, made_at}
use Rattle.numbered_theory.specs.declared.reads.Written.{Written}
use Rattle.numbered_theory.specs.declared.back.ReadBack.{ReadBack}

module _ (ts : List Tree) where
  abbrev pub access_at : Written → Access
  access_at a = record { table = at ts a.table; at = at ts a.at; value = at ts a.value; index = at ts a.index }

  abbrev pub read_at : ReadBack → Tree × Tree
  read_at r = (at ts r.access, at ts r.said)

pub record IsAccessBelow (size : ℕ) (a : Written) : Type 0 where
  pub table : a.table < size
  pub at : a.at < size
  pub value : a.value < size
  pub index : a.index < size

pub record IsReadOver (ts : List Tree) (r : ReadBack) : Type 0 where
  pub access : r.access < length ts
  pub said : r.said < length ts
  pub reads : is_access (at ts r.access) ≡ true

-- the parts of a Read of a Write, and none where it is none
abbrev pub IsAccessAt : List Tree → Option Written → Option Access → Type 0
IsAccessAt ts None o = o ≡ None
IsAccessAt ts (Some a) o = IsAccessBelow (length ts) a × (o ≡ Some (access_at ts a))

-- what code says of what it tries at a Read of a Write, and at one after another
abbrev pub ReadsAt : List Tree → Result (Option ℕ) NormalFault → Attempt Tree → Type 0
ReadsAt ts (Ok None) x = x ≡ none
ReadsAt ts (Ok (Some i)) x = (i < length ts) × (x ≡ gives (at ts i))
ReadsAt ts (Err e) x = e ≡ Wide → x ≡ leaves

abbrev pub ReadsBackAt : List Tree → Result (Option ReadBack) NormalFault → Attempt (Tree × Tree) → Type 0
ReadsBackAt ts (Ok None) x = x ≡ none
ReadsBackAt ts (Ok (Some r)) x = IsReadOver ts r × (x ≡ gives (read_at ts r))
ReadsBackAt ts (Err e) x = e ≡ Wide → x ≡ leaves

-- what is made of a branch for what a definition gives, and Wide only where it gives nothing
abbrev pub GivesMadeAt : List Tree → Result NumberedMade NormalFault → Option Made → Type 0
GivesMadeAt ts (Ok m) o = IsMadeOver ts m × (o ≡ Some (made_at ts m))
GivesMadeAt ts (Err e) o = e ≡ Wide → o ≡ None
