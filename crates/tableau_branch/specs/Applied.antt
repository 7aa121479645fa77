-- What code says of a rule that it tries on a branch.
use Rattle.std.specs.Prelude.{◌≡◌, Option, Some, None, Result, Ok, Err}
use Rattle.logic_core.specs.declared.fault.NormalFault.{NormalFault}
use Rattle.logic_core.specs.declared.fault.NormalFault.TheVariants.{Wide}
use Rattle.tableau_branch.specs.Branch as branch
use Rattle.tableau_branch.specs.Move as move
use Rattle.tableau_branch.specs.View.{move_of}
use Rattle.tableau_branch.specs.declared.played.Attempt.{Attempt}
use Rattle.tableau_branch.specs.declared.played.Attempt.TheVariants.{Passes, Gives}

-- where the rule can't be applied the branch is as it was, what is seen of a move is what the rule gives, and Wide comes only where a number leaves 128 bits
abbrev pub Tries : branch.Branch → Result Attempt NormalFault → branch.Attempt move.Move → Type 0
Tries b (Ok (Passes c)) x = (c ≡ b) × (x ≡ branch.none)
Tries b (Ok (Gives m)) x = x ≡ branch.gives (move_of m)
Tries b (Err e) x = e ≡ Wide → x ≡ branch.leaves

-- the same of what passes over places: None where there is nothing at any of them
abbrev pub Attempts : {A B : Type 0} → (A → B) → Result (Option A) NormalFault → branch.Attempt B → Type 0
Attempts seen (Ok None) x = x ≡ branch.none
Attempts seen (Ok (Some a)) x = x ≡ branch.gives (seen a)
Attempts seen (Err e) x = e ≡ Wide → x ≡ branch.leaves
