-- What code says of a rule that it tries on a branch of numbers.
use Rattle.std.specs.Prelude.{◌≡◌, Option, Some, None, Result, Ok, Err, List}
use Rattle.logic_core.specs.declared.fault.NormalFault.{NormalFault}
use Rattle.logic_core.specs.declared.fault.NormalFault.TheVariants.{Wide}
use Rattle.logic_core.specs.Tree.{Tree}
use Rattle.tableau_branch.specs.Branch as branch
use Rattle.tableau_branch.specs.Move as move
use Rattle.numbered_branches.specs.Moves.{IsMoveOver, move_at}
use Rattle.numbered_branches.specs.Standing.{IsBranchAt}
use Rattle.numbered_branches.specs.View.{move_seen}
use Rattle.numbered_branches.specs.declared.played.Attempt.{Attempt}
use Rattle.numbered_branches.specs.declared.played.Attempt.TheVariants.{Passes, Gives}
use Rattle.numbered_branches.specs.declared.played.Move.{Move}

module _ (ts : List Tree) where
  -- where the rule can't be applied the branch stands for what it stood for, a move stands for what the rule gives, and Wide comes only where a number leaves 128 bits
  abbrev pub TriesAt : branch.Branch → Result Attempt NormalFault → branch.Attempt move.Move → Type 0
  TriesAt b (Ok (Passes c)) x = IsBranchAt ts c b × (x ≡ branch.none)
  TriesAt b (Ok (Gives m)) x = IsMoveOver ts (move_seen m) × (x ≡ branch.gives (move_at ts (move_seen m)))
  TriesAt b (Err e) x = e ≡ Wide → x ≡ branch.leaves

  -- the same of all rules, one after another
  abbrev pub AttemptsAt : Result (Option Move) NormalFault → branch.Attempt move.Move → Type 0
  AttemptsAt (Ok None) x = x ≡ branch.none
  AttemptsAt (Ok (Some m)) x = IsMoveOver ts (move_seen m) × (x ≡ branch.gives (move_at ts (move_seen m)))
  AttemptsAt (Err e) x = e ≡ Wide → x ≡ branch.leaves

  -- a move that stands for what a definition gives, and Wide only where it gives nothing
  abbrev pub GivesMoveAt : Result Move NormalFault → Option move.Move → Type 0
  GivesMoveAt (Ok m) o = IsMoveOver ts (move_seen m) × (o ≡ Some (move_at ts (move_seen m)))
  GivesMoveAt (Err e) o = e ≡ Wide → o ≡ None
