-- What the search's data stand for: moves, facts that are changed one after another, and proofs under way.
use Rattle.std.specs.Prelude.{ℕ, Vec, List, map}
use Rattle.std.specs.declared.alloc.Global.{Global}
use Rattle.proof_core.specs.Proof as proofs
use Rattle.proof_core.specs.View.{steps_of}
use Rattle.proof_core.specs.declared.proof.Step.{Step}
use Rattle.tableau_branch.specs.Branch as branch
use Rattle.tableau_branch.specs.Change as change
use Rattle.tableau_branch.specs.Move as move
use Rattle.tableau_branch.specs.declared.played.Ending.{Ending}
use Rattle.tableau_branch.specs.declared.played.Ending.TheVariants.{GoesOn, Closes, Forks, Chooses, Passes, Decides}
use Rattle.tableau_branch.specs.declared.played.Move.{Move}
use Rattle.tableau_branch.specs.declared.played.Played.{Played}

abbrev pub ending_of : Ending → move.Ending
ending_of GoesOn = move.goes_on
ending_of (Closes f g) = move.closes f g
ending_of (Forks f) = move.forks f
ending_of (Chooses f t) = move.chooses f t
ending_of (Passes t) = move.passes t
ending_of (Decides d) = move.decides d

abbrev pub move_of : Move → move.Move
move_of m = record { ending = ending_of m.ending; made = m.made.items }

abbrev pub each_steps : List (Vec Step Global) → List (List proofs.Step)
each_steps vs = map (λ v. steps_of v.items) vs

abbrev pub played_of : Played → move.Played
played_of p = record { ending = ending_of p.ending; steps = each_steps p.steps.items }

-- the number of the next fact
abbrev pub with_next : ℕ → change.Made → change.Made
with_next n m = record { branch = record (m.branch) { next = n }; steps = m.steps; size = m.size }
