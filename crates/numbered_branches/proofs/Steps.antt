-- Nodes of numbers that a step makes one after another, and branches put on a stack.
use Rattle.std.proofs.Common.{◌≡◌, refl, ap, List, [], ◌∷◌, map}
use Rattle.std.proofs.lemmas.List.{append-nil}
use Rattle.numbered_branches.specs.Branches.{NumberedMade}
use Rattle.numbered_branches.specs.Moves.{branches_of, steps_of}
use Rattle.numbered_branches.specs.NumberedChange.{with_steps}

-- no more nodes
pub nothing_more : (m : NumberedMade) → with_steps [] m.branch.next m ≡ m
nothing_more m = ap (λ ss. record { branch = m.branch; steps = ss; size = m.size }) (append-nil m.steps)

pub branches_of_made : (ms : List NumberedMade) → branches_of ms ≡ map (λ (m : NumberedMade). m.branch) ms
branches_of_made [] = refl
branches_of_made (m ∷ ms) = ap (λ bs. m.branch ∷ bs) (branches_of_made ms)

pub steps_of_made : (ms : List NumberedMade) → steps_of ms ≡ map (λ (m : NumberedMade). m.steps) ms
steps_of_made [] = refl
steps_of_made (m ∷ ms) = ap (λ ss. m.steps ∷ ss) (steps_of_made ms)
