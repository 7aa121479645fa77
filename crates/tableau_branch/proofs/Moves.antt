-- What is played of the code's moves, and the proofs that they make from the last one back.
use Rattle.std.specs.Prelude.{◌≡◌, refl, List, [], ◌∷◌, map}
use Rattle.std.proofs.Common.{ap}
use Rattle.tableau_branch.specs.Change.{Made}
use Rattle.tableau_branch.specs.Move.{branches_of, steps_of}

pub branches_of_made : (ms : List Made) → branches_of ms ≡ map (λ (m : Made). m.branch) ms
branches_of_made [] = refl
branches_of_made (m ∷ ms) = ap (λ bs. m.branch ∷ bs) (branches_of_made ms)

pub steps_of_made : (ms : List Made) → steps_of ms ≡ map (λ (m : Made). m.steps) ms
steps_of_made [] = refl
steps_of_made (m ∷ ms) = ap (λ bs. m.steps ∷ bs) (steps_of_made ms)
