-- A move of numbers stands for one of terms.
use Rattle.std.proofs.Common.{◌≡◌, refl, ap, ◌+◌, ◌/◌, List, [], ◌∷◌, map, length, arith}
use Rattle.std.specs.List.{AllByRecursion}
use Rattle.logic_core.specs.Tree.{Tree}
use Rattle.logic_core.specs.Size.{capped}
use Rattle.term_bank.specs.Numbered.{Begins}
use Rattle.term_bank.proofs.Numbers.{begins_at, begins_length}
use Rattle.tableau_branch.specs.Move as move
use Rattle.numbered_branches.specs.Branches.{NumberedMade, branch_at, step_at, made_at, IsBranchOver, IsStepBelow, IsMadeOver}
use Rattle.numbered_branches.specs.Moves as moves
use Rattle.numbered_branches.specs.Moves.{NumberedEnding, goes_on, closes, forks, chooses, passes, decides, NumberedMove, NumberedPlayed, ending_at, move_at, played_at, IsEndingBelow, IsMoveOver, IsPlayedBelow}
use Rattle.numbered_branches.proofs.Changing.{all_weaker, map_same, step_more, step_same, made_more}

-- a store that grows
module _ (ts us : List Tree) (b : Begins ts us) where
  ending_more : (e : NumberedEnding) → IsEndingBelow (length ts) e → IsEndingBelow (length us) e
  ending_more (chooses n i) h = omega (arith, h, begins_length ts us b)
  ending_more (passes i) h = omega (arith, h, begins_length ts us b)
  ending_more (decides i) h = omega (arith, h, begins_length ts us b)
  ending_more goes_on h = tt
  ending_more (closes n m) h = tt
  ending_more (forks n) h = tt

  ending_same : (e : NumberedEnding) → IsEndingBelow (length ts) e → ending_at us e ≡ ending_at ts e
  ending_same (chooses n i) h = ap (move.chooses n) (begins_at ts us i b h)
  ending_same (passes i) h = ap move.passes (begins_at ts us i b h)
  ending_same (decides i) h = ap move.decides (begins_at ts us i b h)
  ending_same goes_on h = refl
  ending_same (closes n m) h = refl
  ending_same (forks n) h = refl

  pub move_more : (m : NumberedMove) → IsMoveOver ts m → IsMoveOver us m × (move_at us m ≡ move_at ts m)
  move_more m h = (
    record { ending = ending_more m.ending h.ending; made = all_weaker (IsMadeOver ts) (IsMadeOver us) (λ d l. (made_more ts us b d l).0) m.made h.made },
    λ k. record { ending = ending_same m.ending h.ending k; made = map_same (IsMadeOver ts) (made_at us) (made_at ts) (λ d l. (made_more ts us b d l).1) m.made h.made k },
  )

  pub played_more : (p : NumberedPlayed) → IsPlayedBelow (length ts) p → IsPlayedBelow (length us) p × (played_at us p ≡ played_at ts p)
  played_more p h = (
    record {
      ending = ending_more p.ending h.ending;
      steps = all_weaker (AllByRecursion (IsStepBelow (length ts))) (AllByRecursion (IsStepBelow (length us))) (λ ss l. all_weaker (IsStepBelow (length ts)) (IsStepBelow (length us)) (step_more ts us b) ss l) p.steps h.steps;
    },
    λ k. record {
      ending = ending_same p.ending h.ending k;
      steps = map_same (AllByRecursion (IsStepBelow (length ts))) (map (step_at us)) (map (step_at ts)) (λ ss l. map_same (IsStepBelow (length ts)) (step_at us) (step_at ts) (step_same ts us b) ss l) p.steps h.steps k;
    },
  )

module _ (ts : List Tree) where
  same_nodes : (ms : List NumberedMade) → moves.nodes_made ms ≡ move.nodes_made (map (made_at ts) ms)
  same_nodes [] = refl
  same_nodes (m ∷ ms) = ap (λ n. m.size + n) (same_nodes ms)

  pub one_cost : (m : NumberedMove) → moves.cost m ≡ move.cost (move_at ts m)
  one_cost m = ap (λ n. 1 + capped n / 64) (same_nodes m.made)

  pub one_branches : (ms : List NumberedMade) → AllByRecursion (IsMadeOver ts) ms
      → AllByRecursion (IsBranchOver ts) (moves.branches_of ms) × (map (branch_at ts) (moves.branches_of ms) ≡ move.branches_of (map (made_at ts) ms))
  one_branches [] h = (tt, refl)
  one_branches (m ∷ ms) h = let r = one_branches ms h.1 in (((h.0).branch, r.0), ap (λ bs. branch_at ts m.branch ∷ bs) r.1)

  each_steps : (ms : List NumberedMade) → AllByRecursion (IsMadeOver ts) ms
      → AllByRecursion (AllByRecursion (IsStepBelow (length ts))) (moves.steps_of ms) × (map (map (step_at ts)) (moves.steps_of ms) ≡ move.steps_of (map (made_at ts) ms))
  each_steps [] h = (tt, refl)
  each_steps (m ∷ ms) h = let r = each_steps ms h.1 in (((h.0).steps, r.0), ap (λ ss. map (step_at ts) m.steps ∷ ss) r.1)

  pub one_played : (m : NumberedMove) → IsMoveOver ts m → IsPlayedBelow (length ts) (moves.played m) × (played_at ts (moves.played m) ≡ move.played (move_at ts m))
  one_played m h = let r = each_steps m.made h.made in
      (record { ending = h.ending; steps = r.0 }, λ k. record { ending = ending_at ts m.ending; steps = r.1 k })
