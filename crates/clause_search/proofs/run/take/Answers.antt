use Rattle.std.proofs.Common.{◌<◌, ◌∙◌, refl, ap, subst, [], ◌∷◌, ◌++◌, map, arith}
use Rattle.std.proofs.lemmas.List.{map-append}
use Rattle.numbered_branches.specs.Moves.{NumberedPlayed}
use Rattle.clause_search.specs.Packed.{packed_move}
use Rattle.clause_search.proofs.run.take.Goals as goal

pub returns-then-left-cost : goal.returns-then-left-cost
returns-then-left-cost c = (refl, (subst (λ n. c.args.left < n) c.cost-cost.ensures c.if-left-cost.true, refl))

pub returns : goal.returns
returns c = let unpaid = c.if-left-cost.false in let old = c.args.moves.now.items in (
  c.cost-cost.ensures,
  (
    omega (arith, unpaid),
    (
      c.in_ok-played.ensures.pushed,
      ap (map packed_move) c.in_ok-push.ensures.items ∙ map-append packed_move old _ ∙ ap (λ (p : NumberedPlayed). map packed_move old ++ p ∷ []) (c.in_ok-of.ensures ∙ c.in_ok-played.ensures.played),
    ),
  ),
)
