use Rattle.std.proofs.Common.{◌≡◌, ◌++◌, [], ◌∷◌, vec_len}
use Rattle.logic_core.specs.View.{trees_of}
use Rattle.bpl_terms.specs.Terms.{implied}
use Rattle.bpl_terms.proofs.joined.implications.Given as goal

abbrev pub invariant-loop-premise : goal.invariant-loop-premise
invariant-loop-premise l = implied (trees_of (l.terms.items ++ l.whole ∷ [])) ≡ implied (trees_of l.fn.terms.items)

abbrev pub decreases-loop-premise : goal.decreases-loop-premise
decreases-loop-premise l = vec_len l.terms
