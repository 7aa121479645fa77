-- Implications, the last of them first.
use Rattle.std.proofs.Common.{◌≡◌, refl, ap, ◌∙◌, List, [], ◌∷◌, ◌++◌}
use Rattle.std.proofs.lemmas.List.{append_assoc}
use Rattle.logic_core.specs.Tree.{Tree, no_trees, tree, some, negation}
use Rattle.logic_core.specs.View.{trees_of}
use Rattle.bpl_terms.specs.Terms.{implied}

abbrev one_implied : Tree → Tree → Tree
one_implied p q = some (tree (negation p) (tree q no_trees))

last_implied : (ps : List Tree) (p q : Tree) → implied (trees_of (ps ++ p ∷ q ∷ [])) ≡ implied (trees_of (ps ++ one_implied p q ∷ []))
last_implied [] p q = refl
last_implied (a ∷ []) p q = refl
last_implied (a ∷ b ∷ ps) p q = ap (one_implied a) (last_implied (b ∷ ps) p q)

pub implied_next : (ps : List Tree) (p q : Tree) → implied (trees_of ((ps ++ p ∷ []) ++ q ∷ [])) ≡ implied (trees_of (ps ++ implied (trees_of (p ∷ q ∷ [])) ∷ []))
implied_next ps p q = ap (λ l. implied (trees_of l)) (append_assoc ps (p ∷ []) (q ∷ [])) ∙ last_implied ps p q
