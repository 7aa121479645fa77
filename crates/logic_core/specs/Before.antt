-- Items in front of what a definition gives.
use Rattle.std.specs.Prelude.{ℤ, Vec, List, [], ◌∷◌}
use Rattle.std.specs.declared.alloc.Global.{Global}
use Rattle.logic_terms.specs.Tree.{Tree, Trees, tree, Parts, part, Patterns, pattern}
use Rattle.logic_core.specs.View.{trees_of}

-- the items of the list, in their order
abbrev pub before : {B R : Type 0} → (B → R → R) → List B → R → R
before cons [] r = r
before cons (b ∷ bs) r = cons b (before cons bs r)

abbrev pub tree_before : Tree → Trees → Trees
tree_before t us = tree t us

abbrev pub part_before : ℤ × Tree → Parts → Parts
part_before p qs = part p.0 p.1 qs

abbrev pub pattern_before : Vec Tree Global → Patterns → Patterns
pattern_before p qs = pattern (trees_of p.items) qs
