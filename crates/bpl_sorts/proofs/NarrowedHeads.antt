-- A term that calls only definitions with lower numbers has its type over the types of these alone.
use Rattle.std.proofs.Common.{◌≡◌, ◌∙◌, ℕ, List, [], ◌∷◌, ◌++◌, reverse, slice_get}
use Rattle.logic_core.specs.Tree.{Tree, num, truth, free, bound, linear, mul, read, write, choose, call, negation, all, some, equal, at_most, for_all, exists, Trees, no_trees, tree, Parts, no_parts, part, Patterns, no_patterns, pattern}
use Rattle.logic_core.specs.Renamed.{EachHas, EachInTrees, EachInParts, EachInPatterns}
use Rattle.bpl_sorts.specs.Types.{Ty, integers, truths, maps, Head}
use Rattle.bpl_sorts.specs.Typed.{HasType, HaveTypes, AreTruths, AreIntegers, AreTyped, ArePatterns}

module _ (vars : List Ty) (heads lower : List Head) (V D : ℕ → Type 0) (same : (f : ℕ) → D f → slice_get lower f ≡ slice_get heads f) where
  mutual
    pub narrowed : (t : Tree) (b : List Ty) (s : Ty) → EachHas V D t → HasType vars heads b t s → HasType vars lower b t s
    narrowed (num n) b s e h = h
    narrowed (truth x) b s e h = h
    narrowed (free v) b s e h = h
    narrowed (bound v) b s e h = h
    narrowed (linear ps c) b s e h = (narrowed_parts ps b e h.0, h.1)
    narrowed (mul x y) b s e h = (narrowed x b integers e.0 h.0, narrowed y b integers e.1 h.1, h.2)
    narrowed (read m i) b s e h = (narrowed m b (maps s) e.0 h.0, narrowed i b integers e.1 h.1)
    narrowed (write m i x) b s e h = (h.0, narrowed m b (maps h.0) e.0 h.1, narrowed i b integers e.1 h.2, narrowed x b h.0 e.2 h.3, h.4)
    narrowed (choose c x y) b s e h = (narrowed c b truths e.0 h.0, narrowed x b s e.1 h.1, narrowed y b s e.2 h.2)
    narrowed (call f ts) b s e h = (h.0, same f e.0 ∙ h.1, narrowed_arguments ts b (h.0).0 e.1 h.2, h.3)
    narrowed (negation x) b s e h = (narrowed x b truths e h.0, h.1)
    narrowed (all ts) b s e h = (narrowed_truths ts b e h.0, h.1)
    narrowed (some ts) b s e h = (narrowed_truths ts b e h.0, h.1)
    narrowed (equal x y) b s e h = (h.0, narrowed x b h.0 e.0 h.1, narrowed y b h.0 e.1 h.2, h.3)
    narrowed (at_most x y) b s e h = (narrowed x b integers e.0 h.0, narrowed y b integers e.1 h.1, h.2)
    narrowed (for_all ss ps x) b s e h = (h.0, h.1, narrowed_patterns ps (reverse h.0 ++ b) e.0 h.2, narrowed x (reverse h.0 ++ b) truths e.1 h.3, h.4)
    narrowed (exists ss ps x) b s e h = (h.0, h.1, narrowed_patterns ps (reverse h.0 ++ b) e.0 h.2, narrowed x (reverse h.0 ++ b) truths e.1 h.3, h.4)

    narrowed_arguments : (ts : Trees) (b ss : List Ty) → EachInTrees V D ts → HaveTypes vars heads b ss ts → HaveTypes vars lower b ss ts
    narrowed_arguments no_trees b [] e h = tt
    narrowed_arguments no_trees b (s ∷ ss) e h = absurd h
    narrowed_arguments (tree t ts) b [] e h = absurd h
    narrowed_arguments (tree t ts) b (s ∷ ss) e h = (narrowed t b s e.0 h.0, narrowed_arguments ts b ss e.1 h.1)

    narrowed_truths : (ts : Trees) (b : List Ty) → EachInTrees V D ts → AreTruths vars heads b ts → AreTruths vars lower b ts
    narrowed_truths no_trees b e h = tt
    narrowed_truths (tree t ts) b e h = (narrowed t b truths e.0 h.0, narrowed_truths ts b e.1 h.1)

    narrowed_parts : (ps : Parts) (b : List Ty) → EachInParts V D ps → AreIntegers vars heads b ps → AreIntegers vars lower b ps
    narrowed_parts no_parts b e h = tt
    narrowed_parts (part k t ps) b e h = (narrowed t b integers e.0 h.0, narrowed_parts ps b e.1 h.1)

    narrowed_each : (ts : Trees) (b : List Ty) → EachInTrees V D ts → AreTyped vars heads b ts → AreTyped vars lower b ts
    narrowed_each no_trees b e h = tt
    narrowed_each (tree t ts) b e h = (h.0, narrowed t b h.0 e.0 h.1, narrowed_each ts b e.1 h.2)

    narrowed_patterns : (ps : Patterns) (b : List Ty) → EachInPatterns V D ps → ArePatterns vars heads b ps → ArePatterns vars lower b ps
    narrowed_patterns no_patterns b e h = tt
    narrowed_patterns (pattern ts ps) b e h = (narrowed_each ts b e.0 h.0, narrowed_patterns ps b e.1 h.1)
