-- Of an And or an Or with several parts, and of one that takes its parts in.
use Rattle.std.proofs.Common.{◌≡◌, refl, ap, ◌<◌, true, false, None, List, [], ◌∷◌, ◌++◌, length, arith}
use Rattle.logic_terms.specs.Tree.{Tree, truth, all, some, Trees, tree}
use Rattle.logic_core.specs.View.{trees_of}
use Rattle.logic_core.specs.Before.{before, tree_before}
use Rattle.logic_core.specs.declared.junction.Connective.{Connective}
use Rattle.logic_core.specs.declared.junction.Connective.TheVariants.{And, Or}
use Rattle.logic_core.specs.Junction.{is_truth, neutral, joined, as_joined, append, with_operand, joined_or_alone}

-- several parts stay together
pub several : (c : Connective) (ts : List Tree) → 1 < length ts → joined c (trees_of ts) ≡ joined_or_alone c (trees_of ts)
several c [] h = absurd (omega arith)
several c (t ∷ []) h = absurd (omega arith)
several c (t ∷ u ∷ ts) h = refl

-- more parts in front
pub taken_in : (ts us : List Tree) (vs : Trees) → before tree_before (ts ++ us) vs ≡ before tree_before ts (append (trees_of us) vs)
taken_in [] [] vs = refl
taken_in [] (u ∷ us) vs = ap (tree u) (taken_in [] us vs)
taken_in (t ∷ ts) us vs = ap (tree t) (taken_in ts us vs)

-- a nested one of the kind is taken in
pub nested : (c : Connective) (ts us : Trees) → with_operand c (joined c ts) us ≡ append ts us
nested And ts us = refl
nested Or ts us = refl

-- the neutral truth value drops
pub dropped : (c : Connective) (t : Tree) (us : Trees) → is_truth (neutral c) t ≡ true → with_operand c t us ≡ us
dropped And (truth true) us h = refl
dropped Or (truth false) us h = refl
dropped And (truth false) us h = absurd (cc)
dropped Or (truth true) us h = absurd (cc)
dropped And t us h = absurd (cc)
dropped Or t us h = absurd (cc)

-- any other part is itself a part
pub other_operand : (c : Connective) (t : Tree) (us : Trees) → as_joined c t ≡ None → is_truth (neutral c) t ≡ false → with_operand c t us ≡ tree t us
other_operand And (all ts) us h other = absurd (cc)
other_operand And (truth true) us h other = absurd (cc)
other_operand Or (some ts) us h other = absurd (cc)
other_operand Or (truth false) us h other = absurd (cc)
other_operand And t us h other = refl
other_operand Or t us h other = refl
