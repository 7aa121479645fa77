-- The parts of a sum but for an atom's, as a list.
use Rattle.std.proofs.Common.{◌≡◌, refl, ap, ℤ, Bool, true, false, cond, List, [], ◌∷◌, ◌++◌, append-nil}
use Rattle.logic_core.specs.Tree.{Tree, Parts, part}
use Rattle.logic_core.specs.View.{parts_of}
use Rattle.logic_core.specs.Same.{same_term}
use Rattle.proof_core.specs.Says.{without}

abbrev pub without_list : Tree → List (ℤ × Tree) → List (ℤ × Tree)
without_list t [] = []
without_list t (p ∷ ps) = cond (same_term t p.1) ps (p ∷ without_list t ps)

one_at : (c : Bool) (k : ℤ) (u : Tree) (ps qs : List (ℤ × Tree)) (rs : Parts) → parts_of qs ≡ rs → parts_of (cond c ps ((k, u) ∷ qs)) ≡ cond c (parts_of ps) (part k u rs)
one_at true k u ps qs rs e = refl
one_at false k u ps qs rs e = ap (part k u) e

-- it stands for the same parts
pub without_list_is : (t : Tree) (ps : List (ℤ × Tree)) → parts_of (without_list t ps) ≡ without t (parts_of ps)
without_list_is t [] = refl
without_list_is t (p ∷ ps) = one_at (same_term t p.1) p.0 p.1 ps (without_list t ps) (without t (parts_of ps)) (without_list_is t ps)

-- at the end nothing is ahead
pub all_taken : (t : Tree) (found : Bool) (xs : List (ℤ × Tree)) → xs ++ cond found [] (without_list t []) ≡ xs
all_taken t true xs = append-nil xs
all_taken t false xs = append-nil xs
