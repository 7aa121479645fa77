-- Where one of two lists ends: all parts match where they are as many.
use Rattle.std.proofs.Common.{◌≡◌, ◌∙◌, ap, refl, ℕ, zero, suc, min, nat_eq, List, [], ◌∷◌, length, drop, Some, arith}
use Rattle.std.proofs.lemmas.Bool.Decides.{nat_tests}
use Rattle.std.proofs.lemmas.Bool.{ne_eqb}
use Rattle.logic_core.specs.Tree.{Kind, Tree}
use Rattle.logic_core.specs.Def.{Def}
use Rattle.logic_core.specs.View.{trees_of}
use Rattle.logic_core.specs.Wide.{when}
use Rattle.quantifier_triggers.specs.Match.{Found, matched_each}

next : (m n : ℕ) → nat_eq m n ≡ nat_eq (suc m) (suc n)
next m n = grind (arith, nat_tests)

pub parts_end : (vars : List Kind) (defs : List Def) (kinds : List Kind) (ps ts : List Tree) (i : ℕ) (b : Found) → i ≡ min (length ps) (length ts) → matched_each vars defs kinds (trees_of (drop i ps)) (trees_of (drop i ts)) b ≡ when (nat_eq (length ps) (length ts)) (Some b)
parts_end vars defs kinds [] [] i b e = let z : i ≡ 0 = omega arith in rw z refl
parts_end vars defs kinds [] (t ∷ ts) i b e = let z : i ≡ 0 = omega arith in rw (z, ne_eqb 0 (suc (length ts)) (λ h. omega arith)) refl
parts_end vars defs kinds (p ∷ ps) [] i b e = let z : i ≡ 0 = omega arith in rw (z, ne_eqb (suc (length ps)) 0 (λ h. omega arith)) refl
parts_end vars defs kinds (p ∷ ps) (t ∷ ts) zero b e = absurd (omega arith)
parts_end vars defs kinds (p ∷ ps) (t ∷ ts) (suc i) b e = parts_end vars defs kinds ps ts i b (omega arith) ∙ ap (λ q. when q (Some b)) (next (length ps) (length ts))
