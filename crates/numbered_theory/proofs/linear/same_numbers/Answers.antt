use Rattle.std.proofs.Common.{◌≡◌, refl, ℕ, ℤ, Bool, true, false, List, length, min, nat_eq, drop, arith}
use Rattle.logic_core.specs.Same.{same_parts}
use Rattle.logic_core.specs.View.{parts_of}
use Rattle.logic_core.proofs.Ends.{same_at}
use Rattle.numbered_terms.specs.Shaped.{shaped_atoms}
use Rattle.theory_rules.specs.Combining.{opposite_parts}
use Rattle.theory_rules.specs.Counting.{counted_parts}
use Rattle.numbered_theory.proofs.linear.same_numbers.Goals as goal

-- where the shorter list ends the two are the same where they are as long
at_end : (turned : Bool) (xs ys : List (ℤ × ℕ)) (i : ℕ) → i ≡ min (length xs) (length ys) → same_parts (counted_parts turned (parts_of (shaped_atoms (drop i xs)))) (parts_of (shaped_atoms (drop i ys))) ≡ nat_eq (length xs) (length ys)
at_end true xs ys i h = same_at (λ us vs. same_parts (opposite_parts (parts_of (shaped_atoms us))) (parts_of (shaped_atoms vs))) refl (λ v vs. refl) (λ u us. refl) xs ys i h
at_end false xs ys i h = same_at (λ us vs. same_parts (parts_of (shaped_atoms us)) (parts_of (shaped_atoms vs))) refl (λ v vs. refl) (λ u us. refl) xs ys i h

pub returns : goal.returns
returns c = let e = at_end c.args.turned c.args.mine.now c.args.theirs.now c.loop-i.i (omega arith) in cc
