use Rattle.std.proofs.Common.{◌≡◌, refl, ℕ, ℤ, Bool, true, false, List, length, min, nat_eq, drop, arith}
use Rattle.logic_core.specs.Tree.{Tree}
use Rattle.logic_core.specs.Same.{same_parts}
use Rattle.logic_core.specs.View.{parts_of}
use Rattle.logic_core.proofs.Ends.{same_at}
use Rattle.theory_rules.specs.Combining.{opposite_parts}
use Rattle.theory_rules.specs.Counting.{counted_parts}
use Rattle.plain_search.proofs.entries.same_parts.Goals as goal

-- where the shorter list ends the two are the same where they are as long
at_end : (turned : Bool) (xs ys : List (ℤ × Tree)) (i : ℕ) → i ≡ min (length xs) (length ys) → same_parts (counted_parts turned (parts_of (drop i xs))) (parts_of (drop i ys)) ≡ nat_eq (length xs) (length ys)
at_end true xs ys i h = same_at (λ us vs. same_parts (opposite_parts (parts_of us)) (parts_of vs)) refl (λ v vs. refl) (λ u us. refl) xs ys i h
at_end false xs ys i h = same_at (λ us vs. same_parts (parts_of us) (parts_of vs)) refl (λ v vs. refl) (λ u us. refl) xs ys i h

pub returns : goal.returns
returns c = let e = at_end c.args.turned c.args.mine.now c.args.theirs.now c.loop-i.i (omega arith) in cc
