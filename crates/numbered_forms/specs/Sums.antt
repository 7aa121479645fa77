-- Sums over the numbers of atoms.
use Rattle.std.specs.Prelude.{ℕ, ℤ, pos, List, ◌∷◌, if◌then◌else◌}
use Rattle.std.specs.Ordering.{int_eq}
use Rattle.logic_core.specs.Tree.{Tree}
use Rattle.logic_core.specs.View.{parts_of}
use Rattle.logic_core.specs.Sum.{Linear}
use Rattle.numbered_terms.specs.Lists.{atoms_at}
use Rattle.numbered_forms.specs.declared.sum.NumberedSum.{NumberedSum}

-- the sum of the terms of the numbers
abbrev pub sum_at : List Tree → NumberedSum → Linear
sum_at ts s = record { parts = parts_of (atoms_at ts s.parts.items); rest = s.rest }

-- a part in front, unless its coefficient is zero
abbrev pub with_atom : ℤ → ℕ → List (ℤ × ℕ) → List (ℤ × ℕ)
with_atom k i ps = if int_eq k (pos 0) then ps else (k, i) ∷ ps
