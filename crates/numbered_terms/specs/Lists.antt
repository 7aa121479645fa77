-- The terms of lists of numbers.
use Rattle.std.specs.Prelude.{ℕ, ℤ, Vec, ◌<◌, List, map}
use Rattle.std.specs.List.{AllByRecursion}
use Rattle.std.specs.declared.alloc.Global.{Global}
use Rattle.logic_core.specs.Tree.{Tree}
use Rattle.term_bank.specs.Numbered.{at}

abbrev pub terms_at : List Tree → List ℕ → List Tree
terms_at ts is = map (at ts) is

abbrev pub atoms_at : List Tree → List (ℤ × ℕ) → List (ℤ × Tree)
atoms_at ts ps = map (λ (p : ℤ × ℕ). (p.0, at ts p.1)) ps

abbrev pub lists_at : List Tree → List (Vec ℕ Global) → List (List Tree)
lists_at ts iss = map (λ (p : Vec ℕ Global). map (at ts) p.items) iss

-- the atoms have numbers below this one
abbrev pub AtomsBelow : ℕ → List (ℤ × ℕ) → Type 0
AtomsBelow n ps = AllByRecursion (λ j. j < n) (map (λ (p : ℤ × ℕ). p.1) ps)
