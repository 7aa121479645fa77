-- What a step makes of a branch of numbers: tableau_branch's Change, with numbers for terms.
use Rattle.std.specs.Prelude.{◌≡◌, ℕ, ◌+◌, ◌<◌, Bool, true, nat_eq, ◌||◌, cond, List, [], ◌∷◌, ◌++◌, length, take, drop}
use Rattle.logic_core.specs.Tree.{Tree, nodes}
use Rattle.logic_core.specs.Size.{capped}
use Rattle.logic_core.specs.Junction.{is_truth}
use Rattle.logic_core.specs.Tighten.{tighten}
use Rattle.term_bank.specs.Numbered.{at}
use Rattle.numbered_branches.specs.Branches.{NumberedFact, NumberedBranch, NumberedStep, tightens, NumberedMade, is_there}

-- what is read of a number: whether its term is true, the number of the tightened fact, and the size
pub record Read : Type 0 where
  pub is_true : ℕ → Bool
  pub tight : ℕ → ℕ
  pub size : ℕ → ℕ

pub record IsSeen (ts : List Tree) (r : Read) : Type 0 where
  pub is_true : (i : ℕ) → i < length ts → r.is_true i ≡ is_truth true (at ts i)
  pub size : (i : ℕ) → i < length ts → r.size i ≡ capped (nodes (at ts i))

-- a number whose tightened fact is stored
abbrev pub IsTight : List Tree → Read → ℕ → Type 0
IsTight ts r i = (i < length ts) × (r.tight i < length ts) × (at ts (r.tight i) ≡ tighten (at ts i))

abbrev pub with_facts : NumberedBranch → List NumberedFact → NumberedBranch
with_facts b fs = record b { facts = fs }

abbrev pub begun : NumberedBranch → NumberedMade
begun b = record { branch = b; steps = []; size = 0 }

abbrev pub with_steps : List NumberedStep → ℕ → NumberedMade → NumberedMade
with_steps ss next m = record { branch = record (m.branch) { next = next }; steps = m.steps ++ ss; size = m.size }

-- the number of the next fact
abbrev pub with_next : ℕ → NumberedMade → NumberedMade
with_next n m = record { branch = record (m.branch) { next = n }; steps = m.steps; size = m.size }

pub record Tightened : Type 0 where
  pub fact : NumberedFact
  pub steps : List NumberedStep
  pub next : ℕ

module _ (r : Read) where
  abbrev pub with_size : ℕ → ℕ → ℕ
  with_size n i = capped (n + r.size i)

  abbrev pub tightened : ℕ → ℕ → ℕ → Tightened
  tightened number next i = cond (nat_eq (r.tight i) i) (record { fact = record { term = i; number = number }; steps = []; next = next })
      (record { fact = record { term = r.tight i; number = next }; steps = tightens number ∷ []; next = next + 1 })

  abbrev pub added : NumberedFact → NumberedMade → NumberedMade
  added f m = cond (r.is_true f.term || is_there f.term m.branch.facts) m (record { branch = with_facts m.branch (m.branch.facts ++ f ∷ []); steps = m.steps; size = with_size m.size f.term })

  abbrev pub added_each : List NumberedFact → NumberedMade → NumberedMade
  added_each [] m = m
  added_each (f ∷ fs) m = added_each fs (added f m)

  abbrev pub kept : List NumberedFact → NumberedFact → List NumberedFact → List NumberedFact
  kept earlier f later = cond (r.is_true f.term || (is_there f.term earlier || is_there f.term later)) earlier (earlier ++ f ∷ [])

  abbrev pub changed_at : ℕ → NumberedFact → NumberedMade → NumberedMade
  changed_at n f m = let later = drop (n + 1) m.branch.facts in
      record { branch = with_facts m.branch (kept (take n m.branch.facts) f later ++ later); steps = m.steps; size = with_size m.size f.term }
