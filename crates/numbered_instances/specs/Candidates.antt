-- What a candidate of numbers stands for.
use Rattle.std.specs.Prelude.{ℕ, ◌<◌, List, length}
use Rattle.logic_core.specs.Tree.{Tree}
use Rattle.term_bank.specs.Numbered.{at}
use Rattle.logic_rules.specs.Instantiating.{Candidate}
use Rattle.numbered_branches.specs.Branches.{NumberedFact, IsTuple, fact_at, terms_in}
use Rattle.numbered_instances.specs.Instances.{body_in}
use Rattle.numbered_instances.specs.declared.candidates.Found.{Found}

module _ (ts : List Tree) where
  -- the fact's body with the terms of the And
  abbrev pub candidate_of : NumberedFact → ℕ → Candidate
  candidate_of f tuple = record { fact = fact_at ts f; body = body_in (at ts f.term); tuple = terms_in (at ts tuple) }

  abbrev pub candidate_at : Found → Candidate
  candidate_at f = candidate_of f.fact f.tuple

  abbrev pub IsFoundOver : Found → Type 0
  IsFoundOver f = (f.fact.term < length ts) × (f.tuple < length ts) × IsTuple (at ts f.tuple)
