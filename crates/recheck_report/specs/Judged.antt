-- What a line is as the proof of an obligation, and what is said of it.
use Rattle.std.specs.Prelude.{◌≡◌, ◌≢◌, ℕ, List, [], ◌++◌, Option, Some, None, Err, IsOk, codes, decimal}
use Rattle.logic_core.specs.Def.{Obligation}
use Rattle.proof_core.specs.Proof.{Proof}
use Rattle.proof_core.specs.Rule.{Rule, rule_word}
use Rattle.proof_core.specs.Verdict.{verdict}
use Rattle.proof_text.specs.Reading.{Spells, IsBadAt}

pub data Judgement : Type 0 where
  -- the text of a proof that is accepted
  accepted : Judgement
  -- no bytes: the line is empty or absent
  missing : Judgement
  -- no proof's text, and bad at this byte
  bad : ℕ → Judgement
  -- the text of a proof that is refused at this node, by its rule
  rejected : ℕ → Rule → Judgement

abbrev pub IsJudged : Obligation → List ℕ → Judgement → Type 0
IsJudged o line accepted = (p : Proof) × Spells line p × IsOk (verdict o p)
IsJudged o line missing = line ≡ []
IsJudged o line (bad at) = (line ≢ []) × IsBadAt line at
IsJudged o line (rejected node rule) = (p : Proof) × Spells line p × (verdict o p ≡ Err (record { node = node; rule = rule }))

-- what is said of a goal with this head; of one with an accepted proof nothing
abbrev pub complaint : List ℕ → Judgement → Option (List ℕ)
complaint head accepted = None
complaint head missing = Some (codes "missing " ++ head)
complaint head (bad at) = Some (codes "bad " ++ head ++ codes " " ++ decimal at)
complaint head (rejected node rule) = Some (codes "rejected " ++ head ++ codes " node " ++ decimal node ++ codes " rule " ++ rule_word rule)
