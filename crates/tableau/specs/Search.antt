-- The search: a step applies the first rule that can be applied, on the top branch; the verdict, and the proof made of the steps' nodes.
use Rattle.std.specs.Prelude.{◌≡◌, ℕ, zero, suc, ◌-◌, nat_lt, Bool, true, false, is_some, Option, Some, None, List, [], ◌∷◌, ◌++◌, length, drop, slice_get}
use Rattle.logic_core.specs.Def.{Def, Obligation}
use Rattle.logic_core.specs.Tree.{Tree}
use Rattle.proof_core.specs.Proof.{Step, Proof, proof, by_close, by_cases, by_condition, by_past, by_trichotomy}
use Rattle.proof_core.specs.View.{proofs_of}
use Rattle.proof_core.specs.Context.{Context, start}
use Rattle.proof_core.specs.Accepted.{IsAccepted}
use Rattle.logic_core.specs.WellSorted.{IsWellSorted}
use Rattle.tableau_branch.specs.Branch.{Branch, Attempt, none, leaves, gives, numbered}
use Rattle.tableau_branch.specs.Move.{Ending, goes_on, closes, forks, chooses, passes, decides, Move, cost, branches_of, Played, played}
use Rattle.logic_rules.specs.Closing.{close}
use Rattle.logic_rules.specs.Flattening.{flatten}
use Rattle.logic_rules.specs.Skolem.{skolem}
use Rattle.logic_rules.specs.Rewriting.{rewrite}
use Rattle.theory_rules.specs.Back.{back}
use Rattle.logic_rules.specs.Unfolding.{unfold_call}
use Rattle.theory_rules.specs.Combining.{combine}
use Rattle.theory_rules.specs.Trichotomy.{trichotomy}
use Rattle.logic_rules.specs.Splitting.{split}
use Rattle.theory_rules.specs.Condition.{condition}
use Rattle.theory_rules.specs.Past.{past}
use Rattle.theory_rules.specs.Differ.{differ}
use Rattle.logic_rules.specs.Instantiating.{instantiate}

-- the first rule of these that can be applied
abbrev pub first_rule : List (Branch → Attempt Move) → Branch → Attempt Move
first_rule [] b = none
first_rule (r ∷ rs) b = elim (r b) [ none ↦ first_rule rs b | leaves ↦ leaves | gives m ↦ gives m ]

abbrev pub rules : List Def → List (Branch → Attempt Move)
rules defs = close ∷ flatten defs ∷ skolem defs ∷ rewrite defs ∷ back defs ∷ unfold_call defs ∷ combine defs ∷ trichotomy defs
    ∷ split defs ∷ condition defs ∷ past defs ∷ differ defs ∷ instantiate defs ∷ []

unfoldable pub step : List Def → Branch → Attempt Move
step defs b = first_rule (rules defs) b

-- proved where the stack is empty, open where the top branch has no step, wide where its next step leaves 128 bits, and turns where that costs more than is left
pub data Verdict : Type 0 where
  proved : Verdict
  «open» : Verdict
  turns : Verdict
  wide : Verdict

abbrev pub is_proved : Verdict → Bool
is_proved proved = true
is_proved v = false

-- the verdict, and what the proof needs of the moves
pub record Run : Type 0 where
  pub verdict : Verdict
  pub moves : List Played

abbrev pub ended : Verdict → Run
ended v = record { verdict = v; moves = [] }

abbrev pub after : Move → Run → Run
after m r = record { verdict = r.verdict; moves = played m ∷ r.moves }

-- what comes of a step of the top branch, with so many turns left; `rest` goes on with the turns and the branches that are left
abbrev pub after_attempt : (ℕ → List Branch → Run) → ℕ → List Branch → Attempt Move → Run
after_attempt rest left bs none = ended «open»
after_attempt rest left bs leaves = ended wide
after_attempt rest left bs (gives m) = elim (nat_lt left (cost m)) [ true ↦ ended turns | false ↦ after m (rest (left - cost m) (branches_of m.made ++ bs)) ]

-- on a stack of branches; each step costs at least one turn, so `steps` bounds the steps where no more turns are left
module _ (defs : List Def) where
  abbrev pub run : ℕ → ℕ → List Branch → Run
  run steps left [] = ended proved
  run zero left (b ∷ bs) = after_attempt (λ l s. ended turns) left bs (step defs b)
  run (suc steps) left (b ∷ bs) = after_attempt (λ l s. run steps l s) left bs (step defs b)

-- the proof of a branch that begins with these nodes
abbrev pub begin_with : List Step → Proof → Proof
begin_with ss (proof ts e) = proof (ss ++ ts) e

-- the proofs of the branches of a move, the first of these: each begins with the nodes of its branch
abbrev pub begin_each : List (List Step) → List Proof → List Proof
begin_each [] ps = []
begin_each (ss ∷ rest) [] = []
begin_each (ss ∷ rest) (p ∷ ps) = begin_with ss p ∷ begin_each rest ps

abbrev pub only : List Proof → Proof
only [] = proof [] (by_close 0 0)
only (p ∷ ps) = p

-- where there are as many proofs as a node has children
abbrev pub chosen_proof : ℕ → Tree → List Proof → Proof
chosen_proof f t (p ∷ q ∷ []) = proof [] (by_condition f t p q)
chosen_proof f t ps = only []

abbrev pub passed_proof : Tree → List Proof → Proof
passed_proof t (p ∷ q ∷ r ∷ []) = proof [] (by_past t p q r)
passed_proof t ps = only []

abbrev pub decided_proof : Tree → List Proof → Proof
decided_proof d (p ∷ q ∷ r ∷ []) = proof [] (by_trichotomy d p q r)
decided_proof d ps = only []

-- the proof of a branch on which a move was made, from those of the branches that it made
abbrev pub proof_of : Ending → List Proof → Proof
proof_of goes_on ps = only ps
proof_of (closes f g) ps = proof [] (by_close f g)
proof_of (forks f) [] = only []
proof_of (forks f) (p ∷ ps) = proof [] (by_cases f p (proofs_of ps))
proof_of (chooses f t) ps = chosen_proof f t ps
proof_of (passes t) ps = passed_proof t ps
proof_of (decides d) ps = decided_proof d ps

-- the proofs of the branches on the stack before a move, from those of the stack after it
abbrev pub joined : Played → List Proof → List Proof
joined m ps = proof_of m.ending (begin_each m.steps ps) ∷ drop (length m.steps) ps

-- the proofs of the branches on the stack before these moves, from those of the stack after them
abbrev pub proofs_before : List Played → List Proof → List Proof
proofs_before [] ps = ps
proofs_before (m ∷ ms) ps = joined m (proofs_before ms ps)

-- the first facts as they stand at a proof's start: true and equal ones among them stay
abbrev pub first_branch : Context → Branch
first_branch c = record { facts = numbered 0 c.facts; calls = []; marks = []; vars = c.vars; next = length c.facts }

pub record Answer : Type 0 where
  pub verdict : Verdict
  pub found : Option Proof

abbrev pub found_by : Verdict → List Played → Option Proof
found_by proved ms = slice_get (proofs_before ms []) 0
found_by v ms = None

abbrev pub answer_of : Run → Answer
answer_of r = record { verdict = r.verdict; found = found_by r.verdict r.moves }

unfoldable pub answer : Obligation → ℕ → Answer
answer o n = elim (start o) [
  | None ↦ record { verdict = wide; found = None }
  | Some c ↦ answer_of (run o.defs n n (first_branch c ∷ []))
]

-- the proof that is found for a well-sorted obligation is accepted
abbrev pub FindsAccepted : Type 0
FindsAccepted = (o : Obligation) (n : ℕ) (p : Proof) → IsWellSorted o → (answer o n).found ≡ Some p → IsAccepted o p

-- there is a proof exactly where the verdict is proved
abbrev pub FindsWhereProved : Type 0
FindsWhereProved = (o : Obligation) (n : ℕ) → is_some (answer o n).found ≡ is_proved (answer o n).verdict
