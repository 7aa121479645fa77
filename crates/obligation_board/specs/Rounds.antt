-- The calls of a worker: rounds, and then an end.
use Rattle.std.specs.Prelude.{◌≡◌, ◌⊎◌, ℕ, List, [], ◌∷◌, ◌++◌, map, All, Result, Ok, Err, ⊤}
use Rattle.std.specs.List.{flat_map, sum_by}
use Rattle.board_core.specs.Kept.{Key}
use Rattle.board_core.specs.Board.{Ticket, claim, deposit, give_back, no_memory, claimed, was_empty, was_closed, deposited, given_back, memory, Call}
use Rattle.board_core.specs.History.{Entry}
use Rattle.obligation_board.specs.declared.worker.Ended.{Ended}
use Rattle.obligation_board.specs.declared.worker.Ended.TheVariants as end

-- the calls of a pass with this number
abbrev pub made_by : {A : Type 0} → ℕ → List (Call A) → List (Entry A)
made_by number calls = map (λ c. (number, c)) calls

-- a round: there was no question, or a claim for a question was answered, and the answer was deposited while so many present goals had its key
pub data Round (A Q : Type 0) : Type 0 where
  no_question : Round A Q
  answered : Ticket → Q → A → ℕ → Round A Q

abbrev pub calls_of : {A Q : Type 0} → Round A Q → List (Call A)
calls_of no_question = record { event = claim; reply = was_empty } ∷ []
calls_of (answered t q a n) = record { event = claim; reply = claimed t } ∷ record { event = deposit t a; reply = deposited n } ∷ []

abbrev pub deposits_of : {A Q : Type 0} → Round A Q → ℕ
deposits_of no_question = 0
deposits_of (answered t q a n) = 1

-- the last calls: a claim was answered Closed, or there was no memory for a claim, or none for an answer, and then the claim was given back
abbrev pub IsEnd : {A : Type 0} → Ended → List (Call A) → Type 0
IsEnd end.Closed calls = calls ≡ record { event = claim; reply = was_closed } ∷ []
IsEnd end.Memory calls = (calls ≡ record { event = no_memory; reply = memory } ∷ [])
    ⊎ ((t : Ticket) × (calls ≡ record { event = claim; reply = claimed t } ∷ record { event = give_back t; reply = given_back } ∷ []))

-- over the key of a question, and the answers that the prover gives for it
module _ {A Q : Type 0} (key : Q → Key) (gives : Q → A → Type 0) where
  -- what is deposited for a claim is the prover's answer for the claim's question
  abbrev pub IsRight : Round A Q → Type 0
  IsRight no_question = ⊤
  IsRight (answered t q a n) = (key q ≡ t.key) × gives q a

  -- the calls are those of rounds, with so many deposits
  pub record AreRounds (deposits : ℕ) (calls : List (Call A)) : Type 0 where
    pub rounds : List (Round A Q)
    pub right : All IsRight rounds
    pub made : calls ≡ flat_map calls_of rounds
    pub counted : deposits ≡ sum_by deposits_of rounds

  -- Rounds, and then an end. So every claim is deposited with the prover's answer for its question, but for at most one, at the end for want of memory; and the worker ended for a close exactly where its last claim was answered Closed
  pub record IsWork (ended : Ended) (deposits : ℕ) (calls : List (Call A)) : Type 0 where
    pub before : List (Call A)
    pub last : List (Call A)
    pub made : calls ≡ before ++ last
    pub rounds : AreRounds deposits before
    pub end : IsEnd ended last

  -- what one claim came to: a round with so many deposits, or the end
  abbrev pub IsTry : Result ℕ Ended → List (Call A) → Type 0
  IsTry (Ok deposits) calls = (r : Round A Q) × IsRight r × (calls ≡ calls_of r) × (deposits ≡ deposits_of r)
  IsTry (Err ended) calls = IsEnd ended calls

  -- what became of a claim that was given
  abbrev pub IsSettled : Ticket → Result ℕ Ended → List (Call A) → Type 0
  IsSettled t (Ok deposits) calls = (q : Q) × (a : A) × (n : ℕ) × (deposits ≡ 1) × (calls ≡ record { event = deposit t a; reply = deposited n } ∷ []) × (key q ≡ t.key) × gives q a
  IsSettled t (Err ended) calls = (ended ≡ end.Memory) × (calls ≡ record { event = give_back t; reply = given_back } ∷ [])
