-- How a session over lines ends, by what its source has left and its sink holds before and after, where they tell it.
use Rattle.std.specs.Prelude.{◌≡◌, ◌⊎◌, ℕ, ◌+◌, ◌≤◌, ◌<◌, Bool, true, false, List, [], ◌∷◌, ◌++◌, length, take, Option, IfSome}
use Rattle.bv_base.specs.Known.{Takes, Adds, IsEnd}
use Rattle.bv_base.specs.Lines.{lines}
use Rattle.line_server.specs.Exchanges.{Exchange, lines_of, text_of, asked, ended_lines, Answers}
use Rattle.line_server.specs.declared.serving.Ending.{Ending}
use Rattle.line_server.specs.declared.serving.Ending.TheVariants.{Done, ReadFault, WriteFault, Memory, Full}

-- these are the first lines of the input that are answered
abbrev pub AreFirst : Option (List ℕ) → List (List ℕ) → Type 0
AreFirst left ls = IfSome left (λ input. (later : List (List ℕ)) × (asked (lines input) ≡ ls ++ later))

-- they are all, and the input was read to its end
abbrev pub AreAll : Option (List ℕ) → Option (List ℕ) → List (List ℕ) → Type 0
AreAll left left' ls = IsEnd left' × IfSome left (λ input. asked (lines input) ≡ ls)

-- with a last reply the rest of the input isn't served, and else there is none
abbrev pub IsServed : Bool → Option (List ℕ) → Option (List ℕ) → List (List ℕ) → Type 0
IsServed true left left' ls = AreFirst left ls
IsServed false left left' ls = AreAll left left' ls

-- they are the whole lines of what was taken: a line feed ended them, or the end of the input
abbrev pub AreWhole : List ℕ → Option (List ℕ) → List (List ℕ) → Type 0
AreWhole taken left' ls = (asked (ended_lines taken) ≡ ls) ⊎ (IsEnd left' × (asked (lines taken) ≡ ls))

-- no more than the total was taken
abbrev pub TakesWithin : ℕ → Option (List ℕ) → Option (List ℕ) → Type 0
TakesWithin total left left' = (taken : List ℕ) × (length taken ≤ total) × Takes left left' taken

module _ {V : Type 0} (replies : V → List ℕ → V → List ℕ → Bool → Type 0) (fails : V → List ℕ → V → Type 0) (total : ℕ) (old new : V) (left left' held held' : Option (List ℕ)) where
  -- every line is answered, up to the end or to a last reply
  pub record IsDone : Type 0 where
    pub exchanges : List Exchange
    pub is_last : Bool
    pub answered : Answers replies old exchanges new is_last
    pub served : IsServed is_last left left' (lines_of exchanges)
    pub written : Adds held held' (text_of exchanges)

  -- every whole line of what was taken is answered
  pub record IsStopped : Type 0 where
    pub exchanges : List Exchange
    pub answered : Answers replies old exchanges new false
    pub taken : List ℕ
    pub takes : Takes left left' taken
    pub within : length taken ≤ total
    pub whole : IfSome left (λ _. AreWhole taken left' (lines_of exchanges))
    pub written : Adds held held' (text_of exchanges)

  -- the total was taken, and a further byte; every line that ended within the total is answered
  pub record IsFull : Type 0 where
    pub exchanges : List Exchange
    pub answered : Answers replies old exchanges new false
    pub taken : List ℕ
    pub takes : Takes left left' taken
    pub further : length taken ≡ total + 1
    pub whole : IfSome left (λ _. asked (ended_lines (take total taken)) ≡ lines_of exchanges)
    pub written : Adds held held' (text_of exchanges)

  -- of the last of the replies a front was written, and not all
  pub record IsBroken : Type 0 where
    pub exchanges : List Exchange
    pub broken : Exchange
    pub is_last : Bool
    pub answered : Answers replies old (exchanges ++ broken ∷ []) new is_last
    pub first : AreFirst left (lines_of (exchanges ++ broken ∷ []))
    pub written_of : ℕ
    pub short : written_of < length broken.reply
    pub written : Adds held held' (text_of exchanges ++ take written_of broken.reply)

  -- the first lines are answered; and then there was no memory for a line, or for the reply to the one behind them
  pub record IsStarved : Type 0 where
    pub exchanges : List Exchange
    pub value : V
    pub ended_at : (new ≡ value) ⊎ ((line : List ℕ) × fails value line new × AreFirst left (lines_of exchanges ++ line ∷ []))
    pub answered : Answers replies old exchanges value false
    pub first : AreFirst left (lines_of exchanges)
    pub written : Adds held held' (text_of exchanges)

  abbrev pub Ends : Ending → Type 0
  Ends Done = IsDone
  Ends ReadFault = IsStopped
  Ends WriteFault = IsBroken
  Ends Memory = IsStarved
  Ends Full = IsFull
