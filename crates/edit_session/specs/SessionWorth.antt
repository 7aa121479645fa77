-- What the replies of a session are worth, said by executions alone: a procedure that a report calls correct has, in the program that the opens and edits before it leave, no execution from an entry state that fails.
use Rattle.std.specs.Prelude.{◌≡◌, ℕ, List, [], ◌∷◌, Ok, Contains}
use Rattle.bpl_ast.specs.Statement.{Decl}
use Rattle.bpl_model.specs.Module.{Module}
use Rattle.report_text.specs.Called.{correct_line, IsName}
use Rattle.report_laws.specs.Called.{IsProgramOf, IsSafeIn}
use Rattle.request_text.specs.Request.{Request, Reply, accepted, counted, reported, summed, proved, ended, refused, memory, absent, misnamed, fault}
use Rattle.request_text.specs.Reading.{request_of}
use Rattle.request_text.specs.Replies.{reply_text}
use Rattle.program_edits.specs.Leaves.{Leaves}

-- for each line `P correct` the procedure P is safe
abbrev pub NamesTheSafe : Module → List (List ℕ) → Type 0
NamesTheSafe m lines = (name : List ℕ) → IsName name → Contains lines (correct_line name) → IsSafeIn m name

-- the declarations are a program, and what the lines call correct is safe in its module
pub record IsWorthReport (ds : List Decl) (lines : List (List ℕ)) : Type 0 where
  pub typed : Module
  pub is_program : IsProgramOf ds typed
  pub correct_is_safe : NamesTheSafe typed lines

-- of the declarations that are open behind it; only a report says that something is correct
abbrev pub IsWorthReply : List Decl → Reply → Type 0
IsWorthReply ds (accepted goals rebuilt version) = Unit {0}
IsWorthReply ds (counted done pending version) = Unit {0}
IsWorthReply ds (reported lines version) = IsWorthReport ds lines
IsWorthReply ds (summed lines version) = Unit {0}
IsWorthReply ds (proved lines version) = Unit {0}
IsWorthReply ds ended = Unit {0}
IsWorthReply ds (refused why) = Unit {0}
IsWorthReply ds memory = Unit {0}
IsWorthReply ds (absent name) = Unit {0}
IsWorthReply ds (misnamed name) = Unit {0}
IsWorthReply ds (fault kind decl line col word) = Unit {0}

-- a line that is accepted is an open or an edit, and leaves these declarations; by any other reply they stay
module _ (line : List ℕ) (old new : List Decl) where
  abbrev pub Changes : Reply → Type 0
  Changes (accepted goals rebuilt version) = (r : Request) × (request_of line ≡ Ok r) × Leaves old r new
  Changes (counted done pending version) = new ≡ old
  Changes (reported lines version) = new ≡ old
  Changes (summed lines version) = new ≡ old
  Changes (proved lines version) = new ≡ old
  Changes ended = new ≡ old
  Changes (refused why) = new ≡ old
  Changes memory = new ≡ old
  Changes (absent name) = new ≡ old
  Changes (misnamed name) = new ≡ old
  Changes (fault kind decl at col word) = new ≡ old

-- lines with the texts of their replies, one after another, from these declarations on
pub data AreWorth : List Decl → List (List ℕ) → List (List ℕ) → Type 0 where
  no_lines : {ds : List Decl} → AreWorth ds [] []
  one_more : {old : List Decl} {line : List ℕ} {lines replies : List (List ℕ)} (x : Reply) (new : List Decl)
      → Changes line old new x → IsWorthReply new x → AreWorth new lines replies → AreWorth old (line ∷ lines) (reply_text x ∷ replies)

-- of a whole session, which begins without declarations
abbrev pub IsWorthSession : List (List ℕ) → List (List ℕ) → Type 0
IsWorthSession lines replies = AreWorth [] lines replies
