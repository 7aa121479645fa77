-- Reading a proof byte by byte. A state is the nodes that are open around the place, innermost first, the steps before it in its branch, and where in its node the place is.
use Rattle.std.specs.Prelude.{ℕ, nat_eq, ℤ, pos, ◌||◌, if◌then◌else◌, Option, None, Some, option_map, List, [], ◌∷◌, ◌++◌}
use Rattle.logic_core.specs.Tree.{Tree}
use Rattle.logic_core.specs.Wide.{◌>>=◌}
use Rattle.proof_core.specs.Proof.{Step, by_split, by_instantiate, by_skolem, by_replace, by_unfold, by_back, by_differ, by_combine, by_tighten, Proof, proof, End, by_close, by_cases, by_condition, by_past, by_trichotomy}
use Rattle.proof_core.specs.View.{proofs_of}
use Rattle.proof_text.specs.Digit.{digit, more_number, more_integer, first_negative}
use Rattle.proof_text.specs.TermStates.{is_empty, at_byte, by_stop, or_else, term_step, finished}
use Rattle.proof_text.specs.declared.term_state.TermCursor.TheVariants.{Item}
use Rattle.proof_text.specs.declared.term_state.TermState.{TermState}
use Rattle.proof_text.specs.declared.node.Fact.{Fact}
use Rattle.proof_text.specs.declared.node.Fact.TheVariants as fact
use Rattle.proof_text.specs.declared.node.Factor.{Factor}
use Rattle.proof_text.specs.declared.node.Factor.TheVariants as factor
use Rattle.proof_text.specs.declared.node.Ways.{Ways}
use Rattle.proof_text.specs.declared.node.Ways.TheVariants as ways
use Rattle.proof_text.specs.declared.node.Argument.{Argument}
use Rattle.proof_text.specs.declared.node.Argument.TheVariants as argument
use Rattle.proof_text.specs.declared.node.Branch.{Branch}
use Rattle.proof_text.specs.declared.node.Branch.TheVariants as branch
use Rattle.proof_text.specs.declared.node.Beyond.{Beyond}
use Rattle.proof_text.specs.declared.node.Beyond.TheVariants as beyond
use Rattle.proof_text.specs.declared.node.Level.{Level}
use Rattle.proof_text.specs.declared.state.Cursor.{Cursor}
use Rattle.proof_text.specs.declared.state.Cursor.TheVariants.{NodeDue, NodeOpened, StepDone, FactDue, Number, FactorDue, Minus, Digits, CaseOrTerm, Inside, ChildDue, After, Ended}
use Rattle.proof_text.specs.declared.state.State.{State}

-- what stands behind a number, and behind a term
abbrev pub numbered : Fact → ℕ → Beyond
numbered fact.Close f = beyond.Fact (fact.CloseBy f)
numbered (fact.CloseBy f) g = beyond.Close f g
numbered fact.Split f = beyond.Split f
numbered fact.Instance f = beyond.Instance f []
numbered fact.Skolem f = beyond.Step (by_skolem f)
numbered fact.Differ f = beyond.Step (by_differ f)
numbered fact.Tighten f = beyond.Step (by_tighten f)
numbered fact.Replace f = beyond.Fact (fact.ReplaceBy f)
numbered (fact.ReplaceBy f) g = beyond.Term (argument.Replace f g)
numbered fact.Unfold f = beyond.Term (argument.Unfold f)
numbered fact.Back f = beyond.Term (argument.Back f)
numbered fact.Combine f = beyond.Factor (factor.First f)
numbered (fact.CombineBy f p) g = beyond.Factor (factor.Second f p g)

abbrev pub multiplied : Factor → ℤ → Beyond
multiplied (factor.First f) p = beyond.Fact (fact.CombineBy f p)
multiplied (factor.Second f p g) q = beyond.Step (by_combine f p g q)

abbrev pub given : Argument → Tree → Beyond
given (argument.Instance f ts) t = beyond.Instance f (ts ++ t ∷ [])
given (argument.Replace f g) t = beyond.Step (by_replace f g t)
given (argument.Unfold f) t = beyond.Step (by_unfold f t)
given (argument.Back f) t = beyond.Step (by_back f t)
given (argument.Condition f) t = beyond.Child (branch.Then f t)
given (argument.Three w) t = beyond.Child (branch.Below w t)

-- what stands behind a child
abbrev pub proved : Branch → Proof → Beyond
proved (branch.Case f) p = beyond.Cases f p []
proved (branch.OtherCase f p ps) q = beyond.Cases f p (ps ++ q ∷ [])
proved (branch.Then f t) p = beyond.Child (branch.Else f t p)
proved (branch.Else f t p) q = beyond.Condition f t p q
proved (branch.Below w t) p = beyond.Child (branch.Same w t p)
proved (branch.Same w t p) q = beyond.Child (branch.Above w t p q)
proved (branch.Above w t p q) r = beyond.Three w t p q r

abbrev pub three_of : Ways → Tree → Proof → Proof → Proof → End
three_of ways.Past t p q r = by_past t p q r
three_of ways.Trichotomy t p q r = by_trichotomy t p q r

module _ (ls : List Level) (ss : List Step) where
  abbrev pub at : Cursor → State
  at c = record { levels = ls; steps = ss; cursor = c }

  abbrev pub inside : Argument → TermState → State
  inside a st = at (Inside a st)

  -- a term begins
  abbrev pub term_due : Argument → State
  term_due a = inside a (record { holes = []; cursor = Item })

  abbrev pub stepped : Step → State
  stepped s = at (StepDone s)

  -- a node begins behind a step
  abbrev pub next_node : Step → State
  next_node s = record { levels = ls; steps = ss ++ s ∷ []; cursor = NodeDue }

  abbrev pub ended : End → State
  ended e = record { levels = ls; steps = []; cursor = Ended (proof ss e) }

  -- a child begins
  abbrev pub into : Branch → State
  into b = record { levels = record { steps = ss; branch = b } ∷ ls; steps = []; cursor = NodeDue }

  abbrev pub head_moves : List (ℕ × State)
  head_moves = (99, at (After (beyond.Fact fact.Close))) ∷ (115, at (After (beyond.Fact fact.Split))) ∷ (105, at (After (beyond.Fact fact.Instance))) ∷ (119, at (After (beyond.Fact fact.Skolem)))
      ∷ (100, at (After (beyond.Fact fact.Differ))) ∷ (116, at (After (beyond.Fact fact.Tighten))) ∷ (101, at (After (beyond.Fact fact.Replace))) ∷ (117, at (After (beyond.Fact fact.Unfold)))
      ∷ (114, at (After (beyond.Fact fact.Back))) ∷ (107, at (After (beyond.Fact fact.Combine))) ∷ (112, at (After (beyond.Term (argument.Three ways.Past)))) ∷ (121, at (After (beyond.Term (argument.Three ways.Trichotomy)))) ∷ []

  -- a space behind a part, and the parenthesis that closes a node
  abbrev pub beyond_space : Beyond → Option State
  beyond_space (beyond.Fact f) = Some (at (FactDue f))
  beyond_space (beyond.Factor f) = Some (at (FactorDue f))
  beyond_space (beyond.Term a) = Some (term_due a)
  beyond_space (beyond.Child b) = Some (at (ChildDue b))
  beyond_space (beyond.Step s) = None
  beyond_space (beyond.Split f) = Some (at (CaseOrTerm f))
  beyond_space (beyond.Instance f ts) = Some (term_due (argument.Instance f ts))
  beyond_space (beyond.Cases f p ps) = Some (at (ChildDue (branch.OtherCase f p ps)))
  beyond_space (beyond.Close f g) = None
  beyond_space (beyond.Condition f t p q) = None
  beyond_space (beyond.Three w t p q r) = None

  abbrev pub beyond_close : Beyond → Option State
  beyond_close (beyond.Fact f) = None
  beyond_close (beyond.Factor f) = None
  beyond_close (beyond.Term a) = None
  beyond_close (beyond.Child b) = None
  beyond_close (beyond.Step s) = Some (stepped s)
  beyond_close (beyond.Split f) = Some (stepped (by_split f))
  beyond_close (beyond.Instance f ts) = Some (stepped (by_instantiate f ts))
  beyond_close (beyond.Cases f p ps) = Some (ended (by_cases f p (proofs_of ps)))
  beyond_close (beyond.Close f g) = Some (ended (by_close f g))
  beyond_close (beyond.Condition f t p q) = Some (ended (by_condition f t p q))
  beyond_close (beyond.Three w t p q r) = Some (ended (three_of w t p q r))

  abbrev pub beyond_step : Beyond → ℕ → Option State
  beyond_step b c = by_stop c (beyond_space b) (beyond_close b)

  -- a byte in a term, or behind one
  abbrev pub in_term : Argument → TermState → ℕ → Option State
  in_term a st c = option_map (λ u. inside a u) (term_step st.holes st.cursor c)

  abbrev pub behind_term : Argument → TermState → ℕ → Option Tree → Option State
  behind_term a st c None = in_term a st c
  behind_term a st c (Some t) = beyond_step (given a t) c

  abbrev pub inside_step : Argument → TermState → ℕ → Option State
  inside_step a st c = if nat_eq c 32 || nat_eq c 41 then behind_term a st c (finished st.holes st.cursor) else in_term a st c

-- a proof ends, in the child of a node
abbrev pub child_moves : List Level → Proof → List (ℕ × State)
child_moves [] p = []
child_moves (l ∷ ls) p = (93, at ls l.steps (After (proved l.branch p))) ∷ []

-- the state behind one more byte, where a proof's text may go on with it
abbrev pub step : List Level → List Step → Cursor → ℕ → Option State
step ls ss NodeDue c = at_byte c ((40, at ls ss NodeOpened) ∷ [])
step ls ss NodeOpened c = at_byte c (head_moves ls ss)
step ls ss (StepDone s) c = at_byte c ((32, next_node ls ss s) ∷ [])
step ls ss (FactDue f) c = option_map (λ d. at ls ss (Number f d)) (digit c)
step ls ss (Number f v) c = or_else (option_map (λ w. at ls ss (Number f w)) (more_number v c)) (beyond_step ls ss (numbered f v) c)
step ls ss (FactorDue f) c = or_else (at_byte c ((45, at ls ss (Minus f)) ∷ [])) (option_map (λ d. at ls ss (Digits f (pos d))) (digit c))
step ls ss (Minus f) c = option_map (λ n. at ls ss (Digits f n)) (first_negative c)
step ls ss (Digits f n) c = or_else (option_map (λ m. at ls ss (Digits f m)) (more_integer n c)) (beyond_step ls ss (multiplied f n) c)
step ls ss (CaseOrTerm f) c = or_else (at_byte c ((91, into ls ss (branch.Case f)) ∷ [])) (in_term ls ss (argument.Condition f) (record { holes = []; cursor = Item }) c)
step ls ss (Inside a st) c = inside_step ls ss a st c
step ls ss (ChildDue b) c = at_byte c ((91, into ls ss b) ∷ [])
step ls ss (After b) c = beyond_step ls ss b c
step ls ss (Ended p) c = at_byte c (child_moves ls p)

abbrev pub start : State
start = record { levels = []; steps = []; cursor = NodeDue }

-- the state behind these bytes
abbrev pub run : State → List ℕ → Option State
run st [] = Some st
run st (c ∷ cs) = step st.levels st.steps st.cursor c >>= (λ u. run u cs)

abbrev pub whole : Cursor → Option Proof
whole (Ended p) = Some p
whole c = None

-- the proof that has been read, where no node is open
abbrev pub read_proof : List Level → Cursor → Option Proof
read_proof ls c = if is_empty ls then whole c else None
