-- A step of a proof's reader shows one byte more.
use Rattle.std.proofs.Common.{◌≡◌, ℕ, nat_eq, ℤ, pos, Bool, true, false, ◌||◌, if◌then◌else◌, Option, None, Some, option_map, List, [], ◌∷◌, ◌++◌, refl, ap, ◌∙◌}
use Rattle.logic_core.specs.Tree.{Tree}
use Rattle.obligation_text.specs.Numbers.{number_text, signed_text}
use Rattle.obligation_text.proofs.Printed.{onto}
use Rattle.proof_core.specs.Proof.{Step, by_split, by_instantiate, by_skolem, by_replace, by_unfold, by_back, by_differ, by_combine, by_tighten, Proof, End, by_close, by_cases, by_condition}
use Rattle.proof_core.specs.View.{proofs_of}
use Rattle.proof_text.specs.Digit.{digit, more_number, more_integer, first_negative}
use Rattle.proof_text.specs.TermStates.{at_byte, finished, term_step}
use Rattle.proof_text.specs.States.{numbered, multiplied, given, proved, three_of, at, inside, next_node, ended, into, head_moves, beyond_space, beyond_close, beyond_step, in_term, behind_term, child_moves, step}
use Rattle.proof_text.specs.declared.term_state.TermCursor.TheVariants as term
use Rattle.proof_text.specs.declared.term_state.TermState.{TermState}
use Rattle.proof_text.specs.declared.node.Fact.{Fact}
use Rattle.proof_text.specs.declared.node.Fact.TheVariants as fact
use Rattle.proof_text.specs.declared.node.Factor.{Factor}
use Rattle.proof_text.specs.declared.node.Factor.TheVariants as factor
use Rattle.proof_text.specs.declared.node.Ways.{Ways}
use Rattle.proof_text.specs.declared.node.Ways.TheVariants as ways
use Rattle.proof_text.specs.declared.node.Argument.{Argument}
use Rattle.proof_text.specs.declared.node.Argument.TheVariants as argument
use Rattle.proof_text.specs.declared.node.Branch.{Branch}
use Rattle.proof_text.specs.declared.node.Branch.TheVariants as branch
use Rattle.proof_text.specs.declared.node.Beyond.{Beyond}
use Rattle.proof_text.specs.declared.node.Beyond.TheVariants as beyond
use Rattle.proof_text.specs.declared.node.Level.{Level}
use Rattle.proof_text.specs.declared.state.Cursor.{Cursor}
use Rattle.proof_text.specs.declared.state.Cursor.TheVariants.{NodeDue, NodeOpened, StepDone, FactDue, Number, FactorDue, Minus, Digits, CaseOrTerm, Inside, ChildDue, After, Ended}
use Rattle.proof_text.specs.declared.state.State.{State}
use Rattle.proof_text.proofs.Printed.{fact_onto, number_onto, named_onto, tuple_onto, step_onto, steps_onto, proof_onto, end_onto, children_onto}
use Rattle.proof_text.proofs.TermsShown.{Grows, EachGrows, byte_grows, stop_grows, either_grows, more_number_is, more_integer_is, first_digit_is, first_negative_is, number_grows, number_begins}
use Rattle.proof_text.proofs.TermsShown.{shown as term_shown}
use Rattle.proof_text.proofs.TermSteps.{term_step_grows, finished_shown}

-- the text of a node before a number, a multiplier, a term and a child
abbrev pub fact_front : Fact → List ℕ → List ℕ
fact_front fact.Close r = 40 ∷ 99 ∷ r
fact_front (fact.CloseBy f) r = 40 ∷ 99 ∷ fact_onto f r
fact_front fact.Split r = 40 ∷ 115 ∷ r
fact_front fact.Instance r = 40 ∷ 105 ∷ r
fact_front fact.Skolem r = 40 ∷ 119 ∷ r
fact_front fact.Differ r = 40 ∷ 100 ∷ r
fact_front fact.Tighten r = 40 ∷ 116 ∷ r
fact_front fact.Replace r = 40 ∷ 101 ∷ r
fact_front (fact.ReplaceBy f) r = 40 ∷ 101 ∷ fact_onto f r
fact_front fact.Unfold r = 40 ∷ 117 ∷ r
fact_front fact.Back r = 40 ∷ 114 ∷ r
fact_front fact.Combine r = 40 ∷ 107 ∷ r
fact_front (fact.CombineBy f p) r = 40 ∷ 107 ∷ fact_onto f (number_onto p r)

abbrev pub factor_front : Factor → List ℕ → List ℕ
factor_front (factor.First f) r = 40 ∷ 107 ∷ fact_onto f r
factor_front (factor.Second f p g) r = 40 ∷ 107 ∷ fact_onto f (number_onto p (fact_onto g r))

abbrev pub ways_onto : Ways → List ℕ → List ℕ
ways_onto ways.Past r = 40 ∷ 112 ∷ r
ways_onto ways.Trichotomy r = 40 ∷ 121 ∷ r

abbrev pub argument_front : Argument → List ℕ → List ℕ
argument_front (argument.Instance f ts) r = 40 ∷ 105 ∷ fact_onto f (tuple_onto ts r)
argument_front (argument.Replace f g) r = 40 ∷ 101 ∷ fact_onto f (fact_onto g r)
argument_front (argument.Unfold f) r = 40 ∷ 117 ∷ fact_onto f r
argument_front (argument.Back f) r = 40 ∷ 114 ∷ fact_onto f r
argument_front (argument.Condition f) r = 40 ∷ 115 ∷ fact_onto f r
argument_front (argument.Three w) r = ways_onto w r

-- a child in its brackets
abbrev pub child_onto : Proof → List ℕ → List ℕ
child_onto p r = 32 ∷ 91 ∷ proof_onto p (93 ∷ r)

abbrev pub branch_front : Branch → List ℕ → List ℕ
branch_front (branch.Case f) r = 40 ∷ 115 ∷ fact_onto f r
branch_front (branch.OtherCase f p ps) r = 40 ∷ 115 ∷ fact_onto f (child_onto p (children_onto (proofs_of ps) r))
branch_front (branch.Then f t) r = 40 ∷ 115 ∷ fact_onto f (named_onto t r)
branch_front (branch.Else f t p) r = 40 ∷ 115 ∷ fact_onto f (named_onto t (child_onto p r))
branch_front (branch.Below w t) r = ways_onto w (named_onto t r)
branch_front (branch.Same w t p) r = ways_onto w (named_onto t (child_onto p r))
branch_front (branch.Above w t p q) r = ways_onto w (named_onto t (child_onto p (child_onto q r)))

-- a step before the parenthesis that closes it
abbrev pub step_front : Step → List ℕ → List ℕ
step_front (by_split f) r = 40 ∷ 115 ∷ fact_onto f r
step_front (by_instantiate f ts) r = 40 ∷ 105 ∷ fact_onto f (tuple_onto ts r)
step_front (by_skolem f) r = 40 ∷ 119 ∷ fact_onto f r
step_front (by_replace f g t) r = 40 ∷ 101 ∷ fact_onto f (fact_onto g (named_onto t r))
step_front (by_unfold f t) r = 40 ∷ 117 ∷ fact_onto f (named_onto t r)
step_front (by_back f t) r = 40 ∷ 114 ∷ fact_onto f (named_onto t r)
step_front (by_differ f) r = 40 ∷ 100 ∷ fact_onto f r
step_front (by_combine f p g q) r = 40 ∷ 107 ∷ fact_onto f (number_onto p (fact_onto g (number_onto q r)))
step_front (by_tighten f) r = 40 ∷ 116 ∷ fact_onto f r

abbrev pub beyond_onto : Beyond → List ℕ → List ℕ
beyond_onto (beyond.Fact f) r = fact_front f r
beyond_onto (beyond.Factor f) r = factor_front f r
beyond_onto (beyond.Term a) r = argument_front a r
beyond_onto (beyond.Child b) r = branch_front b r
beyond_onto (beyond.Step s) r = step_front s r
beyond_onto (beyond.Split f) r = 40 ∷ 115 ∷ fact_onto f r
beyond_onto (beyond.Instance f ts) r = 40 ∷ 105 ∷ fact_onto f (tuple_onto ts r)
beyond_onto (beyond.Cases f p ps) r = 40 ∷ 115 ∷ fact_onto f (child_onto p (children_onto (proofs_of ps) r))
beyond_onto (beyond.Close f g) r = 40 ∷ 99 ∷ fact_onto f (fact_onto g r)
beyond_onto (beyond.Condition f t p q) r = 40 ∷ 115 ∷ fact_onto f (named_onto t (child_onto p (child_onto q r)))
beyond_onto (beyond.Three w t p q o) r = ways_onto w (named_onto t (child_onto p (child_onto q (child_onto o r))))

-- the steps of the branch and where in its next node the place is; where the branch has ended its steps are in its proof
abbrev pub branch_onto : List Step → Cursor → List ℕ → List ℕ
branch_onto ss NodeDue r = steps_onto ss r
branch_onto ss NodeOpened r = steps_onto ss (40 ∷ r)
branch_onto ss (StepDone s) r = steps_onto ss (step_onto s r)
branch_onto ss (FactDue f) r = steps_onto ss (fact_front f (32 ∷ r))
branch_onto ss (Number f v) r = steps_onto ss (fact_front f (fact_onto v r))
branch_onto ss (FactorDue f) r = steps_onto ss (factor_front f (32 ∷ r))
branch_onto ss (Minus f) r = steps_onto ss (factor_front f (32 ∷ 45 ∷ r))
branch_onto ss (Digits f n) r = steps_onto ss (factor_front f (number_onto n r))
branch_onto ss (CaseOrTerm f) r = steps_onto ss (40 ∷ 115 ∷ fact_onto f (32 ∷ r))
branch_onto ss (Inside a st) r = steps_onto ss (argument_front a (32 ∷ term_shown st r))
branch_onto ss (ChildDue b) r = steps_onto ss (branch_front b (32 ∷ r))
branch_onto ss (After b) r = steps_onto ss (beyond_onto b r)
branch_onto ss (Ended p) r = proof_onto p r

-- the text of the branches whose nodes are open
abbrev pub levels_onto : List Level → List ℕ → List ℕ
levels_onto [] r = r
levels_onto (l ∷ ls) r = levels_onto ls (steps_onto l.steps (branch_front l.branch (32 ∷ 91 ∷ r)))

abbrev pub over : List Level → List Step → Cursor → List ℕ → List ℕ
over ls ss c r = levels_onto ls (branch_onto ss c r)

abbrev pub shown : State → List ℕ → List ℕ
shown st r = over st.levels st.steps st.cursor r

steps_more : (ss : List Step) (s : Step) (r : List ℕ) → steps_onto (ss ++ s ∷ []) r ≡ steps_onto ss (step_onto s (32 ∷ r))
steps_more [] s r = refl
steps_more (t ∷ ss) s r = ap (λ l. step_onto t (32 ∷ l)) (steps_more ss s r)

tuple_more : (ts : List Tree) (t : Tree) (r : List ℕ) → tuple_onto (ts ++ t ∷ []) r ≡ tuple_onto ts (named_onto t r)
tuple_more [] t r = refl
tuple_more (u ∷ ts) t r = ap (named_onto u) (tuple_more ts t r)

children_more : (ps : List Proof) (p : Proof) (r : List ℕ) → children_onto (proofs_of (ps ++ p ∷ [])) r ≡ children_onto (proofs_of ps) (child_onto p r)
children_more [] p r = refl
children_more (q ∷ ps) p r = ap (child_onto q) (children_more ps p r)

step_closed : (s : Step) (r : List ℕ) → step_onto s r ≡ step_front s (41 ∷ r)
step_closed (by_split f) r = refl
step_closed (by_instantiate f ts) r = refl
step_closed (by_skolem f) r = refl
step_closed (by_replace f g t) r = refl
step_closed (by_unfold f t) r = refl
step_closed (by_back f t) r = refl
step_closed (by_differ f) r = refl
step_closed (by_combine f p g q) r = refl
step_closed (by_tighten f) r = refl

pub numbered_shown : (f : Fact) (v : ℕ) (r : List ℕ) → beyond_onto (numbered f v) r ≡ fact_front f (fact_onto v r)
numbered_shown fact.Close v r = refl
numbered_shown (fact.CloseBy f) v r = refl
numbered_shown fact.Split v r = refl
numbered_shown fact.Instance v r = refl
numbered_shown fact.Skolem v r = refl
numbered_shown fact.Differ v r = refl
numbered_shown fact.Tighten v r = refl
numbered_shown fact.Replace v r = refl
numbered_shown (fact.ReplaceBy f) v r = refl
numbered_shown fact.Unfold v r = refl
numbered_shown fact.Back v r = refl
numbered_shown fact.Combine v r = refl
numbered_shown (fact.CombineBy f p) v r = refl

pub multiplied_shown : (f : Factor) (n : ℤ) (r : List ℕ) → beyond_onto (multiplied f n) r ≡ factor_front f (number_onto n r)
multiplied_shown (factor.First f) n r = refl
multiplied_shown (factor.Second f p g) n r = refl

pub given_shown : (a : Argument) (t : Tree) (r : List ℕ) → beyond_onto (given a t) r ≡ argument_front a (named_onto t r)
given_shown (argument.Instance f ts) t r = ap (λ l. 40 ∷ 105 ∷ fact_onto f l) (tuple_more ts t r)
given_shown (argument.Replace f g) t r = refl
given_shown (argument.Unfold f) t r = refl
given_shown (argument.Back f) t r = refl
given_shown (argument.Condition f) t r = refl
given_shown (argument.Three w) t r = refl

pub proved_shown : (b : Branch) (p : Proof) (r : List ℕ) → beyond_onto (proved b p) r ≡ branch_front b (child_onto p r)
proved_shown (branch.Case f) p r = refl
proved_shown (branch.OtherCase f q ps) p r = ap (λ l. 40 ∷ 115 ∷ fact_onto f (child_onto q l)) (children_more ps p r)
proved_shown (branch.Then f t) p r = refl
proved_shown (branch.Else f t q) p r = refl
proved_shown (branch.Below w t) p r = refl
proved_shown (branch.Same w t q) p r = refl
proved_shown (branch.Above w t q o) p r = refl

three_closed : (w : Ways) (t : Tree) (p q o : Proof) (r : List ℕ) → end_onto (three_of w t p q o) r ≡ beyond_onto (beyond.Three w t p q o) (41 ∷ r)
three_closed ways.Past t p q o r = refl
three_closed ways.Trichotomy t p q o r = refl

-- a branch that has ended shows its steps and its end
ended_shown : (ls : List Level) (ss : List Step) (e : End) (r : List ℕ) → shown (ended ls ss e) r ≡ levels_onto ls (steps_onto ss (end_onto e r))
ended_shown ls ss e r = refl

space_grows : (ls : List Level) (ss : List Step) (b : Beyond) → Grows shown (over ls ss (After b)) 32 (beyond_space ls ss b)
space_grows ls ss (beyond.Fact f) = λ r. refl
space_grows ls ss (beyond.Factor f) = λ r. refl
space_grows ls ss (beyond.Term a) = λ r. refl
space_grows ls ss (beyond.Child b) = λ r. refl
space_grows ls ss (beyond.Step s) = tt
space_grows ls ss (beyond.Split f) = λ r. refl
space_grows ls ss (beyond.Instance f ts) = λ r. refl
space_grows ls ss (beyond.Cases f p ps) = λ r. refl
space_grows ls ss (beyond.Close f g) = tt
space_grows ls ss (beyond.Condition f t p q) = tt
space_grows ls ss (beyond.Three w t p q o) = tt

close_grows : (ls : List Level) (ss : List Step) (b : Beyond) → Grows shown (over ls ss (After b)) 41 (beyond_close ls ss b)
close_grows ls ss (beyond.Fact f) = tt
close_grows ls ss (beyond.Factor f) = tt
close_grows ls ss (beyond.Term a) = tt
close_grows ls ss (beyond.Child b) = tt
close_grows ls ss (beyond.Step s) = λ r. ap (λ l. levels_onto ls (steps_onto ss l)) (step_closed s r)
close_grows ls ss (beyond.Split f) = λ r. refl
close_grows ls ss (beyond.Instance f ts) = λ r. refl
close_grows ls ss (beyond.Cases f p ps) = λ r. ended_shown ls ss (by_cases f p (proofs_of ps)) r
close_grows ls ss (beyond.Close f g) = λ r. ended_shown ls ss (by_close f g) r
close_grows ls ss (beyond.Condition f t p q) = λ r. ended_shown ls ss (by_condition f t p q) r
close_grows ls ss (beyond.Three w t p q o) = λ r. ap (λ l. levels_onto ls (steps_onto ss l)) (three_closed w t p q o r)

-- behind a number or a child that shows the same
same_text : (f g : List ℕ → List ℕ) (c : ℕ) (o : Option State) → ((r : List ℕ) → g r ≡ f r) → Grows shown g c o → Grows shown f c o
same_text f g c None e h = tt
same_text f g c (Some st) e h = λ r. h r ∙ e (c ∷ r)

beyond_grows : (ls : List Level) (ss : List Step) (b : Beyond) (c : ℕ) → Grows shown (over ls ss (After b)) c (beyond_step ls ss b c)
beyond_grows ls ss b c = stop_grows shown (over ls ss (After b)) c (beyond_space ls ss b) (beyond_close ls ss b) (space_grows ls ss b) (close_grows ls ss b)

in_term_grows : (ls : List Level) (ss : List Step) (a : Argument) (st : TermState) (c : ℕ) → Grows shown (over ls ss (Inside a st)) c (in_term ls ss a st c)
in_term_grows ls ss a st c = by (term_step st.holes st.cursor c) (term_step_grows st.holes st.cursor c)
  where
    by : (o : Option TermState) → Grows term_shown (term_shown st) c o → Grows shown (over ls ss (Inside a st)) c (option_map (λ u. inside ls ss a u) o)
    by None h = tt
    by (Some u) h = λ r. ap (λ l. levels_onto ls (steps_onto ss (argument_front a (32 ∷ l)))) (h r)

behind_term_grows : (ls : List Level) (ss : List Step) (a : Argument) (st : TermState) (c : ℕ) (o : Option Tree) → ((t : Tree) → o ≡ Some t → (r : List ℕ) → onto t r ≡ term_shown st r)
    → Grows shown (over ls ss (Inside a st)) c (behind_term ls ss a st c o)
behind_term_grows ls ss a st c None h = in_term_grows ls ss a st c
behind_term_grows ls ss a st c (Some t) h = same_text (over ls ss (Inside a st)) (over ls ss (After (given a t))) c (beyond_step ls ss (given a t) c)
    (λ r. ap (λ l. levels_onto ls (steps_onto ss l)) (given_shown a t r ∙ ap (λ l. argument_front a (32 ∷ l)) (h t refl r))) (beyond_grows ls ss (given a t) c)

child_moves_grow : (ls : List Level) (ss : List Step) (p : Proof) → EachGrows shown (over ls ss (Ended p)) (child_moves ls p)
child_moves_grow [] ss p = tt
child_moves_grow (l ∷ ls) ss p = (λ r. ap (λ k. levels_onto ls (steps_onto l.steps k)) (proved_shown l.branch p r), tt)

pub step_grows : (ls : List Level) (ss : List Step) (cursor : Cursor) (c : ℕ) → Grows shown (over ls ss cursor) c (step ls ss cursor c)
step_grows ls ss NodeDue c = byte_grows shown (over ls ss NodeDue) c ((40, at ls ss NodeOpened) ∷ []) (λ r. refl, tt)
step_grows ls ss NodeOpened c = byte_grows shown (over ls ss NodeOpened) c (head_moves ls ss) (λ r. refl, (λ r. refl, (λ r. refl, (λ r. refl, (λ r. refl, (λ r. refl, (λ r. refl, (λ r. refl, (λ r. refl, (λ r. refl, (λ r. refl, (λ r. refl, tt))))))))))))
step_grows ls ss (StepDone s) c = byte_grows shown (over ls ss (StepDone s)) c ((32, next_node ls ss s) ∷ []) (λ r. ap (levels_onto ls) (steps_more ss s r), tt)
step_grows ls ss (FactDue f) c = number_begins shown number_text (λ d. at ls ss (Number f d)) (λ r. levels_onto ls (steps_onto ss (fact_front f (32 ∷ r)))) [] c (digit c) (λ w r. refl) (first_digit_is c)
step_grows ls ss (Number f v) c = either_grows shown (over ls ss (Number f v)) c (option_map (λ w. at ls ss (Number f w)) (more_number v c)) (beyond_step ls ss (numbered f v) c)
    (number_grows shown number_text (λ w. at ls ss (Number f w)) (λ r. levels_onto ls (steps_onto ss (fact_front f (32 ∷ r)))) v c (more_number v c) (λ w r. refl) (more_number_is v c))
    (same_text (over ls ss (Number f v)) (over ls ss (After (numbered f v))) c (beyond_step ls ss (numbered f v) c) (λ r. ap (λ l. levels_onto ls (steps_onto ss l)) (numbered_shown f v r)) (beyond_grows ls ss (numbered f v) c))
step_grows ls ss (FactorDue f) c = either_grows shown (over ls ss (FactorDue f)) c (at_byte c ((45, at ls ss (Minus f)) ∷ [])) (option_map (λ d. at ls ss (Digits f (pos d))) (digit c))
    (byte_grows shown (over ls ss (FactorDue f)) c ((45, at ls ss (Minus f)) ∷ []) (λ r. refl, tt))
    (number_begins shown number_text (λ d. at ls ss (Digits f (pos d))) (λ r. levels_onto ls (steps_onto ss (factor_front f (32 ∷ r)))) [] c (digit c) (λ w r. refl) (first_digit_is c))
step_grows ls ss (Minus f) c = number_begins shown signed_text (λ n. at ls ss (Digits f n)) (λ r. levels_onto ls (steps_onto ss (factor_front f (32 ∷ r)))) (45 ∷ []) c (first_negative c) (λ w r. refl) (first_negative_is c)
step_grows ls ss (Digits f n) c = either_grows shown (over ls ss (Digits f n)) c (option_map (λ m. at ls ss (Digits f m)) (more_integer n c)) (beyond_step ls ss (multiplied f n) c)
    (number_grows shown signed_text (λ m. at ls ss (Digits f m)) (λ r. levels_onto ls (steps_onto ss (factor_front f (32 ∷ r)))) n c (more_integer n c) (λ w r. refl) (more_integer_is n c))
    (same_text (over ls ss (Digits f n)) (over ls ss (After (multiplied f n))) c (beyond_step ls ss (multiplied f n) c) (λ r. ap (λ l. levels_onto ls (steps_onto ss l)) (multiplied_shown f n r)) (beyond_grows ls ss (multiplied f n) c))
step_grows ls ss (CaseOrTerm f) c = either_grows shown (over ls ss (CaseOrTerm f)) c (at_byte c ((91, into ls ss (branch.Case f)) ∷ [])) (in_term ls ss (argument.Condition f) (record { holes = []; cursor = term.Item }) c)
    (byte_grows shown (over ls ss (CaseOrTerm f)) c ((91, into ls ss (branch.Case f)) ∷ []) (λ r. refl, tt))
    (in_term_grows ls ss (argument.Condition f) (record { holes = []; cursor = term.Item }) c)
step_grows ls ss (Inside a st) c = by (nat_eq c 32 || nat_eq c 41)
  where
    by : (b : Bool) → Grows shown (over ls ss (Inside a st)) c (if b then behind_term ls ss a st c (finished st.holes st.cursor) else in_term ls ss a st c)
    by true = behind_term_grows ls ss a st c (finished st.holes st.cursor) (finished_shown st.holes st.cursor)
    by false = in_term_grows ls ss a st c
step_grows ls ss (ChildDue b) c = byte_grows shown (over ls ss (ChildDue b)) c ((91, into ls ss b) ∷ []) (λ r. refl, tt)
step_grows ls ss (After b) c = beyond_grows ls ss b c
step_grows ls ss (Ended p) c = byte_grows shown (over ls ss (Ended p)) c (child_moves ls p) (child_moves_grow ls ss p)
