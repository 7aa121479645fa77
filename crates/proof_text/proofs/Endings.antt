-- From each state of a proof's reader some bytes lead to the end of a proof.
use Rattle.std.proofs.Common.{◌≡◌, ℕ, ℤ, pos, negsuc, Bool, true, false, Option, None, Some, List, [], ◌∷◌, ◌++◌, codes, refl, ap, ◌∙◌}
use Rattle.logic_core.specs.Tree.{int, Tree, num, truth, free, bound, linear, call, negation, at_most, no_trees}
use Rattle.logic_core.specs.View.{parts_of}
use Rattle.logic_core.specs.Wide.{◌>>=◌}
use Rattle.proof_core.specs.Proof.{Step, by_split, by_instantiate, Proof, proof, End, by_close, by_cases, by_condition}
use Rattle.proof_core.specs.View.{proofs_of}
use Rattle.proof_text.specs.TermStates.{full_of, many_of, nested, completed, filled}
use Rattle.proof_text.specs.TermStates.{at as in_holes}
use Rattle.proof_text.specs.States.{proved, three_of, at, inside, stepped, ended, step, run}
use Rattle.proof_text.specs.declared.hole.Hole.{Hole}
use Rattle.proof_text.specs.declared.hole.Hole.TheVariants as hole
use Rattle.proof_text.specs.declared.hole.Full.TheVariants as full
use Rattle.proof_text.specs.declared.hole.Behind.{Behind}
use Rattle.proof_text.specs.declared.hole.Behind.TheVariants as behind
use Rattle.proof_text.specs.declared.term_state.Letter.TheVariants as letter
use Rattle.proof_text.specs.declared.term_state.Signed.TheVariants as signed
use Rattle.proof_text.specs.declared.term_state.TermCursor.{TermCursor}
use Rattle.proof_text.specs.declared.term_state.TermCursor.TheVariants as term
use Rattle.proof_text.specs.declared.node.Fact.{Fact}
use Rattle.proof_text.specs.declared.node.Fact.TheVariants as fact
use Rattle.proof_text.specs.declared.node.Factor.{Factor}
use Rattle.proof_text.specs.declared.node.Factor.TheVariants as factor
use Rattle.proof_text.specs.declared.node.Argument.{Argument}
use Rattle.proof_text.specs.declared.node.Argument.TheVariants as argument
use Rattle.proof_text.specs.declared.node.Branch.{Branch}
use Rattle.proof_text.specs.declared.node.Branch.TheVariants as branch
use Rattle.proof_text.specs.declared.node.Beyond.{Beyond}
use Rattle.proof_text.specs.declared.node.Beyond.TheVariants as beyond
use Rattle.proof_text.specs.declared.node.Level.{Level}
use Rattle.proof_text.specs.declared.state.Cursor.{Cursor}
use Rattle.proof_text.specs.declared.state.Cursor.TheVariants.{NodeDue, NodeOpened, StepDone, FactDue, Number, FactorDue, Minus, Digits, CaseOrTerm, Inside, ChildDue, After, Ended}
use Rattle.proof_text.specs.declared.state.State.{State}

-- a byte behind which a term or a number has ended
abbrev pub stop : Bool → ℕ
stop true = 32
stop false = 41

pub run_append : (st : State) (a b : List ℕ) → run st (a ++ b) ≡ (run st a >>= (λ u. run u b))
run_append st [] b = refl
run_append st (c ∷ a) b = by (step st.levels st.steps st.cursor c) (λ u. run_append u a b)
  where
    by : (o : Option State) → ((u : State) → run u (a ++ b) ≡ (run u a >>= (λ v. run v b))) → (o >>= (λ u. run u (a ++ b))) ≡ ((o >>= (λ u. run u a)) >>= (λ v. run v b))
    by None h = refl
    by (Some u) h = h u

pub record Ends (st : State) : Type 0 where
  pub rest : List ℕ
  pub steps : List Step
  pub proof : Proof
  pub runs : run st rest ≡ Some (at [] steps (Ended proof))

pub record EndsBehind (st : State) : Type 0 where
  pub space : Bool
  pub more : List ℕ
  pub steps : List Step
  pub proof : Proof
  pub runs : run st (stop space ∷ more) ≡ Some (at [] steps (Ended proof))

ends_by : (st : State) (a : List ℕ) (u : State) → run st a ≡ Some u → Ends u → Ends st
ends_by st a u e h = record { rest = a ++ h.rest; steps = h.steps; proof = h.proof; runs = run_append st a h.rest ∙ ap (λ o. o >>= (λ v. run v h.rest)) e ∙ h.runs }

behind_by : (st : State) (b : Bool) (a : List ℕ) (u : State) → run st (stop b ∷ a) ≡ Some u → Ends u → EndsBehind st
behind_by st b a u e h = record { space = b; more = a ++ h.rest; steps = h.steps; proof = h.proof; runs = run_append st (stop b ∷ a) h.rest ∙ ap (λ o. o >>= (λ v. run v h.rest)) e ∙ h.runs }

ends : (st : State) → EndsBehind st → Ends st
ends st h = record { rest = stop h.space ∷ h.more; steps = h.steps; proof = h.proof; runs = h.runs }

-- where another state runs alike
alike : (st u : State) → ((b : Bool) (more : List ℕ) → run st (stop b ∷ more) ≡ run u (stop b ∷ more)) → EndsBehind u → Ends st
alike st u e h = record { rest = stop h.space ∷ h.more; steps = h.steps; proof = h.proof; runs = e h.space h.more ∙ h.runs }

module _ (ls : List Level) (ss : List Step) (a : Argument) where
  abbrev pub in_term : List Hole → TermCursor → State
  in_term hs c = inside ls ss a (in_holes hs c)

  abbrev pub behind_term : List Hole → Tree → State
  behind_term hs t = inside ls ss a (completed hs t)

  -- a number that ends is a complete term
  pub whole_alike : (hs : List Hole) (t : Tree) (b : Bool) (more : List ℕ) → run (in_term hs (term.Whole t)) (stop b ∷ more) ≡ run (behind_term hs t) (stop b ∷ more)
  whole_alike [] t b more = refl
  whole_alike (h ∷ hs) t true more = refl
  whole_alike (h ∷ hs) t false more = refl

  pub free_alike : (hs : List Hole) (v : ℕ) (b : Bool) (more : List ℕ) → run (in_term hs (term.Lettered letter.Free v)) (stop b ∷ more) ≡ run (behind_term hs (free v)) (stop b ∷ more)
  free_alike [] v true more = refl
  free_alike [] v false more = refl
  free_alike (h ∷ hs) v true more = refl
  free_alike (h ∷ hs) v false more = refl

  pub bound_alike : (hs : List Hole) (v : ℕ) (b : Bool) (more : List ℕ) → run (in_term hs (term.Lettered letter.Bound v)) (stop b ∷ more) ≡ run (behind_term hs (bound v)) (stop b ∷ more)
  bound_alike [] v true more = refl
  bound_alike [] v false more = refl
  bound_alike (h ∷ hs) v true more = refl
  bound_alike (h ∷ hs) v false more = refl

  pub number_alike : (hs : List Hole) (n : ℤ) (b : Bool) (more : List ℕ) → run (in_term hs (term.Digits signed.Number n)) (stop b ∷ more) ≡ run (behind_term hs (num n)) (stop b ∷ more)
  number_alike [] n true more = refl
  number_alike [] n false more = refl
  number_alike (h ∷ hs) n true more = refl
  number_alike (h ∷ hs) n false more = refl

module _ (ls : List Level) (ss : List Step) (k : (p : Proof) → Ends (at ls [] (Ended p))) where
  ends_end : (e : End) → Ends (ended ls ss e)
  ends_end e = k (proof ss e)

  ends_node : Ends (at ls ss NodeDue)
  ends_node = ends_by (at ls ss NodeDue) (codes "(c 0 0)") (ended ls ss (by_close 0 0)) refl (ends_end (by_close 0 0))

  ends_step : (s : Step) → Ends (at ls ss (StepDone s))
  ends_step s = ends_by (at ls ss (StepDone s)) (codes " (c 0 0)") (ended ls (ss ++ s ∷ []) (by_close 0 0)) refl (k (proof (ss ++ s ∷ []) (by_close 0 0)))

  ends_child : (b : Branch) → EndsBehind (at ls ss (After (beyond.Child b)))
  ends_child (branch.Case f) = behind_by (at ls ss (After (beyond.Child (branch.Case f)))) true (codes "[(c 0 0)])") (ended ls ss (by_cases f (proof [] (by_close 0 0)) (proofs_of []))) refl (ends_end _)
  ends_child (branch.OtherCase f p ps) = behind_by (at ls ss (After (beyond.Child (branch.OtherCase f p ps)))) true (codes "[(c 0 0)])") (ended ls ss (by_cases f p (proofs_of (ps ++ proof [] (by_close 0 0) ∷ [])))) refl (ends_end _)
  ends_child (branch.Then f t) = behind_by (at ls ss (After (beyond.Child (branch.Then f t)))) true (codes "[(c 0 0)] [(c 0 0)])") (ended ls ss (by_condition f t (proof [] (by_close 0 0)) (proof [] (by_close 0 0)))) refl (ends_end _)
  ends_child (branch.Else f t p) = behind_by (at ls ss (After (beyond.Child (branch.Else f t p)))) true (codes "[(c 0 0)])") (ended ls ss (by_condition f t p (proof [] (by_close 0 0)))) refl (ends_end _)
  ends_child (branch.Below w t) = behind_by (at ls ss (After (beyond.Child (branch.Below w t)))) true (codes "[(c 0 0)] [(c 0 0)] [(c 0 0)])") (ended ls ss (three_of w t (proof [] (by_close 0 0)) (proof [] (by_close 0 0)) (proof [] (by_close 0 0)))) refl (ends_end _)
  ends_child (branch.Same w t p) = behind_by (at ls ss (After (beyond.Child (branch.Same w t p)))) true (codes "[(c 0 0)] [(c 0 0)])") (ended ls ss (three_of w t p (proof [] (by_close 0 0)) (proof [] (by_close 0 0)))) refl (ends_end _)
  ends_child (branch.Above w t p q) = behind_by (at ls ss (After (beyond.Child (branch.Above w t p q)))) true (codes "[(c 0 0)])") (ended ls ss (three_of w t p q (proof [] (by_close 0 0)))) refl (ends_end _)

  ends_whole : (a : Argument) (t : Tree) → EndsBehind (inside ls ss a (in_holes [] (term.Whole t)))
  ends_whole (argument.Instance f ts) t = behind_by _ false [] (stepped ls ss (by_instantiate f (ts ++ t ∷ []))) refl (ends_step _)
  ends_whole (argument.Replace f g) t = behind_by _ false [] (stepped ls ss _) refl (ends_step _)
  ends_whole (argument.Unfold f) t = behind_by _ false [] (stepped ls ss _) refl (ends_step _)
  ends_whole (argument.Back f) t = behind_by _ false [] (stepped ls ss _) refl (ends_step _)
  ends_whole (argument.Condition f) t = behind_by _ true (codes "[(c 0 0)] [(c 0 0)])") (ended ls ss (by_condition f t (proof [] (by_close 0 0)) (proof [] (by_close 0 0)))) refl (ends_end _)
  ends_whole (argument.Three w) t = behind_by _ true (codes "[(c 0 0)] [(c 0 0)] [(c 0 0)])") (ended ls ss (three_of w t (proof [] (by_close 0 0)) (proof [] (by_close 0 0)) (proof [] (by_close 0 0)))) refl (ends_end _)

  module _ (a : Argument) where
    -- the space and the hole, and a term in it
    ends_hole : (hs : List Hole) (h : Hole) → ((t : Tree) → EndsBehind (behind_term ls ss a hs t)) → EndsBehind (in_term ls ss a hs (term.After (behind.Space h)))
    ends_hole hs hole.Not f = behind_by _ true (codes "T)") (behind_term ls ss a hs (full_of (full.Not (truth true)))) refl (ends _ (f _))
    ends_hole hs (hole.Left p) f = behind_by _ true (codes "T T)") (behind_term ls ss a hs (full_of (full.Pair p (truth true) (truth true)))) refl (ends _ (f _))
    ends_hole hs (hole.Right p x) f = behind_by _ true (codes "T)") (behind_term ls ss a hs (full_of (full.Pair p x (truth true)))) refl (ends _ (f _))
    ends_hole hs (hole.First q) f = behind_by _ true (codes "T T T)") (behind_term ls ss a hs (full_of (full.Triple q (truth true) (truth true) (truth true)))) refl (ends _ (f _))
    ends_hole hs (hole.Second q x) f = behind_by _ true (codes "T T)") (behind_term ls ss a hs (full_of (full.Triple q x (truth true) (truth true)))) refl (ends _ (f _))
    ends_hole hs (hole.Third q x y) f = behind_by _ true (codes "T)") (behind_term ls ss a hs (full_of (full.Triple q x y (truth true)))) refl (ends _ (f _))
    ends_hole hs (hole.Member m ts) f = behind_by _ true (codes "T)") (behind_term ls ss a hs (many_of m (ts ++ truth true ∷ []))) refl (ends _ (f _))
    ends_hole hs (hole.Scaled ps n) f = behind_by _ true (codes "T 0)") (behind_term ls ss a hs (linear (parts_of (ps ++ (n, truth true) ∷ [])) (pos 0))) refl (ends _ (f _))
    ends_hole hs (hole.Body b ks ps) f = behind_by _ true (codes "T)") (behind_term ls ss a hs (full_of (full.Quantifier b ks ps (truth true)))) refl (ends _ (f _))
    ends_hole hs (hole.Pattern b ks ps ts) f = behind_by _ true (codes "T) T)") (behind_term ls ss a hs (full_of (full.Quantifier b ks (ps ++ (ts ++ truth true ∷ []) ∷ []) (truth true)))) refl (ends _ (f _))

    ends_part : (hs : List Hole) (b : Behind) → ((t : Tree) → EndsBehind (behind_term ls ss a hs t)) → EndsBehind (in_term ls ss a hs (term.After b))
    ends_part hs (behind.Space h) f = ends_hole hs h f
    ends_part hs (behind.Close u) f = behind_by _ false [] (behind_term ls ss a hs (full_of u)) refl (ends _ (f _))
    ends_part hs (behind.Many m ts) f = behind_by _ false [] (behind_term ls ss a hs (many_of m ts)) refl (ends _ (f _))
    ends_part hs (behind.Parts ps) f = behind_by _ true (codes "0)") (behind_term ls ss a hs (linear (parts_of ps) (pos 0))) refl (ends _ (f _))
    ends_part hs (behind.Sum ps n) f = behind_by _ false [] (behind_term ls ss a hs (linear (parts_of ps) n)) refl (ends _ (f _))
    ends_part hs (behind.Sorts b) f = behind_by _ true (codes "- T)") (behind_term ls ss a hs (full_of (full.Quantifier b [] [] (truth true)))) refl (ends _ (f _))
    ends_part hs (behind.Pattern b ks ps ts) f = behind_by _ false (codes " T)") (behind_term ls ss a hs (full_of (full.Quantifier b ks (ps ++ ts ∷ []) (truth true)))) refl (ends _ (f _))

    ends_completed : (hs : List Hole) (t : Tree) → EndsBehind (behind_term ls ss a hs t)
    ends_completed [] t = ends_whole a t
    ends_completed (h ∷ hs) t = ends_part hs (filled h t) (ends_completed hs)

    ends_inside : (hs : List Hole) (c : TermCursor) → Ends (in_term ls ss a hs c)
    ends_inside hs term.Item = ends_by _ (codes "T") (behind_term ls ss a hs (truth true)) refl (ends _ (ends_completed hs _))
    ends_inside hs term.Opened = ends_by _ (codes "! T)") (behind_term ls ss a hs (negation (truth true))) refl (ends _ (ends_completed hs _))
    ends_inside hs term.Less = ends_by _ (codes "= T T)") (behind_term ls ss a hs (at_most (truth true) (truth true))) refl (ends _ (ends_completed hs _))
    ends_inside hs (term.Due letter.Free) = ends_by _ (codes "0") (in_term ls ss a hs (term.Lettered letter.Free 0)) refl (alike _ (behind_term ls ss a hs (free 0)) (free_alike ls ss a hs 0) (ends_completed hs _))
    ends_inside hs (term.Due letter.Bound) = ends_by _ (codes "0") (in_term ls ss a hs (term.Lettered letter.Bound 0)) refl (alike _ (behind_term ls ss a hs (bound 0)) (bound_alike ls ss a hs 0) (ends_completed hs _))
    ends_inside hs (term.Due letter.Call) = ends_by _ (codes "0)") (behind_term ls ss a hs (call 0 no_trees)) refl (ends _ (ends_completed hs _))
    ends_inside hs (term.Lettered letter.Free v) = alike _ (behind_term ls ss a hs (free v)) (free_alike ls ss a hs v) (ends_completed hs _)
    ends_inside hs (term.Lettered letter.Bound v) = alike _ (behind_term ls ss a hs (bound v)) (bound_alike ls ss a hs v) (ends_completed hs _)
    ends_inside hs (term.Lettered letter.Call v) = ends_by _ (codes ")") (behind_term ls ss a hs (call v no_trees)) refl (ends _ (ends_completed hs _))
    ends_inside hs (term.SignedDue signed.Number) = ends_by _ (codes "0") (in_term ls ss a hs (term.Digits signed.Number (pos 0))) refl (alike _ (behind_term ls ss a hs (num (pos 0))) (number_alike ls ss a hs (pos 0)) (ends_completed hs _))
    ends_inside hs (term.SignedDue (signed.Coefficient ps)) = ends_by _ (codes "0)") (behind_term ls ss a hs (linear (parts_of ps) (pos 0))) refl (ends _ (ends_completed hs _))
    ends_inside hs (term.Minus signed.Number) = ends_by _ (codes "1") (in_term ls ss a hs (term.Digits signed.Number (negsuc 0))) refl (alike _ (behind_term ls ss a hs (num (negsuc 0))) (number_alike ls ss a hs (negsuc 0)) (ends_completed hs _))
    ends_inside hs (term.Minus (signed.Coefficient ps)) = ends_by _ (codes "1)") (behind_term ls ss a hs (linear (parts_of ps) (negsuc 0))) refl (ends _ (ends_completed hs _))
    ends_inside hs (term.Digits signed.Number n) = alike _ (behind_term ls ss a hs (num n)) (number_alike ls ss a hs n) (ends_completed hs _)
    ends_inside hs (term.Digits (signed.Coefficient ps) n) = ends_by _ (codes ")") (behind_term ls ss a hs (linear (parts_of ps) n)) refl (ends _ (ends_completed hs _))
    ends_inside hs (term.Sorts b [] m) = ends_by _ (codes "i T)") (behind_term ls ss a hs (full_of (full.Quantifier b (nested m int ∷ []) [] (truth true)))) refl (ends _ (ends_completed hs _))
    ends_inside hs (term.Sorts b (s ∷ ks) m) = ends_by _ (codes "i T)") (behind_term ls ss a hs (full_of (full.Quantifier b (s ∷ ks ++ nested m int ∷ []) [] (truth true)))) refl (ends _ (ends_completed hs _))
    ends_inside hs (term.After b) = ends _ (ends_part hs b (ends_completed hs))
    ends_inside hs (term.Whole t) = alike _ (behind_term ls ss a hs t) (whole_alike ls ss a hs t) (ends_completed hs t)

  ends_fact : (f : Fact) (v : ℕ) → Ends (at ls ss (Number f v))
  ends_fact fact.Close v = ends_by _ (codes " 0)") (ended ls ss (by_close v 0)) refl (ends_end _)
  ends_fact (fact.CloseBy f) v = ends_by _ (codes ")") (ended ls ss (by_close f v)) refl (ends_end _)
  ends_fact fact.Split v = ends_by _ (codes ")") (stepped ls ss (by_split v)) refl (ends_step _)
  ends_fact fact.Instance v = ends_by _ (codes ")") (stepped ls ss (by_instantiate v [])) refl (ends_step _)
  ends_fact fact.Skolem v = ends_by _ (codes ")") (stepped ls ss _) refl (ends_step _)
  ends_fact fact.Differ v = ends_by _ (codes ")") (stepped ls ss _) refl (ends_step _)
  ends_fact fact.Tighten v = ends_by _ (codes ")") (stepped ls ss _) refl (ends_step _)
  ends_fact fact.Replace v = ends_by _ (codes " 0 T)") (stepped ls ss _) refl (ends_step _)
  ends_fact (fact.ReplaceBy f) v = ends_by _ (codes " T)") (stepped ls ss _) refl (ends_step _)
  ends_fact fact.Unfold v = ends_by _ (codes " T)") (stepped ls ss _) refl (ends_step _)
  ends_fact fact.Back v = ends_by _ (codes " T)") (stepped ls ss _) refl (ends_step _)
  ends_fact fact.Combine v = ends_by _ (codes " 0 0 0)") (stepped ls ss _) refl (ends_step _)
  ends_fact (fact.CombineBy f p) v = ends_by _ (codes " 0)") (stepped ls ss _) refl (ends_step _)

  ends_factor : (f : Factor) (n : ℤ) → Ends (at ls ss (Digits f n))
  ends_factor (factor.First f) n = ends_by _ (codes " 0 0)") (stepped ls ss _) refl (ends_step _)
  ends_factor (factor.Second f p g) n = ends_by _ (codes ")") (stepped ls ss _) refl (ends_step _)

  ends_beyond : (b : Beyond) → Ends (at ls ss (After b))
  ends_beyond (beyond.Fact f) = ends_by _ (codes " 0") (at ls ss (Number f 0)) refl (ends_fact f 0)
  ends_beyond (beyond.Factor f) = ends_by _ (codes " 0") (at ls ss (Digits f (pos 0))) refl (ends_factor f (pos 0))
  ends_beyond (beyond.Term a) = ends_by _ (codes " T") (inside ls ss a (in_holes [] (term.Whole (truth true)))) refl (ends _ (ends_whole a (truth true)))
  ends_beyond (beyond.Child b) = ends _ (ends_child b)
  ends_beyond (beyond.Step s) = ends_by _ (codes ")") (stepped ls ss s) refl (ends_step s)
  ends_beyond (beyond.Split f) = ends_by _ (codes ")") (stepped ls ss (by_split f)) refl (ends_step _)
  ends_beyond (beyond.Instance f ts) = ends_by _ (codes ")") (stepped ls ss (by_instantiate f ts)) refl (ends_step _)
  ends_beyond (beyond.Cases f p ps) = ends_by _ (codes ")") (ended ls ss (by_cases f p (proofs_of ps))) refl (ends_end _)
  ends_beyond (beyond.Close f g) = ends_by _ (codes ")") (ended ls ss (by_close f g)) refl (ends_end _)
  ends_beyond (beyond.Condition f t p q) = ends_by _ (codes ")") (ended ls ss (by_condition f t p q)) refl (ends_end _)
  ends_beyond (beyond.Three w t p q o) = ends_by _ (codes ")") (ended ls ss (three_of w t p q o)) refl (ends_end _)

-- each proof that has been read, in whatever children
pub ends_proved : (ls : List Level) (p : Proof) → Ends (at ls [] (Ended p))
ends_proved [] p = record { rest = []; steps = []; proof = p; runs = refl }
ends_proved (l ∷ ls) p = ends_by (at (l ∷ ls) [] (Ended p)) (codes "]") (at ls l.steps (After (proved l.branch p))) refl (ends_beyond ls l.steps (ends_proved ls) (proved l.branch p))

pub ends_all : (ls : List Level) (ss : List Step) (c : Cursor) → Ends (at ls ss c)
ends_all ls ss NodeDue = ends_node ls ss (ends_proved ls)
ends_all ls ss NodeOpened = ends_by _ (codes "c 0 0)") (ended ls ss (by_close 0 0)) refl (ends_end ls ss (ends_proved ls) _)
ends_all ls ss (StepDone s) = ends_step ls ss (ends_proved ls) s
ends_all ls ss (FactDue f) = ends_by _ (codes "0") (at ls ss (Number f 0)) refl (ends_fact ls ss (ends_proved ls) f 0)
ends_all ls ss (Number f v) = ends_fact ls ss (ends_proved ls) f v
ends_all ls ss (FactorDue f) = ends_by _ (codes "0") (at ls ss (Digits f (pos 0))) refl (ends_factor ls ss (ends_proved ls) f (pos 0))
ends_all ls ss (Minus f) = ends_by _ (codes "1") (at ls ss (Digits f (negsuc 0))) refl (ends_factor ls ss (ends_proved ls) f (negsuc 0))
ends_all ls ss (Digits f n) = ends_factor ls ss (ends_proved ls) f n
ends_all ls ss (CaseOrTerm f) = ends_by _ (codes "[(c 0 0)])") (ended ls ss (by_cases f (proof [] (by_close 0 0)) (proofs_of []))) refl (ends_end ls ss (ends_proved ls) _)
ends_all ls ss (Inside a st) = ends_inside ls ss (ends_proved ls) a st.holes st.cursor
ends_all ls ss (ChildDue b) = ends_by _ (codes "[(c 0 0)") (ended (record { steps = ss; branch = b } ∷ ls) [] (by_close 0 0)) refl (ends_proved (record { steps = ss; branch = b } ∷ ls) _)
ends_all ls ss (After b) = ends_beyond ls ss (ends_proved ls) b
ends_all [] ss (Ended p) = record { rest = []; steps = ss; proof = p; runs = refl }
ends_all (l ∷ ls) ss (Ended p) = ends_by _ (codes "]") (at ls l.steps (After (proved l.branch p))) refl (ends_beyond ls l.steps (ends_proved ls) (proved l.branch p))
