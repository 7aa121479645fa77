-- The reader reads the text of each proof whose numbers fit their types, and no other's.
use Rattle.std.proofs.Common.{◌≡◌, ℕ, suc, ◌+◌, ◌-◌, ◌*◌, ◌^◌, nat_lt, ℤ, pos, negsuc, Bool, true, false, ◌&&◌, Some, option_map, List, [], ◌∷◌, ◌++◌, refl, ap, sym, ◌∙◌, append_assoc, arith}
use Rattle.std.proofs.lemmas.List.{append-nil}
use Rattle.std.specs.List.{list_all}
use Rattle.std.proofs.lemmas.Bool.Decides.{nat_tests}
use Rattle.logic_core.specs.Tree.{Tree, num, truth, free, bound, linear, mul, read, write, choose, call, negation, all, some, equal, at_most, for_all, exists}
use Rattle.logic_core.specs.Wide.{fits, when}
use Rattle.obligation_text.specs.Numbers.{number_text, signed_text}
use Rattle.obligation_text.proofs.Printed.{onto}
use Rattle.proof_core.specs.Proof.{Step, by_split, by_instantiate, by_skolem, by_replace, by_unfold, by_back, by_differ, by_combine, by_tighten, Proof, proof, Proofs, no_proofs, one_proof, End, by_close, by_cases, by_condition, by_past, by_trichotomy}
use Rattle.proof_core.specs.View.{proofs_of}
use Rattle.proof_text.specs.Text.{proof_text}
use Rattle.proof_text.specs.Reading.{is_number, term_fits, step_fits, steps_fit, proof_fits, end_fits, proofs_fit}
use Rattle.proof_text.specs.Digit.{digit, more_integer}
use Rattle.proof_text.specs.TermStates.{or_else}
use Rattle.proof_text.specs.TermStates.{at as in_holes}
use Rattle.proof_text.specs.States.{numbered, multiplied, given, proved, three_of, at, stepped, next_node, ended, into, beyond_space, beyond_close, beyond_step, start, run}
use Rattle.proof_text.specs.States.{in_term as one_term}
use Rattle.proof_text.specs.declared.term_state.Signed.TheVariants as signed
use Rattle.proof_text.specs.declared.term_state.TermCursor.TheVariants as term
use Rattle.proof_text.specs.declared.node.Fact.{Fact}
use Rattle.proof_text.specs.declared.node.Fact.TheVariants as fact
use Rattle.proof_text.specs.declared.node.Factor.{Factor}
use Rattle.proof_text.specs.declared.node.Factor.TheVariants as factor
use Rattle.proof_text.specs.declared.node.Ways.{Ways}
use Rattle.proof_text.specs.declared.node.Ways.TheVariants as ways
use Rattle.proof_text.specs.declared.node.Argument.{Argument}
use Rattle.proof_text.specs.declared.node.Argument.TheVariants as argument
use Rattle.proof_text.specs.declared.node.Branch.{Branch}
use Rattle.proof_text.specs.declared.node.Branch.TheVariants as branch
use Rattle.proof_text.specs.declared.node.Beyond.TheVariants as beyond
use Rattle.proof_text.specs.declared.node.Level.{Level}
use Rattle.proof_text.specs.declared.state.Cursor.TheVariants.{NodeDue, FactDue, Number, FactorDue, Minus, Digits, CaseOrTerm, After, Ended}
use Rattle.proof_text.specs.declared.state.State.{State}
use Rattle.proof_text.proofs.Printed.{fact_onto, number_onto, named_onto, tuple_onto, step_onto, steps_onto, proof_onto, end_onto, children_onto, put_proof}
use Rattle.proof_text.proofs.NumbersComplete.{two_tests, or_when, digit_of, above_digits, other_byte, no_stop, number_goes, integer_goes, negative_goes, negative_begins, step_at, CountsTo, counts}
use Rattle.proof_text.proofs.Endings.{stop}
use Rattle.proof_text.proofs.TermsComplete.{Follows, no_sign, inner, inside_digit, item_counts, number_reads, term_reads}
use Rattle.proof_text.proofs.StepsShown.{child_onto}

module _ (ls : List Level) (ss : List Step) where
  fact_counts : (f : Fact) → CountsTo 0 (2 ^ 64) (at ls ss (FactDue f)) (λ v. at ls ss (Number f v))
  fact_counts f = record {
    begins = λ d b h. ap (λ o. option_map (λ e. at ls ss (Number f e)) o) (digit_of d h);
    goes = λ v d p h. ap (λ o. or_else (option_map (λ e. at ls ss (Number f e)) o) (beyond_step ls ss (numbered f v) (48 + d))) (number_goes v d p h)
        ∙ ap (λ o. or_else (option_map (λ e. at ls ss (Number f e)) (when (nat_lt (10 * v + d) (2 ^ 64)) (Some (10 * v + d)))) o) (no_stop d (beyond_space ls ss (numbered f v)) (beyond_close ls ss (numbered f v)))
        ∙ or_when (nat_lt (10 * v + d) (2 ^ 64)) (10 * v + d) (λ e. at ls ss (Number f e));
  }

  factor_next : (f : Factor) (n m : ℤ) (t : Bool) (d : ℕ) → more_integer n (48 + d) ≡ when t (Some m) → step_at (at ls ss (Digits f n)) (48 + d) ≡ when t (Some (at ls ss (Digits f m)))
  factor_next f n m t d e = ap (λ o. or_else (option_map (λ k. at ls ss (Digits f k)) o) (beyond_step ls ss (multiplied f n) (48 + d))) e
      ∙ ap (λ o. or_else (option_map (λ k. at ls ss (Digits f k)) (when t (Some m))) o) (no_stop d (beyond_space ls ss (multiplied f n)) (beyond_close ls ss (multiplied f n)))
      ∙ or_when t m (λ k. at ls ss (Digits f k))

  factor_counts : (f : Factor) → CountsTo 0 (2 ^ 127) (at ls ss (FactorDue f)) (λ v. at ls ss (Digits f (pos v)))
  factor_counts f = record {
    begins = λ d b h. ap (λ o. or_else o (option_map (λ e. at ls ss (Digits f (pos e))) (digit (48 + d)))) (no_sign d _)
        ∙ ap (λ o. option_map (λ e. at ls ss (Digits f (pos e))) o) (digit_of d h);
    goes = λ v d p h. factor_next f (pos v) (pos (10 * v + d)) (nat_lt (10 * v + d) (2 ^ 127)) d (integer_goes v d p h);
  }

  minus_counts : (f : Factor) → CountsTo 1 (2 ^ 127 + 1) (at ls ss (Minus f)) (λ v. at ls ss (Digits f (negsuc (v - 1))))
  minus_counts f = record {
    begins = λ d b h. ap (λ o. option_map (λ k. at ls ss (Digits f k)) o) (negative_begins d (omega (arith, b)) h);
    goes = λ v d p h. factor_next f (negsuc (v - 1)) (negsuc (10 * v + d - 1)) (nat_lt (10 * v + d) (2 ^ 127 + 1)) d (negative_goes v d p h);
  }

  factor_reads : (f : Factor) (n : ℤ) (r : List ℕ) → run (at ls ss (FactorDue f)) (signed_text n ++ r) ≡ when (fits n) (run (at ls ss (Digits f n)) r)
  factor_reads f (pos n) r = counts 0 (2 ^ 127) (at ls ss (FactorDue f)) (λ v. at ls ss (Digits f (pos v))) (omega arith) (omega arith) (factor_counts f) n (omega arith) r
  factor_reads f (negsuc m) r = counts 1 (2 ^ 127 + 1) (at ls ss (Minus f)) (λ v. at ls ss (Digits f (negsuc (v - 1)))) (omega arith) (omega arith) (minus_counts f) (suc m) (omega arith) r
      ∙ ap (λ b. when b (run (at ls ss (Digits f (negsuc (suc m - 1)))) r)) (let e : nat_lt (suc m) (2 ^ 127 + 1) ≡ nat_lt m (2 ^ 127) = grind (arith, nat_tests) in e)
      ∙ ap (λ k. when (nat_lt m (2 ^ 127)) (run (at ls ss (Digits f (negsuc k))) r)) (let e : suc m - 1 ≡ m = omega arith in e)

  -- what ends at the byte that follows
  ends_alike : (st u : State) (s : List ℕ) → Follows s → ((b : Bool) (r : List ℕ) → run st (stop b ∷ r) ≡ run u (stop b ∷ r)) → run st s ≡ run u s
  ends_alike st u s f h = ap (run st) f.2 ∙ h f.0 f.1 ∙ sym (ap (run u) f.2)

  fact_alike : (f : Fact) (v : ℕ) (b : Bool) (r : List ℕ) → run (at ls ss (Number f v)) (stop b ∷ r) ≡ run (at ls ss (After (numbered f v))) (stop b ∷ r)
  fact_alike f v true r = refl
  fact_alike f v false r = refl

  factor_alike : (f : Factor) (n : ℤ) (b : Bool) (r : List ℕ) → run (at ls ss (Digits f n)) (stop b ∷ r) ≡ run (at ls ss (After (multiplied f n))) (stop b ∷ r)
  factor_alike f (pos n) true r = refl
  factor_alike f (pos n) false r = refl
  factor_alike f (negsuc n) true r = refl
  factor_alike f (negsuc n) false r = refl

  term_alike : (a : Argument) (t : Tree) (b : Bool) (r : List ℕ) → run (inner ls ss a [] (term.Whole t)) (stop b ∷ r) ≡ run (at ls ss (After (given a t))) (stop b ∷ r)
  term_alike a t true r = refl
  term_alike a t false r = refl

  -- a number, a multiplier and a term, each behind a space
  fact_part : (f : Fact) (v : ℕ) (s : List ℕ) → Follows s → run (at ls ss (After (beyond.Fact f))) (fact_onto v s) ≡ when (is_number v) (run (at ls ss (After (numbered f v))) s)
  fact_part f v s h = counts 0 (2 ^ 64) (at ls ss (FactDue f)) (λ w. at ls ss (Number f w)) (omega arith) (omega arith) (fact_counts f) v (omega arith) s
      ∙ ap (when (is_number v)) (ends_alike (at ls ss (Number f v)) (at ls ss (After (numbered f v))) s h (fact_alike f v))

  factor_part : (f : Factor) (n : ℤ) (s : List ℕ) → Follows s → run (at ls ss (After (beyond.Factor f))) (number_onto n s) ≡ when (fits n) (run (at ls ss (After (multiplied f n))) s)
  factor_part f n s h = factor_reads f n s ∙ ap (when (fits n)) (ends_alike (at ls ss (Digits f n)) (at ls ss (After (multiplied f n))) s h (factor_alike f n))

  item_reads : (a : Argument) (t : Tree) (s : List ℕ) → Follows s → run (inner ls ss a [] term.Item) (onto t s) ≡ when (term_fits t) (run (at ls ss (After (given a t))) s)
  item_reads a t s h = term_reads ls ss a t [] s h ∙ ap (when (term_fits t)) (ends_alike (inner ls ss a [] (term.Whole t)) (at ls ss (After (given a t))) s h (term_alike a t))

  term_part : (a : Argument) (t : Tree) (s : List ℕ) → Follows s → run (at ls ss (After (beyond.Term a))) (named_onto t s) ≡ when (term_fits t) (run (at ls ss (After (given a t))) s)
  term_part a t s h = item_reads a t s h

  tuple_front : (ts : List Tree) (s : List ℕ) → Follows (tuple_onto ts (41 ∷ s))
  tuple_front [] s = (false, s, refl)
  tuple_front (t ∷ ts) s = (true, onto t (tuple_onto ts (41 ∷ s)), refl)

  tuple_part : (ts : List Tree) (f : ℕ) (got : List Tree) (s : List ℕ)
      → run (at ls ss (After (beyond.Instance f got))) (tuple_onto ts (41 ∷ s)) ≡ when (list_all term_fits ts) (run (stepped ls ss (by_instantiate f (got ++ ts))) s)
  tuple_part [] f got s = ap (λ us. run (stepped ls ss (by_instantiate f us)) s) (sym (append-nil got))
  tuple_part (t ∷ ts) f got s = two_tests (term_fits t) (list_all term_fits ts) _ (run (at ls ss (After (beyond.Instance f (got ++ t ∷ [])))) (tuple_onto ts (41 ∷ s))) _
      (item_reads (argument.Instance f got) t (tuple_onto ts (41 ∷ s)) (tuple_front ts s))
      (tuple_part ts f (got ++ t ∷ []) s ∙ ap (λ us. when (list_all term_fits ts) (run (stepped ls ss (by_instantiate f us)) s)) (append_assoc got (t ∷ []) ts))

  -- a fact and a term, and then the node closes
  term_node : (f : Fact) (a : ℕ → Argument) (v : ℕ) (t : Tree) (s : List ℕ) → ((w : ℕ) → numbered f w ≡ beyond.Term (a w))
      → run (at ls ss (After (beyond.Fact f))) (fact_onto v (named_onto t (41 ∷ s))) ≡ when (is_number v && term_fits t) (run (at ls ss (After (given (a v) t))) (41 ∷ s))
  term_node f a v t s e = two_tests (is_number v) (term_fits t) _ (run (at ls ss (After (numbered f v))) (named_onto t (41 ∷ s))) _
      (fact_part f v (named_onto t (41 ∷ s)) (true, onto t (41 ∷ s), refl)) (ap (λ b. run (at ls ss (After b)) (named_onto t (41 ∷ s))) (e v) ∙ term_part (a v) t (41 ∷ s) (false, s, refl))

  step_reads : (x : Step) (r : List ℕ) → run (at ls ss NodeDue) (step_onto x (32 ∷ r)) ≡ when (step_fits x) (run (next_node ls ss x) r)
  step_reads (by_split f) r = fact_part fact.Split f (41 ∷ 32 ∷ r) (false, 32 ∷ r, refl)
  step_reads (by_instantiate f ts) r = two_tests (is_number f) (list_all term_fits ts) _ (run (at ls ss (After (beyond.Instance f []))) (tuple_onto ts (41 ∷ 32 ∷ r))) _
      (fact_part fact.Instance f (tuple_onto ts (41 ∷ 32 ∷ r)) (tuple_front ts (32 ∷ r))) (tuple_part ts f [] (32 ∷ r))
  step_reads (by_skolem f) r = fact_part fact.Skolem f (41 ∷ 32 ∷ r) (false, 32 ∷ r, refl)
  step_reads (by_replace f g t) r = two_tests (is_number f) (is_number g && term_fits t) _ (run (at ls ss (After (beyond.Fact (fact.ReplaceBy f)))) (fact_onto g (named_onto t (41 ∷ 32 ∷ r)))) _
      (fact_part fact.Replace f (fact_onto g (named_onto t (41 ∷ 32 ∷ r))) (true, number_text g ++ named_onto t (41 ∷ 32 ∷ r), refl))
      (term_node (fact.ReplaceBy f) (argument.Replace f) g t (32 ∷ r) (λ w. refl))
  step_reads (by_unfold f t) r = term_node fact.Unfold argument.Unfold f t (32 ∷ r) (λ w. refl)
  step_reads (by_back f t) r = term_node fact.Back argument.Back f t (32 ∷ r) (λ w. refl)
  step_reads (by_differ f) r = fact_part fact.Differ f (41 ∷ 32 ∷ r) (false, 32 ∷ r, refl)
  step_reads (by_combine f p g q) r =
      let last = signed_text q ++ 41 ∷ 32 ∷ r in let third = number_text g ++ 32 ∷ last in let second = signed_text p ++ 32 ∷ third in
      two_tests (is_number f) (fits p && (is_number g && fits q)) _ (run (at ls ss (After (beyond.Factor (factor.First f)))) (32 ∷ second)) _
      (fact_part fact.Combine f (32 ∷ second) (true, second, refl))
      (two_tests (fits p) (is_number g && fits q) _ (run (at ls ss (After (beyond.Fact (fact.CombineBy f p)))) (32 ∷ third)) _
      (factor_part (factor.First f) p (32 ∷ third) (true, third, refl))
      (two_tests (is_number g) (fits q) _ (run (at ls ss (After (beyond.Factor (factor.Second f p g)))) (32 ∷ last)) _
      (fact_part (fact.CombineBy f p) g (32 ∷ last) (true, last, refl))
      (factor_part (factor.Second f p g) q (41 ∷ 32 ∷ r) (false, 32 ∷ r, refl))))
  step_reads (by_tighten f) r = fact_part fact.Tighten f (41 ∷ 32 ∷ r) (false, 32 ∷ r, refl)

  -- the condition of a split begins as a term does
  case_counts : (f : ℕ) → CountsTo 0 (2 ^ 127) (at ls ss (CaseOrTerm f)) (λ v. inner ls ss (argument.Condition f) [] (term.Digits signed.Number (pos v)))
  case_counts f = record {
    begins = λ d b h. ap (λ o. or_else o (one_term ls ss (argument.Condition f) (in_holes [] term.Item) (48 + d))) (other_byte (48 + d) ((91, into ls ss (branch.Case f)) ∷ []) (above_digits d 91 h (omega arith), tt))
        ∙ sym (inside_digit ls ss (argument.Condition f) [] term.Item d) ∙ (item_counts ls ss (argument.Condition f) []).begins d b h;
    goes = λ v d p h. (item_counts ls ss (argument.Condition f) []).goes v d p h;
  }

  case_term : (f : ℕ) (t : Tree) (s : List ℕ) → run (at ls ss (CaseOrTerm f)) (onto t s) ≡ run (inner ls ss (argument.Condition f) [] term.Item) (onto t s)
  case_term f (num (pos n)) s = counts 0 (2 ^ 127) (at ls ss (CaseOrTerm f)) (λ v. inner ls ss (argument.Condition f) [] (term.Digits signed.Number (pos v))) (omega arith) (omega arith) (case_counts f) n (omega arith) s
      ∙ sym (number_reads ls ss (argument.Condition f) [] (pos n) s)
  case_term f (num (negsuc n)) s = refl
  case_term f (truth true) s = refl
  case_term f (truth false) s = refl
  case_term f (free v) s = refl
  case_term f (bound v) s = refl
  case_term f (linear ps c) s = refl
  case_term f (mul x y) s = refl
  case_term f (read x y) s = refl
  case_term f (write x y z) s = refl
  case_term f (choose x y z) s = refl
  case_term f (call g ts) s = refl
  case_term f (negation x) s = refl
  case_term f (all ts) s = refl
  case_term f (some ts) s = refl
  case_term f (equal x y) s = refl
  case_term f (at_most x y) s = refl
  case_term f (for_all ks ps t) s = refl
  case_term f (exists ks ps t) s = refl

steps_read : (xs : List Step) (ls : List Level) (ss : List Step) (r : List ℕ) → run (at ls ss NodeDue) (steps_onto xs r) ≡ when (steps_fit xs) (run (at ls (ss ++ xs) NodeDue) r)
steps_read [] ls ss r = ap (λ us. run (at ls us NodeDue) r) (sym (append-nil ss))
steps_read (x ∷ xs) ls ss r = two_tests (step_fits x) (steps_fit xs) _ (run (next_node ls ss x) (steps_onto xs r)) _ (step_reads ls ss x (steps_onto xs r))
    (steps_read xs ls (ss ++ x ∷ []) r ∙ ap (λ us. when (steps_fit xs) (run (at ls us NodeDue) r)) (append_assoc ss (x ∷ []) xs))

abbrev proofs_list : Proofs → List Proof
proofs_list no_proofs = []
proofs_list (one_proof p ps) = p ∷ proofs_list ps

same_proofs : (ps : Proofs) → proofs_of (proofs_list ps) ≡ ps
same_proofs no_proofs = refl
same_proofs (one_proof p ps) = ap (one_proof p) (same_proofs ps)

children_front : (ps : Proofs) (s : List ℕ) → Follows (children_onto ps (41 ∷ s))
children_front no_proofs s = (false, s, refl)
children_front (one_proof p ps) s = (true, 91 ∷ proof_onto p (93 ∷ children_onto ps (41 ∷ s)), refl)

abbrev Reads : Proof → Type 0
Reads p = (ls : List Level) (s : List ℕ) → run (at ls [] NodeDue) (proof_onto p s) ≡ when (proof_fits p) (run (at ls [] (Ended p)) s)

child_part : (ls : List Level) (ss : List Step) (b : Branch) (p : Proof) (s : List ℕ) → Reads p → run (at ls ss (After (beyond.Child b))) (child_onto p s) ≡ when (proof_fits p) (run (at ls ss (After (proved b p))) s)
child_part ls ss b p s h = h (record { steps = ss; branch = b } ∷ ls) (93 ∷ s)

three_part : (ls : List Level) (ss : List Step) (w : Ways) (t : Tree) (p q o : Proof) (s : List ℕ) → Reads p → Reads q → Reads o
    → run (at ls ss (After (beyond.Term (argument.Three w)))) (named_onto t (child_onto p (child_onto q (child_onto o (41 ∷ s)))))
    ≡ when (term_fits t && (proof_fits p && (proof_fits q && proof_fits o))) (run (ended ls ss (three_of w t p q o)) s)
three_part ls ss w t p q o s rp rq ro =
    let third = child_onto o (41 ∷ s) in let second = child_onto q third in let first = child_onto p second in
    two_tests (term_fits t) (proof_fits p && (proof_fits q && proof_fits o)) _ (run (at ls ss (After (beyond.Child (branch.Below w t)))) first) _
    (term_part ls ss (argument.Three w) t first (true, 91 ∷ proof_onto p (93 ∷ second), refl))
    (two_tests (proof_fits p) (proof_fits q && proof_fits o) _ (run (at ls ss (After (beyond.Child (branch.Same w t p)))) second) _
    (child_part ls ss (branch.Below w t) p second rp)
    (two_tests (proof_fits q) (proof_fits o) _ (run (at ls ss (After (beyond.Child (branch.Above w t p q)))) third) _
    (child_part ls ss (branch.Same w t p) q third rq)
    (child_part ls ss (branch.Above w t p q) o (41 ∷ s) ro)))

mutual
  pub proof_reads : (p : Proof) → Reads p
  proof_reads (proof xs e) ls s = two_tests (steps_fit xs) (end_fits e) _ (run (at ls xs NodeDue) (end_onto e s)) _ (steps_read xs ls [] (end_onto e s)) (end_reads e ls xs s)

  end_reads : (e : End) (ls : List Level) (ss : List Step) (s : List ℕ) → run (at ls ss NodeDue) (end_onto e s) ≡ when (end_fits e) (run (ended ls ss e) s)
  end_reads (by_close f g) ls ss s = two_tests (is_number f) (is_number g) _ (run (at ls ss (After (beyond.Fact (fact.CloseBy f)))) (fact_onto g (41 ∷ s))) _
      (fact_part ls ss fact.Close f (fact_onto g (41 ∷ s)) (true, number_text g ++ 41 ∷ s, refl)) (fact_part ls ss (fact.CloseBy f) g (41 ∷ s) (false, s, refl))
  end_reads (by_cases f p ps) ls ss s =
      let others = children_onto ps (41 ∷ s) in
      two_tests (is_number f) (proof_fits p && proofs_fit ps) _ (run (at ls ss (After (beyond.Split f))) (child_onto p others)) _
      (fact_part ls ss fact.Split f (child_onto p others) (true, 91 ∷ proof_onto p (93 ∷ others), refl))
      (two_tests (proof_fits p) (proofs_fit ps) _ (run (at ls ss (After (beyond.Cases f p []))) others) _
      (proof_reads p (record { steps = ss; branch = branch.Case f } ∷ ls) (93 ∷ others))
      (children_read ps f p [] ls ss s ∙ ap (λ qs. when (proofs_fit ps) (run (ended ls ss (by_cases f p qs)) s)) (same_proofs ps)))
  end_reads (by_condition f t p q) ls ss s =
      let second = child_onto q (41 ∷ s) in let first = child_onto p second in
      two_tests (is_number f) (term_fits t && (proof_fits p && proof_fits q)) _ (run (at ls ss (After (beyond.Split f))) (named_onto t first)) _
      (fact_part ls ss fact.Split f (named_onto t first) (true, onto t first, refl))
      (two_tests (term_fits t) (proof_fits p && proof_fits q) _ (run (at ls ss (After (beyond.Child (branch.Then f t)))) first) _
      (case_term ls ss f t first ∙ item_reads ls ss (argument.Condition f) t first (true, 91 ∷ proof_onto p (93 ∷ second), refl))
      (two_tests (proof_fits p) (proof_fits q) _ (run (at ls ss (After (beyond.Child (branch.Else f t p)))) second) _
      (child_part ls ss (branch.Then f t) p second (proof_reads p)) (child_part ls ss (branch.Else f t p) q (41 ∷ s) (proof_reads q))))
  end_reads (by_past t p q o) ls ss s = three_part ls ss ways.Past t p q o s (proof_reads p) (proof_reads q) (proof_reads o)
  end_reads (by_trichotomy t p q o) ls ss s = three_part ls ss ways.Trichotomy t p q o s (proof_reads p) (proof_reads q) (proof_reads o)

  children_read : (ps : Proofs) (f : ℕ) (p : Proof) (got : List Proof) (ls : List Level) (ss : List Step) (s : List ℕ)
      → run (at ls ss (After (beyond.Cases f p got))) (children_onto ps (41 ∷ s)) ≡ when (proofs_fit ps) (run (ended ls ss (by_cases f p (proofs_of (got ++ proofs_list ps)))) s)
  children_read no_proofs f p got ls ss s = ap (λ qs. run (ended ls ss (by_cases f p (proofs_of qs))) s) (sym (append-nil got))
  children_read (one_proof q qs) f p got ls ss s = two_tests (proof_fits q) (proofs_fit qs) _ (run (at ls ss (After (beyond.Cases f p (got ++ q ∷ [])))) (children_onto qs (41 ∷ s))) _
      (proof_reads q (record { steps = ss; branch = branch.OtherCase f p got } ∷ ls) (93 ∷ children_onto qs (41 ∷ s)))
      (children_read qs f p (got ++ q ∷ []) ls ss s ∙ ap (λ us. when (proofs_fit qs) (run (ended ls ss (by_cases f p (proofs_of us))) s)) (append_assoc got (q ∷ []) (proofs_list qs)))

-- the whole text
pub text_reads : (p : Proof) → run start (proof_text p) ≡ when (proof_fits p) (Some (at [] [] (Ended p)))
text_reads p = ap (run start) (sym (append-nil (proof_text p)) ∙ (put_proof p).puts []) ∙ proof_reads p [] []
