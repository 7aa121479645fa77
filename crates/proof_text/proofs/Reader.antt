-- What the state behind some bytes says of them.
use Rattle.std.proofs.Common.{◌≡◌, ℕ, ◌+◌, ◌<◌, ◌≤◌, Bool, true, false, IsTrue, Option, None, Some, List, [], ◌∷◌, ◌++◌, length, take, drop, get_or, refl, ap, sym, ◌∙◌, subst, append_assoc, arith}
use Rattle.std.proofs.lemmas.List.{append-nil, take-append-drop, take_more, length-take, take_all}
use Rattle.logic_core.specs.Wide.{◌>>=◌, when}
use Rattle.proof_core.specs.Proof.{Step, Proof}
use Rattle.proof_text.specs.Text.{proof_text}
use Rattle.proof_text.specs.Reading.{proof_fits, Spells, BeginsOne, IsBadAt, OneProofATextHas}
use Rattle.proof_text.specs.States.{at, step, start, run, read_proof}
use Rattle.proof_text.specs.declared.node.Level.{Level}
use Rattle.proof_text.specs.declared.state.Cursor.{Cursor}
use Rattle.proof_text.specs.declared.state.Cursor.TheVariants.{NodeDue, NodeOpened, StepDone, FactDue, Number, FactorDue, Minus, Digits, CaseOrTerm, Inside, ChildDue, After, Ended}
use Rattle.proof_text.specs.declared.state.State.{State}
use Rattle.proof_text.proofs.Printed.{proof_onto, put_proof}
use Rattle.proof_text.proofs.NumbersComplete.{step_at}
use Rattle.proof_text.proofs.TermsShown.{Grows}
use Rattle.proof_text.proofs.StepsShown.{shown, step_grows}
use Rattle.proof_text.proofs.Endings.{run_append, ends_all}
use Rattle.proof_text.proofs.ProofsComplete.{text_reads}
use Rattle.proof_text.proofs.BadPlaces.{bad_at, unfinished}

some_same : {A : Type 0} (a b : A) → Some a ≡ Some b → a ≡ b
some_same a b e = cc

-- a state's text is what was read
run_shown : (st : State) (bs : List ℕ) (u : State) → run st bs ≡ Some u → (r : List ℕ) → shown u r ≡ shown st (bs ++ r)
run_shown st [] u e r = ap (λ x. shown x r) (sym (some_same st u e))
run_shown st (c ∷ bs) u e r = by (step st.levels st.steps st.cursor c) (step_grows st.levels st.steps st.cursor c) (λ v h. run_shown v bs u h r) e
  where
    by : (o : Option State) → Grows shown (shown st) c o → ((v : State) → run v bs ≡ Some u → shown u r ≡ shown v (bs ++ r)) → (o >>= (λ v. run v bs)) ≡ Some u → shown u r ≡ shown st (c ∷ (bs ++ r))
    by None g h x = absurd (cc)
    by (Some v) g h x = h v x ∙ g (bs ++ r)

whole_shown : (ls : List Level) (ss : List Step) (c : Cursor) (p : Proof) → read_proof ls c ≡ Some p → (r : List ℕ) → shown (at ls ss c) r ≡ proof_onto p r
whole_shown [] ss (Ended q) p e r = ap (λ x. proof_onto x r) (some_same q p e)
whole_shown [] ss NodeDue p e r = absurd (cc)
whole_shown [] ss NodeOpened p e r = absurd (cc)
whole_shown [] ss (StepDone s) p e r = absurd (cc)
whole_shown [] ss (FactDue f) p e r = absurd (cc)
whole_shown [] ss (Number f v) p e r = absurd (cc)
whole_shown [] ss (FactorDue f) p e r = absurd (cc)
whole_shown [] ss (Minus f) p e r = absurd (cc)
whole_shown [] ss (Digits f n) p e r = absurd (cc)
whole_shown [] ss (CaseOrTerm f) p e r = absurd (cc)
whole_shown [] ss (Inside a st) p e r = absurd (cc)
whole_shown [] ss (ChildDue b) p e r = absurd (cc)
whole_shown [] ss (After b) p e r = absurd (cc)
whole_shown (l ∷ ls) ss c p e r = absurd (cc)

fits_where_run : (b : Bool) (x : State) (u : State) → when b (Some x) ≡ Some u → IsTrue b
fits_where_run true x u e = refl
fits_where_run false x u e = absurd (cc)

-- bytes that lead to the end of a proof are its text
pub spelled : (bs : List ℕ) (st : State) (p : Proof) → run start bs ≡ Some st → read_proof st.levels st.cursor ≡ Some p → Spells bs p
spelled bs st p e h =
    let text : bs ≡ proof_text p = sym (append-nil bs) ∙ sym (run_shown start bs st e []) ∙ whole_shown st.levels st.steps st.cursor p h [] ∙ sym ((put_proof p).puts []) ∙ append-nil (proof_text p) in
    record { in_range = fits_where_run (proof_fits p) (at [] [] (Ended p)) st (sym (text_reads p) ∙ ap (run start) (sym text) ∙ e); text = text }

-- a proof's text leads to its end
pub text_runs : (bs : List ℕ) (p : Proof) → Spells bs p → run start bs ≡ Some (at [] [] (Ended p))
text_runs bs p s = ap (run start) s.text ∙ text_reads p ∙ ap (λ b. when b (Some (at [] [] (Ended p)))) s.in_range

pub one_proof_a_text_has : OneProofATextHas
one_proof_a_text_has bytes p q sp sq = let e : Some (at [] [] (Ended p)) ≡ Some (at [] [] (Ended q)) = sym (text_runs bytes p sp) ∙ text_runs bytes q sq in
    some_same p q (ap (λ o. o >>= (λ st. read_proof st.levels st.cursor)) e)

-- what leads to a state begins a proof's text
pub begins : (bs : List ℕ) (st : State) → run start bs ≡ Some st → BeginsOne bs
begins bs st e = let h = ends_all st.levels st.steps st.cursor in
    (h.proof, h.rest, spelled (bs ++ h.rest) (at [] h.steps (Ended h.proof)) h.proof (run_append start bs h.rest ∙ ap (λ o. o >>= (λ u. run u h.rest)) e ∙ h.runs) refl)

-- where no state comes next, no proof's text goes on
no_longer : (bs : List ℕ) (c : ℕ) (st : State) → run start bs ≡ Some st → step_at st c ≡ None → ¬ BeginsOne (bs ++ c ∷ [])
no_longer bs c st e n b =
    let stops : run start ((bs ++ c ∷ []) ++ b.1) ≡ None = ap (run start) (append_assoc bs (c ∷ []) b.1) ∙ run_append start bs (c ∷ b.1) ∙ ap (λ o. o >>= (λ u. run u (c ∷ b.1))) e ∙ ap (λ o. o >>= (λ u. run u b.1)) n in
    let goes = text_runs ((bs ++ c ∷ []) ++ b.1) b.0 b.2 in
    absurd (let e2 : None ≡ Some (at [] [] (Ended b.0)) = sym stops ∙ goes in cc)

pub stuck_at : (text : List ℕ) (i c : ℕ) (st : State) → i < length text → run start (take i text) ≡ Some st → get_or text i 0 ≡ c → step_at st c ≡ None → IsBadAt text i
stuck_at text i c st l e g n =
    let parts : take i text ++ c ∷ drop (i + 1) text ≡ text = sym (append_assoc (take i text) (c ∷ []) (drop (i + 1) text)) ∙ ap (λ x. (take i text ++ x ∷ []) ++ drop (i + 1) text) (sym g) ∙ ap (λ x. x ++ drop (i + 1) text) (sym (take_more text i 0 l)) ∙ take-append-drop (i + 1) text in
    let place : length (take i text) ≡ i = omega (arith, length-take i text, l) in
    subst (λ k. IsBadAt text k) place (subst (λ t. IsBadAt t (length (take i text))) parts (bad_at (take i text) c (drop (i + 1) text) (begins (take i text) st e) (no_longer (take i text) c st e n)))

pub open_at_end : (text : List ℕ) (i : ℕ) (st : State) → length text ≤ i → run start (take i text) ≡ Some st → read_proof st.levels st.cursor ≡ None → IsBadAt text (length text)
open_at_end text i st l e n =
    let all : run start text ≡ Some st = ap (run start) (sym (take_all i text l)) ∙ e in
    unfinished text (begins text st all) (λ p s. absurd (let same : Some (at [] [] (Ended p)) ≡ Some st = sym (text_runs text p s) ∙ all in let e2 : Some p ≡ None = ap (λ o. o >>= (λ u. read_proof u.levels u.cursor)) same ∙ n in cc))

pub spelled_at_end : (text : List ℕ) (i : ℕ) (st : State) (p : Proof) → length text ≤ i → run start (take i text) ≡ Some st → read_proof st.levels st.cursor ≡ Some p → Spells text p
spelled_at_end text i st p l e h = spelled text st p (ap (run start) (sym (take_all i text l)) ∙ e) h

-- one byte more
pub run_more : (text : List ℕ) (i c : ℕ) (st u : State) → i < length text → run start (take i text) ≡ Some st → get_or text i 0 ≡ c → step_at st c ≡ Some u → run start (take (i + 1) text) ≡ Some u
run_more text i c st u l e g n = ap (run start) (take_more text i 0 l ∙ ap (λ x. take i text ++ x ∷ []) g) ∙ run_append start (take i text) (c ∷ []) ∙ ap (λ o. o >>= (λ v. run v (c ∷ []))) e ∙ ap (λ o. o >>= (λ v. run v [])) n
