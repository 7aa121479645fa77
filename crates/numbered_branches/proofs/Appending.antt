-- Facts that nodes append to a branch of numbers, in a store that grows.
use Rattle.std.proofs.Common.{◌≡◌, refl, sym, ap, subst, ◌∙◌, ℕ, ◌+◌, ◌<◌, ◌≤◌, List, [], ◌∷◌, ◌++◌, map, length, drop, get_or, Result, IfOk, OnOk, arith}
use Rattle.std.specs.List.{AllByRecursion}
use Rattle.std.proofs.lemmas.List.{map-append, append-nil, at_drop_all, length-map}
use Rattle.logic_core.specs.Tree.{Tree}
use Rattle.logic_core.specs.Tighten.{tighten}
use Rattle.logic_core.proofs.EachOf.{every_append}
use Rattle.proof_core.specs.Proof.{Step}
use Rattle.term_bank.specs.Numbered.{at, Begins}
use Rattle.term_bank.proofs.Numbers.{begins_at, begins_length}
use Rattle.tableau_branch.specs.Branch as branch
use Rattle.tableau_branch.specs.Change.{Made, with_steps, tightened, tightened_each, appended, appended_one, appended_two}
use Rattle.tableau_branch.proofs.Lists.{drop_item}
use Rattle.tableau_branch.proofs.Steps.{nothing_more, more_steps, one_step_more, step_before_each, facts_more, steps_more}
use Rattle.numbered_terms.specs.At.{IsAt}
use Rattle.numbered_branches.specs.Branches.{NumberedFact, NumberedStep, NumberedMade, fact_at, made_at, step_at, IsFactBelow, IsStepBelow, IsMadeOver}
use Rattle.numbered_branches.specs.NumberedChange as numbered
use Rattle.numbered_branches.specs.Standing.{IsFactAt, AreFactsAt, IsMadeAt}
use Rattle.numbered_branches.proofs.Changing.{made_more}
use Rattle.numbered_branches.proofs.Listing.{all_at}
use Rattle.numbered_branches.proofs.Standing.{fact_stays, facts_on}

-- over the terms of a store that went on
module _ (ts us ws : List Tree) (grows : Begins ts us) (same : ws ≡ us) where
  pub term_in : (i : ℕ) → i < length ts → i < length ws
  term_in i l = subst (λ (xs : List Tree). i < length xs) (sym same) (omega (arith, l, begins_length ts us grows))

  pub tight_in : (i tight : ℕ) → i < length ts → IsAt us tight (tighten (at ts i)) → IsAt ws tight (tighten (at ws i))
  tight_in i tight l h = subst (λ (xs : List Tree). IsAt xs tight (tighten (at xs i))) (sym same) (h.0, h.1 ∙ ap tighten (sym (begins_at ts us i grows l)))

  pub made_in : (m : NumberedMade) → IsMadeOver ts m → IsMadeOver ws m
  made_in m h = subst (λ (xs : List Tree). IsMadeOver xs m) (sym same) (made_more ts us grows m h).0

  pub fact_out : {E : Type 0} (r : Result NumberedFact E) (number next i : ℕ) → i < length ts → IfOk r (λ f. IsFactAt ws f (tightened number next (at ws i)).fact) → IfOk r (λ f. IsFactAt us f (tightened number next (at ts i)).fact)
  fact_out r number next i l h = subst (λ (t : Tree). IfOk r (λ f. IsFactAt us f (tightened number next t).fact)) (begins_at ts us i grows l)
      (subst (λ (xs : List Tree). IfOk r (λ f. IsFactAt xs f (tightened number next (at xs i)).fact)) same h)

  pub made_out : {A E : Type 0} (r : Result A E) (number i : ℕ) (m n : NumberedMade) → i < length ts → IsMadeOver ts m
      → OnOk r (let t = tightened number m.branch.next (at ws i) in IsMadeAt ws n (with_steps t.steps t.next (made_at ws m)))
      → OnOk r (let t = tightened number m.branch.next (at ts i) in IsMadeAt us n (with_steps t.steps t.next (made_at ts m)))
  made_out r number i m n l o h = subst (λ (x : Made). OnOk r (let t = tightened number m.branch.next (at ts i) in IsMadeAt us n (with_steps t.steps t.next x))) (made_more ts us grows m o).1
      (subst (λ (u : Tree). OnOk r (let t = tightened number m.branch.next u in IsMadeAt us n (with_steps t.steps t.next (made_at us m)))) (begins_at ts us i grows l)
      (subst (λ (xs : List Tree). OnOk r (let t = tightened number m.branch.next (at xs i) in IsMadeAt xs n (with_steps t.steps t.next (made_at xs m)))) same h))

-- the next numbers are taken
pub next_over : (ts : List Tree) (next : ℕ) (m n : NumberedMade) → n ≡ numbered.with_next next m → IsMadeOver ts m → IsMadeOver ts n
next_over ts next m n e h = subst (IsMadeOver ts) (sym e) (record { branch = record { facts = (h.branch).facts; calls = (h.branch).calls; marks = (h.branch).marks }; steps = h.steps })

-- one fact
module _ (ts us : List Tree) (t : Tree) (m n : NumberedMade) (number : ℕ) (e : number ≡ m.branch.next) (taken : n ≡ numbered.with_next (m.branch.next + 1) m) where
  pub one_fact : {E : Type 0} (r : Result NumberedFact E) → IfOk r (λ f. IsFactAt us f (tightened number n.branch.next t).fact) → IfOk r (λ f. IsFactAt us f (appended_one [] t (made_at ts m)).0)
  one_fact r h = subst (λ (x : ℕ). IfOk r (λ f. IsFactAt us f (tightened x (m.branch.next + 1) t).fact)) e
      (subst (λ (x : NumberedMade). IfOk r (λ f. IsFactAt us f (tightened number x.branch.next t).fact)) taken h)

  pub one_made : {A E : Type 0} (r : Result A E) (k : NumberedMade) → OnOk r (let q = tightened number n.branch.next t in IsMadeAt us k (with_steps q.steps q.next (made_at ts n))) → OnOk r (IsMadeAt us k (appended_one [] t (made_at ts m)).1)
  one_made r k h = subst (λ (x : ℕ). OnOk r (let q = tightened x (m.branch.next + 1) t in IsMadeAt us k (with_steps q.steps q.next (made_at ts m)))) e
      (subst (λ (x : NumberedMade). OnOk r (let q = tightened number x.branch.next t in IsMadeAt us k (with_steps q.steps q.next (made_at ts x)))) taken h)

-- a node before
module _ (ts us : List Tree) (s : NumberedStep) (m n : NumberedMade) (put : n ≡ numbered.with_steps (s ∷ []) m.branch.next m) where
  pub by_over : IsStepBelow (length ts) s → IsMadeOver ts m → IsMadeOver ts n
  by_over l h = subst (IsMadeOver ts) (sym put) (record { branch = record { facts = (h.branch).facts; calls = (h.branch).calls; marks = (h.branch).marks }; steps = every_append (IsStepBelow (length ts)) m.steps (s ∷ []) h.steps (l, tt) })

  put_at : made_at ts n ≡ with_steps (step_at ts s ∷ []) m.branch.next (made_at ts m)
  put_at = ap (made_at ts) put ∙ ap (λ (ss : List Step). let x = made_at ts m in let made : Made = record { branch = x.branch; steps = ss; size = x.size } in made) (map-append (step_at ts) m.steps (s ∷ []))

  pub by_fact : {E : Type 0} (r : Result NumberedFact E) (t : Tree) → IfOk r (λ f. IsFactAt us f (appended_one [] t (made_at ts n)).0) → IfOk r (λ f. IsFactAt us f (appended_one (step_at ts s ∷ []) t (made_at ts m)).0)
  by_fact r t h = subst (λ (x : Made). IfOk r (λ f. IsFactAt us f (appended_one [] t x).0)) put_at h

  pub by_made : {A E : Type 0} (r : Result A E) (t : Tree) (k : NumberedMade) → OnOk r (IsMadeAt us k (appended_one [] t (made_at ts n)).1) → OnOk r (IsMadeAt us k (appended_one (step_at ts s ∷ []) t (made_at ts m)).1)
  by_made r t k h = subst (λ (x : Made). OnOk r (IsMadeAt us k x)) (one_step_more (step_at ts s) t (made_at ts m) (made_at ts n) put_at) h

  pub each_facts : {V E : Type 0} (items : V → List NumberedFact) (r : Result V E) (vs : List Tree) → IfOk r (λ v. AreFactsAt us (items v) (appended [] vs (made_at ts n)).0) → IfOk r (λ v. AreFactsAt us (items v) (appended (step_at ts s ∷ []) vs (made_at ts m)).0)
  each_facts items r vs h = subst (λ (x : Made). IfOk r (λ v. AreFactsAt us (items v) (appended [] vs x).0)) put_at h

  pub each_made : {A E : Type 0} (r : Result A E) (vs : List Tree) (k : NumberedMade) → OnOk r (IsMadeAt us k (appended [] vs (made_at ts n)).1) → OnOk r (IsMadeAt us k (appended (step_at ts s ∷ []) vs (made_at ts m)).1)
  each_made r vs k h = subst (λ (x : Made). OnOk r (IsMadeAt us k x)) (step_before_each (step_at ts s) vs (made_at ts m) (made_at ts n) put_at) h

-- the numbers of all are taken
module _ (ts us : List Tree) (is : List ℕ) (m n : NumberedMade) (number count : ℕ) (e : number ≡ m.branch.next) (many : count ≡ length is) (taken : n ≡ numbered.with_next (m.branch.next + count) m) where
  next_at : n.branch.next ≡ m.branch.next + length (map (at ts) is)
  next_at = ap (λ (x : NumberedMade). x.branch.next) taken ∙ ap (λ k. m.branch.next + k) (many ∙ sym (length-map is (at ts)))

  pub facts_of : {V E : Type 0} (items : V → List NumberedFact) (r : Result V E) → IfOk r (λ v. AreFactsAt us (items v) (tightened_each number n.branch.next (map (at ts) is)).facts) → IfOk r (λ v. AreFactsAt us (items v) (appended [] (map (at ts) is) (made_at ts m)).0)
  facts_of items r h = subst (λ (p : ℕ × ℕ). IfOk r (λ v. AreFactsAt us (items v) (tightened_each p.0 p.1 (map (at ts) is)).facts)) (λ k. (e k, next_at k)) h

  pub made_of : {A E : Type 0} (r : Result A E) (k : NumberedMade) → OnOk r (let q = tightened_each number n.branch.next (map (at ts) is) in IsMadeAt us k (with_steps q.steps q.next (made_at ts n))) → OnOk r (IsMadeAt us k (appended [] (map (at ts) is) (made_at ts m)).1)
  made_of r k h = subst (λ (p : ℕ × ℕ). OnOk r (let q = tightened_each p.0 p.1 (map (at ts) is) in IsMadeAt us k (with_steps q.steps q.next (made_at ts m)))) (λ x. (e x, next_at x))
      (subst (λ (x : NumberedMade). OnOk r (let q = tightened_each number n.branch.next (map (at ts) is) in IsMadeAt us k (with_steps q.steps q.next (made_at ts x)))) taken h)

-- two facts, one after another
module _ (ts us vs : List Tree) (g : Begins ts us) (h : Begins us vs) (m n p q : NumberedMade) (i j number : ℕ) (e : number ≡ m.branch.next) (taken : n ≡ numbered.with_next (m.branch.next + 2) m)
    (li : i < length ts) (lj : j < length ts)
    (first : let t = tightened number n.branch.next (at ts i) in IsMadeAt us p (with_steps t.steps t.next (made_at ts n)))
    (second : let t = tightened (number + 1) p.branch.next (at us j) in IsMadeAt vs q (with_steps t.steps t.next (made_at us p))) where
  two_at : let t = tightened m.branch.next (m.branch.next + 2) (at ts i) in IsMadeAt us p (with_steps t.steps t.next (made_at ts m))
  two_at = subst (λ (x : ℕ). let t = tightened x (m.branch.next + 2) (at ts i) in IsMadeAt us p (with_steps t.steps t.next (made_at ts m))) e
      (subst (λ (x : NumberedMade). let t = tightened number x.branch.next (at ts i) in IsMadeAt us p (with_steps t.steps t.next (made_at ts x))) taken first)

  next_is : p.branch.next ≡ (tightened m.branch.next (m.branch.next + 2) (at ts i)).next
  next_is = ap (λ (x : Made). x.branch.next) two_at.1

  pub two_first : (f : NumberedFact) → IsFactAt us f (tightened number n.branch.next (at ts i)).fact → IsFactAt vs f (appended_two (at ts i) (at ts j) (made_at ts m)).0
  two_first f k = let s = fact_stays us vs h f k.0 in
      (s.0, s.1 ∙ k.1 ∙ ap (λ (x : NumberedMade). (tightened number x.branch.next (at ts i)).fact) taken ∙ ap (λ (x : ℕ). (tightened x (m.branch.next + 2) (at ts i)).fact) e)

  pub two_second : (f : NumberedFact) → IsFactAt vs f (tightened (number + 1) p.branch.next (at us j)).fact → IsFactAt vs f (appended_two (at ts i) (at ts j) (made_at ts m)).1
  two_second f k = (k.0, k.1 ∙ (λ x. (tightened (e x + 1) (next_is x) (begins_at ts us j g lj x)).fact))

  pub two_made : IsMadeAt vs q (appended_two (at ts i) (at ts j) (made_at ts m)).2
  two_made = let a = tightened m.branch.next (m.branch.next + 2) (at ts i) in let b = tightened (m.branch.next + 1) a.next (at ts j) in (
    second.0,
    second.1
        ∙ (λ x. let t = tightened (e x + 1) (next_is x) (begins_at ts us j g lj x) in with_steps t.steps t.next (two_at.1 x))
        ∙ more_steps a.steps b.steps b.next a.next (made_at ts m),
  )

-- one more of these facts: those so far over us, the next one over vs
module _ (ts us vs : List Tree) (b : Begins ts us) (g : Begins us vs) (is : List ℕ) (i x number : ℕ) (within : AllByRecursion (λ j. j < length ts) is) (l : i < length is) (e : x ≡ get_or is i x)
    (m n : NumberedMade) (fs gs : List NumberedFact) (f : NumberedFact) (below : AllByRecursion (IsFactBelow (length us)) fs)
    (fact : IsFactAt vs f (tightened number m.branch.next (at us x)).fact)
    (made : let t = tightened number m.branch.next (at us x) in IsMadeAt vs n (with_steps t.steps t.next (made_at us m)))
    (pushed : gs ≡ fs ++ f ∷ []) where
  abbrev rest : List Tree
  rest = map (at ts) (drop (i + 1) is)

  same_term : at us x ≡ at ts x
  same_term = begins_at ts us x b (all_at (λ j. j < length ts) is i x within l e)

  ahead : map (at ts) (drop i is) ≡ at us x ∷ rest
  ahead = ap (map (at ts)) (drop_item is i x l e) ∙ ap (λ t. t ∷ rest) (sym same_term)

  still : AreFactsAt vs fs (map (fact_at us) fs)
  still = facts_on us vs fs (map (fact_at us) fs) g (below, refl)

  pub each_below : AllByRecursion (IsFactBelow (length vs)) gs
  each_below = subst (AllByRecursion (IsFactBelow (length vs))) (sym pushed) (every_append (IsFactBelow (length vs)) fs (f ∷ []) still.0 (fact.0, tt))

  appended_facts : map (fact_at vs) gs ≡ map (fact_at us) fs ++ (tightened number m.branch.next (at us x)).fact ∷ []
  appended_facts = ap (map (fact_at vs)) pushed ∙ map-append (fact_at vs) fs (f ∷ []) ∙ (λ k. still.1 k ++ fact.1 k ∷ [])

  pub each_fact : (all : List branch.Fact) → map (fact_at us) fs ++ (tightened_each number m.branch.next (map (at ts) (drop i is))).facts ≡ all
      → map (fact_at vs) gs ++ (tightened_each (number + 1) n.branch.next rest).facts ≡ all
  each_fact all h = facts_more number (at us x) rest (map (fact_at us) fs) (map (fact_at vs) gs) (made_at us m) (made_at vs n) appended_facts made.1
      ∙ ap (λ ws. map (fact_at us) fs ++ (tightened_each number m.branch.next ws).facts) (sym ahead) ∙ h

  pub each_step : (all : Made) → (let r = tightened_each number m.branch.next (map (at ts) (drop i is)) in with_steps r.steps r.next (made_at us m)) ≡ all
      → (let r = tightened_each (number + 1) n.branch.next rest in with_steps r.steps r.next (made_at vs n)) ≡ all
  each_step all h = steps_more number (at us x) rest (made_at us m) (made_at vs n) made.1
      ∙ ap (λ ws. let r = tightened_each number m.branch.next ws in with_steps r.steps r.next (made_at us m)) (sym ahead) ∙ h

-- and at the end
module _ (ts us : List Tree) (is : List ℕ) (i number : ℕ) (l : length is ≤ i) (m : NumberedMade) (fs : List NumberedFact) where
  none_ahead : map (at ts) (drop i is) ≡ []
  none_ahead = ap (map (at ts)) (at_drop_all (λ xs. xs) is i l)

  pub all_facts : (all : List branch.Fact) → AllByRecursion (IsFactBelow (length us)) fs → map (fact_at us) fs ++ (tightened_each number m.branch.next (map (at ts) (drop i is))).facts ≡ all → AreFactsAt us fs all
  all_facts all b h = (b, sym (append-nil (map (fact_at us) fs)) ∙ ap (λ ws. map (fact_at us) fs ++ (tightened_each number m.branch.next ws).facts) (sym none_ahead) ∙ h)

  pub all_steps : (all : Made) → IsMadeOver us m → (let r = tightened_each number m.branch.next (map (at ts) (drop i is)) in with_steps r.steps r.next (made_at us m)) ≡ all → IsMadeAt us m all
  all_steps all o h = (o, sym (nothing_more (made_at us m)) ∙ ap (λ ws. let r = tightened_each number m.branch.next ws in with_steps r.steps r.next (made_at us m)) (sym none_ahead) ∙ h)
