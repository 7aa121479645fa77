-- A branch of numbers stands for one of terms, whatever is changed in it.
use Rattle.std.proofs.Common.{◌≡◌, refl, sym, ap, subst, ◌∙◌, ℕ, zero, suc, ◌+◌, ◌<◌, nat_eq, Bool, true, false, ◌||◌, ◌&&◌, cond, List, [], ◌∷◌, ◌++◌, map, length, take, drop, arith}
use Rattle.std.specs.List.{AllByRecursion, take-map, drop-map}
use Rattle.std.proofs.lemmas.List.{map-append}
use Rattle.logic_core.specs.Tree.{Tree}
use Rattle.logic_core.specs.Size.{capped}
use Rattle.logic_core.specs.Same.{same_term, same_trees}
use Rattle.logic_core.specs.View.{trees_of}
use Rattle.logic_core.specs.Junction.{is_truth}
use Rattle.logic_core.specs.Tighten.{tighten}
use Rattle.logic_core.proofs.EachOf.{every_append}
use Rattle.proof_core.specs.Proof as proof
use Rattle.term_bank.specs.Numbered.{at, Begins}
use Rattle.term_bank.proofs.Numbers.{begins_at, begins_length}
use Rattle.tableau_branch.specs.Branch as branch
use Rattle.tableau_branch.specs.Change as change
use Rattle.logic_rules.specs.Instantiating.{same_mark}
use Rattle.numbered_terms.specs.Stored.{AreStored}
use Rattle.numbered_facts.proofs.EachOnce.{same_number}
use Rattle.numbered_branches.specs.Branches.{NumberedFact, NumberedMark, NumberedBranch, NumberedStep, splits, instantiates, names, replaces, unfolds, reads_back, differs, combines, tightens, NumberedMade, fact_at, terms_in, mark_at, branch_at, step_at, made_at, is_there, IsFactBelow, IsTuple, IsMarkOver, IsBranchOver, IsStepBelow, IsMadeOver}
use Rattle.numbered_branches.specs.NumberedChange as numbered
use Rattle.numbered_branches.specs.NumberedChange.{Read, IsSeen, IsTight}
use Rattle.numbered_branches.proofs.Growing.{more_within, same_terms}

pub all_take : {A : Type 0} (P : A → Type 0) (n : ℕ) (xs : List A) → AllByRecursion P xs → AllByRecursion P (take n xs)
all_take P zero [] h = tt
all_take P zero (x ∷ xs) h = tt
all_take P (suc n) [] h = tt
all_take P (suc n) (x ∷ xs) h = (h.0, all_take P n xs h.1)

pub all_drop : {A : Type 0} (P : A → Type 0) (n : ℕ) (xs : List A) → AllByRecursion P xs → AllByRecursion P (drop n xs)
all_drop P zero [] h = tt
all_drop P zero (x ∷ xs) h = h
all_drop P (suc n) [] h = tt
all_drop P (suc n) (x ∷ xs) h = all_drop P n xs h.1

pub all_weaker : {A : Type 0} (P Q : A → Type 0) → ((a : A) → P a → Q a) → (xs : List A) → AllByRecursion P xs → AllByRecursion Q xs
all_weaker P Q f [] h = tt
all_weaker P Q f (x ∷ xs) h = (f x h.0, all_weaker P Q f xs h.1)

pub map_same : {A B : Type 0} (P : A → Type 0) (f g : A → B) → ((a : A) → P a → f a ≡ g a) → (xs : List A) → AllByRecursion P xs → map f xs ≡ map g xs
map_same P f g e [] h = refl
map_same P f g e (x ∷ xs) h = λ k. e x h.0 k ∷ map_same P f g e xs h.1 k

-- a store that grows
module _ (ts us : List Tree) (b : Begins ts us) where
  more : (i : ℕ) → i < length ts → i < length us
  more i l = omega (arith, l, begins_length ts us b)

  pub step_more : (s : NumberedStep) → IsStepBelow (length ts) s → IsStepBelow (length us) s
  step_more (instantiates n is) h = more_within ts us b is h
  step_more (replaces n m i) h = more i h
  step_more (unfolds n i) h = more i h
  step_more (reads_back n i) h = more i h
  step_more (splits n) h = tt
  step_more (names n) h = tt
  step_more (differs n) h = tt
  step_more (combines n p m q) h = tt
  step_more (tightens n) h = tt

  pub step_same : (s : NumberedStep) → IsStepBelow (length ts) s → step_at us s ≡ step_at ts s
  step_same (instantiates n is) h = ap (proof.by_instantiate n) (same_terms ts us b is h)
  step_same (replaces n m i) h = ap (proof.by_replace n m) (begins_at ts us i b h)
  step_same (unfolds n i) h = ap (proof.by_unfold n) (begins_at ts us i b h)
  step_same (reads_back n i) h = ap (proof.by_back n) (begins_at ts us i b h)
  step_same (splits n) h = refl
  step_same (names n) h = refl
  step_same (differs n) h = refl
  step_same (combines n p m q) h = refl
  step_same (tightens n) h = refl

  pub branch_more : (c : NumberedBranch) → IsBranchOver ts c → IsBranchOver us c × (branch_at us c ≡ branch_at ts c)
  branch_more c h = (
    record {
      facts = all_weaker (IsFactBelow (length ts)) (IsFactBelow (length us)) (λ f l. more f.term l) c.facts h.facts;
      calls = more_within ts us b c.calls h.calls;
      marks = all_weaker (IsMarkOver ts) (IsMarkOver us) (λ m l. (more m.fact l.0, more m.tuple l.1, subst IsTuple (sym (begins_at ts us m.tuple b l.1)) l.2)) c.marks h.marks;
    },
    λ k. record {
      facts = map_same (IsFactBelow (length ts)) (fact_at us) (fact_at ts) (λ f l. λ j. record { term = begins_at ts us f.term b l j; number = f.number }) c.facts h.facts k;
      calls = same_terms ts us b c.calls h.calls k;
      marks = map_same (IsMarkOver ts) (mark_at us) (mark_at ts) (λ m l. λ j. record { fact = begins_at ts us m.fact b l.0 j; tuple = terms_in (begins_at ts us m.tuple b l.1 j) }) c.marks h.marks k;
      vars = c.vars;
      next = c.next;
    },
  )

  pub made_more : (m : NumberedMade) → IsMadeOver ts m → IsMadeOver us m × (made_at us m ≡ made_at ts m)
  made_more m h = let r = branch_more m.branch h.branch in (
    record { branch = r.0; steps = all_weaker (IsStepBelow (length ts)) (IsStepBelow (length us)) step_more m.steps h.steps },
    λ k. record { branch = r.1 k; steps = map_same (IsStepBelow (length ts)) (step_at us) (step_at ts) step_same m.steps h.steps k; size = m.size },
  )

module _ (ts : List Tree) (stored : AreStored ts) where
  pub there : (i : ℕ) (fs : List NumberedFact) → i < length ts → AllByRecursion (IsFactBelow (length ts)) fs → is_there i fs ≡ branch.is_there (at ts i) (map (fact_at ts) fs)
  there i [] l h = refl
  there i (f ∷ fs) l h = λ k. same_number ts stored.apart i f.term l h.0 k || there i fs l h.1 k

  pub one_mark : (m n : NumberedMark) → IsMarkOver ts m → IsMarkOver ts n → (nat_eq m.fact n.fact && nat_eq m.tuple n.tuple) ≡ same_mark (mark_at ts m) (mark_at ts n)
  one_mark m n h g = λ k. same_number ts stored.apart m.fact n.fact h.0 g.0 k && tuples k
    where
      tuples : nat_eq m.tuple n.tuple ≡ same_trees (trees_of (terms_in (at ts m.tuple))) (trees_of (terms_in (at ts n.tuple)))
      tuples = same_number ts stored.apart m.tuple n.tuple h.1 g.1 ∙ (λ k. same_term (sym h.2 k) (sym g.2 k))

  abbrev Below : NumberedFact → Type 0
  Below = IsFactBelow (length ts)

  module _ (r : Read) where
    abbrev tightened_at : numbered.Tightened → change.Tightened
    tightened_at t = record { fact = fact_at ts t.fact; steps = map (step_at ts) t.steps; next = t.next }

    same_tight : (i : ℕ) → IsTight ts r i → nat_eq (r.tight i) i ≡ same_term (tighten (at ts i)) (at ts i)
    same_tight i l = same_number ts stored.apart (r.tight i) i l.1 l.0 ∙ ap (λ u. same_term u (at ts i)) l.2

    pub tightened_is : (number next i : ℕ) → IsTight ts r i → tightened_at (numbered.tightened r number next i) ≡ change.tightened number next (at ts i)
    tightened_is number next i l = by (nat_eq (r.tight i) i) ∙ (λ k. cond (same_tight i l k) (record { fact = record { term = at ts i; number = number }; steps = []; next = next })
        (record { fact = record { term = l.2 k; number = next }; steps = proof.by_tighten number ∷ []; next = next + 1 }))
      where
        by : (b : Bool) → tightened_at (cond b (record { fact = record { term = i; number = number }; steps = []; next = next }) (record { fact = record { term = r.tight i; number = next }; steps = tightens number ∷ []; next = next + 1 }))
            ≡ cond b (record { fact = record { term = at ts i; number = number }; steps = []; next = next }) (record { fact = record { term = at ts (r.tight i); number = next }; steps = proof.by_tighten number ∷ []; next = next + 1 })
        by true = refl
        by false = refl

    pub tightened_below : (number next i : ℕ) → IsTight ts r i → Below (numbered.tightened r number next i).fact × AllByRecursion (IsStepBelow (length ts)) (numbered.tightened r number next i).steps
    tightened_below number next i l = by (nat_eq (r.tight i) i)
      where
        by : (b : Bool) → let t : numbered.Tightened = cond b (record { fact = record { term = i; number = number }; steps = []; next = next }) (record { fact = record { term = r.tight i; number = next }; steps = tightens number ∷ []; next = next + 1 }) in
            Below t.fact × AllByRecursion (IsStepBelow (length ts)) t.steps
        by true = (l.0, tt)
        by false = (l.1, (tt, tt))

    -- more nodes
    pub steps_below : (ss : List NumberedStep) (next : ℕ) (m : NumberedMade) → AllByRecursion (IsStepBelow (length ts)) ss → IsMadeOver ts m → IsMadeOver ts (numbered.with_steps ss next m)
    steps_below ss next m s h = record { branch = record { facts = (h.branch).facts; calls = (h.branch).calls; marks = (h.branch).marks }; steps = every_append (IsStepBelow (length ts)) m.steps ss h.steps s }

    pub steps_are : (ss : List NumberedStep) (next : ℕ) (m : NumberedMade) → made_at ts (numbered.with_steps ss next m) ≡ change.with_steps (map (step_at ts) ss) next (made_at ts m)
    steps_are ss next m = λ k. record {
      branch = record { facts = map (fact_at ts) m.branch.facts; calls = map (at ts) m.branch.calls; marks = map (mark_at ts) m.branch.marks; vars = m.branch.vars; next = next };
      steps = map-append (step_at ts) m.steps ss k;
      size = m.size;
    }

  module _ (r : Read) (seen : IsSeen ts r) where
    -- with a fact that is read
    same_test : (f : NumberedFact) (fs : List NumberedFact) → Below f → AllByRecursion Below fs → (r.is_true f.term || is_there f.term fs) ≡ (is_truth true (at ts f.term) || branch.is_there (at ts f.term) (map (fact_at ts) fs))
    same_test f fs l h = λ k. seen.is_true f.term l k || there f.term fs l h k

    pub same_size : (n : ℕ) (f : NumberedFact) → Below f → numbered.with_size r n f.term ≡ change.with_size n (at ts f.term)
    same_size n f l = ap (λ x. capped (n + x)) (seen.size f.term l)

    -- a branch with other facts
    facts_below : (b : NumberedBranch) (fs : List NumberedFact) → IsBranchOver ts b → AllByRecursion Below fs → IsBranchOver ts (numbered.with_facts b fs)
    facts_below b fs h g = record { facts = g; calls = h.calls; marks = h.marks }

    pub adds : (f : NumberedFact) (m : NumberedMade) → Below f → IsMadeOver ts m
        → IsMadeOver ts (numbered.added r f m) × (made_at ts (numbered.added r f m) ≡ change.added (fact_at ts f) (made_at ts m))
    adds f m l h = (
      below (r.is_true f.term || is_there f.term m.branch.facts),
      by (r.is_true f.term || is_there f.term m.branch.facts) ∙ ap (λ b. cond b (made_at ts m) with_it) (same_test f m.branch.facts l (h.branch).facts),
    )
      where
        new : NumberedMade
        new = record { branch = numbered.with_facts m.branch (m.branch.facts ++ f ∷ []); steps = m.steps; size = numbered.with_size r m.size f.term }

        with_it : change.Made
        with_it = record { branch = branch.with_facts (branch_at ts m.branch) (map (fact_at ts) m.branch.facts ++ fact_at ts f ∷ []); steps = map (step_at ts) m.steps; size = change.with_size m.size (at ts f.term) }

        below : (b : Bool) → IsMadeOver ts (cond b m (record { branch = numbered.with_facts m.branch (m.branch.facts ++ f ∷ []); steps = m.steps; size = numbered.with_size r m.size f.term }))
        below true = h
        below false = record { branch = facts_below m.branch (m.branch.facts ++ f ∷ []) h.branch (every_append Below m.branch.facts (f ∷ []) (h.branch).facts (l, tt)); steps = h.steps }

        by : (b : Bool) → made_at ts (cond b m (record { branch = numbered.with_facts m.branch (m.branch.facts ++ f ∷ []); steps = m.steps; size = numbered.with_size r m.size f.term })) ≡ cond b (made_at ts m)
            (record { branch = branch.with_facts (branch_at ts m.branch) (map (fact_at ts) m.branch.facts ++ fact_at ts f ∷ []); steps = map (step_at ts) m.steps; size = change.with_size m.size (at ts f.term) })
        by true = refl
        by false = λ k. record { branch = branch.with_facts (branch_at ts m.branch) (map-append (fact_at ts) m.branch.facts (f ∷ []) k); steps = map (step_at ts) m.steps; size = same_size m.size f l k }

    pub adds_each : (fs : List NumberedFact) (m : NumberedMade) → AllByRecursion Below fs → IsMadeOver ts m
        → IsMadeOver ts (numbered.added_each r fs m) × (made_at ts (numbered.added_each r fs m) ≡ change.added_each (map (fact_at ts) fs) (made_at ts m))
    adds_each [] m l h = (h, refl)
    adds_each (f ∷ fs) m l h = let one = adds f m l.0 h in let rest = adds_each fs (numbered.added r f m) l.1 one.0 in
        (rest.0, rest.1 ∙ ap (change.added_each (map (fact_at ts) fs)) one.1)

    pub keeps : (earlier later : List NumberedFact) (f : NumberedFact) → AllByRecursion Below earlier → Below f → AllByRecursion Below later
        → AllByRecursion Below (numbered.kept r earlier f later) × (map (fact_at ts) (numbered.kept r earlier f later) ≡ change.kept (map (fact_at ts) earlier) (fact_at ts f) (map (fact_at ts) later))
    keeps earlier later f e l g = (
      below (r.is_true f.term || (is_there f.term earlier || is_there f.term later)),
      by (r.is_true f.term || (is_there f.term earlier || is_there f.term later))
          ∙ (λ k. cond (seen.is_true f.term l k || (there f.term earlier l e k || there f.term later l g k)) (map (fact_at ts) earlier) (map (fact_at ts) earlier ++ fact_at ts f ∷ [])),
    )
      where
        below : (b : Bool) → AllByRecursion Below (cond b earlier (earlier ++ f ∷ []))
        below true = e
        below false = every_append Below earlier (f ∷ []) e (l, tt)

        by : (b : Bool) → map (fact_at ts) (cond b earlier (earlier ++ f ∷ [])) ≡ cond b (map (fact_at ts) earlier) (map (fact_at ts) earlier ++ fact_at ts f ∷ [])
        by true = refl
        by false = map-append (fact_at ts) earlier (f ∷ [])

    pub changes_at : (n : ℕ) (f : NumberedFact) (m : NumberedMade) → Below f → IsMadeOver ts m
        → IsMadeOver ts (numbered.changed_at r n f m) × (made_at ts (numbered.changed_at r n f m) ≡ change.changed_at n (fact_at ts f) (made_at ts m))
    changes_at n f m l h = let fs = m.branch.facts in
        let before = take n fs in
        let later = drop (n + 1) fs in
        let kb = all_take Below n fs (h.branch).facts in
        let lb = all_drop Below (n + 1) fs (h.branch).facts in
        let k = keeps before later f kb l lb in (
          record { branch = facts_below m.branch (numbered.kept r before f later ++ later) h.branch (every_append Below (numbered.kept r before f later) later k.0 lb); steps = h.steps },
          (λ x. record { branch = branch.with_facts (branch_at ts m.branch) (map-append (fact_at ts) (numbered.kept r before f later) later x); steps = map (step_at ts) m.steps; size = same_size m.size f l x })
              ∙ (λ x. record { branch = branch.with_facts (branch_at ts m.branch) (k.1 x ++ map (fact_at ts) later); steps = map (step_at ts) m.steps; size = change.with_size m.size (at ts f.term) })
              ∙ (λ x. let ms = sym (drop-map (fact_at ts) (n + 1) fs) x in record { branch = branch.with_facts (branch_at ts m.branch) (change.kept (sym (take-map (fact_at ts) n fs) x) (fact_at ts f) ms ++ ms); steps = map (step_at ts) m.steps; size = change.with_size m.size (at ts f.term) }),
        )

pub without_one : (ts : List Tree) (b : NumberedBranch) (n : ℕ) → branch_at ts (numbered.with_facts b (take n b.facts ++ drop (n + 1) b.facts)) ≡ branch.without n (branch_at ts b)
without_one ts b n = (λ k. branch.with_facts (branch_at ts b) (map-append (fact_at ts) (take n b.facts) (drop (n + 1) b.facts) k))
    ∙ (λ k. branch.with_facts (branch_at ts b) (sym (take-map (fact_at ts) n b.facts) k ++ sym (drop-map (fact_at ts) (n + 1) b.facts) k))
