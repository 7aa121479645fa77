-- The first branch of a search, and its answer.
use Rattle.std.specs.Prelude.{◌≡◌, refl, ℕ, Option, Some, None, option_map, IfSome, List, [], ◌∷◌, ◌++◌}
use Rattle.std.proofs.Common.{ap, subst}
use Rattle.logic_core.specs.Tree.{Tree, negation}
use Rattle.logic_core.specs.Def.{Def, Obligation}
use Rattle.logic_core.specs.Normal.{normal}
use Rattle.logic_core.specs.Wide.{◌>>=◌}
use Rattle.logic_laws.proofs.Options.{bind_some}
use Rattle.proof_core.specs.Proof.{Proof}
use Rattle.proof_core.specs.Context.{Context, appended_each, start}
use Rattle.proof_core.specs.Accepted.{IsAccepted}
use Rattle.logic_core.specs.WellSorted.{IsWellSorted}
use Rattle.tableau_branch.specs.Branch.{Branch, normal_in, each}
use Rattle.tableau.specs.Search.{wide, run, first_branch, Answer, answer_of, answer}
use Rattle.tableau.proofs.Tracked.{each_appended}
use Rattle.tableau.proofs.Refuting.{finds_accepted}

module _ {A B : Type 0} (f : A → Option B) where
  -- one more at the end
  pub each_push : (xs : List A) (y : A) (us : List B) (u : B) → each f xs ≡ Some us → f y ≡ Some u → each f (xs ++ y ∷ []) ≡ Some (us ++ u ∷ [])
  each_push [] y us u h k = let none : [] ≡ us = cc in rw k (ap (λ vs. Some (vs ++ u ∷ [])) none)
  each_push (x ∷ xs) y us u h k =
      let p = bind_some (f x) (λ v. each f xs >>= λ vs. Some (v ∷ vs)) us h in
      let q = bind_some (each f xs) (λ vs. Some (p.0 ∷ vs)) us p.2 in
      let is_us : p.0 ∷ q.0 ≡ us = cc in
      let first = p.1 in let rest = each_push xs y q.0 u q.1 k in rw (first, rest) (ap (λ vs. Some (vs ++ u ∷ [])) is_us)

  at_none : {C : Type 0} (o : Option C) → (o >>= λ c. let n : Option (List B) = None in n) ≡ None
  at_none None = refl
  at_none (Some c) = refl

  pub each_push_not : (xs : List A) (y : A) → f y ≡ None → each f (xs ++ y ∷ []) ≡ None
  each_push_not [] y k = rw k refl
  each_push_not (x ∷ xs) y k = let rest = each_push_not xs y k in rw rest (at_none (f x))

  pub each_first_not : (xs ys : List A) → each f xs ≡ None → each f (xs ++ ys) ≡ None
  each_first_not [] ys h = absurd (cc)
  each_first_not (x ∷ xs) ys h = at_first (f x) refl (each f xs) refl h (λ k. each_first_not xs ys k)
    where
      at_first : (o : Option B) → f x ≡ o → (p : Option (List B)) → each f xs ≡ p → (o >>= λ v. p >>= λ vs. Some (v ∷ vs)) ≡ None → (each f xs ≡ None → each f (xs ++ ys) ≡ None) → (f x >>= λ v. each f (xs ++ ys) >>= λ vs. Some (v ∷ vs)) ≡ None
      at_first None e p k n further = rw e refl
      at_first (Some v) e None k n further = let rest = further k in rw (e, rest) refl
      at_first (Some v) e (Some vs) k n further = absurd (cc)

-- where a normal form leaves 128 bits, nothing is appended
pub each_refused : (defs : List Def) (ts : List Tree) (c : Context) (b : Branch) → b.vars ≡ c.vars → each (normal_in defs b) ts ≡ None → appended_each defs c ts ≡ None
each_refused defs [] c b v h = absurd (cc)
each_refused defs (t ∷ ts) c b v h = at_first (normal_in defs b t) refl (each (normal_in defs b) ts) refl h
    (λ u k. each_refused defs ts (record { vars = c.vars; facts = c.facts ++ u ∷ [] }) b v k)
  where
    at_first : (o : Option Tree) → normal_in defs b t ≡ o → (p : Option (List Tree)) → each (normal_in defs b) ts ≡ p → (o >>= λ u. p >>= λ us. Some (u ∷ us)) ≡ None
        → ((u : Tree) → each (normal_in defs b) ts ≡ None → appended_each defs (record { vars = c.vars; facts = c.facts ++ u ∷ [] }) ts ≡ None) → appended_each defs c (t ∷ ts) ≡ None
    at_first None e p k n further = let first : normal c.vars defs [] t ≡ None = subst (λ vs. normal vs defs [] t ≡ None) v e in rw first refl
    at_first (Some u) e None k n further = let first : normal c.vars defs [] t ≡ Some u = subst (λ vs. normal vs defs [] t ≡ Some u) v e in let rest = further u k in rw (first, rest) refl
    at_first (Some u) e (Some us) k n further = absurd (cc)

module _ (o : Obligation) where
  abbrev form : Tree → Option Tree
  form t = normal o.vars o.defs [] t

  abbrev empty : Branch
  empty = record { facts = []; calls = []; marks = []; vars = o.vars; next = 0 }

  abbrev nothing : Context
  nothing = record { vars = o.vars; facts = [] }

  pub starts_with : (us : List Tree) (u : Tree) → each form o.axioms ≡ Some us → form (negation o.goal) ≡ Some u → option_map first_branch (start o) ≡ Some (first_branch (record { vars = o.vars; facts = us ++ u ∷ [] }))
  starts_with us u h k = ap (option_map first_branch) (each_appended o.defs (o.axioms ++ negation o.goal ∷ []) (us ++ u ∷ []) nothing empty refl (each_push form o.axioms (negation o.goal) us u h k))

  pub starts_not_with_axioms : each form o.axioms ≡ None → option_map first_branch (start o) ≡ None
  starts_not_with_axioms h = ap (option_map first_branch) (each_refused o.defs (o.axioms ++ negation o.goal ∷ []) nothing empty refl (each_first_not form o.axioms (negation o.goal ∷ []) h))

  pub starts_not_with_goal : form (negation o.goal) ≡ None → option_map first_branch (start o) ≡ None
  starts_not_with_goal h = ap (option_map first_branch) (each_refused o.defs (o.axioms ++ negation o.goal ∷ []) nothing empty refl (each_push_not form o.axioms (negation o.goal) h))

  abbrev answered : ℕ → Option Context → Answer
  answered n s = elim s [ None ↦ record { verdict = wide; found = None } | Some c ↦ answer_of (run o.defs n n (first_branch c ∷ [])) ]

  -- the answer is that of the run from the first branch
  pub answers : (n : ℕ) (b : Branch) → option_map first_branch (start o) ≡ Some b → answer o n ≡ answer_of (run o.defs n n (b ∷ []))
  unfolding answer
  answers n b h = at_start (start o) h
    where
      at_start : (s : Option Context) → option_map first_branch s ≡ Some b → answered n s ≡ answer_of (run o.defs n n (b ∷ []))
      at_start None k = absurd (cc)
      at_start (Some c) k = let is_b : first_branch c ≡ b = cc in ap (λ (x : Branch). answer_of (run o.defs n n (x ∷ []))) is_b

  pub answers_wide : (n : ℕ) → option_map first_branch (start o) ≡ None → answer o n ≡ record { verdict = wide; found = None }
  unfolding answer
  answers_wide n h = at_start (start o) h
    where
      at_start : (s : Option Context) → option_map first_branch s ≡ None → answered n s ≡ record { verdict = wide; found = None }
      at_start None k = refl
      at_start (Some c) k = absurd (cc)

  -- the proof of the answer, where there is one, is accepted
  pub answer_accepted : (n : ℕ) → IsWellSorted o → (found : Option Proof) → (answer o n).found ≡ found → IfSome found (IsAccepted o)
  answer_accepted n sorted None h = tt
  answer_accepted n sorted (Some p) h = finds_accepted o n p sorted h
