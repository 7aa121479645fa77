-- The rule split is a rule of proofs; and the branches of children with one more fact each.
use Rattle.std.specs.Prelude.{◌≡◌, refl, ℕ, Some, option_map, is_none, List, [], ◌∷◌, All, map}
use Rattle.std.proofs.Common.{sym, ◌∙◌, ap, subst}
use Rattle.std.proofs.lemmas.List.Elements.{All-head, All-tail}
use Rattle.logic_core.specs.Tree.{Tree}
use Rattle.logic_core.specs.Def.{Def}
use Rattle.logic_core.specs.Wide.{◌>>=◌}
use Rattle.logic_laws.proofs.Options.{bind_some, map_some}
use Rattle.proof_core.specs.Proof.{Step}
use Rattle.proof_core.specs.Context.{Context, fact, with_fact, appended, children}
use Rattle.proof_core.specs.Split as proofs
use Rattle.proof_core.specs.Ends.{after_cases}
use Rattle.proof_core.specs.Soundness.{IsSorted}
use Rattle.proof_core.proofs.SplitSound.{cases_are_sound}
use Rattle.proof_core.proofs.Conditions.{when_then}
use Rattle.tableau_branch.specs.Branch.{Branch, context_of, gives, normal_in, without, each}
use Rattle.tableau_branch.specs.Oriented.{left_side}
use Rattle.tableau_branch.specs.Move.{Move, forks, steps_of, branches_of}
use Rattle.tableau_branch.specs.Cases.{case}
use Rattle.logic_rules.specs.Splitting.{cases_of, split_at}
use Rattle.logic_rules.specs.Splitting as splitting
use Rattle.tableau.proofs.Tracked.{IsKnown, found_known}
use Rattle.tableau.proofs.Outcomes.{LeadEach, IsPlaced, ArePlaced, Outcome}
use Rattle.tableau.proofs.Tightening.{placed_without}
use Rattle.tableau.proofs.Appending.{appended_normal, case_reached}
use Rattle.tableau.proofs.ClosingGoes.{found_at_oldest}

-- a context for each, with its own new fact
abbrev pub contexts_with : Context → List Tree → List Context
contexts_with c [] = []
contexts_with c (u ∷ us) = with_fact c u ∷ contexts_with c us

module _ (defs : List Def) where
  each_child : (b : Branch) (c : Context) (ts us : List Tree) → b.vars ≡ c.vars → each (normal_in defs b) ts ≡ Some us → children defs c ts ≡ Some (contexts_with c us)
  each_child b c [] us v h = let none : [] ≡ us = cc in subst (λ ys. Some [] ≡ Some (contexts_with c ys)) none refl
  each_child b c (t ∷ ts) us v h =
      let p = bind_some (normal_in defs b t) (λ u. each (normal_in defs b) ts >>= λ rest. Some (u ∷ rest)) us h in
      let q = bind_some (each (normal_in defs b) ts) (λ rest. Some (p.0 ∷ rest)) us p.2 in
      let is_us : p.0 ∷ q.0 ≡ us = cc in
      subst (λ ys. children defs c (t ∷ ts) ≡ Some (contexts_with c ys)) is_us (first_child c t p.0 ts (contexts_with c q.0) (appended_normal defs b.vars c t p.0 v p.1) (each_child b c ts q.0 v q.1))
    where
      first_child : (c : Context) (t u : Tree) (ts : List Tree) (ds : List Context) → appended defs c t ≡ Some (with_fact c u) → children defs c ts ≡ Some ds → children defs c (t ∷ ts) ≡ Some (with_fact c u ∷ ds)
      first_child c t u ts ds h k = rw (h, k) refl

  -- the branches of the children beside contexts to which their nodes lead
  pub record Led (starts : List Context) (sss : List (List Step)) (bs : List Branch) : Type 0 where
    pub ends : List Context
    pub lead : LeadEach defs starts sss ends
    pub placed : ArePlaced defs bs ends

  pub cases_lead : (b : Branch) (c : Context) (us : List Tree) → IsPlaced defs b c → All (IsSorted defs) (contexts_with c us) → Led (contexts_with c us) (steps_of (map (case b) us)) (branches_of (map (case b) us))
  cases_lead b c [] p s = record { ends = []; lead = tt; placed = tt }
  cases_lead b c (u ∷ us) p s =
      let one = case_reached defs b c u p (All-head (IsSorted defs) (with_fact c u) (contexts_with c us) s) in
      let rest = cases_lead b c us p (All-tail (IsSorted defs) (with_fact c u) (contexts_with c us) s) in
      record { ends = one.0 ∷ rest.ends; lead = (one.1.leads, rest.lead); placed = (one.1.placed, rest.placed) }

  -- the cases depend on the variables alone
  cases_over : (c : Context) (f : Tree) → proofs.cases defs (record { vars = c.vars; facts = [] }) f ≡ proofs.cases defs c f
  cases_over c f = refl

  splits : (c : Context) (n : ℕ) (g : Tree) (p : Tree × List Tree) (u : Tree) (ds : List Context) → fact c n ≡ Some g → proofs.cases defs c g ≡ Some p → appended defs c p.0 ≡ Some (with_fact c u) → children defs c p.1 ≡ Some ds → after_cases defs c n ≡ Some (with_fact c u, ds)
  splits c n g p u ds known form h k = rw (known, form, h, k) refl

  pub split_goes : (b : Branch) (c : Context) (m : Move) → splitting.split defs b ≡ gives m → IsPlaced defs b c → Outcome defs c m
  split_goes b c m h placed =
      let t = placed.tracks in
      let o = found_at_oldest (cases_of defs b) (split_at defs b) b m h in
      let a = o.0 in
      let k = found_known (cases_of defs b) (IsKnown c) 0 b.facts a o.1 t.facts in
      let number = (a.fact).number in
      let w = when_then (is_none (left_side b.vars defs (a.fact).term)) (option_map (λ p. p.0 ∷ p.1) (proofs.cases defs (context_of b) (a.fact).term)) a.what k.1 in
      let x = map_some (λ (p : Tree × List Tree). p.0 ∷ p.1) (proofs.cases defs (context_of b) (a.fact).term) a.what w.1 in
      let ps = x.0 in
      let form : proofs.cases defs c (a.fact).term ≡ Some ps = sym (cases_over c (a.fact).term) ∙ subst (λ vs. proofs.cases defs (record { vars = vs; facts = [] }) (a.fact).term ≡ Some ps) t.vars x.1 in
      let y = bind_some (each (normal_in defs b) a.what) (λ ts. Some (record { ending = forks number; made = map (case (without a.at b)) ts })) m o.2 in
      let z : each (normal_in defs b) (ps.0 ∷ ps.1) ≡ Some y.0 = ap (each (normal_in defs b)) x.2 ∙ y.1 in
      let p = bind_some (normal_in defs b ps.0) (λ u. each (normal_in defs b) ps.1 >>= λ rest. Some (u ∷ rest)) y.0 z in
      let q = bind_some (each (normal_in defs b) ps.1) (λ rest. Some (p.0 ∷ rest)) y.0 p.2 in
      let us = p.0 ∷ q.0 in
      let is_us : us ≡ y.0 = cc in
      let is_m : record { ending = forks number; made = map (case (without a.at b)) us } ≡ m = ap (λ (ts : List Tree). let n : Move = record { ending = forks number; made = map (case (without a.at b)) ts } in n) is_us ∙ (let e : record { ending = forks number; made = map (case (without a.at b)) y.0 } ≡ m = cc in e) in
      let after = splits c number (a.fact).term ps p.0 (contexts_with c q.0) k.0 form (appended_normal defs b.vars c ps.0 p.0 t.vars p.1) (each_child b c ps.1 q.0 t.vars q.1) in
      let sorted = (cases_are_sound number defs c (with_fact c p.0) (contexts_with c q.0) placed.sorted after).0 in
      let led = cases_lead (without a.at b) c us (placed_without defs b c a.at placed) sorted in
      subst (λ n. Outcome defs c n) is_m (record { contexts = led.ends; goes = (with_fact c p.0, contexts_with c q.0, after, led.lead); placed = led.placed })
