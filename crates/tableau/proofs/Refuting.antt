-- A search that ends Proved has the proof of its first branch.
use Rattle.std.specs.Prelude.{◌≡◌, refl, ℕ, zero, suc, ◌-◌, nat_lt, Bool, true, false, Option, Some, None, List, [], ◌∷◌, ◌++◌, slice_get}
use Rattle.std.proofs.Common.{◌∙◌, subst}
use Rattle.logic_core.specs.Def.{Def}
use Rattle.proof_core.specs.Proof.{Proof}
use Rattle.proof_core.specs.Context.{Context, start}
use Rattle.proof_core.specs.Accepted.{Refutes, IsAccepted}
use Rattle.proof_core.specs.Soundness.{IsSorted}
use Rattle.proof_core.proofs.CloseSound.{start_is_sound}
use Rattle.tableau_branch.specs.Branch.{Branch, Attempt, none, leaves, gives}
use Rattle.tableau_branch.specs.Move.{Move, Played, cost, branches_of, steps_of}
use Rattle.tableau.specs.Search.{first_rule, rules, step, Verdict, proved, «open», turns, wide, Run, ended, after, after_attempt, run, proofs_before, first_branch, Answer, answer_of, found_by, answer, FindsAccepted}
use Rattle.tableau.proofs.Tracked.{numbered_known}
use Rattle.tableau.proofs.Outcomes.{IsPlaced, ArePlaced, placed_append, Outcome, RefutedBy, refuted_before}
use Rattle.tableau.proofs.ClosingGoes.{close_goes}
use Rattle.tableau.proofs.FlatteningGoes.{flatten_goes}
use Rattle.tableau.proofs.RewritingGoes.{rewrite_goes}
use Rattle.tableau.proofs.UnfoldingGoes.{unfold_goes}
use Rattle.tableau.proofs.SkolemGoes.{skolem_goes, differ_goes}
use Rattle.tableau.proofs.SplittingGoes.{split_goes}
use Rattle.tableau.proofs.TrichotomyGoes.{trichotomy_goes}
use Rattle.tableau.proofs.ConditionGoes.{condition_goes}
use Rattle.tableau.proofs.PastGoes.{past_goes, back_goes}
use Rattle.tableau.proofs.InstantiatingGoes.{instantiate_goes}
use Rattle.tableau.proofs.CombiningGoes.{combine_goes}

module _ (defs : List Def) where
  -- what a rule gives goes on in contexts
  abbrev RuleGoes : (Branch → Attempt Move) → Type 0
  RuleGoes r = (b : Branch) (c : Context) (m : Move) → r b ≡ gives m → IsPlaced defs b c → Outcome defs c m

  one_rule_more : (r : Branch → Attempt Move) (rs : List (Branch → Attempt Move)) → RuleGoes r → RuleGoes (first_rule rs) → RuleGoes (first_rule (r ∷ rs))
  one_rule_more r rs go others b c m h placed = at_rule (r b) refl h
    where
      at_rule : (x : Attempt Move) → r b ≡ x → (elim x [ none ↦ first_rule rs b | leaves ↦ leaves | gives n ↦ gives n ]) ≡ gives m → Outcome defs c m
      at_rule none e k = others b c m k placed
      at_rule leaves e k = absurd (cc)
      at_rule (gives n) e k = go b c m (e ∙ k) placed

  no_rule : RuleGoes (first_rule [])
  no_rule b c m h placed = absurd (cc)

  -- what each of these rules gives goes on
  abbrev AllGo : List (Branch → Attempt Move) → Type 0
  AllGo [] = Unit {0}
  AllGo (r ∷ rs) = RuleGoes r × AllGo rs

  first_goes : (rs : List (Branch → Attempt Move)) → AllGo rs → RuleGoes (first_rule rs)
  first_goes [] all = no_rule
  first_goes (r ∷ rs) all = one_rule_more r rs all.0 (first_goes rs all.1)

  step_goes : RuleGoes (step defs)
  unfolding step
  step_goes = first_goes (rules defs) (
    close_goes defs,
    (
      flatten_goes defs,
      (
        skolem_goes defs,
        (
          rewrite_goes defs,
          (
            back_goes defs,
            (
              unfold_goes defs,
              (
                combine_goes defs,
                (
                  trichotomy_goes defs,
                  (split_goes defs, (condition_goes defs, (past_goes defs, (differ_goes defs, (instantiate_goes defs, tt))))),
                ),
              ),
            ),
          ),
        ),
      ),
    ),
  )

  -- the moves of a run that ends Proved make proofs of its branches
  abbrev Proves : List Context → Run → Type 0
  Proves cs r = r.verdict ≡ proved → RefutedBy defs cs (proofs_before r.moves [])

  proves_after : (c : Context) (cs : List Context) (m : Move) (o : Outcome defs c m) (r : Run) → Proves (o.contexts ++ cs) r → Proves (c ∷ cs) (after m r)
  proves_after c cs m o r rest h = refuted_before defs m.ending (steps_of m.made) c o.contexts cs (proofs_before r.moves []) o.goes (rest h)

  proves_attempt : (rest : ℕ → List Branch → Run) (left : ℕ) (b : Branch) (bs : List Branch) (c : Context) (cs : List Context) → IsPlaced defs b c → ArePlaced defs bs cs
      → ((l : ℕ) (s : List Branch) (ds : List Context) → ArePlaced defs s ds → Proves ds (rest l s)) → (x : Attempt Move) → step defs b ≡ x → Proves (c ∷ cs) (after_attempt rest left bs x)
  proves_attempt rest left b bs c cs placed others further none e h = absurd (cc)
  proves_attempt rest left b bs c cs placed others further leaves e h = absurd (cc)
  proves_attempt rest left b bs c cs placed others further (gives m) e h = at_cost (nat_lt left (cost m)) h
    where
      o : Outcome defs c m
      o = step_goes b c m e placed

      at_cost : (x : Bool) → Proves (c ∷ cs) (elim x [ true ↦ ended turns | false ↦ after m (rest (left - cost m) (branches_of m.made ++ bs)) ])
      at_cost true k = absurd (cc)
      at_cost false k = proves_after c cs m o (rest (left - cost m) (branches_of m.made ++ bs)) (further (left - cost m) (branches_of m.made ++ bs) (o.contexts ++ cs) (placed_append defs (branches_of m.made) bs o.contexts cs o.placed others)) k

  run_proves : (n left : ℕ) (bs : List Branch) (cs : List Context) → ArePlaced defs bs cs → Proves cs (run defs n left bs)
  run_proves n left [] [] placed h = tt
  run_proves n left [] (c ∷ cs) placed h = absurd placed
  run_proves n left (b ∷ bs) [] placed h = absurd placed
  run_proves zero left (b ∷ bs) (c ∷ cs) placed h = proves_attempt (λ l s. ended turns) left b bs c cs placed.0 placed.1 (λ l s ds p k. absurd (cc)) (step defs b) refl h
  run_proves (suc n) left (b ∷ bs) (c ∷ cs) placed h = proves_attempt (λ l s. run defs n l s) left b bs c cs placed.0 placed.1 (λ l s ds p k. run_proves n l s ds p k) (step defs b) refl h

-- the first facts stand in the context of the start
first_placed : (defs : List Def) (c : Context) → IsSorted defs c → IsPlaced defs (first_branch c) c
first_placed defs c sorted = record { tracks = record { vars = refl; next = refl; facts = numbered_known c.vars [] c.facts 0 refl }; sorted = sorted }

found_proved : (v : Verdict) (ms : List Played) (p : Proof) → found_by v ms ≡ Some p → (v ≡ proved) × (slice_get (proofs_before ms []) 0 ≡ Some p)
found_proved proved ms p h = (refl, h)
found_proved «open» ms p h = absurd (cc)
found_proved turns ms p h = absurd (cc)
found_proved wide ms p h = absurd (cc)

first_refutes : (defs : List Def) (c : Context) (ps : List Proof) (p : Proof) → RefutedBy defs (c ∷ []) ps → slice_get ps 0 ≡ Some p → Refutes defs c p
first_refutes defs c [] p r h = absurd (cc)
first_refutes defs c (q ∷ ps) p r h = let is_p : q ≡ p = cc in subst (Refutes defs c) is_p r.0

-- the proof that the search finds is accepted
pub finds_accepted : FindsAccepted
unfolding answer
finds_accepted o n p sorted h = at_start (start o) refl h
  where
    at_start : (s : Option Context) → start o ≡ s → (let a : Answer = elim s [ None ↦ record { verdict = wide; found = None } | Some c ↦ answer_of (run o.defs n n (first_branch c ∷ [])) ] in a.found) ≡ Some p → IsAccepted o p
    at_start None e k = absurd (cc)
    at_start (Some c) e k =
        let r = run o.defs n n (first_branch c ∷ []) in
        let found = found_proved r.verdict r.moves p k in
        let placed = first_placed o.defs c (start_is_sound o c sorted e).0 in
        (c, e, first_refutes o.defs c (proofs_before r.moves []) p (run_proves o.defs n n (first_branch c ∷ []) (c ∷ []) (placed, tt) found.0) found.1)
