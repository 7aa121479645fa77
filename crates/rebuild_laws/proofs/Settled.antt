-- What the names of a procedure reach are positions of its module, and its own declarations lead into it.
use Rattle.std.specs.Prelude.{◌≡◌, ℕ, zero, suc, ◌+◌, ◌≤◌, ◌==◌, Bool, true, false, ◌||◌, cond, List, [], ◌∷◌, length, filter, flat_map}
use Rattle.std.specs.List.{AllByRecursion, range_with_len, list_any}
use Rattle.std.proofs.Common.{refl, ap, sym, ◌∙◌, subst, arith, inl, inr, ◌⊎◌}
use Rattle.std.proofs.lemmas.Bool.{eqb-true, eq-eqb}
use Rattle.bpl_model.specs.Module.{Proc, Module}
use Rattle.bpl_model.specs.Reach.{among, decl_at, positions, reaches_axiom, leads_to, reach_on, own_positions, reached_by}
use Rattle.logic_core.proofs.Booleans.{one_is_true as either_of, or_second}
use Rattle.rebuild_laws.proofs.ReachClosed.{is_passed, reached_stable}

pub same_number : (m n : ℕ) → (m == n) ≡ true → m ≡ n
same_number m n h = eqb-true m n h

pub itself : (n : ℕ) → (n == n) ≡ true
itself n = eq-eqb n n refl

-- what stays passed the test
pub among_passed : (p : ℕ → Bool) (xs : List ℕ) (x : ℕ) → among (filter p xs) x ≡ true → (among xs x ≡ true) × (p x ≡ true)
among_passed p [] x h = absurd (cc)
among_passed p (y ∷ ys) x h = by (p y) refl h (among_passed p ys x)
  where
    here : ((y == x) ≡ true) ⊎ (among (filter p ys) x ≡ true) → p y ≡ true → (among (filter p ys) x ≡ true → (among ys x ≡ true) × (p x ≡ true)) → (among (y ∷ ys) x ≡ true) × (p x ≡ true)
    here (inl q) e later = (ap (λ w. w || among ys x) q, sym (ap p (same_number y x q)) ∙ e)
    here (inr q) e later = let r = later q in (or_second (y == x) (among ys x) r.0, r.1)

    by : (b : Bool) → p y ≡ b → among (cond b (y ∷ filter p ys) (filter p ys)) x ≡ true → (among (filter p ys) x ≡ true → (among ys x ≡ true) × (p x ≡ true)) → (among (y ∷ ys) x ≡ true) × (p x ≡ true)
    by true e k later = here (either_of (y == x) (among (filter p ys) x) k) e later
    by false e k later = let r = later k in (or_second (y == x) (among ys x) r.0, r.1)

module _ (m : Module) where
  abbrev round : List ℕ → List ℕ
  round r = filter (leads_to m r) (positions m)

  -- what stands there stays in a round
  stays : (r : List ℕ) (d : ℕ) → among r d ≡ true → leads_to m r d ≡ true
  stays r d h = ap (λ w. w || (among (flat_map (λ r. (decl_at m r).contract_leads) r) d || reaches_axiom m r d)) h

  -- what stands there stays in all rounds
  stays_on : (n : ℕ) (r : List ℕ) (d : ℕ) → among (positions m) d ≡ true → among r d ≡ true → among (reach_on m n r) d ≡ true
  stays_on zero r d h g = g
  stays_on (suc n) r d h g = stays_on n (round r) d h (is_passed (leads_to m r) (positions m) d h (stays r d g))

  module _ (p : Proc) where
    abbrev own_leads : List ℕ
    own_leads = flat_map (λ d. (decl_at m d).leads) (own_positions m p)

    first_round : (n : ℕ) (r : List ℕ) → reach_on m (n + 1) r ≡ reach_on m n (round r)
    first_round n r = let e : n + 1 ≡ suc n = omega arith in ap (λ k. reach_on m k r) e

    -- they are positions of the module
    pub reached_within : (d : ℕ) → among (reached_by m p) d ≡ true → among (positions m) d ≡ true
    reached_within d h = (among_passed (leads_to m (reached_by m p)) (positions m) d (subst (λ w. among w d ≡ true) (sym (reached_stable m p)) h)).0

    -- what its own declarations lead to
    pub own_reached : (d : ℕ) → among (positions m) d ≡ true → among own_leads d ≡ true → among (reached_by m p) d ≡ true
    own_reached d h g = subst (λ w. among w d ≡ true) (sym (first_round (length m.texts) own_leads))
        (stays_on (length m.texts) (round own_leads) d h (is_passed (leads_to m own_leads) (positions m) d h (stays own_leads d g)))
