-- Accepted proofs, put together: a step before, or one behind; and how a proof ends.
use Rattle.std.proofs.Common.{◌≡◌, refl, sym, subst, ℕ, IsTrue, Some, List, [], ◌∷◌, ◌++◌}
use Rattle.logic_core.specs.Def.{Def}
use Rattle.proof_core.specs.Proof.{Step, Proof, proof, Proofs, End, by_close, by_cases}
use Rattle.proof_core.specs.Context.{Context}
use Rattle.proof_core.specs.Steps.{after_step}
use Rattle.proof_core.specs.Close.{closes}
use Rattle.proof_core.specs.Ends.{after_cases}
use Rattle.proof_core.specs.Accepted.{Leads, Refutes, RefuteEach}

module _ (defs : List Def) where
  -- steps, and then further steps
  pub leads_on : (ss ts : List Step) (c m d : Context) → Leads defs c ss m → Leads defs m ts d → Leads defs c (ss ++ ts) d
  leads_on [] ts c m d h k = subst (λ x. Leads defs x ts d) (sym h) k
  leads_on (s ∷ ss) ts c m d h k = (h.0, h.1, leads_on ss ts h.0 m d h.2 k)

  -- steps, and then one more
  pub leads_one_more : (ss : List Step) (s : Step) (c m d : Context) → Leads defs c ss m → after_step defs m s ≡ Some d → Leads defs c (ss ++ s ∷ []) d
  leads_one_more ss s c m d h e = leads_on ss (s ∷ []) c m d h (d, e, refl)

  -- steps lead to one context
  pub leads_one_way : (ss : List Step) (c d m : Context) → Leads defs c ss d → Leads defs c ss m → d ≡ m
  leads_one_way [] c d m h k = cc
  leads_one_way (s ∷ ss) c d m h k = let first : h.0 ≡ k.0 = cc (h.1, k.1) in leads_one_way ss k.0 d m (subst (λ x. Leads defs x ss d) first h.2) k.2

  -- steps before a proof
  pub refutes_on : (ss ts : List Step) (e : End) (c m : Context) → Leads defs c ss m → Refutes defs m (proof ts e) → Refutes defs c (proof (ss ++ ts) e)
  refutes_on ss ts e c m h r = (r.0, leads_on ss ts c m r.0 h r.1, r.2)

  -- one step before a proof
  pub refutes_before : (s : Step) (ts : List Step) (e : End) (c m : Context) → after_step defs c s ≡ Some m → Refutes defs m (proof ts e) → Refutes defs c (proof (s ∷ ts) e)
  refutes_before s ts e c m h r = (r.0, (m, h, r.1), r.2)

  -- a close, and a split whose cases are refuted
  pub refutes_by_close : (f g : ℕ) (c : Context) → IsTrue (closes c f g) → Refutes defs c (proof [] (by_close f g))
  refutes_by_close f g c h = (c, refl, h)

  pub refutes_by_cases : (f : ℕ) (p : Proof) (ps : Proofs) (c d : Context) (ds : List Context) → after_cases defs c f ≡ Some (d, ds) → Refutes defs d p → RefuteEach defs ds ps → Refutes defs c (proof [] (by_cases f p ps))
  refutes_by_cases f p ps c d ds e r rest = (c, refl, (d, ds, e, r, rest))
