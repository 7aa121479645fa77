-- The body of a called definition, by number, and the formula in which it stands for the call.
use Rattle.std.proofs.Common.{◌≡◌, refl, sym, ap, subst, ◌∙◌, ℕ, ◌<◌, Option, Some, None, option_map, Result, List, [], map, length}
use Rattle.std.specs.Prelude.{slice_get}
use Rattle.std.specs.List.{AllByRecursion}
use Rattle.logic_core.specs.declared.fault.NormalFault.{NormalFault}
use Rattle.logic_core.specs.Tree.{Tree, call}
use Rattle.logic_core.specs.Def.{Def}
use Rattle.logic_core.specs.Normal.{normal}
use Rattle.logic_core.specs.Substitute.{substitute}
use Rattle.logic_core.specs.Subterm.{replaced}
use Rattle.logic_core.specs.Wide.{◌>>=◌}
use Rattle.logic_core.specs.View.{trees_of}
use Rattle.proof_core.specs.Replace.{body_of}
use Rattle.term_bank.specs.Numbered.{at}
use Rattle.logic_rules.specs.Unfolding.{unfolded_form}
use Rattle.logic_rules.proofs.Listed.{body_is, no_body}
use Rattle.numbered_terms.specs.At.{IsAt, GivesAt}
use Rattle.numbered_terms.specs.Stored.{Numbered, Grows}
use Rattle.numbered_facts.specs.Answers.{StandsFor}
use Rattle.numbered_logic.specs.Forms.{branch_over}
use Rattle.numbered_logic.proofs.Later.{at_later, terms_later}

module _ (defs : List Def) (f : ℕ) (ts : List Tree) where
  body_given : (b : Tree) (p : Option Def) → slice_get defs f ≡ p → option_map (λ d. d.body) p ≡ Some b → body_of defs (call f (trees_of ts)) ≡ Some (substitute b ts)
  body_given b None e h = absurd (cc)
  body_given b (Some d) e h = body_is defs f ts d e ∙ ap (λ u. Some (substitute u ts)) (let same : d.body ≡ b = cc in same)

  body_lacking : (p : Option Def) → slice_get defs f ≡ p → option_map (λ d. d.body) p ≡ None → body_of defs (call f (trees_of ts)) ≡ None
  body_lacking None e h = no_body defs f ts e
  body_lacking (Some d) e h = absurd (cc)

module _ (n m o : Numbered) (g : Grows n m) (f : ℕ) (args : List ℕ) (low : AllByRecursion (λ i. i < length n.terms) args) where
  pub applied_some : (body r : ℕ) → StandsFor m.terms (Some body) (option_map (λ d. d.body) (slice_get n.defs f)) → IsAt o.terms r (substitute (at m.terms body) (map (at m.terms) args))
      → StandsFor o.terms (Some r) (body_of n.defs (call f (trees_of (map (at n.terms) args))))
  applied_some body r h is = (is.0, body_given n.defs f (map (at n.terms) args) (at m.terms body) (slice_get n.defs f) refl h.1 ∙ ap Some (ap (substitute (at m.terms body)) (sym (terms_later n m args g low)) ∙ sym is.1))

  pub applied_none : StandsFor m.terms None (option_map (λ d. d.body) (slice_get n.defs f)) → body_of n.defs (call f (trees_of (map (at n.terms) args))) ≡ None
  applied_none h = body_lacking n.defs f (map (at n.terms) args) (slice_get n.defs f) refl h

-- the formula with the body for the call, in normal form
module _ (n m : Numbered) (g : Grows n m) (formula called : ℕ) (lf : formula < length n.terms) (lc : called < length n.terms) where
  abbrev form_by : Option Tree → Option Tree
  form_by o = o >>= λ u. normal n.vars n.defs [] (replaced (at n.terms called) u (at n.terms formula))

  same_form : (u : Tree) → normal m.vars m.defs [] (replaced (at m.terms called) u (at m.terms formula)) ≡ normal n.vars n.defs [] (replaced (at n.terms called) u (at n.terms formula))
  same_form u = λ k. normal (g.vars k) (g.defs k) [] (replaced (at_later n m called g lc k) u (at_later n m formula g lf k))

  pub form_some : (us : List Tree) (r : Result ℕ NormalFault) (body : ℕ) → StandsFor m.terms (Some body) (body_of n.defs (at n.terms called)) → GivesAt us r (normal m.vars m.defs [] (replaced (at m.terms called) (at m.terms body) (at m.terms formula)))
      → GivesAt us r (unfolded_form n.defs (branch_over n.vars) (at n.terms formula) (at n.terms called))
  form_some us r body stands h = subst (GivesAt us r) (same_form (at m.terms body) ∙ sym (ap form_by stands.1)) h

  pub form_none : StandsFor m.terms None (body_of n.defs (at n.terms called)) → unfolded_form n.defs (branch_over n.vars) (at n.terms formula) (at n.terms called) ≡ None
  form_none lacking = ap form_by lacking
