-- What is assumed and checked, over numbers and new ones.
use Rattle.std.specs.Prelude.{◌≡◌, refl, ℕ, true, false, List, [], ◌∷◌, map}
use Rattle.std.specs.List.{AllByRecursion}
use Rattle.std.proofs.Common.{ap, sym, subst, ◌∙◌}
use Rattle.logic_core.specs.Tree.{Tree}
use Rattle.logic_core.specs.Renamed.{both_renamed, EachHas}
use Rattle.logic_laws.proofs.RenamedVariables.{renames_nothing}
use Rattle.flow_core.specs.Reader.{command_of}
use Rattle.bpl_model.specs.Module.{Spec}
use Rattle.bpl_model.specs.Contract.{preconditions, end_checks}
use Rattle.bpl_blocks.specs.Blocks.{assume_all}
use Rattle.obligation_text.proofs.RenamedTerms.{renamed_twice, each_more}
use Rattle.rebuild_laws.proofs.Commands.{asserted, assumed_so, AlikeCommands, no_more, one_more}
use Rattle.rebuild_laws.proofs.LocalsAlike.{no_terms_alike}
use Rattle.rebuild_laws.specs.Alike.{AlikeTerms, AlikeSpec, both_require, both_ensure, both_modify, AlikeSpecs, no_specs, a_spec}

-- a term over fewer variables, where the new numbers are the same
pub term_moved : (new_def new_var then_var : ℕ → ℕ) (D V W : ℕ → Type 0) → ((v : ℕ) → V v → then_var v ≡ new_var v) → ((v : ℕ) → V v → W v) → (t : Tree) → EachHas V D t
    → (both_renamed new_def then_var t ≡ both_renamed new_def new_var t) × EachHas W D t
term_moved new_def new_var then_var D V W same more t h =
    (ap (both_renamed new_def then_var) (sym (renames_nothing t)) ∙ renamed_twice (λ f. f) (λ v. v) new_def then_var new_def new_var V D same (λ f k. refl) t h, each_more V D W D more (λ f k. k) t h)

module _ (new_def new_var : ℕ → ℕ) (D V : ℕ → Type 0) where
  pub preconditions_alike : (ss ts : List Spec) → AlikeSpecs new_def new_var D V ss ts → AlikeTerms new_def new_var D V (preconditions ss) (preconditions ts)
  preconditions_alike _ _ no_specs = no_terms_alike new_def new_var D V
  preconditions_alike _ _ (a_spec {ss = ss} {ts = ts} (both_require {E = E} h) rest) =
      let r = preconditions_alike ss ts rest in record { same = ap (λ us. both_renamed new_def new_var E ∷ us) r.same; covered = (h, r.covered) }
  preconditions_alike _ _ (a_spec {ss = ss} {ts = ts} (both_ensure h) rest) = preconditions_alike ss ts rest
  preconditions_alike _ _ (a_spec {ss = ss} {ts = ts} (both_modify h) rest) = preconditions_alike ss ts rest

  pub ends_alike : (ss ts : List Spec) → AlikeSpecs new_def new_var D V ss ts → AlikeCommands new_def new_var D V (map command_of (end_checks ss)) (map command_of (end_checks ts))
  ends_alike _ _ no_specs = no_more
  ends_alike _ _ (a_spec {ss = ss} {ts = ts} (both_require h) rest) = ends_alike ss ts rest
  ends_alike _ _ (a_spec {ss = ss} {ts = ts} (both_ensure {f = true} h) rest) = ends_alike ss ts rest
  ends_alike _ _ (a_spec {ss = ss} {ts = ts} (both_ensure {f = false} h) rest) = one_more (asserted h) (ends_alike ss ts rest)
  ends_alike _ _ (a_spec {ss = ss} {ts = ts} (both_modify h) rest) = ends_alike ss ts rest

  assumes_same : (ts : List Tree) → AllByRecursion (EachHas V D) ts → AlikeCommands new_def new_var D V (assume_all ts) (assume_all (map (both_renamed new_def new_var) ts))
  assumes_same [] h = no_more
  assumes_same (t ∷ ts) h = one_more (assumed_so h.0) (assumes_same ts h.1)

  pub assumes_alike : (ts us : List Tree) → AlikeTerms new_def new_var D V ts us → AlikeCommands new_def new_var D V (assume_all ts) (assume_all us)
  assumes_alike ts us a = subst (λ ws. AlikeCommands new_def new_var D V (assume_all ts) (assume_all ws)) (sym a.same) (assumes_same ts a.covered)

-- clauses over fewer variables
module _ (new_def new_var then_var : ℕ → ℕ) (D V W : ℕ → Type 0) (same : (v : ℕ) → V v → then_var v ≡ new_var v) (more : (v : ℕ) → V v → W v) where
  numbers_moved : (vs : List ℕ) → AllByRecursion V vs → (map then_var vs ≡ map new_var vs) × AllByRecursion W vs
  numbers_moved [] h = (refl, tt)
  numbers_moved (v ∷ vs) h = let r = numbers_moved vs h.1 in ((λ i. same v h.0 i ∷ r.0 i), (more v h.0, r.1))

  spec_moved : (s t : Spec) → AlikeSpec new_def new_var D V s t → AlikeSpec new_def then_var D W s t
  spec_moved _ _ (both_require {f = f} {p = p} {q = q} {E = E} h) =
      let r = term_moved new_def new_var then_var D V W same more E h in subst (λ F. AlikeSpec new_def then_var D W (Spec.requires f p E) (Spec.requires f q F)) r.0 (both_require r.1)
  spec_moved _ _ (both_ensure {f = f} {p = p} {q = q} {E = E} h) =
      let r = term_moved new_def new_var then_var D V W same more E h in subst (λ F. AlikeSpec new_def then_var D W (Spec.ensures f p E) (Spec.ensures f q F)) r.0 (both_ensure r.1)
  spec_moved _ _ (both_modify {vs = vs} h) =
      let r = numbers_moved vs h in subst (λ ws. AlikeSpec new_def then_var D W (Spec.modifies vs) (Spec.modifies ws)) r.0 (both_modify r.1)

  pub specs_moved : (ss ts : List Spec) → AlikeSpecs new_def new_var D V ss ts → AlikeSpecs new_def then_var D W ss ts
  specs_moved _ _ no_specs = no_specs
  specs_moved _ _ (a_spec {s = s} {t = t} {ss = ss} {ts = ts} a rest) = a_spec (spec_moved s t a) (specs_moved ss ts rest)
