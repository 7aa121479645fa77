-- Obligations that rename one another are one obligation once triggers are chosen and numbers are canonical.
use Rattle.std.specs.Prelude.{◌≡◌, refl, ℕ, ◌<◌, List, [], ◌∷◌, map, slice_get, Some, option_map}
use Rattle.std.specs.List.{AllByRecursion}
use Rattle.std.proofs.Common.{ap, sym, ◌∙◌}
use Rattle.std.proofs.lemmas.Option.{slice_get-map}
use Rattle.logic_core.specs.Tree.{Tree}
use Rattle.logic_core.specs.Def.{Def, Obligation}
use Rattle.logic_core.specs.Renamed.{both_renamed, EachHas}
use Rattle.obligation_text.specs.Canonical.{canonical}
use Rattle.quantifier_triggers.specs.Candidates.{is_plain}
use Rattle.quantifier_triggers.specs.Choice.{with_triggers, def_with_triggers, obligation_with_triggers}
use Rattle.obligation_text.proofs.RenamedTerms.{each_more}
use Rattle.rebuild_laws.proofs.TriggersHave.{with_triggers_has}
use Rattle.rebuild_laws.proofs.RenamedTriggers.{with_triggers_renamed}
use Rattle.obligation_text.proofs.SameCanonical.{Renames, same_canonical}

module _ (new_def new_var old_def old_var : ℕ → ℕ) (D V : ℕ → Type 0) (back_def : (f : ℕ) → D f → old_def (new_def f) ≡ f) (back_var : (v : ℕ) → V v → old_var (new_var v) ≡ v) where
  pub one_def : (f g : ℕ) → D f → D g → new_def f ≡ new_def g → f ≡ g
  one_def f g h k e = sym (back_def f h) ∙ ap old_def e ∙ back_def g k

  pub one_var : (u v : ℕ) → V u → V v → new_var u ≡ new_var v → u ≡ v
  one_var u v h k e = sym (back_var u h) ∙ ap old_var e ∙ back_var v k

  abbrev pub RenamesIn : List Def → List Def → ℕ → Type 0
  RenamesIn ds es f = Renames new_def new_var D V one_def one_var ds es f

  module _ (o p : Obligation)
      (vars : (v : ℕ) → V v → slice_get p.vars (new_var v) ≡ slice_get o.vars v)
      (defs : (f : ℕ) → D f → RenamesIn o.defs p.defs f)
      (axioms_covered : AllByRecursion (EachHas V D) o.axioms)
      (axioms : p.axioms ≡ map (both_renamed new_def new_var) o.axioms)
      (goal_covered : EachHas V D o.goal)
      (goal : p.goal ≡ both_renamed new_def new_var o.goal) where
    plain : (f : ℕ) → D f → is_plain (slice_get p.defs (new_def f)) ≡ is_plain (slice_get o.defs f)
    plain f h = ap is_plain (defs f h).new ∙ sym (ap is_plain (defs f h).old)

    term_with : (t : Tree) → EachHas V D t → with_triggers p.defs (both_renamed new_def new_var t) ≡ both_renamed new_def new_var (with_triggers o.defs t)
    term_with = with_triggers_renamed new_def new_var D V old_def old_var back_def back_var o.defs p.defs plain

    defs_with : (f : ℕ) → D f → RenamesIn (map (def_with_triggers o.defs) o.defs) (map (def_with_triggers p.defs) p.defs) f
    defs_with f h =
        let r = defs f h in
        let d = r.definition in
        let body = term_with d.body (each_more V (λ g. D g × (g < f) × (new_def g < new_def f)) V D (λ v k. k) (λ g k. k.0) d.body r.lower) in
        record {
          definition = def_with_triggers o.defs d;
          old = slice_get-map (def_with_triggers o.defs) o.defs f ∙ ap (option_map (def_with_triggers o.defs)) r.old;
          new = slice_get-map (def_with_triggers p.defs) p.defs (new_def f) ∙ ap (option_map (def_with_triggers p.defs)) r.new ∙ (λ i. Some (record { params = d.params; sort = d.sort; logical = d.logical; body = body i }));
          lower = with_triggers_has V (λ g. D g × (g < f) × (new_def g < new_def f)) o.defs d.body r.lower;
        }

    terms_with : (ts : List Tree) → AllByRecursion (EachHas V D) ts → map (with_triggers p.defs) (map (both_renamed new_def new_var) ts) ≡ map (both_renamed new_def new_var) (map (with_triggers o.defs) ts)
    terms_with [] h = refl
    terms_with (t ∷ ts) h = λ i. term_with t h.0 i ∷ terms_with ts h.1 i

    terms_covered : (ts : List Tree) → AllByRecursion (EachHas V D) ts → AllByRecursion (EachHas V D) (map (with_triggers o.defs) ts)
    terms_covered [] h = tt
    terms_covered (t ∷ ts) h = (with_triggers_has V D o.defs t h.0, terms_covered ts h.1)

    pub same_after_triggers : canonical (obligation_with_triggers p) ≡ canonical (obligation_with_triggers o)
    same_after_triggers =
        same_canonical new_def new_var D V one_def one_var (obligation_with_triggers o) (obligation_with_triggers p) vars defs_with
        (terms_covered o.axioms axioms_covered) (ap (map (with_triggers p.defs)) axioms ∙ terms_with o.axioms axioms_covered)
        (with_triggers_has V D o.defs o.goal goal_covered) (ap (with_triggers p.defs) goal ∙ term_with o.goal goal_covered)
