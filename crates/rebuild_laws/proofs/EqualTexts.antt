-- Two procedures with one dependency text correspond, and so have equal obligations.
use Rattle.std.specs.Prelude.{◌≡◌, ℕ, ◌<◌, ◌^◌, List, map, length, None, Contains}
use Rattle.std.proofs.Common.{sym, ◌∙◌, subst}
use Rattle.bpl_ast.specs.Statement.{Decl}
use Rattle.bpl_model.specs.Module.{Proc, Module}
use Rattle.bpl_model.specs.Reach.{own_positions}
use Rattle.bpl_declaration_faults.specs.DeclFaults.{fault_of}
use Rattle.canonical_text.specs.SameStatement.{bare_decl}
use Rattle.canonical_text.specs.RoundTrip.{AreWrittenDecls}
use Rattle.canonical_text.specs.Heads.{bare_head, HaveBody}
use Rattle.bpl_resolve.specs.Elaborate.{module_of}
use Rattle.bpl_resolve.specs.ModuleLaws.{FaultlessIsTyped, FaultlessGoesForward}
use Rattle.vc_build.specs.declared.goal.Goal.{Goal}
use Rattle.vc_build.specs.Depends.{depends}
use Rattle.vc_build.specs.Goals.{goals}
use Rattle.vc_build.specs.Rebuild.{with_body}
use Rattle.rebuild_laws.specs.DependencyTexts.{bodies_at, other_positions}
use Rattle.rebuild_laws.specs.Procedures.{Correspond, CorrespondingHaveEqualGoals}
use Rattle.rebuild_laws.proofs.TextsOfProcedures.{is_procedure, its_body, dependency_texts_tell}
use Rattle.rebuild_laws.specs.Resolved.{IsResolved, EqualDependencyTextsHaveEqualObligations}
use Rattle.rebuild_laws.proofs.SameNames.{vars_met, functions_met, new_low, new_function}
use Rattle.rebuild_laws.proofs.NamesOfTexts.{numbers}
use Rattle.rebuild_laws.proofs.AxiomsOfTexts.{reached_axioms_alike}
use Rattle.rebuild_laws.proofs.GlobalsOfTexts.{globals_alike}
use Rattle.rebuild_laws.proofs.EntryOfTexts.{reached_clauses_alike}
use Rattle.rebuild_laws.proofs.DefinitionsOfTexts.{functions_back, definitions_alike}
use Rattle.rebuild_laws.proofs.ProceduresOfTexts.{own_ins_alike, own_outs_alike, own_locals_alike, own_specs_alike, own_body_alike}

module _ (ds : List Decl) (p : Proc) (es : List Decl) (q : Proc) (none : fault_of ds ≡ None) (none_there : fault_of es ≡ None)
    (written : AreWrittenDecls 0 ds) (written_there : AreWrittenDecls 0 es) (few : length ds < 2 ^ 64) (few_there : length es < 2 ^ 64)
    (stands : Contains (with_body (module_of ds)) p) (stands_there : Contains (with_body (module_of es)) q)
    (texts : depends (module_of ds) p ≡ depends (module_of es) q) where
  body : HaveBody (bodies_at ds (own_positions (module_of ds) p))
  body = its_body ds written none p stands

  body_there : HaveBody (bodies_at es (own_positions (module_of es) q))
  body_there = its_body es written_there none_there q stands_there

  own : map bare_decl (bodies_at ds (own_positions (module_of ds) p)) ≡ map bare_decl (bodies_at es (own_positions (module_of es) q))
  own = (dependency_texts_tell ds es p q written written_there none none_there stands stands_there texts).0

  others : map bare_head (bodies_at ds (other_positions (module_of ds) p)) ≡ map bare_head (bodies_at es (other_positions (module_of es) q))
  others = (dependency_texts_tell ds es p q written written_there none none_there stands stands_there texts).1

  correspond : Correspond (module_of ds) (module_of es) p q
  correspond = record {
    vars? = vars_met ds p;
    vars_there? = vars_met es q;
    new_low = new_low ds es;
    old_low = new_low es ds;
    numbers = numbers ds p es q none none_there body body_there own others;
    defs? = functions_met ds p;
    new_def = new_function ds es;
    old_def = new_function es ds;
    back = functions_back ds p es q none none_there body body_there own others;
    definitions = definitions_alike ds p es q none none_there body body_there own others;
    globals = globals_alike ds p es q none none_there body body_there own others;
    ins = own_ins_alike ds p es q none none_there body body_there own others written written_there stands stands_there;
    outs = own_outs_alike ds p es q none none_there body body_there own others written written_there stands stands_there;
    locals = own_locals_alike ds p es q none none_there body body_there own others written written_there stands stands_there;
    specs = own_specs_alike ds p es q none none_there body body_there own others written written_there stands stands_there;
    body = own_body_alike ds p es q none none_there body body_there own others written written_there stands stands_there;
    entry = reached_clauses_alike ds p es q none none_there body body_there own others written written_there;
    axioms = reached_axioms_alike ds p es q none none_there body body_there own others written written_there few few_there;
  }

  equal_goals : CorrespondingHaveEqualGoals → FaultlessIsTyped → FaultlessGoesForward
      → map (λ (g : Goal). g.obligation) (goals (module_of ds) p) ≡ map (λ (g : Goal). g.obligation) (goals (module_of es) q)
  equal_goals corresponding typed ahead = sym (corresponding (module_of ds) (module_of es) p q (typed ds none) (ahead ds none) (is_procedure ds written none p stands) correspond)

pub equal_obligations : CorrespondingHaveEqualGoals → FaultlessIsTyped → FaultlessGoesForward → EqualDependencyTextsHaveEqualObligations
equal_obligations corresponding typed ahead m n p q r s stands stands_there texts =
    (λ i. map (λ (g : Goal). g.obligation) (goals (r.is i) p))
    ∙ (equal_goals r.decls p s.decls q r.faultless s.faultless r.written s.written r.few s.few
    (subst (λ x. Contains (with_body x) p) r.is stands) (subst (λ x. Contains (with_body x) q) s.is stands_there)
    ((λ i. depends (sym r.is i) p) ∙ (texts ∙ (λ i. depends (s.is i) q)))
    corresponding typed ahead
    ∙ (λ i. map (λ (g : Goal). g.obligation) (goals (sym s.is i) q)))
