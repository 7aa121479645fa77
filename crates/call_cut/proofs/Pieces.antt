-- The variables that a call owns, and its statements, from their pieces.
use Rattle.std.specs.Prelude.{◌≡◌, ℕ, ◌+◌, ◌-◌, List, [], ◌∷◌, ◌++◌, map, length, slice_get, zip}
use Rattle.std.specs.List.{range_with_len}
use Rattle.std.proofs.Common.{ap, ◌∙◌, append_assoc}
use Rattle.bv_base.specs.declared.place.Place.{Place}
use Rattle.logic_core.specs.Tree.{Tree, free}
use Rattle.logic_core.specs.Variables.{renamed}
use Rattle.logic_core.specs.Renamed.{new_number}
use Rattle.bpl_model.specs.Module.{Stmt, assign, havoc, assume, Spec, Local, Proc, Module}
use Rattle.bpl_model.specs.Numbering.{first_global, first_out}
use Rattle.bpl_model.specs.Contract.{call_checks, postconditions, modified}
use Rattle.bpl_model.specs.Typed.{IsTypedProc}
use Rattle.bpl_model.specs.Cut.{owned, owned_global, arguments, old_globals, results, result, over, check, own_variables, contract_of}
use Rattle.call_cut.specs.Own.{result_by}
use Rattle.call_cut.proofs.CallerNumbers.{checks_are, postconditions_are, results_are, pushed}

module _ (m : Module) (q : Proc) (n : ℕ) (typed : IsTypedProc m q) (table changed : List ℕ) (is : table ≡ map (over m q n) (range_with_len 0 (first_out m q + length q.outs))) (may : changed ≡ modified m q) where
  abbrev kept : ℕ → Local
  kept g = owned_global (slice_get m.globals (g - first_global m))

  pub own_made : (own a b ins outs : List Local) → ins ≡ q.ins → outs ≡ q.outs → a ≡ own ++ map owned ins → b ≡ a ++ map kept changed → b ++ map (result_by (new_number table)) outs ≡ own ++ own_variables m q n
  own_made own a b ins outs ei eo ea eb =
      (λ i. eb i ++ map (result_by (new_number table)) (eo i))
      ∙ ((λ i. (ea i ++ map kept (may i)) ++ results_are m q n table is q.outs typed.out_clauses i)
      ∙ ((λ i. ((own ++ map owned (ei i)) ++ map kept (modified m q)) ++ map (result m q n) q.outs)
      ∙ (append_assoc (own ++ map owned q.ins) (map kept (modified m q)) (map (result m q n) q.outs)
      ∙ append_assoc own (map owned q.ins) (map kept (modified m q) ++ map (result m q n) q.outs))))

  module _ (at : Place) (es : List Tree) (xs own : List ℕ) (results_own : own ≡ results m q n) (a b h z : Stmt) where
    pub contract_made : (s1 s2 s3 s4 s5 s6 : List Stmt) (first second : List Spec) → first ≡ q.specs → second ≡ q.specs
        → a ≡ assign at (zip (arguments m q n) es) → b ≡ assign at (zip (old_globals m q n) (map free (modified m q))) → h ≡ havoc at (changed ++ own) → z ≡ assign at (zip xs (map free own))
        → s1 ≡ a ∷ [] → s2 ≡ s1 ++ map (check (new_number table) at) (call_checks at 0 first) → s3 ≡ s2 ++ b ∷ [] → s4 ≡ s3 ++ h ∷ []
        → s5 ≡ s4 ++ map (λ E. assume at (renamed (new_number table) E)) (postconditions second) → s6 ≡ s5 ++ z ∷ [] → s6 ≡ contract_of m n at q es xs
    contract_made s1 s2 s3 s4 s5 s6 first second ef es' ea eb eh ez e1 e2 e3 e4 e5 e6 =
        let C = map (check (over m q n) at) (call_checks at 0 q.specs) in
        let P = map (λ E. assume at (renamed (over m q n) E)) (postconditions q.specs) in
        let checks = (λ i. map (check (new_number table) at) (call_checks at 0 (ef i))) ∙ checks_are m q n table is at q.specs typed.specs in
        let posts = (λ i. map (λ E. assume at (renamed (new_number table) E)) (postconditions (es' i))) ∙ postconditions_are m q n table is at q.specs typed.specs in
        let h' : h ≡ havoc at (modified m q ++ results m q n) = eh ∙ (λ i. havoc at (may i ++ results_own i)) in
        let z' : z ≡ assign at (zip xs (map free (results m q n))) = ez ∙ (λ i. assign at (zip xs (map free (results_own i)))) in
        let t2 = e2 ∙ (λ i. e1 i ++ checks i) in
        let t3 = e3 ∙ ap (λ (s : List Stmt). s ++ b ∷ []) t2 in
        let t4 = e4 ∙ ap (λ (s : List Stmt). s ++ h ∷ []) t3 in
        let t5 = e5 ∙ (λ i. t4 i ++ posts i) in
        let t6 = e6 ∙ ap (λ (s : List Stmt). s ++ z ∷ []) t5 in
        t6 ∙ (pushed a b h z C P ∙ (λ i. ea i ∷ (C ++ eb i ∷ h' i ∷ (P ++ z' i ∷ []))))
