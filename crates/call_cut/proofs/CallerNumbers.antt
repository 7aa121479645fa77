-- A table of the caller's variables renames a contract as it is to be renamed, and the statements of a call one after another are its contract.
use Rattle.std.specs.Prelude.{◌≡◌, refl, ℕ, ◌+◌, ◌<◌, List, [], ◌∷◌, ◌++◌, map, length, Option, Some, None, slice_index_or}
use Rattle.std.specs.List.{AllByRecursion, range_with_len}
use Rattle.std.proofs.Common.{arith, ap, ◌∙◌, inl, inr}
use Rattle.std.proofs.lemmas.List.FromFn.{get_or-map-range_with_len}
use Rattle.bv_base.specs.declared.place.Place.{Place}
use Rattle.logic_core.specs.Tree.{Tree}
use Rattle.logic_core.specs.Variables.{variables, renamed}
use Rattle.logic_core.specs.Renamed.{new_number}
use Rattle.logic_core.proofs.EachOf.{every_map}
use Rattle.flow_core.specs.Clause.{formula_of}
use Rattle.bpl_model.specs.Module.{Stmt, assume, Spec, Local, Proc, Module}
use Rattle.bpl_model.specs.Numbering.{first_out, contract_sorts}
use Rattle.bpl_model.specs.Contract.{call_checks, postconditions}
use Rattle.bpl_model.specs.Typed.{IsSpec, HaveClauses}
use Rattle.bpl_model.specs.Cut.{over, result, check}
use Rattle.call_cut.specs.Own.{result_by}
use Rattle.call_cut.proofs.Longer.{Under}
use Rattle.call_cut.proofs.OwnVariables.{Known, local_clauses_known}
use Rattle.call_cut.proofs.Contracts.{contract_length, Early, checks_early, postconditions_known}
use Rattle.call_cut.proofs.RenamedAlike.{Agree, AgreeInClause, checks_alike, assumes_alike, results_alike}

module _ (m : Module) (q : Proc) (n : ℕ) (table : List ℕ) (is : table ≡ map (over m q n) (range_with_len 0 (first_out m q + length q.outs))) where
  new_is : (v : ℕ) → v < first_out m q + length q.outs → new_number table v ≡ over m q n v
  new_is v h = ap (λ t. slice_index_or t v v) is ∙ get_or-map-range_with_len (over m q n) 0 (first_out m q + length q.outs) v v v h (omega arith)

  agree : (E : Tree) → Under (first_out m q + length q.outs) E → Agree (new_number table) (over m q n) (variables E)
  agree E h = every_map (λ v. v < first_out m q + length q.outs) (λ v. new_number table v ≡ over m q n v) new_is (variables E) h

  early_is : (v : ℕ) → Early m q v → new_number table v ≡ over m q n v
  early_is v h = new_is v (elim h [ inl l ↦ omega (arith, l) | inr l ↦ let b = l.1 in omega (arith, b) ])

  pub checks_are : (at : Place) (ss : List Spec) → AllByRecursion (IsSpec m q) ss → map (check (new_number table) at) (call_checks at 0 ss) ≡ map (check (over m q n) at) (call_checks at 0 ss)
  checks_are at ss h = checks_alike (new_number table) (over m q n) at (call_checks at 0 ss)
      (every_map (λ c. AllByRecursion (Early m q) (variables (formula_of c))) (λ c. Agree (new_number table) (over m q n) (variables (formula_of c)))
      (λ c e. every_map (Early m q) (λ v. new_number table v ≡ over m q n v) early_is (variables (formula_of c)) e) (call_checks at 0 ss) (checks_early m q at 0 ss h))

  pub postconditions_are : (at : Place) (ss : List Spec) → AllByRecursion (IsSpec m q) ss
      → map (λ E. assume at (renamed (new_number table) E)) (postconditions ss) ≡ map (λ E. assume at (renamed (over m q n) E)) (postconditions ss)
  postconditions_are at ss h = assumes_alike (new_number table) (over m q n) at (postconditions ss)
      (every_map (Under (first_out m q + length q.outs)) (λ E. Agree (new_number table) (over m q n) (variables E)) agree (postconditions ss) (postconditions_known m q ss h))

  clause_agrees : (o : Option Tree) → Known (first_out m q + length q.outs) o → AgreeInClause (new_number table) (over m q n) o
  clause_agrees None h = tt
  clause_agrees (Some E) h = agree E h

  clauses_agree : (ls : List Local) → AllByRecursion (Known (first_out m q + length q.outs)) (map (λ (l : Local). l.clause) ls) → AllByRecursion (λ (l : Local). AgreeInClause (new_number table) (over m q n) l.clause) ls
  clauses_agree [] h = tt
  clauses_agree (l ∷ ls) h = (clause_agrees l.clause h.0, clauses_agree ls h.1)

  pub results_are : (ls : List Local) → HaveClauses m q (contract_sorts m q) ls → map (result_by (new_number table)) ls ≡ map (result m q n) ls
  results_are ls h = let l = contract_length m q in results_alike (new_number table) (over m q n) ls (clauses_agree ls (local_clauses_known m q (first_out m q + length q.outs) (contract_sorts m q) ls (omega (arith, l)) h))

-- statements pushed one after another
two_parts : (b h z : Stmt) (C P : List Stmt) → ((((C ++ b ∷ []) ++ h ∷ []) ++ P) ++ z ∷ []) ≡ C ++ b ∷ h ∷ (P ++ z ∷ [])
two_parts b h z [] P = refl
two_parts b h z (c ∷ C) P = λ i. c ∷ two_parts b h z C P i

pub pushed : (a b h z : Stmt) (C P : List Stmt) → (((((a ∷ []) ++ C) ++ b ∷ []) ++ h ∷ []) ++ P) ++ z ∷ [] ≡ a ∷ (C ++ b ∷ h ∷ (P ++ z ∷ []))
pushed a b h z C P = λ i. a ∷ two_parts b h z C P i
