-- Procedures that correspond have equal obligations.
use Rattle.std.specs.Prelude.{◌≡◌, refl, ℕ, ◌<◌, ◌≤◌, IsTrue, List, [], ◌∷◌, map, length, slice_get, Option, Some, None, Contains}
use Rattle.std.specs.List.{AllByRecursion}
use Rattle.std.proofs.Common.{ap, sym, subst, arith, ◌∙◌}
use Rattle.std.proofs.lemmas.List.Elements.{All-from_recursion, All-contains}
use Rattle.logic_core.proofs.EachOf.{every_append}
use Rattle.bpl_model.specs.Module.{Spec, requires, ensures, modifies, Stmts, Proc, Module}
use Rattle.bpl_model.specs.Numbering.{global_numbers, first_global, first_entry}
use Rattle.bpl_model.specs.NoGoto.{BodyHasNoGoto}
use Rattle.bpl_model.specs.Typed.{IsSpec, IsTypedProc, IsTypedModule}
use Rattle.bpl_model.specs.Contract.{named_in_modifies}
use Rattle.bpl_model.proofs.NumberLists.{proc_at}
use Rattle.vc_build.specs.declared.goal.Goal.{Goal}
use Rattle.vc_build.specs.Goals.{goals_by_passes}
use Rattle.vc_build.specs.Sound.{SequentsAreSorted}
use Rattle.vc_build.proofs.SortedGraph.{sorted_graph}
use Rattle.rebuild_laws.proofs.Ranges.{range_each}
use Rattle.rebuild_laws.proofs.NumbersAlike.{low_reads}
use Rattle.rebuild_laws.proofs.CallsAlike.{AlikeFound, nothing_found, both_found, Callees as Contracts}
use Rattle.rebuild_laws.proofs.ContractsAlike.{contract_alike}
use Rattle.rebuild_laws.proofs.CalleesMoved.{stmts_moved}
use Rattle.rebuild_laws.proofs.ProceduresSame.{with_stmts, procedures_same}
use Rattle.rebuild_laws.specs.Numbers.{new_all, Low}
use Rattle.rebuild_laws.specs.Procedures.{first_call, BeforeCalls, AlikeCallee, neither, both, Callees, AlikeBodies, no_bodies, bodies, Correspond, CorrespondingHaveOneObligations}

-- a typed contract modifies globals
abbrev IsGlobal : Module → ℕ → Type 0
IsGlobal m g = (first_global m ≤ g) × (g < first_entry m)

numbers_global : (m : Module) (vs : List ℕ) → AllByRecursion (Contains (global_numbers m)) vs → AllByRecursion (IsGlobal m) vs
numbers_global m [] h = tt
numbers_global m (v ∷ vs) h =
    (All-contains (IsGlobal m) (global_numbers m) v (All-from_recursion (IsGlobal m) (global_numbers m) (range_each (first_global m) (length m.globals))) h.0, numbers_global m vs h.1)

named_global : (m : Module) (c : Proc) (ss : List Spec) → AllByRecursion (IsSpec m c) ss → AllByRecursion (IsGlobal m) (named_in_modifies ss)
named_global m c [] h = tt
named_global m c (requires f p E ∷ ss) h = named_global m c ss h.1
named_global m c (ensures f p E ∷ ss) h = named_global m c ss h.1
named_global m c (modifies vs ∷ ss) h = every_append (IsGlobal m) vs (named_in_modifies ss) (numbers_global m vs h.0) (named_global m c ss h.1)

module _ (sequents : SequentsAreSorted) (m n : Module) (p q : Proc) (tm : IsTypedModule m) (c : Correspond m n p q) where
  abbrev D : ℕ → Type 0
  D g = IsTrue (c.defs? g)

  abbrev V : ℕ → Type 0
  V = BeforeCalls m n c.vars? c.vars_there? c.new_low c.old_low p

  abbrev new : ℕ → ℕ
  new = new_all m n c.vars? c.vars_there? c.new_low c.old_low

  abbrev under : (v : ℕ) → V v → v < first_call m p
  under v h = h.1

  from_low : (v : ℕ) → Low m n c.vars? c.vars_there? c.new_low c.old_low v → V v
  from_low v l = (low_reads m n c.vars? c.vars_there? c.new_low c.old_low v l, let low = l.0 in omega (low, arith))

  callee : (o u : Option Proc) → ((d : Proc) → o ≡ Some d → IsTypedProc m d) → AlikeCallee m n c.vars? c.vars_there? c.new_low c.old_low c.new_def D o u → AlikeFound m n c.new_def new D V (first_call m p) (first_call n q) under o u
  callee _ _ typed neither = nothing_found
  callee _ _ typed (both {c = d} {d = e} a) =
      both_found
      (contract_alike m n c.vars? c.vars_there? c.new_low c.old_low c.numbers c.new_def D c.globals d e a (named_global m d d.specs (typed d refl).specs) V (first_call m p) (first_call n q) under from_low (omega arith) (omega arith))

  contracts : (k l : ℕ) → Callees m n c.vars? c.vars_there? c.new_low c.old_low c.new_def D k l → Contracts m n c.new_def new D V (first_call m p) (first_call n q) under k l
  contracts k l a = callee (slice_get m.procs k) (slice_get n.procs l) (λ d e. proc_at m (IsTypedProc m) m.procs k d tm.procs e) a

  with_bodies : (o u : Option Stmts) → AlikeBodies m n c.vars? c.vars_there? c.new_low c.old_low c.new_def D V o u → p.body ≡ o → q.body ≡ u → Contains m.procs p → BodyHasNoGoto p.body
      → map (λ (g : Goal). g.obligation) (goals_by_passes n q) ≡ map (λ (g : Goal). g.obligation) (goals_by_passes m p)
  with_bodies _ _ no_bodies e f there none =
      let mine : p ≡ record p { body = None } = λ i. record p { body = e i } in
      let theirs : q ≡ record q { body = None } = λ i. record q { body = f i } in
      ap (λ x. map (λ (g : Goal). g.obligation) (goals_by_passes n x)) theirs ∙ sym (ap (λ x. map (λ (g : Goal). g.obligation) (goals_by_passes m x)) mine)
  with_bodies _ _ (bodies {ss = ss} {ts = ts} a) e f there none =
      let mine : p ≡ with_stmts p ss = λ i. record p { body = e i } in
      let theirs : q ≡ with_stmts q ts = λ i. record q { body = f i } in
      let there' = subst (Contains m.procs) mine there in
      let none' = subst BodyHasNoGoto e none in
      ap (λ x. map (λ (g : Goal). g.obligation) (goals_by_passes n x)) theirs
      ∙ procedures_same m n p q ss ts c.vars? c.vars_there? c.new_low c.old_low c.numbers c.new_def c.old_def D c.back c.globals c.ins c.outs c.locals c.specs
      (stmts_moved c.new_def new D V (Callees m n c.vars? c.vars_there? c.new_low c.old_low c.new_def D) (Contracts m n c.new_def new D V (first_call m p) (first_call n q) under) contracts ss ts a)
      c.entry c.axioms c.definitions (sorted_graph m (with_stmts p ss) tm there' none').sorted (sequents m (with_stmts p ss) tm there' none')
      ∙ sym (ap (λ x. map (λ (g : Goal). g.obligation) (goals_by_passes m x)) mine)

pub corresponding : SequentsAreSorted → CorrespondingHaveOneObligations
corresponding sequents m n p q tm there none c = with_bodies sequents m n p q tm c p.body q.body c.body refl refl there none
