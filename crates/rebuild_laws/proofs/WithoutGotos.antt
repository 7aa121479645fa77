-- Procedures that correspond do so without their gotos, and so have equal goals.
use Rattle.std.specs.Prelude.{◌≡◌, refl, ℕ, zero, suc, ◌+◌, Bool, false, cond, IsTrue, List, [], ◌∷◌, length, filter, filter_map, flat_map, slice_get, Option, Some, None, option_map, Contains}
use Rattle.std.specs.List.{list_any}
use Rattle.std.proofs.Common.{ap, sym, subst, ◌∙◌}
use Rattle.std.proofs.lemmas.Option.{slice_get-map}
use Rattle.logic_core.specs.Tree.{Tree}
use Rattle.bpl_model.specs.Module.{Global, Stmts, Proc, Module}
use Rattle.bpl_model.specs.Reach.{decl_at, positions, is_named, leads_to, reach_on, own_positions, reached_by, globals_among, reached_clauses}
use Rattle.bpl_goto.specs.Removed.{body_without, removed, remove_gotos}
use Rattle.bpl_goto.specs.Kept.{RemoveGotosKeepsFailures, RemoveGotosStaysTyped}
use Rattle.vc_build.specs.Depends.{is_reached_axiom, axioms_among, reached_axioms}
use Rattle.vc_build.proofs.Some.{in_mapped}
use Rattle.rebuild_laws.proofs.CalleesMoved.{stmts_moved}
use Rattle.rebuild_laws.proofs.RemovedAlike.{body_without_alike}
use Rattle.rebuild_laws.specs.Numbers.{new_all, Low, LowNumbers, GlobalsAlike}
use Rattle.rebuild_laws.specs.Alike.{AlikeTerms}
use Rattle.rebuild_laws.specs.Procedures.{BeforeCalls, AlikeSignature, AlikeCallee, neither, both, Callees, AlikeDef, AlikeBodies, no_bodies, bodies, Correspond, CorrespondingHaveOneObligations, CorrespondingHaveEqualGoals}

-- what is reached is what was
module _ (m : Module) where
  reach_same : (n : ℕ) (reached : List ℕ) → reach_on (remove_gotos m) n reached ≡ reach_on m n reached
  reach_same zero reached = refl
  reach_same (suc n) reached = reach_same n (filter (leads_to m reached) (positions m))

  globals_same : (reached : List ℕ) (before : Bool) (gs : List Global) → globals_among (remove_gotos m) reached before gs ≡ globals_among m reached before gs
  globals_same reached before [] = refl
  globals_same reached before (g ∷ gs) =
      let now = cond (list_any (is_named m g.name) (positions m)) (list_any (is_named m g.name) reached) before in
      ap (λ rest. cond now (g ∷ rest) rest) (globals_same reached now gs)

  axioms_same : (reached : List ℕ) (k : ℕ) (ts : List Tree) → axioms_among (remove_gotos m) reached k ts ≡ axioms_among m reached k ts
  axioms_same reached k [] = refl
  axioms_same reached k (t ∷ later) = ap (λ rest. cond (is_reached_axiom m reached k) (t ∷ rest) rest) (axioms_same reached (k + 1) later)

  module _ (p : Proc) where
    reached_same : reached_by (remove_gotos m) (removed p) ≡ reached_by m p
    reached_same = reach_same (length m.texts + 1) (flat_map (λ d. (decl_at m d).leads) (own_positions m p))

    clauses_same : reached_clauses (remove_gotos m) (removed p) ≡ reached_clauses m p
    clauses_same = ap (λ gs. filter_map (λ (g : Global). g.clause) gs) (globals_same (reached_by (remove_gotos m) (removed p)) false m.globals ∙ ap (λ reached. globals_among m reached false m.globals) reached_same)

    axioms_left : reached_axioms (remove_gotos m) (removed p) ≡ reached_axioms m p
    axioms_left = axioms_same (reached_by (remove_gotos m) (removed p)) 1 m.axioms ∙ ap (λ reached. axioms_among m reached 1 m.axioms) reached_same

module _ (m n : Module) (p q : Proc) (c : Correspond m n p q) where
  abbrev M : Module
  M = remove_gotos m

  abbrev N : Module
  N = remove_gotos n

  abbrev D : ℕ → Type 0
  D g = IsTrue (c.defs? g)

  abbrev V : ℕ → Type 0
  V = BeforeCalls m n c.vars? c.vars_there? c.new_low c.old_low p

  abbrev Lows : ℕ → Type 0
  Lows = Low m n c.vars? c.vars_there? c.new_low c.old_low

  abbrev new : ℕ → ℕ
  new = new_all m n c.vars? c.vars_there? c.new_low c.old_low

  numbers : LowNumbers M N c.vars? c.vars_there? c.new_low c.old_low
  numbers =
      let low = c.numbers in
      record { reached = low.reached; here = low.here; there = low.there; passes = low.passes; back = low.back; constant = low.constant; global = low.global; entry = low.entry }

  globals : GlobalsAlike M N c.vars? c.vars_there? c.new_low c.old_low c.new_def D
  globals v from before reached =
      let g = c.globals v from before reached in
      record { mine = g.mine; theirs = g.theirs; here = g.here; there = g.there; sort = g.sort; clause = g.clause }

  definitions : (f : ℕ) → D f → AlikeDef M N c.vars? c.vars_there? c.new_low c.old_low c.new_def D f
  definitions f h =
      let d = c.definitions f h in
      record { definition = d.definition; old = d.old; new = d.new; lower = d.lower }

  signature : (d e : Proc) → AlikeSignature m n c.vars? c.vars_there? c.new_low c.old_low c.new_def D d e → AlikeSignature M N c.vars? c.vars_there? c.new_low c.old_low c.new_def D (removed d) (removed e)
  signature d e a = record { ins = a.ins; outs = a.outs; specs = a.specs }

  callee : (o u : Option Proc) → AlikeCallee m n c.vars? c.vars_there? c.new_low c.old_low c.new_def D o u → AlikeCallee M N c.vars? c.vars_there? c.new_low c.old_low c.new_def D (option_map removed o) (option_map removed u)
  callee _ _ neither = neither
  callee _ _ (both {c = d} {d = e} a) = both (signature d e a)

  callees : (k l : ℕ) → Callees m n c.vars? c.vars_there? c.new_low c.old_low c.new_def D k l → Callees M N c.vars? c.vars_there? c.new_low c.old_low c.new_def D k l
  callees k l a =
      subst (λ o. AlikeCallee M N c.vars? c.vars_there? c.new_low c.old_low c.new_def D o (slice_get N.procs l)) (sym (slice_get-map removed m.procs k))
      (subst (λ u. AlikeCallee M N c.vars? c.vars_there? c.new_low c.old_low c.new_def D (option_map removed (slice_get m.procs k)) u) (sym (slice_get-map removed n.procs l))
      (callee (slice_get m.procs k) (slice_get n.procs l) a))

  body : (o u : Option Stmts) → AlikeBodies m n c.vars? c.vars_there? c.new_low c.old_low c.new_def D V o u → AlikeBodies M N c.vars? c.vars_there? c.new_low c.old_low c.new_def D V (option_map body_without o) (option_map body_without u)
  body _ _ no_bodies = no_bodies
  body _ _ (bodies {ss = ss} {ts = ts} a) =
      bodies (stmts_moved c.new_def new D V (Callees m n c.vars? c.vars_there? c.new_low c.old_low c.new_def D) (Callees M N c.vars? c.vars_there? c.new_low c.old_low c.new_def D) callees (body_without ss) (body_without ts)
      (body_without_alike c.new_def new D V (Callees m n c.vars? c.vars_there? c.new_low c.old_low c.new_def D) ss ts a))

  entry : AlikeTerms c.new_def c.new_low D Lows (reached_clauses M (removed p)) (reached_clauses N (removed q))
  entry = subst (λ ts. AlikeTerms c.new_def c.new_low D Lows ts (reached_clauses N (removed q))) (sym (clauses_same m p)) (subst (AlikeTerms c.new_def c.new_low D Lows (reached_clauses m p)) (sym (clauses_same n q)) c.entry)

  axioms : AlikeTerms c.new_def c.new_low D Lows (reached_axioms M (removed p)) (reached_axioms N (removed q))
  axioms = subst (λ ts. AlikeTerms c.new_def c.new_low D Lows ts (reached_axioms N (removed q))) (sym (axioms_left m p)) (subst (AlikeTerms c.new_def c.new_low D Lows (reached_axioms m p)) (sym (axioms_left n q)) c.axioms)

  correspond_without : Correspond M N (removed p) (removed q)
  correspond_without = record {
    vars? = c.vars?;
    vars_there? = c.vars_there?;
    new_low = c.new_low;
    old_low = c.old_low;
    numbers = numbers;
    defs? = c.defs?;
    new_def = c.new_def;
    old_def = c.old_def;
    back = c.back;
    definitions = definitions;
    globals = globals;
    ins = c.ins;
    outs = c.outs;
    locals = c.locals;
    specs = c.specs;
    body = body p.body q.body c.body;
    entry = entry;
    axioms = axioms;
  }

pub equal_goals : CorrespondingHaveOneObligations → RemoveGotosStaysTyped → RemoveGotosKeepsFailures → CorrespondingHaveEqualGoals
equal_goals obligations stays_typed keeps_failures m n p q typed ahead there c =
    obligations (remove_gotos m) (remove_gotos n) (removed p) (removed q) (stays_typed m typed ahead) (in_mapped removed m.procs p there) (keeps_failures m p typed ahead there).no_goto
    (correspond_without m n p q c)
