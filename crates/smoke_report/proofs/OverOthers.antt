-- The goals of a procedure are the same over other procedures that are called as those before.
use Rattle.std.proofs.Common.{◌≡◌, ◌∙◌, refl, sym, ap, ℕ, zero, suc, ◌+◌, Bool, true, false, cond, List, [], ◌∷◌, ◌++◌, map, length, slice_get, Option, Some, None}
use Rattle.std.specs.Prelude.{filter, filter_map, flat_map}
use Rattle.std.specs.List.{list_any}
use Rattle.logic_core.specs.Tree.{Tree}
use Rattle.flow_core.specs.Reader.{command_of}
use Rattle.bv_base.specs.declared.place.Place.{Place}
use Rattle.bpl_model.specs.Module.{Name, Global, Stmt, assert, assume, havoc, assign, call, if_else, while, break, return, goto, labelled, Stmts, no_stmts, stmt, append, one, is_scope, Proc, Module}
use Rattle.bpl_model.specs.Numbering.{defs_of, sorts_of, first_local, first_own, olds_of}
use Rattle.bpl_model.specs.Typed.{IsTyped, AreTyped, IsBody, IsTypedProc}
use Rattle.bpl_model.specs.Clauses.{clauses_of, local_clauses}
use Rattle.bpl_model.specs.Contract.{preconditions, end_checks}
use Rattle.bpl_model.specs.Reach.{decl_at, positions, is_named, leads_to, reach_on, own_positions, reached_by, globals_among, reached_clauses}
use Rattle.bpl_model.specs.Cut.{Cut, cut_call, with_labels, cut_stmt, cut_list, cut_body, cut_calls}
use Rattle.bpl_blocks.specs.Targets.{list_size}
use Rattle.bpl_blocks.specs.Blocks.{block, assume_all, list_blocks, blocks_of, to_blocks}
use Rattle.loop_cut.specs.Cut.{cut}
use Rattle.passive_form.specs.Incarnations.{passify}
use Rattle.vc_build.specs.Depends.{is_reached_axiom, axioms_among, reached_axioms}
use Rattle.vc_build.specs.Goals.{passive_graph, goals_of_graph, goals_with_body, goals_by_passes}
use Rattle.smoke_report.proofs.Called.{IsCalledAs, AreCalledAs}

module _ (m : Module) (ps : List Proc) where
  abbrev n : Module
  n = record m { procs = ps }

  -- ---- what names reach

  reach_same : (k : ℕ) (reached : List ℕ) → reach_on n k reached ≡ reach_on m k reached
  reach_same zero reached = refl
  reach_same (suc k) reached = reach_same k (filter (leads_to m reached) (positions m))

  globals_same : (reached : List ℕ) (before : Bool) (gs : List Global) → globals_among n reached before gs ≡ globals_among m reached before gs
  globals_same reached before [] = refl
  globals_same reached before (g ∷ gs) =
      let now = cond (list_any (is_named m g.name) (positions m)) (list_any (is_named m g.name) reached) before in
      ap (λ rest. cond now (g ∷ rest) rest) (globals_same reached now gs)

  axioms_same : (reached : List ℕ) (k : ℕ) (ts : List Tree) → axioms_among n reached k ts ≡ axioms_among m reached k ts
  axioms_same reached k [] = refl
  axioms_same reached k (t ∷ later) = ap (λ rest. cond (is_reached_axiom m reached k) (t ∷ rest) rest) (axioms_same reached (k + 1) later)

  module _ (p : Proc) where
    reached_same : reached_by n p ≡ reached_by m p
    reached_same = reach_same (length m.texts + 1) (flat_map (λ d. (decl_at m d).leads) (own_positions m p))

    clauses_same : reached_clauses n p ≡ reached_clauses m p
    clauses_same = ap (λ gs. filter_map (λ (g : Global). g.clause) gs) (globals_same (reached_by n p) false m.globals ∙ ap (λ reached. globals_among m reached false m.globals) reached_same)

    reached_axioms_same : reached_axioms n p ≡ reached_axioms m p
    reached_axioms_same = axioms_same (reached_by n p) 1 m.axioms ∙ ap (λ reached. axioms_among m reached 1 m.axioms) reached_same

    blocks_same : (b : Option Stmts) → blocks_of n p b ≡ blocks_of m p b
    blocks_same None = refl
    blocks_same (Some ss) = ap (λ clauses.
        let last = list_size ss + 1 in
        let r = list_blocks (clauses_of m p) (first_own m p) last [] 0 (assume_all (clauses ++ (local_clauses p ++ preconditions p.specs))) ss in
        r.0 ++ block r.1 (last ∷ []) ∷ block (map command_of (end_checks p.specs)) [] ∷ []) clauses_same

    graph_same : to_blocks n p ≡ to_blocks m p
    graph_same = ap (λ bs. record { blocks = bs; own = first_own m p; olds = olds_of m }) (blocks_same p.body)

  -- ---- calls

  module _ (alike : AreCalledAs m.procs ps) where
    call_same : (k : ℕ) (at : Place) (c d : Proc) (es : List Tree) (xs : List ℕ) → IsCalledAs c d → cut_call m k at (Some d) es xs ≡ cut_call m k at (Some c) es xs
    call_same k at c d es xs like = λ i. cut_call m k at (Some (record d { ins = like.0 i; outs = like.1 i; specs = like.2 i })) es xs

    module _ (p : Proc) where
      mutual
        stmt_same : (s : Stmt) (inside : Bool) (ls : List Name) → IsTyped m p inside ls s → (k : ℕ) → cut_stmt n k s ≡ cut_stmt m k s
        stmt_same (assert mark E) inside ls h k = refl
        stmt_same (assume at E) inside ls h k = refl
        stmt_same (havoc at xs) inside ls h k = refl
        stmt_same (assign at es) inside ls h k = refl
        stmt_same (call at q es xs) inside ls h k =
            let d = alike q h.1.callee h.1.named in
            (λ i. cut_call n k at (d.1 i) es xs) ∙ (call_same k at h.1.callee d.0 es xs d.2 ∙ (λ i. cut_call m k at (sym h.1.named i) es xs))
        stmt_same (if_else at has_else g ss ts) inside ls h k =
            both (λ (r q : Cut). (one (if_else at has_else g r.0 q.0), r.1 ++ q.1)) (list_same ss inside ls h.1 k) (list_same ts inside ls h.2 (k + length (cut_list m k ss).1))
          where
            both : (f : Cut → Cut → Cut) → cut_list n k ss ≡ cut_list m k ss → cut_list n (k + length (cut_list m k ss).1) ts ≡ cut_list m (k + length (cut_list m k ss).1) ts
                → f (cut_list n k ss) (cut_list n (k + length (cut_list n k ss).1) ts) ≡ f (cut_list m k ss) (cut_list m (k + length (cut_list m k ss).1) ts)
            both f a b = (λ i. f (a i) (cut_list n (k + length (a i).1) ts)) ∙ ap (f (cut_list m k ss)) b
        stmt_same (while at g is ss) inside ls h k = ap (λ (r : Cut). (one (while at g is r.0), r.1)) (list_same ss true ls h.2 k)
        stmt_same (break at l) inside ls h k = refl
        stmt_same (return at) inside ls h k = refl
        stmt_same (goto at to) inside ls h k = refl
        stmt_same (labelled new s) inside ls h k = ap (λ (r : Cut). (with_labels new r.0, r.1)) (stmt_same s inside (cond (is_scope s) (new ++ ls) ls) h k)

        list_same : (ss : Stmts) (inside : Bool) (ls : List Name) → AreTyped m p inside ls ss → (k : ℕ) → cut_list n k ss ≡ cut_list m k ss
        list_same no_stmts inside ls h k = refl
        list_same (stmt s ss) inside ls h k =
            both (λ (r q : Cut). (append r.0 q.0, r.1 ++ q.1)) (stmt_same s inside ls h.0 k) (list_same ss inside ls h.1 (k + length (cut_stmt m k s).1))
          where
            both : (f : Cut → Cut → Cut) → cut_stmt n k s ≡ cut_stmt m k s → cut_list n (k + length (cut_stmt m k s).1) ss ≡ cut_list m (k + length (cut_stmt m k s).1) ss
                → f (cut_stmt n k s) (cut_list n (k + length (cut_stmt n k s).1) ss) ≡ f (cut_stmt m k s) (cut_list m (k + length (cut_stmt m k s).1) ss)
            both f a b = (λ i. f (a i) (cut_list n (k + length (a i).1) ss)) ∙ ap (f (cut_stmt m k s)) b

      body_same : (b : Option Stmts) → IsBody m p b → (k : ℕ) → cut_body n k b ≡ cut_body m k b
      body_same None h k = refl
      body_same (Some ss) h k = ap (λ (r : Cut). (Some r.0, r.1)) (list_same ss false [] h k)

      module _ (typed : IsTypedProc m p) where
        calls_same : cut_calls n p ≡ cut_calls m p
        calls_same = λ i. let r = body_same p.body typed.body (first_local m p + length p.locals) i in record p { locals = p.locals ++ r.1; body = r.0 }

        passive_same : passive_graph n p ≡ passive_graph m p
        passive_same = (λ i. passify (cut (to_blocks n (calls_same i))) (sorts_of m (calls_same i))) ∙ (λ i. passify (cut (graph_same (cut_calls m p) i)) (sorts_of m (cut_calls m p)))

        of_body : (b : Option Stmts) → goals_with_body n p b ≡ goals_with_body m p b
        of_body None = refl
        of_body (Some ss) = λ i. goals_of_graph (passive_same i) (defs_of m) (reached_axioms_same p i)

        pub goals_same : goals_by_passes n p ≡ goals_by_passes m p
        goals_same = of_body p.body
