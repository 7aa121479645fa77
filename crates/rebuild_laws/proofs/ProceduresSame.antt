-- Procedures of two modules that go alike, whatever their places, have equal obligations.
use Rattle.std.specs.Prelude.{◌≡◌, refl, ◌⊎◌, ℕ, suc, ◌+◌, ◌-◌, ◌<◌, ◌≤◌, ◌==◌, nat_lt, Bool, true, false, not, cond, List, [], ◌∷◌, ◌++◌, map, length, filter, slice_get, Some, All}
use Rattle.std.specs.List.{AllByRecursion, list_any, range_with_len}
use Rattle.std.proofs.Common.{ap, sym, subst, arith, ◌∙◌}
use Rattle.std.proofs.lemmas.Bool.Decides.{nat_tests}
use Rattle.std.proofs.lemmas.List.{length-append, length-map}
use Rattle.std.proofs.lemmas.List.FromFn.{get_or-map-range_with_len}
use mathlib.Core.Logic.{inl, inr}
use Rattle.logic_core.specs.Tree.{Kind, Tree}
use Rattle.logic_core.specs.Renamed.{both_renamed, EachHas}
use Rattle.logic_core.specs.WellSorted.{IsWellSorted}
use Rattle.flow_core.specs.declared.command.Command.{Command}
use Rattle.flow_core.specs.Reader.{command_of}
use Rattle.flow_core.specs.Graph.{Graph}
use Rattle.bpl_model.specs.Module.{Stmts, Local, Proc, Module}
use Rattle.bpl_model.specs.Numbering.{defs_of, local_sorts, sorts_of, first_in, first_own}
use Rattle.bpl_model.specs.Clauses.{clauses_of, local_clauses}
use Rattle.bpl_model.specs.Contract.{preconditions, end_checks}
use Rattle.bpl_model.specs.Cut.{Cut, cut_list, cut_calls}
use Rattle.bpl_model.specs.Reach.{reached_clauses}
use Rattle.bpl_blocks.specs.Targets.{list_sets, loop_targets, list_size}
use Rattle.bpl_blocks.specs.Blocks.{block, assume_all, list_blocks, at_entry, to_blocks}
use Rattle.loop_cut.specs.Cut.{cut}
use Rattle.passive_form.specs.Sorted.{IsSortedBlock}
use Rattle.passive_form.specs.Incarnations.{incarnation, first_incarnation, first_incarnations}
use Rattle.vc_build.specs.declared.goal.Goal.{Goal}
use Rattle.vc_build.specs.Depends.{reached_axioms}
use Rattle.vc_build.specs.Goals.{sequent_at, passive_graph, goals_by_passes}
use Rattle.obligation_text.proofs.RenamedTerms.{each_more}
use Rattle.rebuild_laws.proofs.SameAfterTriggers.{one_var, RenamesIn}
use Rattle.rebuild_laws.proofs.Commands.{AlikeCommands}
use Rattle.rebuild_laws.proofs.CutsAlike.{no_head, AlikeBlock, AlikeBlocks, no_blocks, one_block, graphs_cut_alike}
use Rattle.rebuild_laws.proofs.BlocksAlike.{all_sets_alike, sizes_alike, blocks_both, AlikeDrawn, list_alike}
use Rattle.rebuild_laws.proofs.InOrder.{InOrder}
use Rattle.rebuild_laws.proofs.LocalsAlike.{locals_long, locals_both, locals_filtered, terms_both, clauses_alike, locals_moved, terms_moved}
use Rattle.rebuild_laws.proofs.CallsAlike.{AlikeCut, Callees, NoCallee, all_cut_alike}
use Rattle.rebuild_laws.proofs.Presents.{new_later, later_first}
use Rattle.rebuild_laws.proofs.NumbersAlike.{below, reads_low, high_reads, low_reads, low_all, back_all, passes_all}
use Rattle.rebuild_laws.proofs.OrderAlike.{owns, Owns, owns_is, own_read, read_own, own_high, whole_order, begins_alike}
use Rattle.rebuild_laws.proofs.EntryAlike.{term_moved, preconditions_alike, ends_alike, assumes_alike, specs_moved}
use Rattle.rebuild_laws.proofs.ClausesAlike.{top_low, top_low_there, top_span, sort_same, among_in_order, clauses_same}
use Rattle.rebuild_laws.proofs.CutGraph.{cut_rises, Within, cut_within}
use Rattle.rebuild_laws.proofs.GraphsSame.{goals_same}
use Rattle.rebuild_laws.specs.Numbers.{new_all, old_all, reads_there?, Reads, Low, LowNumbers, GlobalsAlike}
use Rattle.rebuild_laws.specs.Alike.{AlikeStmts, AlikeLocals, AlikeTerms, AlikeSpecs}
use Rattle.rebuild_laws.specs.Procedures.{first_call, BeforeCalls, AlikeDef}

-- how many of some variables stand for no call
few : (ls : List Local) → length (filter (λ (l : Local). not l.own) ls) ≤ length ls
few [] = omega arith
few (l ∷ ls) = by (not l.own) (few ls)
  where
    by : (b : Bool) → length (filter (λ (l : Local). not l.own) ls) ≤ length ls → length (cond b (l ∷ filter (λ (l : Local). not l.own) ls) (filter (λ (l : Local). not l.own) ls)) ≤ suc (length ls)
    by true h = omega (h, arith)
    by false h = omega (h, arith)

abbrev pub with_stmts : Proc → Stmts → Proc
with_stmts p ss = record p { body = Some ss }

module _ (m n : Module) (p q : Proc) (ss ts : Stmts) (vars? vars_there? : ℕ → Bool) (new_low old_low : ℕ → ℕ) (low : LowNumbers m n vars? vars_there? new_low old_low)
    (new_def old_def : ℕ → ℕ) (D : ℕ → Type 0) (back_def : (f : ℕ) → D f → old_def (new_def f) ≡ f) (globals : GlobalsAlike m n vars? vars_there? new_low old_low new_def D) where
  abbrev new : ℕ → ℕ
  new = new_all m n vars? vars_there? new_low old_low

  abbrev Read : ℕ → Type 0
  Read = Reads m n vars? vars_there? new_low old_low

  abbrev Lows : ℕ → Type 0
  Lows = Low m n vars? vars_there? new_low old_low

  abbrev base : ℕ
  base = first_call m p

  abbrev base_there : ℕ
  base_there = first_call n q

  -- a variable before those of calls that is renamed
  abbrev Prior : ℕ → Type 0
  Prior = BeforeCalls m n vars? vars_there? new_low old_low p

  abbrev pub prior_low : (v : ℕ) → Prior v → v < base
  prior_low v h = h.1

  module _ (ins : AlikeLocals new_def new D Prior p.ins q.ins) (outs : AlikeLocals new_def new D Prior p.outs q.outs) (locals : AlikeLocals new_def new D Prior p.locals q.locals)
      (specs : AlikeSpecs new_def new D Prior p.specs q.specs) (body : AlikeStmts new_def new D Prior (Callees m n new_def new D Prior base base_there prior_low) ss ts)
      (entry : AlikeTerms new_def new_low D Lows (reached_clauses m p) (reached_clauses n q))
      (axioms : AlikeTerms new_def new_low D Lows (reached_axioms m p) (reached_axioms n q))
      (defs : (f : ℕ) → D f → AlikeDef m n vars? vars_there? new_low old_low new_def D f)
      (sorted_blocks : All (IsSortedBlock (defs_of m) (sorts_of m (cut_calls m (with_stmts p ss)))) (cut (to_blocks m (cut_calls m (with_stmts p ss)))).blocks)
      (sorted : (k at : ℕ) → IsWellSorted (sequent_at (passive_graph m (with_stmts p ss)) (defs_of m) (reached_axioms m (with_stmts p ss)) k at)) where
    base_low : first_in m ≤ base
    base_low = omega arith

    base_low_there : first_in n ≤ base_there
    base_low_there = omega arith

    span : base_there + first_in m ≡ base + first_in n
    span =
        let a = locals_long new_def new D Prior p.ins q.ins ins in
        let b = locals_long new_def new D Prior p.outs q.outs outs in
        let c = locals_long new_def new D Prior p.locals q.locals locals in
        omega (a, b, c, arith)

    abbrev own : ℕ → ℕ
    own = owns m n vars? vars_there? new_low old_low low new_def D base base_there base_low base_low_there span

    abbrev Mine : ℕ → Type 0
    Mine = Owns m n vars? vars_there? new_low old_low low new_def D base base_there base_low base_low_there span

    own_is : (v : ℕ) → own v ≡ new v
    own_is v = owns_is m n vars? vars_there? new_low old_low low new_def D base base_there base_low base_low_there span v

    mine_read : (v : ℕ) → Mine v → Read v
    mine_read v h = own_read m n vars? vars_there? new_low old_low low new_def D base base_there base_low base_low_there span v h

    read_mine : (v : ℕ) → Read v → Mine v
    read_mine v h = read_own m n vars? vars_there? new_low old_low low new_def D base base_there base_low base_low_there span v h

    high_mine : (v : ℕ) → first_in m ≤ v → Mine v
    high_mine v h = read_mine v (high_reads m n vars? vars_there? new_low old_low v h)

    high_is : (v : ℕ) → first_in m ≤ v → own v ≡ first_in n + (v - first_in m)
    high_is v h = own_high m n vars? vars_there? new_low old_low low new_def D base base_there base_low base_low_there span v h

    low_mine : (v : ℕ) → Lows v → Mine v
    low_mine v l = read_mine v (low_reads m n vars? vars_there? new_low old_low v l)

    low_is : (v : ℕ) → Lows v → own v ≡ new_low v
    low_is v l = own_is v ∙ low_all m n vars? vars_there? new_low old_low low v l

    prior_moved : (t : Tree) → EachHas Prior D t → (both_renamed new_def own t ≡ both_renamed new_def new t) × EachHas Mine D t
    prior_moved = term_moved new_def new own D Prior Mine (λ v h. own_is v) (λ v h. inl h)

    low_moved : (t : Tree) → EachHas Lows D t → (both_renamed new_def own t ≡ both_renamed new_def new_low t) × EachHas Mine D t
    low_moved = term_moved new_def new_low own D Lows Mine low_is low_mine

    -- calls replaced
    abbrev made : Cut
    made = cut_list m base ss

    abbrev made_there : Cut
    made_there = cut_list n base_there ts

    replaced : AlikeCut m n new_def new D Prior base base_there prior_low made made_there
    replaced =
        let e : base + 0 ≡ base = omega arith in
        let f : base_there + 0 ≡ base_there = omega arith in
        subst (λ b. AlikeCut m n new_def new D Prior base base_there prior_low (cut_list m b ss) made_there) e
        (subst (λ b. AlikeCut m n new_def new D Prior base base_there prior_low (cut_list m (base + 0) ss) (cut_list n b ts)) f (all_cut_alike m n new_def new D Prior base base_there prior_low ss ts body 0))

    abbrev r : Proc
    r = cut_calls m (with_stmts p ss)

    abbrev s : Proc
    s = cut_calls n (with_stmts q ts)

    ins_own : AlikeLocals new_def own D Mine p.ins q.ins
    ins_own = locals_moved new_def new own D Prior Mine prior_moved p.ins q.ins ins

    outs_own : AlikeLocals new_def own D Mine p.outs q.outs
    outs_own = locals_moved new_def new own D Prior Mine prior_moved p.outs q.outs outs

    locals_own : AlikeLocals new_def own D Mine (p.locals ++ made.1) (q.locals ++ made_there.1)
    locals_own = locals_both new_def own D Mine p.locals q.locals made.1 made_there.1 (locals_moved new_def new own D Prior Mine prior_moved p.locals q.locals locals) replaced.own

    abbrev xs : List Kind
    xs = sorts_of m r

    abbrev ys : List Kind
    ys = sorts_of n s

    tops : (first_in m ≤ length xs) × (first_in n ≤ length ys) × (length ys + first_in m ≡ length xs + first_in n)
    tops = (
      top_low m n vars? vars_there? new_low old_low low new_def D base base_there base_low base_low_there span globals r s ins_own outs_own locals_own,
      top_low_there m n vars? vars_there? new_low old_low low new_def D base base_there base_low base_low_there span globals r s ins_own outs_own locals_own,
      top_span m n vars? vars_there? new_low old_low low new_def D base base_there base_low base_low_there span globals r s ins_own outs_own locals_own,
    )

    owned_low : first_in m ≤ first_own m r
    owned_low = omega arith

    owned_low_there : first_in n ≤ first_own n s
    owned_low_there = omega arith

    owned_span : first_own n s + first_in m ≡ first_own m r + first_in n
    owned_span =
        let a = locals_long new_def own D Mine p.ins q.ins ins_own in
        let b = locals_long new_def own D Mine p.outs q.outs outs_own in
        let c = locals_long new_def own D Mine (filter (λ (l : Local). not l.own) r.locals) (filter (λ (l : Local). not l.own) s.locals) (locals_filtered new_def own D Mine r.locals s.locals locals_own) in
        omega (a, b, c, arith)

    sizes : length xs ≡ first_in m + (length p.ins + (length p.outs + length r.locals))
    sizes =
        let a = length-map m.consts (λ c. c.sort) in
        let b = length-map m.globals (λ g. g.sort) in
        let c = length-map p.ins (λ l. l.sort) in
        let d = length-map p.outs (λ l. l.sort) in
        let e = length-map r.locals (λ l. l.sort) in
        let rest = local_sorts p.ins ++ (local_sorts p.outs ++ local_sorts r.locals) in
        let f = length-append (map (λ c. c.sort) m.consts) (map (λ g. g.sort) m.globals ++ (map (λ g. g.sort) m.globals ++ rest)) in
        let g = length-append (map (λ g. g.sort) m.globals) (map (λ g. g.sort) m.globals ++ rest) in
        let h = length-append (map (λ g. g.sort) m.globals) rest in
        let i = length-append (local_sorts p.ins) (local_sorts p.outs ++ local_sorts r.locals) in
        let j = length-append (local_sorts p.outs) (local_sorts r.locals) in
        omega (a, b, c, d, e, f, g, h, i, j, arith)

    owned_top : first_own m r ≤ length xs
    owned_top = let a = few r.locals in omega (a, sizes, arith)

    owned_top_there : first_own n s ≤ length ys
    owned_top_there = let t = tops.2 in let u = tops.0 in omega (owned_top, owned_span, t, u, owned_low, arith)

    -- the blocks
    entry_terms : AlikeTerms new_def own D Mine (at_entry m r) (at_entry n s)
    entry_terms =
        terms_both new_def own D Mine (reached_clauses m p) (reached_clauses n q) (local_clauses r ++ preconditions p.specs) (local_clauses s ++ preconditions q.specs)
        (terms_moved new_def new_low own D Lows Mine low_moved (reached_clauses m p) (reached_clauses n q) entry)
        (terms_both new_def own D Mine (local_clauses r) (local_clauses s) (preconditions p.specs) (preconditions q.specs)
        (clauses_alike new_def own D Mine (p.ins ++ (p.outs ++ filter (λ (l : Local). not l.own) r.locals)) (q.ins ++ (q.outs ++ filter (λ (l : Local). not l.own) s.locals))
        (locals_both new_def own D Mine p.ins q.ins (p.outs ++ filter (λ (l : Local). not l.own) r.locals) (q.outs ++ filter (λ (l : Local). not l.own) s.locals) ins_own
        (locals_both new_def own D Mine p.outs q.outs (filter (λ (l : Local). not l.own) r.locals) (filter (λ (l : Local). not l.own) s.locals) outs_own (locals_filtered new_def own D Mine r.locals s.locals locals_own))))
        (terms_moved new_def new own D Prior Mine prior_moved (preconditions p.specs) (preconditions q.specs) (preconditions_alike new_def new D Prior p.specs q.specs specs)))

    havocs_alike : (vs : List ℕ) → AllByRecursion Mine vs → AlikeCommands new_def own D Mine (assume_all (clauses_of m r vs)) (assume_all (clauses_of n s (map own vs)))
    havocs_alike vs h =
        assumes_alike new_def own D Mine (clauses_of m r vs) (clauses_of n s (map own vs))
        (clauses_same m n vars? vars_there? new_low old_low low new_def D base base_there base_low base_low_there span globals r s ins_own outs_own locals_own vs h)

    targets_alike : (us ws : Stmts) → AlikeStmts new_def own D Mine NoCallee us ws → (loop_targets (first_own n s) ws ≡ map own (loop_targets (first_own m r) us)) × AllByRecursion Mine (loop_targets (first_own m r) us)
    targets_alike us ws a =
        let sets = all_sets_alike new_def own D Mine NoCallee us ws a in
        let o = among_in_order m n vars? vars_there? new_low old_low low new_def D base base_there base_low base_low_there span globals r s ins_own outs_own locals_own (first_own m r) (first_own n s) owned_low owned_low_there owned_span (list_sets us) sets.1 in
        ((λ i. filter (λ w. list_any (λ x. x == w) (sets.0 i)) (range_with_len 0 (first_own n s))) ∙ o.0, o.1)

    abbrev last : ℕ
    last = list_size made.0 + 1

    drawn : AlikeDrawn new_def own D Mine NoCallee (list_blocks (clauses_of m r) (first_own m r) last [] 0 (assume_all (at_entry m r)) made.0) (list_blocks (clauses_of n s) (first_own n s) last [] 0 (assume_all (at_entry n s)) made_there.0)
    drawn =
        list_alike new_def own D Mine NoCallee (clauses_of m r) (clauses_of n s) (first_own m r) (first_own n s) last havocs_alike targets_alike made.0 made_there.0 replaced.stmts [] 0
        (assume_all (at_entry m r)) (assume_all (at_entry n s)) (assumes_alike new_def own D Mine (at_entry m r) (at_entry n s) entry_terms)

    plain : (cs ds : List Command) (next : List ℕ) → AlikeCommands new_def own D Mine cs ds → AlikeBlock new_def own D Mine (block cs next) (block ds next)
    plain cs ds next a = record { commands = a; next = refl; head = no_head }

    blocks : AlikeBlocks new_def own D Mine (to_blocks m r).blocks (to_blocks n s).blocks
    blocks =
        let mine = list_blocks (clauses_of m r) (first_own m r) last [] 0 (assume_all (at_entry m r)) made.0 in
        let theirs = list_blocks (clauses_of n s) (first_own n s) last [] 0 (assume_all (at_entry n s)) made_there.0 in
        let same : list_size made_there.0 ≡ list_size made.0 = sizes_alike new_def own D Mine NoCallee made.0 made_there.0 replaced.stmts in
        subst (λ k. AlikeBlocks new_def own D Mine (to_blocks m r).blocks
        ((list_blocks (clauses_of n s) (first_own n s) (k + 1) [] 0 (assume_all (at_entry n s)) made_there.0).0 ++ block (list_blocks (clauses_of n s) (first_own n s) (k + 1) [] 0 (assume_all (at_entry n s)) made_there.0).1 ((k + 1) ∷ []) ∷ block (map command_of (end_checks q.specs)) [] ∷ []))
        (sym same)
        (blocks_both new_def own D Mine NoCallee mine.0 theirs.0 _ _ drawn.blocks
        (one_block (plain mine.1 theirs.1 (last ∷ []) drawn.commands)
        (one_block (plain (map command_of (end_checks p.specs)) (map command_of (end_checks q.specs)) [] (ends_alike new_def own D Mine p.specs q.specs (specs_moved new_def new own D Prior Mine (λ v h. own_is v) (λ v h. inl h) p.specs q.specs specs))) no_blocks)))

    -- over the variables that are there
    abbrev V : ℕ → Type 0
    V = Within new_def own D Mine (defs_of m) xs

    abbrev g : Graph
    g = cut (to_blocks m r)

    abbrev h : Graph
    h = cut (to_blocks n s)

    older : (v : ℕ) → V v → old_all m n vars? vars_there? new_low old_low (own v) ≡ v
    older v k = ap (old_all m n vars? vars_there? new_low old_low) (own_is v) ∙ back_all m n vars? vars_there? new_low old_low low v (mine_read v k.0)

    here : (v : ℕ) → V v → v < length xs
    here v k = k.1

    low_here : (v : ℕ) → Lows v → V v
    low_here v l = (low_mine v l, let under = l.0 in let t = tops.0 in omega (under, t, arith))

    in_parts : (v : ℕ) → V v → ((v < first_in m) × (own v < first_in n)) ⊎ ((first_in m ≤ v) × (own v ≡ first_in n + (v - first_in m)))
    in_parts v k = elim (below v (first_in m)) [
      | inl l ↦ let t : Lows v = (l, reads_low m n vars? vars_there? new_low old_low v l (mine_read v k.0)) in let is = low_is v t in let under = (low.passes v t).0 in inl (l, omega (is, under, arith))
      | inr l ↦ inr (l, high_is v l)
    ]

    there : (v : ℕ) → V v → own v < length ys
    there v k = elim (in_parts v k) [
      | inl l ↦ let a = l.1 in let b = tops.1 in omega (a, b, arith)
      | inr l ↦ let a = l.0 in let b = l.1 in let c = k.1 in let d = tops.2 in let e = tops.0 in omega (a, b, c, d, e, arith)
    ]

    sorts : (v : ℕ) → V v → slice_get ys (own v) ≡ slice_get xs v
    sorts v k = sort_same m n vars? vars_there? new_low old_low low new_def D base base_there base_low base_low_there span globals r s ins_own outs_own locals_own v (mine_read v k.0)

    abbrev order : InOrder own V (first_own m r) (first_own n s)
    order = whole_order m n vars? vars_there? new_low old_low low new_def D base base_there base_low base_low_there span V low_here (first_own m r) (first_own n s) owned_low owned_low_there owned_span (λ v l k. (high_mine v l, omega (k, owned_top, arith)))

    own_same : (v : ℕ) → V v → nat_lt (own v) (first_own n s) ≡ nat_lt v (first_own m r)
    own_same v k = by (in_parts v k) (below v (first_own m r))
      where
        by : ((v < first_in m) × (own v < first_in n)) ⊎ ((first_in m ≤ v) × (own v ≡ first_in n + (v - first_in m))) → (v < first_own m r) ⊎ (first_own m r ≤ v) → nat_lt (own v) (first_own n s) ≡ nat_lt v (first_own m r)
        by (inl l) w =
            let a = l.0 in
            let b = l.1 in
            let mine : v < first_own m r = omega (a, owned_low, arith) in
            let theirs : own v < first_own n s = omega (b, owned_low_there, arith) in
            let e : nat_lt v (first_own m r) ≡ true = grind (arith, nat_tests, mine) in
            let f : nat_lt (own v) (first_own n s) ≡ true = grind (arith, nat_tests, theirs) in f ∙ sym e
        by (inr l) (inl w) =
            let a = l.0 in
            let b = l.1 in
            let theirs : own v < first_own n s = omega (a, b, w, owned_span, owned_low, arith) in
            let e : nat_lt v (first_own m r) ≡ true = grind (arith, nat_tests, w) in
            let f : nat_lt (own v) (first_own n s) ≡ true = grind (arith, nat_tests, theirs) in f ∙ sym e
        by (inr l) (inr w) =
            let a = l.0 in
            let b = l.1 in
            let theirs : first_own n s ≤ own v = omega (a, b, w, owned_span, owned_low, arith) in
            let e : nat_lt v (first_own m r) ≡ false = grind (arith, nat_tests, w) in
            let f : nat_lt (own v) (first_own n s) ≡ false = grind (arith, nat_tests, theirs) in f ∙ sym e

    in_here : (v : ℕ) → V v → order.in_here v ≡ true
    in_here v k = mine_read v k.0

    in_there : (v : ℕ) → V v → order.in_there (own v) ≡ true
    in_there v k = ap (reads_there? m n vars? vars_there? new_low old_low) (own_is v) ∙ passes_all m n vars? vars_there? new_low old_low low v (mine_read v k.0)

    abbrev one : (u v : ℕ) → V u → V v → own u ≡ own v → u ≡ v
    one = one_var new_def own old_def (old_all m n vars? vars_there? new_low old_low) D V back_def older

    begins : (v : ℕ) → V v → (incarnation (first_incarnations h ys) (own v) ≡ new_later xs ys new_def own D V here there sorts one (incarnation (first_incarnations g xs) v)) × V (incarnation (first_incarnations g xs) v)
    begins v k =
        let b = begins_alike m n vars? vars_there? new_low old_low low new_def D base base_there base_low base_low_there span v (mine_read v k.0) in
        let low_v = k.1 in
        let mine : incarnation (first_incarnations g xs) v ≡ first_incarnation g v = get_or-map-range_with_len (first_incarnation g) 0 (length xs) v v v low_v (omega arith) in
        let theirs : incarnation (first_incarnations h ys) (own v) ≡ first_incarnation h (own v) = get_or-map-range_with_len (first_incarnation h) 0 (length ys) (own v) (own v) (own v) (there v k) (omega arith) in
        let first : V (first_incarnation g v) = (read_mine (first_incarnation g v) b.1, let up = b.2 in omega (up, low_v, arith)) in
        (theirs ∙ b.0 ∙ sym (ap (new_later xs ys new_def own D V here there sorts one) mine ∙ later_first xs ys new_def own D V here there sorts one (first_incarnation g v) first), subst V (sym mine) first)

    low_within : (C : ℕ → Type 0) (t : Tree) → EachHas Lows C t → EachHas V C t
    low_within C t c = each_more Lows C V C low_here (λ f k. k) t c

    def_term : (C : ℕ → Type 0) (t : Tree) → EachHas Lows C t → both_renamed new_def own t ≡ both_renamed new_def new_low t
    def_term C t c = (term_moved new_def new_low own C Lows V low_is low_here t c).0

    renamed_defs : (f : ℕ) → D f → RenamesIn new_def own old_def (old_all m n vars? vars_there? new_low old_low) D V back_def older (defs_of m) (defs_of n) f
    renamed_defs f d =
        let a = defs f d in
        let x = a.definition in
        let again = def_term (λ k. D k × (k < f) × (new_def k < new_def f)) x.body a.lower in
        record {
          definition = x;
          old = a.old;
          new = a.new ∙ (λ i. Some (record { params = x.params; sort = x.sort; logical = x.logical; body = sym again i }));
          lower = low_within (λ k. D k × (k < f) × (new_def k < new_def f)) x.body a.lower;
        }

    axioms_own : AlikeTerms new_def own D V (reached_axioms m p) (reached_axioms n q)
    axioms_own = terms_moved new_def new_low own D Lows V (term_moved new_def new_low own D Lows V low_is low_here) (reached_axioms m p) (reached_axioms n q) axioms

    pub procedures_same : map (λ (o : Goal). o.obligation) (goals_by_passes n (with_stmts q ts)) ≡ map (λ (o : Goal). o.obligation) (goals_by_passes m (with_stmts p ss))
    procedures_same =
        goals_same xs ys new_def own old_def (old_all m n vars? vars_there? new_low old_low) D V back_def older here there sorts g h order own_same in_here in_there begins owned_top owned_top_there
        (cut_within new_def own D Mine (defs_of m) xs (to_blocks m r) (to_blocks n s) (graphs_cut_alike new_def own D Mine (to_blocks m r) (to_blocks n s) blocks) sorted_blocks)
        (cut_rises (to_blocks m r)) (defs_of m) (defs_of n) (reached_axioms m p) (reached_axioms n q) renamed_defs axioms_own.covered axioms_own.same sorted
