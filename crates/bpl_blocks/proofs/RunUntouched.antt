-- The body of a definition mentions no variable that a well body's graph sets, and no entry value.
use Rattle.std.specs.Prelude.{◌≡◌, ℕ, zero, suc, ◌+◌, ◌<◌, ◌≤◌, true, IsTrue, List, [], ◌∷◌, ◌++◌, reverse, map, length, Option, Some, None, All, Contains}
use Rattle.std.specs.List.{AllByRecursion, range_with_len}
use Rattle.std.proofs.Common.{arith, ⊎_elim}
use Rattle.std.proofs.lemmas.List.{length-map}
use Rattle.std.proofs.lemmas.List.Elements.{All-from_recursion, All-contains}
use Rattle.logic_core.proofs.Booleans.{both_true}
use Rattle.logic_core.specs.Tree.{Kind}
use Rattle.logic_core.specs.Def.{Def}
use Rattle.logic_core.specs.Sorts.{is, sort_of, bodies_sorted}
use Rattle.flow_core.specs.declared.block.Block.{Block}
use Rattle.flow_core.specs.Reading.{Mentions}
use Rattle.flow_core.specs.Reader.{command_of}
use Rattle.flow_core.specs.Graph.{set_by_each, targets_of, entry_values}
use Rattle.flow_core.specs.Run.{IsUntouched}
use Rattle.bpl_model.specs.Module.{Const, Stmts, Proc, Module}
use Rattle.bpl_model.specs.Numbering.{defs_of, const_sorts, first_global, first_entry, first_own, olds_of}
use Rattle.bpl_model.specs.Clauses.{clauses_of}
use Rattle.bpl_model.specs.Contract.{end_checks}
use Rattle.bpl_model.specs.Typed.{MayBeSet}
use Rattle.bpl_blocks.specs.Targets.{list_size}
use Rattle.bpl_blocks.specs.Blocks.{block, assume_all, at_entry, list_blocks, blocks_of, to_blocks}
use Rattle.bpl_blocks.proofs.RunMentions.{below, below_is}
use Rattle.bpl_blocks.proofs.RunWell.{BodyIsWell}
use Rattle.bpl_blocks.proofs.RunSets.{Only, of_each, of_assumes, of_clauses, list_set}
use Rattle.bpl_blocks.proofs.ExitEntry.{each_both}

pub each_weaker : {X : Type 0} (P R : X → Type 0) → ((x : X) → P x → R x) → (xs : List X) → AllByRecursion P xs → AllByRecursion R xs
each_weaker P R f [] h = tt
each_weaker P R f (x ∷ xs) h = (f x h.0, each_weaker P R f xs h.1)

-- each body mentions variables of these alone
abbrev pub Reads : List Kind → Def → Type 0
Reads vars d = (v : ℕ) → Mentions d.body v → v < length vars

bodies_below : (vars : List Kind) (before ds : List Def) → bodies_sorted vars before ds ≡ true → AllByRecursion (Reads vars) ds
bodies_below vars before [] h = tt
bodies_below vars before (d ∷ ds) h =
    let s = is d.sort (sort_of vars before (reverse d.params) d.body) in
    let rest = bodies_sorted vars (before ++ d ∷ []) ds in (
      below_is vars before d.body (reverse d.params) d.sort (below vars before d.body (reverse d.params)) (both_true (is d.sort (sort_of vars before (reverse d.params) d.body)) (bodies_sorted vars (before ++ d ∷ []) ds) h).0,
      bodies_below vars (before ++ d ∷ []) ds (both_true (is d.sort (sort_of vars before (reverse d.params) d.body)) (bodies_sorted vars (before ++ d ∷ []) ds) h).1,
    )

olds_above : (a k n : ℕ) → AllByRecursion (λ v. a ≤ v) (map (λ (p : ℕ × ℕ). p.1) (map (λ g. (g, g + k)) (range_with_len a n)))
olds_above a k zero = tt
olds_above a k (suc n) = (omega arith, each_weaker (λ v. a + 1 ≤ v) (λ v. a ≤ v) (λ v h. omega arith) (map (λ (p : ℕ × ℕ). p.1) (map (λ g. (g, g + k)) (range_with_len (a + 1) n))) (olds_above (a + 1) k n))

module _ (m : Module) (p : Proc) where
  pub whole_sets : (body : Option Stmts) → BodyIsWell m p body → AllByRecursion (Only m p) (blocks_of m p body)
  whole_sets None h = tt
  whole_sets (Some ss) h =
      let last = list_size ss + 1 in
      let r = list_blocks (clauses_of m p) (first_own m p) last [] 0 (assume_all (at_entry m p)) ss in
      let a = list_set m p (clauses_of m p) (first_own m p) last ss [] 0 (assume_all (at_entry m p)) h (of_assumes (MayBeSet m p) (at_entry m p)) in
      each_both (Only m p) r.0 (block r.1 (last ∷ []) ∷ block (map command_of (end_checks p.specs)) [] ∷ []) a.0
      (record { commands = a.1; targets = tt }, (record { commands = of_clauses (MayBeSet m p) (end_checks p.specs); targets = tt }, tt))

  above_consts : (v : ℕ) → MayBeSet m p v → v < length (const_sorts m) → ⊥
  above_consts v h b =
      let e : length (const_sorts m) ≡ length m.consts = length-map m.consts (λ (c : Const). c.sort) in
      ⊎_elim (λ (x : (first_global m ≤ v) × (v < first_entry m)). let y = x.0 in omega arith) (λ x. let y = x.0 in omega arith) h

  none_of : (xs : List ℕ) (v : ℕ) → AllByRecursion (MayBeSet m p) xs → v < length (const_sorts m) → ¬ Contains xs v
  none_of xs v h b there = above_consts v (All-contains (MayBeSet m p) xs v (All-from_recursion (MayBeSet m p) xs h) there) b

  pub untouched : IsTrue (bodies_sorted (const_sorts m) [] (defs_of m)) → BodyIsWell m p p.body → All (IsUntouched (to_blocks m p)) (defs_of m)
  untouched sorted well = All-from_recursion (IsUntouched (to_blocks m p)) (defs_of m) (each_weaker (Reads (const_sorts m)) (IsUntouched (to_blocks m p)) one (defs_of m) (bodies_below (const_sorts m) [] (defs_of m) sorted))
    where
      blocks : List Block
      blocks = blocks_of m p p.body

      only : AllByRecursion (Only m p) (blocks_of m p p.body)
      only = whole_sets p.body well

      one : (d : Def) → Reads (const_sorts m) d → IsUntouched (to_blocks m p) d
      one d h = record {
        commands = λ v mention. All-from_recursion (λ (k : Block). ¬ Contains (set_by_each k.commands) v) (blocks_of m p p.body)
            (each_weaker (Only m p) (λ (k : Block). ¬ Contains (set_by_each k.commands) v) (λ k o. none_of (set_by_each k.commands) v (of_each (MayBeSet m p) k.commands o.commands) (h v mention)) (blocks_of m p p.body) only);
        targets = λ v mention. All-from_recursion (λ (k : Block). ¬ Contains (targets_of k.head) v) (blocks_of m p p.body)
            (each_weaker (Only m p) (λ (k : Block). ¬ Contains (targets_of k.head) v) (λ k o. none_of (targets_of k.head) v o.targets (h v mention)) (blocks_of m p p.body) only);
        entry_values = λ v mention there. not_old v (h v mention) there;
      }
        where
          not_old : (v : ℕ) → v < length (const_sorts m) → ¬ Contains (entry_values (olds_of m)) v
          not_old v b there =
              let e : length (const_sorts m) ≡ length m.consts = length-map m.consts (λ (c : Const). c.sort) in
              let a : first_global m ≤ v = All-contains (λ u. first_global m ≤ u) (entry_values (olds_of m)) v (All-from_recursion (λ u. first_global m ≤ u) (entry_values (olds_of m)) (olds_above (first_global m) (length m.globals) (length m.globals))) there in
              omega arith
