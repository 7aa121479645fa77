-- The graph of a well body sets no entry value, and pairs each global with one of its own.
use Rattle.std.specs.Prelude.{◌≢◌, ◌⊎◌, ℕ, zero, suc, ◌+◌, ◌<◌, ◌≤◌, List, ◌∷◌, map, length, All, AllPairs, Contains}
use Rattle.std.specs.List.{AllByRecursion, range_with_len}
use Rattle.std.proofs.Common.{arith, inl, inr, sym, subst}
use Rattle.std.proofs.lemmas.List.Elements.{All-from_recursion, All-contains}
use Rattle.std.proofs.lemmas.List.Kept.{AllPairs-cons}
use Rattle.flow_core.specs.declared.block.Block.{Block}
use Rattle.flow_core.specs.Graph.{set_by_each, targets_of, entry_values, paired_numbers, KeepsEntryValues}
use Rattle.bpl_model.specs.Module.{Proc, Module}
use Rattle.bpl_model.specs.Numbering.{first_global, olds_of}
use Rattle.bpl_model.specs.Cut.{cut_calls}
use Rattle.bpl_model.specs.Typed.{MayBeSet, IsTypedModule}
use Rattle.bpl_blocks.specs.Blocks.{blocks_of}
use Rattle.bpl_blocks.specs.Kept.{HasCallsReplaced}
use Rattle.bpl_blocks.proofs.ExitLaws.{more_keep}
use Rattle.bpl_blocks.proofs.ExitWhole.{cut_body_well}
use Rattle.bpl_blocks.proofs.RunWell.{BodyIsWell}
use Rattle.bpl_blocks.proofs.RunSets.{Only, of_each}
use Rattle.bpl_blocks.proofs.RunUntouched.{each_weaker, whole_sets}

-- entry values are above all globals
pub olds_within : (a k n : ℕ) → AllByRecursion (λ v. (a + k ≤ v) × (v < a + k + n)) (entry_values (map (λ g. (g, g + k)) (range_with_len a n)))
olds_within a k zero = tt
olds_within a k (suc n) = (
  (omega arith, omega arith),
  each_weaker (λ v. (a + 1 + k ≤ v) × (v < a + 1 + k + n)) (λ v. (a + k ≤ v) × (v < a + k + suc n)) (λ v h. (omega (h, arith), omega (h, arith))) (entry_values (map (λ g. (g, g + k)) (range_with_len (a + 1) n))) (olds_within (a + 1) k n),
)

-- all numbers of the pairs
pub apart : (a k n : ℕ) → AllByRecursion (λ v. ((a ≤ v) × (v < a + n)) ⊎ ((a + k ≤ v) × (v < a + k + n))) (paired_numbers (map (λ g. (g, g + k)) (range_with_len a n)))
apart a k zero = tt
apart a k (suc n) = (
  inl (omega arith, omega arith),
  (
    inr (omega arith, omega arith),
    each_weaker (λ v. ((a + 1 ≤ v) × (v < a + 1 + n)) ⊎ ((a + 1 + k ≤ v) × (v < a + 1 + k + n))) (λ v. ((a ≤ v) × (v < a + suc n)) ⊎ ((a + k ≤ v) × (v < a + k + suc n)))
        (λ v h. elim h [ inl x ↦ inl (omega (x, arith), omega (x, arith)) | inr x ↦ inr (omega (x, arith), omega (x, arith)) ]) (paired_numbers (map (λ g. (g, g + k)) (range_with_len (a + 1) n))) (apart (a + 1) k n),
  ),
)

pub paired : (a k n : ℕ) → n ≤ k → AllPairs (λ x y. x ≢ y) (paired_numbers (map (λ g. (g, g + k)) (range_with_len a n)))
paired a k zero l = λ i j d below there. absurd (omega (there, arith))
paired a k (suc n) l =
    let rest = paired_numbers (map (λ g. (g, g + k)) (range_with_len (a + 1) n)) in
    let R : ℕ → Type 0 = λ v. ((a + 1 ≤ v) × (v < a + 1 + n)) ⊎ ((a + 1 + k ≤ v) × (v < a + 1 + k + n)) in
    let late : AllByRecursion R rest = apart (a + 1) k n in
    AllPairs-cons (λ x y. x ≢ y) a ((a + k) ∷ rest)
    (All-from_recursion (λ y. a ≢ y) ((a + k) ∷ rest) ((λ e. omega (e, l, arith)), each_weaker R (λ y. a ≢ y) (λ y h e. elim h [ inl x ↦ omega (x, e, arith) | inr x ↦ omega (x, e, arith) ]) rest late))
    (AllPairs-cons (λ x y. x ≢ y) (a + k) rest (All-from_recursion (λ y. a + k ≢ y) rest (each_weaker R (λ y. a + k ≢ y) (λ y h e. elim h [ inl x ↦ omega (x, e, l, arith) | inr x ↦ omega (x, e, arith) ]) rest late))
    (paired (a + 1) k n (omega (l, arith))))

module _ (m : Module) (p : Proc) where
  not_old : (v : ℕ) → MayBeSet m p v → ¬ Contains (entry_values (olds_of m)) v
  not_old v h there =
      let f = first_global m in
      let k = length m.globals in
      let w = All-contains (λ u. (f + k ≤ u) × (u < f + k + k)) (entry_values (olds_of m)) v (All-from_recursion (λ u. (f + k ≤ u) × (u < f + k + k)) (entry_values (olds_of m)) (olds_within f k k)) there in
      elim h [ inl x ↦ omega (x, w, arith) | inr x ↦ omega (x, w, arith) ]

  none_old : (vs : List ℕ) → AllByRecursion (MayBeSet m p) vs → All (λ v. ¬ Contains (entry_values (olds_of m)) v) vs
  none_old vs h = All-from_recursion (λ v. ¬ Contains (entry_values (olds_of m)) v) vs (each_weaker (MayBeSet m p) (λ v. ¬ Contains (entry_values (olds_of m)) v) not_old vs h)

  pub keeps_entry_values : BodyIsWell m p p.body → KeepsEntryValues (blocks_of m p p.body) (olds_of m)
  keeps_entry_values well =
      let blocks = blocks_of m p p.body in
      let only : AllByRecursion (Only m p) blocks = whole_sets m p p.body well in
      record {
        paired_once = paired (first_global m) (length m.globals) (length m.globals) (omega arith);
        never_set = All-from_recursion (λ (k : Block). All (λ v. ¬ Contains (entry_values (olds_of m)) v) (set_by_each k.commands)) blocks
            (each_weaker (Only m p) (λ (k : Block). All (λ v. ¬ Contains (entry_values (olds_of m)) v) (set_by_each k.commands)) (λ k o. none_old (set_by_each k.commands) (of_each (MayBeSet m p) k.commands o.commands)) blocks only);
        never_target = All-from_recursion (λ (k : Block). All (λ v. ¬ Contains (entry_values (olds_of m)) v) (targets_of k.head)) blocks
            (each_weaker (Only m p) (λ (k : Block). All (λ v. ¬ Contains (entry_values (olds_of m)) v) (targets_of k.head)) (λ k o. none_old (targets_of k.head) o.targets) blocks only);
      }

-- so does that of a procedure whose calls are replaced
pub replaced_keeps : (m : Module) (p : Proc) → IsTypedModule m → HasCallsReplaced m p → KeepsEntryValues (blocks_of m p p.body) (olds_of m)
replaced_keeps m p typed h =
    subst (λ (q : Proc). KeepsEntryValues (blocks_of m q q.body) (olds_of m)) (sym h.same)
    (keeps_entry_values m (cut_calls m h.from) (cut_body_well m h.from more_keep typed h.there h.no_goto))
