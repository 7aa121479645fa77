-- The cut graph sets no entry value.
use Rattle.std.specs.Prelude.{◌≡◌, ℕ, List, [], All, Contains, None}
use Rattle.std.proofs.Common.{sym, subst}
use Rattle.std.proofs.lemmas.List.Elements.{All-contains, All-contains_itself, All-weaker, All-from_get_or, All-nil}
use Rattle.flow_core.specs.declared.block.Block.{Block}
use Rattle.flow_core.specs.Graph.{Graph, block_at, set_by_each, targets_of, entry_values, KeepsEntryValues}
use Rattle.loop_cut.specs.Cut.{cut_block, cut_from, cut}
use Rattle.loop_cut.proofs.Alike.{all_at}
use Rattle.loop_cut.proofs.CutBlocks.{cut_at}
use Rattle.loop_cut.proofs.Failing.{sets_nothing_more}

module _ (olds : List (ℕ × ℕ)) where
  abbrev NoEntryValue : List ℕ → Type 0
  NoEntryValue xs = All (λ v. ¬ Contains (entry_values olds) v) xs

  none_of : (xs : List ℕ) → ((v : ℕ) → Contains xs v → ¬ Contains (entry_values olds) v) → NoEntryValue xs
  none_of xs f = All-weaker (Contains xs) (λ v. ¬ Contains (entry_values olds) v) f xs (All-contains_itself xs)

  still_none : (blocks : List Block) (b : ℕ) (k : Block) → NoEntryValue (set_by_each k.commands) → NoEntryValue (targets_of k.head) → NoEntryValue (set_by_each (cut_block blocks b k).commands)
  still_none blocks b k sets targets = none_of (set_by_each (cut_block blocks b k).commands) (λ v there entry.
      sets_nothing_more blocks b k v (λ h. All-contains (λ u. ¬ Contains (entry_values olds) u) (set_by_each k.commands) v sets h entry)
      (λ h. All-contains (λ u. ¬ Contains (entry_values olds) u) (targets_of k.head) v targets h entry) there)

pub entry_values_stay : (g : Graph) → KeepsEntryValues g.blocks g.olds → KeepsEntryValues (cut g).blocks g.olds
entry_values_stay g keeps = record {
  paired_once = keeps.paired_once;
  never_set = All-from_get_or (λ k. NoEntryValue g.olds (set_by_each k.commands)) (cut g).blocks (record { commands = []; next = []; head = None }) (λ b below.
      subst (λ (k : Block). NoEntryValue g.olds (set_by_each k.commands)) (sym (cut_at g b)) (still_none g.olds g.blocks b (block_at g.blocks b)
      (all_at (λ k. NoEntryValue g.olds (set_by_each k.commands)) g.blocks (All-nil _) keeps.never_set b)
      (all_at (λ k. NoEntryValue g.olds (targets_of k.head)) g.blocks (All-nil _) keeps.never_target b)));
  never_target = All-from_get_or (λ k. NoEntryValue g.olds (targets_of k.head)) (cut g).blocks (record { commands = []; next = []; head = None }) (λ b below.
      subst (λ (k : Block). NoEntryValue g.olds (targets_of k.head)) (sym (cut_at g b)) (All-nil _));
}

-- the same of blocks and pairs that are equal to the cut graph's
pub entry_values_stay_at : (g : Graph) (blocks : List Block) (olds : List (ℕ × ℕ)) → KeepsEntryValues g.blocks g.olds → blocks ≡ cut_from g.blocks 0 g.blocks → olds ≡ g.olds → KeepsEntryValues blocks olds
entry_values_stay_at g blocks olds keeps same pairs = subst (λ bs. KeepsEntryValues bs olds) (sym same) (subst (λ ps. KeepsEntryValues (cut g).blocks ps) (sym pairs) (entry_values_stay g keeps))
