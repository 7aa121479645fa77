-- Edges that rise, block by block.
use Rattle.std.proofs.Common.{◌≡◌, ℕ, ◌<◌, nat_lt, true, false, List, length, get_or}
use Rattle.std.specs.List.{list_all}
use Rattle.std.proofs.lemmas.Bool.{both_ways, ltb-true, lt-ltb}
use Rattle.flow_core.specs.declared.block.Block.{Block}
use Rattle.flow_core.specs.Graph.{Edge}
use Rattle.flow_core.specs.Plain.{IsRising}
use Rattle.flow_core.proofs.Lists.{passes, all_pass}
use Rattle.flow_core.proofs.Blocks.{edge_from, edge_to}

module _ (blocks : List Block) (b : ℕ) (k : Block) (there : b < length blocks) (is : k ≡ get_or blocks b k) where
  pub rises : list_all (λ n. nat_lt b n) k.next ≡ true → (c : ℕ) → Edge blocks b c → b < c
  rises h c e = ltb-true b c (passes (λ n. nat_lt b n) k.next c h (edge_from blocks b c k there is e))

  pub falls : list_all (λ n. nat_lt b n) k.next ≡ false → IsRising blocks → ⊥
  falls fails h = both_ways (list_all (λ n. nat_lt b n) k.next) fails (all_pass (λ n. nat_lt b n) k.next (λ c m. lt-ltb b c (h b c (edge_to blocks b c k there is m))))
