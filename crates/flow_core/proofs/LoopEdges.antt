-- Edges into a loop, block by block. The limit is the number after the greatest block with an edge to the head.
use Rattle.std.proofs.Common.{◌≡◌, ◌≢◌, ◌↔◌, ℕ, ◌<◌, ◌≤◌, nat_lt, ◌&&◌, true, false, List, length, get_or, arith}
use Rattle.std.specs.List.{list_any}
use Rattle.std.proofs.lemmas.Bool.{both_ways, ltb-true, lt-ltb, and_parts, and_from}
use Rattle.flow_core.specs.declared.block.Block.{Block}
use Rattle.flow_core.specs.Graph.{Edge}
use Rattle.flow_core.specs.Plain.{EnteredFrom, InLoop, LoopIsPlain}
use Rattle.flow_core.proofs.Lists.{passing, any_passes}
use Rattle.flow_core.proofs.Blocks.{edge_from, edge_to}

module _ (blocks : List Block) (head limit : ℕ) (limits : (low : ℕ) → (low < limit) ↔ EnteredFrom blocks low head) where
  pub inside : (b : ℕ) → head ≤ b → b < limit → InLoop blocks head b
  inside b low high = (low, (limits b).0 high)

  module _ (b : ℕ) (k : Block) (there : b < length blocks) (is : k ≡ get_or blocks b k) where
    pub enters : ¬ ((head ≤ b) × (b < limit)) → list_any (λ n. nat_lt head n && nat_lt n limit) k.next ≡ true → LoopIsPlain blocks head → ⊥
    enters outside h plain =
        let e = passing (λ n. nat_lt head n && nat_lt n limit) k.next h in
        let both = and_parts (nat_lt head e.0) (nat_lt e.0 limit) e.2 in
        let above = ltb-true head e.0 both.0 in
        let below = ltb-true e.0 limit both.1 in
        let loop = plain b e.0 (edge_to blocks b e.0 k there is e.1) (inside e.0 (omega arith) below) (λ same. omega arith) in
        outside (loop.0, (limits b).1 loop.1)

    pub stays_out : list_any (λ n. nat_lt head n && nat_lt n limit) k.next ≡ false → (c : ℕ) → Edge blocks b c → InLoop blocks head c → c ≢ head → ⊥
    stays_out fails c e loop apart =
        let above : head < c = omega (arith, loop.0, apart) in
        both_ways (list_any (λ n. nat_lt head n && nat_lt n limit) k.next) fails (any_passes (λ n. nat_lt head n && nat_lt n limit) k.next c (edge_from blocks b c k there is e)
        (and_from (nat_lt head c) (nat_lt c limit) (lt-ltb head c above) (lt-ltb c limit ((limits c).1 loop.1))))
