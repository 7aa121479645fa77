-- Blocks and edges by number.
use Rattle.std.proofs.Common.{◌≡◌, sym, ◌∙◌, ℕ, ◌<◌, List, [], length, get_or, subst, arith, inl, inr}
use Rattle.std.specs.Prelude.{None, IsSome, Contains}
use Rattle.std.proofs.lemmas.List.{get_or_default, get_or_past}
use Rattle.std.proofs.lemmas.Bool.{cases_lt}
use Rattle.flow_core.specs.declared.block.Block.{Block}
use Rattle.flow_core.specs.Graph.{block_at, Edge}
use Rattle.flow_core.specs.Plain.{IsHead, Branches}

-- what stands at a place that is there is the block of its number
pub block_at_place : (blocks : List Block) (b : ℕ) (k : Block) → b < length blocks → k ≡ get_or blocks b k → block_at blocks b ≡ k
block_at_place blocks b k there is = get_or_default blocks b (record { commands = []; next = []; head = None }) k there ∙ sym is

-- what holds of the one holds of the other
pub from_place : (Q : Block → Type 0) (blocks : List Block) (b : ℕ) (k : Block) → b < length blocks → k ≡ get_or blocks b k → Q (block_at blocks b) → Q k
from_place Q blocks b k there is q = subst Q (block_at_place blocks b k there is) q

pub to_place : (Q : Block → Type 0) (blocks : List Block) (b : ℕ) (k : Block) → b < length blocks → k ≡ get_or blocks b k → Q k → Q (block_at blocks b)
to_place Q blocks b k there is q = subst Q (sym (block_at_place blocks b k there is)) q

-- a block of which something holds that doesn't hold of an empty one is there
pub place_there : (Q : Block → Type 0) → (Q (record { commands = []; next = []; head = None }) → ⊥) → (blocks : List Block) (b : ℕ) → Q (block_at blocks b) → b < length blocks
place_there Q empty blocks b q =
    elim (cases_lt b (length blocks)) [
      | inl h ↦ h
      | inr h ↦ absurd (empty (subst Q (get_or_past blocks b (record { commands = []; next = []; head = None }) h) q))
    ]

pub edge_from : (blocks : List Block) (b c : ℕ) (k : Block) → b < length blocks → k ≡ get_or blocks b k → Edge blocks b c → Contains k.next c
edge_from blocks b c k there is e = from_place (λ q. Contains q.next c) blocks b k there is e

pub edge_to : (blocks : List Block) (b c : ℕ) (k : Block) → b < length blocks → k ≡ get_or blocks b k → Contains k.next c → Edge blocks b c
edge_to blocks b c k there is m = to_place (λ q. Contains q.next c) blocks b k there is m

-- edges leave only blocks that are there, and so it is with heads and branches
pub edge_there : (blocks : List Block) (b c : ℕ) → Edge blocks b c → b < length blocks
edge_there blocks b c e = place_there (λ q. Contains q.next c) (λ m. omega (arith, m.1)) blocks b e

pub head_there : (blocks : List Block) (h : ℕ) → IsHead blocks h → h < length blocks
head_there blocks h e = place_there (λ q. IsSome q.head) (λ m. cc) blocks h e

pub branch_there : (blocks : List Block) (b : ℕ) → Branches blocks b → b < length blocks
branch_there blocks b e = place_there (λ q. 1 < length q.next) (λ m. omega (arith, m)) blocks b e
