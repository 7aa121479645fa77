-- Graphs that go alike still do once their loops are cut.
use Rattle.std.specs.Prelude.{◌≡◌, refl, ℕ, zero, suc, ◌+◌, nat_lt, Bool, true, false, cond, List, [], ◌∷◌, ◌++◌, map, filter, Option, Some, None}
use Rattle.std.specs.List.{AllByRecursion}
use Rattle.std.proofs.Common.{ap, sym, subst}
use Rattle.logic_core.specs.Renamed.{both_renamed}
use Rattle.flow_core.specs.declared.mark.GoalKind.{GoalKind}
use Rattle.flow_core.specs.declared.command.Command.{Command}
use Rattle.flow_core.specs.declared.command.Command.TheVariants.{Assume, Havoc}
use Rattle.flow_core.specs.declared.block.Invariant.{Invariant}
use Rattle.flow_core.specs.declared.block.LoopHead.{LoopHead}
use Rattle.flow_core.specs.declared.block.Block.{Block}
use Rattle.flow_core.specs.Clause.{checked, assumed, read_invariant}
use Rattle.flow_core.specs.Reader.{command_of}
use Rattle.flow_core.specs.Graph.{Graph, block_at}
use Rattle.flow_core.specs.Run.{arrival_kind, clauses_at}
use Rattle.loop_cut.specs.Cut.{at_head, before_edges, cut_block, cut_from, cut}
use Rattle.rebuild_laws.proofs.Commands.{AlikeCommand, asserted, assumed_so, any_values, AlikeCommands, no_more, one_more, alike_both}
use Rattle.rebuild_laws.specs.Alike.{AlikeInvariant, AlikeInvariants, no_invariants, one_invariant}

module _ (new_def new_var : ℕ → ℕ) (D V : ℕ → Type 0) where
  abbrev Alikes : List Command → List Command → Type 0
  Alikes = AlikeCommands new_def new_var D V

  pub record AlikeHead (h k : LoopHead) : Type 0 where
    pub invariants : AlikeInvariants new_def new_var D V h.invariants k.invariants
    pub each : AllByRecursion V h.targets
    pub targets : k.targets ≡ map new_var h.targets

  pub data AlikeHeads : Option LoopHead → Option LoopHead → Type 0 where
    no_head : AlikeHeads None None
    a_head : {h k : LoopHead} → AlikeHead h k → AlikeHeads (Some h) (Some k)

  pub record AlikeBlock (b c : Block) : Type 0 where
    pub commands : Alikes b.commands c.commands
    pub next : c.next ≡ b.next
    pub head : AlikeHeads b.head c.head

  pub data AlikeBlocks : List Block → List Block → Type 0 where
    no_blocks : AlikeBlocks [] []
    one_block : {b c : Block} {bs cs : List Block} → AlikeBlock b c → AlikeBlocks bs cs → AlikeBlocks (b ∷ bs) (c ∷ cs)

  pub block_alike : (bs cs : List Block) → AlikeBlocks bs cs → (n : ℕ) → AlikeBlock (block_at bs n) (block_at cs n)
  block_alike _ _ no_blocks n = record { commands = no_more; next = refl; head = no_head }
  block_alike _ _ (one_block h hs) zero = h
  block_alike _ _ (one_block {bs = bs} {cs = cs} h hs) (suc n) = block_alike bs cs hs n

  -- an invariant as it is read at an arrival
  read_alike : (kind : GoalKind) (i j : Invariant) → AlikeInvariant new_def new_var D V i j → AlikeCommand new_def new_var D V (command_of (read_invariant kind i)) (command_of (read_invariant kind j))
  read_alike kind i j a =
      subst (λ f. AlikeCommand new_def new_var D V (command_of (read_invariant kind i)) (command_of (cond f (assumed j.formula) (checked (record { place = j.place; kind = kind }) j.formula)))) (sym a.free)
      (subst (λ F. AlikeCommand new_def new_var D V (command_of (read_invariant kind i)) (command_of (cond i.free (assumed F) (checked (record { place = j.place; kind = kind }) F)))) (sym a.formula) (by i.free))
    where
      by : (f : Bool) → AlikeCommand new_def new_var D V (command_of (cond f (assumed i.formula) (checked (record { place = i.place; kind = kind }) i.formula)))
          (command_of (cond f (assumed (both_renamed new_def new_var i.formula)) (checked (record { place = j.place; kind = kind }) (both_renamed new_def new_var i.formula))))
      by true = assumed_so a.covered
      by false = asserted a.covered

  all_read : (kind : GoalKind) (is js : List Invariant) → AlikeInvariants new_def new_var D V is js → Alikes (map command_of (map (read_invariant kind) is)) (map command_of (map (read_invariant kind) js))
  all_read kind _ _ no_invariants = no_more
  all_read kind _ _ (one_invariant {i = i} {j = j} {is = is} {js = js} a rest) = one_more (read_alike kind i j a) (all_read kind is js rest)

  arriving_alike : (kind : GoalKind) (h k : Option LoopHead) → AlikeHeads h k → Alikes (map command_of (clauses_at kind h)) (map command_of (clauses_at kind k))
  arriving_alike kind _ _ no_head = no_more
  arriving_alike kind _ _ (a_head {h = h} {k = k} a) = all_read kind h.invariants k.invariants a.invariants

  all_assumed : (is js : List Invariant) → AlikeInvariants new_def new_var D V is js → Alikes (map (λ (i : Invariant). Assume i.formula) is) (map (λ (i : Invariant). Assume i.formula) js)
  all_assumed _ _ no_invariants = no_more
  all_assumed _ _ (one_invariant {i = i} {is = is} {js = js} a rest) =
      one_more (subst (λ F. AlikeCommand new_def new_var D V (Assume i.formula) (Assume F)) (sym a.formula) (assumed_so a.covered)) (all_assumed is js rest)

  head_alike : (h k : Option LoopHead) → AlikeHeads h k → Alikes (at_head h) (at_head k)
  head_alike _ _ no_head = no_more
  head_alike _ _ (a_head {h = h} {k = k} a) =
      one_more (subst (λ ts. AlikeCommand new_def new_var D V (Havoc h.targets) (Havoc ts)) (sym a.targets) (any_values a.each)) (all_assumed h.invariants k.invariants a.invariants)

  edges_alike : (bs cs : List Block) → AlikeBlocks bs cs → (b : ℕ) (next : List ℕ) → Alikes (before_edges bs b next) (before_edges cs b next)
  edges_alike bs cs a b [] = no_more
  edges_alike bs cs a b (c ∷ next) =
      alike_both new_def new_var D V (map command_of (clauses_at (arrival_kind b c) (block_at bs c).head)) (map command_of (clauses_at (arrival_kind b c) (block_at cs c).head)) (before_edges bs b next) (before_edges cs b next)
      (arriving_alike (arrival_kind b c) (block_at bs c).head (block_at cs c).head (block_alike bs cs a c).head) (edges_alike bs cs a b next)

  cut_alike : (bs cs : List Block) → AlikeBlocks bs cs → (n : ℕ) (b c : Block) → AlikeBlock b c → AlikeBlock (cut_block bs n b) (cut_block cs n c)
  cut_alike bs cs a n b c h = record {
    commands = alike_both new_def new_var D V (at_head b.head) (at_head c.head) (b.commands ++ before_edges bs n b.next) (c.commands ++ before_edges cs n c.next) (head_alike b.head c.head h.head)
        (alike_both new_def new_var D V b.commands c.commands (before_edges bs n b.next) (before_edges cs n c.next) h.commands
        (subst (λ next. Alikes (before_edges bs n b.next) (before_edges cs n next)) (sym h.next) (edges_alike bs cs a n b.next)));
    next = ap (filter (nat_lt n)) h.next;
    head = no_head;
  }

  cuts_alike : (bs cs : List Block) → AlikeBlocks bs cs → (n : ℕ) (ds es : List Block) → AlikeBlocks ds es → AlikeBlocks (cut_from bs n ds) (cut_from cs n es)
  cuts_alike bs cs a n _ _ no_blocks = no_blocks
  cuts_alike bs cs a n _ _ (one_block {b = d} {c = e} {bs = ds} {cs = es} h hs) = one_block (cut_alike bs cs a n d e h) (cuts_alike bs cs a (n + 1) ds es hs)

  pub graphs_cut_alike : (g h : Graph) → AlikeBlocks g.blocks h.blocks → AlikeBlocks (cut g).blocks (cut h).blocks
  graphs_cut_alike g h a = cuts_alike g.blocks h.blocks a 0 g.blocks h.blocks a
