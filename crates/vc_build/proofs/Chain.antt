-- Where the passes keep failures, a failing execution has a goal that isn't valid, and valid goals are safe.
use Rattle.std.specs.Prelude.{◌≡◌, refl, ℕ, zero, suc, ◌+◌, ◌<◌, List, [], ◌∷◌, length, slice_index_or, slice_get, Some, None}
use Rattle.std.proofs.Common.{arith}
use mathlib.Core.Path.{subst}
use mathlib.Core.Logic.{inl, inr}
use Rattle.logic_core.specs.Tree.{Kind, Tree}
use Rattle.logic_core.specs.Def.{Def}
use Rattle.flow_core.specs.State.{State}
use Rattle.flow_core.specs.declared.mark.GoalKind.{GoalKind}
use Rattle.flow_core.specs.declared.mark.Mark.{Mark}
use Rattle.flow_core.specs.Clause.{Breaks}
use Rattle.flow_core.specs.declared.command.Command.{Command}
use Rattle.flow_core.specs.declared.block.Block.{Block}
use Rattle.flow_core.specs.declared.command.Command.TheVariants.{Assert, Assume, Assign, Havoc}
use Rattle.flow_core.specs.Graph.{Graph, block_at}
use Rattle.flow_core.specs.Run.{Position, arrival, enter, Run, stay, go, Failure, invariant_breaks, clauses_at, path}
use Rattle.loop_cut.specs.Cut.{cut_from}
use Rattle.passive_form.specs.declared.passive.Passive.{Passive}
use Rattle.passive_form.specs.declared.passive.PassiveBlock.{PassiveBlock}
use Rattle.passive_form.specs.Passive.{passive_block_at, BreaksIn, BreaksAlong}
use Rattle.vc_build.specs.declared.goal.Goal.{Goal}
use Rattle.vc_build.specs.Goals.{goals_in, goals_of_graph, obligation_at}
use Rattle.vc_build.proofs.Some.{Has, has_in_range}

-- no block of a cut graph is a head
pub no_head : (blocks : List Block) (n : ℕ) (ks : List Block) (b : ℕ) → (slice_index_or (cut_from blocks n ks) b (record { commands = []; next = []; head = None })).head ≡ None
no_head blocks n [] b = refl
no_head blocks n (k ∷ ks) zero = refl
no_head blocks n (k ∷ ks) (suc b) = no_head blocks (n + 1) ks b

-- a failing run enters the block at which it arrives, where that is no head
pub enters_first : (defs : List Def) (sorts : List Kind) (g : Graph) {kind : GoalKind} {b : ℕ} {σ : State} {last : Position} {m : Mark}
    → (block_at g.blocks b).head ≡ None → (r : Run defs sorts g (arrival kind b σ) last) → Failure defs sorts g last m
    → (bs : List ℕ) × (path defs sorts g r ≡ b ∷ bs)
enters_first defs sorts g {kind = kind} {σ = σ} {m = m} none stay (invariant_breaks h) = absurd (subst (λ o. Breaks defs σ (clauses_at kind o) m) none h)
enters_first defs sorts g none (go (enter h) r) f = (path defs sorts g r, refl)

moved : (P : Goal → Type 0) (g : Passive) (defs : List Def) (axioms : List Tree) (k : ℕ) (m : Mark) (a b : ℕ) → a ≡ b
    → P (record { mark = m; obligation = obligation_at g defs axioms k a }) → P (record { mark = m; obligation = obligation_at g defs axioms k b })
moved P g defs axioms k m a b e p = subst (λ j. P (record { mark = m; obligation = obligation_at g defs axioms k j })) e p

-- an assertion of a block has a goal
has_goal : (P : Goal → Type 0) (g : Passive) (defs : List Def) (axioms : List Tree) (k n i : ℕ) (cs : List Command) (m : Mark) (E : Tree)
    → slice_get cs i ≡ Some (Assert m E) → P (record { mark = m; obligation = obligation_at g defs axioms k (n + i) })
    → Has P (goals_in g defs axioms k n cs)
has_goal P g defs axioms k n i [] m E e p = let c : None ≡ Some (Assert m E) = e in absurd cc
has_goal P g defs axioms k n zero (Assert l F ∷ cs) m E e p =
    let c : Some (Assert l F) ≡ Some (Assert m E) = e in
    let same : m ≡ l = cc in
    inl (subst (λ (x : Mark). P (record { mark = x; obligation = obligation_at g defs axioms k n })) same (moved P g defs axioms k m (n + 0) n (omega arith) p))
has_goal P g defs axioms k n zero (Assume F ∷ cs) m E e p = let c : Some (Assume F) ≡ Some (Assert m E) = e in absurd cc
has_goal P g defs axioms k n zero (Assign ps ∷ cs) m E e p = let c : Some (Assign ps) ≡ Some (Assert m E) = e in absurd cc
has_goal P g defs axioms k n zero (Havoc xs ∷ cs) m E e p = let c : Some (Havoc xs) ≡ Some (Assert m E) = e in absurd cc
has_goal P g defs axioms k n (suc i) (Assert l F ∷ cs) m E e p = inr (has_goal P g defs axioms k (n + 1) i cs m E e (moved P g defs axioms k m (n + suc i) (n + 1 + i) (omega arith) p))
has_goal P g defs axioms k n (suc i) (Assume F ∷ cs) m E e p = has_goal P g defs axioms k (n + 1) i cs m E e (moved P g defs axioms k m (n + suc i) (n + 1 + i) (omega arith) p)
has_goal P g defs axioms k n (suc i) (Assign ps ∷ cs) m E e p = has_goal P g defs axioms k (n + 1) i cs m E e (moved P g defs axioms k m (n + suc i) (n + 1 + i) (omega arith) p)
has_goal P g defs axioms k n (suc i) (Havoc xs ∷ cs) m E e p = has_goal P g defs axioms k (n + 1) i cs m E e (moved P g defs axioms k m (n + suc i) (n + 1 + i) (omega arith) p)

-- a block with an assertion is there
is_there : (ks : List PassiveBlock) (k i : ℕ) (c : Command) → slice_get (slice_index_or ks k (record { commands = []; next = [] })).commands i ≡ Some c → k < length ks
is_there [] k i c e = let n : None ≡ Some c = e in absurd cc
is_there (x ∷ ks) zero i c e = omega arith
is_there (x ∷ ks) (suc k) i c e = let r : k < length ks = is_there ks k i c e in omega arith

pub graph_has_goal : (P : Goal → Type 0) (g : Passive) (defs : List Def) (axioms : List Tree) (frees : State) (k at : ℕ) (m : Mark)
    → BreaksIn defs g frees k at m → P (record { mark = m; obligation = obligation_at g defs axioms k at })
    → Has P (goals_of_graph g defs axioms)
graph_has_goal P g defs axioms frees k at m h p =
    has_in_range P (λ j. goals_in g defs axioms j 0 (passive_block_at g.blocks j).commands) (length g.blocks) k 0 (is_there g.blocks k at (Assert m h.formula) h.asserted)
    (let e : k ≡ 0 + k = omega arith in
    subst (λ j. Has P (goals_in g defs axioms j 0 (passive_block_at g.blocks j).commands)) e
    (has_goal P g defs axioms k 0 at (passive_block_at g.blocks k).commands m h.formula h.asserted (moved P g defs axioms k m at (0 + at) (omega arith) p)))

-- the failure at the end of a path
pub at_its_end : (defs : List Def) (g : Passive) (frees : State) (bs : List ℕ) (k at : ℕ) (m : Mark) → BreaksAlong defs g frees bs k at m → BreaksIn defs g frees k at m
at_its_end defs g frees [] k at m h = absurd h
at_its_end defs g frees (b ∷ []) k at m h = h.1
at_its_end defs g frees (b ∷ c ∷ bs) k at m h = at_its_end defs g frees (c ∷ bs) k at m h.2
