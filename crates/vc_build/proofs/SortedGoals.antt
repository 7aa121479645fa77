-- The goals of a procedure are well-sorted obligations: the sequents are, and stay so with chosen triggers and canonical numbers.
use Rattle.std.specs.Prelude.{ℕ, ◌+◌, List, [], ◌∷◌, length, flat_map, Option, Some, None}
use Rattle.std.specs.List.{AllByRecursion, range_with_len}
use Rattle.logic_core.specs.Tree.{Tree}
use Rattle.logic_core.specs.Def.{Def}
use Rattle.logic_core.specs.WellSorted.{IsWellSorted}
use Rattle.logic_core.proofs.EachOf.{every_append}
use Rattle.flow_core.specs.declared.command.Command.{Command}
use Rattle.flow_core.specs.declared.command.Command.TheVariants.{Assert, Assume, Assign, Havoc}
use Rattle.passive_form.specs.declared.passive.Passive.{Passive}
use Rattle.passive_form.specs.Passive.{passive_block_at}
use Rattle.obligation_text.specs.Canonical.{CanonicalKeeps}
use Rattle.quantifier_triggers.specs.Choice.{obligation_with_triggers}
use Rattle.quantifier_triggers.specs.Kept.{ObligationsAreKept}
use Rattle.bpl_model.specs.Module.{Stmts, Proc, Module}
use Rattle.bpl_model.specs.Numbering.{defs_of}
use Rattle.bpl_goto.specs.Removed.{removed, remove_gotos}
use Rattle.bpl_goto.specs.Kept.{RemoveGotosKeepsFailures, RemoveGotosStaysTyped}
use Rattle.vc_build.specs.declared.goal.Goal.{Goal}
use Rattle.vc_build.specs.Depends.{reached_axioms}
use Rattle.vc_build.specs.Goals.{sequent_at, obligation_at, goals_in, goals_of_graph, passive_graph, goals_with_body}
use Rattle.vc_build.specs.Sound.{SequentsAreSorted}
use Rattle.vc_build.proofs.Some.{in_mapped}
use Rattle.vc_build.specs.Proved.{GoalsAreSorted}

abbrev AreSorted : List Goal → Type 0
AreSorted gs = AllByRecursion (λ g. IsWellSorted g.obligation) gs

each_sorted : (f : ℕ → List Goal) (ns : List ℕ) → ((n : ℕ) → AreSorted (f n)) → AreSorted (flat_map f ns)
each_sorted f [] h = tt
each_sorted f (n ∷ ns) h = every_append (λ (g : Goal). IsWellSorted g.obligation) (f n) (flat_map f ns) (h n) (each_sorted f ns h)

-- those of a graph, where the obligation of each place is
module _ (g : Passive) (defs : List Def) (axioms : List Tree) (h : (k at : ℕ) → IsWellSorted (obligation_at g defs axioms k at)) where
  commands_sorted : (k at : ℕ) (cs : List Command) → AreSorted (goals_in g defs axioms k at cs)
  commands_sorted k at [] = tt
  commands_sorted k at (Assert m E ∷ cs) = (h k at, commands_sorted k (at + 1) cs)
  commands_sorted k at (Assume E ∷ cs) = commands_sorted k (at + 1) cs
  commands_sorted k at (Assign ps ∷ cs) = commands_sorted k (at + 1) cs
  commands_sorted k at (Havoc xs ∷ cs) = commands_sorted k (at + 1) cs

  pub graph_sorted : AreSorted (goals_of_graph g defs axioms)
  graph_sorted = each_sorted (λ k. goals_in g defs axioms k 0 (passive_block_at g.blocks k).commands) (range_with_len 0 (length g.blocks)) (λ k. commands_sorted k 0 (passive_block_at g.blocks k).commands)

body_sorted : (m : Module) (p : Proc) (body : Option Stmts) → AreSorted (goals_of_graph (passive_graph m p) (defs_of m) (reached_axioms m p)) → AreSorted (goals_with_body m p body)
body_sorted m p None h = tt
body_sorted m p (Some ss) h = h

pub goals_sorted : SequentsAreSorted → RemoveGotosStaysTyped → RemoveGotosKeepsFailures → ObligationsAreKept → CanonicalKeeps → GoalsAreSorted
goals_sorted sequents typed_law goto_law chosen numbered m p typed ahead there =
    let n = remove_gotos m in
    let q = removed p in
    let sorted : (k at : ℕ) → IsWellSorted (sequent_at (passive_graph n q) (defs_of n) (reached_axioms n q) k at)
    = λ k at. sequents n q (typed_law m typed ahead) (in_mapped removed m.procs p there) (goto_law m p typed ahead there).no_goto k at in
    body_sorted n q q.body (graph_sorted (passive_graph n q) (defs_of n) (reached_axioms n q)
    (λ k at. let o = sequent_at (passive_graph n q) (defs_of n) (reached_axioms n q) k at in (numbered (obligation_with_triggers o) ((chosen o).0 (sorted k at))).0))
