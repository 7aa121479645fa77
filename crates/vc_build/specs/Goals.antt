-- The goals of a procedure: an obligation for each assertion of its passive graph, by block and then by place, after its gotos are removed.
use Rattle.std.specs.Prelude.{ℕ, ◌+◌, List, [], ◌∷◌, length, flat_map, slice_get, Option, Some, None}
use Rattle.std.specs.List.{range_with_len}
use Rattle.logic_core.specs.Tree.{Tree}
use Rattle.logic_core.specs.Def.{Def, Obligation}
use Rattle.flow_core.specs.declared.command.Command.{Command}
use Rattle.flow_core.specs.declared.command.Command.TheVariants.{Assert, Assume, Assign, Havoc}
use Rattle.bpl_model.specs.Module.{Stmts, Proc, Module}
use Rattle.bpl_model.specs.Numbering.{defs_of, sorts_of}
use Rattle.bpl_model.specs.Cut.{cut_calls}
use Rattle.bpl_blocks.specs.Blocks.{to_blocks}
use Rattle.loop_cut.specs.Cut.{cut}
use Rattle.passive_form.specs.declared.passive.Passive.{Passive}
use Rattle.passive_form.specs.Passive.{passive_block_at}
use Rattle.passive_form.specs.Incarnations.{passify}
use Rattle.block_wp.specs.Equations.{equations}
use Rattle.obligation_text.specs.Canonical.{canonical}
use Rattle.bpl_goto.specs.Removed.{removed, remove_gotos}
use Rattle.quantifier_triggers.specs.Choice.{obligation_with_triggers}
use Rattle.vc_build.specs.declared.goal.Goal.{Goal}
use Rattle.vc_build.specs.Depends.{reached_axioms}

-- the equations of the assertion at this place of block k, beside the axioms
abbrev pub sequent_at : Passive → List Def → List Tree → ℕ → ℕ → Obligation
sequent_at g defs axioms k at =
    let s = equations g defs k at in
    record { vars = g.vars; defs = s.defs; axioms = axioms; goal = s.goal }

-- triggers are chosen before the numbering
abbrev pub obligation_at : Passive → List Def → List Tree → ℕ → ℕ → Obligation
obligation_at g defs axioms k at = canonical (obligation_with_triggers (sequent_at g defs axioms k at))

-- the goals of the commands of block k from this place on
abbrev pub goals_in : Passive → List Def → List Tree → ℕ → ℕ → List Command → List Goal
goals_in g defs axioms k at [] = []
goals_in g defs axioms k at (Assert m E ∷ cs) = record { mark = m; obligation = obligation_at g defs axioms k at } ∷ goals_in g defs axioms k (at + 1) cs
goals_in g defs axioms k at (Assume E ∷ cs) = goals_in g defs axioms k (at + 1) cs
goals_in g defs axioms k at (Assign ps ∷ cs) = goals_in g defs axioms k (at + 1) cs
goals_in g defs axioms k at (Havoc xs ∷ cs) = goals_in g defs axioms k (at + 1) cs

abbrev pub goals_of_graph : Passive → List Def → List Tree → List Goal
goals_of_graph g defs axioms = flat_map (λ k. goals_in g defs axioms k 0 (passive_block_at g.blocks k).commands) (range_with_len 0 (length g.blocks))

-- calls by contracts, blocks, loops cut, incarnations
abbrev pub passive_graph : Module → Proc → Passive
passive_graph m p = let q = cut_calls m p in passify (cut (to_blocks m q)) (sorts_of m q)

abbrev pub goals_with_body : Module → Proc → Option Stmts → List Goal
goals_with_body m p None = []
goals_with_body m p (Some ss) = goals_of_graph (passive_graph m p) (defs_of m) (reached_axioms m p)

-- of a procedure without gotos
abbrev pub goals_by_passes : Module → Proc → List Goal
goals_by_passes m p = goals_with_body m p p.body

abbrev pub goals_of_found : Module → Option Proc → List Goal
goals_of_found m None = []
goals_of_found m (Some p) = goals_by_passes m p

-- of the procedure of this number, if there is one, without gotos
abbrev pub goals_at : Module → ℕ → List Goal
goals_at m n = goals_of_found m (slice_get m.procs n)

abbrev pub goals : Module → Proc → List Goal
goals m p = goals_by_passes (remove_gotos m) (removed p)
