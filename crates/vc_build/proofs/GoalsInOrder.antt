-- The goals of a graph, command after command and block after block.
use Rattle.std.specs.Prelude.{◌≡◌, refl, ℕ, suc, ◌+◌, ◌-◌, ◌<◌, List, [], ◌∷◌, ◌++◌, length, flat_map}
use Rattle.std.specs.List.{range_with_len}
use Rattle.std.proofs.Common.{arith, ap, ◌∙◌}
use Rattle.std.proofs.lemmas.List.{append_assoc}
use Rattle.logic_core.specs.Tree.{Tree}
use Rattle.logic_core.specs.Def.{Def}
use Rattle.flow_core.specs.declared.command.Command.{Command}
use Rattle.flow_core.specs.declared.command.Command.TheVariants.{Assert, Assume, Assign, Havoc}
use Rattle.passive_form.specs.declared.passive.Passive.{Passive}
use Rattle.passive_form.specs.Passive.{passive_block_at}
use Rattle.vc_build.specs.declared.goal.Goal.{Goal}
use Rattle.vc_build.specs.Goals.{goals_in}

-- those of the first command, and then those of the others
pub goals_next : (g : Passive) (defs : List Def) (axioms : List Tree) (k at : ℕ) (c : Command) (cs : List Command)
    → goals_in g defs axioms k at (c ∷ cs) ≡ goals_in g defs axioms k at (c ∷ []) ++ goals_in g defs axioms k (at + 1) cs
goals_next g defs axioms k at (Assert m E) cs = refl
goals_next g defs axioms k at (Assume E) cs = refl
goals_next g defs axioms k at (Assign ps) cs = refl
goals_next g defs axioms k at (Havoc xs) cs = refl

-- those of the blocks from the k-th on
abbrev pub goals_from : Passive → List Def → List Tree → ℕ → List Goal
goals_from g defs axioms k = flat_map (λ j. goals_in g defs axioms j 0 (passive_block_at g.blocks j).commands) (range_with_len k (length g.blocks - k))

pub blocks_next : (g : Passive) (defs : List Def) (axioms : List Tree) (k : ℕ) → k < length g.blocks
    → goals_from g defs axioms k ≡ goals_in g defs axioms k 0 (passive_block_at g.blocks k).commands ++ goals_from g defs axioms (k + 1)
blocks_next g defs axioms k below =
    let left : length g.blocks - k ≡ suc (length g.blocks - (k + 1)) = omega (below, arith) in
    ap (λ n. flat_map (λ j. goals_in g defs axioms j 0 (passive_block_at g.blocks j).commands) (range_with_len k n)) left

-- the goals before, and then the others, where the first of these have joined those before
pub moved_on : (before first rest all after : List Goal) → after ≡ before ++ first → before ++ (first ++ rest) ≡ all → after ++ rest ≡ all
moved_on before first rest all after joined same = ap (λ gs. gs ++ rest) joined ∙ append_assoc before first rest ∙ same
