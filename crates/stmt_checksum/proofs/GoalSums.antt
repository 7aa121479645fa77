-- The checksums of a procedure's goals, by their marks.
use Rattle.std.proofs.Common.{◌≡◌, ◌∙◌, refl, ap, ℕ, List, [], ◌∷◌, map, Some}
use Rattle.flow_core.specs.declared.mark.Mark.{Mark}
use Rattle.bpl_ast.specs.Statement.{Decl}
use Rattle.bpl_model.specs.Module.{Proc, Module}
use Rattle.vc_build.specs.declared.goal.Goal.{Goal}
use Rattle.vc_build.specs.Goals.{goals_by_passes}
use Rattle.stmt_checksum.specs.declared.chain.Link.{Link}
use Rattle.stmt_checksum.specs.Chain.{links, first_sum, chain_lines, goal_sum}
use Rattle.stmt_checksum.specs.Sums.{sums_of_found}

by_marks : (ks : List Link) (gs : List Goal) → map (goal_sum ks) (map (λ (g : Goal). g.mark) gs) ≡ map (λ (g : Goal). goal_sum ks g.mark) gs
by_marks ks [] = refl
by_marks ks (g ∷ gs) = ap (λ l. goal_sum ks g.mark ∷ l) (by_marks ks gs)

pub goal_sums : (m : Module) (ds : List Decl) (p : Proc) (ks : List Link) (ms : List Mark) → ks ≡ links m first_sum (chain_lines m ds p.name) → ms ≡ map (λ (g : Goal). g.mark) (goals_by_passes m p)
    → map (goal_sum ks) ms ≡ sums_of_found m ds (Some p)
goal_sums m ds p ks ms chain marks = (λ i. map (goal_sum (chain i)) (marks i)) ∙ by_marks (links m first_sum (chain_lines m ds p.name)) (goals_by_passes m p)
