-- The goals of a procedure have the marks of its text.
use Rattle.std.specs.Prelude.{◌≡◌, refl, ℕ, ◌+◌, List, ◌++◌, map, length, flat_map, Option, Some, None}
use Rattle.std.proofs.Common.{ap, ◌∙◌}
use Rattle.flow_core.specs.declared.mark.Mark.{Mark}
use Rattle.flow_core.specs.declared.block.Block.{Block}
use Rattle.bpl_model.specs.Module.{Stmts, Proc, Module}
use Rattle.bpl_model.specs.Numbering.{defs_of, sorts_of, first_local}
use Rattle.bpl_model.specs.Contract.{end_checks}
use Rattle.bpl_model.specs.Cut.{cut_list, cut_body, cut_calls}
use Rattle.bpl_blocks.specs.Blocks.{blocks_of, to_blocks}
use Rattle.loop_cut.specs.Cut.{cut}
use Rattle.passive_form.specs.declared.passive.PassiveBlock.{PassiveBlock}
use Rattle.vc_build.specs.declared.goal.Goal.{Goal}
use Rattle.vc_build.specs.Depends.{reached_axioms}
use Rattle.vc_build.specs.Goals.{passive_graph, goals_with_body}
use Rattle.vc_build.specs.Marks.{marks_read, body_marks}
use Rattle.vc_build.specs.MarkLaws.{GoalsHaveTheirMarks}
use Rattle.vc_build.proofs.GraphMarks.{marks_in, goals_marked, passive_marked, cut_marked, graph_marks}
use Rattle.vc_build.proofs.BlockMarks.{own_list, body_marked}
use Rattle.vc_build.proofs.CallMarks.{all_marked}

module _ (m : Module) (p : Proc) where
  -- of the graph of a procedure with this body
  graph_marked : (ss : Stmts) → p.body ≡ Some ss → graph_marks (to_blocks m (cut_calls m p)).blocks 0 (to_blocks m (cut_calls m p)).blocks ≡ body_marks m p (Some ss)
  graph_marked ss e =
      let q = cut_calls m p in
      let n = first_local m p + length p.locals in
      let body : q.body ≡ Some (cut_list m n ss).0 = ap (λ b. (cut_body m n b).0) e in
      ap (λ b. graph_marks (blocks_of m q b) 0 (blocks_of m q b)) body
      ∙ body_marked m q (cut_list m n ss).0
      ∙ ap (λ ms. ms ++ marks_read (end_checks p.specs)) (all_marked m ss n)

  body_has : (b : Option Stmts) → p.body ≡ b → map (λ (g : Goal). g.mark) (goals_with_body m p b) ≡ body_marks m p b
  body_has None e = refl
  body_has (Some ss) e =
      let g = to_blocks m (cut_calls m p) in
      goals_marked (passive_graph m p) (defs_of m) (reached_axioms m p)
      ∙ passive_marked (cut g) (sorts_of m (cut_calls m p))
      ∙ cut_marked g.blocks 0 g.blocks
      ∙ graph_marked ss e

pub goals_have_their_marks : GoalsHaveTheirMarks
goals_have_their_marks m p = body_has m p p.body refl
