use Rattle.std.proofs.Common.{◌≡◌, ◌∙◌, ◌+◌, ◌++◌, [], ◌∷◌, ap, sym, subst, map, arith}
use Rattle.std.specs.Prelude.{IfOk}
use Rattle.std.proofs.lemmas.Grind.{common_steps}
use Rattle.flow_core.specs.Reader.{command_of}
use Rattle.bpl_model.specs.StmtView.{stmts_of}
use Rattle.bpl_model.specs.Numbering.{first_own}
use Rattle.bpl_model.specs.Clauses.{all_clauses}
use Rattle.bpl_model.specs.Contract.{end_checks}
use Rattle.bpl_blocks.specs.Targets.{list_size}
use Rattle.bpl_blocks.specs.Blocks.{block}
use Rattle.bpl_blocks.specs.Drawn.{with_list}
use Rattle.bpl_blocks.proofs.BodyDrawn.{body_drawn}
use Rattle.bpl_blocks.proofs.graph.body_blocks.Goals as goal

pub returns : goal.returns
returns c =
    let m = c.args.links.now in
    let p = c.args.p.now in
    let ss = stmts_of c.args.body.now in
    let S = c.in_ok-setting.setting in
    let cs = c.in_ok-commands.commands.items in
    let specs : c.as_slice.result.now ≡ p.specs = grind (arith, common_steps) in
    let last : c.in_ok-last.last ≡ list_size ss + 1 = c.in_ok-last.ensures ∙ ap (λ k. k + 1) c.in_ok-list_size.ensures in
    let clauses : S.clauses ≡ all_clauses m p = ap (λ s. s.clauses) c.in_ok-setting.ensures ∙ ap (λ n. all_clauses n p) c.parts-parts.ensures.same in
    let own : S.own ≡ first_own m p = ap (λ s. s.own) c.in_ok-setting.ensures ∙ ap (λ n. first_own n p) c.parts-parts.ensures.same in
    let number : S.last ≡ c.in_ok-last.last = ap (λ s. s.last) c.in_ok-setting.ensures in
    let made : c.in_ok-drawn.drawn ≡ with_list S [] (record { blocks = []; commands = cs }) ss = c.in_ok-drawn.ensures in
    subst (λ bs. IfOk c.end_body.result (λ v. v.items ≡ bs))
    ((λ i. ((made i).blocks ++ block (made i).commands (sym number i ∷ []) ∷ []) ++ block (map command_of (end_checks (specs i))) [] ∷ [])
    ∙ body_drawn m p ss S cs clauses own (number ∙ last) c.in_ok-commands.ensures)
    c.end_body.ensures
