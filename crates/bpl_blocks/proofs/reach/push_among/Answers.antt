use Rattle.std.proofs.Common.{◌≡◌, ◌∙◌, ◌++◌, ◌+◌, [], cond, ap, sym, drop, arith}
use Rattle.std.specs.Prelude.{option_to_list}
use Rattle.std.proofs.lemmas.Grind.{common_steps}
use Rattle.bpl_blocks.specs.Among.{clauses_among, now_reached}
use Rattle.bpl_blocks.specs.Blocks.{assume_all}
use Rattle.bpl_blocks.proofs.AmongGlobals.{among_more}
use Rattle.bpl_blocks.proofs.reach.push_among.Goals as goal

pub loop-global-preserved : goal.loop-global-preserved
loop-global-preserved c =
    let D = c.args.declared.now in
    let R = c.args.reached.now in
    let gs = c.args.globals.now in
    let k = c.loop-global.global-index in
    let g = c.global-item.result in
    let cs = c.loop-global.commands.items in
    let before = c.loop-global.is_reached in
    let name : c.as_bytes.result.now ≡ g.name = first_of (cc, grind (arith, common_steps)) in
    let clause : c.global.inside.clause ≡ g.clause = first_of (cc, grind (arith, common_steps)) in
    let now : c.is_now_reached-is_reached.result ≡ now_reached D R before g.name = c.is_now_reached-is_reached.ensures ∙ ap (now_reached D R before) name in
    let pushed : c.push_clause_if.new.commands.items ≡ cs ++ assume_all (cond (now_reached D R before g.name) (option_to_list g.clause) []) =
    c.in_ok-push_clause_if.ensures ∙ (λ i. cs ++ assume_all (cond (now i) (option_to_list (clause i)) [])) in
    (λ i. pushed i ++ assume_all (clauses_among D R (now i) (drop (k + 1) gs)))
    ∙ (sym (among_more D R before gs k g cs c.loop-global-test.true c.global-item.is) ∙ c.loop-global.invariant)
