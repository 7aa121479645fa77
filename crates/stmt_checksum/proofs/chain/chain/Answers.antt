use Rattle.std.proofs.Common.{◌≡◌, ◌++◌, map, get_or, ap, sym, ◌∙◌, arith}
use Rattle.std.proofs.lemmas.Grind.{common_steps}
use Rattle.std.proofs.lemmas.List.{append-nil}
use Rattle.stmt_checksum.specs.PartsView.{part_seen}
use Rattle.stmt_checksum.specs.Chain.{line_of, next_sum, links}
use Rattle.stmt_checksum.proofs.ChainEnds.{lines_end, links_next, dropped}
use Rattle.stmt_checksum.proofs.chain.chain.Goals as goal

pub returns : goal.returns
returns c =
    let least = c.min-i-end.ensures in
    let m = c.args.leads.now.links in
    let gone = lines_end m c.args.leads.now.table c.loop-i.i c.args.lines.now c.args.parts.now (omega (arith, least, c.loop-i-test.false)) in
    sym (append-nil c.loop-i.found.items) ∙ (ap (λ ls. c.loop-i.found.items ++ links m c.loop-i.sum ls) (sym gone) ∙ c.loop-i.invariant)

pub loop-i-preserved : goal.loop-i-preserved
loop-i-preserved c =
    let m = c.args.leads.now.links in
    let t = c.args.leads.now.table in
    let i = c.loop-i.i in
    let ls = c.args.lines.now in
    let ps = c.args.parts.now in
    let end = c.min-i-end.ensures in
    let line = c.index-lines-i.result in
    let part = c.index-parts-i.result in
    let line_there : get_or ls i line ≡ line = grind (arith, common_steps) in
    let part_there : get_or ps i part ≡ part = grind (arith, common_steps) in
    let lines_left = dropped ls i line (omega (arith, end, c.loop-i-test.true)) line_there in
    let parts_left = dropped ps i part (omega (arith, end, c.loop-i-test.true)) part_there in
    let next : c.in_ok-sum.sum ≡ next_sum m c.loop-i.sum (line_of m t line.items (part_seen part)) = c.in_ok-sum.ensures ∙ ap (λ w. next_sum m c.loop-i.sum (line_of m t w (part_seen part))) c.deref.ensures.value in
    links_next m t c.loop-i.found.items c.push.new.self.items c.loop-i.sum c.in_ok-sum.sum i ls ps line part lines_left parts_left next c.in_ok-push.ensures.items ∙ c.loop-i.invariant
