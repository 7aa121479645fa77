use Rattle.std.proofs.Common.{◌≡◌, ◌<◌, ◌≤◌, ◌-◌, ◌∙◌, sym, map, reverse, arith}
use Rattle.std.proofs.lemmas.List.{reverse-append, map-append}
use Rattle.tableau_branch.specs.Branch.{gives}
use Rattle.tableau_branch.specs.Move.{cost}
use Rattle.tableau.specs.Search.{step}
use Rattle.tableau_branch.specs.View.{move_of, played_of}
use Rattle.tableau.proofs.Turns.{goes_on, stops}
use Rattle.plain_search.proofs.run.run.Goals as goal

pub loop-branch-preserved : goal.loop-branch-preserved
loop-branch-preserved c =
    let defs = c.args.defs.now in
    let m = move_of c.in-Ok-Some.step in
    let b = c.in-Some.branch in
    let ms = map played_of c.loop-branch.moves.items in
    let bs = reverse c.pop.new.self.items in
    let popped = c.in-Some.ensures.items in
    let inv = rw (popped, reverse-append) at c.loop-branch.invariant in
    let price : c.cost-cost.result ≡ cost m = c.cost-cost.ensures in
    let within = c.if-left-cost.false in
    let paid : cost m ≤ c.loop-branch.left = omega (arith, price, within) in
    let stepped : step defs b ≡ gives m = rw c.in-Ok-Some.field-0-is at c.in-Ok-Some.ensures in
    let on = goes_on defs c.loop-branch.left b bs m ms stepped paid in
    let moves = c.in_ok-push-in-Ok-Some.ensures.items in
    let entry = c.in_ok-play-in-Ok-Some.ensures.played in
    let stack = c.in_ok-play-in-Ok-Some.ensures.pushed in
    rw (moves, map-append, entry, stack, price) (sym on ∙ inv)

pub returns-then-left-cost : goal.returns-then-left-cost
returns-then-left-cost c =
    let defs = c.args.defs.now in
    let m = move_of c.in-Ok-Some.step in
    let b = c.in-Some.branch in
    let ms = map played_of c.loop-branch.moves.items in
    let bs = reverse c.pop.new.self.items in
    let popped = c.in-Some.ensures.items in
    let inv = rw (popped, reverse-append) at c.loop-branch.invariant in
    let price : c.cost-cost.result ≡ cost m = c.cost-cost.ensures in
    let more = c.if-left-cost.true in
    let short : c.loop-branch.left < cost m = omega (arith, price, more) in
    let stepped : step defs b ≡ gives m = rw c.in-Ok-Some.field-0-is at c.in-Ok-Some.ensures in
    sym (stops defs c.loop-branch.left b bs m ms stepped short) ∙ inv
