use Rattle.std.proofs.Common.{◌≡◌, ◌∙◌, ◌++◌, [], subst, map, arith, false}
use Rattle.std.specs.Prelude.{OnOk}
use Rattle.std.proofs.lemmas.Grind.{common_steps}
use Rattle.bpl_model.specs.Names.{with_names}
use Rattle.bpl_model.specs.Reach.{reached_by, reached_clauses}
use Rattle.bpl_model.specs.Walk.{text_at}
use Rattle.bpl_blocks.specs.Among.{clauses_among}
use Rattle.bpl_blocks.specs.Blocks.{assume_all}
use Rattle.bpl_blocks.proofs.AmongGlobals.{clauses_are}
use Rattle.bpl_blocks.proofs.reach.push_reached.Goals as goal

pub returns : goal.returns
returns c =
    let m = c.args.links.now in
    let p = c.args.proc.now in
    let texts : c.deref.result.now ≡ m.texts = grind (arith, common_steps) in
    let globals : c.deref-3.result.now ≡ m.globals = grind (arith, common_steps) in
    let those : c.deref-2.result.now ≡ reached_by m p = c.deref-2.ensures.value ∙ c.in_ok-reached.ensures in
    let R : c.in_ok-reached-2.reached ≡ with_names [] (map (λ d. (text_at m.texts d).name) (reached_by m p)) =
    c.in_ok-reached-2.ensures ∙ (λ i. with_names [] (map (λ d. (text_at (texts i) d).name) (those i))) in
    let same : clauses_among c.names.result.now c.in_ok-reached-2.reached false c.deref-3.result.now ≡ reached_clauses m p =
    (λ i. clauses_among (c.names.ensures i) (R i) false (globals i)) ∙ clauses_are m (reached_by m p) false m.globals in
    subst (λ Es. OnOk c.push_among.result (c.push_among.new.commands.items ≡ c.args.commands.now.items ++ assume_all Es)) same c.push_among.ensures
