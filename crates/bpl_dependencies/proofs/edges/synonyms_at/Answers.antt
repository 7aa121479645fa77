use Rattle.std.proofs.Common.{sym, ◌∙◌, ◌++◌, map, Some, arith, drop-cons}
use Rattle.std.proofs.lemmas.Grind.{common_steps}
use Rattle.std.proofs.lemmas.List.{at_drop_all}
use Rattle.bpl_dependencies.specs.AppliedView.{texts_seen}
use Rattle.bpl_dependencies.specs.Reach.{synonyms_among}
use Rattle.bpl_dependencies.proofs.NextNames.{synonyms_next, synonyms_end}
use Rattle.bpl_dependencies.proofs.edges.synonyms_at.Goals as goal

pub loop-name-preserved : goal.loop-name-preserved
loop-name-preserved c = grind (arith, common_steps, synonyms_next, drop-cons)

pub returns : goal.returns
returns c =
    let before = map Some c.loop-name.positions.items in
    let T = c.args.table.now in
    synonyms_end T before
    ∙ sym (at_drop_all (λ ns. before ++ synonyms_among T (texts_seen ns)) c.args.names.now c.loop-name.name-index c.loop-name-test.false)
    ∙ c.loop-name.invariant
