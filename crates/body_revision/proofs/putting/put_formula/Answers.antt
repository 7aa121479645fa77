use Rattle.body_revision.proofs.PutBack.{axiom_back, axiom_there}
use Rattle.body_revision.proofs.putting.put_formula.Goals as goal

pub returns-clause-places : goal.returns-clause-places
returns-clause-places c =
    let put = c.put_axiom-before in
    axiom_there c.args.typed.now c.put_axiom-before.new.typed c.args.at c.args.decl_at c.args.declared.text put.result.text put.ensures.text c.args.declared.formula put.result.formula put.ensures.put put.ensures.formula c.requires.axioms c.requires.texts

pub returns-clause-back : goal.returns-clause-back
returns-clause-back c =
    let put = c.put_axiom-before in
    axiom_back c.args.typed.now c.put_axiom-before.new.typed c.args.at c.args.decl_at c.args.declared.text put.result.text put.ensures.text c.args.declared.formula put.result.formula put.ensures.put put.ensures.formula
