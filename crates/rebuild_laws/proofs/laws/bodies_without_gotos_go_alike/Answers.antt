use Rattle.std.specs.Prelude.{IsTrue}
use Rattle.rebuild_laws.proofs.RemovedAlike.{body_without_alike}
use Rattle.rebuild_laws.proofs.laws.bodies_without_gotos_go_alike.Goals as goal

pub returns : goal.returns
returns c = λ new_def new_var defs? vars? callees? ss ts a. body_without_alike new_def new_var (λ f. IsTrue (defs? f)) (λ v. IsTrue (vars? v)) (λ k l. IsTrue (callees? k l)) ss ts a
