use Rattle.std.specs.Prelude.{IsTrue}
use Rattle.rebuild_laws.proofs.UnplacedAlike.{alike_wherever}
use Rattle.rebuild_laws.proofs.laws.alike_wherever_they_stand.Goals as goal

pub returns : goal.returns
returns c = λ new_def new_var defs? vars? callees? ss ts us a e. alike_wherever new_def new_var (λ f. IsTrue (defs? f)) (λ v. IsTrue (vars? v)) (λ k l. IsTrue (callees? k l)) ss ts us a e
