-- What an early return of a NormalFault says.
use Rattle.std.proofs.Common.{◌≡◌, Option, None, Result, Ok, Err}
use Rattle.std.specs.Result.{IsErrAnd}
use Rattle.logic_core.specs.declared.fault.NormalFault.{NormalFault}
use Rattle.logic_core.specs.declared.fault.NormalFault.TheVariants.{Wide}
use Rattle.logic_core.specs.Gives.{GivesAs}

-- the same fault is returned
pub gives_err : {A B : Type 0} (f : A → B) (r : Result A NormalFault) (e : NormalFault) (o : Option B) → IsErrAnd r (λ d. d ≡ e) → (e ≡ Wide → o ≡ None) → GivesAs f r o
gives_err f (Ok a) e o h none = absurd h
gives_err f (Err d) e o h none = λ wide. none (let w : e ≡ Wide = cc in w)
