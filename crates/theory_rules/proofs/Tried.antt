-- What code says of a rule that it tries, from what it says of the rule's parts.
use Rattle.std.specs.Prelude.{◌≡◌, Option, None, Result, Ok, Err}
use Rattle.std.specs.Result.{IsErrAnd}
use Rattle.logic_core.specs.declared.fault.NormalFault.{NormalFault}
use Rattle.logic_core.specs.declared.fault.NormalFault.TheVariants.{Wide}
use Rattle.logic_core.specs.Gives.{GivesAs}
use Rattle.tableau_branch.specs.Applied.{Tries, Attempts}
use Rattle.tableau_branch.specs.Branch.{Branch, Attempt, leaves}
use Rattle.tableau_branch.specs.Move.{Move}
use Rattle.tableau_branch.specs.declared.played.Attempt as code

-- the same fault is returned
pub tries_err : (b : Branch) (r : Result code.Attempt NormalFault) (e : NormalFault) (x : Attempt Move) → IsErrAnd r (λ d. d ≡ e) → (e ≡ Wide → x ≡ leaves) → Tries b r x
tries_err b (Ok a) e x h wide = absurd h
tries_err b (Err d) e x h wide = λ w. wide (let v : e ≡ Wide = cc in v)

pub attempts_err : {A B : Type 0} (seen : A → B) (r : Result (Option A) NormalFault) (e : NormalFault) (x : Attempt B) → IsErrAnd r (λ d. d ≡ e) → (e ≡ Wide → x ≡ leaves) → Attempts seen r x
attempts_err seen (Ok a) e x h wide = absurd h
attempts_err seen (Err d) e x h wide = λ w. wide (let v : e ≡ Wide = cc in v)

pub gives_err : {A B : Type 0} (seen : A → B) (r : Result A NormalFault) (e : NormalFault) (x : Option B) → IsErrAnd r (λ d. d ≡ e) → (e ≡ Wide → x ≡ None) → GivesAs seen r x
gives_err seen (Ok a) e x h wide = absurd h
gives_err seen (Err d) e x h wide = λ w. wide (let v : e ≡ Wide = cc in v)
