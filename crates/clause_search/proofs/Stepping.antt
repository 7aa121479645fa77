-- What a step comes to, whether it is taken or not.
use Rattle.std.proofs.Common.{◌≡◌, ℕ, List, Result, Ok, Err, IfOk}
use Rattle.logic_core.specs.Def.{Def}
use Rattle.logic_core.specs.Tree.{Tree}
use Rattle.tableau.specs.declared.ended.Verdict.TheVariants.{Proved, Open, Turns, Wide}
use Rattle.numbered_branches.specs.Branches.{NumberedBranch}
use Rattle.numbered_branches.specs.Moves.{NumberedMove, NumberedPlayed}
use Rattle.clause_search.specs.Stepped.{IsStep, IsPaid, ComesTo, IfTaken}
use Rattle.clause_search.specs.declared.run.Next.{Next}
use Rattle.clause_search.specs.declared.run.Next.TheVariants.{Taken, Ended}

pub any_taken : {E : Type 0} (r : Result Next E) (P : Type 0) → P → IfOk r (λ n. IfTaken n P)
any_taken (Ok (Taken price)) P p = p
any_taken (Ok (Ended v)) P p = tt
any_taken (Err e) P p = tt

-- where the branch's step gives the move
pub comes_to : {E : Type 0} (r : Result Next E) (left : ℕ) (stack stack' : List NumberedBranch) (ms ms' : List NumberedPlayed) (defs : List Def) (ts us : List Tree) (b : NumberedBranch) (m : NumberedMove)
    → IsStep left defs ts us b m → IfOk r (IsPaid left stack stack' ms ms' m) → IfOk r (ComesTo left stack stack' ms ms' defs ts us b)
comes_to (Ok (Taken price)) left stack stack' ms ms' defs ts us b m s h = (m, (s, h))
comes_to (Ok (Ended Proved)) left stack stack' ms ms' defs ts us b m s h = let no : Proved ≡ Turns = h.0 in absurd (cc)
comes_to (Ok (Ended Open)) left stack stack' ms ms' defs ts us b m s h = let no : Open ≡ Turns = h.0 in absurd (cc)
comes_to (Ok (Ended Turns)) left stack stack' ms ms' defs ts us b m s h = ((m, (s, h.1.0)), h.1.1)
comes_to (Ok (Ended Wide)) left stack stack' ms ms' defs ts us b m s h = let no : Wide ≡ Turns = h.0 in absurd (cc)
comes_to (Err e) left stack stack' ms ms' defs ts us b m s h = tt
