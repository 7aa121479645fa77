-- Where gotos are removed, no procedure has one.
use Rattle.std.proofs.Common.{◌≡◌, subst, ℕ, zero, suc, List, [], ◌∷◌, map, slice_get, Some, None}
use Rattle.bpl_model.specs.Module.{Proc}
use Rattle.bpl_model.specs.NoGoto.{BodyHasNoGoto}
use Rattle.bpl_goto.specs.Removed.{removed}
use Rattle.bpl_goto.proofs.NoneLeft.{none_left}

pub no_goto_at : (ps : List Proc) (i : ℕ) (q : Proc) → slice_get (map removed ps) i ≡ Some q → BodyHasNoGoto q.body
no_goto_at [] i q e = absurd (let c : None ≡ Some q = e in cc)
no_goto_at (p ∷ ps) zero q e = let c : Some (removed p) ≡ Some q = e in let same : removed p ≡ q = cc in subst (λ (z : Proc). BodyHasNoGoto z.body) same (none_left p)
no_goto_at (p ∷ ps) (suc i) q e = no_goto_at ps i q e
