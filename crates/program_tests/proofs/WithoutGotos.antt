-- In a module whose gotos are removed no procedure has one.
use Rattle.std.specs.Prelude.{◌≡◌, ◌<◌, ℕ, List, length, map, slice_get, Option, Some, None, option_map}
use Rattle.std.proofs.Common.{sym, subst, ap, get_or, ◌∙◌}
use Rattle.std.proofs.lemmas.Option.{slice_get-map, slice_get-get_or}
use Rattle.bpl_model.specs.Module.{Proc}
use Rattle.bpl_model.specs.NoGoto.{BodyHasNoGoto}
use Rattle.bpl_goto.specs.Removed.{removed}
use Rattle.bpl_goto.proofs.NoneLeft.{none_left}

none_in : (o : Option Proc) (q : Proc) → option_map removed o ≡ Some q → BodyHasNoGoto q.body
none_in (Some p) q e = let same : removed p ≡ q = cc in subst (λ (r : Proc). BodyHasNoGoto r.body) same (none_left p)
none_in None q e = let c : None ≡ Some q = e in absurd cc

pub none_at : (ps : List Proc) (k : ℕ) (q : Proc) → k < length (map removed ps) → q ≡ get_or (map removed ps) k q → BodyHasNoGoto q.body
none_at ps k q within e = none_in (slice_get ps k) q (sym (slice_get-map removed ps k) ∙ (slice_get-get_or (map removed ps) k q within ∙ ap Some (sym e)))
