use Rattle.std.proofs.Common.{◌≡◌, ap, cond, arith, ℕ}
use Rattle.numbered_instances.specs.Shared.{has_atom}
use Rattle.numbered_instances.proofs.near.with_found.Goals as goal

pub returns-then-is_found : goal.returns-then-is_found
returns-then-is_found c =
    let one : ◌≡◌ {A = ℕ} (cond (has_atom c.args.store.now.terms c.args.left c.args.fact.now.term) 1 0) 1 = ap (λ b. cond b 1 0) (c.is_found.ensures c.if-is_found.true) in
    omega (arith, one, c.saturating_add.ensures)
