use Rattle.std.proofs.Common.{◌≡◌, ◌+◌, suc, sym, subst, arith}
use Rattle.bpl_scopes.specs.KnownSorts.{sorts_at, shapes_seen}
use Rattle.bpl_scopes.specs.Guessed.{IsUnder, put_sort}
use Rattle.bpl_scopes.proofs.GuessedSorts.{under_same, put_under}
use Rattle.bpl_scopes.proofs.synonyms.put_sorts.Goals as goal

pub loop-i-init : goal.loop-i-init
loop-i-init c = under_same (shapes_seen c.args.sorts.now.items) (sorts_at c.args.table.now 0) c.requires

pub loop-i-preserved : goal.loop-i-preserved
loop-i-preserved c =
    let t = c.args.table.now in
    let ks = shapes_seen c.loop-i.sorts.items in
    let more : suc c.loop-i.i ≡ c.loop-i.i + 1 = omega arith in
    subst (λ js. IsUnder js (sorts_at t (c.loop-i.i + 1))) (sym c.in_ok-put_sort.ensures)
    (subst (λ n. IsUnder (put_sort t ks c.position_in.result) (sorts_at t n)) more (put_under t ks c.loop-i.i c.position_in.result c.loop-i.invariant))
