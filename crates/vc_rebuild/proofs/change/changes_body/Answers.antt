use Rattle.std.proofs.Common.{refl, sym, true≢false}
use Rattle.vc_rebuild.proofs.change.changes_body.Goals as goal

pub returns-then-not-has_head_at : goal.returns-then-not-has_head_at
returns-then-not-has_head_at c told = absurd (true≢false (sym told))

pub returns : goal.returns
returns c told = record {
  before = c.args.typed.now;
  are = refl;
  differs = c.has_head_at.ensures c.if-not-has_head_at.false c.args.body.proc_at c.args.proc.now;
  put = c.is_put_for.ensures told;
}
