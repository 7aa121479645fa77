use Rattle.std.proofs.Common.{◌∙◌, sym, true≢false, is_some}
use Rattle.std.proofs.lemmas.Bool.{and_parts}
use Rattle.vc_rebuild.proofs.CallsAlike.{as_many}
use Rattle.vc_rebuild.proofs.change.are_alike.Goals as goal

pub returns-then-not-have_bodies : goal.returns-then-not-have_bodies
returns-then-not-have_bodies c told = absurd (true≢false (sym told))

pub returns : goal.returns
returns c told =
    let p = c.args.old.now in
    let q = c.args.new.now in
    let both = and_parts (is_some p.body) (is_some q.body) (sym c.have_bodies.ensures ∙ c.if-not-have_bodies.false) in
    as_many p q both.0 both.1 (c.check_as_many.ensures told)
