use Rattle.std.proofs.Common.{◌≡◌, [], ◌∷◌, ◌++◌, length, arith, ap, subst}
use Rattle.obligation_text.specs.Text.{obligation_text}
use Rattle.vc_build.specs.Exceeds.{IsFaultOf}
use Rattle.vc_build.proofs.Limits.{fault_at, at_exit, tallied}
use Rattle.vc_build.proofs.tally.Tally.add.Goals as goal

pub returns-in_err-bytes-clause-fault : goal.returns-in_err-bytes-clause-fault
returns-in_err-bytes-clause-fault c =
    let gs = c.self.inside.goals in
    let size : c.len-size.result ≡ length (obligation_text c.args.goal.obligation) = let e = ap length c.in_ok-text.ensures in omega (arith, c.len-size.ensures, c.in_ok-text.text.ok.0, e) in
    let count : c.len.result ≡ length gs.items = omega (arith, c.len.ensures, gs.ok.0) in
    let self : gs.items ≡ c.args.self.now = cc in
    at_exit (IsFaultOf (c.args.self.now ++ c.args.goal ∷ [])) c.from_residual-in_err-bytes.result c.in_err-bytes.field-0.0 c.from_residual-in_err-bytes.ensures.1
    (subst (λ xs. IsFaultOf (xs ++ c.args.goal ∷ []) c.in_err-bytes.field-0.0) self
    (fault_at gs.items c.args.goal c.len.result c.self.inside.bytes c.len-size.result c.in_err-bytes.field-0.0 c.self.invariant.1 count c.self.invariant.0 size c.in_err-bytes.ensures.fault))

pub invariant_of-self-2 : goal.invariant_of-self-2
invariant_of-self-2 c =
    let gs = c.self.inside.goals in
    let size : c.len-size.result ≡ length (obligation_text c.args.goal.obligation) = let e = ap length c.in_ok-text.ensures in omega (arith, c.len-size.ensures, c.in_ok-text.text.ok.0, e) in
    let count : c.len.result ≡ length gs.items = omega (arith, c.len.ensures, gs.ok.0) in
    tallied gs.items c.push.new.self.items c.args.goal c.len.result c.self.inside.bytes c.len-size.result c.in_ok-bytes.bytes c.self.invariant.1 count c.self.invariant.0 size
    c.in_ok-push.ensures.items c.in_ok-bytes.ensures.sum c.in_ok-bytes.ensures.within c.in_ok-bytes.ensures.room.0 c.in_ok-bytes.ensures.room.1
