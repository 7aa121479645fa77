use Rattle.std.proofs.Common.{◌≡◌, ◌≢◌, ◌+◌, ◌<◌, ℕ, List, length, get_or, sym, ap, subst, ◌∙◌, arith}
use Rattle.std.specs.List.Sorted.{IsStrictlyIncreasing}
use Rattle.bpl_model.specs.Module.{Module, Proc}
use Rattle.bpl_model.specs.Contract.{modified}
use Rattle.call_cut.proofs.RisingPlaces.{modified_rise, modified_inside}
use Rattle.call_cut.proofs.Tables.{long_called, left}
use Rattle.call_cut.proofs.table.leave_call.Goals as goal

pub write-requires-clause-rise : goal.write-requires-clause-rise
write-requires-clause-rise c = subst IsStrictlyIncreasing (sym c.requires.may) (modified_rise c.args.parts.now c.args.callee.now)

pub write-requires-clause-inside : goal.write-requires-clause-inside
write-requires-clause-inside c =
    let m = c.args.parts.now in let q = c.args.callee.now in
    let globals : c.len-globals.result ≡ length m.globals = let a = c.len-globals.ensures in let b = ap (λ (r : Module). length r.globals) c.parts.view_is in omega (arith, a, b) in
    let n = c.requires.called.0 in
    let long = long_called (length m.consts) (length m.globals) (length q.ins) (length q.outs) n (modified m q) (modified_rise m q) (modified_inside m q) c.args.table.now.items c.requires.called.1 in
    subst (λ (ch : List ℕ). (k : ℕ) → k < length ch → get_or ch k 0 + c.len-globals.result < length c.args.table.now.items) (sym c.requires.may)
    (λ k l. let below = (modified_inside m q k l).1 in omega (arith, below, long, globals))

pub returns : goal.returns
returns c =
    let m = c.args.parts.now in let q = c.args.callee.now in
    let may = c.requires.may in
    let n = c.requires.called.0 in
    let new = c.write.new.table.items in
    let globals : c.len-globals.result ≡ length m.globals = let a = c.len-globals.ensures in let b = ap (λ (r : Module). length r.globals) c.parts.view_is in omega (arith, a, b) in
    let ins : c.len-ins.result ≡ length q.ins = let a = c.len-ins.ensures in let b = ap (λ (r : Proc). length r.ins) c.callee.view_is in omega (arith, a, b) in
    let outs : c.len-outs.result ≡ length q.outs = let a = c.len-outs.ensures in let b = ap (λ (r : Proc). length r.outs) c.callee.view_is in omega (arith, a, b) in
    let few = c.saturating_sub-long.result in
    let a = c.saturating_sub-long.ensures in let b = c.saturating_sub.ensures in let d = c.len.ensures in
    c.truncate.ensures.items
    ∙ left (length m.consts) (length m.globals) (length q.ins) (length q.outs) n (modified m q) (modified_rise m q) (modified_inside m q) c.args.table.now.items new
    c.requires.called.1 c.write.ensures.long
    (subst (λ (ch : List ℕ). (k : ℕ) → k < length ch → get_or new (get_or ch k 0 + length m.globals) 0 ≡ get_or ch k 0) may
    (λ k l. ap (λ x. get_or new (get_or c.args.changed.now k 0 + x) 0) (sym globals) ∙ c.write.ensures.written k l))
    (λ v h. c.write.ensures.others v (subst (λ (ch : List ℕ). (k : ℕ) → k < length ch → v ≢ get_or ch k 0 + c.len-globals.result) (sym may) (λ k l e. h k l (e ∙ ap (λ x. get_or (modified m q) k 0 + x) globals))))
    few (omega (arith, a, b, d, ins, outs))
