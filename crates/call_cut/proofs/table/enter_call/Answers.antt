use Rattle.std.proofs.Common.{◌≡◌, ◌≢◌, ◌+◌, ◌<◌, ◌++◌, ℕ, List, length, get_or, sym, ap, subst, ◌∙◌, arith}
use Rattle.std.specs.List.{range_with_len}
use Rattle.std.specs.List.Sorted.{IsStrictlyIncreasing}
use Rattle.std.proofs.lemmas.List.FromFn.{length-range_with_len}
use Rattle.bpl_model.specs.Module.{Module, Proc}
use Rattle.bpl_model.specs.Contract.{modified}
use Rattle.call_cut.proofs.RisingPlaces.{modified_rise, modified_inside}
use Rattle.call_cut.proofs.Tables.{long_plain, entered}
use Rattle.call_cut.proofs.table.enter_call.Goals as goal

pub write-requires-clause-rise : goal.write-requires-clause-rise
write-requires-clause-rise c = subst IsStrictlyIncreasing (sym c.requires.may) (modified_rise c.args.parts.now c.args.callee.now)

pub write-requires-clause-as_many : goal.write-requires-clause-as_many
write-requires-clause-as_many c = ap length (c.as_slice.ensures.value ∙ c.in_ok-olds.ensures) ∙ length-range_with_len c.in_ok-first_old.first_old (length c.args.changed.now)

pub write-requires-clause-inside : goal.write-requires-clause-inside
write-requires-clause-inside c =
    let m = c.args.parts.now in let q = c.args.callee.now in
    let globals : c.len-globals.result ≡ length m.globals = let a = c.len-globals.ensures in let b = ap (λ (r : Module). length r.globals) c.parts.view_is in omega (arith, a, b) in
    let same = ap length c.requires.between in
    let long = long_plain (length m.consts) (length m.globals) (length q.ins) (length q.outs) c.args.n (modified m q) (modified_rise m q) (modified_inside m q) in
    subst (λ (ch : List ℕ). (k : ℕ) → k < length ch → get_or ch k 0 + c.len-globals.result < length c.args.table.now.items) (sym c.requires.may)
    (λ k l. let below = (modified_inside m q k l).1 in omega (arith, below, same, long, globals))

pub returns : goal.returns
returns c =
    let m = c.args.parts.now in let q = c.args.callee.now in
    let may = c.requires.may in
    let new = c.write.new.table.items in
    let globals : c.len-globals.result ≡ length m.globals = let a = c.len-globals.ensures in let b = ap (λ (r : Module). length r.globals) c.parts.view_is in omega (arith, a, b) in
    let ins : c.len-ins.result ≡ length q.ins = let a = c.len-ins.ensures in let b = ap (λ (r : Proc). length r.ins) c.callee.view_is in omega (arith, a, b) in
    let outs : c.len-outs.result ≡ length q.outs = let a = c.len-outs.ensures in let b = ap (λ (r : Proc). length r.outs) c.callee.view_is in omega (arith, a, b) in
    let first = c.in_ok-first_old.ensures ∙ (λ i. c.args.n + ins i) in
    let olds = c.as_slice.ensures.value ∙ (c.in_ok-olds.ensures ∙ (λ i. range_with_len (first i) (length (may i)))) in
    let first_result = c.in_ok-first_result.ensures ∙ (λ i. first i + length (may i)) in
    let arguments = c.in_ok-arguments.ensures ∙ (λ i. range_with_len c.args.n (ins i)) in
    c.in_ok-append-2.ensures.items
    ∙ ((λ i. c.in_ok-append.ensures.items i ++ c.in_ok-results.ensures i)
    ∙ ((λ i. (new ++ arguments i) ++ range_with_len (first_result i) (outs i))
    ∙ entered (length m.consts) (length m.globals) (length q.ins) (length q.outs) c.args.n (modified m q) (modified_rise m q) (modified_inside m q) new
    (c.write.ensures.long ∙ ap length c.requires.between)
    (subst (λ (ch : List ℕ). (k : ℕ) → k < length ch → get_or new (get_or ch k 0 + length m.globals) 0 ≡ get_or (range_with_len (c.args.n + length q.ins) (length (modified m q))) k 0) may
    (λ k l. ap (λ x. get_or new (get_or c.args.changed.now k 0 + x) 0) (sym globals) ∙ (c.write.ensures.written k l ∙ ap (λ t. get_or t k 0) olds)))
    (λ v h. c.write.ensures.others v (subst (λ (ch : List ℕ). (k : ℕ) → k < length ch → v ≢ get_or ch k 0 + c.len-globals.result) (sym may) (λ k l e. h k l (e ∙ ap (λ x. get_or (modified m q) k 0 + x) globals)))
    ∙ ap (λ t. get_or t v 0) c.requires.between)))
