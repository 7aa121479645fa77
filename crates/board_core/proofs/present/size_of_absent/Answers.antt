use Rattle.std.proofs.Common.{◌≡◌, ◌+◌, ◌^◌, min, ap, arith, true, false, length, rules}
use mathlib.Core.Path.{sym, ◌∙◌}
use Rattle.board_core.specs.Present.{is_present, absent_size}
use Rattle.board_core.proofs.Trimming.{absent_next, present_next, counted_up}
use Rattle.board_core.proofs.present.size_of_absent.Goals as goal

pub loop-key-preserved-then-not-contains : goal.loop-key-preserved-then-not-contains
loop-key-preserved-then-not-contains g c =
    let absent : is_present c.args.present.now.keys c.in-Some.key.now.items ≡ false = ap (is_present c.args.present.now.keys) (sym c.as_slice.ensures.value) ∙ sym c.contains.ensures ∙ c.if-not-contains.true in
    let size = absent_next (λ v. v.items) c.args.present.now.keys c.in-Some.key.now c.in-Some.field-0-1.now c.next.new.self absent in
    let was = ap (λ n. min (c.loop-key.size + n) 18446744073709551615) (sym size ∙ sym (ap (absent_size (λ v. v.items) c.args.present.now.keys) c.in-Some.ensures.steps)) ∙ c.loop-key.invariant.size in
    let len : c.len.result ≡ length c.in-Some.key.now.items = search rules in
    let next = counted_up 18446744073709551615 c.loop-key.size (length c.in-Some.key.now.items) _ _ c.saturating_add-size.result was (c.saturating_add-size.ensures ∙ ap (λ n. min (c.loop-key.size + n) 18446744073709551615) len) in
    record { size = next.0; fits = next.1 }

pub loop-key-preserved : goal.loop-key-preserved
loop-key-preserved g c =
    let present : is_present c.args.present.now.keys c.in-Some.key.now.items ≡ true = ap (is_present c.args.present.now.keys) (sym c.as_slice.ensures.value) ∙ sym c.contains.ensures ∙ c.if-not-contains.false in
    let size = present_next (λ v. v.items) c.args.present.now.keys c.in-Some.key.now c.in-Some.field-0-1.now c.next.new.self present in
    record {
      size = ap (λ n. min (c.loop-key.size + n) 18446744073709551615) (sym size ∙ sym (ap (absent_size (λ v. v.items) c.args.present.now.keys) c.in-Some.ensures.steps)) ∙ c.loop-key.invariant.size;
      fits = c.loop-key.invariant.fits;
    }
