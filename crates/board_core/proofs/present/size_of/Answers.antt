use Rattle.std.proofs.Common.{◌≡◌, ◌+◌, ◌^◌, min, ap, arith, length, rules}
use Rattle.std.specs.List.{sum_by}
use Rattle.std.proofs.lemmas.List.Sums.{sum_by-cons}
use mathlib.Core.Path.{sym, ◌∙◌}
use Rattle.board_core.proofs.Trimming.{counted_up}
use Rattle.board_core.proofs.present.size_of.Goals as goal

pub loop-key-preserved : goal.loop-key-preserved
loop-key-preserved g c =
    let size = sum_by-cons (λ e. length e.0.items) (c.in-Some.key.now, c.in-Some.field-0-1.now) c.next.new.self in
    let was = ap (λ n. min (c.loop-key.size + n) 18446744073709551615) (sym size ∙ sym (ap (sum_by (λ e. length e.0.items)) c.in-Some.ensures.steps)) ∙ c.loop-key.invariant.size in
    let len : c.len.result ≡ length c.in-Some.key.now.items = search rules in
    let next = counted_up 18446744073709551615 c.loop-key.size (length c.in-Some.key.now.items) _ _ c.saturating_add-size.result was (c.saturating_add-size.ensures ∙ ap (λ n. min (c.loop-key.size + n) 18446744073709551615) len) in
    record { size = next.0; fits = next.1 }
