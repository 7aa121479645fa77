use Rattle.std.proofs.Common.{◌≡◌, sym, ◌∙◌, ◌/◌, Some, FitsSigned, rules, arith}
use Rattle.std.specs.Int.{w128}
use Rattle.std.proofs.lemmas.Int.{to_z-of_z}
use Rattle.logic_core.specs.Combine.{sum_of, combined}
use Rattle.logic_core.specs.Tighten.{gcd}
use Rattle.term_bank.specs.Numbered.{at}
use Rattle.theory_rules.specs.Combining.{lead_size, multiplier}
use Rattle.theory_rules.proofs.Multipliers.{divisor_positive}
use Rattle.numbered_forms.specs.Sums.{sum_at}
use Rattle.numbered_theory.specs.Entries.{entry_at}
use Rattle.numbered_theory.proofs.PairMade.{pair_made}
use Rattle.numbered_theory.proofs.combining.combine_two.Goals as goal

pub nonzero_div-first_times : goal.nonzero_div-first_times
nonzero_div-first_times c =
    let d = entry_at c.args.store.now.terms c.args.d.now in let e = entry_at c.args.store.now.terms c.args.e.now in
    let g : c.gcd-g.result ≡ gcd (lead_size d) (lead_size e) = cc in let above = divisor_positive d e c.requires.opposite in omega (arith, g, above)

pub nonzero_div-second_times : goal.nonzero_div-second_times
nonzero_div-second_times c =
    let d = entry_at c.args.store.now.terms c.args.d.now in let e = entry_at c.args.store.now.terms c.args.e.now in
    let g : c.gcd-g.result ≡ gcd (lead_size d) (lead_size e) = cc in let above = divisor_positive d e c.requires.opposite in omega (arith, g, above)

pub returns-clause-gives : goal.returns-clause-gives
returns-clause-gives c =
    let n = c.args.store.now in let d = entry_at n.terms c.args.d.now in let e = entry_at n.terms c.args.e.now in
    let p = c.in-Some.p in let q = c.in-Some-multiplier.q in
    let fits_p : FitsSigned w128 p = search rules in let fits_q : FitsSigned w128 q = search rules in
    let a : c.lead_size-a.result ≡ lead_size d = cc in let b : c.lead_size-b.result ≡ lead_size e = cc in
    let g : c.gcd-g.result ≡ gcd (lead_size d) (lead_size e) = cc in
    let first : multiplier d (lead_size e / gcd (lead_size d) (lead_size e)) ≡ Some p = (λ k. multiplier d (sym b k / sym g k)) ∙ sym c.multiplier.ensures ∙ c.in-Some.is in
    let second : multiplier e (lead_size d / gcd (lead_size d) (lead_size e)) ≡ Some q = (λ k. multiplier e (sym a k / sym g k)) ∙ sym c.multiplier-2.ensures ∙ c.in-Some-multiplier.is in
    let same_p = to_z-of_z w128 p fits_p in let same_q = to_z-of_z w128 q fits_q in
    let sum : combined (sum_of (at n.terms c.args.d.now.sum)) p (sum_of (at n.terms c.args.e.now.sum)) q ≡ Some (sum_at n.terms c.in_ok-sum.sum) = cc (c.in_ok-sum.ensures.gives, c.terms-3.ensures, same_p, same_q) in
    rw (same_p, same_q) (pair_made n c.at_least_zero.new.self c.in_ok-fact.ensures.grows c.args.d.now c.args.e.now c.requires.d c.requires.e p q (sum_at n.terms c.in_ok-sum.sum) c.in_ok-fact.fact first second sum c.in_ok-fact.ensures.gives)
