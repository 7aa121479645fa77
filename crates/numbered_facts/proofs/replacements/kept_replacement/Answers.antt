use Rattle.std.proofs.Common.{sym, ◌∙◌}
use Rattle.std.proofs.lemmas.Bool.{and_parts, eqb-true}
use Rattle.std.proofs.Common.{◌≡◌, ◌&&◌, true, nat_eq}
use Rattle.logic_core.specs.Subterm.{replaced}
use Rattle.term_bank.specs.Numbered.{at}
use Rattle.numbered_facts.proofs.replacements.kept_replacement.Goals as goal

pub returns-then-is_of : goal.returns-then-is_of
returns-then-is_of c =
    let ts = c.args.terms.now in let r = c.in-Some.found in
    let h = c.requires c.place_of-place.result r (sym c.replacement_at.ensures ∙ c.in-Some.is) in
    let whole = and_parts (nat_eq r.whole c.args.whole) (nat_eq r.part c.args.part && nat_eq r.by c.args.by) (sym c.is_of.ensures ∙ c.if-is_of.true) in
    let parts = and_parts (nat_eq r.part c.args.part) (nat_eq r.by c.args.by) whole.1 in
    let whole_same : r.whole ≡ c.args.whole = eqb-true r.whole c.args.whole whole.0 in
    let part_same : r.part ≡ c.args.part = eqb-true r.part c.args.part parts.0 in
    let by_same : r.by ≡ c.args.by = eqb-true r.by c.args.by parts.1 in
    (h.term.0, h.term.1 ∙ (λ k. replaced (at ts (part_same k)) (at ts (by_same k)) (at ts (whole_same k))))
