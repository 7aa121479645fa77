use Rattle.std.proofs.Common.{◌≡◌, ◌∙◌, sym, subst}
use Rattle.term_bank.specs.Numbered.{with_whole, Begins}
use Rattle.term_bank.proofs.Numbers.{begins_whole}
use Rattle.term_bank.proofs.table.Table.number_whole.Goals as goal

pub returns-clause-kept : goal.returns-clause-kept
returns-clause-kept c =
    let e : c.place_whole.new.self.terms ≡ c.args.self.now.terms = c.in_ok-place.ensures.terms in
    let k : c.number.new.self.terms ≡ with_whole c.args.self.now.terms c.args.term.now = c.in_ok-id.ensures.1.0 ∙ (λ i. with_whole (e i) c.args.term.now) in
    subst (Begins c.args.self.now.terms) (sym k) (begins_whole c.args.self.now.terms c.args.term.now)
