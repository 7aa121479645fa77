use Rattle.std.proofs.Common.{◌≡◌, ap, length, None, rules, arith}
use Rattle.term_bank.specs.Tabled.{Tabled}
use Rattle.term_bank.specs.Table.{tabled}
use Rattle.term_bank.specs.Numbered.{at, number_of}
use Rattle.term_bank.proofs.Numbers.{number_next}
use Rattle.term_bank.proofs.Tables.{length_terms}
use Rattle.term_bank.proofs.table.Table.add.Goals as goal

pub returns-clause-number : goal.returns-clause-number
returns-clause-number c =
    let v : tabled c.self.inside ≡ c.args.self.now = c.self.view_is in
    let n : number_of c.args.self.now.terms c.args.term.now ≡ None = search rules in
    number_next c.args.self.now.terms c.push.new.self.terms c.args.term.now (at c.args.self.now.standing c.args.place) c.len-number.result n c.requires.stands c.in_ok-push.ensures.terms
    (omega (arith, c.len-number.ensures, length_terms c.self.inside.places c.self.inside.entries.items, ap (λ (d : Tabled). length d.terms) v))
