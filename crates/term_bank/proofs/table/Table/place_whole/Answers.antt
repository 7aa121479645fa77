use Rattle.std.proofs.Common.{◌≡◌, ap, ◌∙◌, List, [], ◌∷◌, ◌++◌}
use Rattle.term_bank.specs.Tabled.{Tabled}
use Rattle.term_bank.specs.Table.{tabled}
use Rattle.logic_core.specs.Tree.{Tree}
use Rattle.term_bank.proofs.Numbers.{begins_pushed}
use Rattle.term_bank.proofs.Tables.{next_places, next_terms}
use Rattle.term_bank.proofs.table.Table.place_whole.Goals as goal

pub invariant_of-self-2 : goal.invariant_of-self-2
invariant_of-self-2 c = next_places c.self.inside.places c.push_whole.new.self c.self.inside.entries.items c.self.inside.index _ c.self.invariant c.in_ok-place.ensures.ok

pub returns-clause-terms : goal.returns-clause-terms
returns-clause-terms c = let v : tabled c.self.inside ≡ c.args.self.now = c.self.view_is in
    next_terms c.self.inside.places c.push_whole.new.self c.self.inside.entries.items c.self.inside.index _ c.self.invariant c.in_ok-place.ensures.ok ∙ ap (λ (d : Tabled). d.terms) v

pub returns-clause-standing : goal.returns-clause-standing
returns-clause-standing c = let v : tabled c.self.inside ≡ c.args.self.now = c.self.view_is in
    begins_pushed c.args.self.now.standing c.push_whole.new.self c.args.term (c.in_ok-place.ensures.ok ∙ ap (λ (xs : List Tree). xs ++ c.args.term ∷ []) (ap (λ (d : Tabled). d.standing) v))
