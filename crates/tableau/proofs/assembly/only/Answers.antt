use Rattle.std.proofs.Common.{◌≡◌, ◌∷◌, ◌∙◌, sym, reverse}
use Rattle.tableau.proofs.Reversed.{first_of_reversed}
use Rattle.tableau.proofs.assembly.only.Goals as goal

pub returns-in-Some : goal.returns-in-Some
returns-in-Some c = let first : c.args.begun.items ≡ c.in-Some.partial ∷ reverse c.pop.new.self.items = first_of_reversed c.args.begun.items c.pop.new.self.items c.in-Some.partial (sym c.reverse.ensures.items ∙ c.in-Some.ensures.items) in rw first
