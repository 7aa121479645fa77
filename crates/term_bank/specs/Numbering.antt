-- What numbering the terms in a term makes of a table.
use Rattle.std.specs.Prelude.{◌≡◌, Result, Ok, Err, List}
use Rattle.logic_core.specs.Tree.{Tree}
use Rattle.term_bank.specs.Tabled.{Tabled}
use Rattle.term_bank.specs.Numbered.{Begins}

-- the places stay; after Ok the terms are `all` and the answer is right for them, and after a refusal the terms are a front of `all` behind those that were there
abbrev pub Extends : {A E : Type 0} → (List Tree → A → Type 0) → Tabled → Tabled → List Tree → Result A E → Type 0
Extends R old new all (Ok a) = Begins old.standing new.standing × ((new.terms ≡ all) × R new.terms a)
Extends R old new all (Err e) = Begins old.standing new.standing × (Begins old.terms new.terms × Begins new.terms all)
