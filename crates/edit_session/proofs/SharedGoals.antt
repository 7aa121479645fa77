-- Goals of the same obligations ask the same questions.
use Rattle.std.proofs.Common.{◌≡◌, ◌∙◌, ℕ, sym, ap, List, map}
use Rattle.logic_core.specs.Def.{Obligation}
use Rattle.obligation_text.specs.Asked.{Asked}
use Rattle.vc_build.specs.declared.goal.Goal.{Goal}
use Rattle.vc_rebuild.specs.Inside.{SameObligations}
use Rattle.report_laws.proofs.Mapped.{map_map}
use Rattle.edit_session.specs.Program.{question}

abbrev asked_of : ℕ → Obligation → Asked
asked_of turns o = record { obligation = o; turns = turns }

by_obligation : (turns : ℕ) (gs : List Goal) → map (asked_of turns) (map (λ (g : Goal). g.obligation) gs) ≡ map (question turns) gs
by_obligation turns gs = map_map (λ (g : Goal). g.obligation) (asked_of turns) gs

pub asked_the_same : (turns : ℕ) (gs hs : List Goal) → SameObligations gs hs → map (question turns) gs ≡ map (question turns) hs
asked_the_same turns gs hs same = sym (by_obligation turns gs) ∙ ap (map (asked_of turns)) same ∙ by_obligation turns hs
