use Rattle.std.proofs.Common.{ap, is_some}
use Rattle.std.specs.Arc.{arc_value}
use Rattle.std.specs.Option.{option_map}
use mathlib.Core.Path.{sym, ◌∙◌}
use Rattle.board_core.proofs.Entries.{composed, copied_some, looked_up, is_there, shown_right}
use Rattle.board_core.proofs.cache.Cache.find.Goals as goal

pub returns-clause-value : goal.returns-clause-value
returns-clause-value g c =
    rw (← c.self.view_is) (composed (λ a. a.now) arc_value c.get.result ∙ ap (option_map arc_value) c.get.ensures.value ∙ looked_up (λ v. v.items) arc_value c.args.key.now c.self.inside.kept.entries)

pub returns-clause-exactly : goal.returns-clause-exactly
returns-clause-exactly g c = rw (← c.self.view_is) (copied_some (λ a. a.now) c.get.result ∙ ap is_some c.get.ensures.value ∙ is_there (λ v. v.items) arc_value c.args.key.now c.self.inside.kept.entries)

pub returns-clause-right : goal.returns-clause-right
returns-clause-right g c =
    shown_right (λ a. g.A.Q.Question.key (g.A.Answered.asked a)) g.A.Answered.right c.args.key.now (λ a. arc_value a.now) c.get.result _
    (composed (λ a. a.now) arc_value c.get.result ∙ ap (option_map arc_value) c.get.ensures.value ∙ looked_up (λ v. v.items) arc_value c.args.key.now c.self.inside.kept.entries) c.self.invariant.right
