use Rattle.std.proofs.Common.{map, List, ℕ, ◌≡◌}
use mathlib.Core.Path.{sym, ◌∙◌}
use Rattle.std.specs.Arc.{arc_value}
use Rattle.board_core.proofs.Limits.{all_stay}
use Rattle.board_core.proofs.Trimming.{trimmed_shown, trimmed_held}
use Rattle.board_core.proofs.cache.Cache.trim.Goals as goal

pub invariant_of-self : goal.invariant_of-self
invariant_of-self g c =
    trimmed_held (λ v. v.items) arc_value c.in_ok-present.present.keys (map (λ q. g.A.Q.Question.key (arc_value q)) c.args.present.now) c.in_ok-present.ensures (λ a. g.A.Q.Question.key (g.A.Answered.asked a)) g.A.Answered.right _ _ c.self.inside.kept.entries _ c.self.inside.places.items c.self.invariant c.trim_entries.ensures.room c.trim_entries.ensures.entries

pub returns-clause-trimmed : goal.returns-clause-trimmed
returns-clause-trimmed g c =
    rw (← c.self.view_is) (λ i. record { kept = trimmed_shown (λ v. v.items) arc_value c.in_ok-present.present.keys (map (λ q. g.A.Q.Question.key (arc_value q)) c.args.present.now) c.in_ok-present.ensures c.self.inside.kept.entries _ c.trim_entries.ensures.entries i; places = map (λ v. v.items) c.self.inside.places.items })

pub returns-then-is_within_limit-clause-trimmed : goal.returns-then-is_within_limit-clause-trimmed
returns-then-is_within_limit-clause-trimmed g c =
    let stay = all_stay (map (λ q. g.A.Q.Question.key (arc_value q)) c.args.present.now) c.args.self.now.kept (sym c.is_within_limit.ensures ∙ c.if-is_within_limit.true) in
    λ i. record { kept = sym stay i; places = c.args.self.now.places }
