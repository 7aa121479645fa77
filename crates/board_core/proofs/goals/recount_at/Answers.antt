use Rattle.std.proofs.Common.{◌∙◌, ◌+◌, ◌-◌, ◌++◌, ap, refl, sym, length, take, drop, count_by, slice_range}
use Rattle.std.specs.Prelude.{bytes_eq}
use Rattle.std.specs.Arc.{arc_value}
use Rattle.board_core.specs.Goals.{noted}
use Rattle.board_core.proofs.Middle.{exchanged_part, exchanged_differs}
use Rattle.board_core.proofs.Recounting.{recounted}
use Rattle.board_core.proofs.goals.recount_at.Goals as goal

pub returns-then-len-questions-clause-changed : goal.returns-then-len-questions-clause-changed
returns-then-len-questions-clause-changed g c so =
    recounted (λ q. g.Q.Question.key (arc_value q)) c.args.questions.now (take c.args.from c.args.questions.now ++ c.args.new.now ++ drop (c.args.from + length c.args.new.now) c.args.questions.now) c.args.from (c.args.from + length c.args.new.now) (c.args.from + length c.args.new.now)
    (exchanged_differs (λ q. g.Q.Question.key (arc_value q)) c.args.from (c.args.from + length c.args.new.now) c.args.questions.now c.args.new.now (take c.args.from c.args.questions.now ++ c.args.new.now ++ drop (c.args.from + length c.args.new.now) c.args.questions.now) c.requires.within refl refl)
    (noted (λ v. v.items) c.args.counts.now.entries) (noted (λ v. v.items) c.recount.new.counts.entries) c.requires.counted
    (λ k. c.recount.ensures.changed so k ∙ ap (λ l. (noted (λ v. v.items) c.args.counts.now.entries k + count_by (λ q. bytes_eq k (g.Q.Question.key (arc_value q))) l) - count_by (λ q. bytes_eq k (g.Q.Question.key (arc_value q))) (slice_range c.args.questions.now c.args.from (c.args.from + length c.args.new.now)))
    (sym (exchanged_part (λ q. g.Q.Question.key (arc_value q)) c.args.from (c.args.from + length c.args.new.now) c.args.questions.now c.args.new.now (take c.args.from c.args.questions.now ++ c.args.new.now ++ drop (c.args.from + length c.args.new.now) c.args.questions.now) c.requires.within refl refl)))
