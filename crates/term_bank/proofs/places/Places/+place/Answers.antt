use Rattle.std.proofs.Common.{◌≡◌, ◌<◌, ap, sym, ◌∙◌, length, arith}
use Rattle.term_bank.specs.Numbered.{at}
use Rattle.term_bank.specs.Standing.{part_or_self, all_led}
use Rattle.term_bank.proofs.Led.{length_led, within_behind, whole_at, within_at}
use Rattle.term_bank.proofs.places.Places.+place.Goals as goal

pub index-requires : goal.index-requires
index-requires t c = let v : all_led c.self.inside.steps.items ≡ c.args.self.now = c.self.view_is in omega (arith, c.requires, length_led c.self.inside.steps.items, ap length v)

pub term-requires : goal.term-requires
term-requires t c =
    let v : all_led c.self.inside.steps.items ≡ c.args.self.now = c.self.view_is in
    let l : c.args.place < length c.self.inside.steps.items = omega (arith, c.requires, length_led c.self.inside.steps.items, ap length v) in
    let b = within_behind c.self.inside.steps.items c.args.place c.in-Within.of c.in-Within.way c.index.result.now c.self.invariant l c.index.ensures c.in-Within.is in
    (omega (arith, c.decreases, b), omega (arith, c.requires, b))

pub returns-in-Whole : goal.returns-in-Whole
returns-in-Whole t c =
    let v : all_led c.self.inside.steps.items ≡ c.args.self.now = c.self.view_is in
    let l : c.args.place < length c.self.inside.steps.items = omega (arith, c.requires, length_led c.self.inside.steps.items, ap length v) in
    whole_at c.self.inside.steps.items c.args.place c.in-Whole.term c.index.result.now c.args.self.now c.self.invariant l v c.index.ensures c.in-Whole.is

pub returns-in-Within : goal.returns-in-Within
returns-in-Within t c =
    let v : all_led c.self.inside.steps.items ≡ c.args.self.now = c.self.view_is in
    let l : c.args.place < length c.self.inside.steps.items = omega (arith, c.requires, length_led c.self.inside.steps.items, ap length v) in
    c.part_of.ensures ∙ ap (λ u. part_or_self u c.in-Within.way) c.term.ensures
    ∙ within_at c.self.inside.steps.items c.args.place c.in-Within.of c.in-Within.way c.index.result.now c.args.self.now c.self.invariant l v c.index.ensures c.in-Within.is
