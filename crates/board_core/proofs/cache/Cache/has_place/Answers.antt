use Rattle.std.proofs.Common.{ap, true, false, ◌||◌, is_some, position, bytes_eq}
use mathlib.Core.Path.{sym, ◌∙◌}
use Rattle.std.specs.Arc.{arc_value}
use Rattle.board_core.specs.Kept.{kept_keys}
use Rattle.board_core.proofs.Entries.{is_there}
use Rattle.board_core.proofs.Keys.{found}
use Rattle.board_core.proofs.cache.Cache.has_place.Goals as goal

pub returns-then-contains_key : goal.returns-then-contains_key
returns-then-contains_key g c =
    let there = sym (is_there (λ v. v.items) arc_value c.args.key.now c.self.inside.kept.entries) ∙ sym c.contains_key.ensures ∙ c.if-contains_key.true in
    rw (← c.self.view_is, there) c.if-contains_key.true

pub returns-else-contains_key : goal.returns-else-contains_key
returns-else-contains_key g c =
    let there = sym (is_there (λ v. v.items) arc_value c.args.key.now c.self.inside.kept.entries) ∙ sym c.contains_key.ensures ∙ c.if-contains_key.false in
    let place = found (λ v. v.items) c.args.key.now c.self.inside.places.items c.self.invariant.apart in
    rw (← c.self.view_is, there) (c.is_some.ensures ∙ ap is_some c.place_of.ensures ∙ ap (λ vs. is_some (position (λ v. bytes_eq c.args.key.now v.items) vs)) c.deref.ensures.value ∙ place)
