use Rattle.std.proofs.Common.{◌≡◌, ◌∙◌, ap, pos, arith}
use Rattle.std.specs.Int.{w128, cast_unsigned}
use Rattle.std.proofs.lemmas.Int.{ints, to_z-of_z}
use Rattle.numbered_forms.proofs.Atoms.{not_put, put}
use Rattle.numbered_forms.proofs.sum.insert_part.Goals as goal

pub returns-then-k-eq0 : goal.returns-then-k-eq0
returns-then-k-eq0 c = let zero : c.args.k ≡ pos 0 = omega (arith, ints) in not_put c.args.parts.items c.args.i c.args.k c.args.id zero

pub returns : goal.returns
returns c = c.in_ok-insert.ensures.items ∙ put c.args.parts.items c.args.i c.args.i c.args.k _ c.args.id (λ e. c.if-k-eq0.false (ap (cast_unsigned w128) e)) (to_z-of_z w128 c.args.k c.ranges.k)
