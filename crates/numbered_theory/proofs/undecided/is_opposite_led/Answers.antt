use Rattle.std.proofs.Common.{◌∙◌, sym}
use Rattle.numbered_forms.specs.Sums.{sum_at}
use Rattle.numbered_theory.proofs.OppositeSides.{other_apart}
use Rattle.numbered_theory.proofs.undecided.is_opposite_led.Goals as goal

pub returns : goal.returns
returns c = sym (other_apart c.args.terms.now c.are_stored.ensures (sum_at c.args.terms.now c.args.form.now) c.args.mine.now c.args.theirs.now c.args.other c.requires.mine c.requires.theirs (sym c.may_be_one-meets.ensures ∙ c.if-meets.false))
