use Rattle.std.proofs.Common.{◌≡◌, ◌<◌, ap, sym, ◌∙◌, ⊎_elim, take, arith}
use Rattle.bpl_lex.specs.Shape.{is_sign}
use Rattle.bpl_lex.proofs.SignLengths.{no_longer_sign, here_or_longer}
use Rattle.bpl_lex.proofs.pieces.sign_length.Goals as goal

pub loop-length-init : goal.loop-length-init
loop-length-init c = record { within = omega arith; longer = λ m a b. no_longer_sign c.args.bytes.now m (omega arith) b }

pub loop-length-preserved : goal.loop-length-preserved
loop-length-preserved c = record {
  within = omega arith;
  longer = λ m a b. ⊎_elim (λ (e : m ≡ c.loop-length.length). ap (λ k. is_sign (take k c.args.bytes.now)) e ∙ sym c.if-is_sign.ensures)
      (λ (h : c.loop-length.length < m). c.loop-length.invariant.longer m h b) (here_or_longer c.loop-length.length m c.loop-length-test.true a);
}
