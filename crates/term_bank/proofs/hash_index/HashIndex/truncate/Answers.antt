use Rattle.std.proofs.Common.{◌∙◌, sym, ap, ◌-◌, length, take_all, length-take, arith}
use Rattle.term_bank.proofs.Indexed.{still_there}
use Rattle.term_bank.proofs.hash_index.HashIndex.truncate.Goals as goal

pub loop-self-preserved : goal.loop-self-preserved
loop-self-preserved c = still_there c.args.self.now c.loop-self.self c.pop.new.self c.args.len (omega (arith, c.loop-self-test.true, c.len.ensures)) c.pop.ensures c.loop-self.invariant

pub loop-self-smaller : goal.loop-self-smaller
loop-self-smaller c = omega (arith, c.loop-self-test.true, c.len.ensures, ap length c.pop.ensures, length-take (length c.loop-self.self - 1) c.loop-self.self)

pub returns : goal.returns
returns c = sym (take_all c.args.len c.loop-self.self (omega (arith, c.loop-self-test.false, c.len.ensures))) ∙ c.loop-self.invariant
