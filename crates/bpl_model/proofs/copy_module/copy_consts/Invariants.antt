use Rattle.std.proofs.Common.{◌≡◌, take}
use Rattle.bpl_model.proofs.copy_module.copy_consts.Given as goal

abbrev pub invariant-loop-constant : goal.invariant-loop-constant
invariant-loop-constant l = l.copies.items ≡ take l.constant-index l.consts
