use Rattle.bpl_grammar.proofs.Same.{judge_same}
use Rattle.bpl_grammar.proofs.laws.equal_parts_have_one_fate.Goals as goal

pub returns : goal.returns
returns c = λ p q s ts. judge_same ts p q (record { there = record { spells = s.spells; lies = s.lies }; back = record { spells = s.spells_back; lies = s.lies_back } })
