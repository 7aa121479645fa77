use Rattle.bpl_grammar.proofs.ExprLaws.{whole_fate, exprs_fate, args_law, index_part_law, groups_law, attrs_law}
use Rattle.bpl_grammar.proofs.laws.expressions_are_exact.Goals as goal

pub returns : goal.returns
returns c = record { one = whole_fate; many = exprs_fate; arguments = args_law; indices = index_part_law; groups = groups_law; attrs = attrs_law }
