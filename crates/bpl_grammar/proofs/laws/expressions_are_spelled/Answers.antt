use Rattle.std.specs.Prelude.{◌≡◌, ℕ, ◌+◌, ◌-◌, ◌≤◌}
use Rattle.std.proofs.Common.{arith}
use Rattle.bpl_grammar.proofs.ExprTrees.{whole_tree, exprs_tree, arguments_tree, at_index_tree, all_groups_tree, attributes_take}
use Rattle.bpl_grammar.proofs.laws.expressions_are_spelled.Goals as goal

total : (room : ℕ) → room ≤ 201 → (201 - room) + room ≡ 201
total room b = omega (arith, b)

pub returns : goal.returns
returns c = record {
  one = λ room b ls us x. whole_tree room (201 - room) (total room b) ls x us;
  many = λ room b. exprs_tree room (201 - room) (total room b);
  arguments = λ room b. arguments_tree room (201 - room) (total room b);
  indices = λ room b. at_index_tree room (201 - room) (total room b);
  groups = λ room b. all_groups_tree room (201 - room) (total room b);
  attrs = λ room b. attributes_take room (201 - room) (total room b);
}
