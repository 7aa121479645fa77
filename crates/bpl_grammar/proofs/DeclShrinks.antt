-- What reads a declaration, or a part of one, leaves less than there was.
use Rattle.std.specs.Prelude.{ℕ, suc, ◌≤◌, Bool, true, false, ◌&&◌, ◌||◌, List, [], ◌∷◌, drop, length, codes, None}
use Rattle.std.proofs.Common.{arith}
use Rattle.bpl_lex.specs.Token.{id}
use Rattle.bpl_grammar.specs.Lexeme.{Lexeme}
use Rattle.bpl_grammar.specs.Terminal.{kind, fixed, sees}
use Rattle.bpl_grammar.specs.Reading.{Read, read_name, read_ids}
use Rattle.bpl_grammar.specs.ReadTypes.{read_params, read_type}
use Rattle.bpl_grammar.specs.ReadExpressions.{e_with, groups_with, read_inner}
use Rattle.bpl_grammar.specs.ReadStatements.{read_attrs, formula_with, var_with, body_with}
use Rattle.bpl_grammar.specs.ReadDeclarations.{read_unique, read_some_ids, read_modifies, read_arg_name, farg_with, fargs_with, inputs_with, result_with, output_with, value_with, params_with, results_with, sig_with, clause_with, spec_with, specs_with, const_with, function_with, synonym_with, type_decl_with, contract_with, procedure_with, implementation_with, decl_with}
use Rattle.bpl_grammar.proofs.Loops.{Shrinks}
use Rattle.bpl_grammar.proofs.Found.{name_shrinks}
use Rattle.bpl_grammar.proofs.TypeTrees.{type_shrinks}
use Rattle.bpl_grammar.proofs.Lengths.{Most, less_most, less_as, most_as, less_then, most_less, most_then, less_if, most_if, less_seen, most_here, less_behind, most_repeated, less_run}
use Rattle.bpl_grammar.proofs.ExprShrinks.{closing, closes, behind, ids_shrinks, params_most, e_shrinks, groups_shrinks}
use Rattle.bpl_grammar.proofs.StmtShrinks.{attributes_most, formula_shrinks, var_shrinks, body_shrinks}

shorter : (ls : List Lexeme) → length (drop 1 ls) ≤ length ls
shorter [] = omega arith
shorter (l ∷ ls) = omega arith

-- behind the next token
most_behind_token : {A : Type 0} (ls : List Lexeme) (o : Read A) → Most (length (drop 1 ls)) o → Most (length ls) o
most_behind_token ls o m = λ a rest h. omega (arith, m a rest h, shorter ls)

unique_most : (ls : List Lexeme) → Most (length ls) (read_unique ls)
unfolding read_unique
unique_most ls = most_if (sees (fixed (codes "unique")) ls) (length ls) _ _ (λ h. less_most (length ls) _ (less_seen (fixed (codes "unique")) ls _ h)) (λ no. most_here ls None)

some_ids_most : (ls : List Lexeme) → Most (length ls) (read_some_ids ls)
unfolding read_some_ids
some_ids_most ls = most_if (sees (kind id) ls) (length ls) _ _ (λ h. less_most (length ls) _ (ids_shrinks ls)) (λ no. most_here ls _)

modifies_shrinks : Shrinks read_modifies
unfolding read_modifies
modifies_shrinks = λ ls. behind (fixed (codes "modifies")) ls _ (λ rest. most_then (length rest) (read_some_ids rest) _ (some_ids_most rest) (λ ns closed. closes (fixed (codes ";")) _ closed))

arg_name_most : (ls : List Lexeme) → Most (length ls) (read_arg_name ls)
unfolding read_arg_name
arg_name_most ls = most_if (sees (kind id) ls && sees (fixed (codes ":")) (drop 1 ls)) (length ls) _ _
    (λ h. less_most (length ls) _ (less_then (length ls) (read_name ls) _ (name_shrinks ls) (λ n rest. closes (fixed (codes ":")) _ rest)))
    (λ no. most_here ls None)

module _ (room : ℕ) where
  pub farg_shrinks : Shrinks (farg_with room)
  unfolding farg_with
  farg_shrinks = λ ls. most_less (length ls) (read_arg_name ls) _ (arg_name_most ls) (λ n rest. less_as (length rest) _ (read_type (suc room) rest) (type_shrinks (suc room) rest))

  fargs_shrinks : Shrinks (fargs_with room)
  unfolding fargs_with
  fargs_shrinks = λ ls. less_run (fixed (codes ",")) (farg_with room) farg_shrinks ls

  inputs_shrinks : Shrinks (inputs_with room)
  unfolding inputs_with
  inputs_shrinks = λ ls. behind (fixed (codes "(")) ls _ (λ rest. less_most (length rest) _ (less_if (sees (fixed (codes ")")) rest) (length rest) _ _
      (λ h. less_seen (fixed (codes ")")) rest _ h)
      (λ no. less_then (length rest) (fargs_with room rest) _ (fargs_shrinks rest) (λ ins closed. closes (fixed (codes ")")) _ closed))))

  result_shrinks : Shrinks (result_with room)
  unfolding result_with
  result_shrinks = λ ls. behind (fixed (codes "(")) ls _ (λ rest. less_most (length rest) _ (less_then (length rest) (farg_with room rest) _ (farg_shrinks rest) (λ a closed. closes (fixed (codes ")")) _ closed)))

  output_shrinks : Shrinks (output_with room)
  unfolding output_with
  output_shrinks = λ ls. less_if (sees (fixed (codes "returns")) ls) (length ls) _ _ (λ h. less_behind ls _ (result_shrinks (drop 1 ls)))
      (λ no. behind (fixed (codes ":")) ls _ (λ rest. less_most (length rest) _ (type_shrinks (suc (suc room)) rest)))

  value_shrinks : Shrinks (value_with room)
  unfolding value_with
  value_shrinks = λ ls. less_if (sees (fixed (codes "{")) ls) (length ls) _ _
      (λ h. less_behind ls _ (less_then (length (drop 1 ls)) (e_with room (read_inner room) (drop 1 ls)) _ (e_shrinks room (drop 1 ls)) (λ x closed. closes (fixed (codes "}")) _ closed)))
      (λ no. closing (fixed (codes ";")) _ ls)

  params_shrinks : Shrinks (params_with room)
  unfolding params_with
  params_shrinks = λ ls. behind (fixed (codes "(")) ls _ (λ rest. less_most (length rest) _ (less_if (sees (fixed (codes ")")) rest) (length rest) _ _
      (λ h. less_seen (fixed (codes ")")) rest _ h)
      (λ no. less_then (length rest) (groups_with room (read_inner room) rest) _ (groups_shrinks room rest) (λ gs closed. closes (fixed (codes ")")) _ closed))))

  results_most : (ls : List Lexeme) → Most (length ls) (results_with room ls)
  unfolding results_with
  results_most ls = most_if (sees (fixed (codes "returns")) ls) (length ls) _ _ (λ h. less_most (length ls) _ (less_behind ls _ (params_shrinks (drop 1 ls)))) (λ no. most_here ls _)

  sig_shrinks : Shrinks (sig_with room)
  unfolding sig_with
  sig_shrinks = λ ls. less_then (length ls) (params_with room ls) _ (params_shrinks ls) (λ gs rest. most_as (length rest) _ (results_with room rest) (results_most rest))

  clause_shrinks : (free : Bool) → Shrinks (clause_with room free)
  unfolding clause_with
  clause_shrinks free = λ ls. less_if (sees (fixed (codes "requires")) ls) (length ls) _ _
      (λ h. less_behind ls _ (less_as (length (drop 1 ls)) _ (formula_with (suc room) (drop 1 ls)) (formula_shrinks (suc room) (drop 1 ls))))
      (λ no. behind (fixed (codes "ensures")) ls _ (λ rest. less_most (length rest) _ (less_as (length rest) _ (formula_with (suc room) rest) (formula_shrinks (suc room) rest))))

  pub spec_shrinks : Shrinks (spec_with room)
  unfolding spec_with
  spec_shrinks = λ ls. less_if (sees (fixed (codes "modifies")) ls) (length ls) _ _ (λ h. modifies_shrinks ls)
      (λ no. less_if (sees (fixed (codes "free")) ls) (length ls) _ _ (λ h. less_behind ls _ (clause_shrinks true (drop 1 ls))) (λ no. clause_shrinks false ls))

  specs_most : (ls : List Lexeme) → Most (length ls) (specs_with room ls)
  unfolding specs_with
  specs_most ls = most_repeated (λ us. sees (fixed (codes "free")) us || (sees (fixed (codes "requires")) us || (sees (fixed (codes "ensures")) us || sees (fixed (codes "modifies")) us))) (spec_with room) spec_shrinks ls

  const_shrinks : Shrinks (const_with room)
  unfolding const_with
  const_shrinks = λ ls. behind (fixed (codes "const")) ls _ (λ rest. most_then (length rest) (read_attrs (suc room) rest) _ (attributes_most (suc room) rest)
      (λ u marked. most_then (length marked) (read_unique marked) _ (unique_most marked) (λ p named. less_most (length named) _ (less_then (length named) (read_ids named) _ (ids_shrinks named)
      (λ ns typed. less_most (length typed) _ (behind (fixed (codes ":")) typed _ (λ of. less_most (length of) _ (less_then (length of) (read_type (suc (suc room)) of) _ (type_shrinks (suc (suc room)) of)
      (λ t closed. closes (fixed (codes ";")) _ closed)))))))))

  function_shrinks : Shrinks (function_with room)
  unfolding function_with
  function_shrinks = λ ls. behind (fixed (codes "function")) ls _ (λ rest. most_then (length rest) (read_attrs (suc room) rest) _ (attributes_most (suc room) rest)
      (λ u named. less_most (length named) _ (less_then (length named) (read_name named) _ (name_shrinks named) (λ n bound. most_then (length bound) (read_params bound) _ (params_most bound)
      (λ ps opened. less_most (length opened) _ (less_then (length opened) (inputs_with room opened) _ (inputs_shrinks opened) (λ ins typed. less_most (length typed) _ (less_then (length typed) (output_with room typed) _ (output_shrinks typed)
      (λ t valued. less_most (length valued) _ (less_as (length valued) _ (value_with room valued) (value_shrinks valued)))))))))))

  synonym_most : (ls : List Lexeme) → Most (length ls) (synonym_with room ls)
  unfolding synonym_with
  synonym_most ls = most_if (sees (fixed (codes "=")) ls) (length ls) _ _
      (λ h. less_most (length ls) _ (less_behind ls _ (less_as (length (drop 1 ls)) _ (read_type (suc (suc room)) (drop 1 ls)) (type_shrinks (suc (suc room)) (drop 1 ls)))))
      (λ no. most_here ls None)

  type_decl_shrinks : Shrinks (type_decl_with room)
  unfolding type_decl_with
  type_decl_shrinks = λ ls. behind (fixed (codes "type")) ls _ (λ rest. most_then (length rest) (read_attrs (suc room) rest) _ (attributes_most (suc room) rest)
      (λ u named. less_most (length named) _ (less_then (length named) (read_name named) _ (name_shrinks named) (λ n after. most_then (length after) (synonym_with room after) _ (synonym_most after)
      (λ t closed. closes (fixed (codes ";")) _ closed)))))

  contract_most : (ls : List Lexeme) → Most (length ls) (contract_with room ls)
  unfolding contract_with
  contract_most ls = most_if (sees (fixed (codes ";")) ls) (length ls) _ _
      (λ h. most_behind_token ls _ (most_as (length (drop 1 ls)) _ (specs_with room (drop 1 ls)) (specs_most (drop 1 ls))))
      (λ no. most_then (length ls) (specs_with room ls) _ (specs_most ls) (λ ss rest. less_most (length rest) _ (less_as (length rest) _ (body_with room rest) (body_shrinks room rest))))

  procedure_shrinks : Shrinks (procedure_with room)
  unfolding procedure_with
  procedure_shrinks = λ ls. behind (fixed (codes "procedure")) ls _ (λ rest. most_then (length rest) (read_attrs (suc room) rest) _ (attributes_most (suc room) rest)
      (λ u named. less_most (length named) _ (less_then (length named) (read_name named) _ (name_shrinks named) (λ n bound. most_then (length bound) (read_params bound) _ (params_most bound)
      (λ ps opened. less_most (length opened) _ (less_then (length opened) (sig_with room opened) _ (sig_shrinks opened) (λ s after. most_as (length after) _ (contract_with room after) (contract_most after))))))))

  implementation_shrinks : Shrinks (implementation_with room)
  unfolding implementation_with
  implementation_shrinks = λ ls. behind (fixed (codes "implementation")) ls _ (λ rest. most_then (length rest) (read_attrs (suc room) rest) _ (attributes_most (suc room) rest)
      (λ u named. less_most (length named) _ (less_then (length named) (read_name named) _ (name_shrinks named) (λ n bound. most_then (length bound) (read_params bound) _ (params_most bound)
      (λ ps opened. less_most (length opened) _ (less_then (length opened) (sig_with room opened) _ (sig_shrinks opened) (λ s after. less_most (length after) _ (less_as (length after) _ (body_with room after) (body_shrinks room after)))))))))

  pub decl_shrinks : Shrinks (decl_with room)
  unfolding decl_with
  decl_shrinks = λ ls. less_if (sees (fixed (codes "const")) ls) (length ls) _ _ (λ h. const_shrinks ls)
      (λ no. less_if (sees (fixed (codes "function")) ls) (length ls) _ _ (λ h. function_shrinks ls)
      (λ no. less_if (sees (fixed (codes "axiom")) ls) (length ls) _ _ (λ h. less_behind ls _ (less_as (length (drop 1 ls)) _ (formula_with (suc room) (drop 1 ls)) (formula_shrinks (suc room) (drop 1 ls))))
      (λ no. less_if (sees (fixed (codes "var")) ls) (length ls) _ _ (λ h. less_as (length ls) _ (var_with (suc room) ls) (var_shrinks (suc room) ls))
      (λ no. less_if (sees (fixed (codes "type")) ls) (length ls) _ _ (λ h. type_decl_shrinks ls)
      (λ no. less_if (sees (fixed (codes "procedure")) ls) (length ls) _ _ (λ h. procedure_shrinks ls) (λ no. implementation_shrinks ls))))))
