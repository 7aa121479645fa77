-- Reading declarations, production by production.
use Rattle.std.specs.Prelude.{ℕ, suc, ◌-◌, Bool, true, false, ◌&&◌, ◌||◌, cond, List, [], drop, codes, Option, Some, None, Ok}
use Rattle.bv_base.specs.declared.place.Place.{Place}
use Rattle.bpl_lex.specs.Token.{id}
use Rattle.bpl_ast.specs.Place.{Name, Ty}
use Rattle.bpl_ast.specs.Tree.{Expr}
use Rattle.bpl_ast.specs.Statement.{Spec, requires, ensures, modifies, Body, Signature, Argument, DeclBody, constant, function, axiom_of, variables, synonym, procedure, implementation}
use Rattle.bpl_grammar.specs.Lexeme.{Lexeme}
use Rattle.bpl_grammar.specs.Terminal.{kind, fixed, sees}
use Rattle.bpl_grammar.specs.Reading.{Read, followed, read_as, place_of, read_fixed, read_name, repeated, listed, read_ids}
use Rattle.bpl_grammar.specs.ReadTypes.{read_params, read_type}
use Rattle.bpl_grammar.specs.ReadExpressions.{Together, groups_from, groups_with, e_with, read_inner}
use Rattle.bpl_grammar.specs.ReadStatements.{read_attrs, formula_with, var_with, body_with}
use Rattle.bpl_grammar.specs.Limits.{nestings}

-- ["unique"]: its place
unfoldable pub read_unique : List Lexeme → Read (Option Place)
read_unique ls = cond (sees (fixed (codes "unique")) ls) (Ok (Some (place_of ls), drop 1 ls)) (Ok (None, ls))

-- [Ids]
unfoldable pub read_some_ids : List Lexeme → Read (List Name)
read_some_ids ls = cond (sees (kind id) ls) (read_ids ls) (Ok ([], ls))

-- "modifies" [Ids] ";"
unfoldable pub read_modifies : List Lexeme → Read Spec
read_modifies ls = followed (read_fixed (codes "modifies") ls) (λ u rest. followed (read_some_ids rest) (λ ns closed. read_as (λ u. modifies (place_of ls) ns) (read_fixed (codes ";") closed)))

-- [Id ":"]
unfoldable pub read_arg_name : List Lexeme → Read (Option Name)
read_arg_name ls = cond (sees (kind id) ls && sees (fixed (codes ":")) (drop 1 ls))
    (followed (read_name ls) (λ n rest. read_as (λ u. Some n) (read_fixed (codes ":") rest)))
    (Ok (None, ls))

-- where there is room for one nesting, and for so many more in it
module _ (room : ℕ) where
  -- FArg = [Id ":"] Type, in parentheses
  unfoldable pub farg_with : List Lexeme → Read Argument
  farg_with ls = followed (read_arg_name ls) (λ n rest. read_as (λ t. record { name = n; type = t }) (read_type (suc room) rest))

  unfoldable pub fargs_with : List Lexeme → Read (List Argument)
  fargs_with ls = listed farg_with ls

  -- "(" [FArg {"," FArg}] ")"
  unfoldable pub inputs_with : List Lexeme → Read (List Argument)
  inputs_with ls = followed (read_fixed (codes "(") ls) (λ u rest.
      cond (sees (fixed (codes ")")) rest) (Ok ([], drop 1 rest)) (followed (fargs_with rest) (λ ins closed. read_as (λ u. ins) (read_fixed (codes ")") closed))))

  -- "(" FArg ")": its type
  unfoldable pub result_with : List Lexeme → Read Ty
  result_with ls = followed (read_fixed (codes "(") ls) (λ u rest. followed (farg_with rest) (λ a closed. read_as (λ u. a.type) (read_fixed (codes ")") closed)))

  -- "returns" "(" FArg ")" | ":" Type
  unfoldable pub output_with : List Lexeme → Read Ty
  output_with ls = cond (sees (fixed (codes "returns")) ls) (result_with (drop 1 ls)) (followed (read_fixed (codes ":") ls) (λ u rest. read_type (suc (suc room)) rest))

  -- "{" E "}" | ";"
  unfoldable pub value_with : List Lexeme → Read (Option Expr)
  value_with ls = cond (sees (fixed (codes "{")) ls)
      (followed (e_with room (read_inner room) (drop 1 ls)) (λ x closed. read_as (λ u. Some x) (read_fixed (codes "}") closed)))
      (read_as (λ u. None) (read_fixed (codes ";") ls))

  -- "(" [Groups] ")"
  unfoldable pub params_with : List Lexeme → Read (List Together)
  params_with ls = followed (read_fixed (codes "(") ls) (λ u rest.
      cond (sees (fixed (codes ")")) rest) (Ok ([], drop 1 rest)) (followed (groups_with room (read_inner room) rest) (λ gs closed. read_as (λ u. gs) (read_fixed (codes ")") closed))))

  -- ["returns" "(" [Groups] ")"]
  unfoldable pub results_with : List Lexeme → Read (List Together)
  results_with ls = cond (sees (fixed (codes "returns")) ls) (params_with (drop 1 ls)) (Ok ([], ls))

  -- Sig = "(" [Groups] ")" ["returns" "(" [Groups] ")"]
  unfoldable pub sig_with : List Lexeme → Read Signature
  sig_with ls = followed (params_with ls) (λ gs rest. read_as (λ hs. record { ins = groups_from gs; outs = groups_from hs }) (results_with rest))

  -- ("requires" | "ensures") {Attr} E ";"
  unfoldable pub clause_with : Bool → List Lexeme → Read Spec
  clause_with free ls = cond (sees (fixed (codes "requires")) ls)
      (read_as (λ x. requires (place_of ls) free x) (formula_with (suc room) (drop 1 ls)))
      (followed (read_fixed (codes "ensures") ls) (λ u rest. read_as (λ x. ensures (place_of ls) free x) (formula_with (suc room) rest)))

  -- Spec = ["free"] ("requires" | "ensures") {Attr} E ";" | "modifies" [Ids] ";"
  unfoldable pub spec_with : List Lexeme → Read Spec
  spec_with ls =
      cond (sees (fixed (codes "modifies")) ls) (read_modifies ls)
      (cond (sees (fixed (codes "free")) ls) (clause_with true (drop 1 ls)) (clause_with false ls))

  -- {Spec}
  unfoldable pub specs_with : List Lexeme → Read (List Spec)
  specs_with ls = repeated (λ us. sees (fixed (codes "free")) us || (sees (fixed (codes "requires")) us || (sees (fixed (codes "ensures")) us || sees (fixed (codes "modifies")) us))) spec_with ls

  -- "const" {Attr} ["unique"] Ids ":" Type ";"
  unfoldable pub const_with : List Lexeme → Read DeclBody
  const_with ls = followed (read_fixed (codes "const") ls) (λ u rest. followed (read_attrs (suc room) rest) (λ u rest. followed (read_unique rest) (λ p rest. followed (read_ids rest) (λ ns rest.
      followed (read_fixed (codes ":") rest) (λ u rest. followed (read_type (suc (suc room)) rest) (λ t closed. read_as (λ u. constant p ns t) (read_fixed (codes ";") closed)))))))

  -- "function" {Attr} Id [TPar] "(" [FArg {"," FArg}] ")" ("returns" "(" FArg ")" | ":" Type) ("{" E "}" | ";")
  unfoldable pub function_with : List Lexeme → Read DeclBody
  function_with ls = followed (read_fixed (codes "function") ls) (λ u rest. followed (read_attrs (suc room) rest) (λ u rest. followed (read_name rest) (λ n rest. followed (read_params rest) (λ ps rest.
      followed (inputs_with rest) (λ ins rest. followed (output_with rest) (λ t rest. read_as (λ x. function n ps ins t x) (value_with rest)))))))

  -- ["=" Type]
  unfoldable pub synonym_with : List Lexeme → Read (Option Ty)
  synonym_with ls = cond (sees (fixed (codes "=")) ls) (read_as (λ t. Some t) (read_type (suc (suc room)) (drop 1 ls))) (Ok (None, ls))

  -- "type" {Attr} Id ["=" Type] ";"
  unfoldable pub type_decl_with : List Lexeme → Read DeclBody
  type_decl_with ls = followed (read_fixed (codes "type") ls) (λ u rest. followed (read_attrs (suc room) rest) (λ u rest. followed (read_name rest) (λ n rest.
      followed (synonym_with rest) (λ t closed. read_as (λ u. synonym n t) (read_fixed (codes ";") closed)))))

  -- ";" {Spec} | {Spec} Body
  unfoldable pub contract_with : List Lexeme → Read (List Spec × Option Body)
  contract_with ls = cond (sees (fixed (codes ";")) ls)
      (read_as (λ ss. (ss, None)) (specs_with (drop 1 ls)))
      (followed (specs_with ls) (λ ss rest. read_as (λ b. (ss, Some b)) (body_with room rest)))

  -- "procedure" {Attr} Id [TPar] Sig (";" {Spec} | {Spec} Body)
  unfoldable pub procedure_with : List Lexeme → Read DeclBody
  procedure_with ls = followed (read_fixed (codes "procedure") ls) (λ u rest. followed (read_attrs (suc room) rest) (λ u rest. followed (read_name rest) (λ n rest. followed (read_params rest) (λ ps rest.
      followed (sig_with rest) (λ s rest. read_as (λ c. procedure n ps s c.0 c.1) (contract_with rest))))))

  -- "implementation" {Attr} Id [TPar] Sig Body
  unfoldable pub implementation_with : List Lexeme → Read DeclBody
  implementation_with ls = followed (read_fixed (codes "implementation") ls) (λ u rest. followed (read_attrs (suc room) rest) (λ u rest. followed (read_name rest) (λ n rest. followed (read_params rest) (λ ps rest.
      followed (sig_with rest) (λ s rest. read_as (λ b. implementation n ps s b) (body_with room rest))))))

  unfoldable pub decl_with : List Lexeme → Read DeclBody
  decl_with ls =
      cond (sees (fixed (codes "const")) ls) (const_with ls)
      (cond (sees (fixed (codes "function")) ls) (function_with ls)
      (cond (sees (fixed (codes "axiom")) ls) (read_as (λ x. axiom_of x) (formula_with (suc room) (drop 1 ls)))
      (cond (sees (fixed (codes "var")) ls) (read_as (λ gs. variables gs) (var_with (suc room) ls))
      (cond (sees (fixed (codes "type")) ls) (type_decl_with ls)
      (cond (sees (fixed (codes "procedure")) ls) (procedure_with ls) (implementation_with ls))))))

-- a declaration, in which a token lies inside at most so many nestings
abbrev pub read_decl : List Lexeme → Read DeclBody
read_decl ls = decl_with (nestings - 1) ls
