-- What becomes of whole declarations that are read.
use Rattle.std.specs.Prelude.{◌≡◌, ℕ, suc, ◌+◌, ◌≤◌, false, List, [], ◌∷◌, drop, codes, IsTrue}
use Rattle.std.proofs.Common.{refl, ◌∙◌, arith}
use Rattle.bpl_lex.specs.Token.{id}
use Rattle.bpl_grammar.specs.Lexeme.{Lexeme}
use Rattle.bpl_grammar.specs.Part.{Part, some, ◌⨟◌, ◌∣◌, maybe, many, rule, decl, var, ids, farg, sig, spec, body, type, tpar, e as expression}
use Rattle.bpl_grammar.specs.Grammar.{grammar, the, round, curly, attrs, listed as listed_part}
use Rattle.bpl_grammar.specs.Derivative.{empties}
use Rattle.bpl_grammar.specs.Judge.{judge}
use Rattle.bpl_grammar.specs.Reads.{sunk}
use Rattle.bpl_grammar.specs.Terminal.{fixed, sees, firsts, apart_from}
use Rattle.bpl_grammar.specs.Follows.{Bars, all_apart}
use Rattle.bpl_grammar.specs.Reading.{read_name, read_ids}
use Rattle.bpl_grammar.specs.ReadTypes.{read_params, read_type}
use Rattle.bpl_grammar.specs.ReadStatements.{read_attrs, formula_with, var_with, body_with}
use Rattle.bpl_grammar.specs.ReadDeclarations.{read_unique, inputs_with, output_with, value_with, sig_with, specs_with, const_with, function_with, synonym_with, type_decl_with, contract_with, procedure_with, implementation_with, decl_with, read_decl}
use Rattle.bpl_grammar.specs.Law.{fate}
use Rattle.bpl_grammar.proofs.Firsts.{shut}
use Rattle.bpl_grammar.proofs.Sunk.{judge_rule, judge_order}
use Rattle.bpl_grammar.proofs.Choices.{opens_sunk}
use Rattle.bpl_grammar.proofs.Decisions.{absent_at, present_at, left_at, right_at}
use Rattle.bpl_grammar.proofs.Tails.{bars_then}
use Rattle.bpl_grammar.proofs.Fates.{fate_as, chain, branch, opens_behind, seen_there, token_then, token_last}
use Rattle.bpl_grammar.proofs.TypeTrees.{comma}
use Rattle.bpl_grammar.proofs.TypeLaws.{name_fate, ids_fate, params_fate, type_fate}
use Rattle.bpl_grammar.proofs.ExprLaws.{attrs_law}
use Rattle.bpl_grammar.proofs.StatementFates.{formula_part, formula_fate, var_fate}
use Rattle.bpl_grammar.proofs.BlockFates.{body_fate}
use Rattle.bpl_grammar.proofs.DeclarationFates.{spec_firsts, returned, unique_fate, inputs_fate, output_fate, value_fate, sig_fate, specs_fate}
use Rattle.bpl_grammar.proofs.Turns.{opens_sees}

abbrev output_part : Part
output_part = returned ∣ the ":" ⨟ rule type

abbrev value_part : Part
value_part = curly (rule expression) ∣ the ";"

abbrev inputs_part : Part
inputs_part = round (maybe (listed_part (rule farg)))

abbrev contract_part : Part
contract_part = the ";" ⨟ many (rule spec) ∣ many (rule spec) ⨟ rule body

abbrev typed_end : Part
typed_end = rule type ⨟ the ";"

abbrev const_names : Part
const_names = rule ids ⨟ the ":" ⨟ typed_end

abbrev const_part : Part
const_part = the "const" ⨟ attrs ⨟ maybe (the "unique") ⨟ const_names

abbrev function_end : Part
function_end = inputs_part ⨟ output_part ⨟ value_part

abbrev function_part : Part
function_part = the "function" ⨟ attrs ⨟ some id ⨟ maybe (rule tpar) ⨟ function_end

abbrev axiom_part : Part
axiom_part = the "axiom" ⨟ formula_part

abbrev synonym_end : Part
synonym_end = maybe (the "=" ⨟ rule type) ⨟ the ";"

abbrev type_part : Part
type_part = the "type" ⨟ attrs ⨟ some id ⨟ synonym_end

abbrev procedure_part : Part
procedure_part = the "procedure" ⨟ attrs ⨟ some id ⨟ maybe (rule tpar) ⨟ rule sig ⨟ contract_part

abbrev implementation_part : Part
implementation_part = the "implementation" ⨟ attrs ⨟ some id ⨟ maybe (rule tpar) ⨟ rule sig ⨟ rule body

abbrev from_procedure : Part
from_procedure = procedure_part ∣ implementation_part

abbrev from_type : Part
from_type = type_part ∣ from_procedure

abbrev from_var : Part
from_var = rule var ∣ from_type

abbrev from_axiom : Part
from_axiom = axiom_part ∣ from_var

abbrev from_function : Part
from_function = function_part ∣ from_axiom

module _ (room n : ℕ) (total : suc n + room ≡ 200) where
  outside : n ≤ 200
  outside = omega (arith, total)

  -- {Attr}, Id and [TPar] before other parts

  attrs_then : (p k : Part) → empties 12 p ≡ false → IsTrue (all_apart (fixed (codes "{") ∷ []) (firsts p)) → (ls : List Lexeme) → judge (sunk n (attrs ⨟ p) ⨟ k) ls ≡ fate (sunk n p ⨟ k) (read_attrs (suc room) ls)
  attrs_then p k e a ls = judge_order n attrs p k ls ∙ attrs_law (suc room) n (omega (arith, total)) (sunk n p ⨟ k) (bars_then (fixed (codes "{") ∷ []) n p k e a) ls

  name_then : (p k : Part) (ls : List Lexeme) → judge (sunk n (some id ⨟ p) ⨟ k) ls ≡ fate (sunk n p ⨟ k) (read_name ls)
  name_then p k ls = judge_order n (some id) p k ls ∙ name_fate n (sunk n p ⨟ k) ls outside

  params_then : (p k : Part) → empties 12 p ≡ false → IsTrue (apart_from (fixed (codes "<")) (firsts p)) → (ls : List Lexeme) → judge (sunk n (maybe (rule tpar) ⨟ p) ⨟ k) ls ≡ fate (sunk n p ⨟ k) (read_params ls)
  params_then p k e a ls = judge_order n (maybe (rule tpar)) p k ls ∙ params_fate n (sunk n p ⨟ k) ls outside (λ h. opens_sunk n ls p k e ∙ shut (fixed (codes "<")) p ls h a)

  -- "const" {Attr} ["unique"] Ids ":" Type ";"
  const_fate : (k : Part) (ls : List Lexeme) → judge (sunk n const_part ⨟ k) ls ≡ fate k (const_with room ls)
  unfolding const_with
  const_fate k ls = token_then n (fixed (codes "const")) (attrs ⨟ maybe (the "unique") ⨟ const_names) k k _ ls outside refl (λ r1. attrs_then (maybe (the "unique") ⨟ const_names) k refl refl r1
      ∙ chain (read_attrs (suc room) r1) _ (sunk n (maybe (the "unique") ⨟ const_names) ⨟ k) k (λ u r2. judge_order n (maybe (the "unique")) const_names k r2
      ∙ (unique_fate n outside (sunk n const_names ⨟ k) r2 (bars_then (fixed (codes "unique") ∷ []) n const_names k refl refl)
      ∙ chain (read_unique r2) _ (sunk n const_names ⨟ k) k (λ p r3. judge_order n (rule ids) (the ":" ⨟ typed_end) k r3
      ∙ (ids_fate n (sunk n (the ":" ⨟ typed_end) ⨟ k) r3 outside (bars_then (comma ∷ []) n (the ":" ⨟ typed_end) k refl refl)
      ∙ chain (read_ids r3) _ (sunk n (the ":" ⨟ typed_end) ⨟ k) k (λ ns r4. token_then n (fixed (codes ":")) typed_end k k _ r4 outside refl (λ r5. judge_order n (rule type) (the ";") k r5
      ∙ (type_fate (suc (suc room)) n (omega (arith, total)) (sunk n (the ";") ⨟ k) r5
      ∙ chain (read_type (suc (suc room)) r5) _ (sunk n (the ";") ⨟ k) k (λ t closed. token_last n (fixed (codes ";")) k _ closed outside refl)))))))))

  -- "function" {Attr} Id [TPar] "(" [FArg {"," FArg}] ")" ("returns" "(" FArg ")" | ":" Type) ("{" E "}" | ";")
  function_fate : (k : Part) (ls : List Lexeme) → judge (sunk n function_part ⨟ k) ls ≡ fate k (function_with room ls)
  unfolding function_with
  function_fate k ls = token_then n (fixed (codes "function")) (attrs ⨟ some id ⨟ maybe (rule tpar) ⨟ function_end) k k _ ls outside refl (λ r1. attrs_then (some id ⨟ maybe (rule tpar) ⨟ function_end) k refl refl r1
      ∙ chain (read_attrs (suc room) r1) _ (sunk n (some id ⨟ maybe (rule tpar) ⨟ function_end) ⨟ k) k (λ u r2. name_then (maybe (rule tpar) ⨟ function_end) k r2
      ∙ chain (read_name r2) _ (sunk n (maybe (rule tpar) ⨟ function_end) ⨟ k) k (λ m r3. params_then function_end k refl refl r3
      ∙ chain (read_params r3) _ (sunk n function_end ⨟ k) k (λ ps r4. judge_order n inputs_part (output_part ⨟ value_part) k r4 ∙ (inputs_fate room n total (sunk n (output_part ⨟ value_part) ⨟ k) r4
      ∙ chain (inputs_with room r4) _ (sunk n (output_part ⨟ value_part) ⨟ k) k (λ ins r5. judge_order n output_part value_part k r5 ∙ (output_fate room n total (sunk n value_part ⨟ k) r5
      ∙ chain (output_with room r5) _ (sunk n value_part ⨟ k) k (λ t r6. value_fate room n total k r6 ∙ fate_as _ (value_with room r6) k))))))))

  -- "type" {Attr} Id ["=" Type] ";"
  synonym_fate : (k : Part) (ls : List Lexeme) → judge (sunk n (maybe (the "=" ⨟ rule type)) ⨟ (sunk n (the ";") ⨟ k)) ls ≡ fate (sunk n (the ";") ⨟ k) (synonym_with room ls)
  unfolding synonym_with
  synonym_fate k ls = branch (sees (fixed (codes "=")) ls) (judge (sunk n (maybe (the "=" ⨟ rule type)) ⨟ (sunk n (the ";") ⨟ k)) ls) _ _ (sunk n (the ";") ⨟ k)
      (λ h. present_at n (the "=" ⨟ rule type) (sunk n (the ";") ⨟ k) ls refl (opens_behind (fixed (codes "=")) (rule type) ls ∙ h) (opens_sunk n ls (the ";") k refl ∙ shut (fixed (codes "=")) (the ";") ls h refl)
      ∙ (judge_order n (the "=") (rule type) (sunk n (the ";") ⨟ k) ls ∙ (seen_there n (fixed (codes "=")) (sunk n (rule type) ⨟ (sunk n (the ";") ⨟ k)) ls outside refl h
      ∙ (type_fate (suc (suc room)) n (omega (arith, total)) (sunk n (the ";") ⨟ k) (drop 1 ls) ∙ fate_as _ (read_type (suc (suc room)) (drop 1 ls)) (sunk n (the ";") ⨟ k)))))
      (λ h. absent_at n (the "=" ⨟ rule type) (sunk n (the ";") ⨟ k) ls refl (opens_behind (fixed (codes "=")) (rule type) ls ∙ h))

  type_decl_fate : (k : Part) (ls : List Lexeme) → judge (sunk n type_part ⨟ k) ls ≡ fate k (type_decl_with room ls)
  unfolding type_decl_with
  type_decl_fate k ls = token_then n (fixed (codes "type")) (attrs ⨟ some id ⨟ synonym_end) k k _ ls outside refl (λ r1. attrs_then (some id ⨟ synonym_end) k refl refl r1
      ∙ chain (read_attrs (suc room) r1) _ (sunk n (some id ⨟ synonym_end) ⨟ k) k (λ u r2. name_then synonym_end k r2
      ∙ chain (read_name r2) _ (sunk n synonym_end ⨟ k) k (λ m r3. judge_order n (maybe (the "=" ⨟ rule type)) (the ";") k r3 ∙ (synonym_fate k r3
      ∙ chain (synonym_with room r3) _ (sunk n (the ";") ⨟ k) k (λ t closed. token_last n (fixed (codes ";")) k _ closed outside refl)))))

  -- "implementation" {Attr} Id [TPar] Sig Body
  implementation_fate : (k : Part) (ls : List Lexeme) → judge (sunk n implementation_part ⨟ k) ls ≡ fate k (implementation_with room ls)
  unfolding implementation_with
  implementation_fate k ls = token_then n (fixed (codes "implementation")) (attrs ⨟ some id ⨟ maybe (rule tpar) ⨟ rule sig ⨟ rule body) k k _ ls outside refl (λ r1. attrs_then (some id ⨟ maybe (rule tpar) ⨟ rule sig ⨟ rule body) k refl refl r1
      ∙ chain (read_attrs (suc room) r1) _ (sunk n (some id ⨟ maybe (rule tpar) ⨟ rule sig ⨟ rule body) ⨟ k) k (λ u r2. name_then (maybe (rule tpar) ⨟ rule sig ⨟ rule body) k r2
      ∙ chain (read_name r2) _ (sunk n (maybe (rule tpar) ⨟ rule sig ⨟ rule body) ⨟ k) k (λ m r3. params_then (rule sig ⨟ rule body) k refl refl r3
      ∙ chain (read_params r3) _ (sunk n (rule sig ⨟ rule body) ⨟ k) k (λ ps r4. judge_order n (rule sig) (rule body) k r4 ∙ (sig_fate room n total (sunk n (rule body) ⨟ k) (bars_then (fixed (codes "returns") ∷ []) n (rule body) k refl refl) r4
      ∙ chain (sig_with room r4) _ (sunk n (rule body) ⨟ k) k (λ s r5. body_fate room n total k r5 ∙ fate_as _ (body_with room r5) k))))))

  module _ (k : Part) (b : Bars spec_firsts k) where
    -- ";" {Spec} | {Spec} Body
    contract_fate : (ls : List Lexeme) → judge (sunk n contract_part ⨟ k) ls ≡ fate k (contract_with room ls)
    unfolding contract_with
    contract_fate ls = branch (sees (fixed (codes ";")) ls) (judge (sunk n contract_part ⨟ k) ls) _ _ k
        (λ h. left_at n (the ";" ⨟ many (rule spec)) (many (rule spec) ⨟ rule body) k ls refl (shut (fixed (codes ";")) (many (rule spec) ⨟ rule body) ls h refl) ∙ (judge_order n (the ";") (many (rule spec)) k ls
        ∙ (seen_there n (fixed (codes ";")) (sunk n (many (rule spec)) ⨟ k) ls outside refl h ∙ (specs_fate room n total k b (drop 1 ls) ∙ fate_as _ (specs_with room (drop 1 ls)) k))))
        (λ h. right_at n (the ";" ⨟ many (rule spec)) (many (rule spec) ⨟ rule body) k ls refl (opens_behind (fixed (codes ";")) (many (rule spec)) ls ∙ h) ∙ (judge_order n (many (rule spec)) (rule body) k ls
        ∙ (specs_fate room n total (sunk n (rule body) ⨟ k) (bars_then spec_firsts n (rule body) k refl refl) ls
        ∙ chain (specs_with room ls) _ (sunk n (rule body) ⨟ k) k (λ ss rest. body_fate room n total k rest ∙ fate_as _ (body_with room rest) k))))

    -- "procedure" {Attr} Id [TPar] Sig (";" {Spec} | {Spec} Body)
    procedure_fate : (ls : List Lexeme) → judge (sunk n procedure_part ⨟ k) ls ≡ fate k (procedure_with room ls)
    unfolding procedure_with
    procedure_fate ls = token_then n (fixed (codes "procedure")) (attrs ⨟ some id ⨟ maybe (rule tpar) ⨟ rule sig ⨟ contract_part) k k _ ls outside refl (λ r1. attrs_then (some id ⨟ maybe (rule tpar) ⨟ rule sig ⨟ contract_part) k refl refl r1
        ∙ chain (read_attrs (suc room) r1) _ (sunk n (some id ⨟ maybe (rule tpar) ⨟ rule sig ⨟ contract_part) ⨟ k) k (λ u r2. name_then (maybe (rule tpar) ⨟ rule sig ⨟ contract_part) k r2
        ∙ chain (read_name r2) _ (sunk n (maybe (rule tpar) ⨟ rule sig ⨟ contract_part) ⨟ k) k (λ m r3. params_then (rule sig ⨟ contract_part) k refl refl r3
        ∙ chain (read_params r3) _ (sunk n (rule sig ⨟ contract_part) ⨟ k) k (λ ps r4. judge_order n (rule sig) contract_part k r4 ∙ (sig_fate room n total (sunk n contract_part ⨟ k) (bars_then (fixed (codes "returns") ∷ []) n contract_part k refl refl) r4
        ∙ chain (sig_with room r4) _ (sunk n contract_part ⨟ k) k (λ s r5. contract_fate r5 ∙ fate_as _ (contract_with room r5) k))))))

    decl_with_fate : (ls : List Lexeme) → judge (sunk n (rule decl) ⨟ k) ls ≡ fate k (decl_with room ls)
    unfolding decl_with
    decl_with_fate ls = judge_rule n decl k ls ∙ branch (sees (fixed (codes "const")) ls) (judge (sunk n (grammar decl) ⨟ k) ls) _ _ k
        (λ h. left_at n const_part from_function k ls refl (shut (fixed (codes "const")) from_function ls h refl) ∙ const_fate k ls)
        (λ h. right_at n const_part from_function k ls refl (opens_behind (fixed (codes "const")) _ ls ∙ h) ∙ branch (sees (fixed (codes "function")) ls) (judge (sunk n from_function ⨟ k) ls) _ _ k
        (λ h. left_at n function_part from_axiom k ls refl (shut (fixed (codes "function")) from_axiom ls h refl) ∙ function_fate k ls)
        (λ h. right_at n function_part from_axiom k ls refl (opens_behind (fixed (codes "function")) _ ls ∙ h) ∙ branch (sees (fixed (codes "axiom")) ls) (judge (sunk n from_axiom ⨟ k) ls) _ _ k
        (λ h. left_at n axiom_part from_var k ls refl (shut (fixed (codes "axiom")) from_var ls h refl) ∙ (judge_order n (the "axiom") formula_part k ls
        ∙ (seen_there n (fixed (codes "axiom")) (sunk n formula_part ⨟ k) ls outside refl h ∙ (formula_fate (suc room) n (omega (arith, total)) k (drop 1 ls) ∙ fate_as _ (formula_with (suc room) (drop 1 ls)) k))))
        (λ h. right_at n axiom_part from_var k ls refl (opens_behind (fixed (codes "axiom")) _ ls ∙ h) ∙ branch (sees (fixed (codes "var")) ls) (judge (sunk n from_var ⨟ k) ls) _ _ k
        (λ h. left_at n (rule var) from_type k ls refl (shut (fixed (codes "var")) from_type ls h refl) ∙ (var_fate (suc room) n (omega (arith, total)) k ls ∙ fate_as _ (var_with (suc room) ls) k))
        (λ h. right_at n (rule var) from_type k ls refl (opens_sees (fixed (codes "var")) (rule var) ls (λ t. refl) ∙ h) ∙ branch (sees (fixed (codes "type")) ls) (judge (sunk n from_type ⨟ k) ls) _ _ k
        (λ h. left_at n type_part from_procedure k ls refl (shut (fixed (codes "type")) from_procedure ls h refl) ∙ type_decl_fate k ls)
        (λ h. right_at n type_part from_procedure k ls refl (opens_behind (fixed (codes "type")) _ ls ∙ h) ∙ branch (sees (fixed (codes "procedure")) ls) (judge (sunk n from_procedure ⨟ k) ls) _ _ k
        (λ h. left_at n procedure_part implementation_part k ls refl (shut (fixed (codes "procedure")) implementation_part ls h refl) ∙ procedure_fate ls)
        (λ h. right_at n procedure_part implementation_part k ls refl (opens_behind (fixed (codes "procedure")) _ ls ∙ h) ∙ implementation_fate k ls))))))

-- a declaration, behind which no clause of a contract can begin
pub decl_fate : (k : Part) → Bars spec_firsts k → (ls : List Lexeme) → judge (rule decl ⨟ k) ls ≡ fate k (read_decl ls)
decl_fate k b ls = decl_with_fate 199 0 (omega arith) k b ls
