-- What becomes of declarations that are read.
use Rattle.std.specs.Prelude.{◌≡◌, ℕ, suc, ◌+◌, ◌≤◌, Bool, true, false, ◌&&◌, ◌||◌, cond, List, [], ◌∷◌, drop, codes, IsTrue}
use Rattle.std.proofs.Common.{refl, sym, ◌∙◌, arith}
use Rattle.bpl_grammar.proofs.Booleans.{and_first, and_second}
use Rattle.bpl_lex.specs.Token.{id}
use Rattle.bpl_grammar.specs.Lexeme.{Lexeme}
use Rattle.bpl_grammar.specs.Part.{Part, some, ◌⨟◌, ◌∣◌, maybe, many, inside, rule, groups, ids, farg, sig, spec, type, e as expression}
use Rattle.bpl_grammar.specs.Grammar.{grammar, the, round, curly, listed as listed_part}
use Rattle.bpl_grammar.specs.Judge.{judge}
use Rattle.bpl_grammar.specs.Reads.{sunk}
use Rattle.bpl_grammar.specs.Terminal.{Terminal, kind, fixed, sees}
use Rattle.bpl_grammar.specs.Follows.{Bars}
use Rattle.bpl_grammar.specs.Reading.{read_fixed, read_name}
use Rattle.bpl_grammar.specs.ReadTypes.{read_type}
use Rattle.bpl_grammar.specs.ReadExpressions.{e_with, groups_with, read_inner}
use Rattle.bpl_grammar.specs.ReadStatements.{formula_with}
use Rattle.bpl_grammar.specs.ReadDeclarations.{read_unique, read_some_ids, read_modifies, read_arg_name, farg_with, fargs_with, inputs_with, result_with, output_with, value_with, params_with, results_with, sig_with, clause_with, spec_with, specs_with}
use Rattle.bpl_grammar.specs.Law.{fate}
use Rattle.bpl_grammar.proofs.Firsts.{shut}
use Rattle.bpl_grammar.proofs.Sunk.{judge_rule, judge_order, alike}
use Rattle.bpl_grammar.proofs.Choices.{opens_sunk, empties_then}
use Rattle.bpl_grammar.proofs.Decisions.{absent_at, present_at, present_else, left_at, right_at}
use Rattle.bpl_grammar.proofs.Tails.{bars_then, bars_over}
use Rattle.bpl_grammar.proofs.Fates.{fate_as, chain, branch, opens_token, opens_behind, seen_there, token_fate, token_then, token_last}
use Rattle.bpl_grammar.proofs.TypeTrees.{comma}
use Rattle.bpl_grammar.proofs.TypeLaws.{name_fate, listed_fate, ids_fate, type_fate}
use Rattle.bpl_grammar.proofs.ExprParts.{after_then}
use Rattle.bpl_grammar.proofs.ExprLaws.{whole_fate, groups_law}
use Rattle.bpl_grammar.proofs.DeclarationParts.{from_round, typed_rest, unnamed_part, farg_part, alike_farg}
use Rattle.bpl_grammar.proofs.DeclShrinks.{farg_shrinks, spec_shrinks}
use Rattle.bpl_grammar.proofs.StatementFates.{formula_part, formula_fate}
use Rattle.bpl_grammar.proofs.Turns.{and_other, many_fate, bar, any_four, opens_sees, closes_then}

-- names

module _ (n : ℕ) (fits : n ≤ 200) where
  -- ["unique"]
  pub unique_fate : (k : Part) (ls : List Lexeme) → Bars (fixed (codes "unique") ∷ []) k → judge (sunk n (maybe (the "unique")) ⨟ k) ls ≡ fate k (read_unique ls)
  unfolding read_unique
  unique_fate k ls b = branch (sees (fixed (codes "unique")) ls) (judge (sunk n (maybe (the "unique")) ⨟ k) ls) _ _ k
      (λ h. present_at n (the "unique") k ls refl (opens_token (fixed (codes "unique")) ls ∙ h) (bar (fixed (codes "unique")) k ls b h) ∙ seen_there n (fixed (codes "unique")) k ls fits refl h)
      (λ h. absent_at n (the "unique") k ls refl (opens_token (fixed (codes "unique")) ls ∙ h))

  -- [Ids], before ";"
  some_ids_fate : (k : Part) (ls : List Lexeme) → judge (sunk n (maybe (rule ids)) ⨟ (sunk n (the ";") ⨟ k)) ls ≡ fate (sunk n (the ";") ⨟ k) (read_some_ids ls)
  unfolding read_some_ids
  some_ids_fate k ls = branch (sees (kind id) ls) (judge (sunk n (maybe (rule ids)) ⨟ (sunk n (the ";") ⨟ k)) ls) _ _ (sunk n (the ";") ⨟ k)
      (λ h. present_at n (rule ids) (sunk n (the ";") ⨟ k) ls refl (opens_sees (kind id) (rule ids) ls (λ t. refl) ∙ h) (opens_sunk n ls (the ";") k refl ∙ shut (kind id) (the ";") ls h refl)
      ∙ ids_fate n (sunk n (the ";") ⨟ k) ls fits (bars_then (comma ∷ []) n (the ";") k refl refl))
      (λ h. absent_at n (rule ids) (sunk n (the ";") ⨟ k) ls refl (opens_sees (kind id) (rule ids) ls (λ t. refl) ∙ h))

  -- "modifies" [Ids] ";"
  modifies_fate : (k : Part) (ls : List Lexeme) → judge (sunk n (the "modifies" ⨟ maybe (rule ids) ⨟ the ";") ⨟ k) ls ≡ fate k (read_modifies ls)
  unfolding read_modifies
  modifies_fate k ls = token_then n (fixed (codes "modifies")) (maybe (rule ids) ⨟ the ";") k k _ ls fits refl (λ rest. judge_order n (maybe (rule ids)) (the ";") k rest
      ∙ (some_ids_fate k rest ∙ chain (read_some_ids rest) _ (sunk n (the ";") ⨟ k) k (λ ns closed. token_last n (fixed (codes ";")) k _ closed fits refl)))

-- FArg = [Id ":"] Type

module _ (n : ℕ) (fits : n ≤ 200) (k : Part) where
  abbrev begins_name : List Lexeme → Bool
  begins_name ls = sees (kind id) ls && sees (fixed (codes ":")) (drop 1 ls)

  -- a name, and what is behind it
  named_arg : (ls : List Lexeme) → IsTrue (sees (kind id) ls) → judge (sunk n (rule farg) ⨟ k) ls ≡ judge (sunk n (maybe typed_rest) ⨟ k) (drop 1 ls)
  named_arg ls h = judge_rule n farg k ls ∙ (alike n (grammar farg) farg_part k alike_farg ls ∙ (left_at n (some id ⨟ maybe typed_rest) unnamed_part k ls refl (shut (kind id) unnamed_part ls h refl)
      ∙ (judge_order n (some id) (maybe typed_rest) k ls ∙ seen_there n (kind id) (sunk n (maybe typed_rest) ⨟ k) ls fits refl h)))

  -- a type that is a name
  named_type : (ls : List Lexeme) → IsTrue (sees (kind id) ls) → judge (sunk n (rule type) ⨟ k) ls ≡ judge k (drop 1 ls)
  named_type ls h = judge_rule n type k ls ∙ (right_at n (the "int") (the "bool" ∣ some id ∣ from_round) k ls refl (shut (kind id) (the "int") ls h refl) ∙ (right_at n (the "bool") (some id ∣ from_round) k ls refl (shut (kind id) (the "bool") ls h refl)
      ∙ (left_at n (some id) from_round k ls refl (shut (kind id) from_round ls h refl) ∙ seen_there n (kind id) k ls fits refl h)))

  module _ (b : Bars (fixed (codes ":") ∷ []) k) where
    arg_name : (ls : List Lexeme) → IsTrue (begins_name ls) → judge (sunk n (rule farg) ⨟ k) ls ≡ judge (sunk n (some id ⨟ the ":") ⨟ (sunk n (rule type) ⨟ k)) ls
    arg_name ls h = named_arg ls first ∙ (present_at n typed_rest k (drop 1 ls) refl (opens_behind (fixed (codes ":")) (rule type) (drop 1 ls) ∙ second) (bar (fixed (codes ":")) k (drop 1 ls) b second)
        ∙ (judge_order n (the ":") (rule type) k (drop 1 ls) ∙ (sym (seen_there n (kind id) (sunk n (the ":") ⨟ (sunk n (rule type) ⨟ k)) ls fits refl first) ∙ sym (judge_order n (some id) (the ":") (sunk n (rule type) ⨟ k) ls))))
      where
        first : IsTrue (sees (kind id) ls)
        first = and_first (sees (kind id) ls) (sees (fixed (codes ":")) (drop 1 ls)) h

        second : IsTrue (sees (fixed (codes ":")) (drop 1 ls))
        second = and_second (sees (kind id) ls) (sees (fixed (codes ":")) (drop 1 ls)) h

    no_arg_name : (ls : List Lexeme) → begins_name ls ≡ false → judge (sunk n (rule farg) ⨟ k) ls ≡ judge (sunk n (rule type) ⨟ k) ls
    no_arg_name ls h = sides (sees (kind id) ls) refl
      where
        sides : (s : Bool) → sees (kind id) ls ≡ s → judge (sunk n (rule farg) ⨟ k) ls ≡ judge (sunk n (rule type) ⨟ k) ls
        sides true s = named_arg ls s ∙ (absent_at n typed_rest k (drop 1 ls) refl (opens_behind (fixed (codes ":")) (rule type) (drop 1 ls) ∙ and_other (sees (kind id) ls) (sees (fixed (codes ":")) (drop 1 ls)) h s)
            ∙ sym (named_type ls s))
        sides false s = judge_rule n farg k ls ∙ (judge_order n (maybe (some id ⨟ the ":")) (rule type) k ls ∙ absent_at n (some id ⨟ the ":") (sunk n (rule type) ⨟ k) ls refl (opens_behind (kind id) (the ":") ls ∙ s))

    arg_name_fate : (ls : List Lexeme) → judge (sunk n (rule farg) ⨟ k) ls ≡ fate (sunk n (rule type) ⨟ k) (read_arg_name ls)
    unfolding read_arg_name
    arg_name_fate ls = branch (begins_name ls) (judge (sunk n (rule farg) ⨟ k) ls) _ _ (sunk n (rule type) ⨟ k)
        (λ h. arg_name ls h ∙ (judge_order n (some id) (the ":") (sunk n (rule type) ⨟ k) ls ∙ (name_fate n (sunk n (the ":") ⨟ (sunk n (rule type) ⨟ k)) ls fits
        ∙ chain (read_name ls) _ (sunk n (the ":") ⨟ (sunk n (rule type) ⨟ k)) (sunk n (rule type) ⨟ k) (λ m rest. token_last n (fixed (codes ":")) (sunk n (rule type) ⨟ k) _ rest fits refl))))
        (λ h. no_arg_name ls h)

-- what begins a clause of a contract, and the one form of a function's result
abbrev pub spec_firsts : List Terminal
spec_firsts = fixed (codes "free") ∷ fixed (codes "requires") ∷ fixed (codes "ensures") ∷ fixed (codes "modifies") ∷ []

abbrev pub returned : Part
returned = the "returns" ⨟ round (rule farg)

-- inside one nesting, where there is room for so many more
module _ (room n : ℕ) (total : suc n + room ≡ 200) where
  fits : suc n ≤ 200
  fits = omega (arith, total)

  outside : n ≤ 200
  outside = omega (arith, total)

  farg_fate : (k : Part) → Bars (fixed (codes ":") ∷ []) k → (ls : List Lexeme) → judge (sunk (suc n) (rule farg) ⨟ k) ls ≡ fate k (farg_with room ls)
  unfolding farg_with
  farg_fate k b ls = arg_name_fate (suc n) fits k b ls ∙ chain (read_arg_name ls) _ (sunk (suc n) (rule type) ⨟ k) k (λ m rest. type_fate (suc room) (suc n) (omega (arith, total)) k rest ∙ fate_as _ (read_type (suc room) rest) k)

  fargs_fate : (k : Part) → Bars (fixed (codes ":") ∷ []) k → Bars (comma ∷ []) k → (ls : List Lexeme) → judge (sunk (suc n) (listed_part (rule farg)) ⨟ k) ls ≡ fate k (fargs_with room ls)
  unfolding fargs_with
  fargs_fate k b c ls = listed_fate (suc n) (rule farg) k (farg_with room) (farg_shrinks room) c
      (λ us. farg_fate (sunk (suc n) (many (the "," ⨟ rule farg)) ⨟ k) (bars_over (fixed (codes ":") ∷ []) (suc n) (many (the "," ⨟ rule farg)) k refl b) us) (λ us x rest h. fits) ls

  -- "(" [FArg {"," FArg}] ")"
  pub inputs_fate : (k : Part) (ls : List Lexeme) → judge (sunk n (round (maybe (listed_part (rule farg)))) ⨟ k) ls ≡ fate k (inputs_with room ls)
  unfolding inputs_with
  inputs_fate k ls = token_then n (fixed (codes "(")) (inside (maybe (listed_part (rule farg))) ⨟ the ")") k k _ ls outside refl (λ rest.
      judge_order n (inside (maybe (listed_part (rule farg)))) (the ")") k rest ∙ branch (sees (fixed (codes ")")) rest) (judge (sunk (suc n) (maybe (listed_part (rule farg))) ⨟ (sunk n (the ")") ⨟ k)) rest) _ _ k
      (λ h. absent_at (suc n) (listed_part (rule farg)) (sunk n (the ")") ⨟ k) rest refl (shut (fixed (codes ")")) (listed_part (rule farg)) rest h refl) ∙ seen_there n (fixed (codes ")")) k rest outside refl h)
      (λ h. present_else (suc n) (listed_part (rule farg)) (sunk n (the ")") ⨟ k) rest (empties_then n (the ")") k refl) (opens_sunk n rest (the ")") k refl ∙ (opens_token (fixed (codes ")")) rest ∙ h))
      ∙ (fargs_fate (sunk n (the ")") ⨟ k) (bars_then (fixed (codes ":") ∷ []) n (the ")") k refl refl) (bars_then (comma ∷ []) n (the ")") k refl refl) rest
      ∙ chain (fargs_with room rest) _ (sunk n (the ")") ⨟ k) k (λ ins closed. token_last n (fixed (codes ")")) k _ closed outside refl))))

  -- "(" FArg ")"
  result_fate : (k : Part) (ls : List Lexeme) → judge (sunk n (round (rule farg)) ⨟ k) ls ≡ fate k (result_with room ls)
  unfolding result_with
  result_fate k ls = token_then n (fixed (codes "(")) (inside (rule farg) ⨟ the ")") k k _ ls outside refl (λ rest. judge_order n (inside (rule farg)) (the ")") k rest
      ∙ (farg_fate (sunk n (the ")") ⨟ k) (bars_then (fixed (codes ":") ∷ []) n (the ")") k refl refl) rest
      ∙ chain (farg_with room rest) _ (sunk n (the ")") ⨟ k) k (λ a closed. token_last n (fixed (codes ")")) k _ closed outside refl)))

  -- "returns" "(" FArg ")" | ":" Type
  pub output_fate : (k : Part) (ls : List Lexeme) → judge (sunk n (returned ∣ the ":" ⨟ rule type) ⨟ k) ls ≡ fate k (output_with room ls)
  unfolding output_with
  output_fate k ls = branch (sees (fixed (codes "returns")) ls) (judge (sunk n (returned ∣ the ":" ⨟ rule type) ⨟ k) ls) _ _ k
      (λ h. left_at n returned (the ":" ⨟ rule type) k ls refl (shut (fixed (codes "returns")) (the ":" ⨟ rule type) ls h refl)
      ∙ (judge_order n (the "returns") (round (rule farg)) k ls ∙ (seen_there n (fixed (codes "returns")) (sunk n (round (rule farg)) ⨟ k) ls outside refl h ∙ result_fate k (drop 1 ls))))
      (λ h. right_at n returned (the ":" ⨟ rule type) k ls refl (opens_behind (fixed (codes "returns")) (round (rule farg)) ls ∙ h)
      ∙ token_then n (fixed (codes ":")) (rule type) k k _ ls outside refl (λ rest. type_fate (suc (suc room)) n (omega (arith, total)) k rest))

  -- "{" E "}" | ";"
  pub value_fate : (k : Part) (ls : List Lexeme) → judge (sunk n (curly (rule expression) ∣ the ";") ⨟ k) ls ≡ fate k (value_with room ls)
  unfolding value_with
  value_fate k ls = branch (sees (fixed (codes "{")) ls) (judge (sunk n (curly (rule expression) ∣ the ";") ⨟ k) ls) _ _ k
      (λ h. left_at n (curly (rule expression)) (the ";") k ls refl (shut (fixed (codes "{")) (the ";") ls h refl)
      ∙ (judge_order n (the "{") (inside (rule expression) ⨟ the "}") k ls ∙ (seen_there n (fixed (codes "{")) (sunk n (inside (rule expression) ⨟ the "}") ⨟ k) ls outside refl h
      ∙ (judge_order n (inside (rule expression)) (the "}") k (drop 1 ls)
      ∙ (whole_fate (suc room) (suc n) (omega (arith, total)) (sunk n (the "}") ⨟ k) (after_then (suc n) n (the "}") k refl refl refl) (drop 1 ls)
      ∙ chain (e_with room (read_inner room) (drop 1 ls)) _ (sunk n (the "}") ⨟ k) k (λ x closed. token_last n (fixed (codes "}")) k _ closed outside refl))))))
      (λ h. right_at n (curly (rule expression)) (the ";") k ls refl (opens_behind (fixed (codes "{")) (inside (rule expression) ⨟ the "}") ls ∙ h) ∙ token_last n (fixed (codes ";")) k _ ls outside refl)

  -- "(" [Groups] ")"
  groups_fate : (k : Part) (ls : List Lexeme) → judge (sunk n (round (maybe (rule groups))) ⨟ k) ls ≡ fate k (params_with room ls)
  unfolding params_with
  groups_fate k ls = token_then n (fixed (codes "(")) (inside (maybe (rule groups)) ⨟ the ")") k k _ ls outside refl (λ rest.
      judge_order n (inside (maybe (rule groups))) (the ")") k rest ∙ branch (sees (fixed (codes ")")) rest) (judge (sunk (suc n) (maybe (rule groups)) ⨟ (sunk n (the ")") ⨟ k)) rest) _ _ k
      (λ h. absent_at (suc n) (rule groups) (sunk n (the ")") ⨟ k) rest refl (shut (fixed (codes ")")) (rule groups) rest h refl) ∙ seen_there n (fixed (codes ")")) k rest outside refl h)
      (λ h. present_else (suc n) (rule groups) (sunk n (the ")") ⨟ k) rest (empties_then n (the ")") k refl) (opens_sunk n rest (the ")") k refl ∙ (opens_token (fixed (codes ")")) rest ∙ h))
      ∙ (groups_law room (suc n) total (sunk n (the ")") ⨟ k) (closes_then n (the ")") k refl refl refl refl refl) rest
      ∙ chain (groups_with room (read_inner room) rest) _ (sunk n (the ")") ⨟ k) k (λ gs closed. token_last n (fixed (codes ")")) k _ closed outside refl))))

  -- Sig = "(" [Groups] ")" ["returns" "(" [Groups] ")"]
  abbrev results : Part
  results = the "returns" ⨟ round (maybe (rule groups))

  results_fate : (k : Part) → Bars (fixed (codes "returns") ∷ []) k → (ls : List Lexeme) → judge (sunk n (maybe results) ⨟ k) ls ≡ fate k (results_with room ls)
  unfolding results_with
  results_fate k b ls = branch (sees (fixed (codes "returns")) ls) (judge (sunk n (maybe results) ⨟ k) ls) _ _ k
      (λ h. present_at n results k ls refl (opens_behind (fixed (codes "returns")) (round (maybe (rule groups))) ls ∙ h) (bar (fixed (codes "returns")) k ls b h)
      ∙ (judge_order n (the "returns") (round (maybe (rule groups))) k ls ∙ (seen_there n (fixed (codes "returns")) (sunk n (round (maybe (rule groups))) ⨟ k) ls outside refl h ∙ groups_fate k (drop 1 ls))))
      (λ h. absent_at n results k ls refl (opens_behind (fixed (codes "returns")) (round (maybe (rule groups))) ls ∙ h))

  pub sig_fate : (k : Part) → Bars (fixed (codes "returns") ∷ []) k → (ls : List Lexeme) → judge (sunk n (rule sig) ⨟ k) ls ≡ fate k (sig_with room ls)
  unfolding sig_with
  sig_fate k b ls = judge_rule n sig k ls ∙ (judge_order n (round (maybe (rule groups))) (maybe results) k ls ∙ (groups_fate (sunk n (maybe results) ⨟ k) ls
      ∙ chain (params_with room ls) _ (sunk n (maybe results) ⨟ k) k (λ gs rest. results_fate k b rest ∙ fate_as _ (results_with room rest) k)))

  -- Spec = ["free"] ("requires" | "ensures") {Attr} E ";" | "modifies" [Ids] ";"

  abbrev clause_part : Part
  clause_part = (the "requires" ∣ the "ensures") ⨟ formula_part

  abbrev modifies_part : Part
  modifies_part = the "modifies" ⨟ maybe (rule ids) ⨟ the ";"

  formula_here : (k : Part) (ls : List Lexeme) → judge (sunk n formula_part ⨟ k) ls ≡ fate k (formula_with (suc room) ls)
  formula_here = formula_fate (suc room) n (omega (arith, total))

  clause_fate : (free : Bool) (k : Part) (ls : List Lexeme) → judge (sunk n clause_part ⨟ k) ls ≡ fate k (clause_with room free ls)
  unfolding clause_with
  clause_fate free k ls = judge_order n (the "requires" ∣ the "ensures") formula_part k ls ∙ branch (sees (fixed (codes "requires")) ls) (judge (sunk n (the "requires" ∣ the "ensures") ⨟ (sunk n formula_part ⨟ k)) ls) _ _ k
      (λ h. left_at n (the "requires") (the "ensures") (sunk n formula_part ⨟ k) ls refl (shut (fixed (codes "requires")) (the "ensures") ls h refl)
      ∙ (seen_there n (fixed (codes "requires")) (sunk n formula_part ⨟ k) ls outside refl h ∙ (formula_here k (drop 1 ls) ∙ fate_as _ (formula_with (suc room) (drop 1 ls)) k)))
      (λ h. right_at n (the "requires") (the "ensures") (sunk n formula_part ⨟ k) ls refl (opens_token (fixed (codes "requires")) ls ∙ h)
      ∙ (token_fate n (fixed (codes "ensures")) (sunk n formula_part ⨟ k) ls outside refl
      ∙ chain (read_fixed (codes "ensures") ls) _ (sunk n formula_part ⨟ k) k (λ u rest. formula_here k rest ∙ fate_as _ (formula_with (suc room) rest) k)))

  free_fate : (k : Part) (ls : List Lexeme) → judge (sunk n (maybe (the "free") ⨟ clause_part) ⨟ k) ls ≡ fate k (cond (sees (fixed (codes "free")) ls) (clause_with room true (drop 1 ls)) (clause_with room false ls))
  free_fate k ls = judge_order n (maybe (the "free")) clause_part k ls ∙ branch (sees (fixed (codes "free")) ls) (judge (sunk n (maybe (the "free")) ⨟ (sunk n clause_part ⨟ k)) ls) _ _ k
      (λ h. present_at n (the "free") (sunk n clause_part ⨟ k) ls refl (opens_token (fixed (codes "free")) ls ∙ h) (opens_sunk n ls clause_part k refl ∙ shut (fixed (codes "free")) clause_part ls h refl)
      ∙ (seen_there n (fixed (codes "free")) (sunk n clause_part ⨟ k) ls outside refl h ∙ clause_fate true k (drop 1 ls)))
      (λ h. absent_at n (the "free") (sunk n clause_part ⨟ k) ls refl (opens_token (fixed (codes "free")) ls ∙ h) ∙ clause_fate false k ls)

  spec_fate : (k : Part) (ls : List Lexeme) → judge (sunk n (rule spec) ⨟ k) ls ≡ fate k (spec_with room ls)
  unfolding spec_with
  spec_fate k ls = judge_rule n spec k ls ∙ branch (sees (fixed (codes "modifies")) ls) (judge (sunk n (grammar spec) ⨟ k) ls) _ _ k
      (λ h. right_at n (maybe (the "free") ⨟ clause_part) modifies_part k ls refl (shut (fixed (codes "modifies")) (maybe (the "free") ⨟ clause_part) ls h refl) ∙ modifies_fate n outside k ls)
      (λ h. left_at n (maybe (the "free") ⨟ clause_part) modifies_part k ls refl (opens_behind (fixed (codes "modifies")) (maybe (rule ids) ⨟ the ";") ls ∙ h) ∙ free_fate k ls)

  pub specs_fate : (k : Part) → Bars spec_firsts k → (ls : List Lexeme) → judge (sunk n (many (rule spec)) ⨟ k) ls ≡ fate k (specs_with room ls)
  unfolding specs_with
  specs_fate k b ls = many_fate n spec_firsts (rule spec) k (λ us. sees (fixed (codes "free")) us || (sees (fixed (codes "requires")) us || (sees (fixed (codes "ensures")) us || sees (fixed (codes "modifies")) us))) (spec_with room) (spec_shrinks room) refl (λ t. refl) b
      (any_four (fixed (codes "free")) (fixed (codes "requires")) (fixed (codes "ensures")) (fixed (codes "modifies"))) (λ us. spec_fate (sunk n (many (rule spec)) ⨟ k) us) ls
