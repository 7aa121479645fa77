-- The parts of declarations that are read are the trees that the lexemes spell.
use Rattle.std.specs.Prelude.{◌≡◌, ℕ, suc, ◌+◌, ◌&&◌, List, [], ◌∷◌, drop, codes, Ok, Option, Some, None}
use Rattle.std.proofs.Common.{arith}
use Rattle.bpl_lex.specs.Token.{id}
use Rattle.bpl_ast.specs.Place.{Name, Ty}
use Rattle.bpl_ast.specs.Tree.{Expr}
use Rattle.bpl_ast.specs.Statement.{Argument}
use Rattle.bpl_grammar.specs.Lexeme.{Lexeme}
use Rattle.bpl_grammar.specs.Terminal.{kind, fixed, sees}
use Rattle.bpl_grammar.specs.Reading.{read_fixed, read_name}
use Rattle.bpl_grammar.specs.ReadTypes.{read_type}
use Rattle.bpl_grammar.specs.ReadExpressions.{Together, groups_from, e_with, groups_with, read_inner}
use Rattle.bpl_grammar.specs.ReadDeclarations.{read_arg_name, farg_with, fargs_with, inputs_with, result_with, output_with, value_with, params_with}
use Rattle.bpl_grammar.specs.Types.{Is, IsId, name, Type'}
use Rattle.bpl_grammar.specs.Expressions.{E, Groups'}
use Rattle.bpl_grammar.specs.Programs as p
use Rattle.bpl_grammar.proofs.Found.{same_found, followed_ok, read_as_ok, token_ok, seen_ok, name_ok}
use Rattle.bpl_grammar.proofs.TypeTrees.{comma, placed, type_ok}
use Rattle.bpl_grammar.proofs.Items.{by_cond, run_tree}
use Rattle.bpl_grammar.proofs.ExprTrees.{whole_tree, all_groups_tree}
use Rattle.bpl_grammar.proofs.StatementTrees.{closed_ok}

-- FArg = [Id ":"] Type

pub data ArgName : List Lexeme → List Lexeme → Option Name → Type 0 where
  unnamed : {ls : List Lexeme} → ArgName ls ls None
  named : {t u : Lexeme} {ls : List Lexeme} → IsId t → Is ":" u → ArgName (t ∷ u ∷ ls) ls (Some (name placed t))

shown_named : (t u : Lexeme) (ls mid us : List Lexeme) (m : Name) → IsId t → ls ≡ t ∷ mid → m ≡ name placed t → Is ":" u → mid ≡ u ∷ us → ArgName ls us (Some m)
shown_named t u ls mid us m i e q j f = rw (e, q, f) (named i j)

arg_name_ok : (ls us : List Lexeme) (m : Option Name) → read_arg_name ls ≡ Ok (m, us) → ArgName ls us m
unfolding read_arg_name
arg_name_ok ls us m h = by_cond (sees (kind id) ls && sees (fixed (codes ":")) (drop 1 ls)) _ _ (m, us) h
    (λ i q. let f = followed_ok (read_name ls) _ (m, us) q in
    let k = name_ok ls f.first f.rest f.reads in
    let c = closed_ok (fixed (codes ":")) (Some f.first) f.rest us m f.then in
    rw (← c.same) (shown_named k.0.token c.token ls f.rest us f.first k.0.is k.0.there k.1 c.is c.there))
    (λ i q. let e = same_found None m ls us q in
    rw (← e.0, ← e.1) unnamed)

shown_arg : (ls mid us : List Lexeme) (m : Option Name) (x : Ty) → ArgName ls mid m → Type' placed mid us x → p.FArg placed ls us (record { name = m; type = x })
shown_arg ls mid us m x unnamed d = p.FArg.typed d
shown_arg ls mid us m x (named i j) d = p.FArg.named i j d

-- what stands in parentheses
module _ {A : Type 0} (R : List Lexeme → List Lexeme → A → Type 0) where
  pub data Round : List Lexeme → List Lexeme → A → Type 0 where
    in_round : {t u : Lexeme} {ls us : List Lexeme} {x : A} → Is "(" t → R ls (u ∷ us) x → Is ")" u → Round (t ∷ ls) us x

  pub shown_round : (t u : Lexeme) (ls mid rest us : List Lexeme) (x : A) → Is "(" t → ls ≡ t ∷ mid → R mid rest x → Is ")" u → rest ≡ u ∷ us → Round ls us x
  shown_round t u ls mid rest us x i e d j f =
      let d' = rw f at d in
      rw e (in_round i d' j)

module _ (room n : ℕ) (total : suc n + room ≡ 200) where
  farg_ok : (ls : List Lexeme) (a : Argument) (us : List Lexeme) → farg_with room ls ≡ Ok (a, us) → p.FArg placed ls us a
  unfolding farg_with
  farg_ok ls a us h =
      let f = followed_ok (read_arg_name ls) _ (a, us) h in
      let r = read_as_ok _ (read_type (suc room) f.rest) a us f.then in
      rw (← r.is) (shown_arg ls f.rest us f.first r.value (arg_name_ok ls f.rest f.first f.reads) (type_ok (suc room) f.rest r.value us r.reads))

  fargs_ok : (ls us : List Lexeme) (ins : List Argument) → fargs_with room ls ≡ Ok (ins, us) → p.FArgs placed ls us ins
  unfolding fargs_with
  fargs_ok = run_tree comma (farg_with room) (λ ls us a. p.FArg placed ls us a) (λ ls us ins. p.FArgs placed ls us ins) farg_ok (λ ls us a d. p.FArgs.last d) (λ ls us vs t a b ins d c r. p.FArgs.more d c r)

  -- "(" [FArg {"," FArg}] ")"
  no_inputs : (t u : Lexeme) (ls mid us : List Lexeme) → Is "(" t → ls ≡ t ∷ mid → Is ")" u → mid ≡ u ∷ us → p.Inputs placed ls us []
  no_inputs t u ls mid us i e j f = rw (e, f) (p.Inputs.none i j)

  shown_inputs : (ls us : List Lexeme) (ins : List Argument) → Round (λ ls us ins. p.FArgs placed ls us ins) ls us ins → p.Inputs placed ls us ins
  shown_inputs ls us ins (in_round i d j) = p.Inputs.some i d j

  pub inputs_ok : (ls us : List Lexeme) (ins : List Argument) → inputs_with room ls ≡ Ok (ins, us) → p.Inputs placed ls us ins
  unfolding inputs_with
  inputs_ok ls us ins h =
      let f = followed_ok (read_fixed (codes "(") ls) _ (ins, us) h in
      let o = token_ok (fixed (codes "(")) ls f.rest f.reads in
      by_cond (sees (fixed (codes ")")) f.rest) _ _ (ins, us) f.then
      (λ i q. let k = seen_ok (fixed (codes ")")) f.rest i in
      let e = same_found [] ins (drop 1 f.rest) us q in
      rw (← e.0, ← e.1) (no_inputs o.token k.token ls f.rest (drop 1 f.rest) o.is o.there k.is k.there))
      (λ i q. let g = followed_ok (fargs_with room f.rest) _ (ins, us) q in
      let c = closed_ok (fixed (codes ")")) g.first g.rest us ins g.then in
      rw (← c.same) (shown_inputs ls us g.first (shown_round (λ ls us ins. p.FArgs placed ls us ins) o.token c.token ls f.rest g.rest us g.first o.is o.there (fargs_ok f.rest g.rest g.first g.reads) c.is c.there)))

  -- "returns" "(" FArg ")" | ":" Type

  record IsResult (ls us : List Lexeme) (x : Ty) : Type 0 where
    argument : Argument
    round : Round (λ ls us a. p.FArg placed ls us a) ls us argument
    is : argument.type ≡ x

  result_ok : (ls us : List Lexeme) (x : Ty) → result_with room ls ≡ Ok (x, us) → IsResult ls us x
  unfolding result_with
  result_ok ls us x h =
      let f = followed_ok (read_fixed (codes "(") ls) _ (x, us) h in
      let o = token_ok (fixed (codes "(")) ls f.rest f.reads in
      let g = followed_ok (farg_with room f.rest) _ (x, us) f.then in
      let c = closed_ok (fixed (codes ")")) g.first.type g.rest us x g.then in
      record { argument = g.first; round = shown_round (λ ls us a. p.FArg placed ls us a) o.token c.token ls f.rest g.rest us g.first o.is o.there (farg_ok f.rest g.first g.rest g.reads) c.is c.there; is = c.same }

  shown_returns : (t : Lexeme) (ls mid us : List Lexeme) (a : Argument) (x : Ty) → Is "returns" t → ls ≡ t ∷ mid → Round (λ ls us a. p.FArg placed ls us a) mid us a → a.type ≡ x → p.Output placed ls us x
  shown_returns t ls mid us a x i e (in_round j d k) q = rw (e, ← q) (p.Output.returns i j d k)

  shown_colon : (t : Lexeme) (ls mid us : List Lexeme) (x : Ty) → Is ":" t → ls ≡ t ∷ mid → Type' placed mid us x → p.Output placed ls us x
  shown_colon t ls mid us x i e d = rw e (p.Output.colon i d)

  pub output_ok : (ls us : List Lexeme) (x : Ty) → output_with room ls ≡ Ok (x, us) → p.Output placed ls us x
  unfolding output_with
  output_ok ls us x h = by_cond (sees (fixed (codes "returns")) ls) _ _ (x, us) h
      (λ i q. let o = seen_ok (fixed (codes "returns")) ls i in
      let r = result_ok (drop 1 ls) us x q in
      shown_returns o.token ls (drop 1 ls) us r.argument x o.is o.there r.round r.is)
      (λ i q. let f = followed_ok (read_fixed (codes ":") ls) _ (x, us) q in
      let o = token_ok (fixed (codes ":")) ls f.rest f.reads in
      shown_colon o.token ls f.rest us x o.is o.there (type_ok (suc (suc room)) f.rest x us f.then))

  -- "{" E "}" | ";"
  shown_value : (t u : Lexeme) (ls mid us : List Lexeme) (x : Expr) → Is "{" t → ls ≡ t ∷ mid → E placed mid (u ∷ us) x → Is "}" u → p.Value placed ls us (Some x)
  shown_value t u ls mid us x i e d j = rw e (p.Value.given i d j)

  no_value : (t : Lexeme) (ls us : List Lexeme) → Is ";" t → ls ≡ t ∷ us → p.Value placed ls us None
  no_value t ls us i e = rw e (p.Value.missing i)

  pub value_ok : (ls us : List Lexeme) (x : Option Expr) → value_with room ls ≡ Ok (x, us) → p.Value placed ls us x
  unfolding value_with
  value_ok ls us x h = by_cond (sees (fixed (codes "{")) ls) _ _ (x, us) h
      (λ i q. let o = seen_ok (fixed (codes "{")) ls i in
      let f = followed_ok (e_with room (read_inner room) (drop 1 ls)) _ (x, us) q in
      let c = closed_ok (fixed (codes "}")) (Some f.first) f.rest us x f.then in
      let d = rw c.there at (whole_tree (suc room) (suc n) (omega (arith, total)) (drop 1 ls) f.first f.rest f.reads) in
      rw (← c.same) (shown_value o.token c.token ls (drop 1 ls) us f.first o.is o.there d c.is))
      (λ i q. let c = closed_ok (fixed (codes ";")) None ls us x q in
      rw (← c.same) (no_value c.token ls us c.is c.there))

  -- "(" [Groups] ")"
  no_params : (t u : Lexeme) (ls mid us : List Lexeme) → Is "(" t → ls ≡ t ∷ mid → Is ")" u → mid ≡ u ∷ us → p.Params' placed ls us (groups_from [])
  no_params t u ls mid us i e j f = rw (e, f) (p.Params'.none i j)

  shown_params : (ls us : List Lexeme) (gs : List Together) → Round (λ ls us gs. Groups' placed ls us (groups_from gs)) ls us gs → p.Params' placed ls us (groups_from gs)
  shown_params ls us gs (in_round i d j) = p.Params'.some i d j

  pub params_ok : (ls us : List Lexeme) (gs : List Together) → params_with room ls ≡ Ok (gs, us) → p.Params' placed ls us (groups_from gs)
  unfolding params_with
  params_ok ls us gs h =
      let f = followed_ok (read_fixed (codes "(") ls) _ (gs, us) h in
      let o = token_ok (fixed (codes "(")) ls f.rest f.reads in
      by_cond (sees (fixed (codes ")")) f.rest) _ _ (gs, us) f.then
      (λ i q. let k = seen_ok (fixed (codes ")")) f.rest i in
      let e = same_found [] gs (drop 1 f.rest) us q in
      rw (← e.0, ← e.1) (no_params o.token k.token ls f.rest (drop 1 f.rest) o.is o.there k.is k.there))
      (λ i q. let g = followed_ok (groups_with room (read_inner room) f.rest) _ (gs, us) q in
      let c = closed_ok (fixed (codes ")")) g.first g.rest us gs g.then in
      rw (← c.same) (shown_params ls us g.first (shown_round (λ ls us gs. Groups' placed ls us (groups_from gs)) o.token c.token ls f.rest g.rest us g.first o.is o.there (all_groups_tree room (suc (suc n)) (omega (arith, total)) f.rest g.rest g.first g.reads) c.is c.there)))
