-- The parts of declarations that lexemes spell are those that are read.
use Rattle.std.specs.Prelude.{◌≡◌, ℕ, suc, ◌+◌, Bool, false, ◌&&◌, List, [], ◌∷◌, drop, codes, Ok, Option, Some, None}
use Rattle.std.proofs.Common.{refl, inl, ap, ◌∙◌, arith}
use Rattle.bpl_grammar.proofs.Booleans.{no_and_first as no_first, and_both, no_and_second as and_false}
use Rattle.bpl_lex.specs.Token.{id}
use Rattle.bpl_ast.specs.Place.{Ty}
use Rattle.bpl_ast.specs.Tree.{Expr, Groups}
use Rattle.bpl_ast.specs.Statement.{Argument, Signature}
use Rattle.bpl_grammar.specs.Lexeme.{Lexeme}
use Rattle.bpl_grammar.specs.Part.{◌⨟◌, maybe, rule, tpar, farg, group}
use Rattle.bpl_grammar.specs.Grammar.{the, listed as listed_part}
use Rattle.bpl_grammar.specs.Spelling.{of_text, both}
use Rattle.bpl_grammar.specs.Judge.{Narrow}
use Rattle.bpl_grammar.specs.Terminal.{Terminal, kind, fixed, is, sees, sees_any}
use Rattle.bpl_grammar.specs.Reading.{read_as, read_fixed}
use Rattle.bpl_grammar.specs.ReadTypes.{read_type}
use Rattle.bpl_grammar.specs.ReadExpressions.{Together, groups_from, e_with, groups_with, read_inner}
use Rattle.bpl_grammar.specs.ReadDeclarations.{read_arg_name, farg_with, fargs_with, inputs_with, result_with, output_with, value_with, params_with, results_with, sig_with}
use Rattle.bpl_grammar.specs.Types.{Is, IsId, name, Type'}
use Rattle.bpl_grammar.specs.Expressions.{E}
use Rattle.bpl_grammar.specs.Programs as p
use Rattle.bpl_grammar.proofs.Agree.{takes_tpar, groups_listed}
use Rattle.bpl_grammar.proofs.AgreeDeclarations as agree
use Rattle.bpl_grammar.proofs.Found.{same_found, followed_ok, read_as_ok}
use Rattle.bpl_grammar.proofs.TypeTrees.{comma, placed}
use Rattle.bpl_grammar.proofs.Suffixes.{takes_suffix, narrow_suffix}
use Rattle.bpl_grammar.proofs.Spelled.{chosen, passed, other, unseen_first}
use Rattle.bpl_grammar.proofs.Unique.{Leaves, none_seen, quiet_head, quiet_behind, IsParted, part_last, part_more}
use Rattle.bpl_grammar.proofs.TermParts.{e_goers}
use Rattle.bpl_grammar.proofs.MarksUnique.{group_goers}
use Rattle.bpl_grammar.proofs.TypesUnique.{type_one}
use Rattle.bpl_grammar.proofs.ExprsUnique.{whole_one, groups_one}
use Rattle.bpl_grammar.proofs.Sure.{IsSure, one_sure, run_sure}
use Rattle.bpl_grammar.proofs.Steps.{opened, ends_with, named_step, step, last_step}

abbrev colon : Terminal
colon = fixed (codes ":")

pub type_sure : (room : ℕ) → IsSure [] (Type' placed) (read_type room)
type_sure room = one_sure [] (Type' placed) (read_type room) (type_one room)

-- FArg = [Id ":"] Type

abbrev begins_name : List Lexeme → Bool
begins_name ls = sees (kind id) ls && sees colon (drop 1 ls)

-- a type behind which no colon comes doesn't begin with a name and a colon
no_colon : (ls us : List Lexeme) (x : Ty) → Type' placed ls us x → sees colon us ≡ false → begins_name ls ≡ false
no_colon ls us x (Type'.int {t = t} i) q = no_first (is (kind id) t) (sees colon us) (other (fixed (codes "int")) (kind id) t i refl)
no_colon ls us x (Type'.bool {t = t} i) q = no_first (is (kind id) t) (sees colon us) (other (fixed (codes "bool")) (kind id) t i refl)
no_colon ls us x (Type'.of_name {t = t} i) q = and_false (is (kind id) t) (sees colon us) q
no_colon ls us x (Type'.round {t = t} {ts = ts} i d j) q = no_first (is (kind id) t) (sees colon ts) (other (fixed (codes "(")) (kind id) t i refl)
no_colon ls us x (Type'.map {t = t} {rest = rest} {ts = ts} d i e j k) q = no_first (is (kind id) t) (sees colon rest) (unseen_first (maybe (rule tpar) ⨟ the "[") (kind id) (t ∷ rest) ts refl refl (both (takes_tpar placed d) (of_text i)))

farg_leaves : Leaves (p.FArg placed)
farg_leaves = λ ls us x d. takes_suffix (agree.takes_farg placed d)

module _ (room n : ℕ) (total : suc n + room ≡ 200) where
  unnamed_rest : (ls vs : List Lexeme) (y : Argument) → begins_name ls ≡ false → farg_with room ls ≡ Ok (y, vs) → read_as (λ t. record { name = None; type = t }) (read_type (suc room) ls) ≡ Ok (y, vs)
  unfolding farg_with read_arg_name
  unnamed_rest ls vs y b h =
      let f = followed_ok (read_arg_name ls) _ (y, vs) h in
      let e = same_found None f.first ls f.rest (passed (begins_name ls) _ _ (f.first, f.rest) b f.reads) in
      (λ i. read_as (λ t. record { name = e.0 i; type = t }) (read_type (suc room) (e.1 i))) ∙ f.then

  named_rest : (t u : Lexeme) (ts vs : List Lexeme) (y : Argument) → IsId t → Is ":" u → farg_with room (t ∷ u ∷ ts) ≡ Ok (y, vs) → read_as (λ x. record { name = Some (name placed t); type = x }) (read_type (suc room) ts) ≡ Ok (y, vs)
  unfolding farg_with read_arg_name
  named_rest t u ts vs y i j h =
      let f = followed_ok (read_arg_name (t ∷ u ∷ ts)) _ (y, vs) h in
      let g = chosen (begins_name (t ∷ u ∷ ts)) _ _ (f.first, f.rest) (and_both (is (kind id) t) (is colon u) i j) f.reads in
      let e = ends_with colon u ts f.rest (Some (name placed t)) f.first (named_step t (u ∷ ts) _ (f.first, f.rest) g) in
      (λ k. read_as (λ x. record { name = e.1 k; type = x }) (read_type (suc room) (e.0 k))) ∙ f.then

  farg_sure : IsSure (colon ∷ []) (p.FArg placed) (farg_with room)
  farg_sure = λ ls us vs x y n d h q. found ls us vs x y n d h q
    where
      found : (ls us vs : List Lexeme) (x y : Argument) → Narrow ls → p.FArg placed ls us x → farg_with room ls ≡ Ok (y, vs) → sees_any (colon ∷ []) us ≡ false → (us ≡ vs) × (x ≡ y)
      found ls us vs x y n (p.FArg.typed {x = t} d) h q = last_step [] (Type' placed) (read_type (suc room)) (type_sure (suc room)) _ ls us vs t y n d (none_seen us) (unnamed_rest ls vs y (no_colon ls us t d (quiet_head colon [] us q)) h)
      found ls us vs x y n (p.FArg.named {t = t} {u = u} {ts = ts} {x = z} i j d) h q = last_step [] (Type' placed) (read_type (suc room)) (type_sure (suc room)) _ ts us vs z y n.1.1 d (none_seen us) (named_rest t u ts vs y i j h)

  abbrev itself : List Argument → List Argument
  itself ins = ins

  fargs_parts : {ls us : List Lexeme} {ins : List Argument} → p.FArgs placed ls us ins → IsParted itself comma (p.FArg placed) ls us ins
  fargs_parts (p.FArgs.last {ts = ts} {us = us} {a = a} d) = part_last itself comma (p.FArg placed) ts us a d
  fargs_parts (p.FArgs.more {t = t} {ts = ts} {us = us} {vs = vs} {a = a} {rest = rest} d c r) = part_more itself (λ x xs. x ∷ xs) (λ x xs. refl) comma (p.FArg placed) t ts us vs a rest d c (fargs_parts r)

  fargs_sure : IsSure (comma ∷ colon ∷ []) (p.FArgs placed) (fargs_with room)
  unfolding fargs_with
  fargs_sure = λ ls us vs x y n d h q. run_sure comma (farg_with room) (p.FArg placed) (colon ∷ []) farg_sure farg_leaves refl itself ls us vs x y n (fargs_parts d) h q

  -- "(" [FArg {"," FArg}] ")"
  pub inputs_sure : IsSure [] (p.Inputs placed) (inputs_with room)
  unfolding inputs_with
  inputs_sure = λ ls us vs x y n d h q. found ls us vs x y n d h
    where
      found : (ls us vs : List Lexeme) (x y : List Argument) → Narrow ls → p.Inputs placed ls us x → inputs_with room ls ≡ Ok (y, vs) → (us ≡ vs) × (x ≡ y)
      found ls us vs x y n (p.Inputs.none {t = t} {u = u} i j) h =
          let e = same_found [] y us vs (chosen (sees (fixed (codes ")")) (u ∷ us)) _ _ (y, vs) j (opened (fixed (codes "(")) t (u ∷ us) _ (y, vs) h)) in
          (e.1, e.0)
      found ls us vs x y n (p.Inputs.some {t = t} {u = u} {ts = ts} i d j) h =
          let g = passed (sees (fixed (codes ")")) ts) _ _ (y, vs) (unseen_first (listed_part (rule farg)) (fixed (codes ")")) ts (u ∷ us) refl refl (agree.fargs_listed placed d)) (opened (fixed (codes "(")) t ts _ (y, vs) h) in
          ends_with (fixed (codes ")")) u us vs x y (step (comma ∷ colon ∷ []) (p.FArgs placed) (fargs_with room) fargs_sure ts (u ∷ us) x _ (y, vs) n.1 d (quiet_behind (fixed (codes ")")) (comma ∷ colon ∷ []) (u ∷ us) refl j) g)

  -- "returns" "(" FArg ")" | ":" Type
  pub output_sure : IsSure [] (p.Output placed) (output_with room)
  unfolding output_with result_with
  output_sure = λ ls us vs x y n d h q. found ls us vs x y n d h
    where
      found : (ls us vs : List Lexeme) (x y : Ty) → Narrow ls → p.Output placed ls us x → output_with room ls ≡ Ok (y, vs) → (us ≡ vs) × (x ≡ y)
      found ls us vs x y n (p.Output.returns {t = t} {u = u} {v = v} {ts = ts} {a = a} i j d k) h =
          let g = opened (fixed (codes "(")) u ts _ (y, vs) (chosen (sees (fixed (codes "returns")) (t ∷ u ∷ ts)) _ _ (y, vs) i h) in
          ends_with (fixed (codes ")")) v us vs x y (step (colon ∷ []) (p.FArg placed) (farg_with room) farg_sure ts (v ∷ us) a _ (y, vs) n.1.1 d (quiet_behind (fixed (codes ")")) (colon ∷ []) (v ∷ us) refl k) g)
      found ls us vs x y n (p.Output.colon {t = t} {ts = ts} i d) h =
          let g = opened colon t ts _ (y, vs) (passed (sees (fixed (codes "returns")) (t ∷ ts)) _ _ (y, vs) (other colon (fixed (codes "returns")) t i refl) h) in
          type_sure (suc (suc room)) ts us vs x y n.1 d g (none_seen us)

  -- "{" E "}" | ";"
  pub value_sure : IsSure [] (p.Value placed) (value_with room)
  unfolding value_with
  value_sure = λ ls us vs x y n d h q. found ls us vs x y n d h
    where
      found : (ls us vs : List Lexeme) (x y : Option Expr) → Narrow ls → p.Value placed ls us x → value_with room ls ≡ Ok (y, vs) → (us ≡ vs) × (x ≡ y)
      found ls us vs x y w (p.Value.given {t = t} {u = u} {ts = ts} {x = z} i d j) h =
          ends_with (fixed (codes "}")) u us vs x y (step e_goers (E placed) (e_with room (read_inner room)) (one_sure e_goers (E placed) (e_with room (read_inner room)) (whole_one (suc room) (suc n) (omega (arith, total)))) ts (u ∷ us) z _ (y, vs) w.1 d
          (quiet_behind (fixed (codes "}")) e_goers (u ∷ us) refl j) (chosen (sees (fixed (codes "{")) (t ∷ ts)) _ _ (y, vs) i h))
      found ls us vs x y w (p.Value.missing {t = t} i) h = ends_with (fixed (codes ";")) t us vs x y (passed (sees (fixed (codes "{")) (t ∷ us)) _ _ (y, vs) (other (fixed (codes ";")) (fixed (codes "{")) t i refl) h)

  -- "(" [Groups] ")"
  params_sure : (ls us vs : List Lexeme) (x : Groups) (ts : List Together) → Narrow ls → p.Params' placed ls us x → params_with room ls ≡ Ok (ts, vs) → (us ≡ vs) × (x ≡ groups_from ts)
  unfolding params_with
  params_sure ls us vs x ts w (p.Params'.none {t = t} {u = u} i j) h =
      let e = same_found [] ts us vs (chosen (sees (fixed (codes ")")) (u ∷ us)) _ _ (ts, vs) j (opened (fixed (codes "(")) t (u ∷ us) _ (ts, vs) h)) in
      (e.1, ap groups_from e.0)
  params_sure ls us vs x ts w (p.Params'.some {t = t} {u = u} {ts = mid} i d j) h =
      let g = passed (sees (fixed (codes ")")) mid) _ _ (ts, vs) (unseen_first (listed_part (rule group)) (fixed (codes ")")) mid (u ∷ us) refl refl (groups_listed placed d)) (opened (fixed (codes "(")) t mid _ (ts, vs) h) in
      let f = followed_ok (groups_with room (read_inner room) mid) _ (ts, vs) g in
      let o = groups_one room (suc n) total mid (u ∷ us) f.rest x f.first w.1 d f.reads (inl (quiet_behind (fixed (codes ")")) (comma ∷ group_goers) (u ∷ us) refl j)) in
      let e = ends_with (fixed (codes ")")) u us vs f.first ts (ap (λ r. read_as (λ z. f.first) (read_fixed (codes ")") r)) o.0 ∙ f.then) in
      (e.0, o.1 ∙ ap groups_from e.1)

  -- Sig = "(" [Groups] ")" ["returns" "(" [Groups] ")"]
  pub sig_sure : IsSure (fixed (codes "returns") ∷ []) (p.Sig placed) (sig_with room)
  unfolding sig_with results_with
  sig_sure = λ ls us vs x y n d h q. found ls us vs x y n d h q
    where
      both_same : (a b c d : Groups) → a ≡ b → c ≡ d → ◌≡◌ {A = Signature} (record { ins = a; outs = c }) (record { ins = b; outs = d })
      both_same a b c d e f = cc (e, f)

      found : (ls us vs : List Lexeme) (x y : Signature) → Narrow ls → p.Sig placed ls us x → sig_with room ls ≡ Ok (y, vs) → sees_any (fixed (codes "returns") ∷ []) us ≡ false → (us ≡ vs) × (x ≡ y)
      found ls us vs x y w (p.Sig.ins_alone {gs = gs} d) h q =
          let f = followed_ok (params_with room ls) _ (y, vs) h in
          let o = params_sure ls us f.rest gs f.first w d f.reads in
          let r = read_as_ok _ (results_with room f.rest) y vs f.then in
          let e = same_found [] r.value us vs (passed (sees (fixed (codes "returns")) us) _ _ (r.value, vs) (quiet_head (fixed (codes "returns")) [] us q) (ap (results_with room) o.0 ∙ r.reads)) in
          (e.1, both_same gs (groups_from f.first) (groups_from []) (groups_from r.value) o.1 (ap groups_from e.0) ∙ r.is)
      found ls us vs x y w (p.Sig.ins_and_outs {t = t} {us = mid} {gs = gs} {hs = hs} d i k) h q =
          let f = followed_ok (params_with room ls) _ (y, vs) h in
          let o = params_sure ls (t ∷ mid) f.rest gs f.first w d f.reads in
          let r = read_as_ok _ (results_with room f.rest) y vs f.then in
          let g = chosen (sees (fixed (codes "returns")) (t ∷ mid)) _ _ (r.value, vs) i (ap (results_with room) o.0 ∙ r.reads) in
          let c = params_sure mid us vs hs r.value (narrow_suffix (takes_suffix (agree.takes_params placed d)) w).1 k g in
          (c.0, both_same gs (groups_from f.first) hs (groups_from r.value) o.1 c.1 ∙ r.is)
