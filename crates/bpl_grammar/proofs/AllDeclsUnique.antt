-- Declarations that lexemes spell are those that are read: which is read, by the first word, and all of them.
use Rattle.std.specs.Prelude.{◌≡◌, ℕ, suc, ◌+◌, false, cond, List, [], ◌∷◌, codes, IsTrue, Ok, Some, None}
use Rattle.std.proofs.Common.{refl}
use Rattle.bpl_lex.specs.Token.{id}
use Rattle.bpl_ast.specs.Statement.{DeclBody, axiom_of, variables}
use Rattle.bpl_grammar.specs.Lexeme.{Lexeme}
use Rattle.bpl_grammar.specs.Part.{some, ◌⨟◌, many, rule, spec, body}
use Rattle.bpl_grammar.specs.Grammar.{listed as listed_part}
use Rattle.bpl_grammar.specs.Spelling.{both}
use Rattle.bpl_grammar.specs.Judge.{Narrow}
use Rattle.bpl_grammar.specs.Terminal.{Terminal, fixed, is, sees, sees_any, apart}
use Rattle.bpl_grammar.specs.Reading.{Read, read_as}
use Rattle.bpl_grammar.specs.ReadStatements.{formula_with, var_with, body_with}
use Rattle.bpl_grammar.specs.ReadDeclarations.{const_with, function_with, type_decl_with, procedure_with, implementation_with, decl_with}
use Rattle.bpl_grammar.specs.Types.{Is}
use Rattle.bpl_grammar.specs.Statements as s
use Rattle.bpl_grammar.specs.Programs as p
use Rattle.bpl_grammar.proofs.Agree.{ids_listed}
use Rattle.bpl_grammar.proofs.AgreeStatements as statements
use Rattle.bpl_grammar.proofs.AgreeDeclarations as agree
use Rattle.bpl_grammar.proofs.TypeTrees.{placed}
use Rattle.bpl_grammar.proofs.GuardTrees.{VarAt, var}
use Rattle.bpl_grammar.proofs.DeclTrees.{usual, unique, opaque, equal, head, full}
use Rattle.bpl_grammar.proofs.Suffixes.{takes_suffix, narrow_suffix}
use Rattle.bpl_grammar.proofs.Spelled.{chosen, passed, other}
use Rattle.bpl_grammar.proofs.Unique.{none_seen, quiet_behind}
use Rattle.bpl_grammar.proofs.DeclarationFates.{spec_firsts}
use Rattle.bpl_grammar.proofs.Sure.{IsSure}
use Rattle.bpl_grammar.proofs.Steps.{last_step}
use Rattle.bpl_grammar.proofs.DeclsUnique.{unseen, const_sure, function_sure, type_decl_sure, procedure_sure, implementation_sure}

-- one reading is passed over, which begins with another word
skip : {B : Type 0} (c w : Terminal) (t : Lexeme) (ts : List Lexeme) (x y : Read B) (r : B × List Lexeme) → IsTrue (is w t) → IsTrue (apart w c) → cond (sees c (t ∷ ts)) x y ≡ Ok r → y ≡ Ok r
skip c w t ts x y r i a h = passed (sees c (t ∷ ts)) x y r (other w c t i a) h

module _ (room : ℕ) (t : Lexeme) (ts : List Lexeme) (r : DeclBody × List Lexeme) where
  to_const : Is "const" t → decl_with room (t ∷ ts) ≡ Ok r → const_with room (t ∷ ts) ≡ Ok r
  unfolding decl_with
  to_const i h = chosen (sees (fixed (codes "const")) (t ∷ ts)) _ _ r i h

  to_function : Is "function" t → decl_with room (t ∷ ts) ≡ Ok r → function_with room (t ∷ ts) ≡ Ok r
  unfolding decl_with
  to_function i h = chosen (sees (fixed (codes "function")) (t ∷ ts)) _ _ r i (skip (fixed (codes "const")) (fixed (codes "function")) t ts _ _ r i refl h)

  to_axiom : Is "axiom" t → decl_with room (t ∷ ts) ≡ Ok r → read_as (λ x. axiom_of x) (formula_with (suc room) ts) ≡ Ok r
  unfolding decl_with
  to_axiom i h = chosen (sees (fixed (codes "axiom")) (t ∷ ts)) _ _ r i (skip (fixed (codes "function")) (fixed (codes "axiom")) t ts _ _ r i refl (skip (fixed (codes "const")) (fixed (codes "axiom")) t ts _ _ r i refl h))

  to_var : Is "var" t → decl_with room (t ∷ ts) ≡ Ok r → read_as (λ gs. variables gs) (var_with (suc room) (t ∷ ts)) ≡ Ok r
  unfolding decl_with
  to_var i h = chosen (sees (fixed (codes "var")) (t ∷ ts)) _ _ r i (skip (fixed (codes "axiom")) (fixed (codes "var")) t ts _ _ r i refl (skip (fixed (codes "function")) (fixed (codes "var")) t ts _ _ r i refl (skip (fixed (codes "const")) (fixed (codes "var")) t ts _ _ r i refl h)))

  to_type : Is "type" t → decl_with room (t ∷ ts) ≡ Ok r → type_decl_with room (t ∷ ts) ≡ Ok r
  unfolding decl_with
  to_type i h = chosen (sees (fixed (codes "type")) (t ∷ ts)) _ _ r i (skip (fixed (codes "var")) (fixed (codes "type")) t ts _ _ r i refl (skip (fixed (codes "axiom")) (fixed (codes "type")) t ts _ _ r i refl (skip (fixed (codes "function")) (fixed (codes "type")) t ts _ _ r i refl (skip (fixed (codes "const")) (fixed (codes "type")) t ts _ _ r i refl h))))

  to_procedure : Is "procedure" t → decl_with room (t ∷ ts) ≡ Ok r → procedure_with room (t ∷ ts) ≡ Ok r
  unfolding decl_with
  to_procedure i h = chosen (sees (fixed (codes "procedure")) (t ∷ ts)) _ _ r i (skip (fixed (codes "type")) (fixed (codes "procedure")) t ts _ _ r i refl (skip (fixed (codes "var")) (fixed (codes "procedure")) t ts _ _ r i refl (skip (fixed (codes "axiom")) (fixed (codes "procedure")) t ts _ _ r i refl (skip (fixed (codes "function")) (fixed (codes "procedure")) t ts _ _ r i refl (skip (fixed (codes "const")) (fixed (codes "procedure")) t ts _ _ r i refl h)))))

  to_implementation : Is "implementation" t → decl_with room (t ∷ ts) ≡ Ok r → implementation_with room (t ∷ ts) ≡ Ok r
  unfolding decl_with
  to_implementation i h = skip (fixed (codes "procedure")) (fixed (codes "implementation")) t ts _ _ r i refl (skip (fixed (codes "type")) (fixed (codes "implementation")) t ts _ _ r i refl (skip (fixed (codes "var")) (fixed (codes "implementation")) t ts _ _ r i refl (skip (fixed (codes "axiom")) (fixed (codes "implementation")) t ts _ _ r i refl (skip (fixed (codes "function")) (fixed (codes "implementation")) t ts _ _ r i refl (skip (fixed (codes "const")) (fixed (codes "implementation")) t ts _ _ r i refl h)))))

module _ (room n : ℕ) (total : suc n + room ≡ 200) (formula : IsSure [] (s.Formula placed) (formula_with (suc room))) (var_sure : IsSure [] VarAt (var_with (suc room))) (body_sure : IsSure [] (s.Body' placed) (body_with room)) where
  pub decl_sure : IsSure spec_firsts (p.DeclBody' placed) (decl_with room)
  decl_sure = λ ls us vs x y w d h q. found ls us vs x y w d h q
    where
      found : (ls us vs : List Lexeme) (x y : DeclBody) → Narrow ls → p.DeclBody' placed ls us x → decl_with room ls ≡ Ok (y, vs) → sees_any spec_firsts us ≡ false → (us ≡ vs) × (x ≡ y)
      found ls us vs x y w (p.DeclBody'.of_const {t = t} {u = u} {v = v} {ts = ts} {us = before} {vs = end} {ns = ns} {x = z} i a d j k l) h q =
          const_sure room n total formula var_sure body_sure t u v ts before before end us vs None ns z y w.1 a (unseen (listed_part (some id)) (fixed (codes "{")) before (u ∷ end) refl refl (ids_listed placed d)) usual (narrow_suffix (takes_suffix a) w.1) d j k (to_const room t ts (y, vs) i h)
      found ls us vs x y w (p.DeclBody'.of_unique_const {t = t} {u = u} {v = v} {w = o} {ts = ts} {us = named} {vs = end} {ns = ns} {x = z} i a m d j k l) h q =
          const_sure room n total formula var_sure body_sure t u v ts (o ∷ named) named end us vs (Some o.place) ns z y w.1 a (quiet_behind (fixed (codes "unique")) (fixed (codes "{") ∷ []) (o ∷ named) refl m) (unique m) (narrow_suffix (takes_suffix a) w.1).1 d j k (to_const room t ts (y, vs) i h)
      found ls us vs x y w (p.DeclBody'.of_function {t = t} {u = u} {ts = ts} {us = mid} {vs = ins} {ws = out} {xs = val} {ps = ps} {ins = args} {x = z} {b = b} i a j d k o v) h q =
          function_sure room n total formula var_sure body_sure t u ts mid ins out val us vs ps args z b y w.1 a j d k o v (to_function room t ts (y, vs) i h)
      found ls us vs x y w (p.DeclBody'.of_axiom {t = t} {ts = ts} {x = z} i d) h q = last_step [] (s.Formula placed) (formula_with (suc room)) formula _ ts us vs z y w.1 d (none_seen us) (to_axiom room t ts (y, vs) i h)
      found ls us vs x y w (p.DeclBody'.of_var {t = t} {ts = ts} {gs = gs} i a d j) h q = last_step [] VarAt (var_with (suc room)) var_sure _ (t ∷ ts) us vs gs y w (var i a d j) (none_seen us) (to_var room t ts (y, vs) i h)
      found ls us vs x y w (p.DeclBody'.of_type {t = t} {u = u} {v = v} {ts = ts} i a j k) h q = type_decl_sure room n total formula var_sure body_sure t u v ts (v ∷ us) us vs None y w.1 a j opaque k (to_type room t ts (y, vs) i h)
      found ls us vs x y w (p.DeclBody'.of_synonym {t = t} {u = u} {v = v} {w = z} {ts = ts} {us = mid} {x = e} i a j m k l) h q = type_decl_sure room n total formula var_sure body_sure t u z ts (v ∷ mid) us vs (Some e) y w.1 a j (equal m k) l (to_type room t ts (y, vs) i h)
      found ls us vs x y w (p.DeclBody'.of_procedure {t = t} {u = u} {v = v} {ts = ts} {us = mid} {vs = sig} {ws = end} {ps = ps} {s = z} {ss = ss} i a j d k l m) h q =
          procedure_sure room n total formula var_sure body_sure t u ts mid sig (v ∷ end) us vs ps z (ss, None) y w.1 a j d k (quiet_behind (fixed (codes ";")) (fixed (codes "returns") ∷ []) (v ∷ end) refl l) (head l m) q (to_procedure room t ts (y, vs) i h)
      found ls us vs x y w (p.DeclBody'.of_procedure_with_body {t = t} {u = u} {ts = ts} {us = mid} {vs = sig} {ws = end} {ps = ps} {s = z} {ss = ss} {b = b} i a j d k l m) h q =
          procedure_sure room n total formula var_sure body_sure t u ts mid sig end us vs ps z (ss, Some b) y w.1 a j d k (unseen (many (rule spec) ⨟ rule body) (fixed (codes "returns")) end us refl refl (both (agree.specs_run placed l) (statements.takes_body placed m))) (full l m) q
          (to_procedure room t ts (y, vs) i h)
      found ls us vs x y w (p.DeclBody'.of_implementation {t = t} {u = u} {ts = ts} {us = mid} {vs = sig} {ws = end} {ps = ps} {s = z} {b = b} i a j d k l) h q =
          implementation_sure room n total formula var_sure body_sure t u ts mid sig end us vs ps z b y w.1 a j d k l (to_implementation room t ts (y, vs) i h)
