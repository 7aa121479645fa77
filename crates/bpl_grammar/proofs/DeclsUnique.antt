-- Declarations that lexemes spell are those that are read.
use Rattle.std.specs.Prelude.{◌≡◌, ℕ, suc, ◌+◌, false, List, [], ◌∷◌, codes, IsTrue, Ok, Option, Some, None}
use Rattle.std.proofs.Common.{refl, arith}
use Rattle.bv_base.specs.declared.place.Place.{Place}
use Rattle.bpl_lex.specs.Token.{id}
use Rattle.bpl_ast.specs.Place.{Name, Params, Ty}
use Rattle.bpl_ast.specs.Statement.{Spec, Body, Signature, Argument, DeclBody, constant, function, synonym, procedure, implementation}
use Rattle.bpl_grammar.specs.Lexeme.{Lexeme}
use Rattle.bpl_grammar.specs.Part.{Part, some, ◌⨟◌, maybe, many, rule, farg, sig, spec, body}
use Rattle.bpl_grammar.specs.Grammar.{round, attrs, listed as listed_part}
use Rattle.bpl_grammar.specs.Spelling.{Takes, of_text, both, by}
use Rattle.bpl_grammar.specs.Derivative.{empties}
use Rattle.bpl_grammar.specs.Judge.{Narrow}
use Rattle.bpl_grammar.specs.Terminal.{Terminal, kind, fixed, is, sees, sees_any, apart_from, firsts}
use Rattle.bpl_grammar.specs.Reading.{Read, followed, read_name, read_ids}
use Rattle.bpl_grammar.specs.ReadTypes.{read_params, read_type}
use Rattle.bpl_grammar.specs.ReadStatements.{read_attrs, formula_with, var_with, body_with}
use Rattle.bpl_grammar.specs.ReadDeclarations.{read_unique, inputs_with, output_with, value_with, sig_with, specs_with, const_with, function_with, synonym_with, type_decl_with, contract_with, procedure_with, implementation_with}
use Rattle.bpl_grammar.specs.Types.{Is, IsId, name, Ids, TPar, Type'}
use Rattle.bpl_grammar.specs.Statements as s
use Rattle.bpl_grammar.specs.Programs as p
use Rattle.bpl_grammar.proofs.Agree.{ids_listed, takes_tpar}
use Rattle.bpl_grammar.proofs.AgreeStatements as statements
use Rattle.bpl_grammar.proofs.AgreeDeclarations as agree
use Rattle.bpl_grammar.proofs.Found.{same_found}
use Rattle.bpl_grammar.proofs.TypeTrees.{comma, placed}
use Rattle.bpl_grammar.proofs.GuardTrees.{VarAt}
use Rattle.bpl_grammar.proofs.DeclTrees.{UniqueAt, usual, unique, SynonymAt, opaque, equal, ContractAt, head, full}
use Rattle.bpl_grammar.proofs.Suffixes.{takes_suffix, narrow_suffix}
use Rattle.bpl_grammar.proofs.Spelled.{chosen, passed, unseen_first}
use Rattle.bpl_grammar.proofs.Unique.{none_seen, quiet_head, quiet_behind}
use Rattle.bpl_grammar.proofs.TypesUnique.{ids_one, params_one}
use Rattle.bpl_grammar.proofs.ExprsUnique.{attrs_one}
use Rattle.bpl_grammar.proofs.DeclarationFates.{spec_firsts}
use Rattle.bpl_grammar.proofs.DeclarationsUnique.{type_sure, inputs_sure, output_sure, value_sure, sig_sure}
use Rattle.bpl_grammar.proofs.SpecsUnique.{specs_sure}
use Rattle.bpl_grammar.proofs.Sure.{IsSure, one_sure}
use Rattle.bpl_grammar.proofs.Steps.{opened, ends_with, named_step, step, last_step}

-- a part that can't begin with a token
pub unseen : (q : Part) (c : Terminal) (ls us : List Lexeme) → empties 12 q ≡ false → IsTrue (apart_from c (firsts q)) → Takes q ls us → sees_any (c ∷ []) ls ≡ false
unseen q c [] us e a d = refl
unseen q c (t ∷ ts) us e a d = rw (unseen_first q c (t ∷ ts) us e a d) refl

unique_sure : IsSure (fixed (codes "unique") ∷ []) UniqueAt read_unique
unfolding read_unique
unique_sure = λ ls us vs x y n d h q. found ls us vs x y d h q
  where
    found : (ls us vs : List Lexeme) (x y : Option Place) → UniqueAt ls us x → read_unique ls ≡ Ok (y, vs) → sees_any (fixed (codes "unique") ∷ []) us ≡ false → (us ≡ vs) × (x ≡ y)
    found ls us vs x y usual h q =
        let e = same_found None y ls vs (passed (sees (fixed (codes "unique")) ls) _ _ (y, vs) (quiet_head (fixed (codes "unique")) [] us q) h) in
        (e.1, e.0)
    found (t ∷ ts) us vs x y (unique i) h q =
        let e = same_found (Some t.place) y ts vs (chosen (sees (fixed (codes "unique")) (t ∷ ts)) _ _ (y, vs) i h) in
        (e.1, e.0)

module _ (room n : ℕ) (total : suc n + room ≡ 200) (formula : IsSure [] (s.Formula placed) (formula_with (suc room))) (var_sure : IsSure [] VarAt (var_with (suc room))) (body_sure : IsSure [] (s.Body' placed) (body_with room)) where
  abbrev Attrs : List Lexeme → List Lexeme → Unit {0} → Type 0
  Attrs ls us x = Takes attrs ls us

  attrs_sure : IsSure (fixed (codes "{") ∷ []) Attrs (read_attrs (suc room))
  attrs_sure = λ ls us vs x y w d h q. (attrs_one (suc room) n (omega (arith, total)) ls us vs y w d h (quiet_head (fixed (codes "{")) [] us q), refl)

  params_sure : IsSure (fixed (codes "<") ∷ []) (TPar placed) read_params
  params_sure = λ ls us vs x y w d h q. params_one ls us vs x y w d h (quiet_head (fixed (codes "<")) [] us q)

  ids_sure : IsSure (comma ∷ []) (Ids placed) read_ids
  ids_sure = one_sure (comma ∷ []) (Ids placed) read_ids ids_one

  -- attributes and a name
  head_step : {B : Type 0} (u : Lexeme) (ts us : List Lexeme) (then : Name → List Lexeme → Read B) (r : B × List Lexeme) → Narrow ts → Takes attrs ts (u ∷ us) → IsId u
      → followed (read_attrs (suc room) ts) (λ z rest. followed (read_name rest) then) ≡ Ok r → then (name placed u) us ≡ Ok r
  head_step u ts us then r w a i h = named_step u us then r
      (step (fixed (codes "{") ∷ []) Attrs (read_attrs (suc room)) attrs_sure ts (u ∷ us) tt (λ z rest. followed (read_name rest) then) r w a (quiet_behind (kind id) (fixed (codes "{") ∷ []) (u ∷ us) refl i) h)

  -- "const" {Attr} ["unique"] Ids ":" Type ";"
  pub const_sure : (t u v : Lexeme) (ts before named end us vs : List Lexeme) (o : Option Place) (ns : List Name) (x : Ty) (y : DeclBody) → Narrow ts → Takes attrs ts before → sees_any (fixed (codes "{") ∷ []) before ≡ false → UniqueAt before named o → Narrow named
      → Ids placed named (u ∷ end) ns → Is ":" u → Type' placed end (v ∷ us) x → const_with room (t ∷ ts) ≡ Ok (y, vs) → (us ≡ vs) × (constant o ns x ≡ y)
  unfolding const_with
  const_sure t u v ts before named end us vs o ns x y w a q l m d i k h =
      let g = step (fixed (codes "{") ∷ []) Attrs (read_attrs (suc room)) attrs_sure ts before tt _ (y, vs) w a q (opened (fixed (codes "const")) t ts _ (y, vs) h) in
      let b = step (fixed (codes "unique") ∷ []) UniqueAt read_unique unique_sure before named o _ (y, vs) (narrow_suffix (takes_suffix a) w) l (unseen (listed_part (some id)) (fixed (codes "unique")) named (u ∷ end) refl refl (ids_listed placed d)) g in
      let c = step (comma ∷ []) (Ids placed) read_ids ids_sure named (u ∷ end) ns _ (y, vs) m d (quiet_behind (fixed (codes ":")) (comma ∷ []) (u ∷ end) refl i) b in
      let e = step [] (Type' placed) (read_type (suc (suc room))) (type_sure (suc (suc room))) end (v ∷ us) x _ (y, vs) (narrow_suffix (takes_suffix (ids_listed placed d)) m).1 k (none_seen (v ∷ us)) (opened (fixed (codes ":")) u end _ (y, vs) c) in
      ends_with (fixed (codes ";")) v us vs (constant o ns x) y e

  -- "function" {Attr} Id [TPar] "(" [FArg {"," FArg}] ")" ("returns" "(" FArg ")" | ":" Type) ("{" E "}" | ";")
  pub function_sure : (t u : Lexeme) (ts us vs ws xs zs after : List Lexeme) (ps : Option Params) (ins : List Argument) (x : Ty) (b : _) (y : DeclBody) → Narrow ts → Takes attrs ts (u ∷ us) → IsId u → TPar placed us vs ps → p.Inputs placed vs ws ins → p.Output placed ws xs x → p.Value placed xs zs b
      → function_with room (t ∷ ts) ≡ Ok (y, after) → (zs ≡ after) × (function (name placed u) ps ins x b ≡ y)
  unfolding function_with
  function_sure t u ts us vs ws xs zs after ps ins x b y w a i d k o v h =
      let w1 = (narrow_suffix (takes_suffix a) w).1 in
      let w2 = narrow_suffix (takes_suffix (takes_tpar placed d)) w1 in
      let w3 = narrow_suffix (takes_suffix (agree.takes_inputs placed k)) w2 in
      let w4 = narrow_suffix (takes_suffix (agree.takes_output placed o)) w3 in
      let g = head_step u ts us _ (y, after) w a i (opened (fixed (codes "function")) t ts _ (y, after) h) in
      let c = step (fixed (codes "<") ∷ []) (TPar placed) read_params params_sure us vs ps _ (y, after) w1 d (unseen (round (maybe (listed_part (rule farg)))) (fixed (codes "<")) vs ws refl refl (agree.takes_inputs placed k)) g in
      let e = step [] (p.Inputs placed) (inputs_with room) (inputs_sure room n total) vs ws ins _ (y, after) w2 k (none_seen ws) c in
      let f = step [] (p.Output placed) (output_with room) (output_sure room n total) ws xs x _ (y, after) w3 o (none_seen xs) e in
      last_step [] (p.Value placed) (value_with room) (value_sure room n total) _ xs zs after b y w4 v (none_seen zs) f

  -- "type" {Attr} Id ["=" Type] ";"
  synonym_sure : IsSure (fixed (codes "=") ∷ []) SynonymAt (synonym_with room)
  unfolding synonym_with
  synonym_sure = λ ls us vs x y w d h q. found ls us vs x y w d h q
    where
      found : (ls us vs : List Lexeme) (x y : Option Ty) → Narrow ls → SynonymAt ls us x → synonym_with room ls ≡ Ok (y, vs) → sees_any (fixed (codes "=") ∷ []) us ≡ false → (us ≡ vs) × (x ≡ y)
      found ls us vs x y w opaque h q =
          let e = same_found None y ls vs (passed (sees (fixed (codes "=")) ls) _ _ (y, vs) (quiet_head (fixed (codes "=")) [] us q) h) in
          (e.1, e.0)
      found (t ∷ ts) us vs x y w (equal {x = z} i d) h q = last_step [] (Type' placed) (read_type (suc (suc room))) (type_sure (suc (suc room))) _ ts us vs z y w.1 d (none_seen us) (chosen (sees (fixed (codes "=")) (t ∷ ts)) _ _ (y, vs) i h)

  pub type_decl_sure : (t u v : Lexeme) (ts us end vs : List Lexeme) (x : Option Ty) (y : DeclBody) → Narrow ts → Takes attrs ts (u ∷ us) → IsId u → SynonymAt us (v ∷ end) x → Is ";" v → type_decl_with room (t ∷ ts) ≡ Ok (y, vs) → (end ≡ vs) × (synonym (name placed u) x ≡ y)
  unfolding type_decl_with
  type_decl_sure t u v ts us end vs x y w a i d j h =
      let g = head_step u ts us _ (y, vs) w a i (opened (fixed (codes "type")) t ts _ (y, vs) h) in
      let e = step (fixed (codes "=") ∷ []) SynonymAt (synonym_with room) synonym_sure us (v ∷ end) x _ (y, vs) (narrow_suffix (takes_suffix a) w).1 d (quiet_behind (fixed (codes ";")) (fixed (codes "=") ∷ []) (v ∷ end) refl j) g in
      ends_with (fixed (codes ";")) v end vs (synonym (name placed u) x) y e

  -- ";" {Spec} | {Spec} Body

  opening_brace : (t : Lexeme) (ts us : List Lexeme) → Takes (rule body) (t ∷ ts) us → IsTrue (is (fixed (codes "{")) t)
  opening_brace t ts us (by (both (of_text i) e)) = i

  body_quiet : (ls us : List Lexeme) → Takes (rule body) ls us → sees_any spec_firsts ls ≡ false
  body_quiet [] us e = refl
  body_quiet (t ∷ ts) us e = quiet_behind (fixed (codes "{")) spec_firsts (t ∷ ts) refl (opening_brace t ts us e)

  abbrev bodied : Part
  bodied = many (rule spec) ⨟ rule body

  contract_sure : IsSure spec_firsts ContractAt (contract_with room)
  unfolding contract_with
  contract_sure = λ ls us vs x y w d h q. found ls us vs x y w d h q
    where
      found : (ls us vs : List Lexeme) (x y : List Spec × Option Body) → Narrow ls → ContractAt ls us x → contract_with room ls ≡ Ok (y, vs) → sees_any spec_firsts us ≡ false → (us ≡ vs) × (x ≡ y)
      found (t ∷ ts) us vs x y w (head {ss = ss} i d) h q = last_step spec_firsts (p.Specs placed) (specs_with room) (specs_sure room formula) _ ts us vs ss y w.1 d q (chosen (sees (fixed (codes ";")) (t ∷ ts)) _ _ (y, vs) i h)
      found ls us vs x y w (full {mid = mid} {ss = ss} {b = b} d k) h q =
          let g = passed (sees (fixed (codes ";")) ls) _ _ (y, vs) (unseen_first bodied (fixed (codes ";")) ls us refl refl (both (agree.specs_run placed d) (statements.takes_body placed k))) h in
          let e = step spec_firsts (p.Specs placed) (specs_with room) (specs_sure room formula) ls mid ss _ (y, vs) w d (body_quiet mid us (statements.takes_body placed k)) g in
          last_step [] (s.Body' placed) (body_with room) body_sure _ mid us vs b y (narrow_suffix (takes_suffix (agree.specs_run placed d)) w) k (none_seen us) e

  -- "procedure" {Attr} Id [TPar] Sig (";" {Spec} | {Spec} Body)
  pub procedure_sure : (t u : Lexeme) (ts us vs end rest after : List Lexeme) (ps : Option Params) (x : Signature) (c : List Spec × Option Body) (y : DeclBody) → Narrow ts → Takes attrs ts (u ∷ us) → IsId u → TPar placed us vs ps → p.Sig placed vs end x → sees_any (fixed (codes "returns") ∷ []) end ≡ false
      → ContractAt end rest c → sees_any spec_firsts rest ≡ false → procedure_with room (t ∷ ts) ≡ Ok (y, after) → (rest ≡ after) × (procedure (name placed u) ps x c.0 c.1 ≡ y)
  unfolding procedure_with
  procedure_sure t u ts us vs end rest after ps x c y w a i d k q l z h =
      let w1 = (narrow_suffix (takes_suffix a) w).1 in
      let w2 = narrow_suffix (takes_suffix (takes_tpar placed d)) w1 in
      let w3 = narrow_suffix (takes_suffix (agree.takes_sig placed k)) w2 in
      let g = head_step u ts us _ (y, after) w a i (opened (fixed (codes "procedure")) t ts _ (y, after) h) in
      let e = step (fixed (codes "<") ∷ []) (TPar placed) read_params params_sure us vs ps _ (y, after) w1 d (unseen (rule sig) (fixed (codes "<")) vs end refl refl (agree.takes_sig placed k)) g in
      let f = step (fixed (codes "returns") ∷ []) (p.Sig placed) (sig_with room) (sig_sure room n total) vs end x _ (y, after) w2 k q e in
      last_step spec_firsts ContractAt (contract_with room) contract_sure _ end rest after c y w3 l z f

  -- "implementation" {Attr} Id [TPar] Sig Body
  pub implementation_sure : (t u : Lexeme) (ts us vs end rest after : List Lexeme) (ps : Option Params) (x : Signature) (b : Body) (y : DeclBody) → Narrow ts → Takes attrs ts (u ∷ us) → IsId u → TPar placed us vs ps → p.Sig placed vs end x → s.Body' placed end rest b
      → implementation_with room (t ∷ ts) ≡ Ok (y, after) → (rest ≡ after) × (implementation (name placed u) ps x b ≡ y)
  unfolding implementation_with
  implementation_sure t u ts us vs end rest after ps x b y w a i d k l h =
      let w1 = (narrow_suffix (takes_suffix a) w).1 in
      let w2 = narrow_suffix (takes_suffix (takes_tpar placed d)) w1 in
      let w3 = narrow_suffix (takes_suffix (agree.takes_sig placed k)) w2 in
      let g = head_step u ts us _ (y, after) w a i (opened (fixed (codes "implementation")) t ts _ (y, after) h) in
      let e = step (fixed (codes "<") ∷ []) (TPar placed) read_params params_sure us vs ps _ (y, after) w1 d (unseen (rule sig) (fixed (codes "<")) vs end refl refl (agree.takes_sig placed k)) g in
      let f = step (fixed (codes "returns") ∷ []) (p.Sig placed) (sig_with room) (sig_sure room n total) vs end x _ (y, after) w2 k (unseen (rule body) (fixed (codes "returns")) end rest refl refl (statements.takes_body placed l)) e in
      last_step [] (s.Body' placed) (body_with room) body_sure _ end rest after b y w3 l (none_seen rest) f
