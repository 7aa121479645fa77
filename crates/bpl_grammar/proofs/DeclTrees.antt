-- Declarations that are read are the trees that the lexemes spell.
use Rattle.std.specs.Prelude.{◌≡◌, ℕ, suc, ◌+◌, List, ◌∷◌, drop, codes, IsTrue, Ok, Option, Some, None}
use Rattle.std.proofs.Common.{arith}
use Rattle.bv_base.specs.declared.place.Place.{Place}
use Rattle.bpl_ast.specs.Place.{Name, Params, Ty}
use Rattle.bpl_ast.specs.Tree.{Expr, Groups}
use Rattle.bpl_ast.specs.Statement.{Spec, Body, Signature, Argument, DeclBody, constant, function, axiom_of, variables, synonym, procedure, implementation}
use Rattle.bpl_grammar.specs.Lexeme.{Lexeme}
use Rattle.bpl_grammar.specs.Grammar.{attrs}
use Rattle.bpl_grammar.specs.Spelling.{Takes}
use Rattle.bpl_grammar.specs.Terminal.{fixed, sees}
use Rattle.bpl_grammar.specs.Reading.{read_as, place_of, read_fixed, read_name, read_ids}
use Rattle.bpl_grammar.specs.ReadTypes.{read_params, read_type}
use Rattle.bpl_grammar.specs.ReadStatements.{read_attrs, formula_with, var_with, body_with}
use Rattle.bpl_grammar.specs.ReadDeclarations.{read_unique, inputs_with, output_with, value_with, sig_with, specs_with, const_with, function_with, synonym_with, type_decl_with, contract_with, procedure_with, implementation_with, decl_with, read_decl}
use Rattle.bpl_grammar.specs.Types.{Is, IsId, name, Ids, TPar, Type'}
use Rattle.bpl_grammar.specs.Statements as s
use Rattle.bpl_grammar.specs.Programs as p
use Rattle.bpl_grammar.proofs.Found.{same_found, followed_ok, read_as_ok, token_ok, seen_ok, name_ok}
use Rattle.bpl_grammar.proofs.TypeTrees.{placed, ids_ok, params_ok, type_ok}
use Rattle.bpl_grammar.proofs.Items.{by_cond}
use Rattle.bpl_grammar.proofs.StatementTrees.{closed_ok, attrs_tree, formula_ok}
use Rattle.bpl_grammar.proofs.GuardTrees.{VarAt, var, var_ok}
use Rattle.bpl_grammar.proofs.BlockTrees.{body_tree}
use Rattle.bpl_grammar.proofs.DeclarationTrees.{inputs_ok, output_ok, value_ok}
use Rattle.bpl_grammar.proofs.SpecTrees.{sig_ok, specs_ok}

-- ["unique"]

pub data UniqueAt : List Lexeme → List Lexeme → Option Place → Type 0 where
  usual : {ls : List Lexeme} → UniqueAt ls ls None
  unique : {t : Lexeme} {ls : List Lexeme} → Is "unique" t → UniqueAt (t ∷ ls) ls (Some t.place)

shown_unique : (t : Lexeme) (ls us : List Lexeme) → Is "unique" t → ls ≡ t ∷ us → UniqueAt ls us (Some (place_of ls))
shown_unique t ls us i e = rw e (unique i)

unique_ok : (ls us : List Lexeme) (u : Option Place) → read_unique ls ≡ Ok (u, us) → UniqueAt ls us u
unfolding read_unique
unique_ok ls us u h = by_cond (sees (fixed (codes "unique")) ls) _ _ (u, us) h
    (λ i q. let o = seen_ok (fixed (codes "unique")) ls i in
    let e = same_found (Some (place_of ls)) u (drop 1 ls) us q in
    rw (← e.0, ← e.1) (shown_unique o.token ls (drop 1 ls) o.is o.there))
    (λ i q. let e = same_found None u ls us q in
    rw (← e.0, ← e.1) usual)

-- a word, attributes and a name
record Head (w : Lexeme → Type 0) (ls us : List Lexeme) (m : Name) : Type 0 where
  word : Lexeme
  behind : List Lexeme
  id : Lexeme
  is : w word
  there : ls ≡ word ∷ behind
  marked : Takes attrs behind (id ∷ us)
  is_id : IsId id
  same : m ≡ name placed id

shown_head : (w : Lexeme → Type 0) (t u : Lexeme) (ls behind rest us : List Lexeme) (m : Name) → w t → ls ≡ t ∷ behind → Takes attrs behind rest → IsId u → rest ≡ u ∷ us → m ≡ name placed u → Head w ls us m
shown_head w t u ls behind rest us m i e a j f q = record { word = t; behind = behind; id = u; is = i; there = e; marked = rw f at a; is_id = j; same = q }

shown_const : (t u v : Lexeme) (ls mid before named typed end us : List Lexeme) (o : Option Place) (ns : List Name) (x : Ty) → Is "const" t → ls ≡ t ∷ mid → Takes attrs mid before → UniqueAt before named o → Ids placed named typed ns → Is ":" u → typed ≡ u ∷ end
    → Type' placed end (v ∷ us) x → Is ";" v → p.DeclBody' placed ls us (constant o ns x)
shown_const t u v ls mid before named typed end us o ns x i e a usual d j f k c =
    let d' = rw f at d in
    rw e (p.DeclBody'.of_const i a d' j k c)
shown_const t u v ls mid before named typed end us o ns x i e a (unique l) d j f k c =
    let d' = rw f at d in
    rw e (p.DeclBody'.of_unique_const i a l d' j k c)

shown_function : (ls mid ins typed given us : List Lexeme) (m : Name) (ps : Option Params) (xs : List Argument) (x : Ty) (b : Option Expr) → Head (λ t. Is "function" t) ls mid m → TPar placed mid ins ps → p.Inputs placed ins typed xs → p.Output placed typed given x → p.Value placed given us b
    → p.DeclBody' placed ls us (function m ps xs x b)
shown_function ls mid ins typed given us m ps xs x b h d k o v = rw (h.there, h.same) (p.DeclBody'.of_function h.is h.marked h.is_id d k o v)

shown_axiom : (t : Lexeme) (ls mid us : List Lexeme) (x : Expr) → Is "axiom" t → ls ≡ t ∷ mid → s.Formula placed mid us x → p.DeclBody' placed ls us (axiom_of x)
shown_axiom t ls mid us x i e d = rw e (p.DeclBody'.of_axiom i d)

shown_variables : (ls us : List Lexeme) (g : Groups) → VarAt ls us g → p.DeclBody' placed ls us (variables g)
shown_variables ls us g (var i a d j) = p.DeclBody'.of_var i a d j

pub data SynonymAt : List Lexeme → List Lexeme → Option Ty → Type 0 where
  opaque : {ls : List Lexeme} → SynonymAt ls ls None
  equal : {t : Lexeme} {ls us : List Lexeme} {x : Ty} → Is "=" t → Type' placed ls us x → SynonymAt (t ∷ ls) us (Some x)

shown_equal : (t : Lexeme) (ls mid us : List Lexeme) (x : Ty) → Is "=" t → ls ≡ t ∷ mid → Type' placed mid us x → SynonymAt ls us (Some x)
shown_equal t ls mid us x i e d = rw e (equal i d)

shown_type : (v : Lexeme) (ls mid end us : List Lexeme) (m : Name) (x : Option Ty) → Head (λ t. Is "type" t) ls mid m → SynonymAt mid end x → Is ";" v → end ≡ v ∷ us → p.DeclBody' placed ls us (synonym m x)
shown_type v ls mid end us m x h opaque j f =
    let a = rw f at h.marked in
    rw (h.there, h.same) (p.DeclBody'.of_type h.is a h.is_id j)
shown_type v ls mid end us m x h (equal i d) j f =
    let d' = rw f at d in
    rw (h.there, h.same) (p.DeclBody'.of_synonym h.is h.marked h.is_id i d' j)

pub data ContractAt : List Lexeme → List Lexeme → List Spec × Option Body → Type 0 where
  head : {t : Lexeme} {ls us : List Lexeme} {ss : List Spec} → Is ";" t → p.Specs placed ls us ss → ContractAt (t ∷ ls) us (ss, None)
  full : {ls mid us : List Lexeme} {ss : List Spec} {b : Body} → p.Specs placed ls mid ss → s.Body' placed mid us b → ContractAt ls us (ss, Some b)

shown_only_head : (t : Lexeme) (ls mid us : List Lexeme) (ss : List Spec) → Is ";" t → ls ≡ t ∷ mid → p.Specs placed mid us ss → ContractAt ls us (ss, None)
shown_only_head t ls mid us ss i e d = rw e (head i d)

shown_procedure : (ls mid signed end us : List Lexeme) (m : Name) (ps : Option Params) (x : Signature) (c : List Spec × Option Body) → Head (λ t. Is "procedure" t) ls mid m → TPar placed mid signed ps → p.Sig placed signed end x → ContractAt end us c
    → p.DeclBody' placed ls us (procedure m ps x c.0 c.1)
shown_procedure ls mid signed end us m ps x c h d k (head i l) = rw (h.there, h.same) (p.DeclBody'.of_procedure h.is h.marked h.is_id d k i l)
shown_procedure ls mid signed end us m ps x c h d k (full l b) = rw (h.there, h.same) (p.DeclBody'.of_procedure_with_body h.is h.marked h.is_id d k l b)

shown_implementation : (ls mid signed end us : List Lexeme) (m : Name) (ps : Option Params) (x : Signature) (b : Body) → Head (λ t. Is "implementation" t) ls mid m → TPar placed mid signed ps → p.Sig placed signed end x → s.Body' placed end us b
    → p.DeclBody' placed ls us (implementation m ps x b)
shown_implementation ls mid signed end us m ps x b h d k l = rw (h.there, h.same) (p.DeclBody'.of_implementation h.is h.marked h.is_id d k l)

module _ (room n : ℕ) (total : suc n + room ≡ 200) where
  attributes : (ls us : List Lexeme) (x : Unit {0}) → read_attrs (suc room) ls ≡ Ok (x, us) → Takes attrs ls us
  attributes = attrs_tree (suc room) n (omega (arith, total))

  const_ok : (ls us : List Lexeme) (d : DeclBody) → const_with room ls ≡ Ok (d, us) → p.DeclBody' placed ls us d
  unfolding const_with
  const_ok ls us d h =
      let f = followed_ok (read_fixed (codes "const") ls) _ (d, us) h in
      let t = token_ok (fixed (codes "const")) ls f.rest f.reads in
      let a = followed_ok (read_attrs (suc room) f.rest) _ (d, us) f.then in
      let u = followed_ok (read_unique a.rest) _ (d, us) a.then in
      let m = followed_ok (read_ids u.rest) _ (d, us) u.then in
      let g = followed_ok (read_fixed (codes ":") m.rest) _ (d, us) m.then in
      let o = token_ok (fixed (codes ":")) m.rest g.rest g.reads in
      let x = followed_ok (read_type (suc (suc room)) g.rest) _ (d, us) g.then in
      let c = closed_ok (fixed (codes ";")) (constant u.first m.first x.first) x.rest us d x.then in
      let k = rw c.there at (type_ok (suc (suc room)) g.rest x.first x.rest x.reads) in
      rw (← c.same) (shown_const t.token o.token c.token ls f.rest a.rest u.rest m.rest g.rest us u.first m.first x.first t.is t.there (attributes f.rest a.rest a.first a.reads) (unique_ok a.rest u.rest u.first u.reads) (ids_ok u.rest m.rest m.first m.reads) o.is o.there k c.is)

  function_ok : (ls us : List Lexeme) (d : DeclBody) → function_with room ls ≡ Ok (d, us) → p.DeclBody' placed ls us d
  unfolding function_with
  function_ok ls us d h =
      let f = followed_ok (read_fixed (codes "function") ls) _ (d, us) h in
      let t = token_ok (fixed (codes "function")) ls f.rest f.reads in
      let a = followed_ok (read_attrs (suc room) f.rest) _ (d, us) f.then in
      let m = followed_ok (read_name a.rest) _ (d, us) a.then in
      let k = name_ok a.rest m.first m.rest m.reads in
      let q = followed_ok (read_params m.rest) _ (d, us) m.then in
      let i = followed_ok (inputs_with room q.rest) _ (d, us) q.then in
      let o = followed_ok (output_with room i.rest) _ (d, us) i.then in
      let r = read_as_ok _ (value_with room o.rest) d us o.then in
      let x = shown_head (λ t. Is "function" t) t.token k.0.token ls f.rest a.rest m.rest m.first t.is t.there (attributes f.rest a.rest a.first a.reads) k.0.is k.0.there k.1 in
      rw (← r.is) (shown_function ls m.rest q.rest i.rest o.rest us m.first q.first i.first o.first r.value x (params_ok m.rest q.rest q.first q.reads) (inputs_ok room n total q.rest i.rest i.first i.reads) (output_ok room n total i.rest o.rest o.first o.reads) (value_ok room n total o.rest us r.value r.reads))

  axiom_ok : (ls us : List Lexeme) (d : DeclBody) → IsTrue (sees (fixed (codes "axiom")) ls) → read_as (λ x. axiom_of x) (formula_with (suc room) (drop 1 ls)) ≡ Ok (d, us) → p.DeclBody' placed ls us d
  axiom_ok ls us d i h =
      let o = seen_ok (fixed (codes "axiom")) ls i in
      let r = read_as_ok (λ x. axiom_of x) (formula_with (suc room) (drop 1 ls)) d us h in
      rw (← r.is) (shown_axiom o.token ls (drop 1 ls) us r.value o.is o.there (formula_ok (suc room) n (omega (arith, total)) (drop 1 ls) us r.value r.reads))

  variables_ok : (ls us : List Lexeme) (d : DeclBody) → read_as (λ gs. variables gs) (var_with (suc room) ls) ≡ Ok (d, us) → p.DeclBody' placed ls us d
  variables_ok ls us d h =
      let r = read_as_ok (λ gs. variables gs) (var_with (suc room) ls) d us h in
      rw (← r.is) (shown_variables ls us r.value (var_ok (suc room) n (omega (arith, total)) ls us r.value r.reads))

  synonym_ok : (ls us : List Lexeme) (x : Option Ty) → synonym_with room ls ≡ Ok (x, us) → SynonymAt ls us x
  unfolding synonym_with
  synonym_ok ls us x h = by_cond (sees (fixed (codes "=")) ls) _ _ (x, us) h
      (λ i q. let o = seen_ok (fixed (codes "=")) ls i in
      let r = read_as_ok (λ t. Some t) (read_type (suc (suc room)) (drop 1 ls)) x us q in
      rw (← r.is) (shown_equal o.token ls (drop 1 ls) us r.value o.is o.there (type_ok (suc (suc room)) (drop 1 ls) r.value us r.reads)))
      (λ i q. let e = same_found None x ls us q in
      rw (← e.0, ← e.1) opaque)

  type_decl_ok : (ls us : List Lexeme) (d : DeclBody) → type_decl_with room ls ≡ Ok (d, us) → p.DeclBody' placed ls us d
  unfolding type_decl_with
  type_decl_ok ls us d h =
      let f = followed_ok (read_fixed (codes "type") ls) _ (d, us) h in
      let t = token_ok (fixed (codes "type")) ls f.rest f.reads in
      let a = followed_ok (read_attrs (suc room) f.rest) _ (d, us) f.then in
      let m = followed_ok (read_name a.rest) _ (d, us) a.then in
      let k = name_ok a.rest m.first m.rest m.reads in
      let y = followed_ok (synonym_with room m.rest) _ (d, us) m.then in
      let c = closed_ok (fixed (codes ";")) (synonym m.first y.first) y.rest us d y.then in
      let x = shown_head (λ t. Is "type" t) t.token k.0.token ls f.rest a.rest m.rest m.first t.is t.there (attributes f.rest a.rest a.first a.reads) k.0.is k.0.there k.1 in
      rw (← c.same) (shown_type c.token ls m.rest y.rest us m.first y.first x (synonym_ok m.rest y.rest y.first y.reads) c.is c.there)

  contract_ok : (ls us : List Lexeme) (c : List Spec × Option Body) → contract_with room ls ≡ Ok (c, us) → ContractAt ls us c
  unfolding contract_with
  contract_ok ls us c h = by_cond (sees (fixed (codes ";")) ls) _ _ (c, us) h
      (λ i q. let o = seen_ok (fixed (codes ";")) ls i in
      let r = read_as_ok _ (specs_with room (drop 1 ls)) c us q in
      rw (← r.is) (shown_only_head o.token ls (drop 1 ls) us r.value o.is o.there (specs_ok room n total (drop 1 ls) us r.value r.reads)))
      (λ i q. let f = followed_ok (specs_with room ls) _ (c, us) q in
      let r = read_as_ok _ (body_with room f.rest) c us f.then in
      rw (← r.is) (full (specs_ok room n total ls f.rest f.first f.reads) (body_tree room n total f.rest us r.value r.reads)))

  procedure_ok : (ls us : List Lexeme) (d : DeclBody) → procedure_with room ls ≡ Ok (d, us) → p.DeclBody' placed ls us d
  unfolding procedure_with
  procedure_ok ls us d h =
      let f = followed_ok (read_fixed (codes "procedure") ls) _ (d, us) h in
      let t = token_ok (fixed (codes "procedure")) ls f.rest f.reads in
      let a = followed_ok (read_attrs (suc room) f.rest) _ (d, us) f.then in
      let m = followed_ok (read_name a.rest) _ (d, us) a.then in
      let k = name_ok a.rest m.first m.rest m.reads in
      let q = followed_ok (read_params m.rest) _ (d, us) m.then in
      let g = followed_ok (sig_with room q.rest) _ (d, us) q.then in
      let r = read_as_ok _ (contract_with room g.rest) d us g.then in
      let x = shown_head (λ t. Is "procedure" t) t.token k.0.token ls f.rest a.rest m.rest m.first t.is t.there (attributes f.rest a.rest a.first a.reads) k.0.is k.0.there k.1 in
      rw (← r.is) (shown_procedure ls m.rest q.rest g.rest us m.first q.first g.first r.value x (params_ok m.rest q.rest q.first q.reads) (sig_ok room n total q.rest g.rest g.first g.reads) (contract_ok g.rest us r.value r.reads))

  implementation_ok : (ls us : List Lexeme) (d : DeclBody) → implementation_with room ls ≡ Ok (d, us) → p.DeclBody' placed ls us d
  unfolding implementation_with
  implementation_ok ls us d h =
      let f = followed_ok (read_fixed (codes "implementation") ls) _ (d, us) h in
      let t = token_ok (fixed (codes "implementation")) ls f.rest f.reads in
      let a = followed_ok (read_attrs (suc room) f.rest) _ (d, us) f.then in
      let m = followed_ok (read_name a.rest) _ (d, us) a.then in
      let k = name_ok a.rest m.first m.rest m.reads in
      let q = followed_ok (read_params m.rest) _ (d, us) m.then in
      let g = followed_ok (sig_with room q.rest) _ (d, us) q.then in
      let r = read_as_ok _ (body_with room g.rest) d us g.then in
      let x = shown_head (λ t. Is "implementation" t) t.token k.0.token ls f.rest a.rest m.rest m.first t.is t.there (attributes f.rest a.rest a.first a.reads) k.0.is k.0.there k.1 in
      rw (← r.is) (shown_implementation ls m.rest q.rest g.rest us m.first q.first g.first r.value x (params_ok m.rest q.rest q.first q.reads) (sig_ok room n total q.rest g.rest g.first g.reads) (body_tree room n total g.rest us r.value r.reads))

  decl_with_ok : (ls us : List Lexeme) (d : DeclBody) → decl_with room ls ≡ Ok (d, us) → p.DeclBody' placed ls us d
  unfolding decl_with
  decl_with_ok ls us d h = by_cond (sees (fixed (codes "const")) ls) _ _ (d, us) h (λ i q. const_ok ls us d q)
      (λ i h. by_cond (sees (fixed (codes "function")) ls) _ _ (d, us) h (λ i q. function_ok ls us d q)
      (λ i h. by_cond (sees (fixed (codes "axiom")) ls) _ _ (d, us) h (axiom_ok ls us d)
      (λ i h. by_cond (sees (fixed (codes "var")) ls) _ _ (d, us) h (λ i q. variables_ok ls us d q)
      (λ i h. by_cond (sees (fixed (codes "type")) ls) _ _ (d, us) h (λ i q. type_decl_ok ls us d q)
      (λ i h. by_cond (sees (fixed (codes "procedure")) ls) _ _ (d, us) h (λ i q. procedure_ok ls us d q) (λ i q. implementation_ok ls us d q))))))

-- a declaration that is read is the tree of its tokens
pub decl_tree : (ls us : List Lexeme) (d : DeclBody) → read_decl ls ≡ Ok (d, us) → p.DeclBody' placed ls us d
decl_tree ls us d h = decl_with_ok 199 0 (omega arith) ls us d h
