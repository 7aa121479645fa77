-- Declarations without bodies are read back, and so tokens tell declarations, with and without bodies.
use Rattle.std.specs.Prelude.{◌≡◌, ℕ, suc, max, ◌≤◌, true, false, cond, codes, List, [], ◌∷◌, ◌++◌, map, drop, Result, Ok, Option, Some, None, option_map}
use Rattle.std.proofs.Common.{refl, ap, sym, ◌∙◌, subst, arith}
use Rattle.bv_base.specs.declared.place.Place.{Place}
use Rattle.bpl_ast.specs.Place.{Name, Params}
use Rattle.bpl_ast.specs.Statement.{Spec, requires, ensures, modifies, Body, Signature, DeclBody, constant, function, axiom_of, variables, synonym, procedure, implementation}
use Rattle.canonical_text.specs.Glyph.{Glyph, plain, word, closing}
use Rattle.canonical_text.specs.Lines.{signature, ended}
use Rattle.bpl_grammar.specs.Lexeme.{Lexeme}
use Rattle.bpl_grammar.specs.Terminal.{fixed, sees}
use Rattle.bpl_grammar.specs.Reading.{Read, followed, read_as, read_name}
use Rattle.bpl_grammar.specs.ReadTypes.{read_params}
use Rattle.bpl_grammar.specs.ReadDeclarations.{sig_with, specs_with, decl_with}
use Rattle.canonical_text.specs.Same.{bare_name}
use Rattle.canonical_text.specs.SameStatement.{bare_spec, bare_body, bare_decl}
use Rattle.canonical_text.specs.WrittenStatement.{AreWrittenSpecs, IsWrittenDecl}
use Rattle.canonical_text.specs.StatementNestings.{specs_depth, decl_depth}
use Rattle.canonical_text.specs.Tokens.{specs_tokens, decl_tokens}
use Rattle.canonical_text.specs.Spelled.{token, Spelled, done, next}
use Rattle.canonical_text.specs.Ahead.{sees_text}
use Rattle.canonical_text.specs.Heads.{head_tokens, no_body, bare_head, HaveBody, whole, apart, AreWrittenBodies}
use Rattle.canonical_text.proofs.Parts.{split}
use Rattle.canonical_text.proofs.TypeReads.{name_read}
use Rattle.canonical_text.proofs.HeadReads.{begins_spec, specs_read}
use Rattle.canonical_text.proofs.DeclarationReads.{head_reads, decl_reads}
use Rattle.canonical_text.proofs.ProgramReads.{decl_begins}

-- a reader of declarations without bodies

-- ";" {Spec}, or {Spec} before a body that is left out
unfoldable head_contract : ℕ → List Lexeme → Read (List Spec × Option Body)
head_contract room ls = cond (sees (fixed (codes ";")) ls) (read_as (λ ss. (ss, None)) (specs_with room (drop 1 ls))) (read_as (λ ss. (ss, Some no_body)) (specs_with room ls))

unfoldable procedure_head : ℕ → List Lexeme → Read DeclBody
procedure_head room ls = followed (read_name (drop 1 ls)) (λ n rest. followed (read_params rest) (λ ps rest. followed (sig_with room rest) (λ s rest. read_as (λ c. procedure n ps s c.0 c.1) (head_contract room rest))))

unfoldable implementation_head : ℕ → List Lexeme → Read DeclBody
implementation_head room ls = followed (read_name (drop 1 ls)) (λ n rest. followed (read_params rest) (λ ps rest. read_as (λ s. implementation n ps s no_body) (sig_with room rest)))

unfoldable head_with : ℕ → List Lexeme → Read DeclBody
head_with room ls = cond (sees (fixed (codes "procedure")) ls) (procedure_head room ls) (cond (sees (fixed (codes "implementation")) ls) (implementation_head room ls) (decl_with room ls))

record HeadShown (room : ℕ) (ls us : List Lexeme) (d : DeclBody) : Type 0 where
  pub value : DeclBody
  pub reads : head_with room ls ≡ Ok (value, us)
  pub same : bare_decl value ≡ bare_head d

-- what stands behind a head goes on with none
record IsBehind (us : List Lexeme) : Type 0 where
  pub specs : begins_spec us ≡ false
  pub results : sees_text "returns" us ≡ false
  pub end : sees_text ";" us ≡ false

-- contracts of procedures

alone : (room : ℕ) (p : Place) (ls us : List Lexeme) (ss : List Spec) → specs_with room ls ≡ Ok (ss, us) → head_contract room (token p (closing ";") ∷ ls) ≡ Ok ((ss, None), us)
unfolding head_contract
alone room p ls us ss h = rw h refl

before_body : (room : ℕ) (ls us : List Lexeme) (ss : List Spec) → sees_text ";" ls ≡ false → specs_with room ls ≡ Ok (ss, us) → head_contract room ls ≡ Ok ((ss, Some no_body), us)
unfolding head_contract
before_body room ls us ss z h = rw (z, h) refl

-- what stands behind a signature is no semicolon, and no results
record IsGoing (ls : List Lexeme) : Type 0 where
  pub end : sees_text ";" ls ≡ false
  pub results : sees_text "returns" ls ≡ false

going : (ss : List Spec) (ls us : List Lexeme) → IsBehind us → Spelled (specs_tokens ss) ls us → IsGoing ls
going [] ls us z done = record { end = z.end; results = z.results }
going (requires at false x ∷ ss) ls us z (next p g) = record { end = refl; results = refl }
going (requires at true x ∷ ss) ls us z (next p g) = record { end = refl; results = refl }
going (ensures at false x ∷ ss) ls us z (next p g) = record { end = refl; results = refl }
going (ensures at true x ∷ ss) ls us z (next p g) = record { end = refl; results = refl }
going (modifies at ns ∷ ss) ls us z (next p g) = record { end = refl; results = refl }

record ContractShown (room : ℕ) (ls us : List Lexeme) (ss : List Spec) (b : Option Body) : Type 0 where
  pub specs : List Spec
  pub reads : head_contract room ls ≡ Ok ((specs, option_map (λ x. no_body) b), us)
  pub same : map bare_spec specs ≡ map bare_spec ss
  pub results : sees_text "returns" ls ≡ false

contract_shown : (ss : List Spec) (b : Option Body) (room : ℕ) (ls us : List Lexeme) → AreWrittenSpecs ss → specs_depth ss ≤ suc room → IsBehind us → Spelled (ended b ++ specs_tokens ss) ls us → ContractShown room ls us ss b
contract_shown ss None room ls us w d z (next {ls = rest} p g) =
    let a = specs_read ss room rest us w d z.specs g in
    record { specs = a.values; reads = alone room p rest us a.values a.reads; same = a.same; results = refl }
contract_shown ss (Some b) room ls us w d z g =
    let a = specs_read ss room ls us w d z.specs g in
    let k = going ss ls us z g in
    record { specs = a.values; reads = before_body room ls us a.values k.end a.reads; same = a.same; results = k.results }

-- heads of procedures and implementations

procedure_shown : (room : ℕ) (p q : Place) (n : Name) (ls ms rest us : List Lexeme) (ps : Option Params) (s : Signature) (ss : List Spec) (b : Option Body) → read_name (token q (plain n.text) ∷ ls) ≡ Ok (record { text = n.text; at = q }, ls) → read_params ls ≡ Ok (ps, ms) → sig_with room ms ≡ Ok (s, rest)
    → head_contract room rest ≡ Ok ((ss, b), us) → head_with room (token p (word "procedure") ∷ token q (plain n.text) ∷ ls) ≡ Ok (procedure (record { text = n.text; at = q }) ps s ss b, us)
unfolding head_with procedure_head
procedure_shown room p q n ls ms rest us ps s ss b h k l m = rw (h, k, l, m) refl

implementation_shown : (room : ℕ) (p q : Place) (n : Name) (ls ms us : List Lexeme) (ps : Option Params) (s : Signature) → read_name (token q (plain n.text) ∷ ls) ≡ Ok (record { text = n.text; at = q }, ls) → read_params ls ≡ Ok (ps, ms) → sig_with room ms ≡ Ok (s, us)
    → head_with room (token p (word "implementation") ∷ token q (plain n.text) ∷ ls) ≡ Ok (implementation (record { text = n.text; at = q }) ps s no_body, us)
unfolding head_with implementation_head
implementation_shown room p q n ls ms us ps s h k l = rw (h, k, l) refl

procedure_head_shown : (n : Name) (ps : Option Params) (s : Signature) (ss : List Spec) (b : Option Body) (room : ℕ) (ls us : List Lexeme) → IsWrittenDecl (procedure n ps s ss b) → decl_depth (procedure n ps s ss b) ≤ suc room → IsBehind us → Spelled (head_tokens (procedure n ps s ss b)) ls us
    → HeadShown room ls us (procedure n ps s ss b)
procedure_head_shown n ps s ss b room ls us w d z (next p (next {ls = rest} q g)) =
    let f = split (signature ps s) (ended b ++ specs_tokens ss) g in
    let c = contract_shown ss b room f.middle us w.3 (omega (arith, d)) z f.second in
    let h = head_reads n ps s.ins s.outs room q rest f.middle w.1 w.2 (omega (arith, d)) c.results f.first in
    record {
      value = procedure (record { text = n.text; at = q }) h.params.value h.signature.value c.specs (option_map (λ x. no_body) b);
      reads = procedure_shown room p q n rest h.middle f.middle us h.params.value h.signature.value c.specs (option_map (λ x. no_body) b) (name_read q n rest w.0) h.params.reads h.signature.reads c.reads;
      same = λ i. procedure (bare_name n) (h.params.same i) (h.signature.same i) (c.same i) (option_map bare_body (option_map (λ x. no_body) b));
    }

implementation_head_shown : (n : Name) (ps : Option Params) (s : Signature) (b : Body) (room : ℕ) (ls us : List Lexeme) → IsWrittenDecl (implementation n ps s b) → decl_depth (implementation n ps s b) ≤ suc room → IsBehind us → Spelled (head_tokens (implementation n ps s b)) ls us
    → HeadShown room ls us (implementation n ps s b)
implementation_head_shown n ps s b room ls us w d z (next p (next {ls = rest} q g)) =
    let h = head_reads n ps s.ins s.outs room q rest us w.1 w.2 (omega (arith, d)) z.results g in
    record {
      value = implementation (record { text = n.text; at = q }) h.params.value h.signature.value no_body;
      reads = implementation_shown room p q n rest h.middle us h.params.value h.signature.value (name_read q n rest w.0) h.params.reads h.signature.reads;
      same = λ i. implementation (bare_name n) (h.params.same i) (h.signature.same i) (bare_body no_body);
    }

-- all heads

other_head : (room : ℕ) (ls : List Lexeme) → sees_text "procedure" ls ≡ false → sees_text "implementation" ls ≡ false → head_with room ls ≡ decl_with room ls
unfolding head_with
other_head room ls h k = rw (h, k) refl

head_shown : (d : DeclBody) (room : ℕ) (ls us : List Lexeme) → IsWrittenDecl d → decl_depth d ≤ suc room → IsBehind us → Spelled (head_tokens d) ls us → HeadShown room ls us d
head_shown (procedure n ps s ss b) room ls us w d z g = procedure_head_shown n ps s ss b room ls us w d z g
head_shown (implementation n ps s b) room ls us w d z g = implementation_head_shown n ps s b room ls us w d z g
head_shown (constant u ns t) room ls us w d z (next p g) =
    let r = decl_reads (constant u ns t) room ls us w d z.specs (next p g) in
    record { value = r.value; reads = other_head room ls refl refl ∙ r.reads; same = r.same }
head_shown (function n ps ins t b) room ls us w d z (next p g) =
    let r = decl_reads (function n ps ins t b) room ls us w d z.specs (next p g) in
    record { value = r.value; reads = other_head room ls refl refl ∙ r.reads; same = r.same }
head_shown (axiom_of x) room ls us w d z (next p g) =
    let r = decl_reads (axiom_of x) room ls us w d z.specs (next p g) in
    record { value = r.value; reads = other_head room ls refl refl ∙ r.reads; same = r.same }
head_shown (variables gs) room ls us w d z (next p g) =
    let r = decl_reads (variables gs) room ls us w d z.specs (next p g) in
    record { value = r.value; reads = other_head room ls refl refl ∙ r.reads; same = r.same }
head_shown (synonym n t) room ls us w d z (next p g) =
    let r = decl_reads (synonym n t) room ls us w d z.specs (next p g) in
    record { value = r.value; reads = other_head room ls refl refl ∙ r.reads; same = r.same }

-- two declarations of the same tokens

record AreTold (f : DeclBody → DeclBody) (d e : DeclBody) (us vs : List Lexeme) : Type 0 where
  pub same : f d ≡ f e
  pub left : us ≡ vs

pub one_result : {A E : Type 0} (r : Result A E) (p q : A) → r ≡ Ok p → r ≡ Ok q → p ≡ q
one_result r p q h k = let e = sym h ∙ k in cc

one_read : {A : Type 0} (r : Read A) (x y : A) (us vs : List Lexeme) → r ≡ Ok (x, us) → r ≡ Ok (y, vs) → (x ≡ y) × (us ≡ vs)
one_read {A} r x y us vs h k =
    let e = one_result r (x, us) (y, vs) h k in
    (ap (λ (p : A × List Lexeme). p.0) e, ap (λ (p : A × List Lexeme). p.1) e)

whole_told_in : (room : ℕ) (d e : DeclBody) (ls us vs : List Lexeme) → IsWrittenDecl d → IsWrittenDecl e → decl_depth d ≤ suc room → decl_depth e ≤ suc room → begins_spec us ≡ false → begins_spec vs ≡ false
    → Spelled (decl_tokens d) ls us → Spelled (decl_tokens e) ls vs → AreTold bare_decl d e us vs
whole_told_in room d e ls us vs w v a b z y f g =
    let r = decl_reads d room ls us w a z f in
    let q = decl_reads e room ls vs v b y g in
    let o = one_read (decl_with room ls) r.value q.value us vs r.reads q.reads in
    record { same = sym r.same ∙ ((λ i. bare_decl (o.0 i)) ∙ q.same); left = o.1 }

whole_told : (d e : DeclBody) (ls us vs : List Lexeme) → IsWrittenDecl d → IsWrittenDecl e → begins_spec us ≡ false → begins_spec vs ≡ false → Spelled (decl_tokens d) ls us → Spelled (decl_tokens e) ls vs → AreTold bare_decl d e us vs
whole_told d e ls us vs w v z y f g = whole_told_in (max (decl_depth d) (decl_depth e)) d e ls us vs w v (omega arith) (omega arith) z y f g

head_told_in : (room : ℕ) (d e : DeclBody) (ls us vs : List Lexeme) → IsWrittenDecl d → IsWrittenDecl e → decl_depth d ≤ suc room → decl_depth e ≤ suc room → IsBehind us → IsBehind vs → Spelled (head_tokens d) ls us → Spelled (head_tokens e) ls vs → AreTold bare_head d e us vs
head_told_in room d e ls us vs w v a b z y f g =
    let r = head_shown d room ls us w a z f in
    let q = head_shown e room ls vs v b y g in
    let o = one_read (head_with room ls) r.value q.value us vs r.reads q.reads in
    record { same = sym r.same ∙ ((λ i. bare_decl (o.0 i)) ∙ q.same); left = o.1 }

head_told : (d e : DeclBody) (ls us vs : List Lexeme) → IsWrittenDecl d → IsWrittenDecl e → IsBehind us → IsBehind vs → Spelled (head_tokens d) ls us → Spelled (head_tokens e) ls vs → AreTold bare_head d e us vs
head_told d e ls us vs w v z y f g = head_told_in (max (decl_depth d) (decl_depth e)) d e ls us vs w v (omega arith) (omega arith) z y f g

-- heads one after another

abbrev pub heads_tokens : List DeclBody → List Glyph
heads_tokens [] = []
heads_tokens (d ∷ ds) = head_tokens d ++ heads_tokens ds

head_behind : (d : DeclBody) (hs : List Glyph) (ls us : List Lexeme) → Spelled (head_tokens d ++ hs) ls us → IsBehind ls
head_behind (constant u ns t) hs ls us (next p g) = record { specs = refl; results = refl; end = refl }
head_behind (function n ps ins t b) hs ls us (next p g) = record { specs = refl; results = refl; end = refl }
head_behind (axiom_of x) hs ls us (next p g) = record { specs = refl; results = refl; end = refl }
head_behind (variables gs) hs ls us (next p g) = record { specs = refl; results = refl; end = refl }
head_behind (synonym n t) hs ls us (next p g) = record { specs = refl; results = refl; end = refl }
head_behind (procedure n ps s ss b) hs ls us (next p g) = record { specs = refl; results = refl; end = refl }
head_behind (implementation n ps s b) hs ls us (next p g) = record { specs = refl; results = refl; end = refl }

heads_behind : (ds : List DeclBody) (ls : List Lexeme) → Spelled (heads_tokens ds) ls [] → IsBehind ls
heads_behind [] ls done = record { specs = refl; results = refl; end = refl }
heads_behind (d ∷ ds) ls g = head_behind d (heads_tokens ds) ls [] g

head_some : (d : DeclBody) (hs : List Glyph) (us : List Lexeme) → Spelled (head_tokens d ++ hs) [] us → ⊥
head_some (constant u ns t) hs us g = elim g [ ]
head_some (function n ps ins t b) hs us g = elim g [ ]
head_some (axiom_of x) hs us g = elim g [ ]
head_some (variables gs) hs us g = elim g [ ]
head_some (synonym n t) hs us g = elim g [ ]
head_some (procedure n ps s ss b) hs us g = elim g [ ]
head_some (implementation n ps s b) hs us g = elim g [ ]

heads_told : (ds es : List DeclBody) (ls : List Lexeme) → AreWrittenBodies ds → AreWrittenBodies es → Spelled (heads_tokens ds) ls [] → Spelled (heads_tokens es) ls [] → map bare_head ds ≡ map bare_head es
heads_told [] [] ls w v f g = refl
heads_told [] (e ∷ es) ls w v done g = absurd (head_some e (heads_tokens es) [] g)
heads_told (d ∷ ds) [] ls w v f done = absurd (head_some d (heads_tokens ds) [] f)
heads_told (d ∷ ds) (e ∷ es) ls w v f g =
    let a = split (head_tokens d) (heads_tokens ds) f in
    let b = split (head_tokens e) (heads_tokens es) g in
    let t = head_told d e ls a.middle b.middle w.0 v.0 (heads_behind ds a.middle a.second) (heads_behind es b.middle b.second) a.first b.first in
    λ i. t.same i ∷ heads_told ds es a.middle w.1 v.1 a.second (subst (λ x. Spelled (heads_tokens es) x []) (sym t.left) b.second) i

-- whole declarations before them

abbrev pub tokens_with : List DeclBody → List DeclBody → List Glyph
tokens_with [] others = heads_tokens others
tokens_with (d ∷ own) others = decl_tokens d ++ tokens_with own others

with_begins : (own others : List DeclBody) (ls : List Lexeme) → Spelled (tokens_with own others) ls [] → begins_spec ls ≡ false
with_begins [] others ls g = (heads_behind others ls g).specs
with_begins (d ∷ own) others ls g = decl_begins d (tokens_with own others) ls [] g

-- the first of them, and what is behind it
record FirstTold (d e : DeclBody) (own mine others theirs : List DeclBody) : Type 0 where
  pub same : bare_decl d ≡ bare_decl e
  pub rest : List Lexeme
  pub here : Spelled (tokens_with own others) rest []
  pub there : Spelled (tokens_with mine theirs) rest []

first_told : (d e : DeclBody) (own mine others theirs : List DeclBody) (ls : List Lexeme) → IsWrittenDecl d → IsWrittenDecl e → Spelled (tokens_with (d ∷ own) others) ls [] → Spelled (tokens_with (e ∷ mine) theirs) ls [] → FirstTold d e own mine others theirs
first_told d e own mine others theirs ls w v f g =
    let a = split (decl_tokens d) (tokens_with own others) f in
    let b = split (decl_tokens e) (tokens_with mine theirs) g in
    let t = whole_told d e ls a.middle b.middle w v (with_begins own others a.middle a.second) (with_begins mine theirs b.middle b.second) a.first b.first in
    record { same = t.same; rest = a.middle; here = a.second; there = subst (λ x. Spelled (tokens_with mine theirs) x []) (sym t.left) b.second }

pub all_told : (own mine others theirs : List DeclBody) (ls : List Lexeme) → HaveBody own → HaveBody mine → AreWrittenBodies own → AreWrittenBodies mine → AreWrittenBodies others → AreWrittenBodies theirs
    → Spelled (tokens_with own others) ls [] → Spelled (tokens_with mine theirs) ls [] → (map bare_decl own ≡ map bare_decl mine) × (map bare_head others ≡ map bare_head theirs)
all_told own mine others theirs ls (whole {n} {ps} {s} {ss} {b}) (whole {n = m} {ps = qs} {s = t} {ss = ts} {b = c}) w v x y f g =
    let r = first_told (procedure n ps s ss (Some b)) (procedure m qs t ts (Some c)) [] [] others theirs ls w.0 v.0 f g in
    ((λ i. r.same i ∷ []), heads_told others theirs r.rest x y r.here r.there)
all_told own mine others theirs ls (apart {n} {m} {ps} {qs} {s} {t} {ss} {b}) (apart {n = k} {m = l} {ps = us} {qs = vs} {s = i} {t = j} {ss = ks} {b = c}) w v x y f g =
    let r = first_told (procedure n ps s ss None) (procedure k us i ks None) (implementation m qs t b ∷ []) (implementation l vs j c ∷ []) others theirs ls w.0 v.0 f g in
    let o = first_told (implementation m qs t b) (implementation l vs j c) [] [] others theirs r.rest w.1.0 v.1.0 r.here r.there in
    ((λ z. r.same z ∷ o.same z ∷ []), heads_told others theirs o.rest x y o.here o.there)
all_told own mine others theirs ls (whole {n} {ps} {s} {ss} {b}) (apart {n = k} {m = l} {ps = us} {qs = vs} {s = i} {t = j} {ss = ks} {b = c}) w v x y f g =
    let r = first_told (procedure n ps s ss (Some b)) (procedure k us i ks None) [] (implementation l vs j c ∷ []) others theirs ls w.0 v.0 f g in
    let e = r.same in absurd (cc)
all_told own mine others theirs ls (apart {n} {m} {ps} {qs} {s} {t} {ss} {b}) (whole {n = k} {ps = us} {s = i} {ss = ks} {b = c}) w v x y f g =
    let r = first_told (procedure n ps s ss None) (procedure k us i ks (Some c)) (implementation m qs t b ∷ []) [] others theirs ls w.0 v.0 f g in
    let e = r.same in absurd (cc)
