-- Contracts that lexemes spell are those that are read.
use Rattle.std.specs.Prelude.{◌≡◌, ℕ, suc, Bool, true, false, ◌||◌, List, [], ◌∷◌, codes, IsTrue, Ok}
use Rattle.std.proofs.Common.{refl, inl, ap, sym, ◌∙◌, arith}
use Rattle.bpl_lex.specs.Token.{id}
use Rattle.bpl_ast.specs.Place.{Name}
use Rattle.bpl_ast.specs.Statement.{Spec, modifies}
use Rattle.bpl_grammar.specs.Lexeme.{Lexeme}
use Rattle.bpl_grammar.specs.Part.{Part, ◌⨟◌, ◌∣◌, rule, spec}
use Rattle.bpl_grammar.specs.Grammar.{the}
use Rattle.bpl_grammar.specs.Spelling.{Takes}
use Rattle.bpl_grammar.specs.Judge.{Narrow}
use Rattle.bpl_grammar.specs.Terminal.{kind, fixed, sees, sees_any}
use Rattle.bpl_grammar.specs.Reading.{read_as, read_fixed}
use Rattle.bpl_grammar.specs.ReadStatements.{formula_with}
use Rattle.bpl_grammar.specs.ReadDeclarations.{read_some_ids, read_modifies, clause_with, spec_with, specs_with}
use Rattle.bpl_grammar.specs.Types.{Is, Ids}
use Rattle.bpl_grammar.specs.Statements as s
use Rattle.bpl_grammar.specs.Programs as p
use Rattle.bpl_grammar.proofs.AgreeDeclarations as agree
use Rattle.bpl_grammar.proofs.Behind.{takes_shorter}
use Rattle.bpl_grammar.proofs.First.{takes_begins}
use Rattle.bpl_grammar.proofs.Firsts.{starts_firsts}
use Rattle.bpl_grammar.proofs.Found.{same_found, followed_ok}
use Rattle.bpl_grammar.proofs.TypeTrees.{comma, placed}
use Rattle.bpl_grammar.proofs.Suffixes.{takes_suffix}
use Rattle.bpl_grammar.proofs.Spelled.{chosen, passed, other, unseen_first}
use Rattle.bpl_grammar.proofs.Unique.{Leaves, none_seen, quiet_behind, Rep, ended, further}
use Rattle.bpl_grammar.proofs.TypesUnique.{ids_one}
use Rattle.bpl_grammar.proofs.StatementFates.{formula_part}
use Rattle.bpl_grammar.proofs.DeclarationFates.{spec_firsts}
use Rattle.bpl_grammar.proofs.Turns.{any_four}
use Rattle.bpl_grammar.proofs.Sure.{IsSure, rep_sure}
use Rattle.bpl_grammar.proofs.Steps.{opened, ends_with, last_step}

-- "modifies" [Ids] ";"

ids_first : (ls us : List Lexeme) (ns : List Name) → Ids placed ls us ns → IsTrue (sees (kind id) ls)
ids_first ls us ns (Ids.one i) = i
ids_first ls us ns (Ids.more i c d) = i

some_rest : (t u : Lexeme) (ts us vs : List Lexeme) (ns : List Name) (y : Spec) → Narrow ts → Ids placed ts (u ∷ us) ns → Is ";" u → read_modifies (t ∷ ts) ≡ Ok (y, vs) → (us ≡ vs) × (modifies t.place ns ≡ y)
unfolding read_modifies read_some_ids
some_rest t u ts us vs ns y n d i h =
    let f = followed_ok (read_some_ids ts) _ (y, vs) (opened (fixed (codes "modifies")) t ts _ (y, vs) h) in
    let o = ids_one ts (u ∷ us) f.rest ns f.first n d (chosen (sees (kind id) ts) _ _ (f.first, f.rest) (ids_first ts (u ∷ us) ns d) f.reads) (inl (quiet_behind (fixed (codes ";")) (comma ∷ []) (u ∷ us) refl i)) in
    let e = ends_with (fixed (codes ";")) u us vs (modifies t.place f.first) y (ap (λ r. read_as (λ z. modifies t.place f.first) (read_fixed (codes ";") r)) o.0 ∙ f.then) in
    (e.0, ap (modifies t.place) o.1 ∙ e.1)

no_rest : (t u : Lexeme) (us vs : List Lexeme) (y : Spec) → Is ";" u → read_modifies (t ∷ u ∷ us) ≡ Ok (y, vs) → (us ≡ vs) × (modifies t.place [] ≡ y)
unfolding read_modifies read_some_ids
no_rest t u us vs y i h =
    let f = followed_ok (read_some_ids (u ∷ us)) _ (y, vs) (opened (fixed (codes "modifies")) t (u ∷ us) _ (y, vs) h) in
    let o = same_found [] f.first (u ∷ us) f.rest (passed (sees (kind id) (u ∷ us)) _ _ (f.first, f.rest) (other (fixed (codes ";")) (kind id) u i refl) f.reads) in
    let e = ends_with (fixed (codes ";")) u us vs (modifies t.place f.first) y (ap (λ r. read_as (λ z. modifies t.place f.first) (read_fixed (codes ";") r)) o.1 ∙ f.then) in
    (e.0, ap (modifies t.place) o.0 ∙ e.1)

spec_leaves : Leaves (p.Spec' placed)
spec_leaves = λ ls us x d. takes_suffix (agree.takes_spec placed d)

-- what begins a clause
spec_begun : (ls us : List Lexeme) (x : Spec) → p.Spec' placed ls us x → IsTrue (sees_any spec_firsts ls)
spec_begun ls us x d = begun ls us (agree.takes_spec placed d)
  where
    begun : (ls us : List Lexeme) → Takes (rule spec) ls us → IsTrue (sees_any spec_firsts ls)
    begun [] us e = absurd (omega (arith, takes_shorter (rule spec) [] us refl e))
    begun (t ∷ ts) us e = sym (starts_firsts t (rule spec)) ∙ takes_begins t ts us (rule spec) refl e

abbrev clause_part : Part
clause_part = (the "requires" ∣ the "ensures") ⨟ formula_part

-- where formulas that are spelled are read
module _ (room : ℕ) (formula : IsSure [] (s.Formula placed) (formula_with (suc room))) where
  clause_sure : (free : Bool) → IsSure [] (p.Clause' placed free) (clause_with room free)
  unfolding clause_with
  clause_sure free = λ ls us vs x y n d h q. found ls us vs x y n d h
    where
      found : (ls us vs : List Lexeme) (x y : Spec) → Narrow ls → p.Clause' placed free ls us x → clause_with room free ls ≡ Ok (y, vs) → (us ≡ vs) × (x ≡ y)
      found ls us vs x y n (p.Clause'.of_requires {t = t} {ts = ts} {x = z} i d) h =
          last_step [] (s.Formula placed) (formula_with (suc room)) formula _ ts us vs z y n.1 d (none_seen us) (chosen (sees (fixed (codes "requires")) (t ∷ ts)) _ _ (y, vs) i h)
      found ls us vs x y n (p.Clause'.of_ensures {t = t} {ts = ts} {x = z} i d) h =
          last_step [] (s.Formula placed) (formula_with (suc room)) formula _ ts us vs z y n.1 d (none_seen us)
          (opened (fixed (codes "ensures")) t ts _ (y, vs) (passed (sees (fixed (codes "requires")) (t ∷ ts)) _ _ (y, vs) (other (fixed (codes "ensures")) (fixed (codes "requires")) t i refl) h))

  spec_sure : IsSure [] (p.Spec' placed) (spec_with room)
  unfolding spec_with
  spec_sure = λ ls us vs x y n d h q. found ls us vs x y n d h
    where
      found : (ls us vs : List Lexeme) (x y : Spec) → Narrow ls → p.Spec' placed ls us x → spec_with room ls ≡ Ok (y, vs) → (us ≡ vs) × (x ≡ y)
      found ls us vs x y n (p.Spec'.checked d) h =
          clause_sure false ls us vs x y n d (passed (sees (fixed (codes "free")) ls) _ _ (y, vs) (unseen_first clause_part (fixed (codes "free")) ls us refl refl (agree.takes_clause placed d))
          (passed (sees (fixed (codes "modifies")) ls) _ _ (y, vs) (unseen_first clause_part (fixed (codes "modifies")) ls us refl refl (agree.takes_clause placed d)) h)) (none_seen us)
      found ls us vs x y n (p.Spec'.free {t = t} {ts = ts} i d) h =
          clause_sure true ts us vs x y n.1 d (chosen (sees (fixed (codes "free")) (t ∷ ts)) _ _ (y, vs) i (passed (sees (fixed (codes "modifies")) (t ∷ ts)) _ _ (y, vs) (other (fixed (codes "free")) (fixed (codes "modifies")) t i refl) h)) (none_seen us)
      found ls us vs x y n (p.Spec'.of_modifies {t = t} {u = u} {ts = ts} {ns = ns} i d j) h = some_rest t u ts us vs ns y n.1 d j (chosen (sees (fixed (codes "modifies")) (t ∷ ts)) _ _ (y, vs) i h)
      found ls us vs x y n (p.Spec'.of_modifies_none {t = t} {u = u} i j) h = no_rest t u us vs y j (chosen (sees (fixed (codes "modifies")) (t ∷ u ∷ us)) _ _ (y, vs) i h)

  -- {Spec}

  abbrev begins_spec : List Lexeme → Bool
  begins_spec us = sees (fixed (codes "free")) us || (sees (fixed (codes "requires")) us || (sees (fixed (codes "ensures")) us || sees (fixed (codes "modifies")) us))

  begins_any : (ls : List Lexeme) → begins_spec ls ≡ sees_any spec_firsts ls
  begins_any ls = any_four (fixed (codes "free")) (fixed (codes "requires")) (fixed (codes "ensures")) (fixed (codes "modifies")) ls

  specs_rep : {ls us : List Lexeme} {xs : List Spec} → p.Specs placed ls us xs → Rep begins_spec (p.Spec' placed) ls us xs
  specs_rep p.Specs.none = ended
  specs_rep (p.Specs.more {ts = ts} {us = us} {s = x} d r) = further (begins_any ts ∙ spec_begun ts us x d) d (specs_rep r)

  pub specs_sure : IsSure spec_firsts (p.Specs placed) (specs_with room)
  unfolding specs_with
  specs_sure = λ ls us vs x y n d h q. rep_sure begins_spec (spec_with room) (p.Spec' placed) [] spec_sure spec_leaves (λ ws b. none_seen ws) ls us vs x y n (specs_rep d) h (begins_any us ∙ q) (none_seen us)
