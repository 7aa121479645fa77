-- Signatures and contracts that are read are the trees that the lexemes spell.
use Rattle.std.specs.Prelude.{◌≡◌, ℕ, suc, ◌+◌, Bool, true, false, ◌||◌, List, [], ◌∷◌, drop, codes, Ok}
use Rattle.std.proofs.Common.{arith}
use Rattle.bpl_lex.specs.Token.{id}
use Rattle.bpl_ast.specs.Place.{Name}
use Rattle.bpl_ast.specs.Tree.{Expr, Groups, no_groups}
use Rattle.bpl_ast.specs.Statement.{Spec, requires, ensures, modifies, Signature}
use Rattle.bpl_grammar.specs.Lexeme.{Lexeme}
use Rattle.bpl_grammar.specs.Terminal.{kind, fixed, sees}
use Rattle.bpl_grammar.specs.Reading.{place_of, read_fixed}
use Rattle.bpl_grammar.specs.ReadExpressions.{Together, groups_from}
use Rattle.bpl_grammar.specs.ReadStatements.{formula_with}
use Rattle.bpl_grammar.specs.ReadDeclarations.{read_some_ids, read_modifies, params_with, results_with, sig_with, clause_with, spec_with, specs_with}
use Rattle.bpl_grammar.specs.Types.{Is, Ids}
use Rattle.bpl_grammar.specs.Statements as s
use Rattle.bpl_grammar.specs.Programs as p
use Rattle.bpl_grammar.proofs.Found.{same_found, followed_ok, read_as_ok, token_ok, seen_ok}
use Rattle.bpl_grammar.proofs.TypeTrees.{placed, ids_ok}
use Rattle.bpl_grammar.proofs.Items.{by_cond, Items, none, next, items_ok}
use Rattle.bpl_grammar.proofs.StatementTrees.{closed_ok, formula_ok}
use Rattle.bpl_grammar.proofs.DeclarationTrees.{params_ok}

-- "modifies" [Ids] ";"

data SomeIds : List Lexeme → List Lexeme → List Name → Type 0 where
  no_ids : {ls : List Lexeme} → SomeIds ls ls []
  some_ids : {ls us : List Lexeme} {ns : List Name} → Ids placed ls us ns → SomeIds ls us ns

some_ids_ok : (ls us : List Lexeme) (ns : List Name) → read_some_ids ls ≡ Ok (ns, us) → SomeIds ls us ns
unfolding read_some_ids
some_ids_ok ls us ns h = by_cond (sees (kind id) ls) _ _ (ns, us) h (λ i q. some_ids (ids_ok ls us ns q))
    (λ i q. let e = same_found [] ns ls us q in
    rw (← e.0, ← e.1) no_ids)

shown_modifies : (t u : Lexeme) (ls mid rest us : List Lexeme) (ns : List Name) → Is "modifies" t → ls ≡ t ∷ mid → SomeIds mid rest ns → Is ";" u → rest ≡ u ∷ us → p.Spec' placed ls us (modifies (place_of ls) ns)
shown_modifies t u ls mid rest us ns i e no_ids j f = rw (e, f) (p.Spec'.of_modifies_none i j)
shown_modifies t u ls mid rest us ns i e (some_ids d) j f =
    let d' = rw f at d in
    rw e (p.Spec'.of_modifies i d' j)

modifies_ok : (ls us : List Lexeme) (x : Spec) → read_modifies ls ≡ Ok (x, us) → p.Spec' placed ls us x
unfolding read_modifies
modifies_ok ls us x h =
    let f = followed_ok (read_fixed (codes "modifies") ls) _ (x, us) h in
    let o = token_ok (fixed (codes "modifies")) ls f.rest f.reads in
    let g = followed_ok (read_some_ids f.rest) _ (x, us) f.then in
    let c = closed_ok (fixed (codes ";")) (modifies (place_of ls) g.first) g.rest us x g.then in
    rw (← c.same) (shown_modifies o.token c.token ls f.rest g.rest us g.first o.is o.there (some_ids_ok f.rest g.rest g.first g.reads) c.is c.there)

module _ (room n : ℕ) (total : suc n + room ≡ 200) where
  -- Sig = "(" [Groups] ")" ["returns" "(" [Groups] ")"]

  data ResultsAt : List Lexeme → List Lexeme → Groups → Type 0 where
    no_results : {ls : List Lexeme} → ResultsAt ls ls no_groups
    results : {t : Lexeme} {ls us : List Lexeme} {gs : Groups} → Is "returns" t → p.Params' placed ls us gs → ResultsAt (t ∷ ls) us gs

  shown_results : (t : Lexeme) (ls mid us : List Lexeme) (gs : Groups) → Is "returns" t → ls ≡ t ∷ mid → p.Params' placed mid us gs → ResultsAt ls us gs
  shown_results t ls mid us gs i e d = rw e (results i d)

  results_ok : (ls us : List Lexeme) (gs : List Together) → results_with room ls ≡ Ok (gs, us) → ResultsAt ls us (groups_from gs)
  unfolding results_with
  results_ok ls us gs h = by_cond (sees (fixed (codes "returns")) ls) _ _ (gs, us) h
      (λ i q. let o = seen_ok (fixed (codes "returns")) ls i in
      shown_results o.token ls (drop 1 ls) us (groups_from gs) o.is o.there (params_ok room n total (drop 1 ls) us gs q))
      (λ i q. let e = same_found [] gs ls us q in
      rw (← e.0, ← e.1) no_results)

  shown_sig : (ls mid us : List Lexeme) (gs hs : Groups) → p.Params' placed ls mid gs → ResultsAt mid us hs → p.Sig placed ls us (record { ins = gs; outs = hs })
  shown_sig ls mid us gs hs d no_results = p.Sig.ins_alone d
  shown_sig ls mid us gs hs d (results i k) = p.Sig.ins_and_outs d i k

  pub sig_ok : (ls us : List Lexeme) (x : Signature) → sig_with room ls ≡ Ok (x, us) → p.Sig placed ls us x
  unfolding sig_with
  sig_ok ls us x h =
      let f = followed_ok (params_with room ls) _ (x, us) h in
      let r = read_as_ok _ (results_with room f.rest) x us f.then in
      rw (← r.is) (shown_sig ls f.rest us (groups_from f.first) (groups_from r.value) (params_ok room n total ls f.rest f.first f.reads) (results_ok f.rest us r.value r.reads))

  -- Spec = ["free"] ("requires" | "ensures") {Attr} E ";" | "modifies" [Ids] ";"

  shown_requires : (free : Bool) (t : Lexeme) (ls mid us : List Lexeme) (x : Expr) → Is "requires" t → ls ≡ t ∷ mid → s.Formula placed mid us x → p.Clause' placed free ls us (requires (place_of ls) free x)
  shown_requires free t ls mid us x i e d = rw e (p.Clause'.of_requires i d)

  shown_ensures : (free : Bool) (t : Lexeme) (ls mid us : List Lexeme) (x : Expr) → Is "ensures" t → ls ≡ t ∷ mid → s.Formula placed mid us x → p.Clause' placed free ls us (ensures (place_of ls) free x)
  shown_ensures free t ls mid us x i e d = rw e (p.Clause'.of_ensures i d)

  clause_ok : (free : Bool) (ls us : List Lexeme) (x : Spec) → clause_with room free ls ≡ Ok (x, us) → p.Clause' placed free ls us x
  unfolding clause_with
  clause_ok free ls us x h = by_cond (sees (fixed (codes "requires")) ls) _ _ (x, us) h
      (λ i q. let o = seen_ok (fixed (codes "requires")) ls i in
      let r = read_as_ok _ (formula_with (suc room) (drop 1 ls)) x us q in
      rw (← r.is) (shown_requires free o.token ls (drop 1 ls) us r.value o.is o.there (formula_ok (suc room) n (omega (arith, total)) (drop 1 ls) us r.value r.reads)))
      (λ i q. let f = followed_ok (read_fixed (codes "ensures") ls) _ (x, us) q in
      let o = token_ok (fixed (codes "ensures")) ls f.rest f.reads in
      let r = read_as_ok _ (formula_with (suc room) f.rest) x us f.then in
      rw (← r.is) (shown_ensures free o.token ls f.rest us r.value o.is o.there (formula_ok (suc room) n (omega (arith, total)) f.rest us r.value r.reads)))

  shown_free : (t : Lexeme) (ls mid us : List Lexeme) (x : Spec) → Is "free" t → ls ≡ t ∷ mid → p.Clause' placed true mid us x → p.Spec' placed ls us x
  shown_free t ls mid us x i e d = rw e (p.Spec'.free i d)

  spec_ok : (ls us : List Lexeme) (x : Spec) → spec_with room ls ≡ Ok (x, us) → p.Spec' placed ls us x
  unfolding spec_with
  spec_ok ls us x h = by_cond (sees (fixed (codes "modifies")) ls) _ _ (x, us) h (λ i q. modifies_ok ls us x q)
      (λ i h. by_cond (sees (fixed (codes "free")) ls) _ _ (x, us) h
      (λ i q. let o = seen_ok (fixed (codes "free")) ls i in
      shown_free o.token ls (drop 1 ls) us x o.is o.there (clause_ok true (drop 1 ls) us x q))
      (λ i q. p.Spec'.checked (clause_ok false ls us x q)))

  abbrev begins_spec : List Lexeme → Bool
  begins_spec us = sees (fixed (codes "free")) us || (sees (fixed (codes "requires")) us || (sees (fixed (codes "ensures")) us || sees (fixed (codes "modifies")) us))

  specs_from : (ls us : List Lexeme) (xs : List Spec) → Items begins_spec (spec_with room) ls us xs → p.Specs placed ls us xs
  specs_from ls us [] none = p.Specs.none
  specs_from ls us (x ∷ xs) (next {rest = rest} b h r) = p.Specs.more (spec_ok ls rest x h) (specs_from rest us xs r)

  pub specs_ok : (ls us : List Lexeme) (xs : List Spec) → specs_with room ls ≡ Ok (xs, us) → p.Specs placed ls us xs
  unfolding specs_with
  specs_ok ls us xs h = specs_from ls us xs (items_ok begins_spec (spec_with room) ls us xs h)
