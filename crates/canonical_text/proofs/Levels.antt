-- Reading at each level, and from one level down to another.
use Rattle.std.specs.Prelude.{◌≡◌, ℕ, ◌<◌, ◌≤◌, Bool, true, false, not, ◌&&◌, ◌||◌, codes, List, IsTrue, Ok, None}
use Rattle.std.proofs.Common.{refl, arith}
use Rattle.bpl_grammar.proofs.Booleans.{no_not, and_parts as both_true, neither as either_no}
use Rattle.bpl_ast.specs.Tree.{Expr}
use Rattle.canonical_text.specs.declared.level.Level.{Level}
use Rattle.canonical_text.specs.declared.level.Level.TheVariants.{Equivalence, Implication, Junction, Comparison, Sum, Product, Unary, Postfix, Atom}
use Rattle.canonical_text.specs.Level.{rank}
use Rattle.canonical_text.specs.declared.sign.Sign.TheVariants.{IffSign, ImpliesSign, AndSign, OrSign, RelationSign, TermSign, FactorSign, IndexSign}
use Rattle.bpl_grammar.specs.Lexeme.{Lexeme}
use Rattle.bpl_grammar.specs.Terminal.{fixed, sees}
use Rattle.bpl_grammar.specs.Reading.{Read}
use Rattle.bpl_grammar.specs.ReadExpressions.{relation_at, read_inner, e_with, imp_with, log_with, rel_with, rels_with, sum_with, terms_with, prod_with, factors_with, un_with, post_with, indices_with, atom_with}
use Rattle.bpl_grammar.proofs.Loops.{many_stops}
use Rattle.canonical_text.specs.Same.{bare}
use Rattle.canonical_text.specs.Ahead.{sees_text, sees_sign}
use Rattle.canonical_text.proofs.Ranks.{above, rises, step_down}

-- the reader of a production, where there is room for so many nestings
abbrev pub reader_at : Level → ℕ → List Lexeme → Read Expr
reader_at Equivalence room ls = e_with room (read_inner room) ls
reader_at Implication room ls = imp_with room (read_inner room) ls
reader_at Junction room ls = log_with room (read_inner room) ls
reader_at Comparison room ls = rel_with room (read_inner room) ls
reader_at Sum room ls = sum_with room (read_inner room) ls
reader_at Product room ls = prod_with room (read_inner room) ls
reader_at Unary room ls = un_with room (read_inner room) ls
reader_at Postfix room ls = post_with room (read_inner room) ls
reader_at Atom room ls = atom_with room (read_inner room) ls

-- a production of that level doesn't go on with what is next
abbrev pub is_passed : Level → List Lexeme → Bool
is_passed Equivalence us = not (sees_sign IffSign us)
is_passed Implication us = not (sees_sign ImpliesSign us)
is_passed Junction us = not (sees_sign AndSign us) && not (sees_sign OrSign us)
is_passed Comparison us = not (sees_sign RelationSign us)
is_passed Sum us = not (sees_sign TermSign us)
is_passed Product us = not (sees_sign FactorSign us)
is_passed Unary us = true
is_passed Postfix us = not (sees_sign IndexSign us)
is_passed Atom us = true

abbrev pub is_signed : List Lexeme → Bool
is_signed ls = sees_text "!" ls || sees_text "-" ls

-- what no expression begins with
abbrev pub is_barred : List Lexeme → Bool
is_barred ls = sees_text "forall" ls || sees_text "exists" ls || sees_text ")" ls || sees_text ":" ls || sees_text "*" ls || sees_text "{" ls

-- at a level
pub record ReadsAt (w : Level) (room : ℕ) (ls us : List Lexeme) (x : Expr) : Type 0 where
  pub value : Expr
  pub reads : reader_at w room ls ≡ Ok (value, us)
  pub same : bare value ≡ bare x
  pub unsigned : rank Unary < rank w → is_signed ls ≡ false
  pub unbarred : is_barred ls ≡ false

pub record IsUnbarred (ls : List Lexeme) : Type 0 where
  pub all : sees_text "forall" ls ≡ false
  pub any : sees_text "exists" ls ≡ false
  pub closed : sees_text ")" ls ≡ false
  pub typed : sees_text ":" ls ≡ false
  pub star : sees_text "*" ls ≡ false
  pub brace : sees_text "{" ls ≡ false

pub is_unbarred : (ls : List Lexeme) → is_barred ls ≡ false → IsUnbarred ls
is_unbarred ls h =
    let z = either_no _ (sees_text "{" ls) h in
    let a = either_no _ (sees_text "*" ls) z.0 in
    let b = either_no _ (sees_text ":" ls) a.0 in
    let c = either_no _ (sees_text ")" ls) b.0 in
    let d = either_no (sees_text "forall" ls) (sees_text "exists" ls) c.0 in
    record { all = d.0; any = d.1; closed = c.1; typed = b.1; star = a.1; brace = z.1 }

no_relation : (us : List Lexeme) → sees_sign RelationSign us ≡ false → relation_at us ≡ None
no_relation us h =
    let a = either_no _ (sees_text ">=" us) h in
    let b = either_no _ (sees_text ">" us) a.0 in
    let c = either_no _ (sees_text "<=" us) b.0 in
    let d = either_no _ (sees_text "<" us) c.0 in
    let e = either_no (sees_text "==" us) (sees_text "!=" us) d.0 in
    rw (e.0, e.1, d.1, c.1, b.1, a.1) refl

module _ (room : ℕ) (ls us : List Lexeme) (x : Expr) where
  to_e : sees_text "<==>" us ≡ false → imp_with room (read_inner room) ls ≡ Ok (x, us) → e_with room (read_inner room) ls ≡ Ok (x, us)
  unfolding e_with
  to_e h r = rw (r, many_stops (sees (fixed (codes "<==>"))) _ us h) refl

  to_imp : sees_text "==>" us ≡ false → log_with room (read_inner room) ls ≡ Ok (x, us) → imp_with room (read_inner room) ls ≡ Ok (x, us)
  unfolding imp_with
  to_imp h r = rw (r, many_stops (sees (fixed (codes "==>"))) _ us h) refl

  to_log : sees_text "&&" us ≡ false → sees_text "||" us ≡ false → rel_with room (read_inner room) ls ≡ Ok (x, us) → log_with room (read_inner room) ls ≡ Ok (x, us)
  unfolding log_with rels_with
  to_log h k r = rw (r, h, many_stops (sees (fixed (codes "||"))) _ us k) refl

  to_rel : sees_sign RelationSign us ≡ false → sum_with room (read_inner room) ls ≡ Ok (x, us) → rel_with room (read_inner room) ls ≡ Ok (x, us)
  unfolding rel_with
  to_rel h r = rw (r, no_relation us h) refl

  to_sum : sees_sign TermSign us ≡ false → prod_with room (read_inner room) ls ≡ Ok (x, us) → sum_with room (read_inner room) ls ≡ Ok (x, us)
  unfolding sum_with terms_with
  to_sum h r = rw (r, many_stops (λ vs. sees (fixed (codes "+")) vs || sees (fixed (codes "-")) vs) _ us h) refl

  to_prod : sees_text "*" us ≡ false → un_with room (read_inner room) ls ≡ Ok (x, us) → prod_with room (read_inner room) ls ≡ Ok (x, us)
  unfolding prod_with factors_with
  to_prod h r = rw (r, many_stops (sees (fixed (codes "*"))) _ us h) refl

  to_un : is_signed ls ≡ false → post_with room (read_inner room) ls ≡ Ok (x, us) → un_with room (read_inner room) ls ≡ Ok (x, us)
  unfolding un_with
  to_un h r =
      let p = either_no (sees_text "!" ls) (sees_text "-" ls) h in
      rw (p.0, p.1) r

  to_post : sees_text "[" us ≡ false → atom_with room (read_inner room) ls ≡ Ok (x, us) → post_with room (read_inner room) ls ≡ Ok (x, us)
  unfolding post_with indices_with
  to_post h r = rw (r, many_stops (sees (fixed (codes "["))) _ us h) refl

  -- one level down
  pub down : (w : Level) → IsTrue (is_passed w us) → (rank Unary < rank (above w) → is_signed ls ≡ false) → reader_at (above w) room ls ≡ Ok (x, us) → reader_at w room ls ≡ Ok (x, us)
  down Equivalence h s r = to_e (no_not _ h) r
  down Implication h s r = to_imp (no_not _ h) r
  down Junction h s r =
      let p = both_true (not (sees_text "&&" us)) (not (sees_text "||" us)) h in
      to_log (no_not _ p.0) (no_not _ p.1) r
  down Comparison h s r = to_rel (no_not _ h) r
  down Sum h s r = to_sum (no_not _ h) r
  down Product h s r = to_prod (no_not _ h) r
  down Unary h s r = to_un (s (omega arith)) r
  down Postfix h s r = to_post (no_not _ h) r
  down Atom h s r = r

-- and as far as nothing goes on
pub lower : (w l : Level) (room : ℕ) (ls us : List Lexeme) (x : Expr) → rank w ≤ rank l → ((k : Level) → rank w ≤ rank k → rank k < rank l → IsTrue (is_passed k us)) → ReadsAt l room ls us x → ReadsAt w room ls us x
lower w l room ls us x h p r = step_down (λ k. ReadsAt k room ls us x) w l h (λ k a b q. record {
  value = q.value;
  reads = down room ls us q.value k (p k a b) q.unsigned q.reads;
  same = q.same;
  unsigned = λ c. q.unsigned (omega (arith, c, rises k));
  unbarred = q.unbarred;
}) r
