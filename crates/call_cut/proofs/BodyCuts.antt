-- Statements and variables piece by piece are those of the list.
use Rattle.std.specs.Prelude.{◌≡◌, refl, ℕ, suc, ◌+◌, ◌<◌, List, [], ◌∷◌, ◌++◌, length, drop, get_or}
use Rattle.std.proofs.Common.{arith, ap, sym, ◌∙◌, append_assoc}
use Rattle.std.proofs.lemmas.List.{length-append}
use Rattle.std.proofs.Math.Seq.{drop-cons}
use Rattle.bpl_model.specs.Module.{Stmt, Stmts, no_stmts, stmt, Local, Module}
use Rattle.bpl_model.specs.StmtView.{stmts_of}
use Rattle.bpl_model.specs.Cut.{append, cut_stmt, cut_list}

pub append_none : (a : Stmts) → append a no_stmts ≡ a
append_none no_stmts = refl
append_none (stmt s a) = λ i. stmt s (append_none a i)

append_over : (a b c : Stmts) → append (append a b) c ≡ append a (append b c)
append_over no_stmts b c = refl
append_over (stmt s a) b c = λ i. stmt s (append_over a b c i)

stmts_append : (xs ys : List Stmt) → stmts_of (xs ++ ys) ≡ append (stmts_of xs) (stmts_of ys)
stmts_append [] ys = refl
stmts_append (x ∷ xs) ys = λ i. stmt x (stmts_append xs ys i)

pub next_number : (first : ℕ) (own more : List Local) → first + length (own ++ more) ≡ first + length own + length more
next_number first own more = let e = length-append own more in omega (arith, e)

module _ (m : Module) (first : ℕ) (own : List Local) (s : Stmt) (ss : Stmts) where
  pub stmts_step : (xs ys : List Stmt) (more : List Local) → stmts_of ys ≡ (cut_stmt m (first + length own) s).0 → more ≡ (cut_stmt m (first + length own) s).1
      → append (stmts_of (xs ++ ys)) (cut_list m (first + length (own ++ more)) ss).0 ≡ append (stmts_of xs) (cut_list m (first + length own) (stmt s ss)).0
  stmts_step xs ys more e f =
      let r = cut_stmt m (first + length own) s in
      let k : first + length (own ++ more) ≡ first + length own + length r.1 = next_number first own more ∙ ap (λ (ls : List Local). first + length own + length ls) f in
      let q = cut_list m (first + length own + length r.1) ss in
      (λ i. append (stmts_of (xs ++ ys)) (cut_list m (k i) ss).0)
      ∙ (ap (λ t. append t q.0) (stmts_append xs ys ∙ ap (append (stmts_of xs)) e) ∙ append_over (stmts_of xs) r.0 q.0)

  pub own_step : (more : List Local) → more ≡ (cut_stmt m (first + length own) s).1
      → (own ++ more) ++ (cut_list m (first + length (own ++ more)) ss).1 ≡ own ++ (cut_list m (first + length own) (stmt s ss)).1
  own_step more f =
      let r = cut_stmt m (first + length own) s in
      let k : first + length (own ++ more) ≡ first + length own + length r.1 = next_number first own more ∙ ap (λ (ls : List Local). first + length own + length ls) f in
      (λ i. (own ++ f i) ++ (cut_list m (k i) ss).1) ∙ append_assoc own r.1 (cut_list m (first + length own + length r.1) ss).1

-- the statement that is next, and those after it
pub next_is : (ss : List Stmt) (k : ℕ) (s : Stmt) → k < length ss → s ≡ get_or ss k s → drop k ss ≡ s ∷ drop (k + 1) ss
next_is ss k s h e = let f : suc k ≡ k + 1 = omega arith in drop-cons ss k s h ∙ (λ i. sym e i ∷ drop (f i) ss)
