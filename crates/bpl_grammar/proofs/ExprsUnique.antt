-- Expressions that lexemes spell, where there is room for so many nestings, are those that are read.
use Rattle.std.specs.Prelude.{◌≡◌, ℕ, zero, suc, ◌+◌, false, List, [], ◌∷◌, codes, Ok}
use Rattle.std.proofs.Common.{refl, inr, ap, ◌∙◌, arith}
use Rattle.bv_base.specs.declared.place.Place.{Place}
use Rattle.bpl_ast.specs.Tree.{Expr, Exprs, Groups}
use Rattle.bpl_ast.specs.ExprView.{exprs_of}
use Rattle.bpl_grammar.specs.Lexeme.{Lexeme}
use Rattle.bpl_grammar.specs.Part.{Part, nothing, ◌⨟◌, rule, attr, group, e as expression, imp, log, rel, sum, prod, un, atom}
use Rattle.bpl_grammar.specs.Grammar.{attrs}
use Rattle.bpl_grammar.specs.Spelling.{Takes, no_more, again}
use Rattle.bpl_grammar.specs.Judge.{Narrow, judge}
use Rattle.bpl_grammar.specs.Reads.{sunk}
use Rattle.bpl_grammar.specs.Terminal.{Terminal, fixed, sees}
use Rattle.bpl_grammar.specs.Follows.{After}
use Rattle.bpl_grammar.specs.Reading.{Read, repeated, listed}
use Rattle.bpl_grammar.specs.ReadExpressions.{Inner, whole, operand, enclosed, Together, groups_from, args_with, atom_with, index_with, post_with, un_with, prod_with, sum_with, rel_with, log_with, imp_with, e_with, group_with, groups_with, attr_with, attrs_with, inside_with, read_inner}
use Rattle.bpl_grammar.specs.Law.{fate}
use Rattle.bpl_grammar.specs.Expressions.{IsLongest, E, Es, Args, Atom, Un, Prod, Sum, Rel, Log, Imp, Post, Groups'}
use Rattle.bpl_grammar.proofs.Agree.{takes_e, takes_imp, takes_log, takes_rel, takes_sum, takes_prod, takes_un, takes_atom, group_one as takes_group}
use Rattle.bpl_grammar.proofs.Loops.{Shrinks}
use Rattle.bpl_grammar.proofs.Found.{read_as_ok}
use Rattle.bpl_grammar.proofs.Tails.{bars_nothing}
use Rattle.bpl_grammar.proofs.TypeTrees.{comma, placed}
use Rattle.bpl_grammar.proofs.Longest.{longest_there}
use Rattle.bpl_grammar.proofs.ExprLaws.{part_of, whole_fate, atom_law, un_law, prod_law, sum_law, rel_law, log_law, imp_law, group_law, attr_law, inward}
use Rattle.bpl_grammar.proofs.ExprShrinks.{inner_shrinks}
use Rattle.bpl_grammar.proofs.ExprTrees.{after_nothing, Spelled, whole_tree, longest_whole, attribute_takes}
use Rattle.bpl_grammar.proofs.Items.{Items, none, next, items_ok}
use Rattle.bpl_grammar.proofs.AtomTrees.{Enclosed}
use Rattle.bpl_grammar.proofs.TermParts.{post_goers, e_goers}
use Rattle.bpl_grammar.proofs.TermsUnique as terms
use Rattle.bpl_grammar.proofs.AtomParts.{IndexAt, e_leaves, es_parts}
use Rattle.bpl_grammar.proofs.AtomsUnique as atoms
use Rattle.bpl_grammar.proofs.MarksUnique.{GroupAt, spelled_group, group_goers, attr_shape}
use Rattle.bpl_grammar.proofs.MarksUnique as marks
use Rattle.bpl_grammar.proofs.SameRest.{same_rest}
use Rattle.bpl_grammar.proofs.Suffixes.{same_suffix, takes_suffix, narrow_suffix}
use Rattle.bpl_grammar.proofs.Unique.{Goes, IsOne, IsFar, repeated_ends, run_one}

-- where a part is read exactly, no more is spelled than is read
pub exactly_far : {A : Type 0} (n : ℕ) (p : Part) (P : List Lexeme → List Lexeme → A → Type 0) (read : List Lexeme → Read A) → ((ls us : List Lexeme) (x : A) → P ls us x → Takes p ls us) → ((ls : List Lexeme) → judge (sunk n p ⨟ nothing) ls ≡ fate nothing (read ls)) → IsFar P read
exactly_far n p P read takes law = λ ls us vs x y narrow d h. longest_there n p ls vs us (law ls ∙ ap (fate nothing) h) (takes ls us x d)

-- an attribute that is taken is read
pub attribute_one : (room n : ℕ) → n + room ≡ 200 → (ls us vs : List Lexeme) (x : Unit {0}) → Narrow ls → Takes (rule attr) ls us → attr_with room (read_inner room) ls ≡ Ok (x, vs) → us ≡ vs
attribute_one room n total ls us vs x w d h =
    let t = attribute_takes room (suc n) (omega (arith, total)) ls vs x h in
    same_rest n (rule attr) (rule attr) (attr_with room (read_inner room)) ls us vs x (λ k. attr_law room n total k ls) d h t (narrow_suffix (takes_suffix t) w)

-- an expression with the longest front, as after `else`
longest_same : (room n : ℕ) → n + room ≡ 201 → IsOne e_goers (E placed) (read_inner room whole) → (ls us vs : List Lexeme) (x y : Expr) → Narrow ls → E placed ls us x → IsLongest ls us → read_inner room whole ls ≡ Ok (y, vs) → (us ≡ vs) × (x ≡ y)
longest_same room n total one ls us vs x y w d l h =
    let t = takes_e placed (whole_tree room n total ls y vs h) in
    let e = same_suffix (takes_suffix (takes_e placed d)) (takes_suffix t) (omega (arith, l vs t, longest_whole room n total ls y vs h us (takes_e placed d))) in
    one ls us vs x y w d h (inr e)

far_whole : (room n : ℕ) → n + room ≡ 201 → IsFar (E placed) (read_inner room whole)
far_whole room n e = exactly_far n (rule expression) (E placed) (read_inner room whole) (λ ls us x d. takes_e placed d) (whole_fate room n e nothing (after_nothing n))

abbrev pub goers : Inner → List Terminal
goers whole = e_goers
goers operand = post_goers
goers (enclosed p) = e_goers

module _ (room n : ℕ) (total : n + room ≡ 200) (one : (g : Inner) → IsOne (goers g) (Spelled g) (read_inner room g)) where
  s : (g : Inner) → Shrinks (read_inner room g)
  s = inner_shrinks room

  law : (g : Inner) (k : Part) → After (suc n) k → (ls : List Lexeme) → judge (sunk (suc n) (part_of g) ⨟ k) ls ≡ fate k (read_inner room g ls)
  law = inward room n total

  whole_far : IsFar (E placed) (read_inner room whole)
  whole_far = far_whole room (suc n) (omega (arith, total))

  longest_one : (ls us vs : List Lexeme) (x y : Expr) → Narrow ls → E placed ls us x → IsLongest ls us → read_inner room whole ls ≡ Ok (y, vs) → (us ≡ vs) × (x ≡ y)
  longest_one = longest_same room (suc n) (omega (arith, total)) (one whole)

  atom_far : IsFar (Atom placed) (atom_with room (read_inner room))
  atom_far = exactly_far n (rule atom) (Atom placed) (atom_with room (read_inner room)) (λ ls us x d. takes_atom placed d) (atom_law n room total law nothing (after_nothing n))

  un_far : IsFar (Un placed) (un_with room (read_inner room))
  un_far = exactly_far n (rule un) (Un placed) (un_with room (read_inner room)) (λ ls us x d. takes_un placed d) (un_law n room total law nothing (after_nothing n))

  prod_far : IsFar (Prod placed) (prod_with room (read_inner room))
  prod_far = exactly_far n (rule prod) (Prod placed) (prod_with room (read_inner room)) (λ ls us x d. takes_prod placed d) (prod_law n room total law nothing (after_nothing n))

  sum_far : IsFar (Sum placed) (sum_with room (read_inner room))
  sum_far = exactly_far n (rule sum) (Sum placed) (sum_with room (read_inner room)) (λ ls us x d. takes_sum placed d) (sum_law n room total law nothing (after_nothing n))

  rel_far : IsFar (Rel placed) (rel_with room (read_inner room))
  rel_far = exactly_far n (rule rel) (Rel placed) (rel_with room (read_inner room)) (λ ls us x d. takes_rel placed d) (rel_law n room total law nothing (after_nothing n))

  log_far : IsFar (Log placed) (log_with room (read_inner room))
  log_far = exactly_far n (rule log) (Log placed) (log_with room (read_inner room)) (λ ls us x d. takes_log placed d) (log_law n room total law nothing (after_nothing n))

  imp_far : IsFar (Imp placed) (imp_with room (read_inner room))
  imp_far = exactly_far n (rule imp) (Imp placed) (imp_with room (read_inner room)) (λ ls us x d. takes_imp placed d) (imp_law n room total law nothing (after_nothing n))

  group_far : IsFar GroupAt (group_with room (read_inner room))
  group_far = exactly_far n (rule group) GroupAt (group_with room (read_inner room)) (λ ls us x d. takes_group placed (spelled_group d)) (group_law n room total law nothing (after_nothing n) (bars_nothing (fixed (codes "where") ∷ [])))

  post_one : IsOne post_goers (Post placed) (post_with room (read_inner room))
  post_one = atoms.post_one room (read_inner room) s (one whole) whole_far longest_one (λ p. one (enclosed p)) atom_far

  un_one : IsOne post_goers (Un placed) (un_with room (read_inner room))
  un_one = terms.un_one room (read_inner room) s (one operand) post_one un_far prod_far sum_far rel_far log_far imp_far

  e_one : IsOne e_goers (E placed) (e_with room (read_inner room))
  e_one = terms.e_one room (read_inner room) s (one operand) post_one un_far prod_far sum_far rel_far log_far imp_far

  es_same : (ls us vs : List Lexeme) (e : Exprs) (ys : List Expr) → Narrow ls → Es placed ls us e → listed (read_inner room whole) ls ≡ Ok (ys, vs) → Goes (comma ∷ e_goers) us vs → (us ≡ vs) × (e ≡ exprs_of ys)
  es_same = atoms.es_one room (read_inner room) s (one whole) whole_far longest_one (λ p. one (enclosed p)) atom_far

  pub args_same : (ls us vs : List Lexeme) (e : Exprs) (ys : List Expr) → Narrow ls → Args placed ls us e → args_with room (read_inner room) ls ≡ Ok (ys, vs) → (us ≡ vs) × (e ≡ exprs_of ys)
  args_same = atoms.args_one room (read_inner room) s (one whole) whole_far longest_one (λ p. one (enclosed p)) atom_far

  pub index_same : IsOne [] IndexAt (index_with room (read_inner room))
  index_same = atoms.index_one room (read_inner room) s (one whole) whole_far longest_one (λ p. one (enclosed p)) atom_far

  pub groups_same : (ls us vs : List Lexeme) (gs : Groups) (ts : List Together) → Narrow ls → Groups' placed ls us gs → groups_with room (read_inner room) ls ≡ Ok (ts, vs) → Goes (comma ∷ group_goers) us vs → (us ≡ vs) × (gs ≡ groups_from ts)
  groups_same = marks.groups_one room (read_inner room) s whole_far e_one es_same (attribute_one room n total) group_far

  enclosed_one : (p : Place) → IsOne e_goers (Enclosed p) (inside_with room (read_inner room) p)
  enclosed_one = marks.enclosed_one room (read_inner room) s whole_far e_one es_same (attribute_one room n total) group_far

  more_room : (g : Inner) → IsOne (goers g) (Spelled g) (read_inner (suc room) g)
  more_room whole = e_one
  more_room operand = un_one
  more_room (enclosed p) = enclosed_one p

-- an expression, the operand of a sign, or what stands in parentheses
pub inner_one : (room n : ℕ) → n + room ≡ 201 → (g : Inner) → IsOne (goers g) (Spelled g) (read_inner room g)
inner_one zero n e g = λ ls us vs x y w d h q. absurd (cc (h))
inner_one (suc room) n e g = more_room room n (omega (arith, e)) (inner_one room (suc n) (omega (arith, e))) g

-- what statements and declarations call

pub whole_one : (room n : ℕ) → n + room ≡ 201 → IsOne e_goers (E placed) (read_inner room whole)
whole_one room n e = inner_one room n e whole

-- {Attr}, behind which no brace opens
pub attrs_one : (room n : ℕ) → n + room ≡ 200 → (ls us vs : List Lexeme) (x : Unit {0}) → Narrow ls → Takes attrs ls us → attrs_with room (read_inner room) ls ≡ Ok (x, vs) → sees (fixed (codes "{")) us ≡ false → us ≡ vs
unfolding attrs_with
attrs_one room n total ls us vs x w d h q =
    let r = read_as_ok _ (repeated (sees (fixed (codes "{"))) (attr_with room (read_inner room)) ls) x vs h in
    found ls us vs r.value w d (items_ok (sees (fixed (codes "{"))) (attr_with room (read_inner room)) ls vs r.value r.reads) (repeated_ends (sees (fixed (codes "{"))) (attr_with room (read_inner room)) ls vs r.value r.reads) q
  where
    found : (ls us vs : List Lexeme) (xs : List (Unit {0})) → Narrow ls → Takes attrs ls us → Items (sees (fixed (codes "{"))) (attr_with room (read_inner room)) ls vs xs → sees (fixed (codes "{")) vs ≡ false → sees (fixed (codes "{")) us ≡ false → us ≡ vs
    found ls us vs [] w no_more none e q = refl
    found ls us vs (x ∷ xs) w no_more (next b g i) e q = absurd (cc (b, q))
    found ls us vs [] w (again d r) none e q = absurd (cc ((attr_shape d).0, e))
    found ls us vs (x ∷ xs) w (again {us = mid} d r) (next {rest = rest} b g i) e q =
        let a = attribute_one room n total ls mid rest x w d g in
        let j = rw (← a) at i in
        found mid us vs xs (narrow_suffix (takes_suffix d) w) r j e q

-- expressions with commas between them, behind which neither a comma nor more of the last comes
pub exprs_one : (room n : ℕ) → n + room ≡ 201 → (ls us vs : List Lexeme) (e : Exprs) (ys : List Expr) → Narrow ls → Es placed ls us e → listed (read_inner room whole) ls ≡ Ok (ys, vs) → Goes (comma ∷ e_goers) us vs → (us ≡ vs) × (e ≡ exprs_of ys)
exprs_one room n e = λ ls us vs xs ys w d h q. run_one comma (read_inner room whole) (E placed) e_goers (whole_one room n e) (far_whole room n e) (inner_shrinks room whole) e_leaves refl exprs_of ls us vs xs ys w (es_parts d) h q

module _ (room n : ℕ) (total : n + room ≡ 200) where
  pub args_one : (ls us vs : List Lexeme) (e : Exprs) (ys : List Expr) → Narrow ls → Args placed ls us e → args_with room (read_inner room) ls ≡ Ok (ys, vs) → (us ≡ vs) × (e ≡ exprs_of ys)
  args_one = args_same room n total (inner_one room (suc n) (omega (arith, total)))

  pub index_one : IsOne [] IndexAt (index_with room (read_inner room))
  index_one = index_same room n total (inner_one room (suc n) (omega (arith, total)))

  pub groups_one : (ls us vs : List Lexeme) (gs : Groups) (ts : List Together) → Narrow ls → Groups' placed ls us gs → groups_with room (read_inner room) ls ≡ Ok (ts, vs) → Goes (comma ∷ group_goers) us vs → (us ≡ vs) × (gs ≡ groups_from ts)
  groups_one = groups_same room n total (inner_one room (suc n) (omega (arith, total)))
