-- Procedures, one after another: those with a body, their goals, and what is kept of them.
use Rattle.std.specs.Prelude.{◌≡◌, refl, ℕ, zero, suc, ◌+◌, ◌<◌, ◌≤◌, Bool, true, false, not, cond, List, [], ◌∷◌, ◌++◌, map, length, filter, flat_map, slice_index_or, is_some, Option, Some, None, option_map}
use Rattle.std.specs.List.{AllByRecursion}
use Rattle.std.proofs.Common.{ap, sym, arith, subst, ◌∙◌, drop, get_or, drop-cons, inl, inr}
use Rattle.std.proofs.lemmas.List.{append_assoc, at_drop_more}
use Rattle.bpl_model.specs.Module.{Stmts, Proc, Module}
use Rattle.bpl_model.specs.Reach.{among, decl_at, positions, leads_to, reach_on, own_positions}
use Rattle.bpl_goto.specs.Removed.{body_without, removed, remove_gotos}
use Rattle.bpl_goto.proofs.NoneLeft.{none_left}
use Rattle.rebuild_laws.specs.Resolved.{IsResolved}
use Rattle.vc_build.specs.Depends.{depends}
use Rattle.vc_build.specs.Goals.{goals_with_body, goals_by_passes, goals}
use Rattle.vc_build.specs.Rebuild.{BuiltProc, with_body, built, rebuilt}
use Rattle.vc_rebuild.specs.Kept.{kept_of, having_body, all_goals, is_new, new_in}
use Rattle.vc_rebuild.specs.Inside.{AreBuilt, HaveNoGoto}

-- the first, where it has a body, and then the others
pub having_next : (p : Proc) (ps : List Proc) → having_body (p ∷ ps) ≡ having_body (p ∷ []) ++ having_body ps
having_next p ps = by (is_some p.body)
  where
    by : (b : Bool) → cond b (p ∷ having_body ps) (having_body ps) ≡ cond b (p ∷ []) [] ++ having_body ps
    by true = refl
    by false = refl

-- of one procedure
pub none_having : (p : Proc) → is_some p.body ≡ false → having_body (p ∷ []) ≡ []
none_having p h = ap (λ b. cond b (p ∷ []) []) h

pub one_having : (p : Proc) → is_some p.body ≡ true → having_body (p ∷ []) ≡ p ∷ []
one_having p h = ap (λ b. cond b (p ∷ []) []) h

pub one_counted : (t : Proc → Bool) (p : Proc) → is_some p.body ≡ true → cond (t p) 1 0 ≡ length (filter t (having_body (p ∷ [])))
one_counted t p h = by (t p) ∙ ap (λ qs. length (filter t qs)) (sym (one_having p h))
  where
    by : (b : Bool) → cond b 1 0 ≡ length (cond b (p ∷ []) [])
    by true = refl
    by false = refl

pub one_at_most : (t : Proc → Bool) (p : Proc) → length (filter t (having_body (p ∷ []))) ≤ 1
one_at_most t p = by (is_some p.body)
  where
    at_most : (s : Bool) → length (cond s (p ∷ []) []) ≤ 1
    at_most true = omega arith
    at_most false = omega arith

    by : (b : Bool) → length (filter t (cond b (p ∷ []) [])) ≤ 1
    by true = at_most (t p)
    by false = omega arith

filtered_both : {A : Type 0} (t : A → Bool) (xs ys : List A) → filter t (xs ++ ys) ≡ filter t xs ++ filter t ys
filtered_both t [] ys = refl
filtered_both {A} t (x ∷ xs) ys = by (t x) (filtered_both t xs ys)
  where
    by : (b : Bool) → filter t (xs ++ ys) ≡ filter t xs ++ filter t ys → cond b (x ∷ filter t (xs ++ ys)) (filter t (xs ++ ys)) ≡ cond b (x ∷ filter t xs) (filter t xs) ++ filter t ys
    by true h = ap (λ zs. x ∷ zs) h
    by false h = h

length_both : {A : Type 0} (xs ys : List A) → length (xs ++ ys) ≡ length xs + length ys
length_both [] ys = omega arith
length_both (x ∷ xs) ys = omega (arith, length_both xs ys)

mapped_both : {A B : Type 0} (f : A → B) (xs ys : List A) → map f (xs ++ ys) ≡ map f xs ++ map f ys
mapped_both f [] ys = refl
mapped_both f (x ∷ xs) ys = ap (λ zs. f x ∷ zs) (mapped_both f xs ys)

pub kept_next : (m : Module) (p : Proc) (ps : List Proc) → map (kept_of m) (having_body (p ∷ ps)) ≡ map (kept_of m) (having_body (p ∷ [])) ++ map (kept_of m) (having_body ps)
kept_next m p ps = ap (map (kept_of m)) (having_next p ps) ∙ mapped_both (kept_of m) (having_body (p ∷ [])) (having_body ps)

pub counted_next : (t : Proc → Bool) (p : Proc) (ps : List Proc) → length (filter t (having_body (p ∷ ps))) ≡ length (filter t (having_body (p ∷ []))) + length (filter t (having_body ps))
counted_next t p ps = ap (λ qs. length (filter t qs)) (having_next p ps) ∙ ap length (filtered_both t (having_body (p ∷ [])) (having_body ps)) ∙ length_both (filter t (having_body (p ∷ []))) (filter t (having_body ps))

-- each procedure of a list that has this property has it
pub at_place : (P : Proc → Type 0) (ps : List Proc) (i : ℕ) (p d : Proc) → AllByRecursion P ps → i < length ps → slice_index_or ps i d ≡ p → P p
at_place P [] i p d h lt e = absurd (omega (lt, arith))
at_place P (q ∷ ps) zero p d h lt e = subst P e h.0
at_place P (q ∷ ps) (suc i) p d h lt e = at_place P ps i p d h.1 (omega (lt, arith)) e

-- procedures without a body have no goals
pub goals_having : (m : Module) (ps : List Proc) → all_goals (map (kept_of m) (having_body ps)) ≡ flat_map (goals_by_passes m) ps
goals_having m [] = refl
goals_having m (p ∷ ps) = by p.body refl (goals_having m ps)
  where
    by : (b : Option Stmts) → p.body ≡ b → all_goals (map (kept_of m) (having_body ps)) ≡ flat_map (goals_by_passes m) ps
        → all_goals (map (kept_of m) (cond (is_some p.body) (p ∷ having_body ps) (having_body ps))) ≡ goals_by_passes m p ++ flat_map (goals_by_passes m) ps
    by None e h = ap (λ b. all_goals (map (kept_of m) (cond (is_some b) (p ∷ having_body ps) (having_body ps)))) e ∙ h ∙ ap (λ b. goals_with_body m p b ++ flat_map (goals_by_passes m) ps) (sym e)
    by (Some ss) e h = ap (λ b. all_goals (map (kept_of m) (cond (is_some b) (p ∷ having_body ps) (having_body ps)))) e ∙ ap (λ gs. goals_by_passes m p ++ gs) h

-- with gotos removed the same procedures have a body
pub is_left : (o : Option Stmts) → is_some (option_map body_without o) ≡ is_some o
is_left None = refl
is_left (Some ss) = refl

left_bodies : (ps : List Proc) → having_body (map removed ps) ≡ map removed (having_body ps)
left_bodies [] = refl
left_bodies (p ∷ ps) = ap (λ b. cond b (removed p ∷ having_body (map removed ps)) (having_body (map removed ps))) (is_left p.body) ∙ by (is_some p.body) (left_bodies ps)
  where
    by : (b : Bool) → having_body (map removed ps) ≡ map removed (having_body ps) → cond b (removed p ∷ having_body (map removed ps)) (having_body (map removed ps)) ≡ map removed (cond b (p ∷ having_body ps) (having_body ps))
    by true h = ap (λ qs. removed p ∷ qs) h
    by false h = h

-- names reach what they reached
pub reach_same : (m : Module) (n : ℕ) (reached : List ℕ) → reach_on (remove_gotos m) n reached ≡ reach_on m n reached
reach_same m zero reached = refl
reach_same m (suc n) reached = reach_same m n (filter (leads_to m reached) (positions m))

pub depends_same : (m : Module) (p : Proc) → depends (remove_gotos m) (removed p) ≡ depends m p
depends_same m p =
    let own = own_positions m p in
    ap (λ reached. flat_map (λ d. (decl_at m d).text) own ++ flat_map (λ d. (decl_at m d).contract) (filter (λ d. not (among own d)) reached)) (reach_same m (length m.texts + 1) (flat_map (λ d. (decl_at m d).leads) own))

built_of : (m : Module) (ps : List Proc) → map (kept_of (remove_gotos m)) (map removed ps) ≡ map (λ (p : Proc). record { name = p.name; depends = depends m p; goals = goals m p }) ps
built_of m [] = refl
built_of m (p ∷ ps) = λ i. record { name = p.name; depends = depends_same m p i; goals = goals m p } ∷ built_of m ps i

-- what is kept is what is built
pub kept_built : (m : Module) → map (kept_of (remove_gotos m)) (with_body (remove_gotos m)) ≡ built m
kept_built m = ap (map (kept_of (remove_gotos m))) (left_bodies m.procs) ∙ built_of m (with_body m)

pub are_built : (m : Module) → IsResolved m → AreBuilt (map (kept_of (remove_gotos m)) (with_body (remove_gotos m)))
are_built m resolved = inr (record { typed = m; resolved = resolved; are = kept_built m })

pub none_built : AreBuilt []
none_built = inl refl

-- what is new of these, one after another, and all at once
counted_of : (m : Module) (old : List BuiltProc) (ps : List Proc) → length (filter (λ p. is_new old (kept_of m p)) ps) ≡ length (filter (is_new old) (map (kept_of m) ps))
counted_of m old [] = refl
counted_of m old (p ∷ ps) = by (is_new old (kept_of m p)) (counted_of m old ps)
  where
    by : (b : Bool) → length (filter (λ q. is_new old (kept_of m q)) ps) ≡ length (filter (is_new old) (map (kept_of m) ps))
        → length (cond b (p ∷ filter (λ q. is_new old (kept_of m q)) ps) (filter (λ q. is_new old (kept_of m q)) ps)) ≡ length (cond b (kept_of m p ∷ filter (is_new old) (map (kept_of m) ps)) (filter (is_new old) (map (kept_of m) ps)))
    by true h = ap suc h
    by false h = h

pub kept_rebuilt : (m : Module) (old : List BuiltProc) → new_in old (remove_gotos m) (remove_gotos m).procs ≡ rebuilt old m
kept_rebuilt m old = counted_of (remove_gotos m) old (with_body (remove_gotos m)) ∙ ap (λ bs. length (filter (is_new old) bs)) (kept_built m)

goals_left_of : (m : Module) (ps : List Proc) → flat_map (goals_by_passes (remove_gotos m)) (map removed ps) ≡ flat_map (goals m) ps
goals_left_of m [] = refl
goals_left_of m (p ∷ ps) = ap (λ gs. goals m p ++ gs) (goals_left_of m ps)

pub goals_left : (m : Module) → flat_map (goals_by_passes (remove_gotos m)) (remove_gotos m).procs ≡ flat_map (goals m) m.procs
goals_left m = goals_left_of m m.procs

none_in : (ps : List Proc) → HaveNoGoto (map removed ps)
none_in [] = tt
none_in (p ∷ ps) = (none_left p, none_in ps)

-- without gotos
pub without_gotos : (m : Module) → HaveNoGoto (remove_gotos m).procs
without_gotos m = none_in m.procs

-- the procedure at a place, and then those behind it
pub here : (ps qs : List Proc) (i : ℕ) (p d : Proc) → qs ≡ ps → i < length ps → p ≡ get_or qs i d → drop i ps ≡ p ∷ drop (suc i) ps
here ps qs i p d same below is = drop-cons ps i d below ∙ ap (λ x. x ∷ drop (suc i) ps) (sym (is ∙ ap (λ xs. get_or xs i d) same))

-- one procedure further, those that are kept and a count
pub built_further : (m : Module) (qs : List Proc) (i : ℕ) (p : Proc) (before after all : List BuiltProc) → qs ≡ m.procs → i < length m.procs → p ≡ get_or qs i p
    → before ++ map (kept_of m) (having_body (drop i m.procs)) ≡ all → after ≡ before ++ map (kept_of m) (having_body (p ∷ []))
    → after ++ map (kept_of m) (having_body (drop (i + 1) m.procs)) ≡ all
built_further m qs i p before after all same lt is so_far joined =
    let at : get_or m.procs i p ≡ p = sym (is ∙ ap (λ xs. get_or xs i p) same) in
    let first = map (kept_of m) (having_body (p ∷ [])) in
    let rest = map (kept_of m) (having_body (drop (i + 1) m.procs)) in
    let next : map (kept_of m) (having_body (drop i m.procs)) ≡ first ++ rest =
    at_drop_more (λ ps. map (kept_of m) (having_body ps)) m.procs i p lt
    ∙ ap (λ x. map (kept_of m) (having_body (x ∷ drop (i + 1) m.procs))) at
    ∙ kept_next m p (drop (i + 1) m.procs) in
    ap (λ xs. xs ++ rest) joined ∙ append_assoc before first rest ∙ ap (λ xs. before ++ xs) (sym next) ∙ so_far

pub counted_further : (t : Proc → Bool) (ps qs : List Proc) (i : ℕ) (p : Proc) (before after all : ℕ) → qs ≡ ps → i < length ps → p ≡ get_or qs i p
    → before + length (filter t (having_body (drop i ps))) ≡ all → after ≡ before + length (filter t (having_body (p ∷ [])))
    → after + length (filter t (having_body (drop (i + 1) ps))) ≡ all
counted_further t ps qs i p before after all same lt is so_far joined =
    let at : get_or ps i p ≡ p = sym (is ∙ ap (λ xs. get_or xs i p) same) in
    let next : length (filter t (having_body (drop i ps))) ≡ length (filter t (having_body (p ∷ []))) + length (filter t (having_body (drop (i + 1) ps))) =
    at_drop_more (λ xs. length (filter t (having_body xs))) ps i p lt
    ∙ ap (λ x. length (filter t (having_body (x ∷ drop (i + 1) ps)))) at
    ∙ counted_next t p (drop (i + 1) ps) in
    omega (next, joined, so_far, arith)
